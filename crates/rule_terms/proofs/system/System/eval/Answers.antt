use Rattle.std.proofs.Common.{◌≡◌, ◌∙◌, sym, ap, length, slice_get, slice_index, Some}
use Rattle.row_lists.specs.EdgeRow.{row_at}
use Rattle.rule_terms.specs.Inside.{rules_in}
use Rattle.rule_terms.specs.Kept.{Rule, rule_of, IsRule}
use Rattle.rule_terms.specs.Slots.{input_at}
use Rattle.rule_terms.specs.System.{inputs_of, looked_word}
use Rattle.rule_terms.proofs.Keeping.{found_rule}
use Rattle.rule_terms.proofs.Valued.{value-shown, inputs-shown, looked_word-at}
use Rattle.rule_terms.proofs.system.System.eval.Goals as goal
use Rattle.rule_terms.proofs.system.System.eval.Goals.{After-deref}

abbrev rule : After-deref → Rule
rule c = rule_of (row_at c.self.inside.rows c.args.p.0) c.index.result.now.items

found : (c : After-deref) → slice_get (rules_in c.self.inside) c.args.p.0 ≡ Some (rule c)
found c = found_rule c.self.inside c.args.self.now c.args.p.0 c.index.result.now c.self.invariant c.self.view_is c.requires.place c.index.ensures

is_rule : (c : After-deref) → IsRule (length c.self.inside.masks) c.self.inside.pool.slots.items (rule c)
is_rule c = c.self.invariant.rules c.args.p.0 (rule c) (found c)

inputs : (c : After-deref) → (rule c).inputs ≡ inputs_of c.args.self.now c.args.p.0
inputs c = inputs-shown c.self.inside c.args.self.now c.args.p.0 (rule c) c.self.invariant c.self.view_is (found c)

one_word_each : (c : After-deref) → length c.args.looked.now ≡ length (rule c).inputs
one_word_each c = c.requires.looked ∙ ap length (sym (inputs c))

pub meet-requires-clause-readable : goal.meet-requires-clause-readable
meet-requires-clause-readable c k place e =
    let before = (goal.at.meet-requires-clause-readable c).After-deref in
    rw (c.deref.ensures.value, one_word_each before) ((is_rule before).places k place (rw c.as_slice-places.ensures at e))

pub returns : goal.returns
returns c =
    let before = (goal.at.returns c).After-deref in
    (rw (c.as_slice.ensures, c.deref.ensures.value, c.as_slice-places.ensures) at c.meet.ensures)
    ∙ value-shown c.self.inside c.args.self.now c.args.p.0 (rule before) c.self.invariant c.self.view_is (found before)
    (looked_word (inputs_of c.args.self.now c.args.p.0) c.args.looked.now) (λ n. slice_index c.args.looked.now n)
    (λ n l. ap (λ l. looked_word l c.args.looked.now (input_at (rule before).inputs n).0) (sym (inputs before)) ∙
    looked_word-at (rule before).inputs c.args.looked.now (is_rule before).apart.apart (one_word_each before) n l)
