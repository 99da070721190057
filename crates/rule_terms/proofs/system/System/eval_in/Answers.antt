use Rattle.std.proofs.Common.{◌≡◌, ◌<◌, ◌∙◌, ap, refl, arith, length, slice_get, slice_index, Some}
use Rattle.row_lists.specs.EdgeRow.{row_at}
use Rattle.rule_terms.specs.Inside.{rules_in}
use Rattle.rule_terms.specs.Kept.{Rule, rule_of, IsRule}
use Rattle.rule_terms.specs.Slots.{input_at}
use Rattle.rule_terms.specs.System.{System}
use Rattle.rule_terms.proofs.Keeping.{found_rule}
use Rattle.rule_terms.proofs.Valued.{value-shown}
use Rattle.rule_terms.proofs.system.System.eval_in.Goals as goal
use Rattle.rule_terms.proofs.system.System.eval_in.Goals.{After-deref}

abbrev rule : After-deref → Rule
rule c = rule_of (row_at c.self.inside.rows c.args.p.0) c.index.result.now.items

found : (c : After-deref) → slice_get (rules_in c.self.inside) c.args.p.0 ≡ Some (rule c)
found c = found_rule c.self.inside c.args.self.now c.args.p.0 c.index.result.now c.self.invariant c.self.view_is c.requires.place c.index.ensures

is_rule : (c : After-deref) → IsRule (length c.self.inside.masks) c.self.inside.pool.slots.items (rule c)
is_rule c = c.self.invariant.rules c.args.p.0 (rule c) (found c)

pub meet-requires-clause-words : goal.meet-requires-clause-words
meet-requires-clause-words c k q e =
    let before = (goal.at.meet-requires-clause-words c).After-deref in
    let within : q.0 < length c.self.inside.masks = (is_rule before).apart.within k q (rw c.positions.ensures at e) in
    let masks : length c.self.inside.masks ≡ length c.args.self.now.masks = ap (λ (s : System). length s.masks) c.self.view_is in
    let words : length c.as_slice-2.result.now ≡ length c.args.words.now = ap length c.as_slice-2.ensures in
    omega (arith, c.requires.words)

pub meet-requires-clause-readable : goal.meet-requires-clause-readable
meet-requires-clause-readable c k place e =
    let before = (goal.at.meet-requires-clause-readable c).After-deref in
    rw (c.deref.ensures.value, c.positions.ensures) ((is_rule before).places k place (rw c.as_slice-places.ensures at e))

pub returns : goal.returns
returns c =
    let before = (goal.at.returns c).After-deref in
    (rw (c.positions.ensures, c.as_slice-2.ensures, c.as_slice.ensures, c.deref.ensures.value, c.as_slice-places.ensures) at c.meet.ensures)
    ∙ value-shown c.self.inside c.args.self.now c.args.p.0 (rule before) c.self.invariant c.self.view_is (found before)
    (λ q. slice_index c.args.words.now q) (λ n. slice_index c.args.words.now (input_at (rule before).inputs n).0) (λ n l. refl)
