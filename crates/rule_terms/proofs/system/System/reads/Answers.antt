use Rattle.std.proofs.Common.{◌≡◌, ◌∙◌, ◌<◌, arith, ap, sym, subst, length, slice_get, slice_index, Some, get_or}
use Rattle.row_lists.specs.EdgeRow.{row_at}
use Rattle.rule_terms.specs.Kept.{Rule, rule_of, HasReads}
use Rattle.rule_terms.specs.Inside.{rules_in}
use Rattle.rule_terms.specs.System.{inputs_of}
use Rattle.rule_terms.proofs.Keeping.{some_rule, no_places}
use Rattle.rule_terms.proofs.Valued.{inputs-shown}
use Rattle.rule_terms.proofs.ReadsShown.{reads-shown}
use Rattle.rule_terms.proofs.system.System.reads.Goals as goal
use Rattle.rule_terms.proofs.system.System.reads.Goals.{After-bits}

abbrev rule : After-bits → Rule
rule c = rule_of (row_at c.self.inside.rows c.args.p.0) (get_or c.self.inside.places.items c.args.p.0 no_places).items

found : (c : After-bits) → slice_get (rules_in c.self.inside) c.args.p.0 ≡ Some (rule c)
found c = some_rule c.self.inside c.args.self.now c.args.p.0 c.self.invariant c.self.view_is c.requires.place

has : (c : After-bits) → HasReads c.self.inside.pool.slots.items (slice_index c.self.inside.masks c.args.p.0) (rule c)
has c = c.self.invariant.reads c.args.p.0 (rule c) (found c)

pub bounds-bits-i : goal.bounds-bits-i
bounds-bits-i c =
    let before = (goal.at.bounds-bits-i c).After-bits in
    let inputs : length (rule before).inputs ≡ length (inputs_of c.args.self.now c.args.p.0) =
    ap length (inputs-shown c.self.inside c.args.self.now c.args.p.0 (rule before) c.self.invariant c.self.view_is (found before)) in
    let within : c.args.i < length (rule before).reads = omega (arith, (has before).long, c.requires.input) in
    subst (λ l. c.args.i < length l) (sym c.bits.ensures.value) within

pub returns : goal.returns
returns c =
    let before = (goal.at.returns c).After-bits in
    ap (λ l. slice_index l c.args.i) c.bits.ensures.value
    ∙ (has before).bits c.args.i
    ∙ reads-shown c.self.inside c.args.self.now c.args.p.0 (rule before) c.self.invariant c.self.view_is (found before) c.args.i c.requires.input
