use Rattle.std.proofs.Common.{◌≡◌, ◌<◌, ◌≤◌, length, ap, ◌∙◌, arith}
use Rattle.rule_terms.specs.System.{System, inputs_of}
use Rattle.dep_graph.proofs.Naming.{inputs_few}
use Rattle.fix_core.specs.declared.state.CoreSeat.{CoreSeat}
use Rattle.word_rule.specs.Belongs.{core_of, found_by, system_in}
use Rattle.workers.proofs.Seating.{same_then}
use Rattle.workers.proofs.Looking.{stays_open, looks_more}
use Rattle.workers.proofs.turn.look_all.Goals as goal

pub overflow_cast-i : goal.overflow_cast-i
overflow_cast-i c =
    let s = system_in c.args.words.now in
    let width : length c.inputs-inputs.result.now ≡ length (inputs_of s c.args.p.0) = ap length c.inputs-inputs.ensures ∙
    ap (λ (x : System). length (inputs_of x c.args.p.0)) c.system.ensures in
    let few : length (inputs_of s c.args.p.0) ≤ length s.masks = inputs_few s c.requires.system c.args.p.0 in
    omega (arith, few, c.requires.system.fits, c.loop-i-test.true, width)

pub loop-i-preserved : goal.loop-i-preserved
loop-i-preserved c =
    let s = system_in c.args.words.now in
    let old : CoreSeat = core_of c.loop-i.seat in
    let new : CoreSeat = core_of c.look.new.seat in
    let has = c.loop-i.invariant.2 in
    let width : length c.inputs-inputs.result.now ≡ length (inputs_of s c.args.p.0) = ap length c.inputs-inputs.ensures ∙
    ap (λ (x : System). length (inputs_of x c.args.p.0)) c.system.ensures in
    let inside : c.loop-i.i < length (inputs_of s c.args.p.0) = omega (arith, c.loop-i-test.true, width) in (
      omega (arith, c.loop-i-test.true),
      same_then c.args.seat.now c.loop-i.seat c.look.new.seat c.loop-i.invariant.1 c.look.ensures.same,
      stays_open s c.args.p old new c.loop-i.i (found_by c.look.new.seat) has c.look.ensures.looked,
      looks_more s c.args.p old new c.loop-i.i (found_by c.look.new.seat) has inside c.look.ensures.looked c.loop-i.invariant.3,
      ap (λ (x : CoreSeat). x.took) c.look.ensures.looked ∙ c.loop-i.invariant.4,
    )
