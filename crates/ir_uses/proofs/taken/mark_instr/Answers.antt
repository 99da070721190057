use Rattle.std.proofs.Common.{◌≡◌, ◌+◌, ◌<◌, length, take, drop, slice_get, List, Bool, ◌≤◌, Some, None, arith, subst, sym}
use Rattle.std.specs.List.{list_any}
use Rattle.std.proofs.lemmas.List.{take_all}
use Rattle.shelf.proofs.Shelf.{get_there}
use Rattle.ir_module.specs.declared.op.Written.{Written}
use Rattle.ir_module.specs.Operands.{operands}
use Rattle.ir_module.specs.Calls.{names}
use Rattle.ir_uses.specs.Raised.{Raises}
use Rattle.ir_uses.proofs.Raising.{raised_from}
use Rattle.ir_uses.proofs.taken.mark_instr.Goals as goal
use Rattle.ir_uses.proofs.taken.mark_instr.Goals.{in-Some, in_default}

pub loop-at-preserved : goal.loop-at-preserved
loop-at-preserved c =
    let ops : List Written = operands c.args.instr.now.op in
    let inside : c.loop-at.at < length ops = omega (arith, c.loop-at-test.true, c.operand_count-at-end.ensures) in
    let low : c.first_taker-first.result ≤ c.loop-at.at = omega (arith, c.loop-at.auto.at) in
    elim c.match-operand_at.branch [
      | in-Some w ↦
          (let all = raised_from c.args.flags.now c.loop-at.flags w.mark.new.flags names ops c.first_taker-first.result c.loop-at.at w.in-Some.w.now
          low inside (sym w.in-Some.ensures) c.loop-at.invariant w.mark.ensures in
          subst (λ (fs : List Bool). Raises c.args.flags.now fs (λ f. list_any (names f) (drop c.first_taker-first.result (take (c.loop-at.at + 1) ops))))
          (sym w.flags-is) all)
      | in_default w ↦
          (let q = get_there ops c.loop-at.at inside in
          let found : slice_get ops c.loop-at.at ≡ Some q.0 = q.1 in
          let none : None ≡ slice_get ops c.loop-at.at = w.in_default.ensures in
          let clash : ⊥ = cc in
          absurd clash)
    ]

pub returns : goal.returns
returns c =
    let ops : List Written = operands c.args.instr.now.op in
    let whole = take_all c.loop-at.at ops (omega (arith, c.loop-at-test.false, c.operand_count-at-end.ensures)) in
    let all = subst (λ (xs : List Written). Raises c.args.flags.now c.loop-at.flags (λ f. list_any (names f) (drop c.first_taker-first.result xs))) whole
    c.loop-at.invariant in
    subst (λ (xs : List Written). Raises c.args.flags.now c.loop-at.flags (λ f. list_any (names f) xs)) c.first_taker-first.ensures all
