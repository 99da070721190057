use Rattle.std.proofs.Common.{◌≡◌, ℕ, length, get_or, List, Bool, arith, ap, subst}
use Rattle.std.specs.List.{list_any}
use Rattle.std.proofs.lemmas.List.{take_all}
use Rattle.ir_module.specs.declared.op.Instr.{Instr}
use Rattle.ir_module.specs.Calls.{names, takers}
use Rattle.ir_uses.specs.Raised.{Raises}
use Rattle.ir_uses.proofs.Raising.{raised_item}
use Rattle.ir_uses.proofs.taken.mark_seg.Goals as goal

pub loop-instr-preserved : goal.loop-instr-preserved
loop-instr-preserved c =
    let t : ℕ → Instr → Bool = λ f i. list_any (names f) (takers c.args.m.now i.op) in
    let items = c.as_slice-instr-items.ensures in
    let count = ap (λ (xs : List Instr). length xs) items in
    let read = subst (λ (xs : List Instr). c.instr-item.result ≡ get_or xs c.loop-instr.instr-index c.instr-item.result) items c.instr-item.is in
    raised_item c.args.flags.now c.loop-instr.flags c.mark_instr.new.flags t c.args.seg.now.instrs c.loop-instr.instr-index c.instr-item.result
    (omega (arith, c.loop-instr-test.true, count)) read c.loop-instr.invariant c.mark_instr.ensures

pub returns : goal.returns
returns c =
    let items = c.as_slice-instr-items.ensures in
    let count = ap (λ (xs : List Instr). length xs) items in
    let whole = take_all c.loop-instr.instr-index c.args.seg.now.instrs (omega (arith, c.loop-instr-test.false, count)) in
    subst (λ (xs : List Instr). Raises c.args.flags.now c.loop-instr.flags (λ f. list_any (λ i. list_any (names f) (takers c.args.m.now i.op)) xs)) whole
    c.loop-instr.invariant
