use Rattle.std.proofs.Common.{◌≡◌, List, ◌∷◌, [], ◌++◌, slice_get, slice_set, Some, Result, Ok, Err, sym, OnOk}
use Rattle.attr_ids.specs.declared.memory.NoMemory.{NoMemory}
use Rattle.ir_module.proofs.Fitting.{callee_inside}
use Rattle.ir_module.specs.Calls.{direct_callee}
use Rattle.ir_module.specs.declared.module.Spot.{Spot}
use Rattle.ir_uses.specs.Uses.{IsCallAt}
use Rattle.ir_uses.proofs.Calling.{noted_all, passed_all}
use Rattle.ir_uses.proofs.callers.note_instr.Goals as goal

on_ok : {P Q : Type 0} → (r : Result (Unit {0}) NoMemory) → (P → Q) → OnOk r P → OnOk r Q
on_ok (Ok x) f h = f h
on_ok (Err e) f h = h

pub returns-in-Some-direct_callee : goal.returns-in-Some-direct_callee
returns-in-Some-direct_callee c =
    let found = sym c.in-Some.ensures in
    let called : direct_callee c.args.m.now c.in-Some.instr.now.op ≡ Some c.in-Some-direct_callee.f = sym c.in-Some-direct_callee.ensures in
    let at : IsCallAt c.args.m.now c.in-Some-direct_callee.f.0 c.args.here = record { instr = c.in-Some.instr.now; at_spot = found; is_call = called } in
    on_ok c.note.result
    (λ (set : (cs : List Spot) → slice_get c.args.lists.now c.in-Some-direct_callee.f.0 ≡ Some cs → c.note.new.lists ≡ slice_set c.args.lists.now
    c.in-Some-direct_callee.f.0 (cs ++ c.args.here ∷ [])).
    noted_all c.args.m.now c.args.here.seg.0 c.args.here.at c.in-Some-direct_callee.f.0 c.args.lists.now c.note.new.lists c.requires.lists at
    (callee_inside c.args.m.now c.in-Some.instr.now.op c.in-Some-direct_callee.f called) set)
    c.note.ensures

pub returns-in-None : goal.returns-in-None
returns-in-None c =
    passed_all c.args.m.now c.args.here.seg.0 c.args.here.at c.in-Some.instr.now c.args.lists.now c.requires.lists (sym c.in-Some.ensures)
    (sym c.in-None.ensures)
