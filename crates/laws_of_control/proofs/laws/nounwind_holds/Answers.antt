use Rattle.ir_module.specs.Calls.{Nounwind}
use Rattle.facts.specs.Kinds.{NoUnwind}
use Rattle.ir_machine.specs.Meanings.{nounwind}
use Rattle.laws_of_control.proofs.Holding.{nounwind_kept, body_holds, call_holds}
use Rattle.laws_of_control.proofs.laws.nounwind_holds.Goals as goal

pub returns : goal.returns
returns c = record {
  bodies = λ m formed held is opening opens choices honest f has.
      body_holds m formed held is opening opens choices honest NoUnwind Nounwind nounwind (nounwind_kept m formed held is opening opens choices honest) f has;
  calls = λ m formed held is opening opens choices honest s instr at is_call has.
      call_holds m formed held is opening opens choices honest NoUnwind Nounwind nounwind (nounwind_kept m formed held is opening opens choices honest) s instr
      at has;
}
