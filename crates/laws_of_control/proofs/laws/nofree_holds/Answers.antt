use Rattle.ir_module.specs.Calls.{Nofree}
use Rattle.facts.specs.Kinds.{NoFree}
use Rattle.ir_machine.specs.Meanings.{nofree}
use Rattle.laws_of_control.proofs.Holding.{nofree_kept, body_holds, call_holds}
use Rattle.laws_of_control.proofs.laws.nofree_holds.Goals as goal

pub returns : goal.returns
returns c = record {
  bodies = λ m formed held is opening opens choices honest f has.
      body_holds m formed held is opening opens choices honest NoFree Nofree nofree (nofree_kept m formed held is opening opens choices honest) f has;
  calls = λ m formed held is opening opens choices honest s instr at is_call has.
      call_holds m formed held is opening opens choices honest NoFree Nofree nofree (nofree_kept m formed held is opening opens choices honest) s instr at has;
}
