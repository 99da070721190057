use Rattle.ir_module.specs.Calls.{Noreturn}
use Rattle.facts.specs.Kinds.{NoReturn}
use Rattle.ir_machine.specs.Meanings.{noreturn}
use Rattle.laws_of_control.proofs.Holding.{noreturn_kept, body_holds, call_holds}
use Rattle.laws_of_control.proofs.laws.noreturn_holds.Goals as goal

pub returns : goal.returns
returns c = record {
  bodies = λ m formed held is opening opens choices honest f has.
      body_holds m formed held is opening opens choices honest NoReturn Noreturn noreturn (noreturn_kept m formed held is opening opens choices honest) f has;
  calls = λ m formed held is opening opens choices honest s instr at is_call has.
      call_holds m formed held is opening opens choices honest NoReturn Noreturn noreturn (noreturn_kept m formed held is opening opens choices honest) s instr
      at has;
}
