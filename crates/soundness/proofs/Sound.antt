-- The laws of the single kinds, joined: what is built has its law, and what is not built says nothing.
use Rattle.std.proofs.Common.{Bool}
use Rattle.ir_module.specs.Calls.{Nounwind, Noreturn, Nofree}
use Rattle.ir_module.specs.declared.module.Module.{Module}
use Rattle.ir_module.specs.WellFormed.{IsWellFormed}
use Rattle.facts.specs.Kinds.{NoUnwind, NoReturn, NoFree}
use Rattle.facts.specs.Facts.{Fact}
use Rattle.facts.specs.Justified.{SupportsItself}
use Rattle.ir_machine.specs.Runs.{run}
use Rattle.ir_machine.specs.Meanings.{nounwind, noreturn, nofree}
use Rattle.law_premises.specs.Premises.{JustifiesItself}
use Rattle.laws_of_control.proofs.Holding.{all_controlled, never_done, nounwind_kept, noreturn_kept, nofree_kept, body_holds, call_holds}
use Rattle.laws_effects.proofs.Reaching.{rows_of}
use Rattle.soundness.specs.Soundness.{IsSound}
use Rattle.soundness.proofs.Unbuilt.{facts_hold}

-- in every honest run of a well formed module every fact of a set that supports itself holds
pub sound : (m : Module) → IsWellFormed m → (held : Fact → Bool) → SupportsItself m held → IsSound m held
sound m formed held is opening opens choices honest =
    let justified : JustifiesItself m held = λ x has. (is x has).1 in
    let unwinds = nounwind_kept m formed held justified opening opens choices honest in
    let returns = noreturn_kept m formed held justified opening opens choices honest in
    let frees = nofree_kept m formed held justified opening opens choices honest in record {
      facts = facts_hold m held is (run m opening choices)
          (never_done m formed held justified opening opens choices honest)
          (λ f has. body_holds m formed held justified opening opens choices honest NoUnwind Nounwind nounwind unwinds f has)
          (λ f has. body_holds m formed held justified opening opens choices honest NoReturn Noreturn noreturn returns f has)
          (λ f has. body_holds m formed held justified opening opens choices honest NoFree Nofree nofree frees f has)
          (rows_of m held justified formed opening opens choices honest (all_controlled m formed held justified opening opens choices honest));
      unwinding = λ s instr at is_call has.
          call_holds m formed held justified opening opens choices honest NoUnwind Nounwind nounwind unwinds s instr at has;
      returning = λ s instr at is_call has.
          call_holds m formed held justified opening opens choices honest NoReturn Noreturn noreturn returns s instr at has;
      freeing = λ s instr at is_call has.
          call_holds m formed held justified opening opens choices honest NoFree Nofree nofree frees s instr at has;
    }
