-- The calls of a run: a call that is made at an instruction runs the body that is called there, so what holds of the calls of
-- the body holds of it.
use Rattle.std.proofs.Common.{◌≡◌, ℕ, suc, List, slice_get, All, Some, ap, subst, ◌∙◌}
use Rattle.std.specs.List.{AllByRecursion}
use Rattle.std.proofs.lemmas.List.Elements.{All-from_recursion}
use Rattle.shelf.proofs.Every.{every_mapped, every_at}
use Rattle.ir_module.specs.declared.op.Instr.{Instr}
use Rattle.ir_module.specs.declared.module.Spot.{Spot}
use Rattle.ir_module.specs.declared.module.Module.{Module}
use Rattle.ir_module.specs.Places.{instr_at}
use Rattle.ir_module.specs.Calls.{inner_callee}
use Rattle.ir_module.specs.WellFormed.{IsWellFormed}
use Rattle.ir_machine.specs.declared.choice.Choice.{Choice}
use Rattle.ir_machine.specs.Frames.{At, Active, State, Event}
use Rattle.ir_machine.specs.Runs.{Done, IsOpening, run, events_of}
use Rattle.ir_machine.specs.Meanings.{Attribute, nounwind, noreturn, nofree, norecurse, nocallback, memory, nocapture, readnone, readonly, writeonly, returned}
use Rattle.ir_machine.specs.Meanings.{IsBy, Keeps, HoldsOfBody, HoldsAtCall}
use Rattle.ir_machine.specs.Links.{CallsBodyIn, BeginsAs, RunsItsCallee}
use Rattle.ir_machine.proofs.Basics.{Shown, of_events}
use Rattle.ir_machine.proofs.Linked.{Linked, RunTheirCallees, all_linked}

-- the call whose frame made the event is the first that it names
pub stands_first : (a : Active) (e : Event) → IsBy a e → slice_get e.calls 0 ≡ Some a
stands_first a e by = ap (λ calls. slice_get calls 0) by.1

-- an attribute asks something only of the events in whose calls the call stands
pub where_it_stands : (attribute : Attribute) (a : Active) (e : Event) → ((k : ℕ) → slice_get e.calls k ≡ Some a → Keeps attribute a e) → Keeps attribute a e
where_it_stands nounwind a e so = λ by. so 0 (stands_first a e by) by
where_it_stands noreturn a e so = λ by. so 0 (stands_first a e by) by
where_it_stands nofree a e so = λ during. so during.0 during.1 during
where_it_stands norecurse a e so = λ below. so (suc below.2) (ap (λ calls. slice_get calls (suc below.2)) below.3 ∙ below.4) below
where_it_stands nocallback a e so = λ during. so during.0 during.1 during
where_it_stands (memory access) a e so = λ during. so during.0 during.1 during
where_it_stands (nocapture at) a e so = record {
  captured = λ during. (so during.0 during.1).captured during;
  returned = λ by. (so 0 (stands_first a e by)).returned by;
}
where_it_stands (readnone at) a e so = (λ during. (so during.0 during.1).0 during, λ during. (so during.0 during.1).1 during)
where_it_stands (readonly at) a e so = λ during. so during.0 during.1 during
where_it_stands (writeonly at) a e so = λ during. so during.0 during.1 during
where_it_stands (returned at) a e so = λ by. so 0 (stands_first a e by) by

module _ (m : Module) where
  -- a call that was made at this instruction runs what the instruction calls
  pub runs_there : (a : Active) (s : Spot) (instr : Instr) → RunsItsCallee m a → a.call.made ≡ At s → instr_at m s ≡ Some instr →
      a.body ≡ inner_callee m instr.op
  runs_there a s instr runs made at =
      let there : CallsBodyIn m a.body (instr_at m s) = subst (BeginsAs m a.body) made runs in
      (subst (CallsBodyIn m a.body) at there).1

  module _ (formed : IsWellFormed m) (opening : State) (opens : IsOpening m opening) (choices : List Choice) where
    abbrev steps : List Done
    steps = run m opening choices

    -- each step's events name calls that run what their beginnings say, and its frames are linked
    pub linked : All (Shown (Linked m formed) (RunTheirCallees m formed)) steps
    linked = All-from_recursion (Shown (Linked m formed) (RunTheirCallees m formed)) steps (all_linked m formed opening opens choices)

    callees : All (RunTheirCallees m formed) (events_of steps)
    callees =
        All-from_recursion (RunTheirCallees m formed) (events_of steps) (of_events (RunTheirCallees m formed) steps
        (every_mapped (Shown (Linked m formed) (RunTheirCallees m formed)) (λ (d : Done). AllByRecursion (RunTheirCallees m formed) d.events) steps
        (λ d shown. shown.events) (all_linked m formed opening opens choices)))

    -- what holds of every call of a body holds of every call that is made where it is called
    pub holds_there : (attribute : Attribute) (s : Spot) (instr : Instr) (g : ℕ) → instr_at m s ≡ Some instr → inner_callee m instr.op ≡ Some g →
        HoldsOfBody attribute g steps → HoldsAtCall attribute s steps
    holds_there attribute s instr g at inner holds = λ a made i d within.
        where_it_stands attribute a _ (λ k stands.
        holds a (runs_there a s instr (every_at (RunsItsCallee m) _ k a (callees i d within) stands) made at ∙ inner) i d within)
