-- What happens in each step is permitted by each call that stands.
use Rattle.std.proofs.Common.{◌≡◌, ◌≢◌, ℕ, suc, zero, ◌+◌, ◌&&◌, ◌<◌, Bool, true, false, List, [], ◌∷◌, length, slice_get, map, Option, None, Some, refl, sym}
use Rattle.std.proofs.Common.{ap, subst, ◌∙◌, ◌⊎◌, inl, inr}
use Rattle.std.proofs.lemmas.Bool.{and_parts}
use Rattle.std.proofs.Common.{true≢false}
use Rattle.std.specs.List.{AllByRecursion, list_all}
use Rattle.ir_module.specs.declared.op.Op.{Op}
use Rattle.ir_module.specs.declared.op.Op.TheVariants as op
use Rattle.ir_module.specs.declared.op.Instr.{Instr}
use Rattle.ir_module.specs.declared.op.Written.{Written}
use Rattle.ir_module.specs.declared.attrs.MemoryAttr.{MemoryAttr}
use Rattle.ir_module.specs.declared.module.Module.{Module}
use Rattle.ir_module.specs.Places.{instr_at, IsIn}
use Rattle.ir_module.specs.Calls.{Memory as MemoryPromise}
use Rattle.facts.specs.Kinds.{NoAccess, Access, Read as Reads, Write as Writes, Location, Default, Argmem, Inaccessible, Global, Argument}
use Rattle.facts.specs.Facts.{Fact, dead_at, of_function}
use Rattle.facts.specs.Memory.{address, is_volatile, IsNotTo}
use Rattle.ir_machine.specs.declared.choice.Byte.{Byte}
use Rattle.ir_machine.specs.declared.choice.Byte.TheVariants as byte
use Rattle.ir_machine.specs.declared.choice.Datum.{Datum}
use Rattle.ir_machine.specs.declared.choice.Datum.TheVariants as datum
use Rattle.ir_machine.specs.declared.choice.Value.{Value}
use Rattle.ir_machine.specs.declared.choice.Choice.{Choice}
use Rattle.ir_machine.specs.Memory.{Memory, Life, Live, Closed, Dead, is_live, has_bytes, without_allocas}
use Rattle.ir_machine.specs.Frames.{Active, active, BodyFrame, OutsideFrame, Frame, Body, Outside, call_of as call_in, State, What, Enter, Read, Write}
use Rattle.ir_machine.specs.Frames.{HiddenRead, HiddenWrite, Free, Capture, Return, Unwind, Event, event}
use Rattle.ir_machine.specs.Moves.{Move, Says, Fills, Sets, Goes, Ends, said, says, moved, Gives, with}
use Rattle.ir_machine.specs.Reading.{Here, behind, size_of, align_or}
use Rattle.ir_machine.specs.Access.{Place, can_access, accessed, accessed_at, hidden, bytes_with}
use Rattle.ir_machine.specs.Edges.{crossing}
use Rattle.ir_machine.specs.Calls.{is_end_name}
use Rattle.ir_machine.specs.Outside.{can_use, can_touch, block_in, pointers_in, reads_at, taking, can_write, captures_in, written_at}
use Rattle.ir_machine.specs.Steps.{plan}
use Rattle.ir_machine.specs.Runs.{Done, done}
use Rattle.ir_machine.specs.Arguments.{ArgumentsAreOperands}
use Rattle.ir_machine.specs.Honest.{IsFair, promises}
use Rattle.ir_machine.specs.Links.{AreLinked, IsLinked}
use Rattle.ir_machine.specs.Meanings.{IsDuring, MeetsMemory}
use Rattle.ir_machine.specs.Valid.{scope_of, Known, IsAmongFirst, HasAll, AreBlocks, AreOrdered, IsValid}
use Rattle.ir_machine.proofs.Basics.{OnOutcome, on_with, on_needs, given, Along, along_says}
use Rattle.ir_machine.proofs.Instructions.{IsRead, EachKind, EachAct, by_step, here_in}
use Rattle.ir_machine.proofs.Moving.{crossed, came, went_on, went_through, along_all, crossing_all, coming_all, going_all, through_all, taking_all}
use Rattle.ir_machine.proofs.Carried.{operand_has, used_has}
use Rattle.ir_machine.proofs.Valid.{known_closed}
use Rattle.ir_machine.proofs.Arguments.{read_is}
use Rattle.fact_meanings.specs.Values.{FrameIsRight, FramesAreRight}
use Rattle.law_premises.specs.Premises.{JustifiesItself, StandLive, IsControlled}
use Rattle.law_premises.specs.Types.{HasTypedAddresses, PassesAddresses}
use Rattle.laws_effects.proofs.Entering.{HasPlaces}
use Rattle.laws_effects.proofs.Quiet.{Says_well, said_well, IsQuiet, quiet_says, marks_quiet}
use Rattle.laws_effects.proofs.Permits.{has, Permits, PermitsHidden, outer_permits, outer_hidden, rule}
use Rattle.laws_effects.proofs.Accesses.{operand_class, body_permits, all_permit, all_hidden}

-- ---- places of accesses
not_dead : (l : Life) → is_live l ≡ true → l ≢ Dead
not_dead Live e is = cc
not_dead Closed e is = absurd (cc)
not_dead Dead e is = absurd (cc)

-- the pointer is to a live block, that of the place
abbrev IsLiveAt : Memory → Datum → ℕ → Type 0
IsLiveAt mem d b = (o : ℕ) × (d ≡ datum.Ptr b o) × (mem.life b ≢ Dead)

at_place : (mem : Memory) (align size : ℕ) (d : Datum) → OnOutcome (λ (place : Place). IsLiveAt mem d place.block) (accessed_at mem align size d)
at_place mem align size (datum.Ptr block offset) =
    on_needs (λ (place : Place). IsLiveAt mem (datum.Ptr block offset) place.block) (can_access mem align size block offset)
    (Gives (record { block = block; offset = offset; size = size }))
    (λ can. (offset, refl, not_dead (mem.life block) (and_parts (is_live (mem.life block)) _ (and_parts (has_bytes mem size block offset) _ can).0).0))
at_place mem align size datum.Null = tt
at_place mem align size datum.Undef = tt
at_place mem align size datum.Poison = tt
at_place mem align size (datum.Int bits) = tt
at_place mem align size datum.Pair = tt

accessed_live : (m : Module) (mem : Memory) (ty : ℕ) (align : Option ℕ) (d : Datum) (place : Place) → accessed m mem ty align d ≡ Gives place →
    IsLiveAt mem d place.block
accessed_live m mem ty align d place e =
    given (λ (place : Place). IsLiveAt mem d place.block) (accessed m mem ty align d) place
    (on_with (λ (place : Place). IsLiveAt mem d place.block) (size_of m ty) (λ size. with (align_or m ty align) (λ bytes. accessed_at mem bytes size d))
    (λ size _. on_with (λ (place : Place). IsLiveAt mem d place.block) (align_or m ty align) (λ bytes. accessed_at mem bytes size d)
    (λ bytes _. at_place mem bytes size d))) e

touched_live : (mem : Memory) (size : ℕ) (d : Datum) → can_touch mem size d ≡ true → IsLiveAt mem d (block_in d)
touched_live mem size (datum.Ptr block offset) e =
    (offset, refl, not_dead (mem.life block) (and_parts (is_live (mem.life block)) _ (and_parts _ (has_bytes mem size block offset) e).1).0)
touched_live mem size datum.Null e = absurd (cc)
touched_live mem size datum.Undef e = absurd (cc)
touched_live mem size datum.Poison e = absurd (cc)
touched_live mem size (datum.Int bits) e = absurd (cc)
touched_live mem size datum.Pair e = absurd (cc)

-- what is given of each step
pub record Given (m : Module) (held : Fact → Bool) (d : Done) : Type 0 where
  pub valid : IsValid d.before
  pub linked : IsLinked m d.before.stack
  pub passed : ArgumentsAreOperands m d.before.memory.home d.before.stack
  pub places : AllByRecursion HasPlaces d.before.stack
  pub fair : AllByRecursion (IsFair m) d.events
  pub controlled : IsControlled m held d
  pub right : FramesAreRight held d.before
  pub typed : PassesAddresses m d

module _ (m : Module) (held : Fact → Bool) (is : JustifiesItself m held) where
  -- each call that stands permits what happens
  abbrev pub Permitted : List Active → What → Type 0
  Permitted calls (Read block origins) = AllByRecursion (Permits m held Reads block) calls
  Permitted calls (Write block origins) = AllByRecursion (Permits m held Writes block) calls
  Permitted calls HiddenRead = AllByRecursion (PermitsHidden m held Reads) calls
  Permitted calls HiddenWrite = AllByRecursion (PermitsHidden m held Writes) calls
  Permitted calls _ = Unit {0}

  abbrev pub IsPermitted : Event → Type 0
  IsPermitted e = Permitted e.calls e.what

  -- it is no access
  abbrev NoAccessIs : What → Type 0
  NoAccessIs (Read block origins) = ⊥
  NoAccessIs (Write block origins) = ⊥
  NoAccessIs HiddenRead = ⊥
  NoAccessIs HiddenWrite = ⊥
  NoAccessIs _ = Unit {0}

  silent : (stack : List Frame) (what : What) → NoAccessIs what → IsPermitted (event stack what)
  silent stack (Read block origins) none = absurd none
  silent stack (Write block origins) none = absurd none
  silent stack HiddenRead none = absurd none
  silent stack HiddenWrite none = absurd none
  silent stack (Enter f) none = tt
  silent stack (Free b) none = tt
  silent stack (Capture origins) none = tt
  silent stack (Return x) none = tt
  silent stack Unwind none = tt

  abbrev Q : State → List Move → Type 0
  Q t moves = Given m held (done t moves) → Along (Says_well IsPermitted) t moves

  quiet : (t : State) (moves : List Move) → AllByRecursion (IsQuiet NoAccessIs) moves → Along (Says_well IsPermitted) t moves
  quiet t moves all = along_all (Says_well IsPermitted) (IsQuiet NoAccessIs) (quiet_says NoAccessIs IsPermitted silent) t moves all

  -- ---- what honest outer calls permit

  each_call : (P : Active → Type 0) (calls : List Active) → ((k : ℕ) (a : Active) → slice_get calls k ≡ Some a → P a) → AllByRecursion P calls
  each_call P [] each = tt
  each_call P (a ∷ calls) each = (each 0 a refl, each_call P calls (λ k a at. each (suc k) a at))

  outer_read : (e : Event) (b : ℕ) → IsFair m e → ((x : MemoryAttr) (a : Active) → MeetsMemory x a.call e.what → MeetsMemory x a.call (Read b [])) →
      AllByRecursion (λ a. a.body ≡ None → Permits m held Reads b a) e.calls
  outer_read e b fair leads =
      each_call (λ a. a.body ≡ None → Permits m held Reads b a) e.calls
      (λ k a at outer. outer_permits m held Reads b a outer (λ x promised. leads x a (fair (MemoryPromise x) a promised (k, at))))

  outer_write : (e : Event) (b : ℕ) → IsFair m e → ((x : MemoryAttr) (a : Active) → MeetsMemory x a.call e.what → MeetsMemory x a.call (Write b [])) →
      AllByRecursion (λ a. a.body ≡ None → Permits m held Writes b a) e.calls
  outer_write e b fair leads =
      each_call (λ a. a.body ≡ None → Permits m held Writes b a) e.calls
      (λ k a at outer. outer_permits m held Writes b a outer (λ x promised. leads x a (fair (MemoryPromise x) a promised (k, at))))

  outer_hidden_read : (stack : List Frame) → IsFair m (event stack HiddenRead) →
      AllByRecursion (λ a. a.body ≡ None → PermitsHidden m held Reads a) (map active stack)
  outer_hidden_read stack fair =
      each_call (λ a. a.body ≡ None → PermitsHidden m held Reads a) (map active stack)
      (λ k a at outer. outer_hidden m held Reads a outer (λ x promised. fair (MemoryPromise x) a promised (k, at)))

  outer_hidden_write : (stack : List Frame) → IsFair m (event stack HiddenWrite) →
      AllByRecursion (λ a. a.body ≡ None → PermitsHidden m held Writes a) (map active stack)
  outer_hidden_write stack fair =
      each_call (λ a. a.body ≡ None → PermitsHidden m held Writes a) (map active stack)
      (λ k a at outer. outer_hidden m held Writes a outer (λ x promised. fair (MemoryPromise x) a promised (k, at)))

  -- ---- down the stack of a state

  module _ (t : State) (top : Frame) (below : List Frame) (stack : t.stack ≡ top ∷ below) (moves : List Move) (g : Given m held (done t moves)) where
    down : (acc : Access) (b : ℕ) → b < t.memory.count → t.memory.life b ≢ Dead →
        AllByRecursion (λ a. a.body ≡ None → Permits m held acc b a) (map active t.stack) →
        Permits m held acc b (active top) → AllByRecursion (Permits m held acc b) (map active t.stack)
    down acc b within alive outer permits =
        subst (λ s. AllByRecursion (Permits m held acc b) (map active s)) (sym stack)
        (all_permit m held is t.memory (scope_of t) g.valid.blocks acc b within alive t.next_call t.memory.count top below (subst (IsLinked m) stack g.linked)
        (subst (StandLive held) stack g.controlled.live) (subst (AreOrdered t.born t.next_call t.memory.count) stack g.valid.order)
        (subst (ArgumentsAreOperands m t.memory.home) stack g.passed) (subst (AllByRecursion HasPlaces) stack g.places)
        (subst (AllByRecursion (HasTypedAddresses m)) stack g.typed) (subst (AllByRecursion (FrameIsRight held t.memory)) stack g.right)
        (subst (λ s. AllByRecursion (λ a. a.body ≡ None → Permits m held acc b a) (map active s)) stack outer) permits)

    down_hidden : (acc : Access) → AllByRecursion (λ a. a.body ≡ None → PermitsHidden m held acc a) (map active t.stack) →
        PermitsHidden m held acc (active top) → AllByRecursion (PermitsHidden m held acc) (map active t.stack)
    down_hidden acc outer permits =
        subst (λ s. AllByRecursion (PermitsHidden m held acc) (map active s)) (sym stack)
        (all_hidden m held is acc top below (subst (IsLinked m) stack g.linked)
        (subst (StandLive held) stack g.controlled.live)
        (subst (λ s. AllByRecursion (λ a. a.body ≡ None → PermitsHidden m held acc a) (map active s)) stack outer) permits)

  -- ---- a module frame

  module _ (t : State) (frame : BodyFrame) (below : List Frame) (instr : Instr) (stack : t.stack ≡ Body frame ∷ below) (at : instr_at m frame.spot ≡ Some instr)
    where
      abbrev here : Here
      here = here_in t frame below instr

      module _ (moves : List Move) (g : Given m held (done t moves)) where
        stands : (below : List Frame) → AreLinked m (Body frame) below → IsIn m frame.func frame.spot
        stands [] h = h.0.1
        stands (under ∷ below) h = h.0.1

        within_body : IsIn m frame.func frame.spot
        within_body = stands below (subst (IsLinked m) stack g.linked)

        is_live_here : held (dead_at frame.spot) ≡ false
        is_live_here = (subst (StandLive held) stack g.controlled.live).0

        order_here : AreOrdered t.born t.next_call t.memory.count (Body frame ∷ below)
        order_here = subst (AreOrdered t.born t.next_call t.memory.count) stack g.valid.order

        -- an access by an operand of the instruction
        own_access : (acc : Access) (o : Op) → instr.op ≡ o → (w : Written) → address acc o ≡ Some w → (p : Value) → IsRead m here w p → (b off : ℕ) →
            p.datum ≡ datum.Ptr b off → t.memory.life b ≢ Dead → (b < t.memory.count) × Permits m held acc b (active (Body frame))
        own_access acc o op_is w is_address p reads b off points alive =
            let known = subst (AllByRecursion (HasAll (Known (scope_of t)))) stack g.valid.known.frames in
            let p_known = operand_has t.memory.count (Known (scope_of t)) (known_closed.carried (scope_of t)) m here refl
            (λ s b home. (g.valid.blocks.homes s b home).0) known.0.1 w p reads in
            let within : b < t.memory.count = subst (IsAmongFirst t.memory.count) points p_known.0 in
            let right = (subst (AllByRecursion (FrameIsRight held t.memory)) stack g.right).0 in
            let is_here : address acc instr.op ≡ Some w = subst (λ o. address acc o ≡ Some w) (sym op_is) is_address in (
              within,
              body_permits m held is t.memory (scope_of t) g.valid.blocks acc b within alive frame w order_here.2
                  (operand_class m held t.memory (scope_of t) g.valid.blocks frame right w p b off (read_is m here w p reads) points alive)
                  (λ quiet. (rule m held is (NoAccess acc Default) frame.func quiet frame.spot instr within_body at is_live_here).access w is_here)
                  (λ quiet. (rule m held is (NoAccess acc Argmem) frame.func quiet frame.spot instr within_body at is_live_here).access w is_here),
            )

        own_hidden : (acc : Access) → is_volatile instr.op ≡ true → PermitsHidden m held acc (active (Body frame))
        own_hidden acc volatile = by (held (of_function (NoAccess acc Inaccessible) frame.func)) refl
          where
            by : (b : Bool) → held (of_function (NoAccess acc Inaccessible) frame.func) ≡ b → b ≡ false
            by false e = refl
            by true e =
                let off = (rule m held is (NoAccess acc Inaccessible) frame.func e frame.spot instr within_body at is_live_here).access in
                absurd (true≢false (sym volatile ∙ off))

        hidden_well : (volatile : Bool) (p : Value) → is_volatile instr.op ≡ volatile →
            AllByRecursion (λ what. IsFair m (event t.stack what)) (hidden volatile p) →
            AllByRecursion (λ what. IsPermitted (event t.stack what)) (hidden volatile p)
        hidden_well false p is_so fair = tt
        hidden_well true p is_so fair = (
          down_hidden t (Body frame) below stack moves g Reads (outer_hidden_read t.stack fair.0) (own_hidden Reads is_so),
          (
            down_hidden t (Body frame) below stack moves g Writes (outer_hidden_write t.stack fair.1.0) (own_hidden Writes is_so),
            (tt, tt),
          ),
        )

      fair_says : (whats : List What) (moves : List Move) → AllByRecursion (IsFair m) (said t (says whats moves)) →
          AllByRecursion (λ what. IsFair m (event t.stack what)) whats
      fair_says [] moves fair = tt
      fair_says (what ∷ whats) moves fair = (fair.0, fair_says whats moves fair.1)

      body_well : EachKind m here (Q t)
      body_well = record {
        computing = λ picks x v gives has given. (tt, (tt, tt));
        comparing = λ pred flagged a b x y z v op_is at_a at_b bare has given. (tt, (tt, (tt, (tt, tt))));
        exposing = λ flagged a x z v op_is at_a bare has given. (tt, (tt, (tt, tt)));
        allocating = λ ty count written align base size v op_is can has given. (tt, (tt, (tt, tt)));
        loading = λ ptr align volatile p place x v op_is at_p can loaded has g.
            let rest = Sets v.0 x ∷ Goes (behind frame.spot) ∷ [] in
            let moves = says (Read place.block p.origins ∷ hidden volatile p) rest in
            let fair = fair_says (Read place.block p.origins ∷ hidden volatile p) rest g.fair in
            let points = accessed_live m t.memory instr.ty.0 align p.datum place can in
            let mine = own_access moves g Reads (op.Load ptr align volatile) op_is ptr refl p at_p place.block points.0 points.1 points.2 in
            along_says (Says_well IsPermitted) t (Read place.block p.origins ∷ hidden volatile p) rest (
              down t (Body frame) below stack moves g Reads place.block mine.0 points.2
                  (outer_read (event t.stack (Read place.block p.origins)) place.block fair.0 (λ x a meets. meets)) mine.1,
              hidden_well moves g volatile p (ap is_volatile op_is) fair.1,
            ) (tt, (tt, tt));
        storing = λ val ptr align volatile x p place op_is at_val at_ptr can g.
            let rest = Fills place.block (bytes_with t.memory place x) ∷ Goes (behind frame.spot) ∷ [] in
            let moves = says (Write place.block p.origins ∷ Capture x.origins ∷ hidden volatile p) rest in
            let fair = fair_says (Write place.block p.origins ∷ Capture x.origins ∷ hidden volatile p) rest g.fair in
            let points = accessed_live m t.memory val.ty.0 align p.datum place can in
            let mine = own_access moves g Writes (op.Store val ptr align volatile) op_is ptr refl p at_ptr place.block points.0 points.1 points.2 in
            along_says (Says_well IsPermitted) t (Write place.block p.origins ∷ Capture x.origins ∷ hidden volatile p) rest (
              down t (Body frame) below stack moves g Writes place.block mine.0 points.2
                  (outer_write (event t.stack (Write place.block p.origins)) place.block fair.0 (λ x a meets. meets)) mine.1,
              (tt, hidden_well moves g volatile p (ap is_volatile op_is) fair.1.1),
            ) (tt, (tt, tt));
        branching = λ picks to moves leads gives given.
            quiet t moves (crossing_all (IsQuiet NoAccessIs) (λ v x. tt) (λ s. tt) (λ x. tt) m (crossing m t.memory frame frame.values to) moves
            (crossed m (crossing m t.memory frame frame.values to) picks moves gives));
        calling_body = λ call xs args f is_call at_args inner enters given. (tt, (tt, tt));
        calling_outside = λ call callee xs is_call at_callee at_args inner given. (tt, (tt, tt));
        marking = λ call f xs picks moves is_call callee lifetime at_args goes given.
            quiet t _ (marks_quiet NoAccessIs m t.memory (is_end_name f.name) call.args xs moves
            (going_all (IsQuiet NoAccessIs) (λ v x. tt) (λ s. tt) (λ x. tt) m t.memory frame instr None moves
            (went_on m t.memory frame instr None picks moves goes)));
        returning = λ val x picks moves op_is at_val back given.
            let mem = without_allocas frame.call.number t.memory in (
              tt,
              (
                tt,
                quiet (moved t Ends) moves (coming_all (IsQuiet NoAccessIs) (λ v x. tt) (λ s. tt) (λ x. tt) m mem (Some frame.func) below x moves
                    (came m mem (Some frame.func) below x picks moves back)),
              ),
            );
        unwinding = λ val picks moves op_is gives given. (
          tt,
          (
            tt,
            quiet (moved t Ends) moves (through_all (IsQuiet NoAccessIs) (λ v x. tt) (λ s. tt) (λ x. tt) tt tt m t.memory below moves
                (went_through m t.memory below picks moves gives)),
          ),
        );
      }

  -- ---- the outside

  module _ (t : State) (frame : OutsideFrame) (below : List Frame) (stack : t.stack ≡ Outside frame ∷ below) where
    first_of : (P : Active → Type 0) → AllByRecursion P (map active t.stack) → P (active (Outside frame))
    first_of P all = (subst (λ s. AllByRecursion P (map active s)) stack all).0

    use_within : (moves : List Move) → Given m held (done t moves) → (p : Value) → can_use t frame p ≡ true → (b o : ℕ) → p.datum ≡ datum.Ptr b o →
        b < t.memory.count
    use_within moves g p can b o points =
        let known = subst (AllByRecursion (HasAll (Known (scope_of t)))) stack g.valid.known.frames in
        let p_known = used_has t.memory.count (Known (scope_of t)) (known_closed.carried (scope_of t)) t frame refl known.0.1 g.valid.known.kept p can in
        subst (IsAmongFirst t.memory.count) points p_known.0

    captures_quiet : (bytes : List Byte) → AllByRecursion (λ what. IsPermitted (event t.stack what)) (captures_in bytes)
    captures_quiet [] = tt
    captures_quiet (byte.Number n ∷ bytes) = captures_quiet bytes
    captures_quiet (byte.Undef ∷ bytes) = captures_quiet bytes
    captures_quiet (byte.Poison ∷ bytes) = captures_quiet bytes
    captures_quiet (byte.Fragment k x ∷ bytes) = (tt, captures_quiet bytes)

    outside_well : EachAct m t frame below (Q t)
    outside_well = record {
      reading = λ p size can g.
          let parts = and_parts (can_use t frame p) (can_touch t.memory size p.datum) can in
          let points = touched_live t.memory size p.datum parts.1 in
          let moves = Says (Read (block_in p.datum) p.origins) ∷ taking (pointers_in [] (reads_at t.memory p size)) in
          let outer = outer_read (event t.stack (Read (block_in p.datum) p.origins)) (block_in p.datum) g.fair.0 (λ x a meets. meets) in (
            down t (Outside frame) below stack moves g Reads (block_in p.datum) (use_within moves g p parts.0 (block_in p.datum) points.0 points.1) points.2
                outer
                (first_of (λ a. a.body ≡ None → Permits m held Reads (block_in p.datum) a) outer refl),
            quiet t _ (taking_all (IsQuiet NoAccessIs) (λ v x. tt) (λ s. tt) (λ x. tt) (pointers_in [] (reads_at t.memory p size))),
          );
      writing = λ p bytes can g.
          let parts = and_parts (can_use t frame p) (can_touch t.memory (length bytes) p.datum)
          (and_parts (can_use t frame p && can_touch t.memory (length bytes) p.datum) (list_all (can_write t frame) bytes) can).0 in
          let points = touched_live t.memory (length bytes) p.datum parts.1 in
          let rest = Fills (block_in p.datum) (written_at t.memory p bytes) ∷ [] in
          let moves = says (Write (block_in p.datum) p.origins ∷ captures_in bytes) rest in
          let outer = outer_write (event t.stack (Write (block_in p.datum) p.origins)) (block_in p.datum) g.fair.0 (λ x a meets. meets) in
          along_says (Says_well IsPermitted) t (Write (block_in p.datum) p.origins ∷ captures_in bytes) rest (
            down t (Outside frame) below stack moves g Writes (block_in p.datum) (use_within moves g p parts.0 (block_in p.datum) points.0 points.1) points.2
                outer
                (first_of (λ a. a.body ≡ None → Permits m held Writes (block_in p.datum) a) outer refl),
            captures_quiet bytes,
          ) (tt, tt);
      hidden_reading = λ g.
          let outer = outer_hidden_read t.stack g.fair.0 in (
            down_hidden t (Outside frame) below stack (Says HiddenRead ∷ []) g Reads outer (first_of (λ a. a.body ≡ None →
                PermitsHidden m held Reads a) outer refl),
            tt,
          );
      hidden_writing = λ g.
          let outer = outer_hidden_write t.stack g.fair.0 in (
            down_hidden t (Outside frame) below stack (Says HiddenWrite ∷ []) g Writes outer (first_of (λ a. a.body ≡ None →
                PermitsHidden m held Writes a) outer refl),
            tt,
          );
      making = λ base size can given. (tt, tt);
      freeing = λ block can given. (tt, (tt, tt));
      keeping = λ x can given. (tt, (tt, tt));
      entering = λ f xs args is_open passes enters given. (tt, (tt, tt));
      returning = λ x picks moves can back given.
          let mem = without_allocas frame.call.number t.memory in (
            tt,
            (
              tt,
              quiet (moved t Ends) moves (coming_all (IsQuiet NoAccessIs) (λ v x. tt) (λ s. tt) (λ x. tt) m mem None below x moves
                  (came m mem None below x picks moves back)),
            ),
          );
      unwinding = λ picks moves gives given. (
        tt,
        (
          tt,
          quiet (moved t Ends) moves (through_all (IsQuiet NoAccessIs) (λ v x. tt) (λ s. tt) (λ x. tt) tt tt m t.memory below moves
              (went_through m t.memory below picks moves gives)),
        ),
      );
    }

  -- each step makes only accesses that are permitted
  pub effects_step : (t : State) (choice : Choice) → OnOutcome (Q t) (plan m t choice)
  effects_step t choice =
      by_step m t (Q t) (record {
        body = λ frame below instr stack at. body_well t frame below instr stack at;
        outside = λ frame below stack. outside_well t frame below stack;
      }) choice

  pub permitted_said : (t : State) (moves : List Move) → Along (Says_well IsPermitted) t moves → AllByRecursion IsPermitted (said t moves)
  permitted_said t moves along = said_well IsPermitted t moves along
