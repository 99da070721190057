-- Each act of the outside is well with all secrets.
use Rattle.std.proofs.Common.{◌≡◌, ℕ, zero, suc, ◌+◌, ◌&&◌, Bool, true, false, if◌then◌else◌, List, [], ◌∷◌, length, slice_get, map, Option, None, Some, refl}
use Rattle.std.proofs.Common.{sym, ap, subst, ◌∙◌, ◌⊎◌, inr}
use Rattle.std.proofs.lemmas.Bool.{and_parts}
use Rattle.shelf.proofs.Every.{every_mapped}
use Rattle.std.specs.List.{AllByRecursion, list_any, list_all}
use Rattle.attr_ids.specs.declared.ids.TypeId.{TypeId}
use Rattle.ir_types.specs.declared.ir_type.IrType.{IrType}
use Rattle.ir_types.specs.declared.ir_type.IrType.TheVariants as type
use Rattle.ir_module.specs.declared.module.Param.{Param}
use Rattle.ir_module.specs.declared.module.Module.{Module}
use Rattle.ir_module.specs.Calls.{Nocapture}
use Rattle.ir_module.specs.WellFormed.{IsWellFormed}
use Rattle.facts.specs.Kinds.{Access}
use Rattle.facts.specs.Bodies.{is_pointer}
use Rattle.facts.specs.Facts.{Fact}
use Rattle.ir_machine.specs.declared.choice.Byte.{Byte}
use Rattle.ir_machine.specs.declared.choice.Byte.TheVariants as byte
use Rattle.ir_machine.specs.declared.choice.Datum.{Datum}
use Rattle.ir_machine.specs.declared.choice.Datum.TheVariants as datum
use Rattle.ir_machine.specs.declared.choice.Mark.{Mark}
use Rattle.ir_machine.specs.declared.choice.Value.{Value}
use Rattle.ir_machine.specs.declared.choice.Choice.{Choice}
use Rattle.ir_machine.specs.Values.{marked, are_same_marks, is_same_value}
use Rattle.ir_machine.specs.Memory.{Memory, Dead, without_allocas}
use Rattle.ir_machine.specs.Frames.{Begun, active, OutsideFrame, Frame, Body, Outside, State, Read, Write, HiddenRead, HiddenWrite, Free, Capture, Return}
use Rattle.ir_machine.specs.Frames.{Unwind, event}
use Rattle.ir_machine.specs.Moves.{Move, Says, Turns, Fills, Keeps, Ends, moved, after, says, Gives, with_hand}
use Rattle.ir_machine.specs.Reading.{is_pointer as is_ptr_type, is_pointer_in, type_of}
use Rattle.ir_machine.specs.Calls.{body_frame, passed_to, params_of, entered}
use Rattle.ir_machine.specs.Outside.{can_use, can_touch, block_in, offset_in, pointers_in, taking, reads_at, can_write, captures_in, written_at, can_pass}
use Rattle.ir_machine.specs.Outside.{is_value_of, is_datum_of, may_have_origins, types_of, return_type, can_return}
use Rattle.ir_machine.specs.Arguments.{ArgumentsAreOperands}
use Rattle.ir_machine.specs.Honest.{IsFair}
use Rattle.ir_machine.specs.Links.{AreLinked, IsLinked}
use Rattle.ir_machine.specs.Runs.{done}
use Rattle.ir_machine.specs.Steps.{plan}
use Rattle.ir_machine.specs.Valid.{scope_of, Known, IsByteOf, HasAll, AreOrdered, IsValid}
use Rattle.ir_machine.proofs.Basics.{OnOutcome, Along, along_says}
use Rattle.ir_machine.proofs.Instructions.{EachAct, by_step, passing_in}
use Rattle.ir_machine.proofs.Moving.{came, went_through}
use Rattle.ir_machine.proofs.Carried.{IsCarried, bytes_from_have, overlaid_has, used_has}
use Rattle.ir_machine.proofs.Valid.{known_closed}
use Rattle.ir_machine.proofs.Linked.{with_stack, onto}
use Rattle.law_premises.specs.Premises.{JustifiesItself, StandLive}
use Rattle.laws_uses.proofs.Marks.{Has, IsFrom, unmarked, lacks_carried}
use Rattle.laws_uses.proofs.Levels.{OnCapture, OnRead, OnWrite, arg_uncaptured}
use Rattle.laws_uses.proofs.Guarding.{promise_made}
use Rattle.laws_uses.proofs.Sealed.{IsSafe, Guarded, OwnsWell, ForSecrets, for_top, under_top_of, KeptOf, Inv, HappensClear, BeginsWell, C}
use Rattle.laws_uses.proofs.Using.{outside_safe, clear_capture, clear_read, clear_write, unmarked_guarded}
use Rattle.laws_uses.proofs.Calls.{passed_from, same_pointer, body_begins}
use Rattle.laws_uses.proofs.Crossing.{StandsIn, through_well}
use Rattle.laws_uses.proofs.Coming.{coming_well}
use Rattle.laws_uses.proofs.Acting.{CameAbove, Given, fair_says, body_well}

-- what came in as an argument of a call, if it has the mark
from_carried : (count : ℕ) (call : Begun) (c j : ℕ) → IsCarried count (λ x. Has c j x → IsFrom call c j x)
from_carried count call c j = record {
  bare = λ x bare has. absurd (unmarked c j x.origins bare.origins has);
  block = λ b o low has. absurd (unmarked c j [] refl has);
  moved = λ x d from same has. record {
    at = (from has).at;
    argument = (from has).argument;
    passed = (from has).passed;
    has = (from has).has;
    own =
        (from has).own;
    marks = (from has).marks;
  };
}

touched_ptr : (mem : Memory) (size : ℕ) (d : Datum) → can_touch mem size d ≡ true → (o : ℕ) × (d ≡ datum.Ptr (block_in d) o)
touched_ptr mem size (datum.Ptr block offset) e = (offset, refl)
touched_ptr mem size datum.Null e = absurd (cc)
touched_ptr mem size datum.Undef e = absurd (cc)
touched_ptr mem size datum.Poison e = absurd (cc)
touched_ptr mem size (datum.Int bits) e = absurd (cc)
touched_ptr mem size datum.Pair e = absurd (cc)

no_marks : (origins : List Mark) → are_same_marks origins [] ≡ true → origins ≡ []
no_marks [] e = refl
no_marks (k ∷ origins) e = absurd (cc)

-- a value of a type that is no pointer has no origins
typed_bare : (m : Module) (ty : TypeId) (x : Value) → is_value_of m ty x ≡ true → is_ptr_type m ty ≡ false → x.origins ≡ []
typed_bare m ty x typed none = by (type_of m ty) (and_parts (is_datum_of (type_of m ty) x.datum) (may_have_origins (type_of m ty) x) typed).1 none
  where
    by : (found : Option IrType) → may_have_origins found x ≡ true → is_pointer_in found ≡ false → x.origins ≡ []
    by None may none = no_marks x.origins may
    by (Some type.Ptr) may none = absurd (cc)
    by (Some (type.Int width)) may none = no_marks x.origins may
    by (Some (type.Struct fields packed)) may none = no_marks x.origins may
    by (Some type.Void) may none = no_marks x.origins may
    by (Some (type.Array n elem)) may none = no_marks x.origins may
    by (Some type.Opaque) may none = no_marks x.origins may

-- each value that is passed can be used, and is of its type
passes_at : (m : Module) (t : State) (frame : OutsideFrame) (params : List Param) (xs : List Value) → can_pass m t frame params xs ≡ true →
    (k : ℕ) (y : Value) →
    slice_get xs k ≡ Some y → (can_use t frame y ≡ true) × ((ty : TypeId) → slice_get (types_of params) k ≡ Some ty → is_value_of m ty y ≡ true)
passes_at m t frame [] [] can k y e = absurd (cc)
passes_at m t frame [] (x ∷ xs) can k y e = absurd (cc)
passes_at m t frame (p ∷ params) [] can k y e = absurd (cc)
passes_at m t frame (p ∷ params) (x ∷ xs) can zero y e =
    let parts = and_parts (can_use t frame x && is_value_of m p.ty x) (can_pass m t frame params xs) can in
    let first = and_parts (can_use t frame x) (is_value_of m p.ty x) parts.0 in
    let same : x ≡ y = cc in (
      subst (λ x. can_use t frame x ≡ true) same first.0,
      (λ ty at. let same_ty : p.ty ≡ ty = cc in
          subst (λ ty. is_value_of m ty y ≡ true) same_ty (subst (λ x. is_value_of m p.ty x ≡ true) same first.1)),
    )
passes_at m t frame (p ∷ params) (x ∷ xs) can (suc k) y e =
    passes_at m t frame params xs (and_parts (can_use t frame x && is_value_of m p.ty x) (can_pass m t frame params xs) can).1 k y e

module _ (m : Module) (formed : IsWellFormed m) (held : Fact → Bool) (is : JustifiesItself m held) (access : Option Access) (t : State) (valid : IsValid t)
    (inv : Inv m held access t) where
  abbrev Asked : List Move → Type 0
  Asked moves = Given m held (done t moves) → Along (C m held access) t moves

  module _ (frame : OutsideFrame) (rest : List Frame) (stack : t.stack ≡ Outside frame ∷ rest) where
    abbrev old : List Frame
    old = Outside frame ∷ rest

    own : AllByRecursion (OwnsWell m held access) old
    own = subst (AllByRecursion (OwnsWell m held access)) stack inv.own

    kept : ForSecrets m held access old (KeptOf m held access t)
    kept = subst (λ s. ForSecrets m held access s (KeptOf m held access t)) stack inv.kept

    order : AreOrdered t.born t.next_call t.memory.count old
    order = subst (AreOrdered t.born t.next_call t.memory.count) stack valid.order

    known : AllByRecursion (HasAll (Known (scope_of t))) old
    known = subst (AllByRecursion (HasAll (Known (scope_of t)))) stack valid.known.frames

    use_known : (x : Value) → can_use t frame x ≡ true → Known (scope_of t) x
    use_known x can = used_has t.memory.count (Known (scope_of t)) (known_closed.carried (scope_of t)) t frame refl known.0.1 valid.known.kept x can

    silent : ForSecrets m held access old (λ above low j. Unit {0})
    silent above low below e j secret = tt

    -- what the outside can use came in to it as an argument, and is guarded
    use_from : (x : Value) → can_use t frame x ≡ true →
        ForSecrets m held access rest (λ above low j. Has low.call.number j x → IsFrom frame.call low.call.number j x)
    use_from x can above low below e j secret =
        let here = under_top_of m held access (KeptOf m held access t) (Outside frame) rest kept above low below e j secret in
        used_has t.memory.count (λ x. Has low.call.number j x →
        IsFrom frame.call low.call.number j x) (from_carried t.memory.count frame.call low.call.number j)
        t frame refl here.0.0.values
        (every_mapped (λ x. Has low.call.number j x → ⊥) (λ x. Has low.call.number j x →
        IsFrom frame.call low.call.number j x) t.kept (λ x lacks has. absurd (lacks has))
        here.1.kept) x can

    use_guarded : (x : Value) → can_use t frame x ≡ true →
        ForSecrets m held access old (λ above low j. Has low.call.number j x → Guarded m held access above x)
    use_guarded x can =
        for_top m held access (λ above low j. Has low.call.number j x → Guarded m held access above x) (Outside frame) rest
        (λ low e j secret. absurd (cc))
        (λ above low below e j secret has.
        let here = under_top_of m held access (KeptOf m held access t) (Outside frame) rest kept above low below e j secret in
        outside_safe m held access frame above low.call.number j x here.0.0 (use_from x can above low below e j secret has))

    use_or : (P : Type 0) (x : Value) → can_use t frame x ≡ true →
        ForSecrets m held access old (λ above low j. Has low.call.number j x → P ⊎ Guarded m held access above x)
    use_or P x can above low below e j secret has = inr (use_guarded x can above low below e j secret has)

    -- ---- what is read

    abbrev Lacking : Value → Type 0
    Lacking x = ForSecrets m held access old (λ above low j. Has low.call.number j x → ⊥)

    byte_lacking : (b : Byte) → ForSecrets m held access old (λ above low j. IsByteOf (λ x. Has low.call.number j x → ⊥) b) → IsByteOf Lacking b
    byte_lacking (byte.Number n) all = tt
    byte_lacking byte.Undef all = tt
    byte_lacking byte.Poison all = tt
    byte_lacking (byte.Fragment k x) all = all

    pointers_lacking : (seen : List Value) (bytes : List Byte) → AllByRecursion (IsByteOf Lacking) bytes → AllByRecursion Lacking (pointers_in seen bytes)
    pointers_lacking seen [] all = tt
    pointers_lacking seen (byte.Fragment k x ∷ bytes) all =
        by (list_any (is_same_value x) seen) (pointers_lacking seen bytes all.1) (pointers_lacking (x ∷ seen) bytes all.1)
      where
        by : (b : Bool) → AllByRecursion Lacking (pointers_in seen bytes) → AllByRecursion Lacking (pointers_in (x ∷ seen) bytes) →
            AllByRecursion Lacking (if b then pointers_in seen bytes else x ∷ pointers_in (x ∷ seen) bytes)
        by true these those = these
        by false these those = (all.0, those)
    pointers_lacking seen (byte.Number n ∷ bytes) all = pointers_lacking seen bytes all.1
    pointers_lacking seen (byte.Undef ∷ bytes) all = pointers_lacking seen bytes all.1
    pointers_lacking seen (byte.Poison ∷ bytes) all = pointers_lacking seen bytes all.1

    read_lacking : (p : Value) (size : ℕ) → AllByRecursion Lacking (pointers_in [] (reads_at t.memory p size))
    read_lacking p size =
        pointers_lacking [] (reads_at t.memory p size)
        (bytes_from_have t.memory.count Lacking lacking_closed (t.memory.bytes (block_in p.datum))
        (λ at. byte_lacking (t.memory.bytes (block_in p.datum) at) (λ above low below e j secret. (kept above low below e j secret).1.bytes (block_in p.datum)
        at))
        (offset_in p.datum) size)
      where
        lacking_closed : IsCarried t.memory.count Lacking
        lacking_closed = record {
          bare = λ x bare above low below e j secret. unmarked low.call.number j x.origins bare.origins;
          block = λ b o low' above low below e j secret. unmarked low.call.number j [] refl;
          moved = λ x d lacks same. lacks;
        }

    taking_well : (u : State) (hand : OutsideFrame) (xs : List Value) → AllByRecursion Lacking xs →
        Along (C m held access) (with_stack u (Outside hand ∷ rest)) (taking xs)
    taking_well u hand [] all = tt
    taking_well u hand (x ∷ xs) all = (
      (λ above low below e j secret has. absurd (all.0 (Outside frame ∷ above) low below (ap (λ l. Outside frame ∷ l) e) j secret has)),
      taking_well u (with_hand x hand) xs all.1,
    )

    -- ---- what is written

    -- each pointer of which a fragment is written would be captured
    written_lacking : (bytes : List Byte) → list_all (can_write t frame) bytes ≡ true →
        AllByRecursion (λ what. IsFair m (event t.stack what)) (captures_in bytes) →
        AllByRecursion (IsByteOf Lacking) bytes
    written_lacking [] can fair = tt
    written_lacking (byte.Number n ∷ bytes) can fair =
        (tt, written_lacking bytes (and_parts (can_write t frame (byte.Number n)) (list_all (can_write t frame) bytes) can).1 fair)
    written_lacking (byte.Undef ∷ bytes) can fair = (tt, written_lacking bytes can fair)
    written_lacking (byte.Poison ∷ bytes) can fair = (tt, written_lacking bytes can fair)
    written_lacking (byte.Fragment k x ∷ bytes) can fair =
        let parts = and_parts (can_write t frame (byte.Fragment k x)) (list_all (can_write t frame) bytes) can in (
          unmarked_guarded m held t old (event t.stack (Capture x.origins)) fair.0 (ap (map active) stack) order access x refl
              (use_guarded x (and_parts _ (can_use t frame x) parts.0).1),
          written_lacking bytes parts.1 fair.1,
        )

    written_captures : (bytes : List Byte) → list_all (can_write t frame) bytes ≡ true →
        AllByRecursion (λ what. IsFair m (event t.stack what)) (captures_in bytes) →
        AllByRecursion (λ what. HappensClear m held access old what) (captures_in bytes)
    written_captures [] can fair = tt
    written_captures (byte.Number n ∷ bytes) can fair =
        written_captures bytes (and_parts (can_write t frame (byte.Number n)) (list_all (can_write t frame) bytes) can).1 fair
    written_captures (byte.Undef ∷ bytes) can fair = written_captures bytes can fair
    written_captures (byte.Poison ∷ bytes) can fair = written_captures bytes can fair
    written_captures (byte.Fragment k x ∷ bytes) can fair =
        let parts = and_parts (can_write t frame (byte.Fragment k x)) (list_all (can_write t frame) bytes) can in (
          (
            clear_capture m held t old (event t.stack (Capture x.origins)) fair.0 (ap (map active) stack) order access x refl
                (use_or (OnCapture access ⊥) x (and_parts _ (can_use t frame x) parts.0).1),
            tt,
          ),
          written_captures bytes parts.1 fair.1,
        )

    byte_of : (c j : ℕ) (b : Byte) → (IsByteOf Lacking b) → ((x : Value) → Lacking x → Has c j x → ⊥) → IsByteOf (λ x. Has c j x → ⊥) b
    byte_of c j (byte.Number n) is leads = tt
    byte_of c j byte.Undef is leads = tt
    byte_of c j byte.Poison is leads = tt
    byte_of c j (byte.Fragment k x) is leads = leads x is

    -- ---- a body that is entered

    entering_well : (f : ℕ) (xs args : List Value) → can_pass m t frame (params_of m f) xs ≡ true →
        entered t.memory (params_of m f) (passed_to m t (passing_in m f xs)) ≡ Gives args →
        BeginsWell m held access t (Body (body_frame m t (passing_in m f xs) f args))
    entering_well f xs args can enters =
        let new = body_frame m t (passing_in m f xs) f args in
        body_begins m held access t valid.known valid.order (passing_in m f xs)
        (all_known xs (λ k y at. use_known y (passes_at m t frame (params_of m f) xs can k y at).0))
        pointers f args new refl refl refl refl enters
        (subst (λ s. ForSecrets m held access s (λ above low j. (k : ℕ) (y : Value) → slice_get xs k ≡ Some y → Has low.call.number j y →
        (IsSafe m held access (Body new) k ⊎ Guarded m held access above y) × CameAbove above low.call.number j y)) (sym stack)
        (for_top m held access (λ above low j. (k : ℕ) (y : Value) → slice_get xs k ≡ Some y → Has low.call.number j y →
        (IsSafe m held access (Body new) k ⊎ Guarded m held access above y) × CameAbove above low.call.number j y) (Outside frame) rest
        (λ low e j secret. absurd (cc))
        (λ above low below e j secret k y at_y has.
        let can_y = (passes_at m t frame (params_of m f) xs can k y at_y).0 in (
          inr (use_guarded y can_y (Outside frame ∷ above) low below (ap (λ l. Outside frame ∷ l) e) j secret has),
          use_from y can_y above low below e j secret has,
        ))))
      where
        all_known : (xs : List Value) → ((k : ℕ) (y : Value) → slice_get xs k ≡ Some y → Known (scope_of t) y) → AllByRecursion (Known (scope_of t)) xs
        all_known [] each = tt
        all_known (x ∷ xs) each = (each 0 x refl, all_known xs (λ k y at. each (suc k) y at))

        pointers : (k : ℕ) (x : Value) → slice_get (passed_to m t (passing_in m f xs)) k ≡ Some x → (ty : TypeId) →
            slice_get (types_of (params_of m f)) k ≡ Some ty → is_pointer m ty ≡ false → x.origins ≡ []
        pointers k x at ty at_ty none =
            let found = passed_from m t.next_call 0 (types_of (params_of m f)) xs k x at in
            let same : found.0 ≡ ty = some_is (sym found.2 ∙ at_ty) in
            let no_pointer : is_ptr_type m found.0 ≡ false = subst (λ ty. is_ptr_type m ty ≡ false) (sym same) (same_pointer m ty ∙ none) in
            let typed = (passes_at m t frame (params_of m f) xs can k found.1 found.3).1 found.0 found.2 in
            plain (is_ptr_type m found.0) no_pointer found.1 (record {
              call = t.next_call;
              param =
                  0 + k;
            }) found.4 (typed_bare m found.0 found.1 typed no_pointer)
          where
            some_is : {a b : TypeId} → Some a ≡ Some b → a ≡ b
            some_is e = cc

            plain : (b : Bool) → b ≡ false → (y : Value) (k : Mark) → x ≡ (if b then marked k y else y) → y.origins ≡ [] → x.origins ≡ []
            plain true e y k is none = absurd (cc)
            plain false e y k is none = ap (λ (x : Value). x.origins) is ∙ none

    -- ---- the acts

    ends_at : (moves : List Move) → (after (with_stack t old) moves).stack ≡ (after t moves).stack
    ends_at moves = subst (λ s. (after (with_stack t s) moves).stack ≡ (after t moves).stack) stack refl

    stand_all : (top : Frame) (below : List Frame) → AreLinked m top below → AllByRecursion (StandsIn m formed held is access) below
    stand_all top [] h = tt
    stand_all top (Body under ∷ []) h = (h.2.0.1, tt)
    stand_all top (Outside under ∷ []) h = (tt, tt)
    stand_all top (Body under ∷ f ∷ below) h = (h.2.0.1, stand_all (Body under) (f ∷ below) h.2)
    stand_all top (Outside under ∷ f ∷ below) h = (tt, stand_all (Outside under) (f ∷ below) h.2)

    returned_use : (ty : Option TypeId) (x : Option Value) (w : Value) → can_return m t frame ty x ≡ true → x ≡ Some w → can_use t frame w ≡ true
    returned_use ty None w can e = absurd (cc)
    returned_use None (Some x) w can e = absurd (cc)
    returned_use (Some ty) (Some x) w can e =
        let same : x ≡ w = cc in subst (λ x. can_use t frame x ≡ true) same (and_parts (can_use t frame x) (is_value_of m ty x) can).0

    pub outside_well : EachAct m t frame rest Asked
    outside_well = record {
      reading = λ p size can given.
          let parts = and_parts (can_use t frame p) (can_touch t.memory size p.datum) can in
          let points = touched_ptr t.memory size p.datum parts.1 in
          onto (C m held access) t old (Says (Read (block_in p.datum) p.origins) ∷ taking (pointers_in [] (reads_at t.memory p size))) stack (
            (
              clear_read m held t old (event t.stack (Read (block_in p.datum) p.origins)) given.fair.0 (ap (map active) stack) order access p (block_in p.datum)
                  points.0
                  (use_known p parts.0) points.1 refl (use_or (OnRead access ⊥) p parts.0),
              tt,
            ),
            taking_well t frame (pointers_in [] (reads_at t.memory p size)) (read_lacking p size),
          );
      writing = λ p bytes can given.
          let parts = and_parts (can_use t frame p && can_touch t.memory (length bytes) p.datum) (list_all (can_write t frame) bytes) can in
          let uses = and_parts (can_use t frame p) (can_touch t.memory (length bytes) p.datum) parts.0 in
          let points = touched_ptr t.memory (length bytes) p.datum uses.1 in
          let moves = Fills (block_in p.datum) (written_at t.memory p bytes) ∷ [] in
          let fair = fair_says m t (Write (block_in p.datum) p.origins ∷ captures_in bytes) moves given.fair in
          onto (C m held access) t old (says (Write (block_in p.datum) p.origins ∷ captures_in bytes) moves) stack
          (along_says (C m held access) (with_stack t old) (Write (block_in p.datum) p.origins ∷ captures_in bytes) moves (
            (
              clear_write m held t old (event t.stack (Write (block_in p.datum) p.origins)) fair.0 (ap (map active) stack) order access p (block_in p.datum)
                  points.0
                  (use_known p uses.0) points.1 refl (use_or (OnWrite access ⊥) p uses.0),
              tt,
            ),
            written_captures bytes parts.1 fair.1,
          ) (
            (λ above low below e j secret at.
                overlaid_has t.memory.count (λ x. Has low.call.number j x → ⊥) (lacks_carried t.memory.count low.call.number j) (offset_in p.datum) bytes
                (t.memory.bytes (block_in p.datum)) at
                (every_mapped (IsByteOf Lacking) (IsByteOf (λ x. Has low.call.number j x → ⊥)) bytes
                (λ b is. byte_of low.call.number j b is (λ x lacks. lacks above low below e j secret)) (written_lacking bytes parts.1 fair.1))
                ((kept above low below e j secret).1.bytes (block_in p.datum) at)),
            tt,
          ));
      hidden_reading = λ given. onto (C m held access) t old (Says HiddenRead ∷ []) stack ((silent, tt), tt);
      hidden_writing = λ given. onto (C m held access) t old (Says HiddenWrite ∷ []) stack ((silent, tt), tt);
      making = λ base size can given. (tt, tt);
      freeing = λ block can given. onto (C m held access) t old (Says (Free block) ∷ Turns block Dead ∷ []) stack ((silent, tt), (tt, tt));
      keeping = λ x can given. onto (C m held access) t old (Says (Capture x.origins) ∷ Keeps x ∷ []) stack (
        (
          clear_capture m held t old (event t.stack (Capture x.origins)) given.fair.0 (ap (map active) stack) order access x refl
              (use_or (OnCapture access ⊥) x can),
          tt,
        ),
        (unmarked_guarded m held t old (event t.stack (Capture x.origins)) given.fair.0 (ap (map active) stack) order access x refl (use_guarded x can), tt),
      );
      entering = λ f xs args is_open passes enters given.
          (entering_well f xs args passes enters, (((λ above low below e j secret. tt), tt), tt));
      returning = λ x picks moves can back given.
          let mem = without_allocas frame.call.number t.memory in
          let linked = subst (IsLinked m) stack given.linked in
          onto (C m held access) t old (Says (Return x) ∷ Ends ∷ moves) stack (
            (silent, tt),
            (
              tt,
              coming_well m formed held is access (done t (Says (Return x) ∷ Ends ∷ moves)) given.controlled.edges t
                  (moved (with_stack t old) Ends) mem None (Outside frame) rest x stack linked (subst (StandLive held) stack given.controlled.live).1 own.1 kept
                  t.memory.home (subst (ArgumentsAreOperands m t.memory.home) stack given.passed) t.born t.next_call t.memory.count order
                  (λ w e. record {
                    from = use_from w (returned_use (return_type m frame.call.made) x w can e);
                    released = λ k promise has. (given.fair.0 (Nocapture k) (active (Outside frame))
                        (promise_made m held access (Nocapture k) (active (Outside frame)) k refl promise
                        (arg_uncaptured m access k promise.1.op promise.4))).returned
                        (map active rest, ap (map active) stack) w (ap Return e) has;
                    types = λ s caller made at_s none. given.types.returns.0 (active (Outside frame)) s caller w (
                      map active rest,
                      ap (map active) stack,
                    ) (ap Return e) made
                        at_s none;
                  })
                  moves (came m mem None rest x picks moves back) (ends_at (Says (Return x) ∷ Ends ∷ moves)),
            ),
          );
      unwinding = λ picks moves gives given.
          onto (C m held access) t old (Says Unwind ∷ Ends ∷ moves) stack (
            (silent, tt),
            (
              tt,
              through_well m formed held is access (done t (Says Unwind ∷ Ends ∷ moves)) given.controlled.edges t
                  (moved (with_stack t old) Ends) (Outside frame ∷ []) t.memory rest stack own.1
                  (λ above low below e j secret.
                  let old_kept = under_top_of m held access (KeptOf m held access t) (Outside frame) rest kept above low below e j secret in
                  (old_kept.0.1, old_kept.1))
                  (stand_all (Outside frame) rest (subst (IsLinked m) stack given.linked)) moves (went_through m t.memory rest picks moves gives)
                  (ends_at (Says Unwind ∷ Ends ∷ moves)),
            ),
          );
    }

  -- each step is well with all secrets
  pub uses_step : (choice : Choice) → OnOutcome Asked (plan m t choice)
  uses_step choice =
      by_step m t Asked (record {
        body = λ frame below instr stack at. body_well m formed held is access t valid inv frame below instr stack at;
        outside = λ frame below stack. outside_well frame below stack;
      }) choice
