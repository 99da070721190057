-- The induction: each step brings values of the types that are written for them.
use Rattle.std.proofs.Common.{◌≡◌, ℕ, zero, suc, ◌+◌, ◌-◌, ◌==◌, ◌&&◌, nat_le, nat_lt, Bool, true, false, if◌then◌else◌, List, [], ◌∷◌, length, slice_get, map}
use Rattle.std.proofs.Common.{Option, None, Some, is_some, refl, sym, ap, subst, ◌∙◌, inl, inr}
use Rattle.std.specs.List.{AllByRecursion, list_all, find}
use Rattle.std.specs.Option.{option_map, option_and_then, unwrap_or}
use Rattle.std.proofs.lemmas.Bool.{and_parts}
use Rattle.std.proofs.lemmas.Option.{same_Some}
use Rattle.shelf.proofs.Every.{every_at}
use Rattle.attr_ids.specs.declared.ids.TypeId.{TypeId}
use Rattle.attr_ids.specs.declared.ids.ValueId.{ValueId}
use Rattle.ir_module.specs.declared.op.Arm.{Arm}
use Rattle.ir_module.specs.declared.op.Call.{Call}
use Rattle.ir_module.specs.declared.op.Op.{Op}
use Rattle.ir_module.specs.declared.op.Op.TheVariants as op
use Rattle.ir_module.specs.declared.op.Written.{Written}
use Rattle.ir_module.specs.declared.op.Instr.{Instr}
use Rattle.ir_module.specs.declared.module.Seg.{Seg}
use Rattle.ir_module.specs.declared.module.Spot.{Spot}
use Rattle.ir_module.specs.declared.module.ValueInfo.{ValueInfo}
use Rattle.ir_module.specs.declared.module.Module.{Module}
use Rattle.ir_module.specs.Places.{spot, instr_at, in_seg, first_seg_of, IsIn}
use Rattle.ir_module.specs.Calls.{call_of, promising}
use Rattle.ir_module.specs.WellFormed.{IsWellFormed}
use Rattle.facts.specs.Bodies.{is_pointer}
use Rattle.ir_machine.specs.declared.choice.Datum.{Datum}
use Rattle.ir_machine.specs.declared.choice.Datum.TheVariants as datum
use Rattle.ir_machine.specs.declared.choice.Value.{Value}
use Rattle.ir_machine.specs.declared.choice.Byte.{Byte}
use Rattle.ir_machine.specs.declared.choice.Byte.TheVariants as byte
use Rattle.ir_machine.specs.declared.choice.Choice.{Choice}
use Rattle.ir_machine.specs.Values.{plain, bytes_from, overlaid, stored_byte, stored}
use Rattle.ir_machine.specs.Memory.{Memory, Live, Closed, is_dead, put, without_allocas}
use Rattle.ir_machine.specs.Frames.{Lowest, Entered, At, Begun, BodyFrame, OutsideFrame, Frame, Body, Outside, Active, active, call_of as call_in, State}
use Rattle.ir_machine.specs.Frames.{What, Enter, Read, Write, HiddenRead, HiddenWrite, Free, Capture, Return, Unwind, Event, event}
use Rattle.ir_machine.specs.Moves.{Move, Says, Grows, Turns, Fills, Keeps, Sets, Goes, Takes, Begins, Ends, moved, set_on_top, gone_on_top, taken_on_top}
use Rattle.ir_machine.specs.Moves.{under_top, says, Gives, Undefined, Over, Plan}
use Rattle.ir_machine.specs.Reading.{Values, read, behind}
use Rattle.ir_machine.specs.Access.{alloca_shape, hidden, bytes_at, bytes_with}
use Rattle.ir_machine.specs.Edges.{Crossing, crossing, arm_from, instrs_in, first_instrs}
use Rattle.ir_machine.specs.Calls.{passed_to, params_of, entered, body_frame, acted_on, came_back, takes, with_result, is_end_name, marks_last, turns}
use Rattle.ir_machine.specs.Calls.{is_alloca_result}
use Rattle.ir_machine.specs.Outside.{is_ptr, can_use, can_touch, can_write, captures_in, written_at, block_in, offset_in, is_value_of, types_of, return_type}
use Rattle.ir_machine.specs.Outside.{can_return}
use Rattle.ir_machine.specs.Outside.{pointers_in, reads_at, taking}
use Rattle.ir_machine.specs.Steps.{plan}
use Rattle.ir_machine.specs.Runs.{Done, IsOpening, IsOpenByte, IsOpenDatum, run}
use Rattle.ir_machine.specs.Links.{BeginsAs, CallsBodyIn, CallsBody, IsLinked, AreLinked}
use Rattle.ir_machine.specs.Meanings.{IsBy}
use Rattle.ir_machine.proofs.Basics.{OnOutcome, on_with, given, put_has, Along, Law, Shown, run_law}
use Rattle.ir_machine.proofs.Instructions.{IsReadOr, EachKind, EachAct, by_step, here_in, passing_at, passing_in}
use Rattle.ir_machine.proofs.Moving.{IsPhiSet, IsCrossing, crossed, IsOnward, SetsFirst, IsGoingOn, went_on, IsComing, came, IsThrough, went_through, along_all}
use Rattle.law_premises.specs.Types.{AreAlike, IsWrittenAs, typed, GivesType, HasTypes, ReturnsType, IsPointerDatum, IsOf, HasType, FrameIsTyped}
use Rattle.laws_types.proofs.Typing.{AreTyped, number_of, pointer_of, read_typed, operand_typed, computed_typed, IsFragment, loaded_typed, acted_kind}
use Rattle.laws_types.proofs.Typing.{value_typed}
use Rattle.laws_types.proofs.Passing.{AllTyped, types_in, marked_typed, entered_typed, are_params, bound_typed, is_call_of, args_typed, args_fit}
use Rattle.laws_types.proofs.Passing.{EachAlike, each_refl, passes_typed, result_type}

-- ---- phis

arm_found : (source : ℕ) (arms : List Arm) (w : Written) → arm_from source arms ≡ Some w → (k : ℕ) × (arm : Arm) × (slice_get arms k ≡ Some arm) × (arm.val ≡ w)
arm_found source [] w e = absurd (cc)
arm_found source (arm ∷ arms) w e = by (arm.from.0 == source) refl e (λ e. arm_found source arms w e)
  where
    by : (b : Bool) → (arm.from.0 == source) ≡ b → option_map (λ (arm : Arm). arm.val) (if b then Some arm else
        find (λ (arm : Arm). arm.from.0 == source) arms) ≡ Some w →
        (arm_from source arms ≡ Some w → (k : ℕ) × (found : Arm) × (slice_get arms k ≡ Some found) × (found.val ≡ w)) →
        (k : ℕ) × (found : Arm) × (slice_get (arm ∷ arms) k ≡ Some found) × (found.val ≡ w)
    by true test e more = (0, arm, refl, cc)
    by false test e more = let later = more e in (suc later.0, later.1, later.2, later.3)

stands_first : (m : Module) (block at : ℕ) (instr : Instr) → slice_get (first_instrs m block) at ≡ Some instr →
    instr_at m (spot (first_seg_of m block) at) ≡ Some instr
unfolding instr_at
stands_first m block at instr e = by (slice_get m.segs (first_seg_of m block)) e
  where
    by : (found : Option Seg) → slice_get (instrs_in found) at ≡ Some instr → in_seg at found ≡ Some instr
    by None e = absurd (cc)
    by (Some seg) e = e

mapped_at : (arms : List Arm) (k : ℕ) (arm : Arm) → slice_get arms k ≡ Some arm → slice_get (map (λ (arm : Arm). arm.val) arms) k ≡ Some arm.val
mapped_at [] k arm e = absurd (cc)
mapped_at (a ∷ arms) zero arm e = ap (λ (a : Arm). Some a.val) (same_Some a arm e)
mapped_at (a ∷ arms) (suc k) arm e = mapped_at arms k arm e

-- ---- the invariant

module _ (m : Module) where
  -- what was passed to the call of the frame has the types that are written for it
  abbrev PassesTyped : Frame → Type 0
  PassesTyped frame = (s : Spot) (instr : Instr) (call : Call) → (call_in frame).made ≡ At s → instr_at m s ≡ Some instr → call_of instr.op ≡ Some call →
      AllTyped m (types_in call.args) (call_in frame).passed

  -- the parameters of a body have the types that are written for them
  abbrev pub ParamsTyped : Frame → Type 0
  ParamsTyped (Body frame) = AllTyped m (types_of (params_of m frame.func)) frame.call.args
  ParamsTyped (Outside frame) = Unit {0}

  abbrev pub IsWell : Frame → Type 0
  IsWell frame = FrameIsTyped m frame × (PassesTyped frame × ParamsTyped frame)

  pub record Inv (t : State) : Type 0 where
    pub frames : AllByRecursion IsWell t.stack
    pub bytes : (b at : ℕ) → IsFragment (t.memory.bytes b at)

  -- what the frame on top returns has the type of the instruction that called it
  abbrev ReturnsTyped : Begun → Value → Type 0
  ReturnsTyped call x = (s : Spot) (instr : Instr) → call.made ≡ At s → instr_at m s ≡ Some instr → HasType m instr.ty x

  abbrev TopReturns : List Frame → Option Value → Type 0
  TopReturns [] x = Unit {0}
  TopReturns (top ∷ below) None = Unit {0}
  TopReturns (top ∷ below) (Some x) = ReturnsTyped (call_in top) x

  abbrev SaysTyped : List Frame → What → Type 0
  SaysTyped stack (Return x) = TopReturns stack x
  SaysTyped stack (Enter f) = Unit {0}
  SaysTyped stack (Read b origins) = Unit {0}
  SaysTyped stack (Write b origins) = Unit {0}
  SaysTyped stack HiddenRead = Unit {0}
  SaysTyped stack HiddenWrite = Unit {0}
  SaysTyped stack (Free b) = Unit {0}
  SaysTyped stack (Capture origins) = Unit {0}
  SaysTyped stack Unwind = Unit {0}

  abbrev SetsTyped : ℕ → Value → Type 0
  SetsTyped v x = (info : ValueInfo) → slice_get m.values v ≡ Some info → HasType m info.ty x

  -- what is asked of a move
  abbrev C : State → Move → Type 0
  C t (Says what) = SaysTyped t.stack what
  C t (Grows shape) = Unit {0}
  C t (Turns block life') = Unit {0}
  C t (Fills block bytes) = (at : ℕ) → IsFragment (bytes at)
  C t (Keeps x) = Unit {0}
  C t (Sets v x) = SetsTyped v x
  C t (Goes s) = Unit {0}
  C t (Takes x) = Unit {0}
  C t (Begins frame) = IsWell frame
  C t Ends = Unit {0}

  -- the same, of moves that return nothing
  abbrev IsNoReturn : What → Type 0
  IsNoReturn (Return x) = ⊥
  IsNoReturn _ = Unit {0}

  abbrev D : Move → Type 0
  D (Says what) = IsNoReturn what
  D (Grows shape) = Unit {0}
  D (Turns block life') = Unit {0}
  D (Fills block bytes) = (at : ℕ) → IsFragment (bytes at)
  D (Keeps x) = Unit {0}
  D (Sets v x) = SetsTyped v x
  D (Goes s) = Unit {0}
  D (Takes x) = Unit {0}
  D (Begins frame) = IsWell frame
  D Ends = Unit {0}

  says_leads : (stack : List Frame) (what : What) → IsNoReturn what → SaysTyped stack what
  says_leads stack (Return x) d = absurd d
  says_leads stack (Enter f) d = tt
  says_leads stack (Read b origins) d = tt
  says_leads stack (Write b origins) d = tt
  says_leads stack HiddenRead d = tt
  says_leads stack HiddenWrite d = tt
  says_leads stack (Free b) d = tt
  says_leads stack (Capture origins) d = tt
  says_leads stack Unwind d = tt

  leads : (t : State) (x : Move) → D x → C t x
  leads t (Says what) d = says_leads t.stack what d
  leads t (Grows shape) d = tt
  leads t (Turns block life') d = tt
  leads t (Fills block bytes) d = d
  leads t (Keeps x) d = tt
  leads t (Sets v x) d = d
  leads t (Goes s) d = tt
  leads t (Takes x) d = tt
  leads t (Begins frame) d = d
  leads t Ends d = tt

  along : (t : State) (moves : List Move) → AllByRecursion D moves → Along C t moves
  along t moves all = along_all C D leads t moves all

  -- ---- each move

  set_well : (v : ℕ) (x : Value) (stack : List Frame) → SetsTyped v x → AllByRecursion IsWell stack → AllByRecursion IsWell (set_on_top v x stack)
  set_well v x [] has all = tt
  set_well v x (Outside f ∷ below) has all = all
  set_well v x (Body f ∷ below) has all = ((values, all.0.1), all.1)
    where
      values : AreTyped m (put v (Some x) f.values)
      values n info y at is =
          put_has (λ n (found : Option Value). slice_get m.values n ≡ Some info → found ≡ Some y → HasType m info.ty y) v (Some x) f.values n
          (λ at same. subst (λ z. HasType m info.ty z) (same_Some x y same) (has info at)) (λ at same. all.0.0 n info y at same) at is

  gone_well : (s : Spot) (stack : List Frame) → AllByRecursion IsWell stack → AllByRecursion IsWell (gone_on_top s stack)
  gone_well s [] all = tt
  gone_well s (Body f ∷ below) all = all
  gone_well s (Outside f ∷ below) all = all

  taken_well : (x : Value) (stack : List Frame) → AllByRecursion IsWell stack → AllByRecursion IsWell (taken_on_top x stack)
  taken_well x [] all = tt
  taken_well x (Body f ∷ below) all = all
  taken_well x (Outside f ∷ below) all = all

  under_well : (stack : List Frame) → AllByRecursion IsWell stack → AllByRecursion IsWell (under_top stack)
  under_well [] all = tt
  under_well (top ∷ below) all = all.1

  inv_moved : (t : State) (x : Move) → Inv t → C t x → Inv (moved t x)
  inv_moved t (Says what) inv c = inv
  inv_moved t (Grows shape) inv c = record {
    frames = inv.frames;
    bytes = λ b at. put_has (λ n (bytes : ℕ → Byte). IsFragment (bytes at)) t.memory.count (λ at. byte.Undef) t.memory.bytes b tt (inv.bytes b at);
  }
  inv_moved t (Turns block life') inv c = record { frames = inv.frames; bytes = inv.bytes }
  inv_moved t (Fills block bytes) inv c = record {
    frames = inv.frames;
    bytes = λ b at. put_has (λ n (bytes : ℕ → Byte). IsFragment (bytes at)) block bytes t.memory.bytes b (c at) (inv.bytes b at);
  }
  inv_moved t (Keeps x) inv c = record { frames = inv.frames; bytes = inv.bytes }
  inv_moved t (Sets v x) inv c = record { frames = set_well v x t.stack c inv.frames; bytes = inv.bytes }
  inv_moved t (Goes s) inv c = record { frames = gone_well s t.stack inv.frames; bytes = inv.bytes }
  inv_moved t (Takes x) inv c = record { frames = taken_well x t.stack inv.frames; bytes = inv.bytes }
  inv_moved t (Begins frame) inv c = record { frames = (c, inv.frames); bytes = inv.bytes }
  inv_moved t Ends inv c = record { frames = under_well t.stack inv.frames; bytes = inv.bytes }

  -- what a call returns to an instruction has its type
  abbrev pub HasReturnType : Event → Type 0
  HasReturnType e = (a : Active) (s : Spot) (instr : Instr) (x : Value) → IsBy a e → e.what ≡ Return (Some x) → a.call.made ≡ At s → instr_at m s ≡ Some instr →
      HasType m instr.ty x

  says_event : (stack : List Frame) (what : What) → SaysTyped stack what → HasReturnType (event stack what)
  says_event [] what c a s instr x by is made at = absurd (none by)
    where
      none : IsBy a (event [] what) → ⊥
      none (below, e) = cc
  says_event (top ∷ rest) (Return None) c a s instr x by is made at = absurd (cc)
  says_event (top ∷ rest) (Return (Some y)) c a s instr x (below, e) is made at =
      let same : active top ≡ a = cc in
      let one : y ≡ x = cc in
      subst (λ z. HasType m instr.ty z) one (c s instr (ap (λ (a : Active). a.call.made) same ∙ made) at)
  says_event (top ∷ rest) (Enter f) c a s instr x by is made at = absurd (cc)
  says_event (top ∷ rest) (Read b origins) c a s instr x by is made at = absurd (cc)
  says_event (top ∷ rest) (Write b origins) c a s instr x by is made at = absurd (cc)
  says_event (top ∷ rest) HiddenRead c a s instr x by is made at = absurd (cc)
  says_event (top ∷ rest) HiddenWrite c a s instr x by is made at = absurd (cc)
  says_event (top ∷ rest) (Free b) c a s instr x by is made at = absurd (cc)
  says_event (top ∷ rest) (Capture origins) c a s instr x by is made at = absurd (cc)
  says_event (top ∷ rest) Unwind c a s instr x by is made at = absurd (cc)

  law : Law Inv C HasReturnType
  law = record { move = inv_moved; happens = λ t what inv c. says_event t.stack what c }

  -- ---- pieces of steps

  says_all : (whats : List What) (moves : List Move) → AllByRecursion IsNoReturn whats → AllByRecursion D moves → AllByRecursion D (says whats moves)
  says_all [] moves none all = all
  says_all (what ∷ whats) moves none all = (none.0, says_all whats moves none.1 all)

  hidden_none : (volatile : Bool) (p : Value) → AllByRecursion IsNoReturn (hidden volatile p)
  hidden_none true p = (tt, (tt, (tt, tt)))
  hidden_none false p = tt

  module _ (formed : IsWellFormed m) (types : HasTypes m) where
    set_typed : (s : Spot) (instr : Instr) (v : ValueId) (x : Value) → instr_at m s ≡ Some instr → instr.result ≡ Some v → HasType m instr.ty x →
        SetsTyped v.0 x
    set_typed s instr v x at has is info at_v = subst (λ t. HasType m t x) (result_type m formed s instr v info at has at_v) is

    crossing_all : (way : Crossing) → AreTyped m way.values → (moves : List Move) → IsCrossing m way moves → AllByRecursion D moves
    crossing_all way all [] is = absurd is
    crossing_all way all (Sets v x ∷ moves) (phi, more) = (
      subst (λ n. SetsTyped n x) phi.is (set_typed (spot (first_seg_of m way.target) phi.at) phi.instr phi.result x
          (stands_first m way.target phi.at phi.instr phi.stands) phi.has (has_type phi)),
      crossing_all way all moves more,
    )
      where
        has_type : (phi : IsPhiSet m way v x) → HasType m phi.instr.ty x
        has_type phi =
            let found = arm_found way.source phi.arms phi.arm phi.from_arm in
            let is = types.instrs (spot (first_seg_of m way.target) phi.at) phi.instr (stands_first m way.target phi.at phi.instr phi.stands) in
            let gives = subst (λ o. GivesType m phi.instr.ty o) phi.phi is.result found.0 found.1 found.2 in
            let written = subst (λ o. (k : ℕ) (w : Written) → slice_get (typed o) k ≡ Some w →
            IsWrittenAs m w.ty w.val) phi.phi is.operands found.0 found.1.val (mapped_at phi.arms found.0 found.1 found.2) in
            subst (λ k. IsOf k x) gives
            (read_typed m way.memory way.values all found.1.val x phi.picks phi.rest written
            (subst (λ w. read m way.memory way.values w phi.picks ≡ Gives (record { value = x; picks = phi.rest })) (sym found.3) phi.reads))
    crossing_all way all (Goes s ∷ moves) is = (tt, subst (AllByRecursion D) (sym is.1) tt)
    crossing_all way all (Says what ∷ moves) is = absurd is
    crossing_all way all (Grows shape ∷ moves) is = absurd is
    crossing_all way all (Turns block life' ∷ moves) is = absurd is
    crossing_all way all (Fills block bytes ∷ moves) is = absurd is
    crossing_all way all (Keeps x ∷ moves) is = absurd is
    crossing_all way all (Takes x ∷ moves) is = absurd is
    crossing_all way all (Begins frame ∷ moves) is = absurd is
    crossing_all way all (Ends ∷ moves) is = absurd is

    onward_all : (mem : Memory) (frame : BodyFrame) (values : Values) (o : Op) (moves : List Move) → AreTyped m values → IsOnward m mem frame values o moves →
        AllByRecursion D moves
    onward_all mem frame values (op.Call call) moves all is = subst (AllByRecursion D) (sym is) (tt, tt)
    onward_all mem frame values (op.Invoke call normal unwind) moves all is = crossing_all (crossing m mem frame values normal.0) all moves is
    onward_all mem frame values _ moves all is = absurd is

    result_typed : (result : Option ValueId) (x : Option Value) (values : Values) →
        ((v : ValueId) (y : Value) → result ≡ Some v → x ≡ Some y → SetsTyped v.0 y) →
        AreTyped m values → AreTyped m (with_result result x values)
    result_typed None x values has all = all
    result_typed (Some v) None values has all = all
    result_typed (Some v) (Some y) values has all = λ n info z at is.
        put_has (λ n (found : Option Value). slice_get m.values n ≡ Some info → found ≡ Some z → HasType m info.ty z) v.0 (Some y) values n
        (λ at same. subst (λ z. HasType m info.ty z) (same_Some y z same) (has v y refl refl info at)) (λ at same. all n info z at same) at is

    going_all : (mem : Memory) (frame : BodyFrame) (instr : Instr) (x : Option Value) (moves : List Move) → AreTyped m frame.values →
        ((v : ValueId) (y : Value) → instr.result ≡ Some v → x ≡ Some y → SetsTyped v.0 y) → IsGoingOn m mem frame instr x moves → AllByRecursion D moves
    going_all mem frame instr x moves all has (rest, onward, first) =
        by instr.result x (λ v y e f. has v y e f)
        (onward_all mem frame (with_result instr.result x frame.values) instr.op rest (result_typed instr.result x frame.values has all) onward) first
      where
        by : (result : Option ValueId) (x : Option Value) → ((v : ValueId) (y : Value) → result ≡ Some v → x ≡ Some y → SetsTyped v.0 y) →
            AllByRecursion D rest →
            SetsFirst result x rest moves → AllByRecursion D moves
        by None x has rest_all is = subst (AllByRecursion D) (sym is) rest_all
        by (Some v) None has rest_all is = absurd is
        by (Some v) (Some y) has rest_all is = subst (AllByRecursion D) (sym is) (has v y refl refl, rest_all)

    -- what comes back is of the kind of what was returned
    came_back_kind : (kind : Bool) (mem : Memory) (body : Option ℕ) (o : Op) (x y : Option Value) (z : Value) → ((w : Value) → x ≡ Some w → IsOf kind w) →
        came_back m mem body o x ≡ Gives y → y ≡ Some z → IsOf kind z
    came_back_kind kind mem body o x y z has gives is =
        given (λ (y : Option Value). (z : Value) → y ≡ Some z → IsOf kind z) (came_back m mem body o x) y (by body x has) gives z is
      where
        by : (body : Option ℕ) (x : Option Value) → ((w : Value) → x ≡ Some w → IsOf kind w) →
            OnOutcome (λ (y : Option Value). (z : Value) → y ≡ Some z → IsOf kind z) (came_back m mem body o x)
        by None None has = λ z e. absurd (cc)
        by None (Some w) has =
            on_with (λ (y : Option Value). (z : Value) → y ≡ Some z → IsOf kind z) (acted_on mem (map (λ attrs. attrs.ret) (promising m o)) w) _
            (λ y acted z e. subst (λ z. IsOf kind z) (same_Some y z e)
            (given (IsOf kind) (acted_on mem (map (λ attrs. attrs.ret) (promising m o)) w) y
            (acted_kind kind mem (map (λ attrs. attrs.ret) (promising m o)) w (has w refl)) acted))
        by (Some f) x has = λ z e. has z e

    coming_all : (mem : Memory) (body : Option ℕ) (top : Frame) (below : List Frame) (x : Option Value) (moves : List Move) → AreLinked m top below →
        AllByRecursion IsWell below → ((w : Value) → x ≡ Some w → ReturnsTyped (call_in top) w) → IsComing m mem body below x moves → AllByRecursion D moves
    coming_all mem body top [] x moves h all has is = absurd is
    coming_all mem body top (Outside under ∷ below) x moves h all has is = subst (AllByRecursion D) (sym is) (by x)
      where
        by : (x : Option Value) → AllByRecursion D (takes x)
        by None = tt
        by (Some x) = (tt, tt)
    coming_all mem body top (Body under ∷ below) x moves h all has (instr, y, at, back, goes) =
        going_all mem under instr y moves all.0.0
        (λ v z result is. set_typed under.spot instr v z at result
        (came_back_kind (is_pointer m instr.ty) mem body instr.op x y z (λ w e. has w e under.spot instr h.1 at) back is)) goes

    through_all : (mem : Memory) (below : List Frame) (moves : List Move) → AllByRecursion IsWell below → IsThrough m mem below moves → AllByRecursion D moves
    through_all mem [] moves all is = absurd is
    through_all mem (Outside under ∷ below) moves all is = subst (AllByRecursion D) (sym is) tt
    through_all mem (Body under ∷ below) moves all is =
        elim is [
          | inl (picks, rest, block, lands, crossing_is) ↦ crossing_all (crossing m mem under under.values block) all.0.0 moves crossing_is
          | inr (picks, rest, more, passes, eq, through) ↦
              subst (AllByRecursion D) (sym eq) (tt, (tt, through_all mem below more all.1 through))
        ]

    turns_all : (mem : Memory) (is_end : Bool) (d : Datum) (moves : List Move) → AllByRecursion D moves → AllByRecursion D (turns mem is_end d moves)
    turns_all mem is_end (datum.Ptr block offset) moves all = by (is_dead (mem.life block)) is_end
      where
        by : (dead is_end : Bool) → AllByRecursion D (if dead then moves else (if is_end then Turns block Closed ∷ moves
            else Turns block Live ∷ Fills block (λ at. byte.Undef) ∷ moves))
        by true is_end = all
        by false true = (tt, all)
        by false false = (tt, ((λ at. tt), all))
    turns_all mem is_end datum.Null moves all = all
    turns_all mem is_end datum.Undef moves all = all
    turns_all mem is_end datum.Poison moves all = all
    turns_all mem is_end (datum.Int bits) moves all = all
    turns_all mem is_end datum.Pair moves all = all

    marks_all : (mem : Memory) (is_end : Bool) (ws : List Written) (xs : List Value) (moves : List Move) → AllByRecursion D moves →
        AllByRecursion D (marks_last m mem is_end ws xs moves)
    marks_all mem is_end [] xs moves all = all
    marks_all mem is_end (w ∷ []) [] moves all = all
    marks_all mem is_end (w ∷ []) (x ∷ []) moves all = by (is_alloca_result m w.val)
      where
        by : (b : Bool) → AllByRecursion D (if b then turns mem is_end x.datum moves else moves)
        by true = turns_all mem is_end x.datum moves all
        by false = all
    marks_all mem is_end (w ∷ []) (x ∷ y ∷ xs) moves all = all
    marks_all mem is_end (w ∷ v ∷ ws) [] moves all = all
    marks_all mem is_end (w ∷ v ∷ ws) (x ∷ xs) moves all = marks_all mem is_end (v ∷ ws) xs moves all

    taking_all : (xs : List Value) → AllByRecursion D (taking xs)
    taking_all [] = tt
    taking_all (x ∷ xs) = (tt, taking_all xs)

    -- ---- memory

    overlaid_fragments : (start : ℕ) (new : List Byte) (old : ℕ → Byte) (at : ℕ) → AllByRecursion IsFragment new → IsFragment (old at) →
        IsFragment (overlaid start new old at)
    overlaid_fragments start new old at all is = by (nat_le start at)
      where
        one : (found_at : Option Byte) → slice_get new (at - start) ≡ found_at → IsFragment (unwrap_or found_at (old at))
        one None e = is
        one (Some b) e = every_at IsFragment new (at - start) b all e

        by : (b : Bool) → IsFragment (unwrap_or (if b then slice_get new (at - start) else None) (old at))
        by true = one (slice_get new (at - start)) refl
        by false = is

    stored_fragment : (x : Value) (d : Datum) (k : ℕ) → x.datum ≡ d → IsFragment (stored_byte x d k)
    stored_fragment x (datum.Int bits) k e = tt
    stored_fragment x (datum.Ptr block offset) k e = subst IsPointerDatum (sym e) tt
    stored_fragment x datum.Null k e = tt
    stored_fragment x datum.Undef k e = tt
    stored_fragment x datum.Poison k e = tt
    stored_fragment x datum.Pair k e = tt

    from_fragments : (bytes : ℕ → Byte) → ((at : ℕ) → IsFragment (bytes at)) → (at n : ℕ) → AllByRecursion IsFragment (bytes_from bytes at n)
    from_fragments bytes all at zero = tt
    from_fragments bytes all at (suc n) = (all at, from_fragments bytes all (at + 1) n)

    ptr_pointer : (d : Datum) → is_ptr d ≡ true → IsPointerDatum d
    ptr_pointer (datum.Ptr b o) e = tt
    ptr_pointer datum.Null e = tt
    ptr_pointer datum.Undef e = tt
    ptr_pointer datum.Poison e = tt
    ptr_pointer (datum.Int bits) e = absurd (cc)
    ptr_pointer datum.Pair e = absurd (cc)

    written_fragments : (t : State) (frame : OutsideFrame) (bytes : List Byte) → list_all (can_write t frame) bytes ≡ true → AllByRecursion IsFragment bytes
    written_fragments t frame [] can = tt
    written_fragments t frame (b ∷ bytes) can =
        let parts = and_parts (can_write t frame b) (list_all (can_write t frame) bytes) can in
        (one b parts.0, written_fragments t frame bytes parts.1)
      where
        one : (b : Byte) → can_write t frame b ≡ true → IsFragment b
        one (byte.Number n) can = tt
        one byte.Undef can = tt
        one byte.Poison can = tt
        one (byte.Fragment k x) can =
            ptr_pointer x.datum (and_parts (nat_lt k 8) (is_ptr x.datum) (and_parts (nat_lt k 8 && is_ptr x.datum) (can_use t frame x) can).0).1

    captures_none : (bytes : List Byte) → AllByRecursion IsNoReturn (captures_in bytes)
    captures_none [] = tt
    captures_none (byte.Fragment k x ∷ bytes) = (tt, captures_none bytes)
    captures_none (byte.Number n ∷ bytes) = captures_none bytes
    captures_none (byte.Undef ∷ bytes) = captures_none bytes
    captures_none (byte.Poison ∷ bytes) = captures_none bytes

    -- ---- calls that begin

    made_at : (frame : BodyFrame) (instr : Instr) (call : Call) (xs : List Value) (s : Spot) (other : Instr) (written : Call) →
        instr_at m frame.spot ≡ Some instr →
        call_of instr.op ≡ Some call → At frame.spot ≡ At s → instr_at m s ≡ Some other → call_of other.op ≡ Some written → AllTyped m (types_in call.args) xs →
        AllTyped m (types_in written.args) xs
    made_at frame instr call xs s other written at is_call here there is_written all =
        let spots : frame.spot ≡ s = cc in
        let one : instr ≡ other = same_Some instr other (sym at ∙ (ap (instr_at m) spots ∙ there)) in
        let calls : call ≡ written = same_Some call written (sym is_call ∙ (ap (λ (i : Instr). call_of i.op) one ∙ is_written)) in
        subst (λ (c : Call). AllTyped m (types_in c.args) xs) calls all

    call_gives : (t : TypeId) (o : Op) (call : Call) → call_of o ≡ Some call → GivesType m t o → AreAlike m call.func_ty.ret t
    call_gives t (op.Call c) call e gives = let one : c ≡ call = cc in subst (λ (c : Call). AreAlike m c.func_ty.ret t) one gives
    call_gives t (op.Invoke c normal unwind) call e gives = let one : c ≡ call = cc in subst (λ (c : Call). AreAlike m c.func_ty.ret t) one gives
    call_gives t _ call e gives = absurd (cc)

    -- what a body returns has the type of the instruction that called it
    body_returns : (frame : BodyFrame) (x : Value) (w : Written) (instr : Instr) → IsIn m frame.func frame.spot → instr_at m frame.spot ≡ Some instr →
        instr.op ≡ op.Ret (Some w) → BeginsAs m (Some frame.func) frame.call.made → HasType m w.ty x → ReturnsTyped frame.call x
    body_returns frame x w instr stands at is begins has s caller made at_s =
        by caller.op refl (subst (CallsBodyIn m (Some frame.func)) at_s (subst (BeginsAs m (Some frame.func)) made begins))
      where
        by : (o : Op) → caller.op ≡ o → CallsBody m (Some frame.func) caller.op → HasType m caller.ty x
        by o e (is_call, inner) = with_call (call_of caller.op) refl is_call
          where
            with_call : (found : Option Call) → call_of caller.op ≡ found → is_some found ≡ true → HasType m caller.ty x
            with_call None e some = absurd (cc)
            with_call (Some call) e some =
                let of = is_call_of m frame.func caller.op call e (sym inner) in
                let ret = subst (λ o. ReturnsType m of.func o) is (types.returns frame.func of.func frame.spot instr of.at stands at) in
                subst (λ k. IsOf k x) (ret ∙ (sym of.ret ∙ call_gives caller.ty caller.op call e (types.instrs s caller at_s).result)) has

    -- what the outside returns has the type that its call writes
    outside_returns : (t : State) (frame : OutsideFrame) (x : Value) → can_return m t frame (return_type m frame.call.made) (Some x) ≡ true →
        ReturnsTyped frame.call x
    outside_returns t frame x can s caller made at_s =
        with_call (call_of caller.op) refl
        (subst (λ found. can_return m t frame (option_and_then (λ (i : Instr). option_map (λ (c : Call). c.func_ty.ret) (call_of i.op)) found)
        (Some x) ≡ true) at_s
        (subst (λ made. can_return m t frame (return_type m made) (Some x) ≡ true) made can))
      where
        with_call : (found : Option Call) → call_of caller.op ≡ found →
            can_return m t frame (option_map (λ (c : Call). c.func_ty.ret) (call_of caller.op)) (Some x) ≡ true →
            HasType m caller.ty x
        with_call found e can = by found e (subst (λ found. can_return m t frame (option_map (λ (c : Call). c.func_ty.ret) found) (Some x) ≡ true) e can)
          where
            by : (found : Option Call) → call_of caller.op ≡ found → can_return m t frame (option_map (λ (c : Call). c.func_ty.ret) found) (Some x) ≡ true →
                HasType m caller.ty x
            by None e can = absurd (cc)
            by (Some call) e can =
                subst (λ k. IsOf k x) (call_gives caller.ty caller.op call e (types.instrs s caller at_s).result)
                (value_typed m call.func_ty.ret x (and_parts (can_use t frame x) (is_value_of m call.func_ty.ret x) can).1)

    -- ---- steps

    stands_in : (frame : BodyFrame) (below : List Frame) → AreLinked m (Body frame) below → IsIn m frame.func frame.spot
    stands_in frame [] h = h.0.1
    stands_in frame (under ∷ below) h = h.0.1

    begins_as : (top : Frame) (below : List Frame) → AreLinked m top below → BeginsAs m (active top).body (call_in top).made
    begins_as top [] h = h.0.0
    begins_as top (under ∷ below) h = h.0.0

    module _ (t : State) (inv : Inv t) (linked : IsLinked m t.stack) where
      frames_on : (stack : List Frame) → t.stack ≡ stack → AllByRecursion IsWell stack
      frames_on stack e = subst (AllByRecursion IsWell) e inv.frames

      body_step : (frame : BodyFrame) (below : List Frame) (instr : Instr) → t.stack ≡ Body frame ∷ below → instr_at m frame.spot ≡ Some instr →
          EachKind m (here_in t frame below instr) (Along C t)
      body_step frame below instr stack at =
          let frames = frames_on (Body frame ∷ below) stack in
          let here = here_in t frame below instr in
          let values : AreTyped m frame.values = frames.0.0 in
          let h = subst (IsLinked m) stack linked in
          let is = types.instrs frame.spot instr at in
          record {
            computing = λ picks x v gives has.
                along t (Sets v.0 x ∷ Goes (behind frame.spot) ∷ [])
                (set_typed frame.spot instr v x at has (computed_typed m here values picks instr.op x is.result is.operands gives), (tt, tt));
            comparing = λ pred flagged a b x y z v op_is at_a at_b bare has.
                along t (Says (Capture x.origins) ∷ Says (Capture y.origins) ∷ Sets v.0 z ∷ Goes (behind frame.spot) ∷ []) (
                  tt,
                  (
                    tt,
                    (
                      set_typed frame.spot instr v z at has
                          (number_of (is_pointer m instr.ty) z (subst (λ o. GivesType m instr.ty o) op_is is.result) bare),
                      (tt, tt),
                    ),
                  ),
                );
            exposing = λ flagged a x z v op_is at_a bare has.
                along t (Says (Capture x.origins) ∷ Sets v.0 z ∷ Goes (behind frame.spot) ∷ []) (
                  tt,
                  (
                    set_typed frame.spot instr v z at has
                        (number_of (is_pointer m instr.ty) z (subst (λ o. GivesType m instr.ty o) op_is is.result) bare),
                    (tt, tt),
                  ),
                );
            allocating = λ ty count written align base size v op_is can has.
                along t (Grows (alloca_shape here v.0 base size) ∷ Sets v.0 (plain (datum.Ptr t.memory.count 0)) ∷
                Goes (behind frame.spot) ∷ []) (
                  tt,
                  (
                    set_typed frame.spot instr v (plain (datum.Ptr t.memory.count 0)) at has
                        (pointer_of (is_pointer m instr.ty) (plain (datum.Ptr t.memory.count 0))
                        (subst (λ o. GivesType m instr.ty o) op_is is.result) tt),
                    (tt, tt),
                  ),
                );
            loading = λ ptr align volatile p place x v op_is at_p can loaded has.
                along t (says (Read place.block p.origins ∷ hidden volatile p) (Sets v.0 x ∷ Goes (behind frame.spot) ∷ []))
                (says_all (Read place.block p.origins ∷ hidden volatile p) (Sets v.0 x ∷ Goes (behind frame.spot) ∷ []) (tt, hidden_none volatile p) (
                  set_typed frame.spot instr v x at has
                      (loaded_typed m instr.ty (bytes_at t.memory place) x
                      (from_fragments (t.memory.bytes place.block) (inv.bytes place.block) place.offset place.size) loaded),
                  (tt, tt),
                ));
            storing = λ val ptr align volatile x p place op_is at_val at_ptr can.
                along t (says (Write place.block p.origins ∷ Capture x.origins ∷ hidden volatile p)
                (Fills place.block (bytes_with t.memory place x) ∷ Goes (behind frame.spot) ∷ []))
                (says_all (Write place.block p.origins ∷ Capture x.origins ∷ hidden volatile p)
                (Fills place.block (bytes_with t.memory place x) ∷ Goes (behind frame.spot) ∷ []) (tt, (tt, hidden_none volatile p)) (
                  (λ at. overlaid_fragments place.offset (stored place.size x) (t.memory.bytes place.block) at
                      (from_fragments (stored_byte x x.datum) (λ k. stored_fragment x x.datum k refl) 0 place.size) (inv.bytes place.block at)),
                  (tt, tt),
                ));
            branching = λ picks to moves to_leads gives.
                along t moves (crossing_all (crossing m t.memory frame frame.values to) values moves
                (crossed m (crossing m t.memory frame frame.values to) picks moves gives));
            calling_body = λ call xs args f is_call reads inner enters.
                along t (Begins (Body (body_frame m t (passing_at here call xs) f args)) ∷ Says (Enter f) ∷ []) (
                  body_begins call xs args f is_call (args_typed m here values call xs is is_call reads)
                      (args_fit m f instr call is is_call (is_call_of m f instr.op call is_call inner)) enters,
                  (tt, tt),
                );
            calling_outside = λ call callee xs is_call at_callee reads inner. (
              tt,
              (
                (
                  tt,
                  (
                    (λ s other written made there is_written. made_at frame instr call
                        (passed_to m t (passing_at here call xs)) s other written at is_call made there
                        is_written (marked_typed m t.next_call 0 (types_in call.args) xs (args_typed m here values call xs is is_call reads))),
                    tt,
                  ),
                ),
                tt,
              ),
            );
            marking = λ call f xs picks moves is_call callee lifetime reads goes.
                along t (marks_last m t.memory (is_end_name f.name) call.args xs moves)
                (marks_all t.memory (is_end_name f.name) call.args xs moves
                (going_all t.memory frame instr None moves values (λ v y e f. absurd (cc)) (went_on m t.memory frame instr None picks moves goes)));
            returning = λ val x picks moves op_is reads back.
                let mem = without_allocas frame.call.number t.memory in
                let returned = body_returned values val x op_is reads h in (
                  subst (λ s. TopReturns s x) (sym stack) (top_returns x returned),
                  (
                    tt,
                    along (moved t Ends) moves
                        (coming_all mem (Some frame.func) (Body frame) below x moves h frames.1 returned
                        (came m mem (Some frame.func) below x picks moves back)),
                  ),
                );
            unwinding = λ val picks moves op_is gives.
                (tt, (tt, along (moved t Ends) moves (through_all t.memory below moves frames.1 (went_through m t.memory below picks moves gives))));
          }
        where
          top_returns : (x : Option Value) → ((w : Value) → x ≡ Some w → ReturnsTyped frame.call w) → TopReturns (Body frame ∷ below) x
          top_returns None has = tt
          top_returns (Some w) has = has w refl

          body_returned : AreTyped m frame.values → (val : Option Written) (x : Option Value) → instr.op ≡ op.Ret val →
              IsReadOr m (here_in t frame below instr) val x →
              AreLinked m (Body frame) below → (w : Value) → x ≡ Some w → ReturnsTyped frame.call w
          body_returned values None None op_is reads h w e = absurd (cc)
          body_returned values None (Some x) op_is reads h w e = absurd reads
          body_returned values (Some v) None op_is reads h w e = absurd reads
          body_returned values (Some v) (Some x) op_is reads h w e =
              let written = subst (λ o. (k : ℕ) (w : Written) → slice_get (typed o) k ≡ Some w →
              IsWrittenAs m w.ty w.val) op_is (types.instrs frame.spot instr at).operands 0 v refl in
              body_returns frame w v instr (stands_in frame below h) at op_is (begins_as (Body frame) below h)
              (subst (λ z. HasType m v.ty z) (same_Some x w e) (operand_typed m (here_in t frame below instr) values v x written reads))

          body_begins : (call : Call) (xs args : List Value) (f : ℕ) → call_of instr.op ≡ Some call → AllTyped m (types_in call.args) xs →
              EachAlike m (types_in call.args) (types_of (params_of m f)) →
              entered t.memory (params_of m f) (passed_to m t (passing_at (here_in t frame below instr) call xs)) ≡ Gives args →
              IsWell (Body (body_frame m t (passing_at (here_in t frame below instr) call xs) f args))
          body_begins call xs args f is_call all each enters =
              let passed = marked_typed m t.next_call 0 (types_in call.args) xs all in
              let params = entered_typed m t.memory (params_of m f) (types_in call.args)
              (passed_to m t (passing_at (here_in t frame below instr) call xs)) args each passed enters in (
                bound_typed m (params_of m f) args (are_params m formed f) params,
                (
                  (λ s other written made there is_written. made_at frame instr call
                      (passed_to m t (passing_at (here_in t frame below instr) call xs)) s other written at is_call made
                      there is_written passed),
                  params,
                ),
              )

      outside_step : (frame : OutsideFrame) (below : List Frame) → t.stack ≡ Outside frame ∷ below → EachAct m t frame below (Along C t)
      outside_step frame below stack =
          let frames = frames_on (Outside frame ∷ below) stack in
          let h = subst (IsLinked m) stack linked in
          record {
            reading = λ p size can. (tt, along t (taking (pointers_in [] (reads_at t.memory p size))) (taking_all (pointers_in [] (reads_at t.memory p size))));
            writing = λ p bytes can.
                along t (says (Write (block_in p.datum) p.origins ∷ captures_in bytes) (Fills (block_in p.datum) (written_at t.memory p bytes) ∷ []))
                (says_all (Write (block_in p.datum) p.origins ∷ captures_in bytes) (Fills (block_in p.datum) (written_at t.memory p bytes) ∷ [])
                (tt, captures_none bytes) (
                  (λ at. overlaid_fragments (offset_in p.datum) bytes (t.memory.bytes (block_in p.datum)) at
                      (written_fragments t frame bytes (and_parts (can_use t frame p && can_touch t.memory (length bytes) p.datum)
                      (list_all (can_write t frame) bytes) can).1)
                      (inv.bytes (block_in p.datum) at)),
                  tt,
                ));
            hidden_reading = (tt, tt);
            hidden_writing = (tt, tt);
            making = λ base size can. (tt, tt);
            freeing = λ block can. (tt, (tt, tt));
            keeping = λ x can. (tt, (tt, tt));
            entering = λ f xs args open' passes enters.
                let passed = marked_typed m t.next_call 0 (types_of (params_of m f)) xs (passes_typed m t frame (params_of m f) xs passes) in
                let params = entered_typed m t.memory (params_of m f) (types_of (params_of m f)) (passed_to m t (passing_in m f xs)) args
                (each_refl m (types_of (params_of m f))) passed enters in (
                  (
                    bound_typed m (params_of m f) args (are_params m formed f) params,
                    ((λ s other written made there is_written. absurd (entered_at s made)), params),
                  ),
                  (tt, tt),
                );
            returning = λ x picks moves can back.
                let mem = without_allocas frame.call.number t.memory in
                let returned : (w : Value) → x ≡ Some w → ReturnsTyped frame.call w =
                λ w e. outside_returns t frame w (subst (λ x. can_return m t frame (return_type m frame.call.made) x ≡ true) e can) in (
                  subst (λ s. TopReturns s x) (sym stack) (top_returns x returned),
                  (
                    tt,
                    along (moved t Ends) moves (coming_all mem None (Outside frame) below x moves h frames.1 returned
                        (came m mem None below x picks moves back)),
                  ),
                );
            unwinding = λ picks moves gives.
                (tt, (tt, along (moved t Ends) moves (through_all t.memory below moves frames.1 (went_through m t.memory below picks moves gives))));
          }
        where
          entered_at : (s : Spot) → Entered ≡ At s → ⊥
          entered_at s e = cc

          top_returns : (x : Option Value) → ((w : Value) → x ≡ Some w → ReturnsTyped frame.call w) → TopReturns (Outside frame ∷ below) x
          top_returns None has = tt
          top_returns (Some w) has = has w refl

      pub typed_step : (choice : Choice) → OnOutcome (Along C t) (plan m t choice)
      typed_step choice = by_step m t (Along C t) (record { body = body_step; outside = outside_step }) choice

    -- ---- runs

    open_fragment : (count : ℕ) (b : Byte) → IsOpenByte count b → IsFragment b
    open_fragment count (byte.Number n) is = tt
    open_fragment count byte.Undef is = tt
    open_fragment count byte.Poison is = tt
    open_fragment count (byte.Fragment k x) is = open_pointer x.datum is.2
      where
        open_pointer : (d : Datum) → IsOpenDatum count d → IsPointerDatum d
        open_pointer (datum.Ptr b o) is = tt
        open_pointer datum.Null is = absurd is
        open_pointer datum.Undef is = absurd is
        open_pointer datum.Poison is = absurd is
        open_pointer (datum.Int bits) is = absurd is
        open_pointer datum.Pair is = absurd is

    opening_typed : (t : State) → IsOpening m t → Inv t
    opening_typed t is = record {
      frames = subst (AllByRecursion IsWell) (sym is.stack) ((tt, ((λ s instr call made at is_call. absurd (lowest_at s made)), tt)), tt);
      bytes = λ b at. open_fragment t.memory.count (t.memory.bytes b at) (is.memory.bytes b at);
    }
      where
        lowest_at : (s : Spot) → Lowest ≡ At s → ⊥
        lowest_at s e = cc

    -- at every moment values have their types, and what is returned has
    pub all_typed : (t : State) → IsOpening m t → (choices : List Choice) → AllByRecursion (λ (d : Done). IsLinked m d.before.stack) (run m t choices) →
        AllByRecursion (Shown Inv HasReturnType) (run m t choices)
    all_typed t is choices linked =
        run_law m Inv (λ (d : Done). IsLinked m d.before.stack) C HasReturnType law
        (λ t choice inv. by t choice inv (plan m t choice) refl)
        choices t (opening_typed t is) linked
      where
        by : (t : State) (choice : Choice) → Inv t → (o : Plan) → plan m t choice ≡ o → OnOutcome (λ moves. IsLinked m t.stack → Along C t moves) o
        by t choice inv (Gives moves) e = λ linked. given (Along C t) (plan m t choice) moves (typed_step t inv linked choice) e
        by t choice inv Undefined e = tt
        by t choice inv Over e = tt
