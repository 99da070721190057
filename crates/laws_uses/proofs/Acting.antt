-- Each instruction of a module frame is well with all secrets.
use Rattle.std.proofs.Common.{◌≡◌, ℕ, zero, suc, ◌++◌, ◌<◌, Bool, true, false, if◌then◌else◌, List, [], ◌∷◌, slice_get, map, Option, None, Some, refl, sym, ap}
use Rattle.std.proofs.Common.{subst, ◌∙◌, ◌⊎◌, inl, inr}
use Rattle.std.specs.List.{AllByRecursion}
use Rattle.attr_ids.specs.declared.ids.TypeId.{TypeId}
use Rattle.attr_ids.specs.declared.ids.ValueId.{ValueId}
use Rattle.ir_ops.specs.declared.conversion.CastOp.TheVariants as cast
use Rattle.ir_module.specs.declared.op.Call.{Call}
use Rattle.ir_module.specs.declared.op.Op.{Op}
use Rattle.ir_module.specs.declared.op.Op.TheVariants as op
use Rattle.ir_module.specs.declared.op.Symbol.{Symbol}
use Rattle.ir_module.specs.declared.op.Instr.{Instr}
use Rattle.ir_module.specs.declared.op.Written.{Written}
use Rattle.ir_module.specs.declared.edge.Edge.{Edge}
use Rattle.ir_module.specs.declared.edge.Way.TheVariants as way
use Rattle.ir_module.specs.declared.module.Param.{Param}
use Rattle.ir_module.specs.declared.module.Module.{Module}
use Rattle.ir_module.specs.Places.{instr_at, IsIn}
use Rattle.ir_module.specs.Edges.{edge, edges}
use Rattle.ir_module.specs.Operands.{operands}
use Rattle.ir_module.specs.Calls.{call_of, inner_callee}
use Rattle.ir_module.specs.WellFormed.{IsWellFormed}
use Rattle.facts.specs.Kinds.{Access, NotReturned}
use Rattle.facts.specs.Bodies.{is_pointer, param_of}
use Rattle.facts.specs.Facts.{Fact, dead_at}
use Rattle.facts.specs.Uses.{Permits, ParamUsed, is_phi, PassedUsed}
use Rattle.ir_machine.specs.declared.choice.Byte.TheVariants as byte
use Rattle.ir_machine.specs.declared.choice.Datum.{Datum}
use Rattle.ir_machine.specs.declared.choice.Datum.TheVariants as datum
use Rattle.ir_machine.specs.declared.choice.Value.{Value}
use Rattle.ir_machine.specs.Values.{plain}
use Rattle.ir_machine.specs.Memory.{Memory, Live, Closed, is_dead, without_allocas}
use Rattle.ir_machine.specs.Frames.{At, active, BodyFrame, OutsideFrame, Frame, Body, Outside, call_of as call_in, State, What, Read, Write, Capture, Return}
use Rattle.ir_machine.specs.Frames.{Unwind, event}
use Rattle.ir_machine.specs.Moves.{Move, Says, Grows, Turns, Fills, Sets, Goes, Ends, moved, after, said, says, Gives, with}
use Rattle.ir_machine.specs.Reading.{Here, behind, type_of, size_of, align_or}
use Rattle.ir_machine.specs.Access.{alloca_shape, Place, can_access, accessed, accessed_at, hidden, loaded_as, bytes_at, bytes_with}
use Rattle.ir_machine.specs.Compute.{computed}
use Rattle.ir_machine.specs.Edges.{crossing}
use Rattle.ir_machine.specs.Calls.{body_frame, begun_by, passed_to, params_of, entered, is_end_name, marks_last, turns, is_alloca_result}
use Rattle.ir_machine.specs.Arguments.{ArgumentsAreOperands}
use Rattle.ir_machine.specs.Honest.{IsFair}
use Rattle.ir_machine.specs.Links.{AreLinked, IsLinked}
use Rattle.ir_machine.specs.Runs.{Done, done}
use Rattle.ir_machine.specs.Valid.{scope_of, Known, HasAll, AreOrdered, IsValid}
use Rattle.ir_machine.proofs.Basics.{OnOutcome, on_with, on_needs, given, Along, along_says}
use Rattle.ir_machine.proofs.Instructions.{Leads, IsRead, AreRead, IsReadOr, EachKind, here_in, passing_at}
use Rattle.ir_machine.proofs.Moving.{crossed, went_on, came, went_through}
use Rattle.ir_machine.proofs.Carried.{operand_has, operands_have, loaded_has, stored_has}
use Rattle.ir_machine.proofs.Valid.{known_closed}
use Rattle.ir_machine.proofs.Arguments.{read_is}
use Rattle.ir_machine.proofs.Linked.{with_stack, onto}
use Rattle.law_premises.specs.Premises.{JustifiesItself, StandLive, IsControlled, PassesPointers, ReturnsPointers, KeepsTypes}
use Rattle.laws_uses.proofs.Marks.{Marked, Has, IsFrom, unmarked, from_more, same_origins, lacks_carried}
use Rattle.laws_uses.proofs.Levels.{kind_of, level_less, OnCapture, OnRead, OnWrite, param_used, load_reads, load_tells, store_writes, store_tells, tells}
use Rattle.laws_uses.proofs.Origins.{PassesOn, computed_from}
use Rattle.laws_uses.proofs.Sealed.{IsSecret, IsSafe, Guarded, OwnsWell, ForSecrets, under_top_of, KeptOf, Inv, HappensClear, SetsWell, BeginsWell, C}
use Rattle.laws_uses.proofs.Using.{marked_operand, operand_permits, own_permits, result_level, clear_capture, clear_read, clear_write, unmarked_guarded}
use Rattle.laws_uses.proofs.Calls.{argument_operand, call_is_plain, argument_permits, inner_argument, outer_argument, body_begins, outside_begins}
use Rattle.laws_uses.proofs.Crossing.{Came, StandsIn, live_way, crossing_well, going_well, through_well}
use Rattle.laws_uses.proofs.Coming.{IsLetGo, coming_well}

-- a value that is passed came in to the frame on top, where that one is above the secret's call
abbrev pub CameAbove : List Frame → ℕ → ℕ → Value → Type 0
CameAbove [] c j y = Unit {0}
CameAbove (under ∷ frames) c j y = IsFrom (call_in under) c j y

-- what is given of each step
pub record Given (m : Module) (held : Fact → Bool) (d : Done) : Type 0 where
  pub linked : IsLinked m d.before.stack
  pub passed : ArgumentsAreOperands m d.before.memory.home d.before.stack
  pub fair : AllByRecursion (IsFair m) d.events
  pub controlled : IsControlled m held d
  pub types : KeepsTypes m d

-- ---- places of accesses

abbrev PointsInto : Datum → Place → Type 0
PointsInto d place = (o : ℕ) × (d ≡ datum.Ptr place.block o)

at_place : (mem : Memory) (align size : ℕ) (d : Datum) → OnOutcome (PointsInto d) (accessed_at mem align size d)
at_place mem align size (datum.Ptr block offset) =
    on_needs (PointsInto (datum.Ptr block offset)) (can_access mem align size block offset)
    (Gives (record { block = block; offset = offset; size = size })) (λ _. (offset, refl))
at_place mem align size datum.Null = tt
at_place mem align size datum.Undef = tt
at_place mem align size datum.Poison = tt
at_place mem align size (datum.Int bits) = tt
at_place mem align size datum.Pair = tt

pub accessed_ptr : (m : Module) (mem : Memory) (ty : ℕ) (align : Option ℕ) (d : Datum) (place : Place) → accessed m mem ty align d ≡ Gives place →
    PointsInto d place
accessed_ptr m mem ty align d place e =
    given (PointsInto d) (accessed m mem ty align d) place
    (on_with (PointsInto d) (size_of m ty) (λ size. with (align_or m ty align) (λ bytes. accessed_at mem bytes size d))
    (λ size _. on_with (PointsInto d) (align_or m ty align) (λ bytes. accessed_at mem bytes size d) (λ bytes _. at_place mem bytes size d))) e

-- ---- fairness of each thing that happens

pub fair_says : (m : Module) (t : State) (whats : List What) (moves : List Move) → AllByRecursion (IsFair m) (said t (says whats moves)) →
    AllByRecursion (λ what. IsFair m (event t.stack what)) whats
fair_says m t [] moves fair = tt
fair_says m t (what ∷ whats) moves fair = (fair.0, fair_says m t whats moves fair.1)

-- a branch is at an instruction with edges
has_edge : (m : Module) (here : Here) (o : Op) (to : ℕ) → Leads m here o to → (e : Edge) × (slice_get (edges o) 0 ≡ Some e)
has_edge m here (op.Jump to) block leads = (edge way.Jump to, refl)
has_edge m here (op.Branch c so otherwise) block leads = (edge way.Yes so, refl)
has_edge m here (op.Switch on other cases) block leads = (edge way.Other other, refl)
has_edge m here _ block leads = absurd leads

mapped_back : (ws : List Written) (k : ℕ) (ty : TypeId) → slice_get (map (λ (w : Written). w.ty) ws) k ≡ Some ty →
    (w : Written) × (slice_get ws k ≡ Some w) × (w.ty ≡ ty)
mapped_back [] k ty e = absurd (cc)
mapped_back (w ∷ ws) zero ty e = (w, refl, cc)
mapped_back (w ∷ ws) (suc k) ty e = mapped_back ws k ty e

read_at : (m : Module) (here : Here) (ws : List Written) (xs : List Value) → AreRead m here ws xs → (k : ℕ) (y : Value) → slice_get xs k ≡ Some y →
    (w : Written) × (slice_get ws k ≡ Some w) × IsRead m here w y
read_at m here [] [] are k y e = absurd (cc)
read_at m here [] (x ∷ xs) are k y e = absurd are
read_at m here (w ∷ ws) [] are k y e = absurd are
read_at m here (w ∷ ws) (x ∷ xs) are zero y e = let same : x ≡ y = cc in (w, refl, subst (IsRead m here w) same are.0)
read_at m here (w ∷ ws) (x ∷ xs) are (suc k) y e = read_at m here ws xs are.1 k y e

module _ (m : Module) (formed : IsWellFormed m) (held : Fact → Bool) (is : JustifiesItself m held) (access : Option Access) (t : State) (valid : IsValid t)
    (inv : Inv m held access t) where
  abbrev Asked : List Move → Type 0
  Asked moves = Given m held (done t moves) → Along (C m held access) t moves

  exist : (s : Symbol) (b : ℕ) → t.memory.home s ≡ Some b → b < t.memory.count
  exist s b home = (valid.blocks.homes s b home).0

  module _ (frame : BodyFrame) (rest : List Frame) (instr : Instr) (stack : t.stack ≡ Body frame ∷ rest) (at : instr_at m frame.spot ≡ Some instr) where
    abbrev old : List Frame
    old = Body frame ∷ rest

    abbrev here : Here
    here = here_in t frame rest instr

    own : AllByRecursion (OwnsWell m held access) old
    own = subst (AllByRecursion (OwnsWell m held access)) stack inv.own

    kept : ForSecrets m held access old (KeptOf m held access t)
    kept = subst (λ s. ForSecrets m held access s (KeptOf m held access t)) stack inv.kept

    order : AreOrdered t.born t.next_call t.memory.count old
    order = subst (AreOrdered t.born t.next_call t.memory.count) stack valid.order

    known : AllByRecursion (HasAll (Known (scope_of t))) old
    known = subst (AllByRecursion (HasAll (Known (scope_of t)))) stack valid.known.frames

    read_known : (w : Written) (x : Value) → IsRead m here w x → Known (scope_of t) x
    read_known w x reads = operand_has t.memory.count (Known (scope_of t)) (known_closed.carried (scope_of t)) m here refl exist known.0.1 w x reads

    silent : (Q : Type 0) → Q → ForSecrets m held access old (λ above low j. Q)
    silent Q q above low below e j secret = q

    -- ---- values that are made

    came_own : Came m formed held is access frame rest frame.values
    came_own above low below e j secret = (under_top_of m held access (KeptOf m held access t) (Body frame) rest kept above low below e j secret).0.0.values

    -- a value that no secret's mark is on
    bare_sets : (r : ℕ) (x : Value) → x.origins ≡ [] → SetsWell m held access old r x
    bare_sets r x none = (
      (λ j u secret has. absurd (unmarked frame.call.number j x.origins none has)),
      (λ above low below e j secret has.
          absurd (unmarked low.call.number j x.origins none has)),
    )

    -- a value with the origins of an operand that is passed on
    derived_sets : held (dead_at frame.spot) ≡ false → (r : ValueId) → instr.result ≡ Some r → (n : ℕ) (w : Written) (x y : Value) →
        slice_get (operands instr.op) n ≡ Some w → IsRead m here w y → x.origins ≡ y.origins → PassesOn m held instr instr.op n → is_phi instr.op ≡ false →
        SetsWell m held access old r.0 x
    derived_sets live r result n w x y is_operand reads same passes plain = (
      (λ j u secret has.
          let used = own_permits m held is access frame frame.values own.0 instr at live instr.op refl plain n w y t.memory.home is_operand
          (read_is m here w y reads) j u secret (subst (Marked frame.call.number j) same has) in
          result_level held access instr r u used.0.0 result used.2 (λ kind fact. passes kind (used.3 kind fact))),
      (λ above low below e j secret has.
          let has_y = subst (Marked low.call.number j) same has in
          let named = marked_operand t.memory.home frame.values w.val y low.call.number j (read_is m here w y reads) has_y in
          from_more frame.call low.call.number j y x (same_origins y x same) (came_own above low below e j secret named.0.0 y named.2 has_y)),
    )

    -- what a load brings from memory
    loaded_lacks : (place : Place) (x : Value) → loaded_as (type_of m instr.ty) (bytes_at t.memory place) ≡ Gives x →
        ForSecrets m held access old (λ above low j. Has low.call.number j x → ⊥)
    loaded_lacks place x loaded above low below e j secret =
        loaded_has t.memory.count (λ x. Has low.call.number j x → ⊥) (lacks_carried t.memory.count low.call.number j) t.memory
        (kept above low below e j secret).1.bytes (type_of m instr.ty) place x loaded

    lacking_sets : (r : ℕ) (x : Value) → ForSecrets m held access old (λ above low j. Has low.call.number j x → ⊥) → SetsWell m held access old r x
    lacking_sets r x lacks = (
      (λ j u secret has.
          absurd (lacks [] frame rest refl j (secret.0, secret.1, level_less held access u secret.0.value.0 secret.2) has)),
      (λ above low below e j secret has. absurd (lacks (Body frame ∷ above) low below (ap (λ l. Body frame ∷ l) e) j secret has)),
    )

    -- ---- what happens

    used_by : (P Q : Type 0) (y : Value) → (P → Q) → ForSecrets m held access old (λ above low j. Has low.call.number j y → P ⊎ Guarded m held access above y) →
        ForSecrets m held access old (λ above low j. Has low.call.number j y → Q ⊎ Guarded m held access above y)
    used_by P Q y leads used above low below e j secret has =
        elim (used above low below e j secret has) [
          | inl p ↦ inl (leads p)
          | inr guarded ↦ inr guarded
        ]

    permits : held (dead_at frame.spot) ≡ false → (o : Op) → instr.op ≡ o → is_phi o ≡ false → (n : ℕ) (w : Written) (y : Value) →
        slice_get (operands o) n ≡ Some w → IsRead m here w y →
        ForSecrets m held access old (λ above low j. Has low.call.number j y → Permits m held (kind_of access) instr o n ⊎ Guarded m held access above y)
    permits live o op_is plain n w y is_operand reads =
        operand_permits m held is access t frame rest own.0 kept instr at live o op_is plain n w y t.memory.home is_operand (read_is m here w y reads)

    captures : held (dead_at frame.spot) ≡ false → (o : Op) → instr.op ≡ o → is_phi o ≡ false → (n : ℕ) (w : Written) (y : Value) →
        slice_get (operands o) n ≡ Some w → IsRead m here w y → (Permits m held (kind_of access) instr o n → OnCapture access ⊥) →
        IsFair m (event t.stack (Capture y.origins)) → HappensClear m held access old (Capture y.origins)
    captures live o op_is plain n w y is_operand reads refuses fair = (
      clear_capture m held t old (event t.stack (Capture y.origins)) fair (ap (map active) stack) order access y refl
          (used_by (Permits m held (kind_of access) instr o n) (OnCapture access ⊥) y refuses (permits live o op_is plain n w y is_operand reads)),
      tt,
    )

    hidden_clear : (volatile : Bool) (p : Value) → AllByRecursion (λ what. IsFair m (event t.stack what)) (hidden volatile p) →
        (volatile ≡ true → IsFair m (event t.stack (Capture p.origins)) → HappensClear m held access old (Capture p.origins)) →
        AllByRecursion (λ what. HappensClear m held access old what) (hidden volatile p)
    hidden_clear false p fair captured = tt
    hidden_clear true p fair captured = ((silent (Unit {0}) tt, tt), ((silent (Unit {0}) tt, tt), (captured refl fair.1.1.0, tt)))

    -- ---- calls

    passing_known : (call : Call) (xs : List Value) → AreRead m here call.args xs → AllByRecursion (Known (scope_of t)) xs
    passing_known call xs reads =
        operands_have t.memory.count (Known (scope_of t)) (known_closed.carried (scope_of t)) m here refl exist known.0.1 call.args xs reads

    -- arguments that are not written as pointers have no origins
    pointers : (call : Call) (xs : List Value) (new : Frame) → call_of instr.op ≡ Some call → (call_in new).made ≡ At frame.spot →
        (call_in new).passed ≡ passed_to m t (passing_at here call xs) → PassesPointers m new → (k : ℕ) (x : Value) →
        slice_get (passed_to m t (passing_at here call xs)) k ≡ Some x → (ty : TypeId) → slice_get (passing_at here call xs).tys k ≡ Some ty →
        is_pointer m ty ≡ false → x.origins ≡ []
    pointers call xs new is_call made passed typed k x at_x ty at_ty none =
        let w = mapped_back call.args k ty at_ty in
        typed frame.spot instr call k w.0 x made at is_call w.1 (subst (λ xs. slice_get xs k ≡ Some x) (sym passed) at_x)
        (subst (λ ty. is_pointer m ty ≡ false) (sym w.2) none)

    -- what is passed is used by the call as the rules say
    passed_well : held (dead_at frame.spot) ≡ false → (call : Call) (xs : List Value) (new : Frame) → call_of instr.op ≡ Some call →
        AreRead m here call.args xs →
        ((k : ℕ) → PassedUsed m held (kind_of access) instr k → IsSafe m held access new k) →
        ForSecrets m held access old (λ above low j. (k : ℕ) (y : Value) → slice_get xs k ≡ Some y → Has low.call.number j y →
        (IsSafe m held access new k ⊎ Guarded m held access above y) × CameAbove above low.call.number j y)
    passed_well live call xs new is_call reads safe above low below e j secret k y at_y has =
        let read = read_at m here call.args xs reads k y at_y in
        let is_operand = argument_operand instr.op call k read.0 is_call read.1 in (
          elim (permits live instr.op refl (call_is_plain instr.op call is_call) (suc k) read.0 y is_operand read.2 above low below e j secret has) [
            | inl p ↦ inl (safe k (argument_permits m held (kind_of access) instr instr.op call k is_call p))
            | inr guarded ↦ inr guarded
          ],
          came above e,
        )
      where
        came : (above : List Frame) → old ≡ above ++ (Body low ∷ below) → CameAbove above low.call.number j y
        came [] e = tt
        came (top ∷ frames) e =
            let first : Body frame ≡ top = cc in
            let later : rest ≡ frames ++ (Body low ∷ below) = cc in
            let reads_y = read_at m here call.args xs reads k y at_y in
            let named = marked_operand t.memory.home frame.values reads_y.0.val y low.call.number j (read_is m here reads_y.0 y reads_y.2) has in
            subst (λ f. IsFrom (call_in f) low.call.number j y) first (came_own frames low below later j secret named.0.0 y named.2 has)

    begins_body : held (dead_at frame.spot) ≡ false → (call : Call) (xs args : List Value) (f : ℕ) → call_of instr.op ≡ Some call →
        AreRead m here call.args xs →
        inner_callee m instr.op ≡ Some f → entered t.memory (params_of m f) (passed_to m t (passing_at here call xs)) ≡ Gives args →
        PassesPointers m (Body (body_frame m t (passing_at here call xs) f args)) →
        BeginsWell m held access t (Body (body_frame m t (passing_at here call xs) f args))
    begins_body live call xs args f is_call reads inner enters typed =
        let new = body_frame m t (passing_at here call xs) f args in
        body_begins m held access t valid.known valid.order (passing_at here call xs) (passing_known call xs reads)
        (pointers call xs (Body new) is_call refl refl typed) f args new refl refl refl refl enters
        (subst (λ s. ForSecrets m held access s (λ above low j. (k : ℕ) (y : Value) → slice_get xs k ≡ Some y → Has low.call.number j y →
        (IsSafe m held access (Body new) k ⊎ Guarded m held access above y) × CameAbove above low.call.number j y)) (sym stack)
        (passed_well live call xs (Body new) is_call reads (λ k used. param_of_used k (inner_argument m held (kind_of access) instr k f inner used))))
      where
        param_of_used : (k : ℕ) → (p : Param) × (param_of m f k ≡ Some p) × ParamUsed m held (kind_of access) instr p →
            IsSecret m held access (body_frame m t (passing_at here call xs) f args) k false
        param_of_used k (p, at_p, used) = (p, at_p, (param_used m held access instr p used).0)

    begins_outside : held (dead_at frame.spot) ≡ false → (call : Call) (xs : List Value) → call_of instr.op ≡ Some call → AreRead m here call.args xs →
        inner_callee m instr.op ≡ None →
        let args = passed_to m t (passing_at here call xs) in
        let new : OutsideFrame = record { call = begun_by m t (passing_at here call xs) args; hand = args } in
        PassesPointers m (Outside new) → BeginsWell m held access t (Outside new)
    begins_outside live call xs is_call reads inner typed =
        let args = passed_to m t (passing_at here call xs) in
        let new : OutsideFrame = record { call = begun_by m t (passing_at here call xs) args; hand = args } in
        outside_begins m held access t valid.known valid.order (passing_at here call xs) (passing_known call xs reads)
        (pointers call xs (Outside new) is_call refl refl typed) new refl refl refl
        (subst (λ s. ForSecrets m held access s (λ above low j. (k : ℕ) (y : Value) → slice_get xs k ≡ Some y → Has low.call.number j y →
        (IsSafe m held access (Outside new) k ⊎ Guarded m held access above y) × CameAbove above low.call.number j y)) (sym stack)
        (passed_well live call xs (Outside new) is_call reads
        (λ k used. (frame.spot, instr, refl, at, outer_argument m held (kind_of access) instr k inner used))))

    -- ---- returns

    -- the value that a `ret` returns is let go
    returned_let_go : held (dead_at frame.spot) ≡ false → (w : Written) (x : Value) → instr.op ≡ op.Ret (Some w) → IsRead m here w x →
        (j : ℕ) → IsSecret m held access frame j true → Has frame.call.number j x → ⊥
    returned_let_go live w x op_is reads j secret has =
        let used = own_permits m held is access frame frame.values own.0 instr at live (op.Ret (Some w)) op_is refl 0 w x t.memory.home refl
        (read_is m here w x reads) j true secret has in
        used.3 NotReturned used.2.1

    returned_from : (w : Written) (x : Value) → IsRead m here w x →
        ForSecrets m held access rest (λ above low j. Has low.call.number j x → IsFrom frame.call low.call.number j x)
    returned_from w x reads above low below e j secret has =
        let named = marked_operand t.memory.home frame.values w.val x low.call.number j (read_is m here w x reads) has in
        came_own above low below e j secret named.0.0 x named.2 has

    -- ---- what a lifetime marker does

    turns_well : (u : State) (mem : Memory) (is_end : Bool) (d : Datum) (moves : List Move) (last : List Frame) →
        ((w : State) → w.stack ≡ u.stack → (after w moves).stack ≡ last → Along (C m held access) w moves) →
        (after u (turns mem is_end d moves)).stack ≡ last → Along (C m held access) u (turns mem is_end d moves)
    turns_well u mem is_end (datum.Ptr block offset) moves last rest ends = by (is_dead (mem.life block)) is_end ends
      where
        by : (gone is_end : Bool) → (after u (if gone then moves else (if is_end then Turns block Closed ∷ moves
            else Turns block Live ∷ Fills block (λ at. byte.Undef) ∷ moves))).stack ≡ last →
            Along (C m held access) u (if gone then moves else (if is_end then Turns block Closed ∷ moves
            else Turns block Live ∷ Fills block (λ at. byte.Undef) ∷ moves))
        by true is_end ends = rest u refl ends
        by false true ends = (tt, rest (moved u (Turns block Closed)) refl ends)
        by false false ends =
            (tt, ((λ above low below e j secret at. tt), rest (moved (moved u (Turns block Live)) (Fills block (λ at. byte.Undef))) refl ends))
    turns_well u mem is_end datum.Null moves last rest ends = rest u refl ends
    turns_well u mem is_end datum.Undef moves last rest ends = rest u refl ends
    turns_well u mem is_end datum.Poison moves last rest ends = rest u refl ends
    turns_well u mem is_end (datum.Int bits) moves last rest ends = rest u refl ends
    turns_well u mem is_end datum.Pair moves last rest ends = rest u refl ends

    marks_well : (u : State) (mem : Memory) (is_end : Bool) (ws : List Written) (xs : List Value) (moves : List Move) (last : List Frame) →
        ((w : State) → w.stack ≡ u.stack → (after w moves).stack ≡ last → Along (C m held access) w moves) →
        (after u (marks_last m mem is_end ws xs moves)).stack ≡ last → Along (C m held access) u (marks_last m mem is_end ws xs moves)
    marks_well u mem is_end [] xs moves last rest ends = rest u refl ends
    marks_well u mem is_end (w ∷ []) [] moves last rest ends = rest u refl ends
    marks_well u mem is_end (w ∷ []) (x ∷ []) moves last rest ends = by (is_alloca_result m w.val) ends
      where
        by : (b : Bool) → (after u (if b then turns mem is_end x.datum moves else moves)).stack ≡ last →
            Along (C m held access) u (if b then turns mem is_end x.datum moves else moves)
        by true ends = turns_well u mem is_end x.datum moves last rest ends
        by false ends = rest u refl ends
    marks_well u mem is_end (w ∷ []) (x ∷ y ∷ xs) moves last rest ends = rest u refl ends
    marks_well u mem is_end (w ∷ v ∷ ws) [] moves last rest ends = rest u refl ends
    marks_well u mem is_end (w ∷ v ∷ ws) (x ∷ xs) moves last rest ends = marks_well u mem is_end (v ∷ ws) xs moves last rest ends

    -- ---- the kinds of instruction

    ends_at : (moves : List Move) → (after (with_stack t old) moves).stack ≡ (after t moves).stack
    ends_at moves = subst (λ s. (after (with_stack t s) moves).stack ≡ (after t moves).stack) stack refl

    onto_with : (w : State) (moves : List Move) (last : List Frame) → w.stack ≡ old → (after w moves).stack ≡ last →
        ((after (with_stack w old) moves).stack ≡ last → Along (C m held access) (with_stack w old) moves) → Along (C m held access) w moves
    onto_with w moves last e ends well =
        onto (C m held access) w old moves e (well (subst (λ s. (after (with_stack w s) moves).stack ≡ last) e ends))

    links : IsLinked m t.stack → AreLinked m (Body frame) rest
    links linked = subst (IsLinked m) stack linked

    stands_here : (below : List Frame) → AreLinked m (Body frame) below → IsIn m frame.func frame.spot
    stands_here [] h = h.0.1
    stands_here (under ∷ below) h = h.0.1

    stand_all : (top : Frame) (below : List Frame) → AreLinked m top below → AllByRecursion (StandsIn m formed held is access) below
    stand_all top [] h = tt
    stand_all top (Body under ∷ []) h = (h.2.0.1, tt)
    stand_all top (Outside under ∷ []) h = (tt, tt)
    stand_all top (Body under ∷ f ∷ below) h = (h.2.0.1, stand_all (Body under) (f ∷ below) h.2)
    stand_all top (Outside under ∷ f ∷ below) h = (tt, stand_all (Outside under) (f ∷ below) h.2)

    pub body_well : EachKind m here Asked
    body_well = record {
      computing = λ picks x v gives has given.
          let live = (subst (StandLive held) stack given.controlled.live).0 in
          onto (C m held access) t old (Sets v.0 x ∷ Goes (behind frame.spot) ∷ []) stack (computed_sets live picks x v gives has, (tt, tt));
      comparing = λ pred flagged a b x y z v op_is at_a at_b bare has given.
          let live = (subst (StandLive held) stack given.controlled.live).0 in
          onto (C m held access) t old (Says (Capture x.origins) ∷ Says (Capture y.origins) ∷ Sets v.0 z ∷ Goes (behind frame.spot) ∷ []) stack (
            captures live (op.Icmp pred flagged a b) op_is refl 0 a x refl at_a (tells access) given.fair.0,
            (captures live (op.Icmp pred flagged a b) op_is refl 1 b y refl at_b (tells access) given.fair.1.0, (bare_sets v.0 z bare.origins, (tt, tt))),
          );
      exposing = λ flagged a x z v op_is at_a bare has given.
          let live = (subst (StandLive held) stack given.controlled.live).0 in
          onto (C m held access) t old (Says (Capture x.origins) ∷ Sets v.0 z ∷ Goes (behind frame.spot) ∷ []) stack
          (captures live (op.Cast cast.PtrToInt flagged a) op_is refl 0 a x refl at_a (tells access) given.fair.0, (bare_sets v.0 z bare.origins, (tt, tt)));
      allocating = λ ty count written align base size v op_is can has given.
          onto (C m held access) t old
          (Grows (alloca_shape here v.0 base size) ∷ Sets v.0 (plain (datum.Ptr t.memory.count 0)) ∷ Goes (behind frame.spot) ∷ []) stack
          (tt, (bare_sets v.0 (plain (datum.Ptr t.memory.count 0)) refl, (tt, tt)));
      loading = λ ptr align volatile p place x v op_is at_p can loaded has given.
          let live = (subst (StandLive held) stack given.controlled.live).0 in
          let fair = fair_says m t (Read place.block p.origins ∷ hidden volatile p) (Sets v.0 x ∷ Goes (behind frame.spot) ∷ []) given.fair in
          let points = accessed_ptr m t.memory instr.ty.0 align p.datum place can in
          onto (C m held access) t old (says (Read place.block p.origins ∷ hidden volatile p) (Sets v.0 x ∷ Goes (behind frame.spot) ∷ [])) stack
          (along_says (C m held access) (with_stack t old) (Read place.block p.origins ∷ hidden volatile p) (Sets v.0 x ∷ Goes (behind frame.spot) ∷ []) (
            (
              clear_read m held t old (event t.stack (Read place.block p.origins)) fair.0 (ap (map active) stack) order access p place.block points.0
                  (read_known ptr p at_p) points.1 refl
                  (used_by (Permits m held (kind_of access) instr (op.Load ptr align volatile) 0) (OnRead access ⊥) p (load_reads access volatile)
                  (permits live (op.Load ptr align volatile) op_is refl 0 ptr p refl at_p)),
              tt,
            ),
            hidden_clear volatile p fair.1 (λ on fair. captures live (op.Load ptr align true) (op_is ∙ ap (op.Load ptr align) on) refl 0 ptr p refl at_p
                (load_tells access) fair),
          )
          (lacking_sets v.0 x (loaded_lacks place x loaded), (tt, tt)));
      storing = λ val ptr align volatile x p place op_is at_val at_ptr can given.
          let live = (subst (StandLive held) stack given.controlled.live).0 in
          let moves = Fills place.block (bytes_with t.memory place x) ∷ Goes (behind frame.spot) ∷ [] in
          let fair = fair_says m t (Write place.block p.origins ∷ Capture x.origins ∷ hidden volatile p) moves given.fair in
          let points = accessed_ptr m t.memory val.ty.0 align p.datum place can in
          let refused = permits live (op.Store val ptr align volatile) op_is refl 0 val x refl at_val in
          let lacks = unmarked_guarded m held t old (event t.stack (Capture x.origins)) fair.1.0 (ap (map active) stack) order access x refl
          (λ above low below e j secret has. only_guarded _ (refused above low below e j secret has)) in
          onto (C m held access) t old (says (Write place.block p.origins ∷ Capture x.origins ∷ hidden volatile p) moves) stack
          (along_says (C m held access) (with_stack t old) (Write place.block p.origins ∷ Capture x.origins ∷ hidden volatile p) moves (
            (
              clear_write m held t old (event t.stack (Write place.block p.origins)) fair.0 (ap (map active) stack) order access p place.block points.0
                  (read_known ptr p at_ptr) points.1 refl
                  (used_by (Permits m held (kind_of access) instr (op.Store val ptr align volatile) 1) (OnWrite access ⊥) p (store_writes access volatile 0)
                  (permits live (op.Store val ptr align volatile) op_is refl 1 ptr p refl at_ptr)),
              tt,
            ),
            (
              captures live (op.Store val ptr align volatile) op_is refl 0 val x refl at_val (λ none. absurd none) fair.1.0,
              hidden_clear volatile p fair.1.1 (λ on fair. captures live (op.Store val ptr align true) (op_is ∙
                  ap (op.Store val ptr align) on) refl 1 ptr p refl
                  at_ptr (store_tells access 0) fair),
            ),
          ) (
            (λ above low below e j secret where'. stored_has t.memory.count (λ x. Has low.call.number j x → ⊥)
                (lacks_carried t.memory.count low.call.number j) t.memory (kept above low below e j secret).1.bytes place x (lacks above low below e j secret)
                where'),
            (tt, tt),
          ));
      branching = λ picks to moves leads gives given.
          let found = has_edge m here instr.op to leads in
          let cross = crossed m (crossing m t.memory frame frame.values to) picks moves gives in
          onto (C m held access) t old moves stack
          (crossing_well m formed held is access t frame frame rest t.memory frame.values to refl refl (stands_here rest (links given.linked))
          (live_way m formed held is access (done t moves) given.controlled.edges t [] frame frame rest (crossing m t.memory frame frame.values to) moves stack
          (ends_at moves) cross 0 found.0 (record { instr = instr; at_spot = at; is_edge = found.1 }))
          own.0 came_own moves cross);
      calling_body = λ call xs args f is_call reads inner enters given.
          let live = (subst (StandLive held) stack given.controlled.live).0 in
          (begins_body live call xs args f is_call reads inner enters given.types.args.0, (((λ above low below e j secret. tt), tt), tt));
      calling_outside = λ call callee xs is_call at_callee reads inner given.
          let live = (subst (StandLive held) stack given.controlled.live).0 in
          let captured = captures live instr.op refl (call_is_plain instr.op call is_call) 0 call.callee callee (callee_operand instr.op call is_call) at_callee
          (λ none. absurd (callee_refused instr.op call is_call none)) given.fair.0 in (
            subst (λ s. HappensClear m held access s (Capture callee.origins)) (sym stack) captured,
            (begins_outside live call xs is_call reads inner given.types.args.0, tt),
          );
      marking = λ call f xs picks moves is_call callee lifetime reads goes given.
          marks_well t t.memory (is_end_name f.name) call.args xs moves (done t (marks_last m t.memory (is_end_name f.name) call.args xs moves)).next.stack
          (λ w e ends. onto_with w moves (done t (marks_last m t.memory (is_end_name f.name) call.args xs moves)).next.stack (e ∙ stack) ends (λ ends.
          going_well m formed held is access (done t (marks_last m t.memory (is_end_name f.name) call.args xs moves)) given.controlled.edges w [] frame rest
          t.memory instr None stack (stands_here rest (links given.linked)) at own.0 came_own (λ r y result none. absurd (cc)) moves
          (went_on m t.memory frame instr None picks moves goes) ends)) refl;
      returning = λ val x picks moves op_is reads back given.
          let live = subst (StandLive held) stack given.controlled.live in
          let mem = without_allocas frame.call.number t.memory in
          onto (C m held access) t old (Says (Return x) ∷ Ends ∷ moves) stack (
            return_clear val x live.0 op_is reads,
            (
              tt,
              coming_well m formed held is access (done t (Says (Return x) ∷ Ends ∷ moves)) given.controlled.edges t
                  (moved (with_stack t old) Ends) mem (Some frame.func) (Body frame) rest x stack (links given.linked) live.1 own.1 kept t.memory.home
                  (subst (ArgumentsAreOperands m t.memory.home) stack given.passed) t.born t.next_call t.memory.count order
                  (returns val x live.0 op_is reads given.types.returns.0) moves (came m mem (Some frame.func) rest x picks moves back)
                  (ends_at (Says (Return x) ∷ Ends ∷ moves)),
            ),
          );
      unwinding = λ val picks moves op_is gives given.
          onto (C m held access) t old (Says Unwind ∷ Ends ∷ moves) stack (
            ((λ above low below e j secret. tt), tt),
            (
              tt,
              through_well m formed held is access (done t (Says Unwind ∷ Ends ∷ moves)) given.controlled.edges t
                  (moved (with_stack t old) Ends) (Body frame ∷ []) t.memory rest stack own.1
                  (λ above low below e j secret.
                  let old_kept = under_top_of m held access (KeptOf m held access t) (Body frame) rest kept above low below e j secret in
                  (old_kept.0.1, old_kept.1))
                  (stand_all (Body frame) rest (links given.linked)) moves (went_through m t.memory rest picks moves gives)
                  (ends_at (Says Unwind ∷ Ends ∷ moves)),
            ),
          );
    }
      where
        computed_sets : held (dead_at frame.spot) ≡ false → (picks : List ℕ) (x : Value) (v : ValueId) → computed m here picks instr.op ≡ Gives x →
            instr.result ≡ Some v → SetsWell m held access old v.0 x
        computed_sets live picks x v gives has =
            elim (computed_from m held here picks instr.op x gives) [
              | inl none ↦ bare_sets v.0 x none
              | inr (n, w, y, is_operand, reads, same, passes, plain) ↦ derived_sets live v has n w x y is_operand reads same passes plain
            ]

        only_guarded : (G : Type 0) → ⊥ ⊎ G → G
        only_guarded G is = elim is [
          | inl none ↦ absurd none
          | inr guarded ↦ guarded
        ]

        callee_operand : (o : Op) (call : Call) → call_of o ≡ Some call → slice_get (operands o) 0 ≡ Some call.callee
        callee_operand (op.Call c) call is = cc
        callee_operand (op.Invoke c normal unwind) call is = cc
        callee_operand _ call is = absurd (cc)

        callee_refused : (o : Op) (call : Call) → call_of o ≡ Some call → Permits m held (kind_of access) instr o 0 → ⊥
        callee_refused (op.Call c) call is none = none
        callee_refused (op.Invoke c normal unwind) call is none = none
        callee_refused _ call is none = absurd (cc)

        return_clear : (val : Option Written) (x : Option Value) → held (dead_at frame.spot) ≡ false → instr.op ≡ op.Ret val → IsReadOr m here val x →
            HappensClear m held access old (Return x)
        return_clear None None live op_is reads = ((λ above low below e j secret. tt), tt)
        return_clear None (Some x) live op_is reads = absurd reads
        return_clear (Some w) None live op_is reads = absurd reads
        return_clear (Some w) (Some x) live op_is reads = ((λ above low below e j secret. tt), returned_let_go live w x op_is reads)

        returns : (val : Option Written) (x : Option Value) → held (dead_at frame.spot) ≡ false → instr.op ≡ op.Ret val → IsReadOr m here val x →
            ReturnsPointers m (event t.stack (Return x)) → (y : Value) → x ≡ Some y → IsLetGo m formed held is access t (Body frame) rest y
        returns None None live op_is reads typed y e = absurd (cc)
        returns None (Some x) live op_is reads typed y e = absurd reads
        returns (Some w) None live op_is reads typed y e = absurd reads
        returns (Some w) (Some x) live op_is reads typed y e =
            let same : x ≡ y = cc in
            let reads_y : IsRead m here w y = subst (IsRead m here w) same reads in record {
              from = returned_from w y reads_y;
              released = returned_let_go live w y op_is reads_y;
              types = λ s caller made at_s none. typed (active (Body frame)) s caller y (map active rest, ap (map active) stack)
                  (ap (λ (x : Value). Return (Some x)) same) made at_s none;
            }
