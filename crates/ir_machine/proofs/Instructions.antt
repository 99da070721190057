-- Steps by what they do, so that a law has a case for each kind of instruction and of act, and not one for each of them.
use Rattle.std.proofs.Common.{◌≡◌, ℕ, ◌*◌, ◌%◌, ◌^◌, ◌==◌, ◌&&◌, not, drop, nat_le, Bool, true, false, if◌then◌else◌, List, [], ◌∷◌, map, length, Option, None}
use Rattle.std.proofs.Common.{Some, refl, sym, subst}
use Rattle.std.specs.List.{list_all}
use Rattle.std.proofs.lemmas.Bool.{and_parts}
use Rattle.attr_ids.specs.declared.ids.TypeId.{TypeId}
use Rattle.attr_ids.specs.declared.ids.BlockId.{BlockId}
use Rattle.attr_ids.specs.declared.ids.ValueId.{ValueId}
use Rattle.ir_ops.specs.declared.predicate.Pred.{Pred}
use Rattle.ir_ops.specs.declared.conversion.CastOp.{CastOp}
use Rattle.ir_ops.specs.declared.conversion.CastOp.TheVariants as cast
use Rattle.ir_module.specs.declared.op.Call.{Call}
use Rattle.ir_module.specs.declared.op.Case.{Case}
use Rattle.ir_module.specs.declared.op.Op.{Op}
use Rattle.ir_module.specs.declared.op.Op.TheVariants as op
use Rattle.ir_module.specs.declared.op.Instr.{Instr}
use Rattle.ir_module.specs.declared.op.Written.{Written}
use Rattle.ir_module.specs.declared.module.Func.{Func}
use Rattle.ir_module.specs.declared.module.Module.{Module}
use Rattle.ir_module.specs.Places.{instr_at}
use Rattle.ir_module.specs.Calls.{call_of, direct_callee, inner_callee, callee_of, is_lifetime, is_open}
use Rattle.ir_machine.specs.declared.choice.Datum.{Datum}
use Rattle.ir_machine.specs.declared.choice.Datum.TheVariants as datum
use Rattle.ir_machine.specs.declared.choice.Value.{Value}
use Rattle.ir_machine.specs.declared.choice.Byte.{Byte}
use Rattle.ir_machine.specs.declared.choice.Act.{Act}
use Rattle.ir_machine.specs.declared.choice.Act.TheVariants as act
use Rattle.ir_machine.specs.declared.choice.Choice.{Choice}
use Rattle.ir_machine.specs.Values.{plain}
use Rattle.ir_machine.specs.Memory.{Heap, Dead, without_allocas}
use Rattle.ir_machine.specs.Frames.{Entered, At, BodyFrame, OutsideFrame, Frame, Body, Outside, State, Enter, Read, Write, HiddenRead, HiddenWrite, Free}
use Rattle.ir_machine.specs.Frames.{Capture, Return, Unwind}
use Rattle.ir_machine.specs.Moves.{Move, Says, Grows, Turns, Fills, Keeps, Sets, Goes, Begins, Ends, says, Outcome, Gives, Undefined, Over, Plan, with, does}
use Rattle.ir_machine.specs.Reading.{size_of, align_or, type_of, width_of, is_pointer, pick, read, Here, reading, AllPicked, read_all, behind, results}
use Rattle.ir_machine.specs.Compute.{computed, computes, flagged_by, any_truth, compares, does_icmp, does_cast}
use Rattle.ir_machine.specs.Access.{can_lie, base_by, alloca_shape, allocates, allocates_at, counting, count_of, Place, accessed, hidden, loaded_as, bytes_at}
use Rattle.ir_machine.specs.Access.{loads, bytes_with, stores}
use Rattle.ir_machine.specs.Edges.{crosses, crossing, branches, condition, branches_on, case_target, case_values, switches}
use Rattle.ir_machine.specs.Calls.{Passing, passed_to, params_of, entered, begun_by, body_frame, enters, runs, is_call_of_null, goes_on, comes_back, returns}
use Rattle.ir_machine.specs.Calls.{goes_through, is_end_name, marks_last, marks, calls, calls_or_marks, does_call, does_ret}
use Rattle.ir_machine.specs.Outside.{can_use, can_touch, block_in, pointers_in, taking, reads_at, can_write, captures_in, written_at, can_free, can_pass}
use Rattle.ir_machine.specs.Outside.{types_of, goes_in, return_type, can_return, comes_out, acts}
use Rattle.ir_machine.specs.Steps.{performs, body_plan, outside_plan, unless_acted, plan_on, plan}
use Rattle.ir_machine.proofs.Basics.{OnOutcome, on_with, on_found, on_needs, on_fits, on_if, given}

-- ---- operands

-- the operand was read as x
abbrev pub IsRead : Module → Here → Written → Value → Type 0
IsRead m here w x = (picks rest : List ℕ) × (read m here.state.memory here.frame.values w picks ≡ Gives (record { value = x; picks = rest }))

-- the operands were read as these values
abbrev pub AreRead : Module → Here → List Written → List Value → Type 0
AreRead m here [] [] = Unit {0}
AreRead m here (w ∷ ws) (x ∷ xs) = IsRead m here w x × AreRead m here ws xs
AreRead m here _ _ = ⊥

-- an optional operand was read, or there is none
abbrev pub IsReadOr : Module → Here → Option Written → Option Value → Type 0
IsReadOr m here None None = Unit {0}
IsReadOr m here (Some w) (Some x) = IsRead m here w x
IsReadOr m here _ _ = ⊥

pub on_reading : {A : Type 0} (Q : A → Type 0) (m : Module) (here : Here) (w : Written) (picks : List ℕ) (next : Value → List ℕ → Outcome A) →
    ((x : Value) (rest : List ℕ) → IsRead m here w x → OnOutcome Q (next x rest)) → OnOutcome Q (reading m here w picks next)
on_reading Q m here w picks next each =
    on_with Q (read m here.state.memory here.frame.values w picks) (λ r. next r.value r.picks) (λ r is. each r.value r.picks (picks, r.picks, is))

pub all_read : (m : Module) (here : Here) (ws : List Written) (picks : List ℕ) → OnOutcome (λ all. AreRead m here ws all.values) (read_all m here ws picks)
all_read m here [] picks = tt
all_read m here (w ∷ ws) picks =
    on_reading (λ all. AreRead m here (w ∷ ws) all.values) m here w picks
    (λ x picks. with (read_all m here ws picks) (λ rest. Gives (record { values = x ∷ rest.values; picks = rest.picks })))
    (λ x rest is. on_with (λ (all : AllPicked). AreRead m here (w ∷ ws) all.values) (read_all m here ws rest)
    (λ others. Gives (record { values = x ∷ others.values; picks = others.picks }))
    (λ others are. (is, given (λ (all : AllPicked). AreRead m here ws all.values) (read_all m here ws rest) others (all_read m here ws rest) are)))

-- ---- where a branch leads

-- the block to which a branch goes by its condition
abbrev pub Leads : Module → Here → Op → ℕ → Type 0
Leads m here (op.Jump to) block = block ≡ to.0
Leads m here (op.Branch c so otherwise) block =
    (x : Value) × (bits : ℕ) × IsRead m here c x × (x.datum ≡ datum.Int bits) × (block ≡ (if bits == 0 then otherwise.0 else so.0))
Leads m here (op.Switch on other cases) block =
    (x : Value) × (bits : ℕ) × (xs : List Value) × IsRead m here on x × AreRead m here (case_values cases) xs × (x.datum ≡ datum.Int bits) ×
    (block ≡ (case_target bits other cases xs).0)
Leads m here _ block = ⊥

conditional : (d : Datum) (bits : ℕ) → condition d ≡ Gives bits → d ≡ datum.Int bits
conditional (datum.Int n) bits e = cc
conditional datum.Undef bits e = absurd (cc)
conditional datum.Poison bits e = absurd (cc)
conditional (datum.Ptr block offset) bits e = absurd (cc)
conditional datum.Null bits e = absurd (cc)
conditional datum.Pair bits e = absurd (cc)

-- ---- the instructions of a module frame

-- how a call instruction passes its arguments
abbrev pub passing_at : Here → Call → List Value → Passing
passing_at here call xs = record { made = At here.frame.spot; tys = map (λ w. w.ty) call.args; values = xs }

-- no pointer to a block
abbrev pub IsNoPtr : Datum → Type 0
IsNoPtr (datum.Ptr block offset) = ⊥
IsNoPtr datum.Null = Unit {0}
IsNoPtr datum.Undef = Unit {0}
IsNoPtr datum.Poison = Unit {0}
IsNoPtr (datum.Int bits) = Unit {0}
IsNoPtr datum.Pair = Unit {0}

-- so many things are counted: one where no count is written, else what the operand was read as
abbrev pub IsCounted : Module → Here → Option Written → ℕ → Type 0
IsCounted m here None n = n ≡ 1
IsCounted m here (Some w) n = (x : Value) × IsRead m here w x × (count_of x.datum ≡ Gives n)

-- the place of an alloca: at a base of its alignment where there is room, and of as many things of its type as are counted
pub record IsLaid (m : Module) (here : Here) (ty : TypeId) (count : Option Written) (written : Option ℕ) (align base size : ℕ) : Type 0 where
  pub lies : can_lie here.state.memory align base size ≡ true
  pub aligned : align_or m ty.0 written ≡ Gives align
  pub bytes : ℕ
  pub number : ℕ
  pub sized : size_of m ty.0 ≡ Gives bytes
  pub counted : IsCounted m here count number
  pub is : size ≡ bytes * number

-- a value without origins that is no pointer to a block
pub record IsBare (x : Value) : Type 0 where
  pub origins : x.origins ≡ []
  pub datum : IsNoPtr x.datum

module _ (m : Module) (here : Here) (Q : List Move → Type 0) where
  abbrev onward : Move
  onward = Goes (behind here.frame.spot)

  -- Q of the moves of each kind of instruction that may stand here
  pub record EachKind : Type 0 where
    pub computing : (picks : List ℕ) (x : Value) (v : ValueId) → computed m here picks here.instr.op ≡ Gives x → here.instr.result ≡ Some v →
        Q (Sets v.0 x ∷ Goes (behind here.frame.spot) ∷ [])
    pub comparing : (pred : Pred) (flagged : Bool) (a b : Written) (x y z : Value) (v : ValueId) → here.instr.op ≡ op.Icmp pred flagged a b →
        IsRead m here a x → IsRead m here b y → IsBare z → here.instr.result ≡ Some v →
        Q (Says (Capture x.origins) ∷ Says (Capture y.origins) ∷ Sets v.0 z ∷ Goes (behind here.frame.spot) ∷ [])
    pub exposing : (flagged : Bool) (a : Written) (x z : Value) (v : ValueId) → here.instr.op ≡ op.Cast cast.PtrToInt flagged a →
        IsRead m here a x → IsBare z → here.instr.result ≡ Some v →
        Q (Says (Capture x.origins) ∷ Sets v.0 z ∷ Goes (behind here.frame.spot) ∷ [])
    pub allocating : (ty : TypeId) (count : Option Written) (written : Option ℕ) (align base size : ℕ) (v : ValueId) →
        here.instr.op ≡ op.Alloca ty count written →
        IsLaid m here ty count written align base size → here.instr.result ≡ Some v →
        Q (Grows (alloca_shape here v.0 base size) ∷ Sets v.0 (plain (datum.Ptr here.state.memory.count 0)) ∷ Goes (behind here.frame.spot) ∷ [])
    pub loading : (ptr : Written) (align : Option ℕ) (volatile : Bool) (p : Value) (place : Place) (x : Value) (v : ValueId) →
        here.instr.op ≡ op.Load ptr align volatile →
        IsRead m here ptr p → accessed m here.state.memory here.instr.ty.0 align p.datum ≡ Gives place →
        loaded_as (type_of m here.instr.ty) (bytes_at here.state.memory place) ≡ Gives x → here.instr.result ≡ Some v →
        Q (says (Read place.block p.origins ∷ hidden volatile p) (Sets v.0 x ∷ Goes (behind here.frame.spot) ∷ []))
    pub storing : (val ptr : Written) (align : Option ℕ) (volatile : Bool) (x p : Value) (place : Place) → here.instr.op ≡ op.Store val ptr align volatile →
        IsRead m here val x → IsRead m here ptr p → accessed m here.state.memory val.ty.0 align p.datum ≡ Gives place →
        Q (says (Write place.block p.origins ∷ Capture x.origins ∷ hidden volatile p)
        (Fills place.block (bytes_with here.state.memory place x) ∷ Goes (behind here.frame.spot) ∷ []))
    pub branching : (picks : List ℕ) (to : ℕ) (moves : List Move) → Leads m here here.instr.op to →
        crosses m (crossing m here.state.memory here.frame here.frame.values to) picks ≡ Gives moves → Q moves
    pub calling_body : (call : Call) (xs args : List Value) (f : ℕ) → call_of here.instr.op ≡ Some call → AreRead m here call.args xs →
        inner_callee m here.instr.op ≡ Some f → entered here.state.memory (params_of m f) (passed_to m here.state (passing_at here call xs)) ≡ Gives args →
        Q (Begins (Body (body_frame m here.state (passing_at here call xs) f args)) ∷ Says (Enter f) ∷ [])
    pub calling_outside : (call : Call) (callee : Value) (xs : List Value) → call_of here.instr.op ≡ Some call → IsRead m here call.callee callee →
        AreRead m here call.args xs → inner_callee m here.instr.op ≡ None →
        let args = passed_to m here.state (passing_at here call xs) in
        Q (Says (Capture callee.origins) ∷ Begins (Outside (record { call = begun_by m here.state (passing_at here call xs) args; hand = args })) ∷ [])
    pub marking : (call : Call) (f : Func) (xs : List Value) (picks : List ℕ) (moves : List Move) → call_of here.instr.op ≡ Some call →
        callee_of m here.instr.op ≡ Some f →
        is_lifetime f ≡ true → AreRead m here call.args xs → goes_on m here.state.memory here.frame here.instr None picks ≡ Gives moves →
        Q (marks_last m here.state.memory (is_end_name f.name) call.args xs moves)
    pub returning : (val : Option Written) (x : Option Value) (picks : List ℕ) (moves : List Move) → here.instr.op ≡ op.Ret val → IsReadOr m here val x →
        comes_back m (without_allocas here.frame.call.number here.state.memory) (Some here.frame.func) here.below x picks ≡ Gives moves →
        Q (Says (Return x) ∷ Ends ∷ moves)
    pub unwinding : (val : Written) (picks : List ℕ) (moves : List Move) → here.instr.op ≡ op.Resume val →
        goes_through m here.state.memory here.below picks ≡ Gives moves → Q (Says Unwind ∷ Ends ∷ moves)

  module _ (each : EachKind) (o : Op) (is : here.instr.op ≡ o) (picks : List ℕ) where
    on_computes : OnOutcome Q (computes m here picks o)
    on_computes =
        on_with Q (computed m here picks o) (λ x. results here x) (λ x gives. on_found Q here.instr.result (λ v. does (Sets v.0 x ∷ onward ∷ []))
        (λ v has. each.computing picks x v (subst (λ o. computed m here picks o ≡ Gives x) (sym is) gives) has))

  flagged_bare : (flagged : Bool) (picks : List ℕ) (bits : ℕ) → IsBare (plain (flagged_by flagged picks (datum.Int bits)))
  flagged_bare flagged picks bits = record { origins = refl; datum = by (flagged && not (pick picks == 0)) }
    where
      by : (b : Bool) → IsNoPtr (if b then datum.Poison else datum.Int bits)
      by true = tt
      by false = tt

  on_icmp : EachKind → (pred : Pred) (flagged : Bool) (a b : Written) (picks : List ℕ) → here.instr.op ≡ op.Icmp pred flagged a b →
      OnOutcome Q (does_icmp m here picks (op.Icmp pred flagged a b))
  on_icmp each pred flagged a b picks is =
      on_if Q (is_pointer m a.ty) (compares m here picks flagged a b) (computes m here picks (op.Icmp pred flagged a b))
      (λ _. on_reading Q m here a picks _ (λ x rest at_a. on_reading Q m here b rest _ (λ y rest at_b. on_found Q here.instr.result _
      (λ v has. each.comparing pred flagged a b x y (any_truth flagged rest) v is at_a at_b
      (flagged_bare flagged (drop 1 rest) (if not (pick rest == 0) then 1 else 0)) has))))
      (λ _. on_computes each (op.Icmp pred flagged a b) is picks)

  on_cast : EachKind → (o : CastOp) (flagged : Bool) (a : Written) (picks : List ℕ) → here.instr.op ≡ op.Cast o flagged a →
      OnOutcome Q (does_cast m here picks o flagged a)
  on_cast each cast.PtrToInt flagged a picks is =
      on_reading Q m here a picks _ (λ x rest at_a. on_found Q here.instr.result _
      (λ v has. each.exposing flagged a x _ v is at_a (flagged_bare flagged (drop 1 rest) (pick rest % (2 ^ width_of m here.instr.ty))) has))
  on_cast each cast.Trunc flagged a picks is = on_computes each (op.Cast cast.Trunc flagged a) is picks
  on_cast each cast.ZExt flagged a picks is = on_computes each (op.Cast cast.ZExt flagged a) is picks
  on_cast each cast.SExt flagged a picks is = on_computes each (op.Cast cast.SExt flagged a) is picks

  on_alloca : EachKind → (ty : TypeId) (count : Option Written) (align : Option ℕ) (picks : List ℕ) → here.instr.op ≡ op.Alloca ty count align →
      OnOutcome Q (allocates m here picks ty.0 count align)
  on_alloca each ty count align picks is =
      on_counting count picks _ (λ n rest counted. on_with Q (size_of m ty.0) _ (λ size sized. on_with Q (align_or m ty.0 align) _ (λ bytes aligned.
      on_needs Q (nat_le (size * n) (2 ^ 40)) (allocates_at here bytes (base_by here.state.memory bytes (pick rest)) (size * n))
      (λ _. at bytes (base_by here.state.memory bytes (pick rest)) size n aligned sized counted))))
    where
      at : (bytes base size n : ℕ) → align_or m ty.0 align ≡ Gives bytes → size_of m ty.0 ≡ Gives size → IsCounted m here count n →
          OnOutcome Q (allocates_at here bytes base (size * n))
      at bytes base size n aligned sized counted =
          on_fits Q (can_lie here.state.memory bytes base (size * n)) _ (λ can. on_found Q here.instr.result _
          (λ v has. each.allocating ty count align bytes base (size * n) v is (record {
            lies = can;
            aligned = aligned;
            bytes = size;
            number = n;
            sized = sized;
            counted = counted;
            is = refl;
          }) has))

      on_counting : (count : Option Written) (picks : List ℕ) (next : ℕ → List ℕ → Plan) →
          ((n : ℕ) (rest : List ℕ) → IsCounted m here count n → OnOutcome Q (next n rest)) → OnOutcome Q (counting m here count picks next)
      on_counting None picks next goes = goes 1 picks refl
      on_counting (Some w) picks next goes =
          on_reading Q m here w picks _ (λ x rest at. on_with Q (count_of x.datum) (λ n. next n rest) (λ n counted. goes n rest (x, at, counted)))

  on_load : EachKind → (ptr : Written) (align : Option ℕ) (volatile : Bool) (picks : List ℕ) → here.instr.op ≡ op.Load ptr align volatile →
      OnOutcome Q (loads m here picks ptr align volatile)
  on_load each ptr align volatile picks is =
      on_reading Q m here ptr picks _ (λ p rest at. on_with Q (accessed m here.state.memory here.instr.ty.0 align p.datum) _ (λ place can.
      on_with Q (loaded_as (type_of m here.instr.ty) (bytes_at here.state.memory place)) _ (λ x loaded. on_found Q here.instr.result _
      (λ v has. each.loading ptr align volatile p place x v is at can loaded has))))

  on_store : EachKind → (val ptr : Written) (align : Option ℕ) (volatile : Bool) (picks : List ℕ) → here.instr.op ≡ op.Store val ptr align volatile →
      OnOutcome Q (stores m here picks val ptr align volatile)
  on_store each val ptr align volatile picks is =
      on_reading Q m here val picks _ (λ x rest at_val. on_reading Q m here ptr rest _ (λ p rest at_ptr.
      on_with Q (accessed m here.state.memory val.ty.0 align p.datum) _ (λ place can. each.storing val ptr align volatile x p place is at_val at_ptr can)))

  branched : EachKind → (to : ℕ) (picks : List ℕ) → Leads m here here.instr.op to → OnOutcome Q (branches m here to picks)
  branched each to picks leads =
      by (crosses m (crossing m here.state.memory here.frame here.frame.values to) picks) refl
    where
      by : (o : Outcome (List Move)) → crosses m (crossing m here.state.memory here.frame here.frame.values to) picks ≡ o → OnOutcome Q o
      by (Gives moves) gives = each.branching picks to moves leads gives
      by Undefined gives = tt
      by Over gives = tt

  on_branch : EachKind → (c : Written) (so otherwise : BlockId) (picks : List ℕ) → here.instr.op ≡ op.Branch c so otherwise →
      OnOutcome Q (branches_on m here picks c so otherwise)
  on_branch each c so otherwise picks is =
      on_reading Q m here c picks _ (λ x rest at. on_with Q (condition x.datum) _ (λ bits is_int.
      let to = if bits == 0 then otherwise.0 else so.0 in
      branched each to rest (subst (λ o. Leads m here o to) (sym is) (x, bits, at, conditional x.datum bits is_int, refl))))

  on_switch : EachKind → (on : Written) (other : BlockId) (cases : List Case) (picks : List ℕ) → here.instr.op ≡ op.Switch on other cases →
      OnOutcome Q (switches m here picks on other cases)
  on_switch each on other cases picks is =
      on_reading Q m here on picks _ (λ x rest at. on_with Q (read_all m here (case_values cases) rest) _ (λ all are. on_with Q (condition x.datum) _
      (λ bits is_int.
      let to = (case_target bits other cases all.values).0 in
      let read_cases = given (λ (all : AllPicked). AreRead m here (case_values cases) all.values) (read_all m here (case_values cases) rest) all
      (all_read m here (case_values cases) rest) are in
      branched each to all.picks (subst (λ o. Leads m here o to) (sym is) (x, bits, all.values, at, read_cases, conditional x.datum bits is_int, refl)))))

  read_args : (call : Call) (picks : List ℕ) (all : AllPicked) → read_all m here call.args picks ≡ Gives all → AreRead m here call.args all.values
  read_args call picks all are =
      given (λ (all : AllPicked). AreRead m here call.args all.values) (read_all m here call.args picks) all (all_read m here call.args picks) are

  on_calls : EachKind → (o : Op) (call : Call) (picks : List ℕ) → here.instr.op ≡ o → call_of o ≡ Some call → OnOutcome Q (calls m here picks o call)
  on_calls each o call picks is is_call =
      on_needs Q (not (is_call_of_null here.state.memory (direct_callee m o))) _ (λ _. on_reading Q m here call.callee picks _ (λ callee rest at.
      on_with Q (read_all m here call.args rest) _ (λ all are. by callee all.values at (read_args call rest all are) (inner_callee m o) refl)))
    where
      by : (callee : Value) (xs : List Value) → IsRead m here call.callee callee → AreRead m here call.args xs → (body : Option ℕ) → inner_callee m o ≡ body →
          OnOutcome Q (runs m here.state (passing_at here call xs) callee body)
      by callee xs at are (Some f) inner =
          on_with Q (entered here.state.memory (params_of m f) (passed_to m here.state (passing_at here call xs))) _ (λ args enters.
          each.calling_body call xs args f (subst (λ o. call_of o ≡ Some call) (sym is) is_call) are (subst (λ o. inner_callee m o ≡ Some f)
          (sym is) inner) enters)
      by callee xs at are None inner =
          each.calling_outside call callee xs (subst (λ o. call_of o ≡ Some call) (sym is) is_call) at are (subst (λ o. inner_callee m o ≡ None) (sym is) inner)

  on_marks : EachKind → (o : Op) (call : Call) (f : Func) (picks : List ℕ) → here.instr.op ≡ o → call_of o ≡ Some call → callee_of m o ≡ Some f →
      is_lifetime f ≡ true →
      OnOutcome Q (marks m here picks f call)
  on_marks each o call f picks is is_call callee lifetime =
      on_with Q (read_all m here call.args picks) _ (λ all are. on_with Q (goes_on m here.state.memory here.frame here.instr None all.picks) _ (λ moves goes.
      each.marking call f all.values all.picks moves (subst (λ o. call_of o ≡ Some call) (sym is) is_call) (subst (λ o. callee_of m o ≡ Some f)
      (sym is) callee) lifetime
      (read_args call picks all are) goes))

  on_call : EachKind → (o : Op) (call : Call) (picks : List ℕ) → here.instr.op ≡ o → call_of o ≡ Some call → OnOutcome Q (does_call m here picks o call)
  on_call each o call picks is is_call = by (callee_of m o) refl
    where
      by : (callee : Option Func) → callee_of m o ≡ callee → OnOutcome Q (calls_or_marks m here picks o call callee)
      by None e = on_calls each o call picks is is_call
      by (Some f) e =
          on_if Q (is_lifetime f) (marks m here picks f call) (calls m here picks o call) (λ lifetime. on_marks each o call f picks is is_call e lifetime)
          (λ _. on_calls each o call picks is is_call)

  on_ret : EachKind → (val : Option Written) (picks : List ℕ) → here.instr.op ≡ op.Ret val → OnOutcome Q (does_ret m here picks val)
  on_ret each None picks is = on_with Q (comes_back m (without_allocas here.frame.call.number here.state.memory) (Some here.frame.func) here.below None picks)
      (λ moves. does (Says (Return None) ∷ Ends ∷ moves)) (λ moves back. each.returning None None picks moves is tt back)
  on_ret each (Some w) picks is =
      on_reading Q m here w picks _ (λ x rest at. on_with Q (comes_back m (without_allocas here.frame.call.number here.state.memory)
      (Some here.frame.func) here.below (Some x) rest)
      (λ moves. does (Says (Return (Some x)) ∷ Ends ∷ moves)) (λ moves back. each.returning (Some w) (Some x) rest moves is at back))

  -- Q holds of the moves of every instruction if it does of each kind
  pub by_kind : EachKind → (o : Op) (picks : List ℕ) → here.instr.op ≡ o → OnOutcome Q (performs m here picks o)
  by_kind each (op.Bin o flagged a b) picks is = on_computes each (op.Bin o flagged a b) is picks
  by_kind each (op.Icmp pred flagged a b) picks is = on_icmp each pred flagged a b picks is
  by_kind each (op.Cast o flagged a) picks is = on_cast each o flagged a picks is
  by_kind each (op.Select c a b) picks is = on_computes each (op.Select c a b) is picks
  by_kind each (op.Freeze a) picks is = on_computes each (op.Freeze a) is picks
  by_kind each (op.Phi arms) picks is = tt
  by_kind each (op.Alloca ty count align) picks is = on_alloca each ty count align picks is
  by_kind each (op.Load ptr align volatile) picks is = on_load each ptr align volatile picks is
  by_kind each (op.Store val ptr align volatile) picks is = on_store each val ptr align volatile picks is
  by_kind each (op.Gep elem base indices inbounds wrap) picks is = on_computes each (op.Gep elem base indices inbounds wrap) is picks
  by_kind each (op.Call call) picks is = on_call each (op.Call call) call picks is refl
  by_kind each (op.Invoke call normal unwind) picks is = on_call each (op.Invoke call normal unwind) call picks is refl
  by_kind each (op.LandingPad catch_all clauses) picks is = on_computes each (op.LandingPad catch_all clauses) is picks
  by_kind each (op.Resume val) picks is = on_with Q (goes_through m here.state.memory here.below picks) _
      (λ moves gives. each.unwinding val picks moves is gives)
  by_kind each (op.Ret val) picks is = on_ret each val picks is
  by_kind each (op.Jump to) picks is = branched each to.0 picks (subst (λ o. Leads m here o to.0) (sym is) refl)
  by_kind each (op.Branch c so otherwise) picks is = on_branch each c so otherwise picks is
  by_kind each (op.Switch on other cases) picks is = on_switch each on other cases picks is
  by_kind each op.Unreachable picks is = tt

-- ---- the acts of an outside frame
-- how the outside passes its arguments to a body
abbrev pub passing_in : Module → ℕ → List Value → Passing
passing_in m f xs = record { made = Entered; tys = types_of (params_of m f); values = xs }

module _ (m : Module) (t : State) (frame : OutsideFrame) (below : List Frame) (Q : List Move → Type 0) where
  -- Q of the moves of each act
  pub record EachAct : Type 0 where
    pub reading : (p : Value) (size : ℕ) → (can_use t frame p && can_touch t.memory size p.datum) ≡ true →
        Q (Says (Read (block_in p.datum) p.origins) ∷ taking (pointers_in [] (reads_at t.memory p size)))
    pub writing : (p : Value) (bytes : List Byte) →
        ((can_use t frame p && can_touch t.memory (length bytes) p.datum) && list_all (can_write t frame) bytes) ≡ true →
        Q (says (Write (block_in p.datum) p.origins ∷ captures_in bytes) (Fills (block_in p.datum) (written_at t.memory p bytes) ∷ []))
    pub hidden_reading : Q (Says HiddenRead ∷ [])
    pub hidden_writing : Q (Says HiddenWrite ∷ [])
    pub making : (base size : ℕ) → can_lie t.memory 1 base size ≡ true → Q (Grows (record { size = size; base = base; kind = Heap }) ∷ [])
    pub freeing : (block : ℕ) → can_free t.memory block ≡ true → Q (Says (Free block) ∷ Turns block Dead ∷ [])
    pub keeping : (x : Value) → can_use t frame x ≡ true → Q (Says (Capture x.origins) ∷ Keeps x ∷ [])
    pub entering : (f : ℕ) (xs args : List Value) → is_open m f ≡ true → can_pass m t frame (params_of m f) xs ≡ true →
        entered t.memory (params_of m f) (passed_to m t (passing_in m f xs)) ≡ Gives args →
        Q (Begins (Body (body_frame m t (passing_in m f xs) f args)) ∷ Says (Enter f) ∷ [])
    pub returning : (x : Option Value) (picks : List ℕ) (moves : List Move) → can_return m t frame (return_type m frame.call.made) x ≡ true →
        comes_back m (without_allocas frame.call.number t.memory) None below x picks ≡ Gives moves → Q (Says (Return x) ∷ Ends ∷ moves)
    pub unwinding : (picks : List ℕ) (moves : List Move) → goes_through m t.memory below picks ≡ Gives moves → Q (Says Unwind ∷ Ends ∷ moves)

  on_enter : EachAct → (f : ℕ) (xs : List Value) → OnOutcome Q (goes_in m t frame f xs)
  on_enter each f xs =
      on_fits Q (is_open m f && can_pass m t frame (params_of m f) xs) (enters m t (passing_in m f xs) f) (λ both.
      on_with Q (entered t.memory (params_of m f) (passed_to m t (passing_in m f xs))) _ (λ args enters.
      each.entering f xs args (and_parts (is_open m f) (can_pass m t frame (params_of m f) xs) both).0
      (and_parts (is_open m f) (can_pass m t frame (params_of m f) xs) both).1 enters))

  on_return : EachAct → (x : Option Value) (picks : List ℕ) → OnOutcome Q (comes_out m t frame below x picks)
  on_return each x picks =
      on_fits Q (can_return m t frame (return_type m frame.call.made) x) (returns m t (Outside frame) below x picks) (λ can.
      on_with Q (comes_back m (without_allocas frame.call.number t.memory) None below x picks)
      (λ moves. does (Says (Return x) ∷ Ends ∷ moves)) (λ moves back. each.returning x picks moves can back))

  -- Q holds of the moves of every act if it does of each
  pub by_act : EachAct → (picks : List ℕ) (a : Act) → OnOutcome Q (acts m t frame below picks a)
  by_act each picks (act.Read ptr size) = on_fits Q (can_use t frame ptr && can_touch t.memory size ptr.datum) _ (λ can. each.reading ptr size can)
  by_act each picks (act.Write ptr bytes) =
      on_fits Q ((can_use t frame ptr && can_touch t.memory (length bytes) ptr.datum) && list_all (can_write t frame) bytes) _
      (λ can. each.writing ptr bytes can)
  by_act each picks act.HiddenRead = each.hidden_reading
  by_act each picks act.HiddenWrite = each.hidden_writing
  by_act each picks (act.New size base) = on_fits Q (can_lie t.memory 1 (base_by t.memory 1 base) size) _ (λ can. each.making
      (base_by t.memory 1 base) size can)
  by_act each picks (act.Free block) = on_fits Q (can_free t.memory block) _ (λ can. each.freeing block can)
  by_act each picks (act.Keep value) = on_fits Q (can_use t frame value) _ (λ can. each.keeping value can)
  by_act each picks (act.Enter func args) = on_enter each func.0 args
  by_act each picks (act.Return value) = on_return each value picks
  by_act each picks act.Unwind = on_with Q (goes_through m t.memory below picks) _ (λ moves gives. each.unwinding picks moves gives)

-- ---- the step
-- a module frame on top, at its instruction
abbrev pub here_in : State → BodyFrame → List Frame → Instr → Here
here_in t frame below instr = record { state = t; frame = frame; below = below; instr = instr }

module _ (m : Module) (t : State) (Q : List Move → Type 0) where
  -- Q of the moves of each kind of instruction and of each act, by the frame on top
  pub record EachStep : Type 0 where
    pub body : (frame : BodyFrame) (below : List Frame) (instr : Instr) → t.stack ≡ Body frame ∷ below → instr_at m frame.spot ≡ Some instr →
        EachKind m (here_in t frame below instr) Q
    pub outside : (frame : OutsideFrame) (below : List Frame) → t.stack ≡ Outside frame ∷ below → EachAct m t frame below Q

  on_body : EachStep → (frame : BodyFrame) (below : List Frame) → t.stack ≡ Body frame ∷ below → (picks : List ℕ) (at : Option Instr) →
      instr_at m frame.spot ≡ at →
      OnOutcome Q (body_plan m t frame below picks at)
  on_body each frame below stack picks None e = tt
  on_body each frame below stack picks (Some instr) e = by_kind m (here_in t frame below instr) Q (each.body frame below instr stack e) instr.op picks refl

  on_stack : EachStep → (choice : Choice) (stack : List Frame) → t.stack ≡ stack → (a : Option Act) → choice.act ≡ a → OnOutcome Q (plan_on m t choice stack)
  on_stack each choice [] e a is = tt
  on_stack each choice (Outside frame ∷ below) e None is = subst (λ a. OnOutcome Q (outside_plan m t frame below choice a)) (sym is) tt
  on_stack each choice (Outside frame ∷ below) e (Some a) is =
      subst (λ a. OnOutcome Q (outside_plan m t frame below choice a)) (sym is) (by_act m t frame below Q (each.outside frame below e) choice.picks a)
  on_stack each choice (Body frame ∷ below) e None is =
      subst (λ a. OnOutcome Q (unless_acted a (body_plan m t frame below choice.picks (instr_at m frame.spot)))) (sym is)
      (on_body each frame below e choice.picks (instr_at m frame.spot) refl)
  on_stack each choice (Body frame ∷ below) e (Some a) is =
      subst (λ a. OnOutcome Q (unless_acted a (body_plan m t frame below choice.picks (instr_at m frame.spot)))) (sym is) tt

  -- Q holds of the moves of every step if it does of each kind of instruction and of each act
  pub by_step : EachStep → (choice : Choice) → OnOutcome Q (plan m t choice)
  unfolding plan
  by_step each choice = on_stack each choice t.stack refl choice.act refl
