-- Instructions, production by production: each type, operand and block that they name is there.
use Rattle.std.proofs.Common.{◌≡◌, ◌∙◌, ◌<◌, ◌≤◌, ◌⊎◌, inl, inr, ℕ, zero, suc, List, [], ◌∷◌, ◌++◌, length, map, slice_get, Option, None, Some}
use Rattle.std.proofs.Common.{refl, sym, ap, subst, arith, append-nil}
use Rattle.std.specs.List.{flat_map}
use Rattle.std.proofs.lemmas.Option.{none-some, same_Some}
use Rattle.std.proofs.lemmas.List.{length-map}
use Rattle.attr_ids.specs.declared.ids.TypeId.{TypeId}
use Rattle.attr_ids.specs.declared.ids.BlockId.{BlockId}
use Rattle.ir_tree.specs.declared.types.Ty.{Ty}
use Rattle.ir_tree.specs.declared.types.Ftype.{Ftype}
use Rattle.ir_tree.specs.declared.types.Ftype.TheVariants as ftype
use Rattle.ir_tree.specs.declared.values.Tvalue.{Tvalue}
use Rattle.ir_tree.specs.declared.instructions.Arg.{Arg}
use Rattle.ir_tree.specs.declared.instructions.Case.{Case}
use Rattle.ir_tree.specs.declared.instructions.Called.{Called}
use Rattle.ir_tree.specs.declared.instructions.Instr.{Instr}
use Rattle.ir_tree.specs.declared.instructions.Instr.TheVariants as instr
use Rattle.ir_tree.specs.declared.instructions.Invoke.{Invoke}
use Rattle.ir_tree.specs.declared.instructions.Term.{Term}
use Rattle.ir_tree.specs.declared.instructions.Term.TheVariants as term
use Rattle.ir_module.specs.declared.op.Op.{Op}
use Rattle.ir_module.specs.declared.op.Written.{Written}
use Rattle.ir_module.specs.declared.edge.Edge.{Edge}
use Rattle.ir_module.specs.Operands.{operands}
use Rattle.ir_module.specs.Edges.{case_edge, edges}
use Rattle.ir_module.specs.Formed.{sources, written_types, HasArgs}
use Rattle.ir_module.specs.WellFormed.{Each}
use Rattle.ir_instrs.specs.Reading.{Reading, Parts, void_type, pointer_type}
use Rattle.ir_instrs.specs.Uses.{Use, label_faults, use_faults, faults_of, behind, each}
use Rattle.ir_instrs.specs.Uses.Use.{Typed, Label}
use Rattle.ir_instrs.specs.Operands.{tvalue_uses, optional_uses, label}
use Rattle.ir_instrs.specs.Ops.{arm_of, arm_uses, clause_uses, front}
use Rattle.ir_instrs.specs.Terms.{term_of, term_uses, case_of, case_uses}
use Rattle.ir_bodies.specs.Context.{Context}
use Rattle.ir_bodies.specs.Calls.{call_of, call_uses, callee_uses, arg, arg_uses, func_type, param_types}
use Rattle.ir_bodies.specs.Instrs.{op_of, uses_of, type_in, invoke_of, invoke_uses}
use Rattle.ir_bodies.specs.Order.{reads, HasBase}
use Rattle.ir_bodies.proofs.Ordered.{of_instr, of_term, of_call, reads_append}
use Rattle.resolved_forms.proofs.Runs.{nil_parts}
use Rattle.resolved_forms.proofs.Uses.{AreGood, AreTyped, IsGround, IsOperandWritten, typed_both, typed_all, reads_good, label_there}

-- ---- lists
pub get_mapped : {X Y : Type 0} (f : X → Y) (xs : List X) (k : ℕ) (x : X) → slice_get xs k ≡ Some x → slice_get (map f xs) k ≡ Some (f x)
get_mapped f [] k x at = absurd (none-some x at)
get_mapped f (y ∷ xs) zero x at = ap (λ z. Some (f z)) (same_Some y x at)
get_mapped f (y ∷ xs) (suc k) x at = get_mapped f xs k x at

pub length_each : {X Y : Type 0} (r : Reading) (made : Parts → X → Y) (uses : X → List Use) (ps : Parts) (xs : List X)
    → length (each r made uses ps xs) ≡ length xs
length_each r made uses ps [] = refl
length_each r made uses ps (x ∷ xs) = ap suc (length_each r made uses (behind r ps (uses x)) xs)

-- ---- labels
module _ (r : Reading) where
  -- the blocks that are named among these
  abbrev labels : List Use → List BlockId
  labels [] = []
  labels (Typed t v ∷ us) = labels us
  labels (Label at ∷ us) = label r at ∷ labels us

  labels_both : (us vs : List Use) → labels (us ++ vs) ≡ labels us ++ labels vs
  labels_both [] vs = refl
  labels_both (Typed t v ∷ us) vs = labels_both us vs
  labels_both (Label at ∷ us) vs = ap (λ bs. label r at ∷ bs) (labels_both us vs)

  -- things that name one block each
  labels_each : {X Y : Type 0} (made : Parts → X → Y) (uses : X → List Use) (to : Y → BlockId)
      (one : (ps : Parts) (x : X) → labels (uses x) ≡ to (made ps x) ∷ []) (ps : Parts) (xs : List X)
      → map to (each r made uses ps xs) ≡ labels (flat_map uses xs)
  labels_each made uses to one ps [] = refl
  labels_each made uses to one ps (x ∷ xs) =
      ap (λ bs. to (made ps x) ∷ bs) (labels_each made uses to one (behind r ps (uses x)) xs)
      ∙ ap (λ bs. bs ++ labels (flat_map uses xs)) (sym (one ps x)) ∙ sym (labels_both (uses x) (flat_map uses xs))

  -- things that name none
  labels_none : {X : Type 0} (uses : X → List Use) (one : (x : X) → labels (uses x) ≡ []) (xs : List X) → labels (flat_map uses xs) ≡ []
  labels_none uses one [] = refl
  labels_none uses one (x ∷ xs) = labels_both (uses x) (flat_map uses xs) ∙ ap (λ bs. bs ++ labels (flat_map uses xs)) (one x) ∙ labels_none uses one xs

  case_targets : (ps : Parts) (cs : List Case)
      → map (λ (e : Edge). e.to) (map case_edge (each r (case_of r) (case_uses r) ps cs)) ≡ labels (flat_map (case_uses r) cs)
  case_targets ps [] = refl
  case_targets ps (c ∷ cs) = ap (λ bs. label r c.to ∷ bs) (case_targets (behind r ps (case_uses r c)) cs)

  term_targets : (ps : Parts) (x : Term) → map (λ (e : Edge). e.to) (edges (term_of r ps x)) ≡ labels (term_uses r x)
  unfolding term_of term_uses
  term_targets ps (term.RetVoid at) = refl
  term_targets ps (term.Ret at of) = refl
  term_targets ps (term.Jump at to) = refl
  term_targets ps (term.Branch at on taken other) = refl
  term_targets ps (term.Switch x) = ap (λ bs. label r x.other ∷ bs) (case_targets _ x.cases)
  term_targets ps (term.Unreachable at) = refl
  term_targets ps (term.Resume at of) = refl

  call_labels : (c : Called) → labels (call_uses r c) ≡ []
  call_labels c = labels_none (arg_uses r) (λ a. refl) c.arguments.args

  invoke_labels : (i : Invoke) → labels (invoke_uses r i) ≡ label r i.normal ∷ label r i.unwind ∷ []
  invoke_labels i = labels_both (call_uses r i.called) (Label i.normal ∷ Label i.unwind ∷ [])
      ∙ ap (λ bs. bs ++ label r i.normal ∷ label r i.unwind ∷ []) (call_labels i.called)

-- ---- no edges, and which sources
no_edges : (x : Context) (ps : Parts) (i : Instr) → edges (op_of x ps i) ≡ []
unfolding op_of
no_edges x ps (instr.Binop w flags t left right) = refl
no_edges x ps (instr.Icmp i) = refl
no_edges x ps (instr.Cast w flags of to) = refl
no_edges x ps (instr.Select i) = refl
no_edges x ps (instr.Freeze w of) = refl
no_edges x ps (instr.Phi w t arms) = refl
no_edges x ps (instr.Alloca i) = refl
no_edges x ps (instr.Load w volatile t from align) = refl
no_edges x ps (instr.Store i) = refl
no_edges x ps (instr.GetElementPtr w flags elem operands) = refl
no_edges x ps (instr.Call i) = refl
no_edges x ps (instr.Cleanup w t cleanup clauses) = refl
no_edges x ps (instr.LandingPad w t clauses) = refl

no_sources : (r : Reading) (ps : Parts) (x : Term) → sources (term_of r ps x) ≡ []
unfolding term_of
no_sources r ps (term.RetVoid at) = refl
no_sources r ps (term.Ret at of) = refl
no_sources r ps (term.Jump at to) = refl
no_sources r ps (term.Branch at on taken other) = refl
no_sources r ps (term.Switch x) = refl
no_sources r ps (term.Unreachable at) = refl
no_sources r ps (term.Resume at of) = refl

-- a getelementptr without operands has one that names nothing
based : (x : Context) (ps : Parts) (i : Instr) → HasBase i ⊎ (operands (op_of x ps i) ≡ front [] ∷ [])
unfolding op_of
based x ps (instr.Binop w flags t left right) = inl tt
based x ps (instr.Icmp i) = inl tt
based x ps (instr.Cast w flags of to) = inl tt
based x ps (instr.Select i) = inl tt
based x ps (instr.Freeze w of) = inl tt
based x ps (instr.Phi w t arms) = inl tt
based x ps (instr.Alloca i) = inl tt
based x ps (instr.Load w volatile t from align) = inl tt
based x ps (instr.Store i) = inl tt
based x ps (instr.GetElementPtr w flags elem []) = inr refl
based x ps (instr.GetElementPtr w flags elem (v ∷ vs)) = inl (omega arith)
based x ps (instr.Call i) = inl tt
based x ps (instr.Cleanup w t cleanup clauses) = inl tt
based x ps (instr.LandingPad w t clauses) = inl tt

-- ---- arguments
call_args : (x : Context) (ps : Parts) (c : Called) → (length (call_of x ps c).attrs.args ≡ length (call_of x ps c).args)
    × (length (call_of x ps c).places.args ≡ length (call_of x ps c).args)
call_args x ps c =
    let r = x.reading in
    let many = length_each r (arg r) (arg_uses r) (behind r ps (callee_uses c)) c.arguments.args in
    (length-map c.arguments.args _ ∙ sym many, length-map c.arguments.args _ ∙ sym many)

instr_args : (x : Context) (ps : Parts) (i : Instr) → HasArgs (op_of x ps i)
unfolding op_of
instr_args x ps (instr.Binop w flags t left right) = tt
instr_args x ps (instr.Icmp i) = tt
instr_args x ps (instr.Cast w flags of to) = tt
instr_args x ps (instr.Select i) = tt
instr_args x ps (instr.Freeze w of) = tt
instr_args x ps (instr.Phi w t arms) = tt
instr_args x ps (instr.Alloca i) = tt
instr_args x ps (instr.Load w volatile t from align) = tt
instr_args x ps (instr.Store i) = tt
instr_args x ps (instr.GetElementPtr w flags elem operands) = tt
instr_args x ps (instr.Call i) = call_args x ps i.called
instr_args x ps (instr.Cleanup w t cleanup clauses) = tt
instr_args x ps (instr.LandingPad w t clauses) = tt

term_args : (r : Reading) (ps : Parts) (x : Term) → HasArgs (term_of r ps x)
unfolding term_of
term_args r ps (term.RetVoid at) = tt
term_args r ps (term.Ret at of) = tt
term_args r ps (term.Jump at to) = tt
term_args r ps (term.Branch at on taken other) = tt
term_args r ps (term.Switch x) = tt
term_args r ps (term.Unreachable at) = tt
term_args r ps (term.Resume at of) = tt

-- ---- all of it
-- what an operation with this type names is there: types, operands, where there are so many parts, and blocks
pub record IsSaid (T G F : ℕ) (V B : ℕ → Type 0) (n : ℕ) (t : TypeId) (o : Op) : Type 0 where
  pub ty : t.0 < T
  pub names : Each (operands o) (λ k w. IsOperandWritten T G F V n w)
  pub targets : (k : ℕ) (e : Edge) → slice_get (edges o) k ≡ Some e → B e.to.0
  pub arms : (k : ℕ) (b : BlockId) → slice_get (sources o) k ≡ Some b → B b.0
  pub types : (k : ℕ) (u : TypeId) → slice_get (written_types o) k ≡ Some u → u.0 < T
  pub args : HasArgs o

module _ (T G F : ℕ) (V B : ℕ → Type 0) (r : Reading) (ground : IsGround T G F V B r) where
  pointer_low : pointer_type.0 < T
  pointer_low = let two = ground.two in omega (arith, two)

  void_low : void_type.0 < T
  void_low = let two = ground.two in omega (arith, two)

  typed_optional : (o : Option Tvalue) → AreTyped T (optional_uses r o)
  typed_optional None = tt
  typed_optional (Some v) = (ground.kinds v.ty, tt)

  pub typed_call : (c : Called) → AreTyped T (call_uses r c)
  typed_call c = (pointer_low, typed_all T (arg_uses r) (λ a. (ground.kinds a.ty, tt)) c.arguments.args)

  pub typed_instr : (i : Instr) → AreTyped T (uses_of r i)
  unfolding uses_of
  typed_instr (instr.Binop w flags t left right) = (ground.kinds t, (ground.kinds t, tt))
  typed_instr (instr.Icmp i) = (ground.kinds i.ty, (ground.kinds i.ty, tt))
  typed_instr (instr.Cast w flags of to) = (ground.kinds of.ty, tt)
  typed_instr (instr.Select i) = (ground.kinds i.on.ty, (ground.kinds i.yes.ty, (ground.kinds i.no.ty, tt)))
  typed_instr (instr.Freeze w of) = (ground.kinds of.ty, tt)
  typed_instr (instr.Phi w t arms) = typed_all T (arm_uses (r.kind t)) (λ a. (ground.kinds t, tt)) arms
  typed_instr (instr.Alloca i) = typed_optional i.count
  typed_instr (instr.Load w volatile t from align) = (ground.kinds from.ty, tt)
  typed_instr (instr.Store i) = (ground.kinds i.value.ty, (ground.kinds i.to.ty, tt))
  typed_instr (instr.GetElementPtr w flags elem operands) = typed_all T (tvalue_uses r) (λ v. (ground.kinds v.ty, tt)) operands
  typed_instr (instr.Call i) = typed_call i.called
  typed_instr (instr.Cleanup w t cleanup clauses) = typed_all T (clause_uses r) (λ c. (ground.kinds c.value.ty, tt)) clauses
  typed_instr (instr.LandingPad w t clauses) = typed_all T (clause_uses r) (λ c. (ground.kinds c.value.ty, tt)) clauses

  pub typed_term : (x : Term) → AreTyped T (term_uses r x)
  unfolding term_uses
  typed_term (term.RetVoid at) = tt
  typed_term (term.Ret at of) = (ground.kinds of.ty, tt)
  typed_term (term.Jump at to) = tt
  typed_term (term.Branch at on taken other) = (ground.kinds on.ty, tt)
  typed_term (term.Switch x) = (ground.kinds x.on.ty, typed_all T (case_uses r) (λ c. (ground.kinds c.ty, tt)) x.cases)
  typed_term (term.Unreachable at) = tt
  typed_term (term.Resume at of) = (ground.kinds of.ty, tt)

  pub typed_invoke : (i : Invoke) → AreTyped T (invoke_uses r i)
  typed_invoke i = typed_both T (call_uses r i.called) (Label i.normal ∷ Label i.unwind ∷ []) (typed_call i.called) tt

  -- the type of an instruction
  type_low : (i : Instr) → (type_in r i).0 < T
  unfolding type_in
  type_low (instr.Binop w flags t left right) = ground.kinds t
  type_low (instr.Icmp i) = ground.bit
  type_low (instr.Cast w flags of to) = ground.kinds to
  type_low (instr.Select i) = ground.kinds i.yes.ty
  type_low (instr.Freeze w of) = ground.kinds of.ty
  type_low (instr.Phi w t arms) = ground.kinds t
  type_low (instr.Alloca i) = pointer_low
  type_low (instr.Load w volatile t from align) = ground.kinds t
  type_low (instr.Store i) = void_low
  type_low (instr.GetElementPtr w flags elem operands) = pointer_low
  type_low (instr.Call i) = ground.kinds i.called.callee.result
  type_low (instr.Cleanup w t cleanup clauses) = ground.kinds t
  type_low (instr.LandingPad w t clauses) = ground.kinds t

  -- the types that it writes
  none_written : (k : ℕ) (u : TypeId) → slice_get {X = TypeId} [] k ≡ Some u → u.0 < T
  none_written k u at = absurd (none-some u at)

  one_written : (t : TypeId) (ts : List TypeId) → t.0 < T → ((k : ℕ) (u : TypeId) → slice_get ts k ≡ Some u → u.0 < T)
      → (k : ℕ) (u : TypeId) → slice_get (t ∷ ts) k ≡ Some u → u.0 < T
  one_written t ts l rest zero u at = subst (λ (z : TypeId). z.0 < T) (same_Some t u at) l
  one_written t ts l rest (suc k) u at = rest k u at

  all_written : {X : Type 0} (ty : X → Ty) (xs : List X) (k : ℕ) (u : TypeId) → slice_get (map (λ x. r.kind (ty x)) xs) k ≡ Some u → u.0 < T
  all_written ty [] k u at = none_written k u at
  all_written ty (x ∷ xs) k u at = one_written (r.kind (ty x)) (map (λ x. r.kind (ty x)) xs) (ground.kinds (ty x)) (all_written ty xs) k u at

  params_written : (o : Option Ftype) (args : List Arg) (k : ℕ) (u : TypeId) → slice_get (param_types r o args) k ≡ Some u → u.0 < T
  params_written None args k u at = all_written (λ a. a.ty) args k u at
  params_written (Some ftype.Empty) args k u at = none_written k u at
  params_written (Some (ftype.Dots dots)) args k u at = none_written k u at
  params_written (Some (ftype.Listed types dots)) args k u at = all_written (λ t. t) types k u at

  call_written : (c : Called) (k : ℕ) (u : TypeId) → slice_get ((func_type r c).ret ∷ (func_type r c).params) k ≡ Some u → u.0 < T
  call_written c = one_written (r.kind c.callee.result) (func_type r c).params (ground.kinds c.callee.result)
      (params_written c.callee.params c.arguments.args)

  term_written : (ps : Parts) (x : Term) (k : ℕ) (u : TypeId) → slice_get (written_types (term_of r ps x)) k ≡ Some u → u.0 < T
  unfolding term_of
  term_written ps (term.RetVoid at) = none_written
  term_written ps (term.Ret at of) = none_written
  term_written ps (term.Jump at to) = none_written
  term_written ps (term.Branch at on taken other) = none_written
  term_written ps (term.Switch x) = none_written
  term_written ps (term.Unreachable at) = none_written
  term_written ps (term.Resume at of) = none_written

  -- blocks that are named
  blocks_there : (us : List Use) → faults_of r us ≡ [] → (k : ℕ) (b : BlockId) → slice_get (labels r us) k ≡ Some b → B b.0
  blocks_there [] none k b at = absurd (none-some b at)
  blocks_there (Typed t v ∷ us) none k b at = blocks_there us (nil_parts (use_faults r (Typed t v)) (faults_of r us) none).1 k b at
  blocks_there (Label a ∷ us) none zero b at = subst (λ (z : BlockId). B z.0) (same_Some (label r a) b at)
      (label_there T G F V B r ground a (nil_parts (label_faults r a) (faults_of r us) none).0)
  blocks_there (Label a ∷ us) none (suc k) b at = blocks_there us (nil_parts (label_faults r a) (faults_of r us) none).1 k b at

  targets_there : (us : List Use) (es : List Edge) → faults_of r us ≡ [] → map (λ (e : Edge). e.to) es ≡ labels r us
      → (k : ℕ) (e : Edge) → slice_get es k ≡ Some e → B e.to.0
  targets_there us es none are k e at =
      blocks_there us none k e.to (ap (λ bs. slice_get bs k) (sym are) ∙ get_mapped (λ (e : Edge). e.to) es k e at)

  -- a terminator
  pub term_said : (n : ℕ) (ps : Parts) (x : Term) → faults_of r (term_uses r x) ≡ [] → AreGood T G F ps → length (behind r ps (term_uses r x)) ≤ n
      → IsSaid T G F V B n void_type (term_of r ps x)
  term_said n ps x none good l = record {
    ty = void_low;
    names = λ k w at. reads_good T G F V B r ground n (term_uses r x) ps (typed_term x) none good l k w (ap (λ ws. slice_get ws k) (sym (of_term r ps x)) ∙ at);
    targets = targets_there (term_uses r x) (edges (term_of r ps x)) none (term_targets r ps x);
    arms = λ k b at. absurd (none-some b (ap (λ bs. slice_get bs k) (sym (no_sources r ps x)) ∙ at));
    types = term_written ps x;
    args = term_args r ps x;
  }

module _ (T G F : ℕ) (V B : ℕ → Type 0) (x : Context) (ground : IsGround T G F V B x.reading) where
  -- an invoke
  pub invoke_said : (n : ℕ) (ps : Parts) (i : Invoke) → faults_of x.reading (invoke_uses x.reading i) ≡ [] → AreGood T G F ps
      → length (behind x.reading ps (invoke_uses x.reading i)) ≤ n → IsSaid T G F V B n (x.reading.kind i.called.callee.result) (invoke_of x ps i)
  invoke_said n ps i none good l =
      let r = x.reading in
      let us = Label i.normal ∷ Label i.unwind ∷ [] in
      let ordered : operands (invoke_of x ps i) ≡ reads r ps (invoke_uses r i) =
      of_call x ps i.called ∙ sym (append-nil (reads r ps (call_uses r i.called))) ∙ sym (reads_append r ps (call_uses r i.called) us) in
      record {
        ty = ground.kinds i.called.callee.result;
        names = λ k w at. reads_good T G F V B r ground n (invoke_uses r i) ps (typed_invoke T G F V B r ground i) none good l k w
            (ap (λ ws. slice_get ws k) (sym ordered) ∙ at);
        targets = targets_there T G F V B r ground (invoke_uses r i) (edges (invoke_of x ps i)) none (sym (invoke_labels r i));
        arms = λ k b at. absurd (none-some b at);
        types = call_written T G F V B r ground i.called;
        args = call_args x ps i.called;
      }

  -- the types that an instruction writes
  instr_written : (ps : Parts) (i : Instr) (k : ℕ) (u : TypeId) → slice_get (written_types (op_of x ps i)) k ≡ Some u → u.0 < T
  unfolding op_of
  instr_written ps (instr.Binop w flags t left right) = none_written T G F V B x.reading ground
  instr_written ps (instr.Icmp i) = none_written T G F V B x.reading ground
  instr_written ps (instr.Cast w flags of to) = none_written T G F V B x.reading ground
  instr_written ps (instr.Select i) = none_written T G F V B x.reading ground
  instr_written ps (instr.Freeze w of) = none_written T G F V B x.reading ground
  instr_written ps (instr.Phi w t arms) = none_written T G F V B x.reading ground
  instr_written ps (instr.Alloca i) =
      one_written T G F V B x.reading ground (x.reading.kind i.ty) [] (ground.kinds i.ty) (none_written T G F V B x.reading ground)
  instr_written ps (instr.Load w volatile t from align) = none_written T G F V B x.reading ground
  instr_written ps (instr.Store i) = none_written T G F V B x.reading ground
  instr_written ps (instr.GetElementPtr w flags elem operands) =
      one_written T G F V B x.reading ground (x.reading.kind elem) [] (ground.kinds elem) (none_written T G F V B x.reading ground)
  instr_written ps (instr.Call i) = call_written T G F V B x.reading ground i.called
  instr_written ps (instr.Cleanup w t cleanup clauses) = none_written T G F V B x.reading ground
  instr_written ps (instr.LandingPad w t clauses) = none_written T G F V B x.reading ground

  -- the blocks that the arms of a phi come from
  instr_arms : (ps : Parts) (i : Instr) → faults_of x.reading (uses_of x.reading i) ≡ []
      → (k : ℕ) (b : BlockId) → slice_get (sources (op_of x ps i)) k ≡ Some b → B b.0
  unfolding op_of uses_of
  instr_arms ps (instr.Binop w flags t left right) none k b at = absurd (none-some b at)
  instr_arms ps (instr.Icmp i) none k b at = absurd (none-some b at)
  instr_arms ps (instr.Cast w flags of to) none k b at = absurd (none-some b at)
  instr_arms ps (instr.Select i) none k b at = absurd (none-some b at)
  instr_arms ps (instr.Freeze w of) none k b at = absurd (none-some b at)
  instr_arms ps (instr.Phi w t arms) none k b at =
      let r = x.reading in
      blocks_there T G F V B r ground (flat_map (arm_uses (r.kind t)) arms) none k b
      (ap (λ bs. slice_get bs k) (sym (labels_each r (arm_of r (r.kind t)) (arm_uses (r.kind t)) (λ a. a.from) (λ ps a. refl) ps arms)) ∙ at)
  instr_arms ps (instr.Alloca i) none k b at = absurd (none-some b at)
  instr_arms ps (instr.Load w volatile t from align) none k b at = absurd (none-some b at)
  instr_arms ps (instr.Store i) none k b at = absurd (none-some b at)
  instr_arms ps (instr.GetElementPtr w flags elem operands) none k b at = absurd (none-some b at)
  instr_arms ps (instr.Call i) none k b at = absurd (none-some b at)
  instr_arms ps (instr.Cleanup w t cleanup clauses) none k b at = absurd (none-some b at)
  instr_arms ps (instr.LandingPad w t clauses) none k b at = absurd (none-some b at)

  base_named : (n : ℕ) (ws : List Written) → ws ≡ front [] ∷ [] → Each ws (λ k w. IsOperandWritten T G F V n w)
  base_named n ws is zero w at = subst (IsOperandWritten T G F V n) (same_Some (front []) w (ap (λ z. slice_get z 0) (sym is) ∙ at))
      (void_low T G F V B x.reading ground, (tt, tt))
  base_named n ws is (suc k) w at = absurd (none-some w (ap (λ z. slice_get z (suc k)) (sym is) ∙ at))

  -- an instruction
  pub instr_said : (n : ℕ) (ps : Parts) (i : Instr) → faults_of x.reading (uses_of x.reading i) ≡ [] → AreGood T G F ps
      → length (behind x.reading ps (uses_of x.reading i)) ≤ n → IsSaid T G F V B n (type_in x.reading i) (op_of x ps i)
  instr_said n ps i none good l = record {
    ty = type_low T G F V B x.reading ground i;
    names = elim (based x ps i) [
      | inl has ↦
          λ k w at. reads_good T G F V B x.reading ground n (uses_of x.reading i) ps (typed_instr T G F V B x.reading ground i) none good l k w
          (ap (λ ws. slice_get ws k) (sym (of_instr x ps i has)) ∙ at)
      | inr is ↦ base_named n (operands (op_of x ps i)) is
    ];
    targets = λ k e at. absurd (none-some e (ap (λ es. slice_get es k) (sym (no_edges x ps i)) ∙ at));
    arms = instr_arms ps i none;
    types = instr_written ps i;
    args = instr_args x ps i;
  }
