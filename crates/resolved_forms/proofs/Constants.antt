-- Constants whose names all stand for something: what they and their parts name is there.
use Rattle.std.proofs.Common.{◌≡◌, ◌∙◌, ◌-◌, ◌<◌, inl, inr, ℕ, zero, suc, ℤ, Bool, true, false, List, [], ◌∷◌, ◌++◌, length, map}
use Rattle.std.proofs.Common.{Option, None, Some, refl, sym, ap, subst, arith, append-nil}
use Rattle.std.specs.List.{flat_map}
use Rattle.std.proofs.lemmas.Bool.{cases_lt}
use Rattle.std.proofs.lemmas.Option.{none-some, same_Some}
use Rattle.shelf.proofs.Shelf.{get_left, get_right}
use Rattle.attr_ids.specs.declared.ids.TypeId.{TypeId}
use Rattle.ir_tree.specs.declared.types.Ty.{Ty}
use Rattle.ir_tree.specs.declared.constants.Gepflag.{Gepflag}
use Rattle.ir_tree.specs.declared.constants.Const.{Const}
use Rattle.ir_tree.specs.declared.constants.Tconst.{Tconst}
use Rattle.ir_tree.specs.declared.constants.Const.TheOpen.{Const-F}
use Rattle.ir_tree.specs.declared.constants.Const.TheOpen.Const-F.{Int, True, False, Null, Undef, Poison, Zero, Global, CStr, Array, Struct, Packed}
use Rattle.ir_tree.specs.declared.constants.Const.TheOpen.Const-F.{GetElementPtr, Cast, Binop}
use Rattle.ir_tree.specs.declared.constants.Const.TheViews.{roll-Const, roll-Tconst}
use Rattle.ir_tree.specs.declared.constants.Const.TheFolds.{ind-Const, map-Const, fold-roll-Const, fold_out-Tconst, fold-Tconst}
use Rattle.ir_module.specs.declared.op.Shape.{Shape}
use Rattle.ir_module.specs.declared.op.Shape.TheVariants as shape
use Rattle.ir_module.specs.declared.op.Symbol.{Symbol}
use Rattle.ir_module.specs.declared.op.Symbol.TheVariants as symbol
use Rattle.ir_module.specs.declared.op.Operand.{Operand}
use Rattle.ir_module.specs.declared.op.Operand.TheVariants as operand
use Rattle.ir_module.specs.declared.op.Written.{Written}
use Rattle.ir_module.specs.WellFormed.{Each}
use Rattle.ir_scopes.specs.declared.slot.Entry.{Entry}
use Rattle.ir_scopes.specs.declared.slot.Entry.TheVariants as entry
use Rattle.ir_scopes.specs.declared.faults.Cause.{Cause}
use Rattle.ir_scopes.specs.declared.faults.NameFault.{NameFault}
use Rattle.ir_scopes.specs.Faults.{fault_unless}
use Rattle.ir_operands.specs.declared.rule.ConstantRule.{ConstantRule}
use Rattle.ir_operands.specs.Types.{type_of}
use Rattle.ir_consts.specs.Reading.{Reading, leaf_text, symbol_at, width_in}
use Rattle.ir_consts.specs.Broken.{broken}
use Rattle.ir_consts.specs.Offsets.{address, base_of, chained}
use Rattle.ir_consts.specs.Consts.{const_of, tconst_of, tconsts_of, written, laid, named, offset, offset_of, or_wrong, literal_at, fitted, string_of, symbol_of}
use Rattle.ir_consts.specs.Faults.{is_symbol, faults_of, tconst_faults}
use Rattle.ir_consts.specs.Faults as faults
use Rattle.ir_consts.proofs.Equations.{layer, const_is_layer, all_are}
use Rattle.resolved_forms.proofs.Runs.{nil_parts}

pub is_well : (well : Bool) (cause : Cause) (at : ℕ) → fault_unless well cause at ≡ [] → well ≡ true
is_well true cause at none = refl
is_well false cause at none = absurd cc

module _ (T G F : ℕ) where
  -- what a constant names is there, its parts apart; it names no value
  abbrev pub IsSymbolThere : Symbol → Type 0
  IsSymbolThere (symbol.Global g) = g.0 < G
  IsSymbolThere (symbol.Func f) = f.0 < F

  abbrev pub IsNamedThere : Operand → Type 0
  IsNamedThere (operand.Value v) = ⊥
  IsNamedThere (operand.Global g) = g.0 < G
  IsNamedThere (operand.Func f) = f.0 < F
  IsNamedThere (operand.Offset base bytes inbounds wrap) = IsSymbolThere base
  IsNamedThere _ = Unit {0}

  abbrev pub IsFine : Written → Type 0
  IsFine w = (w.ty.0 < T) × IsNamedThere w.val

  abbrev pub AreFine : List Written → Type 0
  AreFine ws = Each ws (λ k w. IsFine w)

  -- a function or a global that a name stands for is there
  abbrev pub IsEntryThere : Option Entry → Type 0
  IsEntryThere (Some (entry.Global g)) = g.0 < G
  IsEntryThere (Some (entry.Func f)) = f.0 < F
  IsEntryThere _ = Unit {0}

  pub none_fine : AreFine []
  none_fine k w at = absurd (none-some w at)

  pub one_fine : (w : Written) (ws : List Written) → IsFine w → AreFine ws → AreFine (w ∷ ws)
  one_fine w ws h rest zero v at = subst IsFine (same_Some w v at) h
  one_fine w ws h rest (suc k) v at = rest k v at

  pub both_fine : (xs ys : List Written) → AreFine xs → AreFine ys → AreFine (xs ++ ys)
  both_fine xs ys h g k w at = elim (cases_lt k (length xs)) [
    | inl l ↦ (h k w (sym (get_left xs ys k l) ∙ at))
    | inr l ↦ (g (k - length xs) w (sym (get_right xs ys k (k - length xs) (omega (arith, l))) ∙ at))
  ]

  fitted_named : (bits : Option ℕ) → IsNamedThere (fitted bits)
  fitted_named None = tt
  fitted_named (Some bits) = tt

  literal_named : (width : Option ℕ) (z : List ℕ) → IsNamedThere (literal_at width z)
  literal_named None z = tt
  literal_named (Some width) z = fitted_named _

  symbol_named : (e : Option Entry) → is_symbol e ≡ true → IsEntryThere e → IsNamedThere (symbol_of e)
  symbol_named None is h = absurd cc
  symbol_named (Some (entry.Value v)) is h = absurd cc
  symbol_named (Some (entry.Block b)) is h = absurd cc
  symbol_named (Some (entry.Global g)) is h = h
  symbol_named (Some (entry.Func f)) is h = h
  symbol_named (Some (entry.Type t)) is h = absurd cc
  symbol_named (Some (entry.Group g)) is h = absurd cc

  run_named : (form : Option Shape) (first count : ℕ) → IsNamedThere (named form first count)
  run_named None first count = tt
  run_named (Some form) first count = tt

  chained_named : (o : Operand) (inbounds wrap : Bool) (bytes : ℤ) → IsNamedThere o → IsNamedThere (chained o inbounds wrap bytes)
  chained_named (operand.Value v) inbounds wrap bytes h = tt
  chained_named (operand.Int bits fits) inbounds wrap bytes h = tt
  chained_named (operand.Truth value) inbounds wrap bytes h = tt
  chained_named operand.Zero inbounds wrap bytes h = tt
  chained_named operand.Null inbounds wrap bytes h = tt
  chained_named operand.Undef inbounds wrap bytes h = tt
  chained_named operand.Poison inbounds wrap bytes h = tt
  chained_named (operand.Global g) inbounds wrap bytes h = h
  chained_named (operand.Func f) inbounds wrap bytes h = h
  chained_named (operand.Offset base before all one) inbounds wrap bytes h = h
  chained_named (operand.WrongOffset rule) inbounds wrap bytes h = tt
  chained_named (operand.Parts form first count) inbounds wrap bytes h = tt
  chained_named (operand.AnyInt first count) inbounds wrap bytes h = tt

  base_named : (ws : List Written) → AreFine ws → IsNamedThere (base_of ws)
  base_named [] h = tt
  base_named (w ∷ ws) h = (h 0 w refl).1

  wrong_named : (o : Operand) (rule : Option ConstantRule) → IsNamedThere o → IsNamedThere (or_wrong o rule)
  wrong_named o None h = h
  wrong_named o (Some rule) h = tt

  offset_named : (r : Reading) (flags : List Gepflag) (elem : TypeId) (operands parts : List Written) → AreFine operands
      → IsNamedThere (offset_of r flags elem operands parts)
  unfolding offset_of
  offset_named r flags elem operands parts h =
      wrong_named (address r flags elem operands) (broken r.types r.numbers r.site parts elem operands)
      (chained_named (base_of operands) _ _ _ (base_named operands h))

  module _ (r : Reading) (kinds : (ty : Ty) → (r.kinds ty).0 < T) (symbols : (at : ℕ) → IsEntryThere (symbol_at r at)) where
    abbrev Out : Written × List Written → Type 0
    Out out = IsFine out.0 × AreFine out.1

    abbrev Outs : List Written × List Written → Type 0
    Outs out = AreFine out.0 × AreFine out.1

    abbrev Of : Const → Type 0
    Of c = faults_of r c ≡ [] → (ty : TypeId) → ty.0 < T → (parts : List Written) → AreFine parts → Out (const_of r c ty parts)

    abbrev Typed : Tconst → Type 0
    Typed t = tconst_faults r t ≡ [] → (parts : List Written) → AreFine parts → Out (tconst_of r t parts)

    all_fine : (ts : List ((t : Tconst) × Typed t)) → flat_map (tconst_faults r) (map (λ e. e.0) ts) ≡ [] → (parts : List Written) → AreFine parts
        → Outs (tconsts_of r (map (λ e. e.0) ts) parts)
    all_fine [] none parts h = (none_fine, h)
    all_fine (t ∷ ts) none parts h =
        let both = nil_parts (tconst_faults r t.0) (flat_map (tconst_faults r) (map (λ e. e.0) ts)) none in
        let one = t.1 both.0 parts h in
        let rest = all_fine ts both.1 (tconst_of r t.0 parts).1 one.1 in
        (one_fine (tconst_of r t.0 parts).0 (tconsts_of r (map (λ e. e.0) ts) (tconst_of r t.0 parts).1).0 one.0 rest.0, rest.1)

    -- ---- faults, production by production
    abbrev Faults : Type 0
    Faults = List NameFault

    abbrev fault_layer : Const-F Const Tconst → Faults
    fault_layer x = faults.const_layer r (map-Const Const Tconst Faults Faults (faults_of r) (tconst_faults r) x)

    fold_faults : fold-Tconst Faults Faults (faults.const_layer r) (faults.tconst_layer r) ≡ tconst_faults r
    fold_faults = λ i t. fold_out-Tconst Faults Faults (faults.const_layer r) (faults.tconst_layer r) t i

    faulty : (x : Const-F Const Tconst) → faults_of r (roll-Const x) ≡ fault_layer x
    faulty x = fold-roll-Const Faults Faults (faults.const_layer r) (faults.tconst_layer r) x
        ∙ ap (λ f. faults.const_layer r (map-Const Const Tconst Faults Faults (faults_of r) f x)) fold_faults

    all_faults : (ts : List Tconst) → flat_map (λ xs. xs) (map (tconst_faults r) ts) ≡ flat_map (tconst_faults r) ts
    all_faults [] = refl
    all_faults (t ∷ ts) = ap (λ rest. tconst_faults r t ++ rest) (all_faults ts)

    -- ---- all of them
    by_layer : (x : Const-F Const Tconst)
        → (fault_layer x ≡ [] → (ty : TypeId) → ty.0 < T → (parts : List Written) → AreFine parts → Out (layer r x ty parts)) → Of (roll-Const x)
    by_layer x h none ty low parts fine = subst (λ f. Out (f ty parts)) (sym (const_is_layer r x)) (h (sym (faulty x) ∙ none) ty low parts fine)

    leaf : (x : Const-F Const Tconst) (at : ℕ) (o : TypeId → Operand) → (fault_layer x ≡ [] → (ty : TypeId) → IsNamedThere (o ty))
        → ((ty : TypeId) (parts : List Written) → layer r x ty parts ≡ written r ty at (o ty, parts)) → Of (roll-Const x)
    leaf x at o h is = by_layer x (λ none ty low parts fine. subst Out (sym (is ty parts)) ((low, h none ty), fine))

    run_of : (x : Const-F Const Tconst) (at : ℕ) (form : Option Shape) (own : List ((t : Tconst) × Typed t))
        → (fault_layer x ≡ [] → flat_map (tconst_faults r) (map (λ e. e.0) own) ≡ [])
        → ((ty : TypeId) (parts : List Written) → layer r x ty parts ≡ written r ty at (laid form (tconsts_of r (map (λ e. e.0) own) parts)))
        → Of (roll-Const x)
    run_of x at form own wrong is = by_layer x (λ none ty low parts fine.
        let ts = tconsts_of r (map (λ e. e.0) own) parts in
        let h = all_fine own (wrong none) parts fine in
        subst Out (sym (is ty parts)) ((low, run_named form (length ts.1) (length ts.0)), both_fine ts.1 ts.0 h.1 h.0))

    layers : (y : Const-F ((c : Const) × Of c) ((t : Tconst) × Typed t))
        → Of (roll-Const (map-Const ((c : Const) × Of c) ((t : Tconst) × Typed t) Const Tconst (λ e. e.0) (λ e. e.0) y))
    layers (Int at) = leaf (Int at) at (λ ty. literal_at (width_in (type_of r.types ty)) (leaf_text r at))
        (λ none ty. literal_named (width_in (type_of r.types ty)) (leaf_text r at)) (λ ty parts. refl)
    layers (True at) = leaf (True at) at (λ ty. operand.Truth true) (λ none ty. tt) (λ ty parts. refl)
    layers (False at) = leaf (False at) at (λ ty. operand.Truth false) (λ none ty. tt) (λ ty parts. refl)
    layers (Null at) = leaf (Null at) at (λ ty. operand.Null) (λ none ty. tt) (λ ty parts. refl)
    layers (Undef at) = leaf (Undef at) at (λ ty. operand.Undef) (λ none ty. tt) (λ ty parts. refl)
    layers (Poison at) = leaf (Poison at) at (λ ty. operand.Poison) (λ none ty. tt) (λ ty parts. refl)
    layers (Zero at) = leaf (Zero at) at (λ ty. operand.Zero) (λ none ty. tt) (λ ty parts. refl)
    layers (Global at) = leaf (Global at) at (λ ty. symbol_of (symbol_at r at))
        (λ none ty. symbol_named (symbol_at r at) (is_well (is_symbol (symbol_at r at)) _ at none) (symbols at)) (λ ty parts. refl)
    layers (CStr at) = leaf (CStr at) at (λ ty. string_of (leaf_text r at)) (λ none ty. tt) (λ ty parts. refl)
    layers (Array at own) = run_of (Array at (map (λ e. e.0) own)) at (Some shape.Array) own (λ none. sym (all_faults (map (λ e. e.0) own)) ∙ none)
        (λ ty parts. ap (λ x. written r ty at (laid (Some shape.Array) x)) (all_are r (map (λ e. e.0) own) parts))
    layers (Struct at own) = run_of (Struct at (map (λ e. e.0) own)) at (Some shape.Struct) own (λ none. sym (all_faults (map (λ e. e.0) own)) ∙ none)
        (λ ty parts. ap (λ x. written r ty at (laid (Some shape.Struct) x)) (all_are r (map (λ e. e.0) own) parts))
    layers (Packed at own) = run_of (Packed at (map (λ e. e.0) own)) at (Some shape.Packed) own (λ none. sym (all_faults (map (λ e. e.0) own)) ∙ none)
        (λ ty parts. ap (λ x. written r ty at (laid (Some shape.Packed) x)) (all_are r (map (λ e. e.0) own) parts))
    layers (GetElementPtr at flags elem own) = by_layer (GetElementPtr at flags elem (map (λ e. e.0) own)) (λ none ty low parts fine.
        let h = all_fine own (sym (all_faults (map (λ e. e.0) own)) ∙ none) parts fine in
        let ts = tconsts_of r (map (λ e. e.0) own) parts in
        subst (λ x. Out (written r ty at (offset r flags (r.kinds elem) x))) (sym (all_are r (map (λ e. e.0) own) parts))
        ((low, offset_named r flags (r.kinds elem) ts.0 ts.1 h.0), h.1))
    layers (Cast at of to) = run_of (Cast at of.0 to) at None (of ∷ []) (λ none. append-nil (tconst_faults r of.0) ∙ none) (λ ty parts. refl)
    layers (Binop at flags left right) = run_of (Binop at flags left.0 right.0) at None (left ∷ right ∷ [])
        (λ none. ap (λ z. tconst_faults r left.0 ++ z) (append-nil (tconst_faults r right.0)) ∙ none) (λ ty parts. refl)

    pub const_fine : (c : Const) → Of c
    const_fine = ind-Const Of Typed (λ x y is. subst (λ z. Of (roll-Const z)) is (layers y))
        (λ x y is. subst (λ z. Typed (roll-Tconst z)) is (λ none parts fine. y.value.1 none (r.kinds y.ty) (kinds y.ty) parts fine))
