-- The parts of a constant stand before it, and behind what was there.
use Rattle.std.proofs.Common.{◌≡◌, ◌≤◌, ◌+◌, inl, inr, ℕ, zero, suc, ◌-◌, ℤ, Bool, true, false, List, [], ◌∷◌, ◌++◌, length, map, slice_get, Option, None}
use Rattle.std.proofs.Common.{Some, refl, sym, ap, subst, ◌∙◌, arith, length-append, append_assoc, append-nil}
use Rattle.std.proofs.lemmas.Bool.{cases_lt}
use Rattle.std.proofs.lemmas.Option.{none-some, same_Some}
use Rattle.shelf.proofs.Shelf.{get_left, get_right}
use Rattle.attr_ids.specs.declared.ids.TypeId.{TypeId}
use Rattle.ir_tree.specs.declared.constants.Const.{Const}
use Rattle.ir_tree.specs.declared.constants.Tconst.{Tconst}
use Rattle.ir_tree.specs.declared.constants.Const.TheOpen.{Const-F}
use Rattle.ir_tree.specs.declared.constants.Const.TheOpen.Const-F.{Int, True, False, Null, Undef, Poison, Zero, Global, CStr, Array, Struct, Packed}
use Rattle.ir_tree.specs.declared.constants.Const.TheOpen.Const-F.{GetElementPtr, Cast, Binop}
use Rattle.ir_tree.specs.declared.constants.Const.TheViews.{roll-Const, roll-Tconst}
use Rattle.ir_tree.specs.declared.constants.Const.TheFolds.{ind-Const, map-Const}
use Rattle.ir_module.specs.declared.op.Shape.{Shape}
use Rattle.ir_module.specs.declared.op.Shape.TheVariants as shape
use Rattle.ir_module.specs.declared.op.Operand.{Operand}
use Rattle.ir_module.specs.declared.op.Operand.TheVariants as operand
use Rattle.ir_module.specs.declared.op.Written.{Written}
use Rattle.ir_module.specs.WellFormed.{Each, HasPartsBelow}
use Rattle.ir_operands.specs.declared.rule.ConstantRule.{ConstantRule}
use Rattle.ir_operands.specs.Constants.{ArePartsBelow}
use Rattle.ir_operands.specs.Types.{type_of}
use Rattle.ir_operands.proofs.Parts.{below_more}
use Rattle.ir_scopes.specs.declared.slot.Entry.{Entry}
use Rattle.ir_scopes.specs.declared.slot.Entry.TheVariants as entry
use Rattle.ir_tree.specs.declared.constants.Gepflag.{Gepflag}
use Rattle.ir_consts.specs.Reading.{Reading, leaf_text, symbol_at, width_in}
use Rattle.ir_consts.specs.Broken.{broken}
use Rattle.ir_consts.specs.Offsets.{address, chained}
use Rattle.ir_consts.specs.Below.{Sits, Sit}
use Rattle.ir_consts.specs.Consts.{const_of, tconst_of, tconsts_of, written, laid, named, offset, offset_of, or_wrong, literal_at, fitted, string_of, symbol_of}
use Rattle.ir_consts.proofs.Equations.{layer, const_is_layer, all_are}

-- ---- runs
-- a longer list, where what comes behind names what was there
pub laid_below : (parts own : List Written) → ArePartsBelow parts → Each own (λ k w. HasPartsBelow (length parts) w.val) → ArePartsBelow (parts ++ own)
laid_below parts own below within k w at = elim (cases_lt k (length parts)) [
  | inl l ↦ below k w (sym (get_left parts own k l) ∙ at)
  | inr l ↦
      let behind : slice_get own (k - length parts) ≡ Some w = sym (get_right parts own k (k - length parts) (omega (arith, l))) ∙ at in
      below_more (length parts) k w.val l (within (k - length parts) w behind)
]

further : (before between own : List Written) → (more : List Written) × (between ≡ before ++ more)
    → (more : List Written) × (between ++ own ≡ before ++ more)
further before between own h = (h.0 ++ own, ap (λ z. z ++ own) h.1 ∙ append_assoc before h.0 own)

longer : (before after : List Written) → (more : List Written) × (after ≡ before ++ more) → length before ≤ length after
longer before after h = let e = ap length h.1 in omega (arith, e, length-append before h.0)

named_below : (form : Option Shape) (first count n : ℕ) → first + count ≤ n → HasPartsBelow n (named form first count)
named_below None first count n l = l
named_below (Some shape.Array) first count n l = l
named_below (Some shape.Struct) first count n l = l
named_below (Some shape.Packed) first count n l = l
named_below (Some shape.Bytes) first count n l = tt

module _ (r : Reading) (ty : TypeId) (at : ℕ) (parts : List Written) where
  -- a run is laid
  run_sits : (form : Option Shape) (own : List Written × List Written) → Sit parts own → Sits parts (written r ty at (laid form own))
  run_sits form own s = record {
    below = laid_below own.1 own.0 s.below s.within;
    behind = further parts own.1 own.0 s.behind;
    within = named_below form (length own.1) (length own.0) (length (own.1 ++ own.0)) (omega (arith, length-append own.1 own.0));
  }

  -- what has no parts
  alone_sits : (o : Operand) (then' : List Written) → ArePartsBelow then' → (more : List Written) × (then' ≡ parts ++ more) → HasPartsBelow (length then') o
      → Sits parts (written r ty at (o, then'))
  alone_sits o then' below behind within = record { below = below; behind = behind; within = within }

-- ---- operands that have no parts
fitted_below : (n : ℕ) (bits : Option ℕ) → HasPartsBelow n (fitted bits)
fitted_below n None = tt
fitted_below n (Some bits) = tt

literal_below : (n : ℕ) (width : Option ℕ) (z : List ℕ) → HasPartsBelow n (literal_at width z)
literal_below n None z = tt
literal_below n (Some width) z = fitted_below n _

symbol_below : (n : ℕ) (e : Option Entry) → HasPartsBelow n (symbol_of e)
symbol_below n None = tt
symbol_below n (Some (entry.Value v)) = tt
symbol_below n (Some (entry.Block b)) = tt
symbol_below n (Some (entry.Global g)) = tt
symbol_below n (Some (entry.Func f)) = tt
symbol_below n (Some (entry.Type t)) = tt
symbol_below n (Some (entry.Group g)) = tt

chained_below : (n : ℕ) (o : Operand) (inbounds wrap : Bool) (bytes : ℤ) → HasPartsBelow n (chained o inbounds wrap bytes)
chained_below n (operand.Value v) inbounds wrap bytes = tt
chained_below n (operand.Int bits fits) inbounds wrap bytes = tt
chained_below n (operand.Truth value) inbounds wrap bytes = tt
chained_below n operand.Zero inbounds wrap bytes = tt
chained_below n operand.Null inbounds wrap bytes = tt
chained_below n operand.Undef inbounds wrap bytes = tt
chained_below n operand.Poison inbounds wrap bytes = tt
chained_below n (operand.Global g) inbounds wrap bytes = tt
chained_below n (operand.Func f) inbounds wrap bytes = tt
chained_below n (operand.Offset base before all one) inbounds wrap bytes = tt
chained_below n (operand.WrongOffset rule) inbounds wrap bytes = tt
chained_below n (operand.Parts form first count) inbounds wrap bytes = tt
chained_below n (operand.AnyInt first count) inbounds wrap bytes = tt

or_wrong_below : (n : ℕ) (o : Operand) (rule : Option ConstantRule) → HasPartsBelow n o → HasPartsBelow n (or_wrong o rule)
or_wrong_below n o None h = h
or_wrong_below n o (Some rule) h = tt

offset_below : (r : Reading) (flags : List Gepflag) (elem : TypeId) (operands parts : List Written) (n : ℕ)
    → HasPartsBelow n (offset_of r flags elem operands parts)
unfolding offset_of
offset_below r flags elem operands parts n =
    or_wrong_below n (address r flags elem operands) (broken r.types r.numbers r.site parts elem operands) (chained_below n _ _ _ _)

-- ---- all of them
module _ (r : Reading) where
  abbrev Of : Const → Type 0
  Of c = (ty : TypeId) (parts : List Written) → ArePartsBelow parts → Sits parts (const_of r c ty parts)

  abbrev Typed : Tconst → Type 0
  Typed t = (parts : List Written) → ArePartsBelow parts → Sits parts (tconst_of r t parts)

  one_behind : (t : Tconst) (ts : List Tconst) (parts : List Written) → Sits parts (tconst_of r t parts)
      → Sit (tconst_of r t parts).1 (tconsts_of r ts (tconst_of r t parts).1) → Sit parts (tconsts_of r (t ∷ ts) parts)
  one_behind t ts parts one rest = record {
    below = rest.below;
    behind = (one.behind.0 ++ rest.behind.0, rest.behind.1 ∙ ap (λ z. z ++ rest.behind.0) one.behind.1 ∙ append_assoc parts one.behind.0 rest.behind.0);
    within = at_place;
  } where
    at_place : Each (tconsts_of r (t ∷ ts) parts).0 (λ k w. HasPartsBelow (length (tconsts_of r (t ∷ ts) parts).1) w.val)
    at_place zero w at = subst (λ (x : Written). HasPartsBelow (length (tconsts_of r (t ∷ ts) parts).1) x.val) (same_Some (tconst_of r t parts).0 w at)
        (below_more (length (tconst_of r t parts).1) (length (tconsts_of r (t ∷ ts) parts).1) (tconst_of r t parts).0.val
        (longer (tconst_of r t parts).1 (tconsts_of r (t ∷ ts) parts).1 rest.behind) one.within)
    at_place (suc k) w at = rest.within k w at

  all_sit : (ts : List ((t : Tconst) × Typed t)) (parts : List Written) → ArePartsBelow parts → Sit parts (tconsts_of r (map (λ e. e.0) ts) parts)
  all_sit [] parts below = record { below = below; behind = ([], sym (append-nil parts)); within = λ k w at. absurd (none-some w at) }
  all_sit (t ∷ ts) parts below =
      let one = t.1 parts below in
      one_behind t.0 (map (λ e. e.0) ts) parts one (all_sit ts (tconst_of r t.0 parts).1 one.below)

  by_layer : (x : Const-F Const Tconst) → ((ty : TypeId) (parts : List Written) → ArePartsBelow parts → Sits parts (layer r x ty parts)) → Of (roll-Const x)
  by_layer x h ty parts below = subst (λ f. Sits parts (f ty parts)) (sym (const_is_layer r x)) (h ty parts below)

  leaf : (x : Const-F Const Tconst) (at : ℕ) (o : TypeId → Operand) → ((n : ℕ) (ty : TypeId) → HasPartsBelow n (o ty))
      → ((ty : TypeId) (parts : List Written) → layer r x ty parts ≡ written r ty at (o ty, parts)) → Of (roll-Const x)
  leaf x at o h is = by_layer x (λ ty parts below.
      subst (λ out. Sits parts out) (sym (is ty parts)) (alone_sits r ty at parts (o ty) parts below ([], sym (append-nil parts)) (h (length parts) ty)))

  run_of : (x : Const-F Const Tconst) (at : ℕ) (form : Option Shape) (own : List ((t : Tconst) × Typed t))
      → ((ty : TypeId) (parts : List Written) → layer r x ty parts ≡ written r ty at (laid form (tconsts_of r (map (λ e. e.0) own) parts))) → Of (roll-Const x)
  run_of x at form own is = by_layer x (λ ty parts below. subst (λ out. Sits parts out) (sym (is ty parts))
      (run_sits r ty at parts form (tconsts_of r (map (λ e. e.0) own) parts) (all_sit own parts below)))

  layers : (y : Const-F ((c : Const) × Of c) ((t : Tconst) × Typed t))
      → Of (roll-Const (map-Const ((c : Const) × Of c) ((t : Tconst) × Typed t) Const Tconst (λ e. e.0) (λ e. e.0) y))
  layers (Int at) = leaf (Int at) at (λ ty. literal_at (width_in (type_of r.types ty)) (leaf_text r at))
      (λ n ty. literal_below n (width_in (type_of r.types ty)) (leaf_text r at)) (λ ty parts. refl)
  layers (True at) = leaf (True at) at (λ ty. operand.Truth true) (λ n ty. tt) (λ ty parts. refl)
  layers (False at) = leaf (False at) at (λ ty. operand.Truth false) (λ n ty. tt) (λ ty parts. refl)
  layers (Null at) = leaf (Null at) at (λ ty. operand.Null) (λ n ty. tt) (λ ty parts. refl)
  layers (Undef at) = leaf (Undef at) at (λ ty. operand.Undef) (λ n ty. tt) (λ ty parts. refl)
  layers (Poison at) = leaf (Poison at) at (λ ty. operand.Poison) (λ n ty. tt) (λ ty parts. refl)
  layers (Zero at) = leaf (Zero at) at (λ ty. operand.Zero) (λ n ty. tt) (λ ty parts. refl)
  layers (Global at) = leaf (Global at) at (λ ty. symbol_of (symbol_at r at)) (λ n ty. symbol_below n (symbol_at r at)) (λ ty parts. refl)
  layers (CStr at) = leaf (CStr at) at (λ ty. string_of (leaf_text r at)) (λ n ty. tt) (λ ty parts. refl)
  layers (Array at own) = run_of (Array at (map (λ e. e.0) own)) at (Some shape.Array) own
      (λ ty parts. ap (λ x. written r ty at (laid (Some shape.Array) x)) (all_are r (map (λ e. e.0) own) parts))
  layers (Struct at own) = run_of (Struct at (map (λ e. e.0) own)) at (Some shape.Struct) own
      (λ ty parts. ap (λ x. written r ty at (laid (Some shape.Struct) x)) (all_are r (map (λ e. e.0) own) parts))
  layers (Packed at own) = run_of (Packed at (map (λ e. e.0) own)) at (Some shape.Packed) own
      (λ ty parts. ap (λ x. written r ty at (laid (Some shape.Packed) x)) (all_are r (map (λ e. e.0) own) parts))
  layers (GetElementPtr at flags elem own) = by_layer (GetElementPtr at flags elem (map (λ e. e.0) own)) (λ ty parts below.
      let s = all_sit own parts below in
      let ts = tconsts_of r (map (λ e. e.0) own) parts in
      subst (λ x. Sits parts (written r ty at (offset r flags (r.kinds elem) x))) (sym (all_are r (map (λ e. e.0) own) parts))
      (alone_sits r ty at parts (offset_of r flags (r.kinds elem) ts.0 ts.1) ts.1 s.below s.behind
      (offset_below r flags (r.kinds elem) ts.0 ts.1 (length ts.1))))
  layers (Cast at of to) = run_of (Cast at of.0 to) at None (of ∷ []) (λ ty parts. refl)
  layers (Binop at flags left right) = run_of (Binop at flags left.0 right.0) at None (left ∷ right ∷ []) (λ ty parts. refl)

  pub const_sits : (c : Const) → Of c
  const_sits = ind-Const Of Typed (λ x y is. subst (λ z. Of (roll-Const z)) is (layers y))
      (λ x y is. subst (λ z. Typed (roll-Tconst z)) is (λ parts below. y.value.1 (r.kinds y.ty) parts below))

  pub tconst_sits : (t : Tconst) → Typed t
  tconst_sits t parts below = const_sits t.value (r.kinds t.ty) parts below

  pub tconsts_sit : (ts : List Tconst) (parts : List Written) → ArePartsBelow parts → Sit parts (tconsts_of r ts parts)
  tconsts_sit [] parts below = record { below = below; behind = ([], sym (append-nil parts)); within = λ k w at. absurd (none-some w at) }
  tconsts_sit (t ∷ ts) parts below =
      let one = tconst_sits t parts below in one_behind t ts parts one (tconsts_sit ts (tconst_of r t parts).1 one.below)
