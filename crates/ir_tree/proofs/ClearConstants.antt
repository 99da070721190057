-- At most one constant fits from a place, and constants have one length.
use Rattle.std.proofs.Common.{◌≡◌, ℕ, ◌<◌, ◌≤◌, true, false, List, [], ◌∷◌, ◌++◌, length, map, Some, ◌⊎◌, inl, inr, refl, sym, ap, ◌∙◌, subst, arith}
use Rattle.ir_tree.specs.declared.terminal.Terminal.{Terminal}
use Rattle.ir_tree.specs.declared.terminal.Terminal.TheVariants as k
use Rattle.ir_tree.specs.declared.types.Ty.{Ty}
use Rattle.ir_tree.specs.declared.constants.Gepflag.{Gepflag}
use Rattle.ir_tree.specs.declared.constants.Gepflag.TheVariants as gepflag_of
use Rattle.ir_tree.specs.declared.constants.Const.{Const}
use Rattle.ir_tree.specs.declared.constants.Tconst.{Tconst}
use Rattle.ir_tree.specs.declared.constants.Const.TheOpen.{Const-F}
use Rattle.ir_tree.specs.declared.constants.Const.TheOpen.Const-F.{Int, True, False, Null, Undef, Poison, Zero, Global, CStr, Array, Struct, Packed}
use Rattle.ir_tree.specs.declared.constants.Const.TheOpen.Const-F.{GetElementPtr, Cast, Binop}
use Rattle.ir_tree.specs.declared.constants.Const.TheViews.{roll-Const}
use Rattle.ir_tree.specs.declared.constants.Const.TheFolds.{fold-Tconst, fold-roll-Const, fold_out-Tconst, ind-Const, map-Const}
use Rattle.ir_tree.specs.Steps.{Step, ◌⨾◌, the, leaf, one_of, many, some, next, separated}
use Rattle.ir_tree.specs.Types.{ty}
use Rattle.ir_tree.specs.Constants.{iflag, gepflag, const_layer, tconst_layer, const, tconst}
use Rattle.ir_tree.proofs.Looks.{Look}
use Rattle.ir_tree.proofs.Looks.Test.{In}
use Rattle.ir_tree.proofs.Clear.{Reads, pair, choice, passed, rises, token_reads, the_reads, pair_reads, choice_reads, many_reads, some_reads, next_reads}
use Rattle.ir_tree.proofs.Clear.{separated_reads, separated_map, some_next_map, shape_reads, everywhere}
use Rattle.ir_tree.proofs.Known.{Known, firsts, leaf_of, set_of, the_of, pair_of, choice_of, shape_of}
use Rattle.ir_tree.proofs.ClearTypes.{ty_first, ty_reads}

-- ---- flags
abbrev pub FlagShape : Type 0
FlagShape = ℕ ⊎ (ℕ × (Unit {0} × (ℕ × (Unit {0} × (ℕ × Unit {0})))))

abbrev pub gepflag_back : FlagShape → Gepflag
gepflag_back (inl at) = gepflag_of.Word at
gepflag_back (inr x) = gepflag_of.InRange x.0 x.1.1.0 x.1.1.1.1.0

module _ (toks : List Terminal) where
  abbrev pub iflag_of : Known toks false (iflag toks)
  iflag_of = set_of (k.Nuw ∷ k.Iflag ∷ [])

  abbrev pub flag_shape : FlagShape → Step
  flag_shape = choice (one_of toks (k.Nuw ∷ k.Gepflag ∷ []))
      (pair (leaf toks k.InRange) (pair (λ _. the toks k.LeftParen)
      (pair (leaf toks k.Int) (pair (λ _. the toks k.Comma) (pair (leaf toks k.Int) (λ _. the toks k.RightParen))))))

  pub gepflag_view : (t : Gepflag) (a b : ℕ) → gepflag toks t a ≡ Some b → (x : FlagShape) × ((gepflag_back x ≡ t) × (flag_shape x a ≡ Some b))
  gepflag_view (gepflag_of.Word at) a b e = (inl at, (refl, e))
  gepflag_view (gepflag_of.InRange word from to) a b e = (inr (word, (tt, (from, (tt, (to, tt))))), (refl, e))

  abbrev pub gepflag_known : Known toks false (gepflag toks)
  gepflag_known = shape_of gepflag_back gepflag_view
      (choice_of (set_of (k.Nuw ∷ k.Gepflag ∷ []))
      (pair_of (leaf_of k.InRange) (pair_of (the_of k.LeftParen)
      (pair_of (leaf_of k.Int) (pair_of (the_of k.Comma) (pair_of (leaf_of k.Int) (the_of k.RightParen) refl) refl) refl) refl) refl) refl)

-- ---- constants
opened : (c : Const) → (x : Const-F Const Tconst) × (roll-Const x ≡ c)
opened = ind-Const (λ c. (x : Const-F Const Tconst) × (roll-Const x ≡ c)) (λ t. Unit {0}) (λ x y is. (x, refl)) (λ x y is. tt)

abbrev pub ArrayShape : Type 0
ArrayShape = ℕ × (List Tconst × Unit {0})

abbrev pub PackedShape : Type 0
PackedShape = ℕ × (Unit {0} × (List Tconst × (Unit {0} × Unit {0})))

abbrev pub GepShape : Type 0
GepShape = ℕ × (List Gepflag × (Unit {0} × (Ty × (List Tconst × Unit {0}))))

abbrev pub CastShape : Type 0
CastShape = ℕ × (Unit {0} × (Tconst × (Unit {0} × (Ty × Unit {0}))))

abbrev pub BinopShape : Type 0
BinopShape = ℕ × (List ℕ × (Unit {0} × (Tconst × (Unit {0} × (Tconst × Unit {0})))))

abbrev pub Shape : Type 0
Shape = ℕ ⊎ (ℕ ⊎ (ℕ ⊎ (ℕ ⊎ (ℕ ⊎ (ℕ ⊎ (ℕ ⊎ (ℕ ⊎ (ℕ ⊎ (ArrayShape ⊎ (ArrayShape ⊎ (PackedShape ⊎ (GepShape ⊎ (CastShape ⊎ BinopShape)))))))))))))

abbrev pub back : Shape → Const
back (inl at) = roll-Const (Int at)
back (inr (inl at)) = roll-Const (True at)
back (inr (inr (inl at))) = roll-Const (False at)
back (inr (inr (inr (inl at)))) = roll-Const (Null at)
back (inr (inr (inr (inr (inl at))))) = roll-Const (Undef at)
back (inr (inr (inr (inr (inr (inl at)))))) = roll-Const (Poison at)
back (inr (inr (inr (inr (inr (inr (inl at))))))) = roll-Const (Zero at)
back (inr (inr (inr (inr (inr (inr (inr (inl at)))))))) = roll-Const (Global at)
back (inr (inr (inr (inr (inr (inr (inr (inr (inl at))))))))) = roll-Const (CStr at)
back (inr (inr (inr (inr (inr (inr (inr (inr (inr (inl x)))))))))) = roll-Const (Array x.0 x.1.0)
back (inr (inr (inr (inr (inr (inr (inr (inr (inr (inr (inl x))))))))))) = roll-Const (Struct x.0 x.1.0)
back (inr (inr (inr (inr (inr (inr (inr (inr (inr (inr (inr (inl x)))))))))))) = roll-Const (Packed x.0 x.1.1.0)
back (inr (inr (inr (inr (inr (inr (inr (inr (inr (inr (inr (inr (inl x))))))))))))) = roll-Const (GetElementPtr x.0 x.1.0 x.1.1.1.0 x.1.1.1.1.0)
back (inr (inr (inr (inr (inr (inr (inr (inr (inr (inr (inr (inr (inr (inl x)))))))))))))) = roll-Const (Cast x.0 x.1.1.0 x.1.1.1.1.0)
back (inr (inr (inr (inr (inr (inr (inr (inr (inr (inr (inr (inr (inr (inr x)))))))))))))) = roll-Const (Binop x.0 x.1.0 x.1.1.1.0 x.1.1.1.1.1.0)

-- what a constant begins with
abbrev pub const_first : List Look
const_first = firsts (k.Int ∷ k.True ∷ k.False ∷ k.Null ∷ k.Undef ∷ k.Poison ∷ k.Zero ∷ k.Global ∷ k.CStr ∷ k.LeftBracket ∷ k.LeftBrace ∷ k.Less ∷
    k.GetElementPtr ∷ k.ConstCast ∷ k.ConstBinop ∷ [])

module _ (toks : List Terminal) where
  abbrev pub array : ArrayShape → Step
  array = pair (leaf toks k.LeftBracket) (pair (separated toks (tconst toks)) (λ _. the toks k.RightBracket))

  abbrev pub struct : ArrayShape → Step
  struct = pair (leaf toks k.LeftBrace) (pair (separated toks (tconst toks)) (λ _. the toks k.RightBrace))

  abbrev pub packed : PackedShape → Step
  packed = pair (leaf toks k.Less)
      (pair (λ _. the toks k.LeftBrace) (pair (separated toks (tconst toks)) (pair (λ _. the toks k.RightBrace) (λ _. the toks k.Greater))))

  abbrev pub gep : GepShape → Step
  gep = pair (leaf toks k.GetElementPtr)
      (pair (many (gepflag toks)) (pair (λ _. the toks k.LeftParen) (pair (ty toks) (pair (some (next toks (tconst toks))) (λ _. the toks k.RightParen)))))

  abbrev pub cast : CastShape → Step
  cast = pair (leaf toks k.ConstCast)
      (pair (λ _. the toks k.LeftParen) (pair (tconst toks) (pair (λ _. the toks k.To) (pair (ty toks) (λ _. the toks k.RightParen)))))

  abbrev pub binop : BinopShape → Step
  binop = pair (leaf toks k.ConstBinop)
      (pair (many (iflag toks)) (pair (λ _. the toks k.LeftParen)
      (pair (tconst toks) (pair (λ _. the toks k.Comma) (pair (tconst toks) (λ _. the toks k.RightParen))))))

  abbrev pub shape : Shape → Step
  shape = choice (leaf toks k.Int)
      (choice (leaf toks k.True) (choice (leaf toks k.False)
      (choice (leaf toks k.Null) (choice (leaf toks k.Undef)
      (choice (leaf toks k.Poison) (choice (leaf toks k.Zero)
      (choice (leaf toks k.Global) (choice (leaf toks k.CStr) (choice array (choice struct (choice packed (choice gep (choice cast binop)))))))))))))

  fold_tconst : (t : Tconst) → fold-Tconst Step Step (const_layer toks) (tconst_layer toks) t ≡ tconst toks t
  fold_tconst t = fold_out-Tconst Step Step (const_layer toks) (tconst_layer toks) t

  fold_tconsts : fold-Tconst Step Step (const_layer toks) (tconst_layer toks) ≡ tconst toks
  fold_tconsts = λ i t. fold_tconst t i

  pub view : (a : ℕ) (t : Const) (b : ℕ) → const toks t a ≡ Some b → (x : Shape) × ((back x ≡ t) × (shape x a ≡ Some b))
  view a t b e = let o = opened t in
      subst (λ t. const toks t a ≡ Some b → (x : Shape) ×
      ((back x ≡ t) × (shape x a ≡ Some b))) o.1 (λ e. go o.0 (sym (ap (λ step. step a) (fold-roll-Const Step Step (const_layer toks) (tconst_layer toks) o.0 ∙
      ap (λ f. const_layer toks (map-Const Const Tconst Step Step (const toks) f o.0)) fold_tconsts)) ∙ e)) e
    where
      go : (x : Const-F Const Tconst) → const_layer toks (map-Const Const Tconst Step Step (const toks) (tconst toks) x) a ≡ Some b → (s : Shape) ×
          ((back s ≡ roll-Const x) × (shape s a ≡ Some b))
      go (Int at) e = (inl at, (refl, e))
      go (True at) e = (inr (inl at), (refl, e))
      go (False at) e = (inr (inr (inl at)), (refl, e))
      go (Null at) e = (inr (inr (inr (inl at))), (refl, e))
      go (Undef at) e = (inr (inr (inr (inr (inl at)))), (refl, e))
      go (Poison at) e = (inr (inr (inr (inr (inr (inl at))))), (refl, e))
      go (Zero at) e = (inr (inr (inr (inr (inr (inr (inl at)))))), (refl, e))
      go (Global at) e = (inr (inr (inr (inr (inr (inr (inr (inl at))))))), (refl, e))
      go (CStr at) e = (inr (inr (inr (inr (inr (inr (inr (inr (inl at)))))))), (refl, e))
      go (Array start parts) e = (
        inr (inr (inr (inr (inr (inr (inr (inr (inr (inl (start, (parts, tt))))))))))),
        (refl, sym (ap (λ z. (leaf toks k.LeftBracket start ⨾ z ⨾ the toks k.RightBracket) a) (separated_map toks (tconst toks) parts)) ∙ e),
      )
      go (Struct start parts) e = (
        inr (inr (inr (inr (inr (inr (inr (inr (inr (inr (inl (start, (parts, tt)))))))))))),
        (refl, sym (ap (λ z. (leaf toks k.LeftBrace start ⨾ z ⨾ the toks k.RightBrace) a) (separated_map toks (tconst toks) parts)) ∙ e),
      )
      go (Packed start parts) e = (
        inr (inr (inr (inr (inr (inr (inr (inr (inr (inr (inr (inl (start, (tt, (parts, (tt, tt))))))))))))))),
        (
          refl,
          sym (ap (λ z. (leaf toks k.Less start ⨾ the toks k.LeftBrace ⨾ z ⨾ the toks k.RightBrace ⨾ the toks k.Greater) a)
              (separated_map toks (tconst toks) parts)) ∙ e,
        ),
      )
      go (GetElementPtr op flags elem operands) e = (
        inr (inr (inr (inr (inr (inr (inr (inr (inr (inr (inr (inr (inl (op, (flags, (tt, (elem, (operands, tt))))))))))))))))),
        (
          refl,
          sym (ap (λ z. (leaf toks k.GetElementPtr op ⨾ many (gepflag toks) flags ⨾ the toks k.LeftParen ⨾ ty toks elem ⨾ z ⨾ the toks k.RightParen) a)
              (some_next_map toks (tconst toks) operands)) ∙ e,
        ),
      )
      go (Cast op of to) e = (inr (inr (inr (inr (inr (inr (inr (inr (inr (inr (inr (inr (inr (inl (op, (tt, (of, (tt, (to, tt)))))))))))))))))), (refl, e))
      go (Binop op flags left right) e =
          (inr (inr (inr (inr (inr (inr (inr (inr (inr (inr (inr (inr (inr (inr (op, (flags, (tt, (left, (tt, (right, tt))))))))))))))))))), (refl, e))

  module _ (a : ℕ) (rest : (b : ℕ) → a < b → a < length toks → Reads toks (const toks) const_first [] false b) where
    -- a type and a constant, behind a token
    tconst_behind : (b : ℕ) → (a < b) × (a < length toks) → Reads toks (tconst toks) ty_first [] false b
    tconst_behind b past =
        shape_reads toks (tconst toks) (λ (x : Ty × Const). record { ty = x.0; value = x.1 }) (λ t c e. ((t.ty, t.value), (refl, e)))
        (pair_reads toks (ty_reads toks b) (λ c o. rest c (omega (arith, past.0, rises toks ty_first false b c o)) past.1) refl)

    parts_behind : (b : ℕ) → (a < b) × (a < length toks) →
        Reads toks (separated toks (tconst toks)) (ty_first ++ []) ((ty_first ++ []) ++ ((map (λ l. In (k.Comma ∷ []) ∷ l) ty_first ++ []) ++ [])) true b
    parts_behind b past = separated_reads toks (λ c up. tconst_behind c (omega (arith, past.0, up), past.1)) refl

    array_reads : Reads toks array (firsts (k.LeftBracket ∷ [])) [] false a
    array_reads = pair_reads toks (token_reads toks (In (k.LeftBracket ∷ [])) a)
        (λ b o. pair_reads toks (parts_behind b (passed toks (In (k.LeftBracket ∷ [])) a b o)) (λ c _. the_reads toks k.RightBracket c) refl) refl

    struct_reads : Reads toks struct (firsts (k.LeftBrace ∷ [])) [] false a
    struct_reads = pair_reads toks (token_reads toks (In (k.LeftBrace ∷ [])) a)
        (λ b o. pair_reads toks (parts_behind b (passed toks (In (k.LeftBrace ∷ [])) a b o)) (λ c _. the_reads toks k.RightBrace c) refl) refl

    packed_reads : Reads toks packed (firsts (k.Less ∷ [])) [] false a
    packed_reads =
        pair_reads toks (token_reads toks (In (k.Less ∷ [])) a) (λ b o. let past = passed toks (In (k.Less ∷ [])) a b o in
        pair_reads toks (the_reads toks k.LeftBrace b) (λ c o. let past' = passed toks (In (k.LeftBrace ∷ [])) b c o in
        pair_reads toks (parts_behind c (
          omega (arith, past.0, past'.0),
          past.1,
        )) (λ d _. pair_reads toks (the_reads toks k.RightBrace d) (λ e _. the_reads toks k.Greater e) refl) refl) refl) refl

    gep_reads : Reads toks gep (firsts (k.GetElementPtr ∷ [])) [] false a
    gep_reads =
        pair_reads toks (token_reads toks (In (k.GetElementPtr ∷ [])) a) (λ b o. let past = passed toks (In (k.GetElementPtr ∷ [])) a b o in
        pair_reads toks (many_reads toks (λ c _. (gepflag_known toks).at c) refl) (λ c o. let up : b ≤ c = rises toks (gepflag_known toks).first true b c o in
        pair_reads toks (the_reads toks k.LeftParen c) (λ d o. let up' = passed toks (In (k.LeftParen ∷ [])) c d o in
        pair_reads toks (ty_reads toks d) (λ e o. let up'' : d ≤ e = rises toks ty_first false d e o in
        pair_reads toks (some_reads toks (λ f on. next_reads toks (λ g on'. tconst_behind g (
          omega (arith, past.0, up, up'.0, up'', on, on'),
          past.1,
        ))) refl) (λ f _. the_reads toks k.RightParen f) refl) refl) refl) refl) refl

    cast_reads : Reads toks cast (firsts (k.ConstCast ∷ [])) [] false a
    cast_reads =
        pair_reads toks (token_reads toks (In (k.ConstCast ∷ [])) a) (λ b o. let past = passed toks (In (k.ConstCast ∷ [])) a b o in
        pair_reads toks (the_reads toks k.LeftParen b) (λ c o. let past' = passed toks (In (k.LeftParen ∷ [])) b c o in
        pair_reads toks (tconst_behind c (omega (arith, past.0, past'.0), past.1)) (λ d _.
        pair_reads toks (the_reads toks k.To d) (λ e _. pair_reads toks (ty_reads toks e) (λ f _. the_reads toks k.RightParen f) refl) refl) refl) refl) refl

    binop_reads : Reads toks binop (firsts (k.ConstBinop ∷ [])) [] false a
    binop_reads =
        pair_reads toks (token_reads toks (In (k.ConstBinop ∷ [])) a) (λ b o. let past = passed toks (In (k.ConstBinop ∷ [])) a b o in
        pair_reads toks (many_reads toks (λ c _. (iflag_of toks).at c) refl) (λ c o. let up : b ≤ c = rises toks (iflag_of toks).first true b c o in
        pair_reads toks (the_reads toks k.LeftParen c) (λ d o. let up' = passed toks (In (k.LeftParen ∷ [])) c d o in
        pair_reads toks (tconst_behind d (omega (arith, past.0, up, up'.0), past.1)) (λ e o. let up'' : d ≤ e = rises toks ty_first false d e o in
        pair_reads toks (the_reads toks k.Comma e) (λ f o. let on = passed toks (In (k.Comma ∷ [])) e f o in
        pair_reads toks (tconst_behind f (omega (arith, past.0, up, up'.0, up'', on.0), past.1)) (λ g _. the_reads toks k.RightParen g) refl) refl) refl) refl)
        refl) refl

    const_step : Reads toks (const toks) const_first [] false a
    const_step = shape_reads toks (const toks) back (view a) (choice_reads toks (token_reads toks (In (k.Int ∷ [])) a)
        (choice_reads toks (token_reads toks (In (k.True ∷ [])) a) (choice_reads toks (token_reads toks (In (k.False ∷ [])) a)
        (choice_reads toks (token_reads toks (In (k.Null ∷ [])) a) (choice_reads toks (token_reads toks (In (k.Undef ∷ [])) a)
        (choice_reads toks (token_reads toks (In (k.Poison ∷ [])) a) (choice_reads toks (token_reads toks (In (k.Zero ∷ [])) a)
        (choice_reads toks (token_reads toks (In (k.Global ∷ [])) a) (choice_reads toks (token_reads toks (In (k.CStr ∷ [])) a)
        (choice_reads toks array_reads (choice_reads toks struct_reads
        (choice_reads toks packed_reads (choice_reads toks gep_reads (choice_reads toks cast_reads binop_reads refl) refl) refl) refl) refl) refl) refl) refl)
        refl) refl) refl) refl) refl) refl)

  pub const_reads : (a : ℕ) → Reads toks (const toks) const_first [] false a
  const_reads = everywhere toks (λ a. Reads toks (const toks) const_first [] false a) const_step

  abbrev pub const_of : Known toks false (const toks)
  const_of = record { first = const_first; more = []; at = const_reads }

  pub tconst_reads : (a : ℕ) → Reads toks (tconst toks) ty_first [] false a
  tconst_reads a =
      shape_reads toks (tconst toks) (λ (x : Ty × Const). record { ty = x.0; value = x.1 }) (λ t c e. ((t.ty, t.value), (refl, e)))
      (pair_reads toks (ty_reads toks a) (λ c o. const_reads c) refl)

  abbrev pub tconst_of : Known toks false (tconst toks)
  tconst_of = record { first = ty_first; more = []; at = tconst_reads }
