-- At most one type fits from a place, and types have one length.
use Rattle.std.proofs.Common.{◌≡◌, ℕ, ◌<◌, true, false, List, [], ◌∷◌, length, ◌++◌, map, Option, None, Some, ◌⊎◌, inl, inr, refl, sym, ap, ◌∙◌, subst, arith}
use Rattle.ir_tree.specs.declared.terminal.Terminal.{Terminal}
use Rattle.ir_tree.specs.declared.terminal.Terminal.TheVariants as k
use Rattle.ir_tree.specs.declared.types.Ty.{Ty}
use Rattle.ir_tree.specs.declared.types.Ty.TheOpen.{Ty-F}
use Rattle.ir_tree.specs.declared.types.Ty.TheOpen.Ty-F.{Void, Int, Ptr, Array, Struct, Packed, Named}
use Rattle.ir_tree.specs.declared.types.Ty.TheViews.{roll-Ty}
use Rattle.ir_tree.specs.declared.types.Ty.TheFolds.{fold-roll-Ty, ind-Ty, map-Ty}
use Rattle.ir_tree.specs.declared.types.Ftype.{Ftype}
use Rattle.ir_tree.specs.declared.types.Ftype.TheVariants.{Empty, Dots, Listed}
use Rattle.ir_tree.specs.Steps.{Step, ◌⨾◌, the, leaf, optional, next, listed, separated}
use Rattle.ir_tree.specs.Types.{type_layer, ty, types, ftype}
use Rattle.ir_tree.proofs.Looks.{Look}
use Rattle.ir_tree.proofs.Looks.Test.{In}
use Rattle.ir_tree.proofs.Clear.{Reads, pair, choice, passed, token_reads, the_reads, pair_reads, choice_reads, separated_reads, separated_map, shape_reads}
use Rattle.ir_tree.proofs.Clear.{everywhere}
use Rattle.ir_tree.proofs.Known.{Known, firsts, leaf_of, the_of, pair_of, choice_of, optional_of, next_of, listed_of, shape_of}

opened : (t : Ty) → (x : Ty-F Ty) × (roll-Ty x ≡ t)
opened = ind-Ty (λ t. (x : Ty-F Ty) × (roll-Ty x ≡ t)) (λ x y is. (x, refl))

abbrev pub Shape : Type 0
Shape = ℕ ⊎ (ℕ ⊎ (ℕ ⊎ (ℕ ⊎ ((ℕ × (ℕ × (Unit {0} × (Ty × Unit {0})))) ⊎ ((ℕ × (List Ty × Unit {0})) ⊎ (ℕ × (Unit {0} × (List Ty × (Unit {0} × Unit {0})))))))))

pub back : Shape → Ty
back (inl at) = roll-Ty (Void at)
back (inr (inl at)) = roll-Ty (Int at)
back (inr (inr (inl at))) = roll-Ty (Ptr at)
back (inr (inr (inr (inl at)))) = roll-Ty (Named at)
back (inr (inr (inr (inr (inl x))))) = roll-Ty (Array x.0 x.1.0 x.1.1.1.0)
back (inr (inr (inr (inr (inr (inl x)))))) = roll-Ty (Struct x.0 x.1.0)
back (inr (inr (inr (inr (inr (inr x)))))) = roll-Ty (Packed x.0 x.1.1.0)

-- what a type begins with
abbrev pub ty_first : List Look
ty_first = firsts (k.Void ∷ k.IntType ∷ k.Ptr ∷ k.Local ∷ k.LeftBracket ∷ k.LeftBrace ∷ k.Less ∷ [])

abbrev pub types_back : Option (ℕ ⊎ (List Ty × Option ℕ)) → Ftype
types_back None = Empty
types_back (Some (inl at)) = Dots at
types_back (Some (inr x)) = Listed x.0 x.1

module _ (toks : List Terminal) where
  pub types_view : (t : Ftype) (a b : ℕ) → types toks t a ≡ Some b → (x : Option (ℕ ⊎ (List Ty × Option ℕ))) ×
      ((types_back x ≡ t) × (optional (choice (leaf toks k.Dots) (pair (listed toks (ty toks)) (optional (next toks (leaf toks k.Dots))))) x a ≡ Some b))
  types_view Empty a b e = (None, (refl, e))
  types_view (Dots at) a b e = (Some (inl at), (refl, e))
  types_view (Listed all dots) a b e = (Some (inr (all, dots)), (refl, e))

  abbrev pub array : ℕ × (ℕ × (Unit {0} × (Ty × Unit {0}))) → Step
  array = pair (leaf toks k.LeftBracket) (pair (leaf toks k.Int) (pair (λ _. the toks k.Times) (pair (ty toks) (λ _. the toks k.RightBracket))))

  abbrev pub struct : ℕ × (List Ty × Unit {0}) → Step
  struct = pair (leaf toks k.LeftBrace) (pair (separated toks (ty toks)) (λ _. the toks k.RightBrace))

  abbrev pub packed : ℕ × (Unit {0} × (List Ty × (Unit {0} × Unit {0}))) → Step
  packed = pair (leaf toks k.Less)
      (pair (λ _. the toks k.LeftBrace) (pair (separated toks (ty toks)) (pair (λ _. the toks k.RightBrace) (λ _. the toks k.Greater))))

  abbrev pub shape : Shape → Step
  shape = choice (leaf toks k.Void) (choice (leaf toks k.IntType) (choice (leaf toks k.Ptr) (choice (leaf toks k.Local) (choice array (choice struct packed)))))

  pub view : (a : ℕ) (t : Ty) (b : ℕ) → ty toks t a ≡ Some b → (x : Shape) × ((back x ≡ t) × (shape x a ≡ Some b))
  unfolding back
  view a t b e = let o = opened t in
      subst (λ t. ty toks t a ≡ Some b → (x : Shape) ×
      ((back x ≡ t) × (shape x a ≡ Some b))) o.1 (λ e. go o.0 (sym (ap (λ step. step a) (fold-roll-Ty Step (type_layer toks) o.0)) ∙ e)) e
    where
      go : (x : Ty-F Ty) → type_layer toks (map-Ty Ty Step (ty toks) x) a ≡ Some b → (s : Shape) × ((back s ≡ roll-Ty x) × (shape s a ≡ Some b))
      go (Void at) e = (inl at, (refl, e))
      go (Int at) e = (inr (inl at), (refl, e))
      go (Ptr at) e = (inr (inr (inl at)), (refl, e))
      go (Named at) e = (inr (inr (inr (inl at))), (refl, e))
      go (Array start count elem) e = (inr (inr (inr (inr (inl (start, (count, (tt, (elem, tt)))))))), (refl, e))
      go (Struct start parts) e = (
        inr (inr (inr (inr (inr (inl (start, (parts, tt))))))),
        (refl, sym (ap (λ z. (leaf toks k.LeftBrace start ⨾ z ⨾ the toks k.RightBrace) a) (separated_map toks (ty toks) parts)) ∙ e),
      )
      go (Packed start parts) e = (
        inr (inr (inr (inr (inr (inr (start, (tt, (parts, (tt, tt))))))))),
        (
          refl,
          sym (ap (λ z. (leaf toks k.Less start ⨾ the toks k.LeftBrace ⨾ z ⨾ the toks k.RightBrace ⨾ the toks k.Greater) a)
              (separated_map toks (ty toks) parts)) ∙ e,
        ),
      )

  module _ (a : ℕ) (rest : (b : ℕ) → a < b → a < length toks → Reads toks (ty toks) ty_first [] false b) where
    -- the parts of a list behind a token
    parts_reads : (b : ℕ) → (a < b) × (a < length toks) →
        Reads toks (separated toks (ty toks)) (ty_first ++ []) ((ty_first ++ []) ++ ((map (λ l. In (k.Comma ∷ []) ∷ l) ty_first ++ []) ++ [])) true b
    parts_reads b past = separated_reads toks (λ c up. rest c (omega (arith, past.0, up)) past.1) refl

    array_reads : Reads toks array (firsts (k.LeftBracket ∷ [])) [] false a
    array_reads =
        pair_reads toks (token_reads toks (In (k.LeftBracket ∷ [])) a) (λ b o. let past = passed toks (In (k.LeftBracket ∷ [])) a b o in
        pair_reads toks (token_reads toks (In (k.Int ∷ [])) b) (λ c o. let past' = passed toks (In (k.Int ∷ [])) b c o in
        pair_reads toks (the_reads toks k.Times c) (λ d o. let past'' = passed toks (In (k.Times ∷ [])) c d o in
        pair_reads toks (rest d (omega (arith, past.0, past'.0, past''.0)) past.1) (λ e _. the_reads toks k.RightBracket e) refl) refl) refl) refl

    struct_reads : Reads toks struct (firsts (k.LeftBrace ∷ [])) [] false a
    struct_reads =
        pair_reads toks (token_reads toks (In (k.LeftBrace ∷ [])) a) (λ b o. pair_reads toks (parts_reads b (passed toks (In (k.LeftBrace ∷ [])) a b o))
        (λ c _. the_reads toks k.RightBrace c) refl) refl

    packed_reads : Reads toks packed (firsts (k.Less ∷ [])) [] false a
    packed_reads =
        pair_reads toks (token_reads toks (In (k.Less ∷ [])) a) (λ b o. let past = passed toks (In (k.Less ∷ [])) a b o in
        pair_reads toks (the_reads toks k.LeftBrace b) (λ c o. let past' = passed toks (In (k.LeftBrace ∷ [])) b c o in
        pair_reads toks (parts_reads c (
          omega (arith, past.0, past'.0),
          past.1,
        )) (λ d _. pair_reads toks (the_reads toks k.RightBrace d) (λ e _. the_reads toks k.Greater e) refl) refl) refl) refl

    ty_step : Reads toks (ty toks) ty_first [] false a
    ty_step =
        shape_reads toks (ty toks) back (view a)
        (choice_reads toks (token_reads toks (In (k.Void ∷ [])) a)
        (choice_reads toks (token_reads toks (In (k.IntType ∷ [])) a)
        (choice_reads toks (token_reads toks (In (k.Ptr ∷ [])) a)
        (choice_reads toks (token_reads toks (In (k.Local ∷ [])) a)
        (choice_reads toks array_reads
        (choice_reads toks struct_reads packed_reads refl) refl) refl) refl) refl) refl)

  pub ty_reads : (a : ℕ) → Reads toks (ty toks) ty_first [] false a
  ty_reads = everywhere toks (λ a. Reads toks (ty toks) ty_first [] false a) ty_step

  abbrev pub ty_of : Known toks false (ty toks)
  ty_of = record { first = ty_first; more = []; at = ty_reads }

  -- ---- the parameters of a written type of function
  abbrev pub types_of : Known toks true (types toks)
  types_of = shape_of types_back types_view
      (optional_of (choice_of (leaf_of k.Dots) (pair_of (listed_of ty_of refl) (optional_of (next_of (leaf_of k.Dots))) refl) refl))

  abbrev pub ftype_of : Known toks false (ftype toks)
  ftype_of = shape_of (λ (x : Unit {0} × (Ftype × Unit {0})). x.1.0) (λ t a b e. (
    (tt, (t, tt)),
    (refl, e),
  )) (pair_of (the_of k.LeftParen) (pair_of types_of (the_of k.RightParen) refl) refl)
