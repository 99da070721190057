-- The least places of types, as more marks are taken in.
use Rattle.std.proofs.Common.{◌≡◌, ℕ, ◌+◌, ◌<◌, ◌≤◌, cond, eqb, inl, inr, List, [], ◌∷◌, ◌++◌, length, get_or, map, set, take, Option, None}
use Rattle.std.proofs.Common.{refl, sym, ap, subst, ◌∙◌, arith, take_all}
use Rattle.std.specs.List.{flat_map}
use Rattle.std.proofs.lemmas.List.{map-append, take_more, flat_map_more, get_or-set_same, get_or-set_other}
use Rattle.std.proofs.lemmas.Bool.Decides.{eqb_tells}
use Rattle.ir_tree.specs.declared.types.Ty.{Ty}
use Rattle.ir_tree.specs.declared.types.Ty.TheOpen.Ty-F.{Void, Int, Ptr, Array, Struct, Packed, Named}
use Rattle.ir_tree.specs.declared.types.Ty.TheOpen.{Ty-F}
use Rattle.ir_tree.specs.declared.types.Ty.TheViews.{roll-Ty}
use Rattle.ir_type_names.specs.Reading.{named}
use Rattle.ir_type_names.specs.Numbers.{Table, type_id, parts_first}
use Rattle.ir_type_names.specs.Places.{Mark, marks_of, lesser, least, place_in, AreMarked, IsMarked}
use Rattle.ir_type_names.proofs.Taking.{id_roll, parts_own, parts_array, parts_struct, parts_packed}

pub least_append : (n : ℕ) (found : Option ℕ) (xs ys : List Mark) → least n found (xs ++ ys) ≡ least n (least n found xs) ys
least_append n found [] ys = refl
least_append n found (x ∷ xs) ys = least_append n (cond (eqb x.0 n) (lesser found x.1) found) xs ys

pub none_marked : (places : List (Option ℕ)) → AreMarked places places []
none_marked places = record { long = refl; lowest = λ n within. refl }

pub both_marked : (old mid new : List (Option ℕ)) (xs ys : List Mark) → AreMarked old mid xs → AreMarked mid new ys → AreMarked old new (xs ++ ys)
both_marked old mid new xs ys first second = record {
  long = second.long ∙ first.long;
  lowest = λ n within. second.lowest n (omega (arith, first.long, within)) ∙ ap (λ f. least n f ys) (first.lowest n within)
      ∙ sym (least_append n (place_in old n) xs ys);
}

pub marked_as : (old new : List (Option ℕ)) (xs ys : List Mark) → xs ≡ ys → AreMarked old new xs → AreMarked old new ys
marked_as old new xs ys same marked = subst (AreMarked old new) same marked

-- one more element of a list is gone through
pub more_marked : {X : Type 0} (f : X → List Mark) (xs : List X) (i : ℕ) (x : X) (old mid new : List (Option ℕ)) → i < length xs → x ≡ get_or xs i x
    → AreMarked old mid (flat_map f (take i xs)) → AreMarked mid new (f x) → AreMarked old new (flat_map f (take (i + 1) xs))
more_marked f xs i x old mid new within here before one =
    marked_as old new (flat_map f (take i xs) ++ f x) (flat_map f (take (i + 1) xs))
    (flat_map_more f [] (take i xs) x ∙ ap (λ z. flat_map f (take i xs ++ z ∷ [])) here ∙ ap (flat_map f) (sym (take_more xs i x within)))
    (both_marked old mid new (flat_map f (take i xs)) (f x) before one)

pub all_marked : {X : Type 0} (f : X → List Mark) (xs : List X) (i : ℕ) (old new : List (Option ℕ)) → length xs ≤ i
    → AreMarked old new (flat_map f (take i xs)) → AreMarked old new (flat_map f xs)
all_marked f xs i old new past before = subst (λ zs. AreMarked old new (flat_map f zs)) (take_all i xs past) before

-- the marks of a type stand behind those of its parts
module _ (t : Table) (at : ℕ) where
  abbrev mark_of : Ty → Mark
  mark_of part = (type_id t part, at)

  marks_flat : (ts : List Ty) → map mark_of (flat_map parts_first ts) ≡ flat_map (marks_of t at) ts
  marks_flat [] = refl
  marks_flat (x ∷ xs) = map-append mark_of (parts_first x) (flat_map parts_first xs) ∙ ap (λ ms. marks_of t at x ++ ms) (marks_flat xs)

  pub marks_array : (start count : ℕ) (elem : Ty) (n : ℕ) → n ≡ type_id t (roll-Ty (Array start count elem))
      → marks_of t at elem ++ (n, at) ∷ [] ≡ marks_of t at (roll-Ty (Array start count elem))
  marks_array start count elem n is = ap (λ m. marks_of t at elem ++ (m, at) ∷ []) is
      ∙ sym (map-append mark_of (parts_first elem) (roll-Ty (Array start count elem) ∷ [])) ∙ ap (map mark_of) (sym (parts_array start count elem))

  pub marks_struct : (start : ℕ) (parts : List Ty) (n : ℕ) → n ≡ type_id t (roll-Ty (Struct start parts))
      → flat_map (marks_of t at) parts ++ (n, at) ∷ [] ≡ marks_of t at (roll-Ty (Struct start parts))
  marks_struct start parts n is = ap (λ m. flat_map (marks_of t at) parts ++ (m, at) ∷ []) is
      ∙ ap (λ ms. ms ++ (type_id t (roll-Ty (Struct start parts)), at) ∷ []) (sym (marks_flat parts))
      ∙ sym (map-append mark_of (flat_map parts_first parts) (roll-Ty (Struct start parts) ∷ [])) ∙ ap (map mark_of) (sym (parts_struct start parts))

  pub marks_packed : (start : ℕ) (parts : List Ty) (n : ℕ) → n ≡ type_id t (roll-Ty (Packed start parts))
      → flat_map (marks_of t at) parts ++ (n, at) ∷ [] ≡ marks_of t at (roll-Ty (Packed start parts))
  marks_packed start parts n is = ap (λ m. flat_map (marks_of t at) parts ++ (m, at) ∷ []) is
      ∙ ap (λ ms. ms ++ (type_id t (roll-Ty (Packed start parts)), at) ∷ []) (sym (marks_flat parts))
      ∙ sym (map-append mark_of (flat_map parts_first parts) (roll-Ty (Packed start parts) ∷ [])) ∙ ap (map mark_of) (sym (parts_packed start parts))

-- one mark
pub one_marked : (places : List (Option ℕ)) (n at : ℕ) (x : Option ℕ) → n < length places → x ≡ lesser (place_in places n) at
    → (k : ℕ) → place_in (set places n x) k ≡ least k (place_in places k) ((n, at) ∷ [])
one_marked places n at x within is k = elim (eqb_tells n k) [
  | inl (alike, same) ↦
      (ap (λ i. place_in (set places n x) i) (sym same) ∙ get_or-set_same places n x None within ∙ is ∙ ap (λ i. lesser (place_in places i) at) same
      ∙ sym (ap (λ b. cond b (lesser (place_in places k) at) (place_in places k)) alike))
  | inr (unlike, other) ↦
      (get_or-set_other places n k x None (λ e. other (sym e)) ∙ sym (ap (λ b. cond b (lesser (place_in places k) at) (place_in places k)) unlike))
]

-- a type is marked behind its parts
module _ (t : Table) (at : ℕ) where
  own_marked : (x : Ty-F Ty) (n : ℕ) (old new : List (Option ℕ)) → parts_first (roll-Ty x) ≡ roll-Ty x ∷ [] → n ≡ type_id t (roll-Ty x)
      → AreMarked old new ((n, at) ∷ []) → IsMarked t at (roll-Ty x) old new n
  own_marked x n old new alone is marked = record {
    number = is;
    marked = marked_as old new ((n, at) ∷ []) (marks_of t at (roll-Ty x)) (ap (λ m. (m, at) ∷ []) is ∙ ap (map (mark_of t at)) (sym alone)) marked;
  }

  pub void_marked : (leaf : ℕ) (old new : List (Option ℕ)) → AreMarked old new ((0, at) ∷ []) → IsMarked t at (roll-Ty (Void leaf)) old new 0
  void_marked leaf old new = own_marked (Void leaf) 0 old new (parts_own (Void leaf) refl) (sym (id_roll t (Void leaf)))

  pub ptr_marked : (leaf : ℕ) (old new : List (Option ℕ)) → AreMarked old new ((1, at) ∷ []) → IsMarked t at (roll-Ty (Ptr leaf)) old new 1
  ptr_marked leaf old new = own_marked (Ptr leaf) 1 old new (parts_own (Ptr leaf) refl) (sym (id_roll t (Ptr leaf)))

  pub named_marked : (name n : ℕ) (old new : List (Option ℕ)) → n ≡ named t.names name → AreMarked old new ((n, at) ∷ [])
      → IsMarked t at (roll-Ty (Named name)) old new n
  named_marked name n old new is = own_marked (Named name) n old new (parts_own (Named name) refl) (is ∙ sym (id_roll t (Named name)))

  pub int_marked : (leaf n : ℕ) (old new : List (Option ℕ)) → n ≡ type_id t (roll-Ty (Int leaf)) → AreMarked old new ((n, at) ∷ [])
      → IsMarked t at (roll-Ty (Int leaf)) old new n
  int_marked leaf n old new = own_marked (Int leaf) n old new (parts_own (Int leaf) refl)

  pub array_marked : (start count : ℕ) (elem : Ty) (n : ℕ) (old mid new : List (Option ℕ)) → n ≡ type_id t (roll-Ty (Array start count elem))
      → AreMarked old mid (marks_of t at elem) → AreMarked mid new ((n, at) ∷ []) → IsMarked t at (roll-Ty (Array start count elem)) old new n
  array_marked start count elem n old mid new is first second = record {
    number = is;
    marked = marked_as old new (marks_of t at elem ++ (n, at) ∷ []) (marks_of t at (roll-Ty (Array start count elem))) (marks_array t at start count elem n is)
        (both_marked old mid new (marks_of t at elem) ((n, at) ∷ []) first second);
  }

  pub struct_marked : (start : ℕ) (parts : List Ty) (n : ℕ) (old mid new : List (Option ℕ)) → n ≡ type_id t (roll-Ty (Struct start parts))
      → AreMarked old mid (flat_map (marks_of t at) parts) → AreMarked mid new ((n, at) ∷ []) → IsMarked t at (roll-Ty (Struct start parts)) old new n
  struct_marked start parts n old mid new is first second = record {
    number = is;
    marked = marked_as old new (flat_map (marks_of t at) parts ++ (n, at) ∷ []) (marks_of t at (roll-Ty (Struct start parts)))
        (marks_struct t at start parts n is)
        (both_marked old mid new (flat_map (marks_of t at) parts) ((n, at) ∷ []) first second);
  }

  pub packed_marked : (start : ℕ) (parts : List Ty) (n : ℕ) (old mid new : List (Option ℕ)) → n ≡ type_id t (roll-Ty (Packed start parts))
      → AreMarked old mid (flat_map (marks_of t at) parts) → AreMarked mid new ((n, at) ∷ []) → IsMarked t at (roll-Ty (Packed start parts)) old new n
  packed_marked start parts n old mid new is first second = record {
    number = is;
    marked = marked_as old new (flat_map (marks_of t at) parts ++ (n, at) ∷ []) (marks_of t at (roll-Ty (Packed start parts)))
        (marks_packed t at start parts n is)
        (both_marked old mid new (flat_map (marks_of t at) parts) ((n, at) ∷ []) first second);
  }
