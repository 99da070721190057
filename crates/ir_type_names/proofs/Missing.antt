-- Unknown names in types, by those of their parts.
use Rattle.std.proofs.Common.{◌≡◌, ℕ, ◌+◌, ◌<◌, ◌≤◌, List, [], ◌∷◌, ◌++◌, length, get_or, take, Option, sym, ap, ◌∙◌, take_all}
use Rattle.std.specs.List.{flat_map}
use Rattle.std.proofs.lemmas.List.{take_more, flat_map_more}
use Rattle.std.proofs.lemmas.List.Folds.{flat_map-map}
use Rattle.ir_tree.specs.declared.types.Ty.{Ty}
use Rattle.ir_tree.specs.declared.types.Ty.TheOpen.Ty-F.{Array, Struct, Packed}
use Rattle.ir_tree.specs.declared.types.Ty.TheViews.{roll-Ty}
use Rattle.ir_tree.specs.declared.types.Ty.TheFolds.{fold-roll-Ty}
use Rattle.ir_scopes.specs.declared.faults.NameFault.{NameFault}
use Rattle.ir_scopes.specs.Faults.{first_in}
use Rattle.ir_scopes.proofs.Entering.{first_in-append}
use Rattle.ir_type_names.specs.Reading.{Reading}
use Rattle.ir_type_names.specs.Unknown.{unknown_layer, unknown_in}

module _ (r : Reading) where
  pub unknown_array : (start count : ℕ) (elem : Ty) → unknown_in r (roll-Ty (Array start count elem)) ≡ unknown_in r elem
  unknown_array start count elem = fold-roll-Ty (List NameFault) (unknown_layer r) (Array start count elem)

  pub unknown_struct : (start : ℕ) (parts : List Ty) → unknown_in r (roll-Ty (Struct start parts)) ≡ flat_map (unknown_in r) parts
  unknown_struct start parts = fold-roll-Ty (List NameFault) (unknown_layer r) (Struct start parts) ∙ flat_map-map (λ fs. fs) (unknown_in r) parts

  pub unknown_packed : (start : ℕ) (parts : List Ty) → unknown_in r (roll-Ty (Packed start parts)) ≡ flat_map (unknown_in r) parts
  unknown_packed start parts = fold-roll-Ty (List NameFault) (unknown_layer r) (Packed start parts) ∙ flat_map-map (λ fs. fs) (unknown_in r) parts

-- one more element of a list is gone through
pub more_found : {X : Type 0} (f : X → List NameFault) (xs : List X) (i : ℕ) (x : X) (old mid new : Option NameFault) → i < length xs → x ≡ get_or xs i x
    → mid ≡ first_in old (flat_map f (take i xs)) → new ≡ first_in mid (f x) → new ≡ first_in old (flat_map f (take (i + 1) xs))
more_found f xs i x old mid new within here before one =
    one ∙ ap (λ m. first_in m (f x)) before ∙ sym (first_in-append old (flat_map f (take i xs)) (f x))
    ∙ ap (first_in old) (flat_map_more f [] (take i xs) x ∙ ap (λ z. flat_map f (take i xs ++ z ∷ [])) here ∙ ap (flat_map f) (sym (take_more xs i x within)))

pub all_found : {X : Type 0} (f : X → List NameFault) (xs : List X) (i : ℕ) (old new : Option NameFault) → length xs ≤ i
    → new ≡ first_in old (flat_map f (take i xs)) → new ≡ first_in old (flat_map f xs)
all_found f xs i old new past before = before ∙ ap (λ zs. first_in old (flat_map f zs)) (take_all i xs past)
