-- Lists that are written one behind the other.
use Rattle.std.proofs.Common.{◌≡◌, ℕ, ◌+◌, ◌<◌, ◌≤◌, List, [], ◌∷◌, ◌++◌, length, get_or, take, ap, sym, ◌∙◌, append_assoc, take_all}
use Rattle.std.specs.Prelude.{Result, Ok, Err, OnOk}
use Rattle.std.specs.List.{flat_map}
use Rattle.std.proofs.lemmas.List.{append-nil, take_more, flat_map_more}

module _ {X : Type 0} where
  pub joined : (old mid new a b : List X) → mid ≡ old ++ a → new ≡ mid ++ b → new ≡ old ++ (a ++ b)
  joined old mid new a b first second = second ∙ ap (λ xs. xs ++ b) first ∙ append_assoc old a b

  -- the same of a result, where the last part is written by a call
  pub then_call : {E : Type 0} (r : Result (Unit {0}) E) (old mid new a b : List X) → mid ≡ old ++ a → OnOk r (new ≡ mid ++ b) → OnOk r (new ≡ old ++ (a ++ b))
  then_call (Ok x) old mid new a b first second = joined old mid new a b first second
  then_call (Err e) old mid new a b first second = second

module _ {X E : Type 0} where
  -- the same list, said otherwise
  pub as_said : (r : Result (Unit {0}) E) (old new a b : List X) → OnOk r (new ≡ old ++ a) → a ≡ b → OnOk r (new ≡ old ++ b)
  as_said (Ok x) old new a b is same = is ∙ ap (λ c. old ++ c) same
  as_said (Err e) old new a b is same = is
