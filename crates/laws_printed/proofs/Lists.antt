-- What holds of each element of a list, where it comes from what holds in other ways.
use Rattle.std.proofs.Common.{◌≡◌, ◌<◌, ℕ, zero, suc, Bool, true, false, if◌then◌else◌, List, [], ◌∷◌, slice_get, All, Some, arith, refl}
use Rattle.std.specs.List.{AllByRecursion}
use Rattle.std.proofs.lemmas.List.Elements.{recursion_from_All, All-from_recursion}
use Rattle.shelf.proofs.Every.{every_mapped, every_append, every_at}
use Rattle.manifest.specs.Added.{joined}

-- what P leads to
pub all_mapped : {A : Type 0} (P Q : A → Type 0) (xs : List A) → ((x : A) → P x → Q x) → All P xs → All Q xs
all_mapped P Q xs leads p = All-from_recursion Q xs (every_mapped P Q xs leads (recursion_from_All P xs p))

-- what P and Q lead to together
pub all_both : {A : Type 0} (P Q R : A → Type 0) (xs : List A) → ((x : A) → P x → Q x → R x) → All P xs → All Q xs → All R xs
all_both P Q R xs leads p q = All-from_recursion R xs (go xs (recursion_from_All P xs p) (recursion_from_All Q xs q))
  where
    go : (ys : List _) → AllByRecursion P ys → AllByRecursion Q ys → AllByRecursion R ys
    go [] p q = tt
    go (y ∷ ys) p q = (leads y p.0 q.0, go ys p.1 q.1)

-- of the element at a place
pub all_at : {A : Type 0} (P : A → Type 0) (xs : List A) (k : ℕ) (x : A) → All P xs → slice_get xs k ≡ Some x → P x
all_at P xs k x all at = every_at P xs k x (recursion_from_All P xs all) at

-- of each part, so of the parts behind each other
pub every_joined : {A : Type 0} (P : A → Type 0) (part : ℕ → List A) (n : ℕ) → ((i : ℕ) → i < n → AllByRecursion P (part i)) → AllByRecursion P (joined part n)
unfolding joined
every_joined P part zero each = tt
every_joined P part (suc n) each =
    every_append P (joined part n) (part n) (every_joined P part n (λ i within. each i (omega arith))) (each n (omega arith))

-- where something is added at all
pub every_if : {A : Type 0} (P : A → Type 0) (test : Bool) (so : List A) → (test ≡ true → AllByRecursion P so) → AllByRecursion P (if test then so else [])
every_if P true so each = each refl
every_if P false so each = tt

pub every_unless : {A : Type 0} (P : A → Type 0) (test : Bool) (so : List A) → (test ≡ false → AllByRecursion P so) → AllByRecursion P (if test then [] else so)
every_unless P true so each = tt
every_unless P false so each = each refl
