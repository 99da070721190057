-- Lists of insertions that grow, one thing after another.
use Rattle.std.proofs.Common.{arith, ◌≡◌, ◌+◌, if◌then◌else◌, ℕ, zero, suc, Bool, true, false, List, [], ◌++◌, map, refl, sym, ap, ◌∙◌}
use Rattle.std.proofs.lemmas.List.{append_assoc, append-nil, map-append}
use Rattle.attr_ids.specs.declared.insertion.Insertion.{Insertion}
use Rattle.manifest.specs.Added.{Added, inserted, joined}

-- what is added behind these insertions
pub record IsBehind (old new : List Insertion) (more : List Added) : Type 0 where
  pub is : new ≡ old ++ map inserted more

-- nothing is added
pub nothing : (old : List Insertion) → old ≡ old ++ map inserted []
nothing old = sym (append-nil old)

-- one thing behind another
pub both : (old now new : List Insertion) (a b : List Added) → now ≡ old ++ map inserted a → new ≡ now ++ map inserted b → new ≡ old ++ map inserted (a ++ b)
both old now new a b first second =
    second ∙ (ap (λ xs. xs ++ map inserted b) first ∙ (append_assoc old (map inserted a) (map inserted b) ∙ ap (λ xs. old ++ xs) (sym
    (map-append inserted a b))))

module _ (part : ℕ → List Added) where
  none : joined part zero ≡ []
  unfolding joined
  none = refl

  next : (n : ℕ) → joined part (suc n) ≡ joined part n ++ part n
  unfolding joined
  next n = refl

  -- nothing yet
  pub begun : (old : List Insertion) → old ≡ old ++ map inserted (joined part 0)
  begun old = nothing old ∙ ap (λ xs. old ++ map inserted xs) (sym none)

  -- one part more
  pub grown : (old now new : List Insertion) (n : ℕ) → now ≡ old ++ map inserted (joined part n) → new ≡ now ++ map inserted (part n) →
      new ≡ old ++ map inserted (joined part (n + 1))
  grown old now new n first second =
      let e : suc n ≡ n + 1 = omega arith in
      both old now new (joined part n) (part n) first second ∙ ap (λ xs. old ++ map inserted xs) (sym (next n) ∙ ap (joined part) e)

-- what is left out where a test holds, and what is not
pub left_out : (old : List Insertion) (b : Bool) (more : List Added) → b ≡ true → old ≡ old ++ map inserted (if b then [] else more)
left_out old true more is = nothing old
left_out old false more is = absurd (cc)

pub left_in : (old new : List Insertion) (b : Bool) (more : List Added) → b ≡ false → new ≡ old ++ map inserted more → new ≡ old ++ map inserted
    (if b then [] else more)
left_in old new true more is added = absurd (cc)
left_in old new false more is added = added

-- the same where the test is to hold
pub put_out : (old : List Insertion) (b : Bool) (more : List Added) → b ≡ false → old ≡ old ++ map inserted (if b then more else [])
put_out old true more is = absurd (cc)
put_out old false more is = nothing old

pub put_in : (old new : List Insertion) (b : Bool) (more : List Added) → b ≡ true → new ≡ old ++ map inserted more → new ≡ old ++ map inserted
    (if b then more else [])
put_in old new true more is added = added
put_in old new false more is added = absurd (cc)

-- insertions that are one list are added by one
pub same_added : (old new : List Insertion) (a b : List Added) → new ≡ old ++ map inserted a → a ≡ b → new ≡ old ++ map inserted b
same_added old new a b is same = is ∙ ap (λ xs. old ++ map inserted xs) same

-- the same with nothing before
pub begun_none : (part : ℕ → List Added) → [] ≡ map inserted (joined part 0)
begun_none part = begun part []

pub grown_none : (part : ℕ → List Added) (now new : List Insertion) (n : ℕ) → now ≡ map inserted (joined part n) → new ≡ now ++ map inserted (part n) →
    new ≡ map inserted (joined part (n + 1))
grown_none part now new n first second = grown part [] now new n first second
