-- Words that are made bit by bit.
use Rattle.std.proofs.Common.{◌≡◌, ◌∙◌, ◌+◌, ◌^◌, ℕ, suc, Bool, if◌then◌else◌, refl, ap, arith}
use Rattle.lattice_words.specs.Words.{word_of}

pub word_none : (test : ℕ → Bool) → 0 ≡ word_of test 0
unfolding word_of
word_none test = refl

more : (test : ℕ → Bool) (n : ℕ) → (if test n then 2 ^ n else 0) + word_of test n ≡ word_of test (suc n)
unfolding word_of
more test n = refl

pub word_more : (test : ℕ → Bool) (n w r : ℕ) (b : Bool) → w ≡ word_of test n → b ≡ test n → r ≡ (if b then 2 ^ n else 0) + w → r ≡ word_of test (n + 1)
word_more test n w r b before this is =
    let next : suc n ≡ n + 1 = omega arith in
    is ∙ ap (λ x. (if b then 2 ^ n else 0) + x) before ∙ ap (λ c. (if c then 2 ^ n else 0) + word_of test n) this ∙ more test n ∙ ap (word_of test) next
