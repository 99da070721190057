-- How many numbers have something, one number further.
use Rattle.std.proofs.Common.{arith, ◌≡◌, ◌+◌, ◌≤◌, if◌then◌else◌, ℕ, zero, suc, Bool, true, false, refl, subst}
use Rattle.attr_list.specs.Summed.{count_of}

pub one_at_most : (b : Bool) → (if b then 1 else 0) ≤ 1
one_at_most true = omega arith
one_at_most false = omega arith

module _ (has : ℕ → Bool) where
  pub none_yet : 0 ≡ count_of has 0
  unfolding count_of
  none_yet = refl

  pub next : (n : ℕ) → count_of has (suc n) ≡ count_of has n + (if has n then 1 else 0)
  unfolding count_of
  next n = refl

  -- one number more
  pub one_more : (n now one : ℕ) → now ≡ count_of has n → one ≡ (if has n then 1 else 0) → now + one ≡ count_of has (n + 1)
  one_more n now one is here =
      let e : suc n ≡ n + 1 = omega arith in
      subst (λ k. now + one ≡ count_of has k) e (let more = next n in omega (arith, more, is, here))

  -- at most all have it
  pub few : (n : ℕ) → count_of has n ≤ n
  few zero = let e = none_yet in omega (arith, e)
  few (suc n) = let less = few n in let one = one_at_most (has n) in let more = next n in omega (arith, less, one, more)
