-- The first of some faults.
use Rattle.std.proofs.Common.{◌≡◌, ℕ, zero, suc, ◌<◌, ◌≤◌, ◌⊎◌, inl, inr, Bool, true, false, cond, List, [], ◌∷◌, Some, None, refl, ap, ◌∙◌, arith}
use Rattle.std.specs.Prelude.{nat_le, slice_get}
use Rattle.std.proofs.lemmas.Bool.{leb-true}
use Rattle.std.proofs.lemmas.Bool.Decides.{leb_tells}
use Rattle.ir_scopes.specs.declared.faults.NameFault.{NameFault}
use Rattle.ir_scopes.specs.Faults.{first_in, IsFirst}

same_place : (a b : NameFault) → Some a ≡ Some b → a.at ≡ b.at
same_place a b h = let same : a ≡ b = cc in ap (λ x. x.at) same

not_behind : (m n : ℕ) (b : Bool) → nat_le m n ≡ b → b ≡ true → m ≤ n
not_behind m n b is holds = leb-true m n (is ∙ holds)

told : (m n : ℕ) → ((nat_le m n ≡ true) × (m ≤ n)) ⊎ ((nat_le m n ≡ false) × (n < m)) → nat_le m n ≡ false → n ≤ m
told m n (inl h) off = absurd (cc (h.0, off))
told m n (inr h) off = omega (arith, h.1)

behind : (m n : ℕ) (b : Bool) → nat_le m n ≡ b → b ≡ false → n ≤ m
behind m n b is off = told m n (leb_tells m n) (is ∙ off)

alone : (old fault : NameFault) → Some old ≡ Some fault → (k : ℕ) (other : NameFault) → slice_get (old ∷ []) k ≡ Some other → fault.at ≤ other.at
alone old fault h zero other is = let a = same_place old fault h in let b = same_place old other is in omega arith
alone old fault h (suc k) other is = absurd (cc)

past_second : (old x : NameFault) (xs : List NameFault) (fault : NameFault) (k : ℕ) → slice_get (old ∷ xs) k ≡ Some fault → (j : ℕ) ×
    (slice_get (old ∷ x ∷ xs) j ≡ Some fault)
past_second old x xs fault zero h = (0, h)
past_second old x xs fault (suc k) h = (suc (suc k), h)

old_first : (old x : NameFault) (xs : List NameFault) (fault : NameFault) → old.at ≤ x.at → IsFirst (old ∷ xs) fault → (k : ℕ) (other : NameFault) →
    slice_get (old ∷ x ∷ xs) k ≡ Some other → fault.at ≤ other.at
old_first old x xs fault le rest zero other is = rest.first 0 other is
old_first old x xs fault le rest (suc zero) other is =
    let a : fault.at ≤ old.at = rest.first 0 old refl in let b = same_place x other is in omega arith
old_first old x xs fault le rest (suc (suc k)) other is = rest.first (suc k) other is

new_first : (old x : NameFault) (xs : List NameFault) (fault : NameFault) → x.at ≤ old.at → IsFirst (x ∷ xs) fault → (k : ℕ) (other : NameFault) →
    slice_get (old ∷ x ∷ xs) k ≡ Some other → fault.at ≤ other.at
new_first old x xs fault le rest zero other is =
    let a : fault.at ≤ x.at = rest.first 0 x refl in let b = same_place old other is in omega arith
new_first old x xs fault le rest (suc k) other is = rest.first k other is

chosen : (old x : NameFault) (xs : List NameFault) (fault : NameFault) (b : Bool) → nat_le old.at x.at ≡ b →
    (first_in (Some old) xs ≡ Some fault → IsFirst (old ∷ xs) fault) → (first_in (Some x) xs ≡ Some fault → IsFirst (x ∷ xs) fault) →
    first_in (cond b (Some old) (Some x)) xs ≡ Some fault → IsFirst (old ∷ x ∷ xs) fault
chosen old x xs fault true is of_old of_new h =
    let rest = of_old h in
    record { one = past_second old x xs fault rest.one.0 rest.one.1; first = old_first old x xs fault (not_behind old.at x.at true is refl) rest }
chosen old x xs fault false is of_old of_new h =
    let rest = of_new h in
    record { one = (suc rest.one.0, rest.one.1); first = new_first old x xs fault (behind old.at x.at false is refl) rest }

-- of a fault and more, the first is one of them, and none stands before it: each time the one of two is kept that does not stand behind the other
later : (faults : List NameFault) (old fault : NameFault) → first_in (Some old) faults ≡ Some fault → IsFirst (old ∷ faults) fault
later [] old fault h = record { one = (0, h); first = alone old fault h }
later (x ∷ xs) old fault h = chosen old x xs fault (nat_le old.at x.at) refl (later xs old fault) (later xs x fault) h

pub some_first : (faults : List NameFault) (fault : NameFault) → first_in None faults ≡ Some fault → IsFirst faults fault
some_first [] fault h = absurd (cc)
some_first (x ∷ xs) fault h = later xs x fault h

either : (b : Bool) (old x : NameFault) (xs : List NameFault) → (first_in (Some old) xs ≡ None → ⊥) → (first_in (Some x) xs ≡ None → ⊥) →
    first_in (cond b (Some old) (Some x)) xs ≡ None → ⊥
either true old x xs of_old of_new h = of_old h
either false old x xs of_old of_new h = of_new h

found_one : (faults : List NameFault) (old : NameFault) → first_in (Some old) faults ≡ None → ⊥
found_one [] old h = absurd (cc)
found_one (x ∷ xs) old h = either (nat_le old.at x.at) old x xs (found_one xs old) (found_one xs x) h

pub none_first : (faults : List NameFault) → first_in None faults ≡ None → faults ≡ []
none_first [] h = refl
none_first (x ∷ xs) h = absurd (found_one xs x h)
