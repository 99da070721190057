-- Marks of values: which values came into a call as one of its arguments.
use Rattle.std.proofs.Common.{◌≡◌, ℕ, zero, suc, ◌++◌, List, [], ◌∷◌, slice_get, Some, refl, sym, subst, ◌⊎◌, inl, inr}
use Rattle.shelf.proofs.Every.{every_at}
use Rattle.ir_machine.specs.declared.choice.Mark.{Mark}
use Rattle.ir_machine.specs.declared.choice.Value.{Value}
use Rattle.ir_machine.specs.Values.{marked}
use Rattle.ir_machine.specs.Frames.{Begun}
use Rattle.ir_machine.specs.Valid.{Scope, IsMarkKnown, Known}
use Rattle.ir_machine.proofs.Carried.{IsCarried}

-- a mark of call c at argument j
abbrev pub mark : ℕ → ℕ → Mark
mark c j = record { call = c; param = j }

-- the origins have the mark
abbrev pub Marked : ℕ → ℕ → List Mark → Type 0
Marked c j origins = (k : ℕ) × (slice_get origins k ≡ Some (mark c j))

-- the value has the mark
abbrev pub Has : ℕ → ℕ → Value → Type 0
Has c j x = Marked c j x.origins

-- each mark of y is one of x
abbrev pub HasMarksOf : Value → Value → Type 0
HasMarksOf y x = (c j : ℕ) → Has c j y → Has c j x

pub unmarked : (c j : ℕ) (origins : List Mark) → origins ≡ [] → Marked c j origins → ⊥
unmarked c j origins none (k, at) = empty k (subst (λ o. slice_get o k ≡ Some (mark c j)) none at)
  where
    empty : (k : ℕ) → slice_get [] k ≡ Some (mark c j) → ⊥
    empty k e = absurd (cc)

-- values with the same origins have the same marks
pub same_origins : (y x : Value) → x.origins ≡ y.origins → HasMarksOf y x
same_origins y x e c j has = subst (Marked c j) (sym e) has

front_stays : (xs ys : List Mark) (k : ℕ) (a : Mark) → slice_get xs k ≡ Some a → slice_get (xs ++ ys) k ≡ Some a
front_stays [] ys k a e = absurd (cc)
front_stays (x ∷ xs) ys zero a e = e
front_stays (x ∷ xs) ys (suc k) a e = front_stays xs ys k a e

last_stands : (xs : List Mark) (a : Mark) → (k : ℕ) × (slice_get (xs ++ (a ∷ [])) k ≡ Some a)
last_stands [] a = (0, refl)
last_stands (x ∷ xs) a = let later = last_stands xs a in (suc later.0, later.1)

stands_or_last : (xs : List Mark) (b : Mark) (k : ℕ) (a : Mark) → slice_get (xs ++ (b ∷ [])) k ≡ Some a → ((j : ℕ) × (slice_get xs j ≡ Some a)) ⊎ (b ≡ a)
stands_or_last [] b zero a e = inr (cc)
stands_or_last [] b (suc k) a e = absurd (cc)
stands_or_last (x ∷ xs) b zero a e = inl (0, e)
stands_or_last (x ∷ xs) b (suc k) a e =
    elim (stands_or_last xs b k a e) [
      | inl found ↦ inl (suc found.0, found.1)
      | inr is ↦ inr is
    ]

-- a value keeps its marks with one more
pub marked_keeps : (k : Mark) (x : Value) → HasMarksOf x (marked k x)
marked_keeps k x c j (i, at) = (i, front_stays x.origins (k ∷ []) i (mark c j) at)

pub marked_has : (c j : ℕ) (x : Value) → Has c j (marked (mark c j) x)
marked_has c j x = last_stands x.origins (mark c j)

-- and has no others
pub marked_back : (k : Mark) (x : Value) (c j : ℕ) → Has c j (marked k x) → Has c j x ⊎ (k ≡ mark c j)
marked_back k x c j (i, at) = stands_or_last x.origins k i (mark c j) at

-- a value of the frame of a call, that has the mark, came in as an argument that has it, and has the marks of that argument
pub record IsFrom (call : Begun) (c j : ℕ) (y : Value) : Type 0 where
  pub at : ℕ
  pub argument : Value
  pub passed : slice_get call.passed at ≡ Some argument
  pub has : Has c j argument
  pub own : Has call.number at y
  pub marks : HasMarksOf argument y

-- what has its marks too came in so as well
pub from_more : (call : Begun) (c j : ℕ) (y x : Value) → HasMarksOf y x → IsFrom call c j y → IsFrom call c j x
from_more call c j y x more is = record {
  at = is.at;
  argument = is.argument;
  passed = is.passed;
  has = is.has;
  own = more call.number is.at is.own;
  marks = λ d i has. more d i (is.marks d i has);
}

-- a value without the mark, and one that came in so: facts that are carried with origins
pub lacks_carried : (count c j : ℕ) → IsCarried count (λ x. Has c j x → ⊥)
lacks_carried count c j = record {
  bare = λ x bare. unmarked c j x.origins bare.origins;
  block = λ b o low. unmarked c j [] refl;
  moved = λ x d lacks same. lacks;
}

-- each mark of a known value is of a call that has begun, and older than it if it is a pointer
pub mark_known : (s : Scope) (x : Value) (c j : ℕ) → Known s x → Has c j x → IsMarkKnown s x.datum (mark c j)
mark_known s x c j known (k, at) = every_at (IsMarkKnown s x.datum) x.origins k (mark c j) known.1 at
