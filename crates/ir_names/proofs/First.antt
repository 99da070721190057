-- The first place at which a name is written, as more names come.
use Rattle.std.proofs.Common.{◌≡◌, ℕ, zero, suc, ◌+◌, ◌<◌, Bool, true, false, cond, List, [], ◌∷◌, ◌++◌, length, get_or, Some, None, refl, sym, ap, ◌∙◌, arith}
use Rattle.std.specs.Prelude.{Option}
use Rattle.std.specs.List.{position_from, slice_get}
use Rattle.std.specs.Str.{bytes_eq}
use Rattle.std.proofs.lemmas.Slice.Eq.{bytes_eq-Decides}
use Rattle.ir_token.specs.Names.{Name}
use Rattle.ir_token.specs.Names.Name.{Bytes as Spelled}
use Rattle.ir_names.specs.Ids.{reads_as, first_place}

chosen : (b : Bool) (i k : ℕ) (r s : Option ℕ) → (r ≡ Some k → s ≡ Some k) → cond b (Some i) r ≡ Some k → cond b (Some i) s ≡ Some k
chosen true i k r s further h = h
chosen false i k r s further h = further h

passed : (b : Bool) (i : ℕ) (r : Option ℕ) → cond b (Some i) r ≡ None → (b ≡ false) × (r ≡ None)
passed true i r h = absurd (cc)
passed false i r h = (refl, h)

module _ {X : Type 0} (p : X → Bool) where
  -- what was found stays found
  pub found_stays : (xs ys : List X) (i k : ℕ) → position_from p i xs ≡ Some k → position_from p i (xs ++ ys) ≡ Some k
  found_stays [] ys i k h = absurd (cc)
  found_stays (x ∷ xs) ys i k h = chosen (p x) i k (position_from p (i + 1) xs) (position_from p (i + 1) (xs ++ ys)) (found_stays xs ys (i + 1) k) h

  -- where none was found, the search goes on behind
  pub found_behind : (xs ys : List X) (i : ℕ) → position_from p i xs ≡ None → position_from p i (xs ++ ys) ≡ position_from p (i + length xs) ys
  found_behind [] ys i h = ap (λ k. position_from p k ys) (omega arith)
  found_behind (x ∷ xs) ys i h =
      let by = passed (p x) i (position_from p (i + 1) xs) h in
      ap (λ b. cond b (Some i) (position_from p (i + 1) (xs ++ ys))) by.0 ∙ found_behind xs ys (i + 1) by.1
      ∙ ap (λ k. position_from p k ys) (omega arith)

  one_of : (b : Bool) (i k : ℕ) (r : Option ℕ) (P : Type 0) → (r ≡ Some k → P) → (b ≡ true → i ≡ k → P) → cond b (Some i) r ≡ Some k → P
  one_of true i k r P further here h = here refl (cc)
  one_of false i k r P further here h = further h

  -- what is found passes, and stands in the list
  pub found_passes : (xs : List X) (d : X) (i k : ℕ) → position_from p i xs ≡ Some k → (j : ℕ) × (k ≡ i + j) × (j < length xs) × (p (get_or xs j d) ≡ true)
  found_passes [] d i k h = absurd (cc)
  found_passes (x ∷ xs) d i k h = one_of (p x) i k (position_from p (i + 1) xs) _
      (λ e. let rest = found_passes xs d (i + 1) k e in (suc rest.0, omega arith, omega arith, rest.3))
      (λ b e. (0, omega arith, omega arith, b)) h

  first_of : (b : Bool) (i : ℕ) (r : Option ℕ) → (b ≡ false → (k : ℕ) × (r ≡ Some k)) → (k : ℕ) × (cond b (Some i) r ≡ Some k)
  first_of true i r h = (i, refl)
  first_of false i r h = h refl

  -- what passes is found
  pub passes_found : (xs : List X) (x : X) (i j : ℕ) → slice_get xs j ≡ Some x → p x ≡ true → (k : ℕ) × (position_from p i xs ≡ Some k)
  passes_found [] x i j at pass = absurd (cc)
  passes_found (y ∷ ys) x i zero at pass =
      let same : y ≡ x = cc in
      (i, ap (λ b. cond b (Some i) (position_from p (i + 1) ys)) (ap p same ∙ pass))
  passes_found (y ∷ ys) x i (suc j) at pass = first_of (p y) i (position_from p (i + 1) ys) (λ _. passes_found ys x (i + 1) j at pass)

reads_one : (b : Bool) (i : ℕ) → b ≡ true → cond b (Some i) None ≡ Some i
reads_one true i h = refl
reads_one false i h = absurd (cc)

reads_self : (w : List ℕ) → bytes_eq w w ≡ true
reads_self w = (bytes_eq-Decides w w).1 refl

-- bytes that are new stand first where they are written
pub new_place : (w : List ℕ) (before rest : List (Option Name)) → first_place w before ≡ None →
    first_place w (before ++ Some (Spelled w) ∷ rest) ≡ Some (length before)
new_place w before rest none = found_behind (reads_as w) before (Some (Spelled w) ∷ rest) 0 none
    ∙ ap (λ b. cond b (Some (0 + length before)) (position_from (reads_as w) (0 + length before + 1) rest)) (reads_self w)
    ∙ ap (λ n. Some n) (omega arith)

-- what a place is after a name that is not these bytes
other_place : (q : List ℕ) (before : List (Option Name)) (x : Option Name) (o : Option ℕ) → first_place q before ≡ o → (o ≡ None → reads_as q x ≡ false) →
    first_place q (before ++ x ∷ []) ≡ o
other_place q before x (Some k) is off = found_stays (reads_as q) before (x ∷ []) 0 k is
other_place q before x None is off = found_behind (reads_as q) before (x ∷ []) 0 is ∙ ap (λ b. cond b (Some (0 + length before)) None) (off refl)

-- a name that is no bytes changes no place
pub unread_place : (q : List ℕ) (before : List (Option Name)) (x : Option Name) → reads_as q x ≡ false → first_place q (before ++ x ∷ []) ≡ first_place q before
unread_place q before x off = other_place q before x (first_place q before) refl (λ _. off)

not_equal : (q w : List ℕ) (b : Bool) → bytes_eq q w ≡ b → (q ≡ w → ⊥) → b ≡ false
not_equal q w true is off = absurd (off ((bytes_eq-Decides q w).0 is))
not_equal q w false is off = refl

-- bytes that stand there already change no place
pub old_place : (q w : List ℕ) (before : List (Option Name)) (k : ℕ) → first_place w before ≡ Some k →
    first_place q (before ++ Some (Spelled w) ∷ []) ≡ first_place q before
old_place q w before k there = other_place q before (Some (Spelled w)) (first_place q before) refl
    (λ none. not_equal q w (bytes_eq q w) refl (λ same. let two = ap (λ v. first_place v before) same in cc))

added : (q w : List ℕ) (before : List (Option Name)) (b : Bool) (t : Option ℕ) → bytes_eq w q ≡ b → first_place w before ≡ None →
    t ≡ cond b (Some (length before)) (first_place q before) →
    t ≡ first_place q (before ++ Some (Spelled w) ∷ [])
added q w before true t same none is =
    let one : w ≡ q = (bytes_eq-Decides w q).0 same in
    is ∙ sym (new_place w before [] none) ∙ ap (λ v. first_place v (before ++ Some (Spelled w) ∷ [])) one
added q w before false t same none is = is ∙ sym (other_place q before (Some (Spelled w)) (first_place q before) refl
    (λ _. not_equal q w (bytes_eq q w) refl (λ e. let two = (bytes_eq-Decides w q).1 (sym e) in cc)))

-- a table that takes new bytes at their place
pub new_known : (q w : List ℕ) (before : List (Option Name)) (at : ℕ) (t : Option ℕ) → length before ≡ at → first_place w before ≡ None →
    t ≡ cond (bytes_eq w q) (Some at) (first_place q before) → t ≡ first_place q (before ++ Some (Spelled w) ∷ [])
new_known q w before at t here none is =
    added q w before (bytes_eq w q) t refl none (is ∙ ap (λ n. cond (bytes_eq w q) (Some n) (first_place q before)) (sym here))
