-- The inputs of a module's system are as many as the pairs of a position and one that it names.
use Rattle.std.proofs.Common.{arith, ◌≡◌, ◌+◌, ◌<◌, ◌≤◌, ◌⊎◌, ◌==◌, eq-eqb, eqb-true, ℕ, zero, suc, true, List, [], ◌∷◌, ◌++◌, length}
use Rattle.std.proofs.Common.{map, get_or, slice_get, Some, refl, sym, ap, subst, ◌∙◌, inl, inr}
use Rattle.std.proofs.lemmas.Bool.{cases_eq, or_cases, or_left, or_right}
use Rattle.std.proofs.lemmas.List.{length-map, length-append}
use Rattle.std.proofs.lemmas.Option.{slice_get_within, slice_get-get_or, get_or_from_slice_get, slice_get-map}
use Rattle.std.specs.Option.{option_map}
use Rattle.attr_ids.specs.declared.ids.PosId.{PosId}
use Rattle.ir_module.specs.declared.module.Module.{Module}
use Rattle.facts.specs.declared.pos.Pos.{Pos}
use Rattle.facts.specs.Facts.{segment}
use Rattle.facts.specs.Names.{Names, AreNamed}
use Rattle.rule_terms.specs.System.{System, inputs_of}
use Rattle.rule_terms.specs.Names.{has_name}
use Rattle.rule_terms.proofs.Naming.{inputs-once}
use Rattle.positions.specs.Numbering.{Numbered}
use Rattle.rule_says.specs.Reading.{IsNumbering}
use Rattle.rule_says.proofs.Held.{listed}
use Rattle.module_system.specs.Filled.{AreInputs, inputs_below}

-- ---- lists without repeats

-- the list without the element at a place
abbrev dropped : {X : Type 0} → List X → ℕ → List X
dropped [] j = []
dropped (y ∷ ys) zero = ys
dropped (y ∷ ys) (suc j) = y ∷ dropped ys j

dropped-length : {X : Type 0} (ys : List X) (j : ℕ) (x : X) → slice_get ys j ≡ Some x → length ys ≡ suc (length (dropped ys j))
dropped-length [] j x e = absurd (cc)
dropped-length (y ∷ ys) zero x e = refl
dropped-length (y ∷ ys) (suc j) x e = ap suc (dropped-length ys j x e)

-- another element is still there
still_there : {X : Type 0} (ys : List X) (j k : ℕ) (x : X) → slice_get ys k ≡ Some x → (k ≡ j → ⊥) → (i : ℕ) × (slice_get (dropped ys j) i ≡ Some x)
still_there [] j k x e other = absurd (cc)
still_there (y ∷ ys) zero zero x e other = absurd (other refl)
still_there (y ∷ ys) zero (suc k) x e other = (k, e)
still_there (y ∷ ys) (suc j) zero x e other = (zero, e)
still_there (y ∷ ys) (suc j) (suc k) x e other = let w = still_there ys j k x e (λ same. other (ap suc same)) in (suc w.0, w.1)

-- a list without repeats, each of whose elements is one of another list, is no longer than that
no_longer : {X : Type 0} (xs ys : List X) → ((i j : ℕ) (x : X) → slice_get xs i ≡ Some x → slice_get xs j ≡ Some x → i ≡ j) →
    ((i : ℕ) (x : X) → slice_get xs i ≡ Some x → (k : ℕ) × (slice_get ys k ≡ Some x)) → length xs ≤ length ys
no_longer [] ys once has = omega arith
no_longer {X} (x ∷ xs) ys once has =
    let here = has zero x refl in
    let rest = no_longer xs (dropped ys here.0) later found in
    let long = dropped-length ys here.0 x here.1 in
    omega (arith, rest, long)
  where
    later : (i j : ℕ) (z : X) → slice_get xs i ≡ Some z → slice_get xs j ≡ Some z → i ≡ j
    later i j z e f = let same = once (suc i) (suc j) z e f in omega (arith, same)

    place : ℕ
    place = (has zero x refl).0

    found : (i : ℕ) (z : X) → slice_get xs i ≡ Some z → (k : ℕ) × (slice_get (dropped ys place) k ≡ Some z)
    found i z e = let w = has (suc i) z e in still_there ys place w.0 z w.1 (apart i z e w.0 w.1)
      where
        apart : (i : ℕ) (z : X) → slice_get xs i ≡ Some z → (k : ℕ) → slice_get ys k ≡ Some z → k ≡ place → ⊥
        apart i z e k at same =
            let first : slice_get ys place ≡ Some x = (has zero x refl).1 in
            let second : slice_get ys place ≡ Some z = subst (λ n. slice_get ys n ≡ Some z) same at in
            let is : z ≡ x = cc in
            let clash = once zero (suc i) x refl (subst (λ y. slice_get xs i ≡ Some y) is e) in
            omega (arith, clash)

-- an element of both lists together
parted : {X : Type 0} (xs ys : List X) (n : ℕ) (p : X) → slice_get (xs ++ ys) n ≡ Some p →
    (slice_get xs n ≡ Some p) ⊎ ((k : ℕ) × (n ≡ length xs + k) × (slice_get ys k ≡ Some p))
parted [] ys n p there = inr (n, omega arith, there)
parted (x ∷ xs) ys zero p there = inl there
parted (x ∷ xs) ys (suc n) p there = elim (parted xs ys n p there) [
  | inl left ↦ inl left
  | inr right ↦ inr (right.0, (let e = right.1 in omega (arith, e)), right.2)
]

stays : {X : Type 0} (xs ys : List X) (k : ℕ) (x : X) → slice_get xs k ≡ Some x → slice_get (xs ++ ys) k ≡ Some x
stays [] ys k x there = absurd (cc)
stays (y ∷ xs) ys zero x there = there
stays (y ∷ xs) ys (suc k) x there = stays xs ys k x there

behind : {X : Type 0} (xs ys : List X) (k n : ℕ) (x : X) → n ≡ length xs + k → slice_get ys k ≡ Some x → slice_get (xs ++ ys) n ≡ Some x
behind [] ys k n x e there = subst (λ j. slice_get ys j ≡ Some x) (omega (arith, e)) there
behind (y ∷ xs) ys k zero x e there = absurd (omega (arith, e))
behind (y ∷ xs) ys k (suc n) x e there = behind xs ys k n x (omega (arith, e)) there

-- an image comes of an element
mapped : {X Y : Type 0} (f : X → Y) (xs : List X) (i : ℕ) (y : Y) → slice_get (map f xs) i ≡ Some y → (x : X) × (slice_get xs i ≡ Some x) × (y ≡ f x)
mapped f [] i y e = absurd (cc)
mapped f (x ∷ xs) zero y e = (x, refl, (let same : f x ≡ y = cc in sym same))
mapped f (x ∷ xs) (suc i) y e = mapped f xs i y e

-- ---- named positions

-- a list has what stands at a place of it
name_at : (names : List PosId) (i : ℕ) (q : PosId) → slice_get names i ≡ Some q → has_name names q ≡ true
name_at [] i q e = absurd (cc)
name_at (r ∷ rs) zero q e = or_left (q.0 == r.0) (has_name rs q) (eq-eqb q.0 r.0 (let same : r ≡ q = cc in ap (λ (x : PosId). x.0) (sym same)))
name_at (r ∷ rs) (suc i) q e = or_right (q.0 == r.0) (has_name rs q) (name_at rs i q e)

at_name : (names : List PosId) (q : PosId) → has_name names q ≡ true → (i : ℕ) × (slice_get names i ≡ Some q)
at_name [] q e = absurd (cc)
at_name (r ∷ rs) q e = elim (or_cases (q.0 == r.0) (has_name rs q) e) [
  | inl here ↦ (zero, ap Some (ap (λ n. record { 0 = n }) (sym (eqb-true q.0 r.0 here))))
  | inr later ↦ (let w = at_name rs q later in (suc w.0, w.1))
]

-- ---- pairs

module _ (m : Module) (ps : Numbered) (is : IsNumbering m ps) (s : System) (are : AreInputs m ps s) where
  abbrev position : ℕ → Pos
  position n = get_or ps.list n (segment 0)

  abbrev pair : ℕ → PosId → Pos × Pos
  pair n q = (position n, position q.0)

  -- each position that is numbered below n beside each of its inputs
  abbrev pairs_below : ℕ → List (Pos × Pos)
  pairs_below zero = []
  pairs_below (suc n) = pairs_below n ++ map (pair n) (inputs_of s n)

  pairs-length : (n : ℕ) → length (pairs_below n) ≡ inputs_below s n
  pairs-length zero = refl
  pairs-length (suc n) =
      let rest = pairs-length n in
      let more = length-append (pairs_below n) (map (pair n) (inputs_of s n)) in
      let here = length-map (inputs_of s n) (pair n) in
      omega (arith, rest, more, here)

  -- where a pair stands
  record Stands (n i : ℕ) (x : Pos × Pos) : Type 0 where
    from : ℕ
    at : ℕ
    input : PosId
    below : from < n
    is_input : slice_get (inputs_of s from) at ≡ Some input
    is_pair : x ≡ pair from input
    place : i ≡ inputs_below s from + at

  stands : (n i : ℕ) (x : Pos × Pos) → slice_get (pairs_below n) i ≡ Some x → Stands n i x
  stands zero i x e = absurd (cc)
  stands (suc n) i x e = elim (parted (pairs_below n) (map (pair n) (inputs_of s n)) i x e) [
    | inl left ↦ (let w = stands n i x left in record {
      from = w.from;
      at = w.at;
      input = w.input;
      below = (let l = w.below in omega (arith, l));
      is_input =
          w.is_input;
      is_pair = w.is_pair;
      place = w.place;
    })
    | inr right ↦
        (let w = mapped (pair n) (inputs_of s n) right.0 x right.2 in
        let long = pairs-length n in
        let here = right.1 in
        record { from = n; at = right.0; input = w.0; below = omega arith; is_input = w.1; is_pair = w.2; place = omega (arith, here, long) })
  ]

  stands_at : (n k at : ℕ) (q : PosId) → k < n → slice_get (inputs_of s k) at ≡ Some q → slice_get (pairs_below n) (inputs_below s k + at) ≡ Some (pair k q)
  stands_at zero k at q l e = absurd (omega (arith, l))
  stands_at (suc n) k at q l e = elim (cases_eq k n) [
    | inl same ↦ subst (λ j. slice_get (inputs_of s j) at ≡ Some q →
        slice_get (pairs_below n ++ map (pair n) (inputs_of s n)) (inputs_below s j + at) ≡ Some (pair j q)) (sym same)
        (λ here. behind (pairs_below n) (map (pair n) (inputs_of s n)) at (inputs_below s n + at) (pair n q) (let long = pairs-length n in omega (arith, long))
        (slice_get-map (pair n) (inputs_of s n) at ∙ ap (option_map (pair n)) here)) e
    | inr other ↦ stays (pairs_below n) (map (pair n) (inputs_of s n)) (inputs_below s k + at) (pair k q) (stands_at n k at q (below other l) e)
  ]
    where
      below : (k ≡ n → ⊥) → k < suc n → k < n
      below other l = grind (arith, other, l)

  -- positions by their numbers
  is_position : (n : ℕ) (p : Pos) → slice_get ps.list n ≡ Some p → position n ≡ p
  is_position n p at = get_or_from_slice_get ps.list n p (segment 0) at

  there : (n : ℕ) → n < length ps.list → slice_get ps.list n ≡ Some (position n)
  there n l = slice_get-get_or ps.list n (segment 0) l

  -- each pair is named
  pairs_named : (i : ℕ) (x : Pos × Pos) → slice_get (pairs_below (length ps.list)) i ≡ Some x → Names m x.0 x.1
  pairs_named i x e =
      let w = stands (length ps.list) i x e in
      let named = (are w.from (position w.from) (there w.from w.below) w.input).0 (name_at (inputs_of s w.from) w.at w.input w.is_input) in
      subst (λ (z : Pos × Pos). Names m z.0 z.1) (sym w.is_pair) (subst (λ r. Names m (position w.from) r) (sym (is_position w.input.0 named.0 named.1))
      named.2)

  -- and none is missing
  named_pairs : (listed : (p : Pos) → (q : Pos) → Names m p q → (n : ℕ) × (k : ℕ) × (slice_get ps.list n ≡ Some p) × (slice_get ps.list k ≡ Some q)) →
      (p q : Pos) → Names m p q → (i : ℕ) × (slice_get (pairs_below (length ps.list)) i ≡ Some (p, q))
  named_pairs listed p q named =
      let w = listed p q named in
      let number : PosId = record { 0 = w.1 } in
      let input = at_name (inputs_of s w.0) number ((are w.0 p w.2 number).1 (q, w.3, named)) in
      let at = stands_at (length ps.list) w.0 input.0 number (slice_get_within ps.list w.0 p w.2) input.1 in (
        inputs_below s w.0 + input.0,
        subst (λ r. slice_get (pairs_below (length ps.list)) (inputs_below s w.0 + input.0) ≡ Some (p, r)) (is_position w.1 q w.3)
            (subst (λ r. slice_get (pairs_below (length ps.list)) (inputs_below s w.0 + input.0) ≡ Some (r, position w.1)) (is_position w.0 p w.2) at),
      )

  -- no pair stands twice
  pairs_once : (i j : ℕ) (x : Pos × Pos) → slice_get (pairs_below (length ps.list)) i ≡ Some x → slice_get (pairs_below (length ps.list)) j ≡ Some x → i ≡ j
  pairs_once i j x e f =
      let w = stands (length ps.list) i x e in
      let v = stands (length ps.list) j x f in
      let same : pair w.from w.input ≡ pair v.from v.input = sym w.is_pair ∙ v.is_pair in
      let from : w.from ≡ v.from = is.positions.once w.from v.from (position v.from) (subst (λ r. slice_get ps.list w.from ≡ Some r) (ap (λ (z : Pos ×
      Pos). z.0) same) (there w.from w.below)) (there v.from v.below) in
      let first = (are w.from (position w.from) (there w.from w.below) w.input).0 (name_at (inputs_of s w.from) w.at w.input w.is_input) in
      let second = (are v.from (position v.from) (there v.from v.below) v.input).0 (name_at (inputs_of s v.from) v.at v.input v.is_input) in
      let alike : first.0 ≡ second.0 = sym (is_position w.input.0 first.0 first.1) ∙
      (ap (λ (z : Pos × Pos). z.1) same ∙ is_position v.input.0 second.0 second.1) in
      let input : w.input.0 ≡ v.input.0 =
      is.positions.once w.input.0 v.input.0 second.0 (subst (λ r. slice_get ps.list w.input.0 ≡ Some r) alike first.1) second.1 in
      let at : w.at ≡ v.at = inputs-once s w.from w.at v.at w.input v.input w.is_input (subst (λ k. slice_get (inputs_of s k) v.at ≡ Some v.input) (sym from)
      v.is_input) input in
      let left = w.place in
      let right = v.place in
      let runs = ap (inputs_below s) from in
      omega (arith, left, right, runs, at)

  -- what is named is on the list
  both_listed : (p : Pos) → (q : Pos) → Names m p q → (n : ℕ) × (k : ℕ) × (slice_get ps.list n ≡ Some p) × (slice_get ps.list k ≡ Some q)
  both_listed p q named =
      let here = listed m ps is p named.0 named.1.0 in
      let other = listed m ps is q named.1.1 named.1.2 in
      (here.0, other.0, here.1, other.1)

  pub counted : (pairs : List (Pos × Pos)) → AreNamed m pairs → inputs_below s (length ps.list) ≡ length pairs
  counted pairs named =
      let long = pairs-length (length ps.list) in
      let less = no_longer (pairs_below (length ps.list)) pairs pairs_once (λ i x e. named.all x.0 x.1 (pairs_named i x e)) in
      let more = no_longer pairs (pairs_below (length ps.list)) named.once (λ i x e. named_pairs both_listed x.0 x.1 (named.each i x e)) in
      omega (arith, long, less, more)

  -- there is a list of all pairs
  pub some_named : (pairs : List (Pos × Pos)) × AreNamed m pairs × (length pairs ≡ inputs_below s (length ps.list))
  some_named = (
    pairs_below (length ps.list),
    record { each = pairs_named; all = named_pairs both_listed; once = pairs_once },
    pairs-length (length ps.list),
  )
