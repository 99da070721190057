-- How a woven text is built: up to an insertion it is the text, and there the insertion is spelled.
use Rattle.std.proofs.Common.{◌≡◌, ◌≢◌, ℕ, zero, suc, ◌+◌, ◌-◌, ◌<◌, ◌≤◌, Option, Some, None, List, [], ◌∷◌, ◌++◌, length, take, drop, refl, sym, ◌∙◌, ap}
use Rattle.std.proofs.Common.{subst, arith, append_assoc, add-zero, eq-eqb, length-drop, length-append}
use Rattle.std.proofs.lemmas.Bool.{ne_eqb}
use Rattle.std.proofs.lemmas.List.{drop-drop, length-take-le}
use Rattle.std.proofs.lemmas.List.Elements.{All-head, All-tail, All-cons, All-weaker}
use Rattle.std.proofs.lemmas.List.Sums.{sum_by-cons}
use Rattle.std.specs.List.{All, slice_get, sum_by, flat_map}
use Rattle.attr_ids.specs.declared.insertion.Insertion.{Insertion}
use Rattle.weave.specs.Woven.{spelled_in, standing_at, put, woven_from, OffsetsRise}

-- nothing stands at an offset before all insertions
pub put-none : (text : List ℕ) (xs : List Insertion) (offset : ℕ) → All (λ x. offset < x.at) xs → put text xs offset ≡ []
put-none text [] offset later = refl
put-none text (x ∷ xs) offset later =
    let first : offset < x.at = All-head (λ y. offset < y.at) x xs later in
    let other : x.at ≢ offset = omega arith in
    rw (ne_eqb x.at offset other) (put-none text xs offset (All-tail (λ y. offset < y.at) x xs later))

-- with no insertion the text stays
pub woven_from-nil : (text rest : List ℕ) (offset : ℕ) → woven_from text [] offset rest ≡ rest
woven_from-nil text [] offset = refl
woven_from-nil text (byte ∷ rest) offset = ap (λ t. byte ∷ t) (woven_from-nil text rest (offset + 1))

module _ (text : List ℕ) where
  -- an insertion before an offset adds nothing from there on
  pub woven_from-past : (x : Insertion) (xs : List Insertion) (bytes : List ℕ) (offset : ℕ) → x.at < offset →
      woven_from text (x ∷ xs) offset bytes ≡ woven_from text xs offset bytes
  woven_from-past x xs [] offset before =
      let other : x.at ≢ offset = omega arith in rw (ne_eqb x.at offset other) refl
  woven_from-past x xs (byte ∷ rest) offset before =
      let other : x.at ≢ offset = omega arith in
      rw (ne_eqb x.at offset other) (ap (λ t. put text xs offset ++ byte ∷ t) (woven_from-past x xs rest (offset + 1) (omega arith)))

  -- an insertion at an offset is spelled before all else from there on
  pub woven_from-here : (x : Insertion) (xs : List Insertion) (bytes : List ℕ) (offset : ℕ) → x.at ≡ offset →
      woven_from text (x ∷ xs) offset bytes ≡ spelled_in text x ++ woven_from text xs offset bytes
  woven_from-here x xs [] offset here = rw (eq-eqb x.at offset here) refl
  woven_from-here x xs (byte ∷ rest) offset here =
      rw (eq-eqb x.at offset here)
      (rw (woven_from-past x xs rest (offset + 1) (omega arith))
      (append_assoc (spelled_in text x) (put text xs offset) (byte ∷ woven_from text xs (offset + 1) rest)))

  -- before all insertions the text is woven as it is
  pub woven_from-skip : (n : ℕ) (xs : List Insertion) (bytes : List ℕ) (offset : ℕ) → n ≤ length bytes → All (λ x. offset + n ≤ x.at) xs →
      woven_from text xs offset bytes ≡ take n bytes ++ woven_from text xs (offset + n) (drop n bytes)
  woven_from-skip zero xs bytes offset short later = rw (add-zero offset) refl
  woven_from-skip (suc n) xs [] offset short later = absurd (omega arith)
  woven_from-skip (suc n) xs (byte ∷ rest) offset short later =
      rw (put-none text xs offset (All-weaker (λ x. offset + suc n ≤ x.at) (λ x. offset < x.at) (λ x le. omega arith) xs later))
      (ap (λ t. byte ∷ t)
      (let e : offset + 1 + n ≡ offset + suc n = omega arith in
      subst (λ (k : ℕ). woven_from text xs (offset + 1) rest ≡ take n rest ++ woven_from text xs k (drop n rest)) e
      (woven_from-skip n xs rest (offset + 1) (omega arith)
      (All-weaker (λ x. offset + suc n ≤ x.at) (λ x. offset + 1 + n ≤ x.at) (λ x le. omega arith) xs later))))

  -- from one offset of the text to a later one before all insertions
  pub woven_from-to : (low high : ℕ) (xs : List Insertion) → low ≤ high → high ≤ length text → All (λ x. high ≤ x.at) xs →
      woven_from text xs low (drop low text) ≡ take (high - low) (drop low text) ++ woven_from text xs high (drop high text)
  woven_from-to low high xs rise within later =
      let e : low + (high - low) ≡ high = omega arith in
      let steps : woven_from text xs low (drop low text) ≡ take (high - low) (drop low text) ++ woven_from text xs (low + (high - low))
      (drop (high - low) (drop low text)) =
      woven_from-skip (high - low) xs (drop low text) low (omega (
        arith,
        length-drop low text,
      )) (All-weaker (λ x. high ≤ x.at) (λ x. low + (high - low) ≤ x.at) (λ x le. omega arith) xs later) in
      let whole : woven_from text xs low (drop low text) ≡ take (high - low) (drop low text) ++ woven_from text xs (low + (high - low))
      (drop (low + (high - low)) text) =
      rw (← drop-drop (high - low) low text) steps in
      subst (λ (k : ℕ). woven_from text xs low (drop low text) ≡ take (high - low) (drop low text) ++ woven_from text xs k (drop k text)) e whole

  -- up to an insertion before which there is none, and past it
  pub woven_from-next : (low : ℕ) (x : Insertion) (xs : List Insertion) → low ≤ x.at → x.at ≤ length text → All (λ y. x.at ≤ y.at) xs →
      woven_from text (x ∷ xs) low (drop low text) ≡ (take (x.at - low) (drop low text) ++ spelled_in text x) ++ woven_from text xs x.at (drop x.at text)
  woven_from-next low x xs rise within later =
      woven_from-to low x.at (x ∷ xs) rise within (All-cons (λ y. x.at ≤ y.at) x xs (omega arith) later)
      ∙ ap (λ t. take (x.at - low) (drop low text) ++ t) (woven_from-here x xs (drop x.at text) x.at refl)
      ∙ sym (append_assoc (take (x.at - low) (drop low text)) (spelled_in text x) (woven_from text xs x.at (drop x.at text)))

-- in a list whose offsets rise, none is below the first
pub rise-head : (x : Insertion) (xs : List Insertion) → OffsetsRise (x ∷ xs) → All (λ y. x.at ≤ y.at) xs
rise-head x xs rise = λ k d within. rise 0 (suc k) d (omega arith) (omega arith)

pub rise-tail : (x : Insertion) (xs : List Insertion) → OffsetsRise (x ∷ xs) → OffsetsRise xs
rise-tail x xs rise = λ i j d le within. rise (suc i) (suc j) d (omega arith) (omega arith)

-- the same insertions at each offset give the same woven text
pub woven_from-same : (text : List ℕ) (xs ys : List Insertion) (bytes : List ℕ) (offset : ℕ) → ((i : ℕ) → standing_at i xs ≡ standing_at i ys) →
    woven_from text xs offset bytes ≡ woven_from text ys offset bytes
woven_from-same text xs ys [] offset same = ap (λ zs. flat_map (λ x. spelled_in text x) zs) (same offset)
woven_from-same text xs ys (byte ∷ rest) offset same =
    let here : put text xs offset ≡ put text ys offset = ap (λ zs. flat_map (λ x. spelled_in text x) zs) (same offset) in
    let later : woven_from text xs (offset + 1) rest ≡ woven_from text ys (offset + 1) rest = woven_from-same text xs ys rest (offset + 1) same in
    ap (λ t. t ++ byte ∷ woven_from text xs (offset + 1) rest) here ∙ ap (λ t. put text ys offset ++ byte ∷ t) later

-- a woven text is as long as the text and what is put in
pub length-woven_from : (xs : List Insertion) (text : List ℕ) (low : ℕ) → low ≤ length text → OffsetsRise xs → All (λ x. low ≤ x.at) xs →
    All (λ x. x.at ≤ length text) xs → length (woven_from text xs low (drop low text)) ≡ (length text - low) + sum_by (λ x. length (spelled_in text x)) xs
length-woven_from [] text low short rise later within =
    omega (arith, ap length (woven_from-nil text (drop low text) low), length-drop low text)
length-woven_from (x ∷ xs) text low short rise later within =
    let after : low ≤ x.at = All-head (λ y. low ≤ y.at) x xs later in
    let inside : x.at ≤ length text = All-head (λ y. y.at ≤ length text) x xs within in
    let rest : length (woven_from text xs x.at (drop x.at text)) ≡ (length text - x.at) + sum_by (λ y. length (spelled_in text y)) xs =
    length-woven_from xs text x.at inside (rise-tail x xs rise) (rise-head x xs rise) (All-tail (λ y. y.at ≤ length text) x xs within) in
    let part : length (take (x.at - low) (drop low text)) ≡ x.at - low = length-take-le (x.at - low) (drop low text) (omega (arith, length-drop low text)) in
    let whole = simp length-append at (ap length (woven_from-next text low x xs after inside (rise-head x xs rise))) in
    omega (arith, whole, sum_by-cons (λ y. length (spelled_in text y)) x xs)
