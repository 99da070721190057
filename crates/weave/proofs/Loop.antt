-- The loop of `weave`: what it keeps, and its step.
use Rattle.std.proofs.Common.{◌≡◌, ℕ, Option, ◌+◌, ◌-◌, ◌<◌, ◌≤◌, List, [], ◌∷◌, ◌++◌, length, take, drop, get_or, refl, sym, ◌∙◌, ap, subst, arith}
use Rattle.std.proofs.Common.{append_assoc}
use Rattle.std.proofs.lemmas.List.{drop_more, drop_all, take_rest}
use Rattle.std.proofs.lemmas.List.Elements.{All-head, All-drop}
use Rattle.std.proofs.lemmas.List.Sorted.{IsNonDecreasingBy-drop}
use Rattle.std.specs.List.{All, slice_get}
use Rattle.attr_ids.specs.declared.insertion.Insertion.{Insertion}
use Rattle.weave.specs.Woven.{spelled, spelled_in, byte_before, woven_from, OffsetsRise, Woven}
use Rattle.weave.proofs.Steps.{woven_from-next, woven_from-nil, rise-head}

-- the insertions before an index are in, with the text up to an offset before all others
pub record IsWovenSoFar (text : List ℕ) (insertions : List Insertion) (woven : List ℕ) (index copied : ℕ) : Type 0 where
  pub within : copied ≤ length text
  pub ahead : All (λ x. copied ≤ x.at) (drop index insertions)
  pub so_far : woven ++ woven_from text (drop index insertions) copied (drop copied text) ≡ woven_from text insertions 0 text

-- what the loop reads at an index
pub record IsNext (text : List ℕ) (insertions : List Insertion) (index copied : ℕ) (x : Insertion) : Type 0 where
  pub rest_is : drop index insertions ≡ x ∷ drop (index + 1) insertions
  pub after : copied ≤ x.at
  pub inside : x.at ≤ length text
  pub later : All (λ y. x.at ≤ y.at) (drop (index + 1) insertions)

pub next_is : {text : List ℕ} {insertions : List Insertion} {woven : List ℕ} {index copied : ℕ} {items : List Insertion} {x : Insertion} →
    OffsetsRise insertions → All (λ y. y.at ≤ length text) insertions →
    IsWovenSoFar text insertions woven index copied → items ≡ insertions → index < length items → x ≡ get_or items index x →
    IsNext text insertions index copied x
next_is {text} {insertions} {woven} {index} {copied} {items} {x} rising within so_far same here_in read_in =
    let here : index < length insertions = omega (arith, ap length same) in
    let read : x ≡ get_or insertions index x = cc in
    let rest_is : drop index insertions ≡ x ∷ drop (index + 1) insertions =
    drop_more insertions index x here ∙ ap (λ y. y ∷ drop (index + 1) insertions) (sym read) in
    record {
      rest_is = rest_is;
      after = All-head (λ y. copied ≤ y.at) x (drop (index + 1) insertions) (subst (λ (ys : List Insertion). All (λ y. copied ≤ y.at) ys) rest_is so_far.ahead);
      inside = All-head (λ y. y.at ≤ length text) x (drop (index + 1) insertions)
          (subst (λ (ys : List Insertion). All (λ y. y.at ≤ length text) ys) rest_is (All-drop (λ y. y.at ≤ length text) index insertions within));
      later = rise-head x (drop (index + 1) insertions)
          (subst (λ (ys : List Insertion). OffsetsRise ys) rest_is (IsNonDecreasingBy-drop (λ y. y.at) index insertions rising));
    }

pub woven_more : {text : List ℕ} {insertions : List Insertion} {woven : List ℕ} {index copied : ℕ} {x : Insertion} →
    IsWovenSoFar text insertions woven index copied → IsNext text insertions index copied x →
    IsWovenSoFar text insertions ((woven ++ take (x.at - copied) (drop copied text)) ++ spelled_in text x) (index + 1) x.at
woven_more {text} {insertions} {woven} {index} {copied} {x} so_far next =
    let part : List ℕ = take (x.at - copied) (drop copied text) in
    let rest : List Insertion = drop (index + 1) insertions in
    let step : woven_from text (drop index insertions) copied (drop copied text) ≡ (part ++ spelled_in text x) ++ woven_from text rest x.at (drop x.at text) =
    rw next.rest_is (woven_from-next text copied x rest next.after next.inside next.later) in
    record {
      within = next.inside;
      ahead = next.later;
      so_far = simp append_assoc
          (simp append_assoc at (ap (λ t. woven ++ t) (sym step)) ∙ so_far.so_far);
    }

-- the step, by what the calls of the loop's body say
pub woven_spelled : {text : List ℕ} {insertions : List Insertion} {woven part new : List ℕ} {index copied : ℕ} {x : Insertion} {before next : Option ℕ} →
    IsWovenSoFar text insertions woven index copied → IsNext text insertions index copied x →
    part ≡ woven ++ take (x.at - copied) (drop copied text) → before ≡ byte_before text x.at → next ≡ slice_get text x.at →
    new ≡ part ++ spelled x before next →
    IsWovenSoFar text insertions new (index + 1) x.at
woven_spelled {text} {insertions} {woven} {part} {new} {index} {copied} {x} {before} {next} so_far is_next part_is before_is next_is new_is =
    let same : (woven ++ take (x.at - copied) (drop copied text)) ++ spelled_in text x ≡ new = cc in
    subst (λ (out : List ℕ). IsWovenSoFar text insertions out (index + 1) x.at) same (woven_more so_far is_next)

-- at the start nothing is woven
pub woven_none : (text : List ℕ) (insertions : List Insertion) → IsWovenSoFar text insertions [] 0 0
woven_none text insertions = record { within = omega arith; ahead = λ k d l. omega arith; so_far = refl }

-- at the end the rest of the text follows
pub woven_all : {text : List ℕ} {insertions items : List Insertion} {woven out new : List ℕ} {index copied : ℕ} →
    IsWovenSoFar text insertions woven index copied →
    items ≡ insertions → length items ≤ index → new ≡ woven ++ take (length text - copied) (drop copied text) → out ≡ new → Woven text insertions out
woven_all {text} {insertions} {items} {woven} {out} {new} {index} {copied} so_far same past new_is out_is =
    let none : drop index insertions ≡ [] = drop_all index insertions (omega (arith, ap length same)) in
    let bare : woven_from text (drop index insertions) copied (drop copied text) ≡ drop copied text = rw none (woven_from-nil text (drop copied text) copied) in
    let rest_is : take (length text - copied) (drop copied text) ≡ drop copied text = take_rest text copied in
    let whole : woven ++ woven_from text (drop index insertions) copied (drop copied text) ≡ woven_from text insertions 0 text = so_far.so_far in
    cc
