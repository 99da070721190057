-- A list of insertions that is walked once fits a text.
use Rattle.std.proofs.Common.{◌≡◌, ℕ, ◌+◌, ◌-◌, ◌<◌, ◌≤◌, List, [], ◌∷◌, ◌++◌, length, take, get_or, sym, ◌∙◌, ap, subst, arith}
use Rattle.std.proofs.lemmas.List.{take_more, take_all}
use Rattle.std.proofs.lemmas.List.Elements.{All-nil, All-push, All-weaker}
use Rattle.std.proofs.lemmas.List.Sorted.{IsNonDecreasingBy-push, IsNonDecreasingBy-short}
use Rattle.std.specs.List.{All}
use Rattle.attr_ids.specs.declared.insertion.Insertion.{Insertion}
use Rattle.weave.specs.Woven.{OffsetsRise}

-- insertions whose offsets rise to at most the last and stay within a length
pub record IsFit (size last : ℕ) (insertions : List Insertion) : Type 0 where
  pub rising : OffsetsRise insertions
  pub below : All (λ x. x.at ≤ last) insertions
  pub within : All (λ x. x.at ≤ size) insertions

pub fit_none : (size last : ℕ) → IsFit size last []
fit_none size last = record {
  rising = IsNonDecreasingBy-short (λ x. x.at) [] (omega arith);
  below = All-nil (λ x. x.at ≤ last);
  within = All-nil (λ x. x.at ≤ size);
}

pub fit_more : {size last : ℕ} (insertions : List Insertion) (index : ℕ) {x : Insertion} → IsFit size last (take index insertions) → index < length insertions →
    x ≡ get_or insertions index x → last ≤ x.at → x.at ≤ size → IsFit size x.at (take (index + 1) insertions)
fit_more {size} {last} insertions index {x} fit here read rises inside =
    let front : List Insertion = take index insertions in
    let more : front ++ x ∷ [] ≡ take (index + 1) insertions =
    ap (λ y. front ++ y ∷ []) read ∙ sym (take_more insertions index x here) in
    let next : IsFit size x.at (front ++ x ∷ []) = record {
      rising = IsNonDecreasingBy-push (λ y. y.at) front x fit.rising
          (λ d some. let lower : (get_or front (length front - 1) d).at ≤ last = fit.below (length front - 1) d (omega arith) in omega arith);
      below = All-push (λ y. y.at ≤ x.at) front x (All-weaker (λ y. y.at ≤ last) (λ y. y.at ≤ x.at) (λ y le. omega arith) front fit.below) (omega arith);
      within = All-push (λ y. y.at ≤ size) front x fit.within inside;
    } in
    subst (λ (xs : List Insertion). IsFit size x.at xs) more next

pub fit_all : {size last : ℕ} (insertions : List Insertion) (index : ℕ) → IsFit size last (take index insertions) → length insertions ≤ index →
    IsFit size last insertions
fit_all {size} {last} insertions index fit past = subst (λ (xs : List Insertion). IsFit size last xs) (take_all index insertions past) fit
