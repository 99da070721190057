-- Blocks of marks: a block without a mark of its own has no position with one.
use Rattle.std.proofs.Common.{◌≡◌, ◌≢◌, ℕ, ◌+◌, ◌*◌, ◌/◌, ◌<◌, ◌≤◌, Bool, true, false, List, length, length-set, replicate, set, slice_get, slice_index_or}
use Rattle.std.proofs.Common.{Some, ap, sym, ◌∙◌}
use Rattle.std.proofs.Common.{arith, inl, inr, subst}
use Rattle.std.proofs.lemmas.Bool.{cases_lt}
use Rattle.std.proofs.lemmas.Option.{none-some, same_Some, slice_get-get_or, slice_get_past}
use Rattle.std.proofs.Math.ListN.{length-replicate}
use Rattle.shelf.proofs.Shelf.{get_replicate, get_set}
use Rattle.why_make.specs.declared.marks.TheConstants.{BLOCK}
use Rattle.why_make.specs.Marked.{AreBlocked, AreFree}

pub blocked_all : (n : ℕ) → AreBlocked (replicate n true) (replicate (n / BLOCK + 1) true)
blocked_all n = record {
  count = length-replicate (n / BLOCK + 1) true ∙ ap (λ (k : ℕ). k / BLOCK + 1) (sym (length-replicate n true));
  free = λ b off. let no : true ≡ false = get_replicate (n / BLOCK + 1) true b false off in absurd (cc);
}

-- a mark is taken off
pub blocked_without : (marks blocks : List Bool) (p : ℕ) → AreBlocked marks blocks → AreBlocked (set marks p false) blocks
blocked_without marks blocks p are = record {
  count = are.count ∙ ap (λ (k : ℕ). k / BLOCK + 1) (sym (length-set marks p false));
  free = λ b off q l m on. elim (get_set marks p false q true on) [
    | inl here ↦ let no : false ≡ true = here.1 in absurd (cc)
    | inr other ↦ are.free b off q l m other.1
  ];
}

-- a mark is given, and its block has one
pub blocked_with : (marks blocks : List Bool) (p : ℕ) → AreBlocked marks blocks → AreBlocked (set marks p true) (set blocks (p / BLOCK) true)
blocked_with marks blocks p are = record {
  count = length-set blocks (p / BLOCK) true ∙ are.count ∙ ap (λ (k : ℕ). k / BLOCK + 1) (sym (length-set marks p true));
  free = λ b off q l m on. elim (get_set blocks (p / BLOCK) true b false off) [
    | inl here ↦ let no : true ≡ false = here.1 in absurd (cc)
    | inr block ↦ elim (get_set marks p true q true on) [
      | inl here ↦
          let low : b * BLOCK ≤ q = l in
          let high : q < b * BLOCK + BLOCK = m in
          let e : b ≡ p / BLOCK = omega (arith, here.0, low, high) in absurd (block.0 e)
      | inr other ↦ are.free b block.1 q l m other.1
    ]
  ];
}

-- a block was looked through
pub blocked_through : (marks blocks : List Bool) (b : ℕ) (any : Bool) → (any ≡ false → AreFree marks (b * BLOCK) (b * BLOCK + BLOCK)) →
    AreBlocked marks blocks →
    AreBlocked marks (set blocks b any)
blocked_through marks blocks b any free are = record {
  count = length-set blocks b any ∙ are.count;
  free = λ k off q l m. elim (get_set blocks b any k false off) [
    | inl here ↦ let e : k ≡ b = here.0 in free here.1 q (omega (arith, l, e)) (omega (arith, m, e))
    | inr other ↦ are.free k other.1 q l m
  ];
}

-- one position more has no mark
pub free_more : (marks : List Bool) (from q : ℕ) → AreFree marks from q → slice_get marks q ≢ Some true → AreFree marks from (q + 1)
free_more marks from q free not_here r l m = elim (cases_lt r q) [
  | inl before ↦ free r l before
  | inr past ↦ let last : q ≡ r = omega (arith, m, past) in subst (λ (n : ℕ). slice_get marks n ≢ Some true) last not_here
]

-- what was read as no mark is none
pub read_off : (marks : List Bool) (q : ℕ) (d : Bool) → q < length marks → slice_index_or marks q d ≡ false → slice_get marks q ≢ Some true
read_off marks q d l off on =
    let no : false ≡ true = same_Some false true (ap Some (sym off) ∙ sym (slice_get-get_or marks q d l) ∙ on) in absurd (cc)

-- past the end there is none
pub past_off : (marks : List Bool) (q : ℕ) → length marks ≤ q → slice_get marks q ≢ Some true
past_off marks q l on = none-some true (sym (slice_get_past marks q l) ∙ on)
