-- The end of a closed part, one byte after another.
use Rattle.std.proofs.Common.{◌≡◌, ℕ, ◌+◌, ◌<◌, ◌≤◌, Bool, true, false, not, ◌||◌, None, Some, cond, eqb, [], ◌∷◌, length, drop, ap, arith}
use Rattle.std.proofs.lemmas.List.{drop_all, drop_more}
use Rattle.std.specs.List.{slice_index}
use Rattle.ir_token.specs.Bytes.{Bytes}
use Rattle.ir_token.specs.Nesting.{then_open}
use Rattle.ir_token.specs.Texts.{closes_at}

-- a text that ends before all brackets have closed
pub closes_none : (depth : ℕ) (open_string : Bool) (b : Bytes) (i : ℕ) → length b ≤ i → closes_at depth open_string i (drop i b) ≡ None
closes_none depth open_string b i h = ap (closes_at depth open_string i) (drop_all i b h)

-- a byte within a string
pub closes_inside : (depth : ℕ) (b : Bytes) (i : ℕ) → i < length b
    → closes_at depth true i (drop i b) ≡ closes_at depth (not (eqb (slice_index b i) 34)) (i + 1) (drop (i + 1) b)
closes_inside depth b i h = ap (closes_at depth true i) (drop_more b i 0 h)

-- a quote begins a string
pub closes_quote : (depth : ℕ) (b : Bytes) (i : ℕ) → i < length b → eqb (slice_index b i) 34 ≡ true
    → closes_at depth false i (drop i b) ≡ closes_at depth true (i + 1) (drop (i + 1) b)
closes_quote depth b i h quote = let e = ap (closes_at depth false i) (drop_more b i 0 h) in grind (arith, e)

-- a `;` or a `/` stands in no closed part
pub closes_refused : (depth : ℕ) (b : Bytes) (i : ℕ) → i < length b → eqb (slice_index b i) 34 ≡ false
    → (eqb (slice_index b i) 59 || eqb (slice_index b i) 47) ≡ true
    → closes_at depth false i (drop i b) ≡ None
closes_refused depth b i h bare refused = let e = ap (closes_at depth false i) (drop_more b i 0 h) in grind (arith, e)

-- the last bracket closes
pub closes_last : (depth : ℕ) (b : Bytes) (i : ℕ) → i < length b → eqb (slice_index b i) 34 ≡ false
    → (eqb (slice_index b i) 59 || eqb (slice_index b i) 47) ≡ false
    → eqb (then_open depth (slice_index b i)) 0 ≡ true → closes_at depth false i (drop i b) ≡ Some (i + 1)
closes_last depth b i h bare kept last = let e = ap (closes_at depth false i) (drop_more b i 0 h) in grind (arith, e)

-- every other byte goes on
pub closes_on : (depth : ℕ) (b : Bytes) (i : ℕ) → i < length b → eqb (slice_index b i) 34 ≡ false
    → (eqb (slice_index b i) 59 || eqb (slice_index b i) 47) ≡ false
    → eqb (then_open depth (slice_index b i)) 0 ≡ false
    → closes_at depth false i (drop i b) ≡ closes_at (then_open depth (slice_index b i)) false (i + 1) (drop (i + 1) b)
closes_on depth b i h bare kept more = let e = ap (closes_at depth false i) (drop_more b i 0 h) in grind (arith, e)

-- a closed part has a byte from `at` on, and ends in the text
pub closes_within : (z : Bytes) (depth : ℕ) (open_string : Bool) (at e : ℕ) → closes_at depth open_string at z ≡ Some e → (at < e) × (e ≤ at + length z)
closes_within [] depth open_string at e h = absurd (cc)
closes_within (c ∷ z) depth true at e h = let rest = closes_within z depth (not (eqb c 34)) (at + 1) e h in (omega arith, omega arith)
closes_within (c ∷ z) depth false at e h = by_byte (eqb c 34) (eqb c 59 || eqb c 47) (eqb (then_open depth c) 0) (λ d t. closes_within z d t (at + 1) e) h
  where
    by_byte : (quote refused last : Bool) → ((d : ℕ) (t : Bool) → closes_at d t (at + 1) z ≡ Some e → (at + 1 < e) × (e ≤ at + 1 + length z))
        → cond quote (closes_at depth true (at + 1) z)
        (cond refused None (cond last (Some (at + 1)) (closes_at (then_open depth c) false (at + 1) z))) ≡ Some e → (at < e) × (e ≤ at + length (c ∷ z))
    by_byte true refused last rest h = let more = rest depth true h in (omega arith, omega arith)
    by_byte false true last rest h = absurd (cc)
    by_byte false false true rest h = let same : at + 1 ≡ e = cc in (omega arith, omega arith)
    by_byte false false false rest h = let more = rest (then_open depth c) false h in (omega arith, omega arith)
