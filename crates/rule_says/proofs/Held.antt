-- Which facts words hold: the bits of the words of positions, which are bits of masks where the words are legal.
use Rattle.std.proofs.Common.{arith, ◌≡◌, ◌+◌, ◌-◌, ◌*◌, ◌<◌, ◌≤◌, ◌^◌, ◌==◌, ◌&&◌, ◌||◌, ◌⊎◌, ◌↔◌, not, nat_lt, nat_le, if◌then◌else◌, ℕ, zero, suc, Bool}
use Rattle.std.proofs.Common.{true, false, List, [], ◌∷◌, length, map, slice_get, slice_index, Option, None, Some, refl, sym, ap, subst, ◌∙◌, inl, inr, bit_and}
use Rattle.std.proofs.Common.{eq-eqb, eqb-true}
use Rattle.std.specs.Int.{bit_at}
use Rattle.std.specs.Option.{option_map}
use Rattle.std.proofs.lemmas.Bool.{and_parts, or_cases, cases_lt, ltb-true, leb-true, both_ways}
use Rattle.std.proofs.lemmas.Option.{slice_get_within, slice_get-map, get_or_from_slice_get}
use Rattle.std.proofs.lemmas.Nat.Bits.{bit_at-lt, bit_at_above, bit_at_and, bit_at-zero}
use Rattle.lattice_words.specs.Words.{has_bit, bit_of, word_of, IsWithin}
use Rattle.lattice_words.proofs.WordBits.{bit_at-word_of, word_of-lt}
use Rattle.lattice_words.specs.declared.word.TheConstants.{FACT_BITS}
use Rattle.ir_module.specs.declared.module.Func.{Func}
use Rattle.ir_module.specs.declared.module.ValueInfo.{ValueInfo}
use Rattle.ir_module.specs.declared.module.Module.{Module}
use Rattle.facts.specs.declared.pos.Pos.{Pos}
use Rattle.facts.specs.declared.pos.Pos.TheVariants as pos
use Rattle.facts.specs.Bodies.{is_body, body_count, is_pointer, is_void, param_of, param_count}
use Rattle.facts.specs.Facts.{Fact, fact}
use Rattle.facts.specs.Masks.{is_built, is_same_bit, is_bit_up_to, is_value_bit, is_return_bit, is_pointer_param, has_bit_of, is_bit, mask_of}
use Rattle.positions.specs.Numbering.{Numbered, IsListed}
use Rattle.positions.proofs.Speaking.{bits_of}
use Rattle.rule_says.specs.Reading.{is_pos, number_from, has_at, held_in, AreLegal, IsNumbering}
use Rattle.rule_says.specs.Saying.{IsSet}

-- ---- positions that are the same

clash : {A : Type 0} → false ≡ true → A
clash e = absurd (cc)

pub pos_is : (p q : Pos) → is_pos p q ≡ true → p ≡ q
pos_is (pos.Segment a) (pos.Segment b) e = ap (λ n. pos.Segment (record { 0 = n })) (eqb-true a.0 b.0 e)
pos_is (pos.Function a) (pos.Function b) e = ap (λ n. pos.Function (record { 0 = n })) (eqb-true a.0 b.0 e)
pos_is (pos.Value a) (pos.Value b) e = ap (λ n. pos.Value (record { 0 = n })) (eqb-true a.0 b.0 e)
pos_is (pos.Entry a i) (pos.Entry b j) e =
    let w = and_parts (a.0 == b.0) (i == j) e in
    ap (λ n. pos.Entry (record { 0 = n }) i) (eqb-true a.0 b.0 w.0) ∙ ap (λ n. pos.Entry b n) (eqb-true i j w.1)
pos_is (pos.Return a) (pos.Return b) e = ap (λ n. pos.Return (record { 0 = n })) (eqb-true a.0 b.0 e)
pos_is (pos.Reach a i) (pos.Reach b j) e =
    let w = and_parts (a == b) (i == j) e in
    ap (λ n. pos.Reach n i) (eqb-true a b w.0) ∙ ap (λ n. pos.Reach b n) (eqb-true i j w.1)
pos_is (pos.Effect a) (pos.Effect b) e = ap (λ n. pos.Effect (record { 0 = n })) (eqb-true a.0 b.0 e)
pos_is (pos.Segment a) _ e = clash e
pos_is (pos.Function a) _ e = clash e
pos_is (pos.Value a) _ e = clash e
pos_is (pos.Entry a i) _ e = clash e
pos_is (pos.Return a) _ e = clash e
pos_is (pos.Reach a i) _ e = clash e
pos_is (pos.Effect a) _ e = clash e

twice : (a b : Bool) → a ≡ true → b ≡ true → (a && b) ≡ true
twice true b e d = d
twice false b e d = e

pub pos_itself : (p : Pos) → is_pos p p ≡ true
pos_itself (pos.Segment a) = eq-eqb a.0 a.0 refl
pos_itself (pos.Function a) = eq-eqb a.0 a.0 refl
pos_itself (pos.Value a) = eq-eqb a.0 a.0 refl
pos_itself (pos.Entry a i) = twice (a.0 == a.0) (i == i) (eq-eqb a.0 a.0 refl) (eq-eqb i i refl)
pos_itself (pos.Return a) = eq-eqb a.0 a.0 refl
pos_itself (pos.Reach a i) = twice (a == a) (i == i) (eq-eqb a a refl) (eq-eqb i i refl)
pos_itself (pos.Effect a) = eq-eqb a.0 a.0 refl

-- ---- numbers on a list

abbrev FoundFrom : Pos → ℕ → List Pos → Option ℕ → Type 0
FoundFrom p n qs o = (i : ℕ) × (o ≡ Some (n + i)) × (slice_get qs i ≡ Some p)

-- a position on the list has a number there
found_from : (p : Pos) (qs : List Pos) (n k : ℕ) → slice_get qs k ≡ Some p → FoundFrom p n qs (number_from p n qs)
found_from p [] n k e = absurd (cc)
found_from p (q ∷ qs) n k e = by (is_pos p q) refl k e (λ j f. found_from p qs (n + 1) j f)
  where
    here : q ≡ p → FoundFrom p n (q ∷ qs) (Some n)
    here same = (0, ap Some (omega arith), ap Some same)

    later : FoundFrom p (n + 1) qs (number_from p (n + 1) qs) → FoundFrom p n (q ∷ qs) (number_from p (n + 1) qs)
    later w = (suc w.0, w.1 ∙ ap Some (omega arith), w.2)

    by : (b : Bool) → is_pos p q ≡ b → (k : ℕ) → slice_get (q ∷ qs) k ≡ Some p →
        ((j : ℕ) → slice_get qs j ≡ Some p → FoundFrom p (n + 1) qs (number_from p (n + 1) qs)) →
        FoundFrom p n (q ∷ qs) (if b then Some n else number_from p (n + 1) qs)
    by true e k f rest = here (sym (pos_is p q e))
    by false e (suc k) f rest = later (rest k f)
    by false e zero f rest = absurd (both_ways (is_pos p q) e (subst (λ r. is_pos p r ≡ true) (let same : p ≡ q = cc in same) (pos_itself p)))

-- and what has a number is on the list
from_found : (p : Pos) (qs : List Pos) (n j : ℕ) → number_from p n qs ≡ Some j → (i : ℕ) × (j ≡ n + i) × (slice_get qs i ≡ Some p)
from_found p [] n j e = absurd (cc)
from_found p (q ∷ qs) n j e = by (is_pos p q) refl e (λ f. from_found p qs (n + 1) j f)
  where
    by : (b : Bool) → is_pos p q ≡ b → (if b then Some n else number_from p (n + 1) qs) ≡ Some j →
        (number_from p (n + 1) qs ≡ Some j → (i : ℕ) × (j ≡ (n + 1) + i) × (slice_get qs i ≡ Some p)) →
        (i : ℕ) × (j ≡ n + i) × (slice_get (q ∷ qs) i ≡ Some p)
    by true e f rest = (0, (let same : n ≡ j = cc in omega (arith, same)), ap Some (sym (pos_is p q e)))
    by false e f rest = let w = rest f in (suc w.0, (let d = w.1 in omega (arith, d)), w.2)

-- ---- the bits of masks

pub set_bit : (w bit : ℕ) → has_bit w bit ≡ true → IsSet w bit
set_bit w bit e = eqb-true (bit_at w bit) 1 e

pub bit_set : (w bit : ℕ) → IsSet w bit → has_bit w bit ≡ true
bit_set w bit e = eq-eqb (bit_at w bit) 1 e

same_small : (params bit : ℕ) → is_same_bit params bit ≡ true → bit < FACT_BITS
same_small params bit e = let small = ltb-true bit 16 (and_parts (nat_lt bit 16) (nat_lt bit params) e).0 in omega (arith, small)

up_to_small : (last : ℕ) (pointer : Bool) (params bit : ℕ) → last < FACT_BITS → is_bit_up_to last pointer params bit ≡ true → bit < FACT_BITS
up_to_small last true params bit l e =
    let small = leb-true bit last (and_parts (nat_le bit last) (is_same_bit params bit || nat_le 16 bit) e).0 in omega (arith, small, l)
up_to_small last false params bit l e = same_small params bit e

value_small : (m : Module) (bit : ℕ) (o : Option ValueInfo) → is_value_bit m bit o ≡ true → bit < FACT_BITS
value_small m bit None e = clash e
value_small m bit (Some info) e =
    up_to_small (FACT_BITS - 1) (is_pointer m info.ty) (param_count m info.func.0) bit (omega arith)
    (and_parts (is_body m info.func.0) (is_bit_up_to (FACT_BITS - 1) (is_pointer m info.ty) (param_count m info.func.0) bit) e).1

return_small : (m : Module) (f bit : ℕ) (o : Option Func) → is_return_bit m f bit o ≡ true → bit < FACT_BITS
return_small m f bit None e = clash e
return_small m f bit (Some func) e =
    up_to_small 42 (is_pointer m func.ret) (length func.params) bit (omega arith)
    (and_parts (not (is_void m func.ret)) (is_bit_up_to 42 (is_pointer m func.ret) (length func.params) bit)
    (and_parts (is_body m f) (not (is_void m func.ret) && is_bit_up_to 42 (is_pointer m func.ret) (length func.params) bit) e).1).1

-- each bit of a position is one of those for facts
pub bit_small : (m : Module) (p : Pos) (bit : ℕ) → has_bit_of m p bit ≡ true → bit < FACT_BITS
bit_small m (pos.Segment k) bit e = let zero = eqb-true bit 0 (and_parts (nat_lt k.0 (length m.segs)) (bit == 0) e).1 in omega (arith, zero)
bit_small m (pos.Function f) bit e = let low = leb-true bit 8 (and_parts (is_body m f.0) (nat_le bit 8) e).1 in omega (arith, low)
bit_small m (pos.Value v) bit e = value_small m bit (slice_get m.values v.0) e
bit_small m (pos.Entry f at) bit e =
    let rest = (and_parts (is_body m f.0) (is_pointer_param m (param_of m f.0 at) && (nat_le 16 bit && nat_le bit 38)) e).1 in
    let ends = (and_parts (is_pointer_param m (param_of m f.0 at)) (nat_le 16 bit && nat_le bit 38) rest).1 in
    let low = leb-true bit 38 (and_parts (nat_le 16 bit) (nat_le bit 38) ends).1 in
    omega (arith, low)
bit_small m (pos.Return f) bit e = return_small m f.0 bit (slice_get m.funcs f.0) e
bit_small m (pos.Reach row k) bit e =
    let rest = (and_parts (nat_le row (body_count m)) (nat_lt bit 47 && nat_lt (k * 47 + bit) (body_count m)) e).1 in
    let low = ltb-true bit 47 (and_parts (nat_lt bit 47) (nat_lt (k * 47 + bit) (body_count m)) rest).0 in
    omega (arith, low)
bit_small m (pos.Effect k) bit e = let low = leb-true bit 8 (and_parts (nat_lt k.0 (length m.segs)) (nat_le bit 8) e).1 in omega (arith, low)

pub is_bit_small : (m : Module) (p : Pos) (bit : ℕ) → is_bit m p bit ≡ true → bit < FACT_BITS
is_bit_small m p bit e = bit_small m p bit (and_parts (is_built p bit) (has_bit_of m p bit) e).1

test_of : (b : Bool) → bit_of b ≡ 1 → b ≡ true
test_of true e = refl
test_of false e = absurd (omega (arith, e))

-- the mask of a position has the bits that the position has
pub mask_has : (m : Module) (p : Pos) (bit : ℕ) → IsSet (mask_of m p) bit ↔ (is_bit m p bit ≡ true)
mask_has m p bit = (down, up)
  where
    up : is_bit m p bit ≡ true → IsSet (mask_of m p) bit
    up e = bit_at-word_of (is_bit m p) FACT_BITS bit (is_bit_small m p bit e) ∙ ap bit_of e

    down : IsSet (mask_of m p) bit → is_bit m p bit ≡ true
    down e = elim (cases_lt bit FACT_BITS) [
      | inl low ↦ test_of (is_bit m p bit) (sym (bit_at-word_of (is_bit m p) FACT_BITS bit low) ∙ e)
      | inr high ↦ absurd (let none = bit_at_above (mask_of m p) FACT_BITS bit (word_of-lt (is_bit m p) FACT_BITS) high in omega (arith, none, e))
    ]

-- ---- the set that words hold

module _ (m : Module) (ps : Numbered) (is : IsNumbering m ps) where
  -- what has a bit of a mask has a number
  pub listed : (p : Pos) (bit : ℕ) → is_bit m p bit ≡ true → IsListed ps p
  listed p bit e = is.positions.all p (bits_of m p bit (and_parts (is_built p bit) (has_bit_of m p bit) e).1)

  pub mask_at : (n : ℕ) (p : Pos) → slice_get ps.list n ≡ Some p → slice_index ps.masks n ≡ mask_of m p
  mask_at n p at =
      ap (λ xs. slice_index xs n) is.masks
      ∙ get_or_from_slice_get (map (mask_of m) ps.list) n (mask_of m p) 0 (slice_get-map (mask_of m) ps.list n ∙ ap (λ o. option_map (mask_of m) o) at)

  -- the mask of a number has the bits of its position
  pub mask_bits : (n : ℕ) (p : Pos) → slice_get ps.list n ≡ Some p → (bit : ℕ) → IsSet (slice_index ps.masks n) bit ↔ (is_bit m p bit ≡ true)
  mask_bits n p at bit = subst (λ w. IsSet w bit ↔ (is_bit m p bit ≡ true)) (sym (mask_at n p at)) (mask_has m p bit)

  -- the set has the bits of a position's word
  pub held_at : (word : ℕ → ℕ) (n : ℕ) (p : Pos) → slice_get ps.list n ≡ Some p → (bit : ℕ) → held_in ps word (fact p bit) ≡ has_bit (word n) bit
  unfolding held_in
  held_at word n p at bit =
      let w = found_from p ps.list 0 n at in
      let same : w.0 ≡ n = is.positions.once w.0 n p w.2 at in
      ap (has_at word bit) w.1 ∙ ap (λ k. has_bit (word k) bit) (omega (arith, same))

  -- and no others
  pub held_gives : (word : ℕ → ℕ) (x : Fact) → held_in ps word x ≡ true → (n : ℕ) × (slice_get ps.list n ≡ Some x.pos) × IsSet (word n) x.bit
  unfolding held_in
  held_gives word x e = by (number_from x.pos 0 ps.list) refl e
    where
      by : (o : Option ℕ) → number_from x.pos 0 ps.list ≡ o → has_at word x.bit o ≡ true → (n : ℕ) × (slice_get ps.list n ≡ Some x.pos) × IsSet (word n) x.bit
      by None is e = clash e
      by (Some n) is e =
          let w = from_found x.pos ps.list 0 n is in
          let same : w.0 ≡ n = (let d = w.1 in omega (arith, d)) in
          (n, subst (λ k. slice_get ps.list k ≡ Some x.pos) same w.2, set_bit (word n) x.bit e)

  pub has_at_set : (word : ℕ → ℕ) (n : ℕ) (p : Pos) → slice_get ps.list n ≡ Some p → (bit : ℕ) → IsSet (word n) bit ↔ (held_in ps word (fact p bit) ≡ true)
  has_at_set word n p at bit = (
    λ set. held_at word n p at bit ∙ bit_set (word n) bit set,
    λ held. set_bit (word n) bit (sym (held_at word n p at bit) ∙ held),
  )

  -- words within their masks hold facts of the module alone, and bits of effects
  pub legal_bit : (word : ℕ → ℕ) → AreLegal ps word → (x : Fact) → held_in ps word x ≡ true → is_bit m x.pos x.bit ≡ true
  legal_bit word legal x e =
      let w = held_gives word x e in
      elim (cases_lt x.bit 64) [
        | inl low ↦
            let less = (legal w.0).1 x.bit low in
            let set = w.2 in
            let mask : IsSet (slice_index ps.masks w.0) x.bit = omega (arith, less, set, bit_at-lt (slice_index ps.masks w.0) x.bit) in
            (mask_bits w.0 x.pos w.1 x.bit).0 mask
        | inr high ↦ absurd (let none = bit_at_above (word w.0) 64 x.bit (legal w.0).0 high in let set = w.2 in omega (arith, none, set))
      ]
