-- What a seat's memory has of its view, after each event.
use Rattle.std.proofs.Common.{◌≡◌, ℕ, zero, suc, ◌+◌, ◌*◌, ◌%◌, ◌^◌, ◌<◌, false, if◌then◌else◌, List, [], ◌∷◌, length, set, replicate, Option, Some, None, refl}
use Rattle.std.proofs.Common.{ap, sym, ◌∙◌, subst, arith}
use Rattle.std.proofs.Math.Pow.{pow-lt}
use Rattle.attr_ids.specs.declared.ids.PosId.{PosId}
use Rattle.lattice_words.specs.declared.word.TheConstants.{DIRTY}
use Rattle.rule_terms.specs.Slots.{input_at}
use Rattle.rule_terms.specs.System.{System, inputs_of}
use Rattle.fix_core.specs.declared.state.CoreSeat.{CoreSeat}
use Rattle.fix_core.specs.declared.state.CoreMode.TheVariants.{Idle, Open}
use Rattle.fix_core.specs.Machine.{is_clean, values_of, owing, after_take}
use Rattle.word_rule.specs.declared.view.Key.{Key}
use Rattle.word_rule.specs.Plays.{Mine, Becomes, Looks, look_of, inputs_at}
use Rattle.word_rule.proofs.Rooms.{place_open, system_is}
use Rattle.word_rule.specs.Views.{system_of, opened, looked_in, owed_in}
use Rattle.word_rule.specs.Seats.{place_in}

pub no_values : (n : ℕ) → values_of (replicate n None) ≡ replicate n 0
no_values zero = refl
no_values (suc n) = ap (λ xs. 0 ∷ xs) (no_values n)

pub values_set : (looked : List (Option ℕ)) (i x : ℕ) → values_of (set looked i (Some x)) ≡ set (values_of looked) i x
values_set [] i x = refl
values_set (None ∷ looked) zero x = refl
values_set (Some y ∷ looked) zero x = refl
values_set (None ∷ looked) (suc i) x = ap (λ ys. 0 ∷ ys) (values_set looked i x)
values_set (Some y ∷ looked) (suc i) x = ap (λ ys. y ∷ ys) (values_set looked i x)

-- the mode of a seat that took a dirty word up
pub takes_up : (s : System) (p : PosId) (word : ℕ) (seat : CoreSeat) → is_clean word ≡ false →
    (after_take s p word seat).mode ≡ Open p (replicate (length (inputs_of s p.0)) None)
takes_up s p word seat dirty = ap (λ b. if b then Idle else Open p (replicate (length (inputs_of s p.0)) None)) dirty

-- a seat that owes a list, or none
pub owing_owed : (list : List PosId) → owed_in (owing list) ≡ list
owing_owed [] = refl
owing_owed (d ∷ ds) = refl

pub owing_closed : (list : List PosId) → place_in (owing list) ≡ None
owing_closed [] = refl
owing_closed (d ∷ ds) = refl

pub owing_looked : (list : List PosId) → looked_in (owing list) ≡ []
owing_looked [] = refl
owing_looked (d ∷ ds) = refl

-- a seat that looked at an input by its number
pub looked_became : (k : Key) (s : System) (old new : Mine) (i word : ℕ) (place : Option PosId) (p : PosId) (list : List PosId) → old.0.about ≡ Some k →
    k.system.value ≡ s → place ≡ Some p → place ≡ place_in old.0.core.mode →
    old.0.core.mode ≡ Open (opened old.0.core.mode) (looked_in old.0.core.mode) → i < length (inputs_of s (opened old.0.core.mode).0) → list ≡ inputs_of s p.0 →
    Looks (input_at list i).0 old word new → Becomes old word (look_of old.0 i word) new
looked_became k s old new i word place p list is system some_place kept mode l are looks =
    let at : p ≡ opened old.0.core.mode = place_open old.0.core.mode place p some_place kept mode in
    let same : system_of old.0.about ≡ s = system_is k old.0.about s is system in
    let inputs : inputs_at old.0 ≡ list = (λ j. inputs_of (same j) (sym at j).0) ∙ sym are in
    looks.seat i (subst (λ (x : System). i < length (inputs_of x (opened old.0.core.mode).0)) (sym same) l) (ap (λ (ps : List PosId). (input_at ps i).0) inputs)

-- the seat's own bit, as the code has it
pub own_bit : (n m : ℕ) → n ≡ m → n < 16 → (1 * 2 ^ (DIRTY + n)) % 18446744073709551616 ≡ 2 ^ (DIRTY + m)
own_bit n m is few =
    let small : 2 ^ (DIRTY + n) < 2 ^ 64 = (let l : DIRTY + n < 64 = omega arith in pow-lt l) in
    let same : 2 ^ (DIRTY + n) ≡ 2 ^ (DIRTY + m) = ap (λ x. 2 ^ (DIRTY + x)) is in
    own (2 ^ (DIRTY + n)) small ∙ same where
      own : (x : ℕ) → x < 18446744073709551616 → (1 * x) % 18446744073709551616 ≡ x
      own x l = omega arith
