-- Looking at the inputs of the open position, one after another.
use Rattle.std.proofs.Common.{◌≡◌, ℕ, zero, suc, ◌+◌, ◌<◌, true, List, [], ◌∷◌, length, set, take, Option, Some, None, refl, ap, sym, ◌∙◌, subst, arith}
use Rattle.std.proofs.Common.{add-one}
use Rattle.std.proofs.lemmas.Bool.{false≢true}
use Rattle.std.proofs.lemmas.List.{length-set}
use Rattle.attr_ids.specs.declared.ids.PosId.{PosId}
use Rattle.rule_terms.specs.System.{System, inputs_of}
use Rattle.fix_core.specs.declared.state.CoreSeat.{CoreSeat}
use Rattle.fix_core.specs.declared.state.CoreMode.TheVariants.{Open}
use Rattle.fix_core.specs.Machine.{facts_of, has_all, after_look}
use Rattle.word_rule.specs.Views.{opened, looked_in}
use Rattle.word_rule.specs.Belongs.{IsOpen}
use Rattle.workers.specs.Workers.{HasOpen}

-- ---- the open position
pub opened_is : (s : System) (p : PosId) (seat : CoreSeat) → HasOpen s p seat → opened seat.mode ≡ p
opened_is s p seat has = ap opened has.mode

pub is_open : (s : System) (p : PosId) (seat : CoreSeat) → HasOpen s p seat → IsOpen seat.mode
is_open s p seat has = has.mode ∙ ap (λ (q : PosId). Open q (looked_in seat.mode)) (sym (opened_is s p seat has))

pub input_inside : (s : System) (p : PosId) (seat : CoreSeat) (i : ℕ) → HasOpen s p seat → i < length (inputs_of s p.0) →
    i < length (inputs_of s (opened seat.mode).0)
input_inside s p seat i has l = subst (λ (q : PosId). i < length (inputs_of s q.0)) (sym (opened_is s p seat has)) l

-- ---- one look
looked_is : (p : PosId) (looked : List (Option ℕ)) (i word : ℕ) (old new : CoreSeat) → new ≡ after_look p looked i word old →
    looked_in new.mode ≡ set looked i (Some (facts_of word))
looked_is p looked i word old new is = ap (λ (c : CoreSeat). looked_in c.mode) is

pub stays_open : (s : System) (p : PosId) (old new : CoreSeat) (i word : ℕ) → HasOpen s p old →
    new ≡ after_look (opened old.mode) (looked_in old.mode) i word old → HasOpen s p new
stays_open s p old new i word has is =
    let looked : looked_in new.mode ≡ set (looked_in old.mode) i (Some (facts_of word)) = looked_is (opened old.mode) (looked_in old.mode) i word old new is in
    let mode : new.mode ≡ Open (opened old.mode) (set (looked_in old.mode) i (Some (facts_of word))) = ap (λ (c : CoreSeat). c.mode) is in record {
      mode = mode ∙ (λ j. Open (opened_is s p old has j) (sym looked j));
      long = ap length looked ∙ length-set (looked_in old.mode) i (Some (facts_of word)) ∙ has.long;
    }

all_more : (looked : List (Option ℕ)) (i x : ℕ) → i < length looked → has_all (take i looked) ≡ true → has_all (take (suc i) (set looked i (Some x))) ≡ true
all_more [] i x l is = absurd (omega (arith, l))
all_more (o ∷ looked) zero x l is = refl
all_more (None ∷ looked) (suc i) x l is = absurd (false≢true is)
all_more (Some y ∷ looked) (suc i) x l is = all_more looked i x (omega (arith, l)) is

-- with one input more looked at, the values of one more are there
pub looks_more : (s : System) (p : PosId) (old new : CoreSeat) (i word : ℕ) → HasOpen s p old → i < length (inputs_of s p.0) →
    new ≡ after_look (opened old.mode) (looked_in old.mode) i word old →
    has_all (take i (looked_in old.mode)) ≡ true → has_all (take (i + 1) (looked_in new.mode)) ≡ true
looks_more s p old new i word has l is before =
    ap (λ (n : ℕ). has_all (take n (looked_in new.mode))) (add-one i) ∙
    ap (λ (xs : List (Option ℕ)). has_all (take (suc i) xs)) (looked_is (opened old.mode) (looked_in old.mode) i word old new is) ∙
    all_more (looked_in old.mode) i (facts_of word) (omega (arith, l, has.long)) before

-- and at the end all are
all_there : (looked : List (Option ℕ)) → has_all (take (length looked) looked) ≡ true → has_all looked ≡ true
all_there [] is = refl
all_there (None ∷ looked) is = is
all_there (Some y ∷ looked) is = all_there looked is

pub looked_all : (s : System) (p : PosId) (seat : CoreSeat) (i : ℕ) → HasOpen s p seat → i ≡ length (inputs_of s p.0) →
    has_all (take i (looked_in seat.mode)) ≡ true → has_all (looked_in seat.mode) ≡ true
looked_all s p seat i has end is = all_there (looked_in seat.mode) (ap (λ (n : ℕ). has_all (take n (looked_in seat.mode))) (has.long ∙ sym end) ∙ is)
