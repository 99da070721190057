-- What tests show of the seats that they step with.
use Rattle.std.proofs.Common.{◌≡◌, ℕ, Bool, true, false, if◌then◌else◌, List, [], ◌∷◌, length, replicate, set, slice_get, Some, None, Contains, ap, sym, ◌∙◌}
use Rattle.std.proofs.Common.{arith}
use Rattle.std.proofs.lemmas.Option.{none-some, same_Some}
use Rattle.attr_ids.specs.declared.ids.PosId.{PosId}
use Rattle.rule_terms.specs.System.{System, inputs_of}
use Rattle.fix_core.specs.declared.state.CoreSeat.{CoreSeat}
use Rattle.fix_core.specs.declared.state.CoreMode.{CoreMode}
use Rattle.fix_core.specs.declared.state.CoreMode.TheVariants.{Idle}
use Rattle.fix_core.specs.Machine.{is_clean, has_all, owing, facts_of, after_take, after_look, after_clear}
use Rattle.word_rule.specs.Views.{opened, looked_in, owed_in}
use Rattle.word_rule.proofs.Remembering.{takes_up}

-- a seat that took up a position without inputs has looked at all of them
pub none_left : (s : System) (p : PosId) (word : ℕ) (old new : CoreSeat) → new ≡ after_take s p word old → is_clean word ≡ false → inputs_of s p.0 ≡ [] →
    has_all (looked_in new.mode) ≡ true
none_left s p word old new is dirty none_named =
    ap (λ (c : CoreSeat). has_all (looked_in c.mode)) is ∙ ap (λ m. has_all (looked_in m)) (takes_up s p word old dirty) ∙
    ap (λ (ps : List PosId). has_all (replicate (length ps) None)) none_named

-- a seat that took a dirty word up has the position open
pub took_open : (s : System) (p : PosId) (word : ℕ) (old new : CoreSeat) → new ≡ after_take s p word old → is_clean word ≡ false → opened new.mode ≡ p
took_open s p word old new is dirty = ap (λ (c : CoreSeat). opened c.mode) is ∙ ap opened (takes_up s p word old dirty)

-- and one that then looked at its only input has looked at all
pub one_left : (s : System) (p : PosId) (word found : ℕ) (old taken new : CoreSeat) → taken ≡ after_take s p word old → is_clean word ≡ false →
    new ≡ after_look (opened taken.mode) (looked_in taken.mode) 0 found taken → length (inputs_of s p.0) ≡ 1 →
    has_all (looked_in new.mode) ≡ true
one_left s p word found old taken new is dirty then_looked one =
    let looked : looked_in taken.mode ≡ replicate 1 None = ap (λ (c : CoreSeat). looked_in c.mode) is ∙ ap looked_in (takes_up s p word old dirty) ∙
    ap (λ n. replicate n None) one in
    ap (λ (c : CoreSeat). has_all (looked_in c.mode)) then_looked ∙ ap (λ xs. has_all (set xs 0 (Some (facts_of found)))) looked

-- the first of a list stands in it
pub first_owed : (list : List PosId) (d : PosId) → Some d ≡ slice_get list 0 → Contains list d
first_owed [] d e = absurd (none-some d (sym e))
first_owed (x ∷ xs) d e = (0, (omega arith), same_Some x d (sym e))

-- a seat that owes no position is idle
pub rests : (mode : CoreMode) (list : List PosId) → mode ≡ owing list → slice_get (owed_in mode) 0 ≡ None → mode ≡ Idle
rests mode [] is none_first = is
rests mode (d ∷ ds) is none_first = absurd (none-some d (sym none_first ∙ ap (λ m. slice_get (owed_in m) 0) is))

-- a seat that saw its own dirty bit, or saw it unset, is as idle as before
pub still_idle : (p : PosId) (b : Bool) (old new : CoreSeat) → new ≡ (if b then after_clear p old else old) → old.mode ≡ Idle → new.mode ≡ Idle
still_idle p true old new is idle = ap (λ (c : CoreSeat). c.mode) is ∙ idle
still_idle p false old new is idle = ap (λ (c : CoreSeat). c.mode) is ∙ idle
