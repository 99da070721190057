-- Rows by the table of their numbers, and words of rows on the list of positions.
use Rattle.std.proofs.Common.{arith, ◌≡◌, ◌+◌, ◌-◌, ◌*◌, ◌/◌, ◌<◌, ◌≤◌, ◌⊎◌, ℕ, zero, suc, Bool, List, length, slice_get, Some, sym, ap, subst, ◌∙◌}
use Rattle.std.proofs.lemmas.Option.{slice_get_within}
use Rattle.ir_module.specs.declared.op.Op.{Op}
use Rattle.ir_module.specs.declared.module.Module.{Module}
use Rattle.ir_module.specs.Calls.{inner_callee, is_open}
use Rattle.ir_uses.specs.declared.use_lists.Uses.{Uses}
use Rattle.ir_uses.specs.Uses.{AreUsesOf}
use Rattle.facts.specs.declared.pos.Pos.TheVariants as pos
use Rattle.facts.specs.Bodies.{is_body, rank, body_count}
use Rattle.positions.specs.Numbering.{Numbered, IsListed}
use Rattle.rule_says.specs.Reading.{IsNumbering}
use Rattle.rule_terms.specs.System.{System}
use Rattle.rule_says.specs.Meeting.{Meets}
use Rattle.rule_says.proofs.Mets.{meets_then, meets_iff}
use Rattle.aa_reach.proofs.Calls.{inner_is_body}
use Rattle.aa_reach.specs.Reached.{AsksReach, SpeaksReach}
use Rattle.aa_reach.specs.Asked.{AreRanks, AsksRows, SpeaksRows, AsksOutside, SpeaksOutside}
use Rattle.aa_reach.proofs.Ranked.{rank_zero, rank_next, at_most_one}
use Rattle.aa_reach.proofs.Whole.{body_there, asks_down, asks_up, speaks_down, speaks_up}

module _ (m : Module) (ranks : List ℕ) (are : AreRanks m ranks) where
  pub ranked : (f r : ℕ) → f ≤ length m.funcs → slice_get ranks f ≡ Some r → r ≡ rank m f
  ranked f r l e = let here = are f l in cc

  pub rank_within : (f : ℕ) → f ≤ length m.funcs → f < length ranks
  rank_within f l = slice_get_within ranks f (rank m f) (are f l)

-- the last row, as it was read of a slice of the table
pub last_row : (m : Module) (ranks slice : List ℕ) (n r : ℕ) → AreRanks m ranks → slice ≡ ranks → n ≡ length m.funcs → slice_get slice n ≡ Some r →
    r ≡ body_count m
last_row m ranks slice n r are same end e =
    ranked m ranks are n r (omega (arith, end)) (subst (λ xs. slice_get xs n ≡ Some r) same e) ∙ ap (rank m) end

-- a callee is one of the functions
pub callee_within : (m : Module) (o : Op) (h : ℕ) → inner_callee m o ≡ Some h → h < length m.funcs
callee_within m o h e = let func = body_there m h (inner_is_body m o h e) in slice_get_within m.funcs h func.0 func.1

-- no function's row stands behind that of the outside
pub rank_le : (m : Module) (d f : ℕ) → f + d ≡ length m.funcs → rank m f ≤ body_count m
rank_le m zero f e = let end : f ≡ length m.funcs = omega (arith, e) in subst (λ n. rank m f ≤ rank m n) end (omega arith)
rank_le m (suc d) f e =
    let next = rank_next m f (omega (arith, e)) in
    let rest = rank_le m d (f + 1) (omega (arith, e)) in
    omega (arith, next, rest)

pub row_low : (m : Module) (f : ℕ) → f ≤ length m.funcs → rank m f ≤ body_count m
row_low m f l = rank_le m (length m.funcs - f) f (omega (arith, l))

-- no more bodies stand before a function than functions do
pub rank_small : (m : Module) (f : ℕ) → f ≤ length m.funcs → rank m f ≤ f
rank_small m zero l = let none = rank_zero m in omega (arith, none)
rank_small m (suc f) l =
    let rest = rank_small m f (omega (arith, l)) in
    let next = rank_next m f (omega (arith, l)) in
    let one = at_most_one (is_body m f) in
    let step : suc f ≡ f + 1 = omega arith in
    subst (λ n. rank m n ≤ n) (sym step) (omega (arith, rest, next, one))

-- a word of a row is one of the positions
pub row_listed : (m : Module) (ps : Numbered) → IsNumbering m ps → (row k : ℕ) → row ≤ body_count m → k * 47 < body_count m → IsListed ps (pos.Reach row k)
row_listed m ps is row k low within = is.positions.all (pos.Reach row k) (low, within)

-- ---- words of a row

pub words_within : (bodies words k : ℕ) → words ≡ (bodies + 46) / 47 → k < words → k * 47 < bodies
words_within bodies words k is l = omega (arith, is, l)

pub words_enough : (bodies words k : ℕ) → words ≡ (bodies + 46) / 47 → k * 47 < bodies → k < words
words_enough bodies words k is l = omega (arith, is, l)

-- the rows of bodies, and then that of the outside
pub all_met : (m : Module) (ps : Numbered) (n : ℕ) → ((k : ℕ) → k * 47 < body_count m → k < n) → (a b c : System) →
    Meets m ps a b (AsksRows m n) (SpeaksRows m n) → Meets m ps b c (AsksOutside m n) (SpeaksOutside m n) → Meets m ps a c (AsksReach m) (SpeaksReach m)
all_met m ps n enough a b c rows outside =
    meets_iff m ps a c (λ held p bit. AsksRows m n held p bit × AsksOutside m n held p bit) (AsksReach m) (λ p y. SpeaksRows m n p y ⊎ SpeaksOutside
    m n p y) (SpeaksReach m)
    (meets_then m ps a b c (AsksRows m n) (AsksOutside m n) (SpeaksRows m n) (SpeaksOutside m n) rows outside)
    (λ held p bit. (asks_down m n enough held p bit, asks_up m n enough held p bit))
    (λ p y. (speaks_down m n enough p y, speaks_up m n enough p y))

-- what the use lists tell of a function
pub open_is : (m : Module) (u : Uses) → AreUsesOf m u → (f : ℕ) (r : Bool) → f < length m.funcs → slice_get u.bodies f ≡ Some r → r ≡ is_open m f
open_is m u are f r l e = let here = are.bodies f l in cc
