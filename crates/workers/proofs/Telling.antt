-- Telling the positions that a seat owes.
use Rattle.std.proofs.Common.{◌≡◌, ℕ, ◌<◌, List, length, Option, Some, slice_get, Contains, unwrap_or, ap, sym, ◌∙◌, arith}
use Rattle.std.proofs.lemmas.Option.{slice_get_within, unwrap_or-slice_get}
use Rattle.attr_ids.specs.declared.ids.PosId.{PosId}
use Rattle.fix_core.specs.declared.state.CoreSeat.{CoreSeat}
use Rattle.fix_core.specs.Machine.{without, after_tell}
use Rattle.fix_core.proofs.Paying.{without_fewer}
use Rattle.word_rule.specs.declared.seat.WorkerSeat.{WorkerSeat}
use Rattle.word_rule.specs.declared.words.LatticeWords.{LatticeWords}
use Rattle.word_rule.specs.Views.{owed_in}
use Rattle.word_rule.specs.Belongs.{core_of, IsSeatOf}
use Rattle.word_rule.proofs.Remembering.{owing_owed}
use Rattle.word_rule.proofs.Rooms.{inside_of}
use Rattle.workers.specs.Workers.{count_in}

pub first_owed : (list : List PosId) (d : PosId) → slice_get list 0 ≡ Some d → Contains list d
first_owed list d is = (0, slice_get_within list 0 d is, sym (unwrap_or-slice_get list 0 d) ∙ ap (λ (o : Option PosId). unwrap_or o d) is)

-- what is owed is a position of the table
pub owed_inside : (words : LatticeWords) (seat : WorkerSeat) (d : PosId) → IsSeatOf words seat → Contains (owed_in (core_of seat).mode) d → d.0 < count_in words
owed_inside words seat d of has = inside_of words.table.shared.key seat.seat.me.0.about words.system.now d.0 of.1 words.about_system (seat.debts d has)

-- and less is owed once it is told
pub owes_less : (w : ℕ) (d : PosId) (word : ℕ) (old new : CoreSeat) → Contains (owed_in old.mode) d → new ≡ after_tell w d (owed_in old.mode) word old →
    length (owed_in new.mode) < length (owed_in old.mode)
owes_less w d word old new has is =
    let fewer = without_fewer d (owed_in old.mode) has in
    let owed : owed_in new.mode ≡ without d (owed_in old.mode) = ap (λ (c : CoreSeat). owed_in c.mode) is ∙ owing_owed (without d (owed_in old.mode)) in
    omega (arith, fewer, ap length owed)
