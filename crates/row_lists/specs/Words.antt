-- How a change through a part of a run of words comes back.
use Rattle.std.specs.Prelude.{ℕ, List, length}
use Rattle.std.specs.List.{refill}
use Rattle.std.specs.Vec.{with_items_from}
use Rattle.std.specs.Borrow.{Lends, MutBor, Fml, Array, u64}
use Rattle.row_lists.specs.declared.words.Words.{Words}
use Rattle.row_lists.specs.contracts.words.Words.{the_row}

-- the run with these words written over it from a place on
abbrev pub with_words : Words → ℕ → List ℕ → Words
with_words words from ws = record words { all = with_items_from words.all from ws }

-- what is written through r is written over the run, from a place on
abbrev pub LendsFrom : MutBor Words → ℕ → MutBor (List ℕ) → Fml
LendsFrom words from r = Lends the_row (Array u64 0) words r (with_words words.now from)

-- the same, and r reaches as many words as it began with
abbrev pub LendsPart : MutBor Words → ℕ → MutBor (List ℕ) → Fml
LendsPart words from r = Lends the_row (Array u64 0) words r (λ ws. with_words words.now from (refill (length r.now) r.now ws))
