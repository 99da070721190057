-- The core machine: words of facts with a dirty bit for each seat, and seats that take words up, cut them and tell of it.
use Rattle.std.specs.Prelude.{ℕ, suc, ◌+◌, ◌-◌, ◌/◌, ◌%◌, ◌^◌, ◌<◌, ◌==◌, if◌then◌else◌, Bool, true, false, not, bit_and, bit_or, bit_xor, List, [], ◌∷◌, ◌++◌}
use Rattle.std.specs.Prelude.{length, replicate, slice_index, slice_index_or, slice_set, Option, Some, None}
use Rattle.std.specs.List.{filter, fold}
use Rattle.std.specs.Int.{bit_at}
use Rattle.attr_ids.specs.declared.ids.PosId.{PosId}
use Rattle.lattice_words.specs.declared.word.TheConstants.{DIRTY, FACT_BITS}
use Rattle.rule_terms.specs.Names.{has_name}
use Rattle.rule_terms.specs.Slots.{input_at}
use Rattle.rule_terms.specs.System.{System, inputs_of, value_at}
use Rattle.dep_graph.specs.Row.{Row}
use Rattle.dep_graph.specs.Graph.{row_at}
use Rattle.fix_core.specs.declared.state.CoreState.{CoreState}
use Rattle.fix_core.specs.declared.state.CoreSeat.{CoreSeat}
use Rattle.fix_core.specs.declared.state.CoreMode.{CoreMode}
use Rattle.fix_core.specs.declared.state.CoreMode.TheVariants.{Idle, Open, Owes}
use Rattle.fix_core.specs.declared.event.CoreEvent.{CoreEvent}
use Rattle.fix_core.specs.declared.event.CoreEvent.TheVariants.{Take, Look, Cut, Tell, Clear}

-- ---- words
-- the facts of a word: its lowest bits
abbrev pub facts_of : ℕ → ℕ
facts_of word = bit_and word (2 ^ FACT_BITS - 1)

-- the dirty bit of a seat, set or not
abbrev pub dirty_at : ℕ → ℕ → ℕ
dirty_at word w = bit_at word (DIRTY + w)

-- whether no dirty bit of a word is set
abbrev pub is_clean : ℕ → Bool
is_clean word = word / 2 ^ DIRTY == 0

-- the word with all its dirty bits unset
abbrev pub cleaned : ℕ → ℕ
cleaned word = bit_and word (2 ^ DIRTY - 1)

-- the word with the dirty bit of a seat set
abbrev pub dirtied : ℕ → ℕ → ℕ
dirtied word w = bit_or word (2 ^ (DIRTY + w))

-- the word with these facts alone left of its facts, and its other bits as they were
abbrev pub cut_to : ℕ → ℕ → ℕ
cut_to new word = bit_and word (bit_or new (2 ^ 64 - 2 ^ FACT_BITS))

-- the facts of a word that a cut to these facts takes
abbrev pub lost_by : ℕ → ℕ → ℕ
lost_by new word = bit_xor (facts_of word) (facts_of (cut_to new word))

-- ---- states
abbrev pub word_at : CoreState → ℕ → ℕ
word_at c p = slice_index c.words p

-- the facts of each position
abbrev pub facts_at : List ℕ → ℕ → ℕ
facts_at words p = facts_of (slice_index words p)

-- a seat that has done nothing yet
abbrev pub new_seat : CoreSeat
new_seat = record { mode = Idle; known = []; took = 0; told = 0 }

abbrev pub seat_at : CoreState → ℕ → CoreSeat
seat_at c w = slice_index_or c.seats w new_seat

-- the state with one word and one seat written
abbrev pub written : CoreState → ℕ → ℕ → ℕ → CoreSeat → CoreState
written c p word w seat = record { words = slice_set c.words p word; seats = slice_set c.seats w seat }

-- the state with one seat written
abbrev pub seated : CoreState → ℕ → CoreSeat → CoreState
seated c w seat = record { words = c.words; seats = slice_set c.seats w seat }

-- the state once the seat w was joined into the seat u, which takes over its counts
abbrev pub joined : CoreState → ℕ → CoreSeat → ℕ → CoreSeat → CoreState
joined c u first w other =
    seated (seated c w new_seat) u (record { mode = first.mode; known = first.known; took = first.took + other.took; told = first.told + other.told })

-- ---- what a seat looked at, and whom it owes
-- each value that was looked at, and 0 where none was
abbrev pub values_of : List (Option ℕ) → List ℕ
values_of [] = []
values_of (None ∷ looked) = 0 ∷ values_of looked
values_of (Some value ∷ looked) = value ∷ values_of looked

-- whether every input was looked at
abbrev pub has_all : List (Option ℕ) → Bool
has_all [] = true
has_all (None ∷ looked) = false
has_all (Some value ∷ looked) = has_all looked

-- the dependents that read one of these bits, in their order, where `reads` has the bits that each reads
abbrev pub readers_of : ℕ → List PosId → List ℕ → List PosId
readers_of lost [] reads = []
readers_of lost (d ∷ ds) [] = []
readers_of lost (d ∷ ds) (bits ∷ reads) = if bit_and bits lost == 0 then readers_of lost ds reads else d ∷ readers_of lost ds reads

-- the dependents of a position that are owed once it has lost these bits
abbrev pub owed_by : List Row → ℕ → ℕ → List PosId
owed_by graph p lost = readers_of lost (row_at graph p).dependents (row_at graph p).reads

-- a seat that owes these positions, or none
abbrev pub owing : List PosId → CoreMode
owing [] = Idle
owing (d ∷ ds) = Owes (d ∷ ds)

-- the list without this position
abbrev pub without : PosId → List PosId → List PosId
without d list = filter (λ q. not (d.0 == q.0)) list

-- ---- what each event does to the seat, where `word` is the word that it found
abbrev pub after_take : System → PosId → ℕ → CoreSeat → CoreSeat
after_take s p word seat = record {
  mode = if is_clean word then Idle else Open p (replicate (length (inputs_of s p.0)) None);
  known = seat.known ++ p ∷ [];
  took = if is_clean word then seat.took else seat.took + 1;
  told = seat.told;
}

abbrev pub after_look : PosId → List (Option ℕ) → ℕ → ℕ → CoreSeat → CoreSeat
after_look p looked i word seat = record { mode = Open p (slice_set looked i (Some (facts_of word))); known = seat.known; took = seat.took; told = seat.told }

abbrev pub after_cut : List Row → PosId → ℕ → ℕ → CoreSeat → CoreSeat
after_cut graph p new word seat = record { mode = owing (owed_by graph p.0 (lost_by new word)); known = seat.known; took = seat.took; told = seat.told }

abbrev pub after_tell : ℕ → PosId → List PosId → ℕ → CoreSeat → CoreSeat
after_tell w d list word seat = record {
  mode = owing (without d list);
  known = without d seat.known;
  took = seat.took;
  told = if dirty_at word w == 0 then seat.told + 1 else seat.told;
}

abbrev pub after_clear : PosId → CoreSeat → CoreSeat
after_clear p seat = record { mode = seat.mode; known = seat.known ++ p ∷ []; took = seat.took; told = seat.told }

-- ---- the events, each by the mode that its seat is in; one that is not enabled changes nothing
abbrev pub take_step : System → CoreState → ℕ → PosId → CoreMode → CoreState
take_step s c w p Idle = written c p.0 (cleaned (word_at c p.0)) w (after_take s p (word_at c p.0) (seat_at c w))
take_step s c w p (Open q looked) = c
take_step s c w p (Owes list) = c

abbrev pub look_step : System → CoreState → ℕ → ℕ → CoreMode → CoreState
look_step s c w i Idle = c
look_step s c w i (Open p looked) = seated c w (after_look p looked i (word_at c (input_at (inputs_of s p.0) i).0) (seat_at c w))
look_step s c w i (Owes list) = c

abbrev pub cut_step : System → List Row → CoreState → ℕ → CoreMode → CoreState
cut_step s graph c w Idle = c
cut_step s graph c w (Open p looked) =
    let new = value_at s p.0 (values_of looked) in
    if has_all looked then written c p.0 (cut_to new (word_at c p.0)) w (after_cut graph p new (word_at c p.0) (seat_at c w)) else c
cut_step s graph c w (Owes list) = c

abbrev pub tell_step : CoreState → ℕ → PosId → CoreMode → CoreState
tell_step c w d Idle = c
tell_step c w d (Open p looked) = c
tell_step c w d (Owes list) = if has_name list d then written c d.0 (dirtied (word_at c d.0) w) w (after_tell w d list (word_at c d.0) (seat_at c w)) else c

abbrev pub clear_step : CoreState → ℕ → PosId → CoreMode → CoreState
clear_step c w p Idle = if dirty_at (word_at c p.0) w == 0 then seated c w (after_clear p (seat_at c w)) else c
clear_step c w p (Open q looked) = c
clear_step c w p (Owes list) = c

abbrev pub step : System → List Row → CoreState → CoreEvent → CoreState
step s graph c (Take w p) = take_step s c w p (seat_at c w).mode
step s graph c (Look w i) = look_step s c w i (seat_at c w).mode
step s graph c (Cut w) = cut_step s graph c w (seat_at c w).mode
step s graph c (Tell w d) = tell_step c w d (seat_at c w).mode
step s graph c (Clear w p) = clear_step c w p (seat_at c w).mode

-- one event after another
abbrev pub run_of : System → List Row → CoreState → List CoreEvent → CoreState
run_of s graph c events = fold (step s graph) c events

-- an event of one of so many seats, at one of so many positions
abbrev pub IsEvent : ℕ → ℕ → CoreEvent → Type 0
IsEvent count workers (Take w p) = (w < workers) × (p.0 < count)
IsEvent count workers (Look w i) = w < workers
IsEvent count workers (Cut w) = w < workers
IsEvent count workers (Tell w d) = (w < workers) × (d.0 < count)
IsEvent count workers (Clear w p) = (w < workers) × (p.0 < count)

-- the words at the opening: each its mask, dirty for one seat alone
abbrev pub opening_words : ℕ → ℕ → List ℕ → List ℕ
opening_words workers p [] = []
opening_words workers p (mask ∷ masks) = dirtied mask (p % workers) ∷ opening_words workers (suc p) masks

-- the opening state for so many seats
abbrev pub opening : System → ℕ → CoreState
opening s workers = record { words = opening_words workers 0 s.masks; seats = replicate workers new_seat }
