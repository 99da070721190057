-- What a seat knows: its table, its number, and its seat of the core machine.
use Rattle.std.specs.Prelude.{ℕ, zero, suc, ◌+◌, Bool, true, ◌&&◌, List, [], ◌∷◌, length, Option, Some, None}
use Rattle.attr_ids.specs.declared.ids.PosId.{PosId}
use Rattle.rule_terms.specs.Names.{has_name}
use Rattle.rule_terms.specs.System.{System, with_masks}
use Rattle.dep_graph.specs.Row.{Row}
use Rattle.fix_core.specs.declared.state.CoreSeat.{CoreSeat}
use Rattle.fix_core.specs.declared.state.CoreMode.{CoreMode}
use Rattle.fix_core.specs.declared.state.CoreMode.TheVariants.{Idle, Open, Owes}
use Rattle.fix_core.specs.Machine.{new_seat}
use Rattle.word_rule.specs.declared.view.Key.{Key}
use Rattle.word_rule.specs.declared.view.Joined.{Joined}
use Rattle.word_rule.specs.declared.view.View.{View}

-- the position of a number
abbrev pub position : ℕ → PosId
position p = record { 0 = p }

-- the system of a table, and an empty one where there is no table
abbrev pub system_of : Option Key → System
system_of None = with_masks []
system_of (Some k) = k.system.value

-- the rows of its graph
abbrev pub rows_of : Option Key → List Row
rows_of None = []
rows_of (Some k) = k.graph.value

-- ---- a seat's mode, by its parts
-- the position that is open
abbrev pub opened : CoreMode → PosId
opened Idle = position 0
opened (Open p looked) = p
opened (Owes list) = position 0

-- what was looked at for its inputs
abbrev pub looked_in : CoreMode → List (Option ℕ)
looked_in Idle = []
looked_in (Open p looked) = looked
looked_in (Owes list) = []

-- the positions that are owed
abbrev pub owed_in : CoreMode → List PosId
owed_in Idle = []
owed_in (Open p looked) = []
owed_in (Owes list) = list

-- ---- views
-- the view of the first seat
abbrev pub first_view : Key → View
first_view k = record { about = Some k; number = 0; core = new_seat; found = 0; made = 1; joined = [] }

-- what is left to a seat that was joined away
abbrev pub spent : View
spent = record { about = None; number = 0; core = new_seat; found = 0; made = 0; joined = [] }

-- the view after a step that found this word, and left the seat of the core machine so
abbrev pub stepped_to : View → ℕ → CoreSeat → View
stepped_to v word c = record { about = v.about; number = v.number; core = c; found = word; made = v.made; joined = v.joined }

-- seat 0 once it made another seat
abbrev pub after_making : View → View
after_making v = record { about = v.about; number = v.number; core = v.core; found = v.found; made = v.made + 1; joined = v.joined }

-- the seat that it made: the next number, idle, with nothing known or counted
abbrev pub next_view : View → View
next_view v = record { about = v.about; number = v.made; core = new_seat; found = 0; made = 0; joined = [] }

-- whether the list names every position below the count
abbrev pub knows_all : ℕ → List PosId → Bool
knows_all zero known = true
knows_all (suc p) known = has_name known (position p) && knows_all p known

-- what seat 0 keeps of a seat that it takes in: its number, with a mark if it knew every position
abbrev pub joined_as : View → Joined
joined_as w = record { number = w.number; marked = knows_all (length (system_of w.about).masks) w.core.known }

-- seat 0 once it took in another seat: it adds that seat's counts to its own
abbrev pub after_joining : View → View → View
after_joining v w = record {
  about = v.about;
  number = v.number;
  core = record { mode = v.core.mode; known = v.core.known; took = v.core.took + w.core.took; told = v.core.told + w.core.told };
  found = v.found;
  made = v.made;
  joined = joined_as w ∷ v.joined;
}
