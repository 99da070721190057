-- What the names of a list of things stand for, the things being in the order of the text.
use Rattle.std.specs.Prelude.{ℕ, ◌+◌, ◌/◌, ◌%◌, max, Bool, not, List, [], ◌∷◌, ◌++◌, Option, None, Some, if◌then◌else◌, ◌==◌, slice_index}
use Rattle.std.specs.Option.{is_some}
use Rattle.ir_names.specs.Ids.{numeral}
use Rattle.ir_scopes.specs.declared.slot.Kind.{Kind}
use Rattle.ir_scopes.specs.declared.slot.Kind.TheVariants as kind
use Rattle.ir_scopes.specs.declared.slot.Entry.{Entry}
use Rattle.ir_scopes.specs.declared.slot.Entry.TheVariants as entry
use Rattle.ir_scopes.specs.declared.slot.Slot.{Slot}
use Rattle.ir_scopes.specs.declared.slot.Counts.{Counts}
use Rattle.ir_scopes.specs.declared.faults.Cause.TheVariants.{Twice}
use Rattle.ir_scopes.specs.declared.faults.NameFault.{NameFault}
use Rattle.ir_scopes.specs.Faults.{fault_unless}

-- the number of the name of a thing: of the one that is written, or else of the number that the counter has
abbrev pub name_in : List ℕ → ℕ → Option ℕ → ℕ
name_in ids counter None = numeral counter
name_in ids counter (Some at) = slice_index ids at

-- the counter behind a name: a name that is a number leaves it above that number
abbrev pub behind : ℕ → ℕ → ℕ
behind counter id = if id % 2 == 0 then max counter (id / 2 + 1) else counter

-- what the next thing of a kind is known by
abbrev pub entry_of : Counts → Kind → Entry
entry_of c kind.Value = entry.Value (record { 0 = c.values })
entry_of c kind.Block = entry.Block (record { 0 = c.blocks })
entry_of c kind.Global = entry.Global (record { 0 = c.globals })
entry_of c kind.Func = entry.Func (record { 0 = c.funcs })
entry_of c kind.Type = entry.Type (record { 0 = c.types })
entry_of c kind.Group = entry.Group c.groups

abbrev pub one_more : ℕ → ℕ
one_more count = count + 1

-- the counts with one more thing of a kind
abbrev pub raised : Kind → Counts → Counts
raised kind.Value c = record c { values = one_more c.values }
raised kind.Block c = record c { blocks = one_more c.blocks }
raised kind.Global c = record c { globals = one_more c.globals }
raised kind.Func c = record c { funcs = one_more c.funcs }
raised kind.Type c = record c { types = one_more c.types }
raised kind.Group c = record c { groups = one_more c.groups }

-- the counts behind a thing of a kind with a name
abbrev pub counted_as : Counts → Kind → ℕ → Counts
counted_as c k id = record (raised k c) { counter = behind c.counter id }

abbrev pub counted : List ℕ → Counts → Slot → Counts
counted ids c s = counted_as c s.kind (name_in ids c.counter s.written)

abbrev pub all_counted : List ℕ → Counts → List Slot → Counts
all_counted ids c [] = c
all_counted ids c (s ∷ ss) = all_counted ids (counted ids c s) ss

-- what is defined under which name, in the order of the text
abbrev pub definitions : List ℕ → Counts → List Slot → List (ℕ × Entry)
definitions ids c [] = []
definitions ids c (s ∷ ss) = (name_in ids c.counter s.written, entry_of c s.kind) ∷ definitions ids (counted ids c s) ss

-- the first thing that is defined under a name
abbrev pub find : List (ℕ × Entry) → ℕ → Option Entry
find [] id = None
find (d ∷ ds) id = if d.0 == id then Some d.1 else find ds id

-- a name that is known already, and is written for another thing
abbrev pub twice : Bool → Option ℕ → List NameFault
twice known None = []
twice known (Some at) = fault_unless (not known) Twice at

-- the second definitions, where those things are defined before
abbrev pub repeats : List ℕ → List (ℕ × Entry) → Counts → List Slot → List NameFault
repeats ids before c [] = []
repeats ids before c (s ∷ ss) =
    twice (is_some (find before (name_in ids c.counter s.written))) s.written
    ++ repeats ids (before ++ (name_in ids c.counter s.written, entry_of c s.kind) ∷ []) (counted ids c s) ss
