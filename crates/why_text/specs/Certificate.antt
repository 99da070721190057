-- The certificate of a system.
use Rattle.std.specs.Prelude.{◌<◌, List, length, All}
use Rattle.rule_terms.specs.System.{System}
use Rattle.why_check.specs.declared.entry.Entry.{Entry}
use Rattle.why_check.specs.Judged.{IsComplete}
use Rattle.why_check.specs.Removal.{IsRemoval}
use Rattle.why_make.specs.Sweeps.{IsListOfSweeps}

-- the entries are those of the sweeps, and a complete removal: each takes facts away that the words before it do not give, and the words
-- that they leave are the greatest
pub record IsCertificate (s : System) (entries : List Entry) : Type 0 where
  pub list : IsListOfSweeps s entries
  pub removal : IsRemoval s entries
  pub complete : IsComplete s entries

-- each entry names one of these things, counted from 0
abbrev pub NamePositions : {X : Type 0} → List X → List Entry → Type 0
NamePositions xs entries = All (λ (entry : Entry). entry.p.0 < length xs) entries
