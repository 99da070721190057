-- What words may be closed, and when they are closed already.
use Rattle.std.specs.Prelude.{◌≡◌, ℕ, List, All}
use Rattle.attr_ids.specs.declared.status.WorkerEnd.{WorkerEnd}
use Rattle.attr_ids.specs.declared.status.WorkerEnd.TheVariants.{Done}
use Rattle.rule_terms.specs.System.{System}
use Rattle.rule_terms.specs.Greatest.{IsGreatest}

-- every worker came to its end
abbrev pub AreDone : List WorkerEnd → Type 0
AreDone ends = All (λ end. end ≡ Done) ends

-- where every worker came to its end, the words are the greatest list
abbrev pub AreClosedBy : System → List WorkerEnd → List ℕ → Type 0
AreClosedBy s ends words = AreDone ends → IsGreatest s words
