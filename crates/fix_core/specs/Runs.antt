-- From which states events can be run.
use Rattle.std.specs.Prelude.{◌≡◌, ℕ, ◌+◌, ◌^◌, ◌<◌, ◌≤◌, length}
use Rattle.rule_terms.specs.System.{System, inputs_of}
use Rattle.fix_core.specs.declared.state.CoreState.{CoreState}
use Rattle.fix_core.specs.declared.state.CoreMode.{CoreMode}
use Rattle.fix_core.specs.declared.state.CoreMode.TheVariants.{Idle, Open, Owes}
use Rattle.fix_core.specs.Invariant.{EachSeat}

-- an open seat has a position of the system, and one looked value or none for each of its inputs
abbrev pub IsPlaced : System → CoreMode → Type 0
IsPlaced s Idle = Unit {0}
IsPlaced s (Open p looked) = (p.0 < length s.masks) × (length looked ≡ length (inputs_of s p.0))
IsPlaced s (Owes list) = Unit {0}

-- so many events can be run from the state
pub record CanRun (s : System) (c : CoreState) (events : ℕ) : Type 0 where
  pub words : length c.words ≡ length s.masks
  pub seats : length c.seats ≤ 16
  pub modes : EachSeat (λ w seat. IsPlaced s seat.mode) c.seats
  pub took : EachSeat (λ w seat. seat.took + events < 2 ^ 64) c.seats
  pub told : EachSeat (λ w seat. seat.told + events < 2 ^ 64) c.seats
