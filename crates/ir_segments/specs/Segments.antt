-- Instructions cut into segments: each call ends one.
use Rattle.std.specs.Prelude.{◌≡◌, Bool, true, false, if◌then◌else◌, List, [], ◌∷◌, ◌++◌, map, All}
use Rattle.std.specs.Option.{is_some}
use Rattle.attr_ids.specs.declared.ids.BlockId.{BlockId}
use Rattle.ir_module.specs.declared.module.Seg.{Seg}
use Rattle.ir_module.specs.declared.op.Op.{Op}
use Rattle.ir_module.specs.declared.op.Instr.{Instr}
use Rattle.ir_module.specs.Calls.{call_of}

-- the instruction is a call, which ends a segment
abbrev pub ends_op : Op → Bool
ends_op o = is_some (call_of o)

abbrev pub ends : Instr → Bool
ends i = ends_op i.op

module _ {X : Type 0} (last : X → Bool) where
  -- a thing before some runs: it stands in the first of them, or is a run of its own where it ends one
  abbrev pub in_front : X → List (List X) → List (List X)
  in_front x [] = (x ∷ []) ∷ []
  in_front x (run ∷ runs) = if last x then (x ∷ []) ∷ run ∷ runs else (x ∷ run) ∷ runs

  -- things cut behind each that ends a run
  abbrev pub cut : List X → List (List X)
  cut [] = []
  cut (x ∷ xs) = in_front x (cut xs)

  -- one thing or more, of which the last alone may end a run
  abbrev pub IsRun : List X → Type 0
  IsRun [] = ⊥
  IsRun (x ∷ []) = Unit {0}
  IsRun (x ∷ y ∷ run) = (last x ≡ false) × IsRun (y ∷ run)

  -- the run's last thing ends it
  abbrev pub IsEnded : List X → Type 0
  IsEnded [] = ⊥
  IsEnded (x ∷ []) = last x ≡ true
  IsEnded (x ∷ y ∷ run) = IsEnded (y ∷ run)

  -- runs, each of which but the last is ended
  abbrev pub AreRuns : List (List X) → Type 0
  AreRuns [] = Unit {0}
  AreRuns (run ∷ []) = IsRun run
  AreRuns (run ∷ next ∷ runs) = IsRun run × IsEnded run × AreRuns (next ∷ runs)

abbrev pub seg : BlockId → List Instr → Seg
seg b is = record { block = b; instrs = is }

-- behind these segments the instructions that were taken are cut into those that are done and the open one, whatever follows
pub record IsCut (b : BlockId) (old : List Seg) (taken : List Instr) (segs : List Seg) (run : List Instr) : Type 0 where
  pub plain : All (λ i. ends i ≡ false) run
  pub goes_on : (rest : List Instr) → old ++ map (seg b) (cut ends (taken ++ rest)) ≡ segs ++ map (seg b) (cut ends (run ++ rest))
