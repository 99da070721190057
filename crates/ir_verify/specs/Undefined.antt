-- Uses of a module that are not defined on every path.
use Rattle.std.specs.Prelude.{◌≡◌, ℕ, List, Option, None, Some, nat_lt, if◌then◌else◌}
use Rattle.attr_ids.specs.declared.ids.BlockId.{BlockId}
use Rattle.ir_module.specs.declared.module.Module.{Module}
use Rattle.ir_paths.specs.Results.{ResultUse, IsResultUse}
use Rattle.ir_paths.specs.Lacking.{AreDefined, AreDefinedBefore, LacksOn}
use Rattle.ir_verify.specs.declared.paths.Undefined.{Undefined}

-- the path is the first of the shortest that lack the definition of a use at this offset
pub record LacksAt (m : Module) (at : ℕ) (path : List BlockId) : Type 0 where
  pub f : ℕ
  pub u : ResultUse
  pub is_use : IsResultUse m f u
  pub is_at : u.written.at ≡ at
  pub lacks : LacksOn m f path u

-- the one of two that is written first
abbrev pub earlier : Option Undefined → Option Undefined → Option Undefined
earlier None b = b
earlier (Some a) None = Some a
earlier (Some a) (Some b) = if nat_lt b.at a.at then Some b else Some a

-- of the functions with P all uses are defined, or one is not, and those that are written before it are
abbrev pub AreJudged : Module → (ℕ → Type 0) → Option Undefined → Type 0
AreJudged m P None = (f : ℕ) → P f → AreDefined m f
AreJudged m P (Some u) = LacksAt m u.at u.path × ((f : ℕ) → P f → AreDefinedBefore m f u.at)
