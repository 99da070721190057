-- What the printing takes: a module with its positions, and a word for each.
use Rattle.std.specs.Prelude.{◌≡◌, ◌<◌, ℕ, Bool, true, length, slice_index, MatchOption, Option}
use Rattle.attr_ids.specs.declared.ids.FuncId.{FuncId}
use Rattle.ir_module.specs.declared.module.Module.{Module}
use Rattle.ir_module.specs.WellFormed.{IsWellFormed}
use Rattle.facts.specs.Facts.{Fact}
use Rattle.facts.specs.Bodies.{is_body, param_count}
use Rattle.positions.specs.Numbering.{AreOf}
use Rattle.rule_says.specs.Reading.{facts_in}
use Rattle.manifest.specs.declared.held.Held.{Held}

-- the module is well formed, its functions have at most 255 parameters, these are its positions, and each has a word
pub record IsReady (held : Held) : Type 0 where
  pub formed : IsWellFormed held.m.now
  pub few_params : (f : ℕ) → param_count held.m.now f < 256
  pub positions : AreOf held.m.now held.positions.now
  pub words : length held.words.now ≡ length held.positions.now.list

-- the facts that are held
abbrev pub set_of : Held → Fact → Bool
set_of held = facts_in held.positions.now (slice_index held.words.now)

-- the function, if there is one, is a body
abbrev pub IsBodyIf : Module → Option FuncId → Type 0
IsBodyIf m callee = MatchOption callee (Unit {0}) (λ g. is_body m g.0 ≡ true)
