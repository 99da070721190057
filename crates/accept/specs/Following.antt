-- What is told of a list of tokens that was refused, and what follows from a module that keeps the rules.
use Rattle.std.specs.Prelude.{◌≡◌, ◌<◌, List, ℕ, slice_index}
use Rattle.ir_token.specs.declared.token.LexRefusal.{LexRefusal}
use Rattle.ir_token.specs.declared.token.LexRefusal.TheVariants as lex
use Rattle.ir_module.specs.declared.module.Module.{Module}
use Rattle.ir_uses.specs.Uses.{AreUsesOf}
use Rattle.facts.specs.Justified.{IsGreatest}
use Rattle.positions.specs.Numbering.{AreOf}
use Rattle.rule_terms.specs.System.{System}
use Rattle.rule_terms.specs.Greatest as terms
use Rattle.rule_says.specs.Reading.{IsNumbering, facts_in}
use Rattle.module_system.specs.Filled.{IsSystemOf}
use Rattle.dep_graph.specs.Graph.{IsGraphOf, edges_of}
use Rattle.dep_graph.specs.declared.invert.TheConstants.{EDGE_LIMIT}
use Rattle.accept.specs.declared.back.Back.{Back}
use Rattle.accept.specs.declared.refusal.Limit.TheVariants as limit
use Rattle.accept.specs.declared.refusal.Refusal.{Refusal}
use Rattle.accept.specs.declared.refusal.Refusal.TheVariants as refusal
use Rattle.accept.specs.Limits.{KeepsLimits}

-- that there is no list of tokens, but too many of them are a limit
abbrev pub told : LexRefusal → Refusal
told (lex.TooMany count) = refusal.TooLarge limit.Tokens count
told lex.NoMemory = refusal.NoMemory
told why = refusal.Lex why

-- the system has too many edges, so many
abbrev pub IsOfGraph : System → Refusal → Type 0
IsOfGraph s (refusal.TooLarge limit.Edges count) = (count ≡ edges_of s) × (EDGE_LIMIT < count)
IsOfGraph s refusal.NoMemory = Unit {0}
IsOfGraph s _ = ⊥

-- uses, positions, system and graph are those of the module, which keeps the limits
pub record Follows (m : Module) (b : Back) : Type 0 where
  pub limits : KeepsLimits m
  pub uses : AreUsesOf m b.uses
  pub positions : IsNumbering m b.positions
  pub listed : AreOf m b.positions
  pub system : IsSystemOf m b.positions b.system
  pub composed : (best : List ℕ) → terms.IsGreatest b.system best → IsGreatest m (facts_in b.positions (slice_index best))
  pub graph : IsGraphOf b.system b.graph
