-- What is read of an accepted text.
use Rattle.std.specs.Prelude.{ℕ, List, slice_index}
use Rattle.ir_uses.specs.Uses.{AreUsesOf}
use Rattle.facts.specs.Justified.{IsGreatest}
use Rattle.positions.specs.Numbering.{AreOf}
use Rattle.rule_terms.specs.Greatest as terms
use Rattle.rule_says.specs.Reading.{IsNumbering, facts_in}
use Rattle.module_system.specs.Filled.{IsSystemOf}
use Rattle.dep_graph.specs.Graph.{IsGraphOf}
use Rattle.ir_module.specs.WellFormed.{IsWellFormed}
use Rattle.accept.specs.declared.reading.Ready.{Ready}
use Rattle.accept.specs.Accepted.{IsResolved, Accepted}

-- the tokens, the tree and the module of the text, which is accepted; the uses, the positions and the system of the module, whose
-- greatest words hold the greatest set of facts that supports itself; and the graph of the system
pub record IsReady (b : List ℕ) (r : Ready) : Type 0 where
  pub resolved : IsResolved b r.tokens r.tree r.module
  pub accepted : Accepted b r.module
  pub formed : IsWellFormed r.module
  pub uses : AreUsesOf r.module r.uses
  pub listed : AreOf r.module r.positions
  pub positions : IsNumbering r.module r.positions
  pub system : IsSystemOf r.module r.positions r.system
  pub composed : (best : List ℕ) → terms.IsGreatest r.system best → IsGreatest r.module (facts_in r.positions (slice_index best))
  pub graph : IsGraphOf r.system r.graph
