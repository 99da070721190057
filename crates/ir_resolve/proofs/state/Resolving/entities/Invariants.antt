use Rattle.std.proofs.Common.{take}
use Rattle.ir_resolve.specs.Building.{setting_of, AddsAll}
use Rattle.ir_resolve.proofs.state.Resolving.entities.Given as goal

abbrev pub invariant-loop-entity : goal.invariant-loop-entity
invariant-loop-entity l = AddsAll (setting_of l.desk) (take l.entity-index l.entities) l.initial.self l.self
