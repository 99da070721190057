use Rattle.std.proofs.Common.{take}
use Rattle.ir_attrs.specs.Groups.{Knows}
use Rattle.ir_attrs.proofs.functions.groups.Given as goal

abbrev pub invariant-loop-entity : goal.invariant-loop-entity
invariant-loop-entity l = Knows l.text l.toks l.ids (take l.entity-index l.entities) l.groups
