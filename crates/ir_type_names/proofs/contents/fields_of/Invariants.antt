use Rattle.std.proofs.Common.{◌≡◌, map, take}
use Rattle.ir_type_names.specs.Contents.{id}
use Rattle.ir_type_names.proofs.contents.fields_of.Given as goal

abbrev pub invariant-loop-word : goal.invariant-loop-word
invariant-loop-word l = l.fields.items ≡ map id (take l.word-index l.words)
