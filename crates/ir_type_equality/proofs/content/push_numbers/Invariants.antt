use Rattle.std.proofs.Common.{◌≡◌, ◌++◌, map, take}
use Rattle.ir_type_equality.specs.Content as spec
use Rattle.ir_type_equality.proofs.content.push_numbers.Given as goal

abbrev pub invariant-loop-field : goal.invariant-loop-field
invariant-loop-field l = l.words.items ≡ l.fn.words.items ++ map (spec.part_number l.numbers) (take l.field-index l.fields)
