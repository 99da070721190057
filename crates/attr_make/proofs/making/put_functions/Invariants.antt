use Rattle.std.proofs.Common.{◌≡◌, ◌++◌}
use Rattle.std.specs.List.{flat_map, range_with_len}
use Rattle.attr_make.specs.Made.{as_text, function_lines}
use Rattle.attr_make.proofs.making.put_functions.Given as goal

abbrev pub invariant-loop-name : goal.invariant-loop-name
invariant-loop-name l = l.text.items ≡ l.initial.text.items ++ as_text (flat_map function_lines (range_with_len 0 l.name))
