use Rattle.std.proofs.Common.{◌≡◌, ◌++◌, map}
use Rattle.std.specs.Prelude.{codes}
use Rattle.std.specs.List.{range_with_len}
use Rattle.attr_make.specs.Made.{as_text, call_line}
use Rattle.attr_make.proofs.making.put_calls.Given as goal

abbrev pub invariant-loop-name : goal.invariant-loop-name
invariant-loop-name l = l.text.items ≡ l.initial.text.items ++ as_text (map (λ name. call_line name (codes "@g")) (range_with_len 0 l.name))
