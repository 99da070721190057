use Rattle.std.proofs.Common.{◌≡◌, take}
use Rattle.std.specs.List.{flat_map, enumerate_from}
use Rattle.why_text.specs.Lines.{line}
use Rattle.why_text.proofs.printing.why_text.Given as goal

abbrev pub invariant-loop-k : goal.invariant-loop-k
invariant-loop-k l = l.printed.items ≡ flat_map (line l.text l.m l.p.list) (enumerate_from 1 (take l.k l.entries))
