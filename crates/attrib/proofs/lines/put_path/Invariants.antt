use Rattle.std.proofs.Common.{◌≡◌, ◌++◌, take}
use Rattle.std.specs.List.{flat_map}
use Rattle.attrib.specs.Lines.{block_words}
use Rattle.attrib.proofs.lines.put_path.Given as goal

-- the blocks before this one stand in the line
abbrev pub invariant-loop-k : goal.invariant-loop-k
invariant-loop-k l = l.line.items ≡ l.initial.line.items ++ flat_map (block_words l.m) (take l.k-index l.path)
