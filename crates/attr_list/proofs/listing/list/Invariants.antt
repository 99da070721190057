use Rattle.std.proofs.Common.{◌≡◌, take}
use Rattle.std.specs.List.{flat_map}
use Rattle.attr_list.specs.Listed.{line}
use Rattle.attr_list.proofs.listing.list.Given as goal

abbrev pub invariant-loop-insertion : goal.invariant-loop-insertion
invariant-loop-insertion l = l.text.items ≡ flat_map line (take l.insertion-index l.insertion-items)
