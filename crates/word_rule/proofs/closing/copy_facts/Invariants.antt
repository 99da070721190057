use Rattle.std.proofs.Common.{◌≡◌, map, take, length}
use Rattle.std.specs.Prelude.{vec_capacity}
use Rattle.std.specs.Mem.Slots.{slots_items}
use Rattle.fix_core.specs.Machine.{facts_of}
use Rattle.word_rule.proofs.closing.copy_facts.Given as goal

abbrev pub invariant-loop-p : goal.invariant-loop-p
invariant-loop-p l = (l.into.items ≡ map facts_of (take l.p (slots_items l.closed.words))) × (length l.into.items ≡ l.p) ×
    (vec_capacity l.into ≡ vec_capacity l.fn.into)
