use Rattle.std.proofs.Common.{◌≡◌, ℕ, ◌<◌, slice_get, slice_index, Some}
use Rattle.attr_ids.specs.declared.ids.PosId.{PosId}
use Rattle.rule_terms.specs.Pool.{IsRemarked}
use Rattle.rule_terms.proofs.pool.Pool.mark.Given as goal

-- the inputs so far are marked
abbrev pub invariant-loop-number : goal.invariant-loop-number
invariant-loop-number l = record {
  pool : IsRemarked l.initial.self l.self;
  marked : (k : ℕ) (p : PosId) → k < l.number → slice_get l.inputs k ≡ Some p → slice_index l.self.marks.items p.0 ≡ k;
}
