use Rattle.std.proofs.Common.{◌≡◌, ◌+◌, ℕ, List, length, arith, sym, subst, ◌∙◌}
use Rattle.ir_module.specs.Operands.{operands}
use Rattle.ir_uses.specs.declared.lists.Use.{Use}
use Rattle.ir_uses.specs.Noted.{use_at, AreUseListsTo}
use Rattle.ir_uses.specs.Uses.{IsUseAt}
use Rattle.ir_uses.proofs.Listing.{few_operands, noted_all, passed_all, no_use, next_instr}
use Rattle.ir_uses.proofs.values.note_operands.Goals as goal
use Rattle.ir_uses.proofs.values.note_operands.Goals.{in-Some-value_at+in_ok-note, in_default-value_at}

pub operand_count-operand-end-requires : goal.operand_count-operand-end-requires
operand_count-operand-end-requires c =
    omega (arith, few_operands c.args.m.now c.args.spot c.in-Some.instr.now c.requires.few (sym c.in-Some.ensures))

pub overflow_cast-operand-end : goal.overflow_cast-operand-end
overflow_cast-operand-end c =
    omega (arith, few_operands c.args.m.now c.args.spot c.in-Some.instr.now c.requires.few (sym c.in-Some.ensures), c.operand_count-operand-end.ensures)

pub loop-operand-preserved : goal.loop-operand-preserved
loop-operand-preserved c =
    let found = sym c.in-Some.ensures in
    elim c.match-value_at.branch [
      | in-Some-value_at+in_ok-note w ↦
          (let q = w.in-Some-value_at.ensures.some in
          let at : IsUseAt c.args.m.now w.in-Some-value_at.v.0 (use_at c.args.spot.seg.0 c.args.spot.at c.loop-operand.operand) =
          record { instr = c.in-Some.instr.now; written = q.0; at_spot = found; is_operand = q.1; is_value = q.2 } in
          noted_all c.args.m.now c.args.spot.seg.0 c.args.spot.at c.loop-operand.operand w.in-Some-value_at.v.0 c.loop-operand.lists c.match-value_at.lists
          c.loop-operand.invariant at (λ l. w.lists-is ∙ w.in_ok-note.ensures.none l) (λ us g. w.lists-is ∙ w.in_ok-note.ensures.noted us g))
      | in_default-value_at w ↦
          (let none = no_use c.args.m.now c.args.spot.seg.0 c.args.spot.at c.loop-operand.operand c.in-Some.instr.now found
          w.in_default-value_at.ensures.none in
          let all = passed_all c.args.m.now c.args.spot.seg.0 c.args.spot.at c.loop-operand.operand c.loop-operand.lists c.loop-operand.invariant none in
          subst (λ (x : List (List Use)). AreUseListsTo c.args.m.now (use_at c.args.spot.seg.0 c.args.spot.at (c.loop-operand.operand + 1)) x)
          (sym w.lists-is) all)
    ]

pub returns : goal.returns
returns c =
    let count : c.loop-operand.operand ≡ length (operands c.in-Some.instr.now.op) = omega
    (arith, c.loop-operand-test.false, c.loop-operand.auto.operand-end, c.operand_count-operand-end.ensures) in
    next_instr c.args.m.now c.args.spot.seg.0 c.args.spot.at c.in-Some.instr.now c.loop-operand.lists (sym c.in-Some.ensures)
    (subst (λ (x : ℕ). AreUseListsTo c.args.m.now (use_at c.args.spot.seg.0 c.args.spot.at x) c.loop-operand.lists) count c.loop-operand.invariant)
