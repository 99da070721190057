use Rattle.std.proofs.Common.{arith, sym, ◌∙◌}
use Rattle.std.proofs.lemmas.Result.{on_ok_weaker}
use Rattle.facts.specs.declared.pos.Pos.TheVariants as pos
use Rattle.rule_says.proofs.Built.{unless_over}
use Rattle.aa_reach.proofs.Passed.{passed, no_call_passed}
use Rattle.aa_reach.proofs.Segs.{no_callee}
use Rattle.aa_reach.proofs.Listed.{row_listed}
use Rattle.aa_reach.proofs.passing.pass.Goals as goal

pub meet-requires-clause-listed : goal.meet-requires-clause-listed
meet-requires-clause-listed c = row_listed c.args.m.now c.args.ps.now c.requires.numbering c.args.row c.args.k c.requires.row c.requires.word

pub meet-requires-clause-over : goal.meet-requires-clause-over
meet-requires-clause-over c =
    unless_over c.args.ps.now c.in_ok-term.term (pos.Segment c.args.q) 0 c.in_ok-passes.passes (omega arith) c.in_ok-term.ensures c.in_ok-passes.ensures.over

pub returns-then-is_call : goal.returns-then-is_call
returns-then-is_call c =
    on_ok_weaker c.meet.result (λ met. passed c.args.m.now c.args.ps.now c.requires.numbering c.args.row c.args.k c.args.q.0 c.args.op.now
    c.requires.row c.args.s.now c.meet.new.s
    c.in_ok-passes.passes c.in_ok-term.term c.requires.long (sym c.is_call.ensures ∙ c.if-is_call.true) c.in_ok-passes.ensures c.in_ok-term.ensures
    met) c.meet.ensures

pub returns : goal.returns
returns c =
    let none = sym c.is_call.ensures ∙ c.if-is_call.false in
    no_call_passed c.args.m.now c.args.ps.now c.requires.numbering c.args.row c.args.k c.args.q.0 c.args.op.now c.requires.row c.args.s.now none
    (no_callee c.args.m.now c.args.op.now none)
