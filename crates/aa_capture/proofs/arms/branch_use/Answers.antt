use Rattle.facts.specs.declared.pos.Pos.TheVariants as pos
use Rattle.rule_says.proofs.Built.{unless_over}
use Rattle.std.proofs.Common.{arith, sym, ◌∙◌}
use Rattle.std.proofs.lemmas.Result.{on_ok_weaker}
use Rattle.aa_capture.proofs.Used.{used_met}
use Rattle.aa_capture.proofs.Phis.{OverAsks, OverSpeaks, over_says, branch_met, not_led}
use Rattle.aa_capture.proofs.arms.branch_use.Goals as goal

pub meet-requires-clause-over : goal.meet-requires-clause-over
meet-requires-clause-over c =
    unless_over c.args.ps.now c.in_ok-term.term (pos.Segment c.args.q) 0 c.in_ok-used.used (omega arith) c.in_ok-term.ensures
    (over_says c.args.m.now c.args.ps.now c.requires.numbering c.args.q.0 c.args.t.now c.args.block c.args.instr.now c.args.w.now
    c.result_uses-result.result c.in_ok-used.used c.stays_open.result c.stays_open.ensures c.in_ok-used.ensures
    (c.result_uses-result.ensures c.args.m.now c.requires.numbering)).over

pub returns : goal.returns
returns c =
    on_ok_weaker c.meet.result (λ met. branch_met c.args.m.now c.args.ps.now c.requires.numbering c.args.q.0 c.args.t.now c.args.block c.args.instr.now
    c.args.w.now c.requires.other c.args.s.now c.meet.new.s (sym c.leads_to.ensures ∙ c.if-not-leads_to.false)
    (used_met c.args.m.now c.args.ps.now c.requires.numbering c.args.q.0
    (OverAsks c.args.m.now c.args.ps.now c.requires.numbering c.args.q.0 c.args.t.now c.args.block c.args.instr.now c.args.w.now)
    (OverSpeaks c.args.m.now c.args.ps.now c.requires.numbering c.args.q.0 c.args.t.now c.args.block c.args.instr.now c.args.w.now)
    c.args.w.now.val c.in-Value.v c.in-Value.is c.args.s.now c.meet.new.s c.in_ok-used.used c.in_ok-term.term c.requires.long
    (over_says c.args.m.now c.args.ps.now c.requires.numbering c.args.q.0 c.args.t.now c.args.block c.args.instr.now c.args.w.now
    c.result_uses-result.result c.in_ok-used.used c.stays_open.result c.stays_open.ensures c.in_ok-used.ensures
    (c.result_uses-result.ensures c.args.m.now c.requires.numbering))
    c.in_ok-term.ensures met)) c.meet.ensures

pub returns-then-not-leads_to : goal.returns-then-not-leads_to
returns-then-not-leads_to c =
    not_led c.args.m.now c.args.ps.now c.requires.numbering c.args.q.0 c.args.t.now c.args.block c.args.instr.now c.args.w.now c.args.s.now
    (sym c.leads_to.ensures ∙ c.if-not-leads_to.true)
