use Rattle.std.proofs.Common.{sym, ◌∙◌}
use Rattle.std.proofs.lemmas.Result.{on_ok_weaker}
use Rattle.aa_control.proofs.Died.{open_told, open_is_body, open_met}
use Rattle.aa_control.proofs.segments.open.Goals as goal

pub entry-k-requires-clause-body : goal.entry-k-requires-clause-body
entry-k-requires-clause-body c =
    open_is_body c.args.m.now c.args.f
    (sym (open_told c.args.m.now c.args.u.now c.requires.uses c.args.f c.is_open.result c.requires.there c.is_open.ensures) ∙ c.if-not-is_open.false)

pub returns : goal.returns
returns c =
    on_ok_weaker c.meet.result (λ met. open_met c.args.m.now c.args.ps.now c.requires.numbering c.args.f c.entry-k.result.0 c.args.s.now c.meet.new.s
    c.bits.result
    (sym (open_told c.args.m.now c.args.u.now c.requires.uses c.args.f c.is_open.result c.requires.there c.is_open.ensures) ∙ c.if-not-is_open.false)
    c.entry-k.ensures.is c.requires.long c.bits.ensures met) c.meet.ensures
