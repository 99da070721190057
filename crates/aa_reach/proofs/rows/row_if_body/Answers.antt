use Rattle.std.proofs.Common.{sym, ◌∙◌}
use Rattle.std.proofs.lemmas.Result.{on_ok_weaker}
use Rattle.aa_reach.proofs.Segs.{func_body, func_none}
use Rattle.aa_reach.proofs.rows.row_if_body.Goals as goal

pub returns-then-is_body : goal.returns-then-is_body
returns-then-is_body c =
    on_ok_weaker c.body_row.result (λ met. func_body c.args.m.now c.args.ps.now c.args.words c.args.f c.args.s.now c.body_row.new.s (sym
    c.is_body.ensures ∙ c.if-is_body.true) met) c.body_row.ensures

pub returns : goal.returns
returns c = func_none c.args.m.now c.args.ps.now c.args.words c.args.f c.args.s.now (sym c.is_body.ensures ∙ c.if-is_body.false)
