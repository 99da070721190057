use Rattle.std.proofs.lemmas.Result.{err_from_is_err_and}
use Rattle.ir_types.specs.Layout.{layout}
use Rattle.ir_types.proofs.Queries.{align_is, err_is}
use Rattle.ir_types.proofs.table.TypeTable.align_of.Goals as goal

pub returns : goal.returns
returns c = align_is (layout c.args.self.now 64 c.args.t.0) c.in_ok-extent.extent c.in_ok-extent.ensures

pub returns-in_err-extent : goal.returns-in_err-extent
returns-in_err-extent c =
    let p = err_from_is_err_and c.from_residual.result c.from_residual.ensures.1 in
    rw (p.1, p.2) (err_is (layout c.args.self.now 64 c.args.t.0) c.in_err-extent.field-0.0 (λ l. l.align) c.in_err-extent.ensures)
