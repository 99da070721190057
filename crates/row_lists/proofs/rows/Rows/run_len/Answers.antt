use Rattle.std.proofs.Common.{slice_get, ap, sym, ◌∙◌, arith}
use Rattle.row_lists.proofs.Listing.{part_fits}
use Rattle.row_lists.proofs.rows.Rows.run_len.Goals as goal

pub returns : goal.returns
returns g c =
    λ at xs e. omega (arith, c.len.ensures, part_fits c.self.inside.run.items xs c.self.inside.rows.items at (ap (λ ls. slice_get ls at) c.self.view_is ∙ e))
