use Rattle.std.proofs.Common.{◌∙◌, ℕ, Err, ap, subst, sym}
use Rattle.ir_paths.specs.Lacking.{AreDefinedBefore}
use Rattle.ir_verify.proofs.paths.in_body.Goals as goal

pub returns-in-Err-Missing : goal.returns-in-Err-Missing
returns-in-Err-Missing c =
    let is = c.in-Err-Missing.is ∙ ap Err c.in-Err-Missing.field-0-is in
    let h = c.defined_on_every_path.ensures.missing c.in-Err-Missing.use_at c.in-Err-Missing.path is in (
      record { f = c.args.f.0; u = h.missing; is_use = h.is_use; is_at = h.is_at; lacks = h.lacks },
      λ g same. subst (λ (k : ℕ). AreDefinedBefore c.args.m.now k c.in-Err-Missing.use_at) (sym same) h.before,
    )
