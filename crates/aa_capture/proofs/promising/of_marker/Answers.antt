use Rattle.std.proofs.Common.{◌==◌, ◌&&◌, suc, sym, ap, ◌∙◌}
use Rattle.ir_module.specs.Calls.{lifetime_pointer}
use Rattle.aa_capture.specs.Passing.{has_arg}
use Rattle.aa_capture.proofs.Marked.{marked_at}
use Rattle.aa_capture.proofs.promising.of_marker.Goals as goal

pub returns-then-is_last : goal.returns-then-is_last
returns-then-is_last c =
    c.marks.ensures ∙ sym (marked_at c.args.promise c.args.at c.args.func.now ∙ ap (λ b. b && has_arg c.args.promise lifetime_pointer)
    (ap (λ n. suc c.args.at == n) (sym c.len.ensures) ∙ (sym c.is_last.ensures ∙ c.if-is_last.true)))

pub returns-else-is_last : goal.returns-else-is_last
returns-else-is_last c =
    c.if-is_last.false ∙ sym (marked_at c.args.promise c.args.at c.args.func.now ∙ ap (λ b. b && has_arg c.args.promise lifetime_pointer)
    (ap (λ n. suc c.args.at == n) (sym c.len.ensures) ∙ (sym c.is_last.ensures ∙ c.if-is_last.false)))
