use Rattle.std.proofs.Common.{ℕ, List, ◌++◌, ◌∙◌, ap}
use Rattle.std.specs.Prelude.{codes, decimal}
use Rattle.attr_make.proofs.Lines.{one_line}
use Rattle.attr_make.proofs.line.put_call.Goals as goal

pub returns : goal.returns
returns c =
    c.in_ok-extend_from_slice-5.ensures.items
    ∙ ap (λ (t : List ℕ). t ++ codes ")\n") (c.in_ok-extend_from_slice-4.ensures.items
    ∙ ap (λ (t : List ℕ). t ++ c.args.argument.now) (c.in_ok-extend_from_slice-3.ensures.items
    ∙ ap (λ (t : List ℕ). t ++ codes "(ptr ") (c.in_ok-extend_from_slice-2.ensures.items
    ∙ ap (λ (t : List ℕ). t ++ c.as_bytes.result.now) c.in_ok-extend_from_slice.ensures.items
    ∙ ap (λ (t : List ℕ). (c.args.text.now.items ++ codes "  call void @f") ++ t) (c.as_bytes.ensures.value ∙ c.format.ensures.text))))
    ∙ one_line c.args.text.now.items (codes "  call void @f") (decimal c.args.callee) (codes "(ptr ") c.args.argument.now (codes ")")
