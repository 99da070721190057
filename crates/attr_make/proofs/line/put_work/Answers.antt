use Rattle.std.proofs.Common.{ℕ, List, [], ◌∷◌, ◌++◌, ◌/◌, ◌∙◌, ap}
use Rattle.std.specs.Prelude.{codes}
use Rattle.attr_make.specs.Made.{as_text, call_line}
use Rattle.attr_make.proofs.Lines.{on_ok, reading_work}
use Rattle.attr_make.proofs.line.put_work.Goals as goal

pub returns-in_ok-extend_from_slice-in-1 : goal.returns-in_ok-extend_from_slice-in-1
returns-in_ok-extend_from_slice-in-1 c =
    on_ok c.put_call-in-1.result c.put_call-in-1.ensures
    (λ e. e ∙ ap (λ (t : List ℕ). t ++ as_text (call_line (c.args.name / 2) (codes "%p") ∷ [])) c.in_ok-extend_from_slice-in-1.ensures.items
    ∙ reading_work c.args.text.now.items c.args.name c.if-name-eq0.false c.in-1.is)
