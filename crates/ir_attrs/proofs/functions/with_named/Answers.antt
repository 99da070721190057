use Rattle.std.proofs.Common.{◌≡◌, ◌++◌, ◌∙◌, sym, ap, subst}
use Rattle.std.specs.Option.{option_copied}
use Rattle.ir_attrs.specs.Functions.{gathered, named_attrs, group_in}
use Rattle.ir_attrs.specs.Groups.{said_of}
use Rattle.ir_attrs.proofs.Gathering.{group_more}
use Rattle.ir_attrs.proofs.functions.with_named.Goals as goal

pub returns-in-Some : goal.returns-in-Some
returns-in-Some c = λ b toks entities before knows was.
    subst (λ w. c.merged.result ≡ gathered b toks (before ++ named_attrs c.args.ids.now (group_in c.args.ids.now entities) w)) (sym c.in-Group.is)
    (group_more b toks c.args.old c.in-Some.said.now c.merged.result before _ c.merged.ensures was
    (ap (λ n. said_of b toks (group_in c.args.ids.now entities n)) (sym c.name_of.ensures)
    ∙ sym (knows c.name_of.result) ∙ sym c.get.ensures.value ∙ ap option_copied c.in-Some.is))
