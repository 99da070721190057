use Rattle.std.proofs.Common.{◌≡◌, List, ◌++◌, sym, subst}
use Rattle.std.proofs.lemmas.Result.{IfOk-weaker}
use Rattle.ir_tree.specs.declared.attributes.Fattr.{Fattr}
use Rattle.ir_tree.specs.declared.attributes.Fattr.TheVariants as fattr_of
use Rattle.ir_attrs.specs.Attributes.{group_attr}
use Rattle.ir_attrs.specs.Functions.{gathered, with_attr}
use Rattle.ir_attrs.proofs.Gathering.{attr_more}
use Rattle.ir_attrs.proofs.functions.with_group_attr.Goals as goal

pub returns-in-Word : goal.returns-in-Word
returns-in-Word c =
    let b = c.args.text.now in
    let toks = c.args.toks.now in
    IfOk-weaker c.with_attr.result (λ said. said ≡ with_attr b toks c.args.old (fattr_of.Word c.in-Word.word))
    (λ said. (before : List Fattr) → c.args.old ≡ gathered b toks before → said ≡ gathered b toks (before ++ group_attr c.args.attr.now))
    (λ said is. λ before was. subst (λ g. said ≡ gathered b toks (before ++ group_attr g)) (sym c.in-Word.is)
    (attr_more b toks c.args.old said _ before is was))
    c.with_attr.ensures

pub returns-in-Fattr : goal.returns-in-Fattr
returns-in-Fattr c =
    let b = c.args.text.now in
    let toks = c.args.toks.now in
    IfOk-weaker c.with_attr-in-Fattr.result (λ said. said ≡ with_attr b toks c.args.old c.in-Fattr.attr)
    (λ said. (before : List Fattr) → c.args.old ≡ gathered b toks before → said ≡ gathered b toks (before ++ group_attr c.args.attr.now))
    (λ said is. λ before was. subst (λ g. said ≡ gathered b toks (before ++ group_attr g)) (sym c.in-Fattr.is)
    (attr_more b toks c.args.old said _ before is was))
    c.with_attr-in-Fattr.ensures
