use Rattle.std.proofs.Common.{◌≡◌, None, Some, sym, subst}
use Rattle.ir_tree.specs.Steps.{Longest}
use Rattle.ir_tree.specs.Headers.{header}
use Rattle.ir_tree.specs.Entities.{entity}
use Rattle.ir_tree.specs.declared.entities.Define.{Define as Definition}
use Rattle.ir_tree.specs.declared.entities.Entity.TheVariants.{Define}
use Rattle.ir_parse_top.specs.Parts.{braced}
use Rattle.ir_parse_top.proofs.LongestEntities.{define_no_header, define_no_body, define_ends}
use Rattle.ir_parse_top.proofs.entities.define.Goals as goal

pub returns-in_default : goal.returns-in_default
returns-in_default c = define_no_header c.args.toks.now c.args.start c.args.first (sym c.requires.after) (subst (Longest (header c.args.toks.now) c.args.first)
    c.in_default.is c.in_ok-header.ensures)

pub returns-in_default-2 : goal.returns-in_default-2
returns-in_default-2 c =
    let ts = c.args.toks.now in
    let l = subst (Longest (header ts) c.args.first) c.in-Some.is c.in_ok-header.ensures in
    define_no_body ts c.args.start c.args.first (sym c.requires.after) c.in-Some.brace c.in-Some.header l
    (subst (Longest (braced ts) c.in-Some.brace) c.in_default-2.is c.in_ok-braced.ensures)

pub returns : goal.returns
returns c =
    let ts = c.args.toks.now in
    let l = subst (Longest (header ts) c.args.first) c.in-Some.is c.in_ok-header.ensures in
    let whole : Definition = record { word = c.args.start; header = c.in-Some.header; body = c.in-Some-2.braced.0; close = c.in-Some-2.braced.1 } in
    let same : c.in_ok-define.define ≡ whole = c.in_ok-define.ensures in
    let all = define_ends ts c.args.start c.args.first (sym c.requires.after) c.in-Some.brace c.in-Some.header l c.in-Some-2.braced c.in-Some-2.next
    (subst (Longest (braced ts) c.in-Some.brace) c.in-Some-2.is c.in_ok-braced.ensures) in
    subst (λ x. Longest (entity ts) c.args.start (Some (Define x, c.in-Some-2.next))) (sym same) all
