use Rattle.std.proofs.Common.{◌≡◌, None, Some, sym, subst}
use Rattle.ir_tree.specs.Steps.{Longest}
use Rattle.ir_tree.specs.Headers.{header}
use Rattle.ir_tree.specs.Entities.{entity}
use Rattle.ir_tree.specs.declared.entities.Declare.{Declare as Declaration}
use Rattle.ir_tree.specs.declared.entities.Entity.TheVariants.{Declare}
use Rattle.ir_parse_top.proofs.LongestEntities.{declare_by}
use Rattle.ir_parse_top.proofs.entities.declare.Goals as goal

pub returns-in_default : goal.returns-in_default
returns-in_default c = declare_by c.args.toks.now c.args.start c.args.first (sym c.requires.after) c.in_ok-attached.place c.in_ok-attached.attached
    c.in_ok-attached.ensures None (subst (Longest (header c.args.toks.now) c.in_ok-attached.place) c.in_default.is c.in_ok-header.ensures)

pub returns : goal.returns
returns c =
    let whole : Declaration = record { word = c.args.start; attached = c.in_ok-attached.attached; header = c.in-Some.header } in
    let same : c.in_ok-declare.declare ≡ whole = c.in_ok-declare.ensures in
    subst (λ x. Longest (entity c.args.toks.now) c.args.start (Some (
      Declare x,
      c.in-Some.next,
    ))) (sym same) (declare_by c.args.toks.now c.args.start c.args.first (sym c.requires.after) c.in_ok-attached.place
    c.in_ok-attached.attached c.in_ok-attached.ensures (Some (
      c.in-Some.header,
      c.in-Some.next,
    )) (subst (Longest (header c.args.toks.now) c.in_ok-attached.place) c.in-Some.is c.in_ok-header.ensures))
