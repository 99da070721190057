use Rattle.std.proofs.Common.{None, Some, subst}
use Rattle.ir_tree.specs.Steps.{Longest}
use Rattle.ir_tree.specs.Types.{ty}
use Rattle.ir_parse_top.proofs.LongestEntities.{opaque_type, written_type}
use Rattle.ir_parse_top.proofs.entities.type_body.Goals as goal

pub returns-in-Some : goal.returns-in-Some
returns-in-Some c = opaque_type c.args.toks.now c.args.at c.in-Some.next c.in-Some.ensures.value

pub returns-in-Some-2 : goal.returns-in-Some-2
returns-in-Some-2 c = written_type c.args.toks.now c.args.at c.in_default.ensures.value (Some (
  c.in-Some-2.ty,
  c.in-Some-2.next,
)) (subst (Longest (ty c.args.toks.now) c.args.at) c.in-Some-2.is c.in_ok-ty.ensures)

pub returns-in-None : goal.returns-in-None
returns-in-None c = written_type c.args.toks.now c.args.at c.in_default.ensures.value None (subst (Longest (ty c.args.toks.now) c.args.at) c.in-None.is
    c.in_ok-ty.ensures)
