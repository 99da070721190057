use Rattle.std.proofs.Common.{sym, subst}
use Rattle.ir_tree.specs.Steps.{Longest, listed}
use Rattle.ir_tree.specs.Types.{ty}
use Rattle.ir_tree.specs.Instructions.{arm}
use Rattle.ir_parse_body.proofs.LongestOperations as op
use Rattle.ir_parse_body.proofs.operations.phi.Goals as goal

pub returns-in_default : goal.returns-in_default
returns-in_default c = op.phi_no_type c.args.toks.now c.args.start c.args.first (sym c.requires.after)
    (subst (Longest (ty c.args.toks.now) c.args.first) c.in_default.is c.in_ok-ty.ensures)

pub returns-in_default-2 : goal.returns-in_default-2
returns-in_default-2 c = op.phi_no_arms c.args.toks.now c.args.start c.args.first (sym c.requires.after) c.in-Some.ty c.in-Some.place
    (subst (Longest (ty c.args.toks.now) c.args.first) c.in-Some.is c.in_ok-ty.ensures)
    (subst (Longest (listed c.args.toks.now (arm c.args.toks.now)) c.in-Some.place) c.in_default-2.is c.in_ok-arms.ensures)

pub returns : goal.returns
returns c = op.phi_ends c.args.toks.now c.args.start c.args.first (sym c.requires.after) c.in-Some.ty c.in-Some.place
    (subst (Longest (ty c.args.toks.now) c.args.first) c.in-Some.is c.in_ok-ty.ensures) c.in-Some-2.arms c.in-Some-2.next
    (subst (Longest (listed c.args.toks.now (arm c.args.toks.now)) c.in-Some.place) c.in-Some-2.is c.in_ok-arms.ensures)
