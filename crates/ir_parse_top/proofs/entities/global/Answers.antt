use Rattle.std.proofs.Common.{None, Some, sym, subst}
use Rattle.ir_tree.specs.Steps.{Longest}
use Rattle.ir_tree.specs.Entities.{global_var}
use Rattle.ir_parse_top.proofs.LongestEntities.{global_by}
use Rattle.ir_parse_top.proofs.entities.global.Goals as goal

pub returns-in_default : goal.returns-in_default
returns-in_default c = global_by c.args.toks.now c.args.start c.args._first (sym c.requires.after) None
    (subst (Longest (global_var c.args.toks.now) c.args.start) c.in_default.is c.in_ok-global.ensures)

pub returns : goal.returns
returns c = global_by c.args.toks.now c.args.start c.args._first (sym c.requires.after) (Some (
  c.in_ok-global-2.global,
  c.in-Some.next,
)) (subst (λ x. Longest (global_var c.args.toks.now) c.args.start (Some (
  x,
  c.in-Some.next,
))) (sym c.in_ok-global-2.ensures) (subst (Longest (global_var c.args.toks.now) c.args.start) c.in-Some.is c.in_ok-global.ensures))
