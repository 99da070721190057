use Rattle.std.proofs.Common.{subst}
use Rattle.ir_tree.specs.Steps.{Longest}
use Rattle.ir_tree.specs.Types.{ftype}
use Rattle.ir_tree.proofs.ClearTypes.{ftype_of}
use Rattle.ir_parse_parts.proofs.Longest.{optional_some}
use Rattle.ir_parse_body.proofs.calls.parameters.Goals as goal

pub returns-in-Some : goal.returns-in-Some
returns-in-Some c = optional_some (ftype_of c.args.toks.now) c.args.at c.in-Some.next c.in-Some.found
    (subst (Longest (ftype c.args.toks.now) c.args.at) c.in-Some.is c.in_ok-found.ensures)
