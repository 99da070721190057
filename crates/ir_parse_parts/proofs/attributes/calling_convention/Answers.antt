use Rattle.ir_tree.specs.Attributes.{cc}
use Rattle.ir_tree.proofs.ClearAttributes.{cc_of}
use Rattle.ir_parse_parts.proofs.Longest.{optional_some, optional_none}
use Rattle.ir_parse_parts.proofs.attributes.calling_convention.Goals as goal

pub returns-in-Some : goal.returns-in-Some
returns-in-Some c = optional_some (cc_of c.args.toks.now) c.args.at c.in-Some.next c.in-Some.found c.in-Some.ensures

pub returns-in-None : goal.returns-in-None
returns-in-None c = optional_none (cc c.args.toks.now) c.args.at c.in-None.ensures
