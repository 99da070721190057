use Rattle.std.proofs.Common.{◌∙◌, sym}
use Rattle.ir_token.proofs.Standing.{longest_here, nameless, bad_here, open_here}
use Rattle.ir_token.proofs.found.found_at.Goals as goal

pub bears_name-requires-clause-is : goal.bears_name-requires-clause-is
bears_name-requires-clause-is c = (longest_here c.args.text.now c.args.at c.in-Token.kind c.in-Token.end c.requires.inside c.in-Token.ensures).text

pub returns-then-bears_name : goal.returns-then-bears_name
returns-then-bears_name c = record {
  longest = longest_here c.args.text.now c.args.at c.in-Token.kind c.in-Token.end c.requires.inside c.in-Token.ensures;
  named = sym c.bears_name.ensures ∙ c.if-bears_name.true;
}

pub returns-else-bears_name : goal.returns-else-bears_name
returns-else-bears_name c = nameless c.args.text.now c.args.at c.in-Token.kind c.in-Token.end c.requires.inside c.in-Token.ensures
    (sym c.bears_name.ensures ∙ c.if-bears_name.false)

pub returns-in-Bad : goal.returns-in-Bad
returns-in-Bad c = bad_here c.args.text.now c.args.at c.in-Bad.ensures

pub returns-in-Open : goal.returns-in-Open
returns-in-Open c = open_here c.args.text.now c.args.at c.in-Open.ensures
