use Rattle.ir_token.proofs.Firsts.{int_token}
use Rattle.ir_token.proofs.found.digits.Goals as goal

pub returns : goal.returns
returns c = int_token c.args.text.now c.args.at c.past_digits.result c.requires.inside c.requires.begins c.requires.plain c.requires.unlabelled
    c.past_digits.ensures.value c.past_digits.ensures.within.1
