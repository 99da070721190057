use Rattle.one_module.proofs.Modules.{one_module}
use Rattle.one_module.proofs.laws.a_text_has_one_module.Goals as goal

pub returns : goal.returns
returns c = λ text toks tree m n laid a b. one_module text toks tree m n laid a b
