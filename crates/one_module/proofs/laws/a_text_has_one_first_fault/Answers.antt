use Rattle.one_module.proofs.Modules.{none_amiss, one_fault}
use Rattle.one_module.proofs.laws.a_text_has_one_first_fault.Goals as goal

pub returns-clause-none : goal.returns-clause-none
returns-clause-none c = λ text toks tree m f a b. none_amiss text toks tree m f a b

pub returns-clause-one : goal.returns-clause-one
returns-clause-one c = λ text toks tree f g a b. one_fault text toks tree f g a b
