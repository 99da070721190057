use Rattle.ir_module.specs.declared.op.Symbol.TheVariants as symbol
use Rattle.ir_consts.proofs.Adding.{goes_on}
use Rattle.ir_consts.proofs.laws.offsets_of_a_chain_add_up.Goals as goal

pub returns-clause-globals : goal.returns-clause-globals
returns-clause-globals c = λ g l ls. goes_on (symbol.Global g) l.bytes l.inbounds l.wrap ls

pub returns-clause-funcs : goal.returns-clause-funcs
returns-clause-funcs c = λ f l ls. goes_on (symbol.Func f) l.bytes l.inbounds l.wrap ls
