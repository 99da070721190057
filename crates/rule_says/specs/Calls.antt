-- What calls may promise as a whole.
use Rattle.ir_module.specs.Calls.{Promise, Nounwind, Noreturn, Nofree, Nocallback}
use Rattle.rule_says.specs.declared.calls.CallPromise.{CallPromise}
use Rattle.rule_says.specs.declared.calls.CallPromise.TheVariants as call

-- the promise by its LangRef name
abbrev pub promise_of : CallPromise → Promise
promise_of call.Nounwind = Nounwind
promise_of call.Noreturn = Noreturn
promise_of call.Nofree = Nofree
promise_of call.Nocallback = Nocallback
