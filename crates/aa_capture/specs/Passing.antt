-- What a call says of the pointers that it passes, as it is worked out once for all its arguments.
use Rattle.std.specs.Prelude.{◌≡◌, ℕ, Bool}
use Rattle.ir_module.specs.declared.attrs.ParamAttrs.{ParamAttrs}
use Rattle.ir_module.specs.declared.op.Op.{Op}
use Rattle.ir_module.specs.declared.module.Module.{Module}
use Rattle.ir_module.specs.Calls.{Promise, Nocapture, Readnone, Readonly, Writeonly, direct_callee, inner_callee}
use Rattle.facts.specs.Kinds.{Read, Write, Argmem}
use Rattle.facts.specs.Promises.{promises_no_access}
use Rattle.aa_memory.specs.Accesses.{number_of}
use Rattle.aa_capture.specs.declared.passing.Passing.{Passing}
use Rattle.aa_capture.specs.declared.promising.ArgPromise.{ArgPromise}
use Rattle.aa_capture.specs.declared.promising.ArgPromise.TheVariants as arg

-- the attribute stands among these
abbrev pub has_arg : ArgPromise → ParamAttrs → Bool
has_arg arg.Nocapture attrs = attrs.nocapture
has_arg arg.Readnone attrs = attrs.readnone
has_arg arg.Readonly attrs = attrs.readonly
has_arg arg.Writeonly attrs = attrs.writeonly

-- the promise of argument `at` by its LangRef name
abbrev pub promise_at : ArgPromise → ℕ → Promise
promise_at arg.Nocapture at = Nocapture at
promise_at arg.Readnone at = Readnone at
promise_at arg.Readonly at = Readonly at
promise_at arg.Writeonly at = Writeonly at

-- the function that the call names directly, the body that it runs, and whether one `memory(..)` excludes all that it may read,
-- or write, through an argument
pub record IsPassing (m : Module) (o : Op) (passing : Passing) : Type 0 where
  pub direct : direct_callee m o ≡ passing.direct
  pub body : inner_callee m o ≡ number_of passing.body
  pub no_read : promises_no_access m Read Argmem o ≡ passing.no_read
  pub no_write : promises_no_access m Write Argmem o ≡ passing.no_write
