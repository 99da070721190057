-- Accesses, locations and classes of blocks, as code names them; and what decides of a call that it makes no access.
use Rattle.std.specs.Prelude.{◌≡◌, ℕ, Bool, Option, None, Some}
use Rattle.attr_ids.specs.declared.ids.FuncId.{FuncId}
use Rattle.ir_module.specs.declared.op.Op.{Op}
use Rattle.ir_module.specs.declared.module.Module.{Module}
use Rattle.ir_module.specs.Calls.{inner_callee}
use Rattle.facts.specs.Kinds as kinds
use Rattle.facts.specs.Kinds.{FunctionFact, NoAccess, BlockClass}
use Rattle.facts.specs.Facts.{Fact, of_function}
use Rattle.facts.specs.Promises.{promises_fact}
use Rattle.aa_memory.specs.declared.accesses.Access.{Access}
use Rattle.aa_memory.specs.declared.accesses.Access.TheVariants as access
use Rattle.aa_memory.specs.declared.accesses.Location.{Location}
use Rattle.aa_memory.specs.declared.accesses.Location.TheVariants as location
use Rattle.aa_memory.specs.declared.accesses.Class.{Class}
use Rattle.aa_memory.specs.declared.accesses.Class.TheVariants as class
use Rattle.aa_memory.specs.declared.accesses.Callee.{Callee}

-- ---- the kinds of facts by their names in code

-- the kind of access
abbrev pub access_of : Access → kinds.Access
access_of access.Read = kinds.Read
access_of access.Write = kinds.Write

-- the location
abbrev pub location_of : Location → kinds.Location
location_of location.Default = kinds.Default
location_of location.Argmem = kinds.Argmem
location_of location.Inaccessible = kinds.Inaccessible

-- the class of blocks
abbrev pub class_of : Class → BlockClass
class_of class.Argument = kinds.Argument
class_of class.Global = kinds.Global

-- the location whose blocks are those of the class
abbrev pub place_of : Class → kinds.Location
place_of class.Argument = kinds.Argmem
place_of class.Global = kinds.Default

-- no such access at the location
abbrev pub no_access : Access → Location → FunctionFact
no_access a location = NoAccess (access_of a) (location_of location)

-- no such access to blocks of the class
abbrev pub off : Access → Class → FunctionFact
off a class = NoAccess (access_of a) (place_of class)

-- ---- calls

-- the number of a body that may be there
abbrev pub number_of : Option FuncId → Option ℕ
number_of None = None
number_of (Some f) = Some f.0

-- what decides of the call that it has the fact: the body that it runs, or else what it promises
pub record IsCallee (m : Module) (kind : FunctionFact) (o : Op) (callee : Callee) : Type 0 where
  pub body : inner_callee m o ≡ number_of callee.body
  pub promised : promises_fact m kind o ≡ callee.promised

-- the body has the fact in the set, or no body is run and it is promised
abbrev pub has_of : (Fact → Bool) → FunctionFact → Bool → Option FuncId → Bool
has_of held kind promised (Some f) = held (of_function kind f.0)
has_of held kind promised None = promised

abbrev pub callee_has : (Fact → Bool) → FunctionFact → Callee → Bool
callee_has held kind callee = has_of held kind callee.promised callee.body

-- of that fact of the body
abbrev pub CalleeSpeaks : FunctionFact → Callee → Fact → Type 0
CalleeSpeaks kind callee y = (f : FuncId) × (callee.body ≡ Some f) × (y ≡ of_function kind f.0)
