-- What it is for an answer to be that of a module and of the faults of its names.
use Rattle.std.specs.Prelude.{◌≡◌, ℕ, List, nat_eq, Result, Ok, Err, Option, None, Some}
use Rattle.indexmap.specs.IndexMap.{get}
use Rattle.ir_token.specs.declared.token.Token.{Token}
use Rattle.ir_token.specs.Lists.{AreTokens}
use Rattle.ir_type_equality.specs.Numbers.{AreCanonical}
use Rattle.ir_module.specs.declared.module.Module.{Module}
use Rattle.ir_module.specs.WellFormed.{HasFew}
use Rattle.ir_scopes.specs.declared.faults.Cause.TheVariants as cause
use Rattle.ir_scopes.specs.declared.faults.NameFault.{NameFault}
use Rattle.ir_scopes.specs.declared.top.Space.TheVariants.{Types}
use Rattle.ir_scopes.specs.Faults.{first_in}
use Rattle.ir_resolve.specs.declared.refusal.NameRefusal.{NameRefusal}
use Rattle.ir_resolve.specs.declared.refusal.NameRefusal.TheVariants as refusal
use Rattle.ir_resolve.specs.declared.top.Top.{Top}
use Rattle.ir_resolve.specs.Inputs as inputs
use Rattle.ir_resolve.specs.Inputs.{named_in, types_in, setting_in}
use Rattle.ir_resolve.specs.Modules.{module_with, inner_faults, fault, span_at, offset_at}

-- the answer is this module, which has few things, where no fault was found, and else the fault
abbrev pub Tells : List Token → Option NameFault → Module → Result Module NameRefusal → Type 0
Tells toks found made (Ok m) = (found ≡ None) × (m ≡ made) × HasFew m
Tells toks found made (Err (refusal.Unknown name)) = (at : ℕ) × (found ≡ Some (fault cause.Unknown at)) × (name ≡ span_at toks at)
Tells toks found made (Err (refusal.Twice name)) = (at : ℕ) × (found ≡ Some (fault cause.Twice at)) × (name ≡ span_at toks at)
Tells toks found made (Err (refusal.Layout offset)) = (at : ℕ) × (found ≡ Some (fault cause.Layout at)) × (offset ≡ offset_at toks at)
Tells toks found made (Err refusal.NoMemory) = Unit {0}

-- the same, by some canonical numbers of types
abbrev pub TellsBySome : inputs.Names → Option NameFault → Result Module NameRefusal → Type 0
TellsBySome n found (Err refusal.NoMemory) = Unit {0}
TellsBySome n found result = (numbers : List ℕ) × AreCanonical (types_in n) numbers ×
    Tells n.toks (first_in found (inner_faults (setting_in n numbers) n.entities)) (module_with (setting_in n numbers) n.entities) result

-- the names that were collected
abbrev pub names_at : Top → inputs.Names
names_at t = record {
  text = t.text.now;
  toks = t.toks.now;
  entities = t.entities.now;
  ids = t.ids.now;
  types = get nat_eq t.types.now;
  symbols = get nat_eq t.symbols.now;
}

-- the tokens are those of the text, and the names are those of the entities
pub record IsTop (t : Top) : Type 0 where
  pub tokens : AreTokens t.text.now t.toks.now
  pub types : (name : ℕ) → get nat_eq t.types.now name ≡ named_in t.ids.now Types t.entities.now name
