-- What a table of groups knows.
use Rattle.std.specs.Prelude.{◌≡◌, ℕ, nat_eq, List, Option, None, Some}
use Rattle.indexmap.specs.IndexMap.{IndexMap, get}
use Rattle.ir_token.specs.Bytes.{Bytes}
use Rattle.ir_token.specs.declared.token.Token.{Token}
use Rattle.ir_tree.specs.declared.attributes.Fattr.{Fattr}
use Rattle.ir_tree.specs.declared.entities.Entity.{Entity}
use Rattle.ir_attrs.specs.declared.functions.Gathered.{Gathered}
use Rattle.ir_attrs.specs.Functions.{gathered, group_in}

abbrev pub said_of : Bytes → List Token → Option (List Fattr) → Option Gathered
said_of b toks None = None
said_of b toks (Some fs) = Some (gathered b toks fs)

-- the table has, for the number of each name, what the group says that these entities define first under it
abbrev pub Knows : {S : Type 0} → Bytes → List Token → List ℕ → List Entity → IndexMap ℕ Gathered S → Type 0
Knows {S} b toks ids es groups = (name : ℕ) → get nat_eq groups name ≡ said_of b toks (group_in ids es name)
