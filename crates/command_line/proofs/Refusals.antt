-- What the written command's answers say of clap's definition of it.
use Rattle.std.proofs.Common.{◌≡◌, ◌≢◌, [], ◌∷◌, true, refl, inl, inr}
use Rattle.clap.specs.declared.error.Error.{Error}
use Rattle.clap.specs.declared.error.kind.ErrorKind.TheVariants as kind
use Rattle.clap.specs.Words.{HasKind, Kinds, is_simple, is_simple_and_free, kind_of}
use Rattle.command_line.specs.Command.{Names, written}

-- the written command is one of which clap's definitions speak
pub is_defined : (names : Names) → is_simple_and_free (written names) ≡ true
is_defined names = refl

pub is_matched : (names : Names) → is_simple (written names) ≡ true
is_matched names = refl

-- an error that is no want of memory has a kind that the definition gives
pub some_kind : (kinds : Kinds) (e : Error) → HasKind kinds e → kind_of e ≢ kind.OutOfMemory → kinds ≢ []
some_kind kinds e (inl memory) other none = other memory
some_kind [] e (inr among) other none = among
some_kind (k ∷ ks) e (inr among) other none = cc
