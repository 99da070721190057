-- Why the tokens of a text are no module.
use Rattle.std.specs.Prelude.{◌≡◌, ◌<◌, ℕ, List, None, length}
use Rattle.ir_token.specs.Bytes.{Bytes}
use Rattle.ir_token.specs.declared.token.Token.{Token}
use Rattle.ir_tree.specs.declared.entities.Entity.{Entity}
use Rattle.ir_tree.specs.Steps.{Longest, Taken}
use Rattle.ir_tree.specs.Terminals.{terminals}
use Rattle.ir_tree.specs.Entities.{entity}
use Rattle.ir_parse_body.specs.Refusals.{offset}
use Rattle.ir_parse_body.specs.declared.refusal.SyntaxRefusal.{SyntaxRefusal}
use Rattle.ir_parse_body.specs.declared.refusal.SyntaxRefusal.TheVariants.{Syntax, NoMemory}

-- Entities fit up to a token, each the longest from its own, and from this token on none fits. It begins at this byte.
pub record StopsAt (b : Bytes) (ts : List Token) (byte : ℕ) : Type 0 where
  pub before : List Entity
  pub at : ℕ
  pub taken : Taken (entity (terminals b ts)) before 0 at
  pub more : at < length ts
  pub none : Longest (entity (terminals b ts)) at None
  pub begins : byte ≡ offset b ts at

-- what is said of the text is so
abbrev pub IsRefusalOf : Bytes → List Token → SyntaxRefusal → Type 0
IsRefusalOf b ts (Syntax byte) = StopsAt b ts byte
IsRefusalOf b ts NoMemory = Unit {0}
