-- When a text is accepted: the layers below, one behind the other.
use Rattle.std.specs.Prelude.{◌≤◌, ℕ, List, length}
use Rattle.ir_token.specs.declared.TheConstants.{MAX_BYTES, MAX_TOKENS}
use Rattle.ir_token.specs.declared.token.Token.{Token}
use Rattle.ir_token.specs.Lists.{AreTokens}
use Rattle.ir_token.specs.Nesting.{nesting_of}
use Rattle.ir_tree.specs.declared.entities.Tree.{Tree}
use Rattle.ir_tree.specs.Fits.{Fits}
use Rattle.ir_module.specs.declared.module.Module.{Module}
use Rattle.ir_resolve.specs.Modules.{Resolved}
use Rattle.ir_verify.specs.Verified.{IsVerified, HaveLayouts}
use Rattle.accept.specs.declared.refusal.TheConstants.{NESTING_LIMIT}
use Rattle.accept.specs.Limits.{KeepsLimits}

-- the text has these tokens, and neither it nor their list is too long
pub record AreFewTokens (b : List ℕ) (toks : List Token) : Type 0 where
  pub small : length b ≤ MAX_BYTES
  pub tokens : AreTokens b toks
  pub few : length toks ≤ MAX_TOKENS

-- nor are too many brackets open at once
pub record IsRead (b : List ℕ) (toks : List Token) : Type 0 where
  pub tokens : AreFewTokens b toks
  pub shallow : nesting_of b toks ≤ NESTING_LIMIT

-- the tokens are those of the text, and this is their tree
pub record IsParsed (b : List ℕ) (toks : List Token) (tree : Tree) : Type 0 where
  pub read : IsRead b toks
  pub fits : Fits b tree toks

-- and this is the module of the tree
pub record IsResolved (b : List ℕ) (toks : List Token) (tree : Tree) (m : Module) : Type 0 where
  pub parsed : IsParsed b toks tree
  pub resolved : Resolved b toks tree m

-- this is the module of the text
abbrev pub IsModuleOf : List ℕ → Module → Type 0
IsModuleOf b m = (toks : List Token) × (tree : Tree) × IsResolved b toks tree m

-- its types can be laid out, and it keeps the rules of the verifier
pub record IsChecked (b : List ℕ) (m : Module) : Type 0 where
  pub is_module : IsModuleOf b m
  pub layouts : HaveLayouts m
  pub verified : IsVerified m

-- the text is accepted: its module is verified and keeps the limits
pub record Accepted (b : List ℕ) (m : Module) : Type 0 where
  pub checked : IsChecked b m
  pub limits : KeepsLimits m
