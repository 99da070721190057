use Rattle.std.proofs.Common.{◌≡◌, ℕ, List, ◌++◌, take}
use Rattle.std.specs.List.{flat_map}
use Rattle.ir_token.specs.declared.token.Token.{Token}
use Rattle.ir_tree.specs.declared.attributes.Fattr.{Fattr}
use Rattle.ir_tree.specs.declared.entities.Entity.{Entity}
use Rattle.ir_attrs.specs.Functions.{gathered, named_attrs, group_in}
use Rattle.ir_attrs.specs.Groups.{Knows}
use Rattle.ir_attrs.proofs.functions.with_groups.Given as goal

abbrev pub invariant-loop-word : goal.invariant-loop-word
invariant-loop-word l = (b : List ℕ) (toks : List Token) (entities : List Entity) (before : List Fattr) → Knows b toks l.ids entities l.groups
    → l.fn.own ≡ gathered b toks before
    → l.said ≡ gathered b toks (before ++ flat_map (named_attrs l.ids (group_in l.ids entities)) (take l.word-index l.words))
