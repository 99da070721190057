-- The longest flag of a getelementptr.
use Rattle.std.proofs.Common.{◌≡◌, ℕ, List, [], ◌∷◌, None, Some, sym, ◌∙◌}
use Rattle.std.proofs.lemmas.Option.{none-some}
use Rattle.ir_tree.specs.declared.terminal.Terminal.{Terminal}
use Rattle.ir_tree.specs.declared.terminal.Terminal.TheVariants as k
use Rattle.ir_tree.specs.declared.constants.Gepflag.{Gepflag}
use Rattle.ir_tree.specs.declared.constants.Gepflag.TheVariants.{Word, InRange}
use Rattle.ir_tree.specs.Steps.{◌⨾◌, among, the, leaf, Longest}
use Rattle.ir_tree.specs.Constants.{gepflag}
use Rattle.ir_tree.proofs.Clear.{split}
use Rattle.ir_tree.proofs.ClearConstants.{gepflag_known}
use Rattle.ir_parse_parts.specs.Parts.{any_of, in_range}
use Rattle.ir_parse_parts.proofs.Longest.{taken, passing_itself, passing_behind, the_of_leaf, longest_by}

module _ (toks : List Terminal) (a : ℕ) where
  abbrev words : List Terminal
  words = k.Nuw ∷ k.Gepflag ∷ []

  pub flag_word : (b : ℕ) → Some b ≡ any_of toks words a → Longest (gepflag toks) a (Some (Word a, b))
  flag_word b h = longest_by ((gepflag_known toks).at a) (Word a) b (passing_itself toks (among words) a ∙ sym h) (λ n. n)

  pub flag_none : None ≡ any_of toks words a → Longest (in_range toks) a None → Longest (gepflag toks) a None
  flag_none h l = go
    where
      go : (u : Gepflag) (c : ℕ) → gepflag toks u a ≡ Some c → ⊥
      go (Word at) c e = none-some c (h ∙ passing_behind toks (among words) a at c e)
      go (InRange word from to) c e =
          let s = split (leaf toks k.InRange word a) (the toks k.LeftParen ⨾ leaf toks k.Int from ⨾ the toks k.Comma ⨾ leaf toks k.Int to ⨾ the toks
          k.RightParen) c e in
          l (from, to) c (taken (the toks k.InRange a) s.0 (the toks k.LeftParen ⨾ leaf toks k.Int from ⨾ the toks k.Comma ⨾ leaf toks k.Int to ⨾ the toks
          k.RightParen) (Some c) (the_of_leaf toks k.InRange a word s.0 s.1.0) s.1.1)
