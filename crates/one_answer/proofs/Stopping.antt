-- Tokens that a tree fits do not stop before their end: where an entity fits, the longest is the next of the tree.
use Rattle.std.proofs.Common.{arith, ◌≡◌, ◌<◌, ◌≤◌, ℕ, List, [], ◌∷◌, length, None, Some, sym, subst}
use Rattle.std.proofs.lemmas.List.{length-map}
use Rattle.ir_token.specs.declared.token.Token.{Token}
use Rattle.ir_tree.specs.declared.terminal.Terminal.{Terminal}
use Rattle.ir_tree.specs.declared.entities.Entity.{Entity}
use Rattle.ir_tree.specs.declared.entities.Tree.{Tree}
use Rattle.ir_tree.specs.Steps.{Longest, Taken}
use Rattle.ir_tree.specs.Terminals.{terminal, terminals}
use Rattle.ir_tree.specs.Entities.{entity}
use Rattle.ir_tree.specs.Fits.{Fits}
use Rattle.ir_tree.proofs.Clear.{moves}
use Rattle.ir_tree.proofs.ClearEntities.{entity_of}
use Rattle.ir_parse_top.specs.Refusals.{StopsAt}

module _ (toks : List Terminal) where
  entity_moves : (t : Entity) (a b : ℕ) → entity toks t a ≡ Some b → a < b
  entity_moves t a b e = (moves toks (entity_of toks).first a b (((entity_of toks).at a).opens t b e)).0

  taken_up : (ts : List Entity) (a b : ℕ) → Taken (entity toks) ts a b → a ≤ b
  taken_up [] a b h = omega (arith, h)
  taken_up (t ∷ ts) a b h = omega (arith, entity_moves t a h.0 h.1.0.0, taken_up ts h.0 b h.1.1)

  -- two entities that are the longest from a place end at one
  same_end : (t u : Entity) (a b c : ℕ) → Longest (entity toks) a (Some (t, b)) → Longest (entity toks) a (Some (u, c)) → b ≡ c
  same_end t u a b c h g =
      let up : c ≤ b = h.1 u c g.0 in
      let down : b ≤ c = g.1 t b h.0 in
      omega arith

  -- where entities are taken to the end, none of the places on the way is one from which none fits
  goes_on : (ts us : List Entity) (a b stop : ℕ) → Taken (entity toks) ts a b → Taken (entity toks) us a stop → stop < b →
      Longest (entity toks) stop None → ⊥
  goes_on [] us a b stop h g less none = let up = taken_up us a stop g in omega (arith, h, up, less)
  goes_on (t ∷ ts) [] a b stop h g less none = none t h.0 (subst (λ p. entity toks t p ≡ Some h.0) g h.1.0.0)
  goes_on (t ∷ ts) (u ∷ us) a b stop h g less none =
      let same = same_end t u a h.0 g.0 h.1.0 g.1.0 in
      goes_on ts us h.0 b stop h.1.1 (subst (λ p. Taken (entity toks) us p stop) (sym same) g.1.1) less none

-- a text whose tokens a tree fits stops nowhere
pub fits_without_stop : (b : List ℕ) (ts : List Token) (tree : Tree) (byte : ℕ) → Fits b tree ts → StopsAt b ts byte → ⊥
fits_without_stop b ts tree byte fits stops =
    goes_on (terminals b ts) tree.entities stops.before 0 (length (terminals b ts)) stops.at fits stops.taken
    (let long = length-map ts (terminal b) in let more = stops.more in omega (arith, long, more)) stops.none
