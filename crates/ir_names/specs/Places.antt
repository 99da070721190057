-- What a table of places knows.
use Rattle.std.specs.Prelude.{◌≡◌, ℕ, ◌≤◌, List, [], ◌∷◌, ◌++◌, length, Option, Some}
use Rattle.std.specs.Str.{bytes_eq}
use Rattle.std.specs.declared.vec.Vec.{Vec}
use Rattle.indexmap.specs.IndexMap.{IndexMap, get}
use Rattle.ir_token.specs.Names.{Name}
use Rattle.ir_token.specs.Names.Name.{Bytes as Spelled}
use Rattle.ir_names.specs.Ids.{first_place}

-- the table has, for all bytes, the place at which they are written first among these names
abbrev pub Knows : {Z S : Type 0} → IndexMap (Vec ℕ Z) ℕ S → List (Option Name) → Type 0
Knows {Z} m before = (q : Vec ℕ Z) → get (λ x y. bytes_eq x.items y.items) m q ≡ first_place q.items before

-- these bytes, written behind those names, stand first at this place, and the table knows it
pub record IsPlaced {Z S : Type 0} (before : List (Option Name)) (w : List ℕ) (place : ℕ) (m : IndexMap (Vec ℕ Z) ℕ S) : Type 0 where
  pub first : (rest : List (Option Name)) → first_place w (before ++ Some (Spelled w) ∷ rest) ≡ Some place
  pub within : place ≤ length before
  pub knows : Knows m (before ++ Some (Spelled w) ∷ [])
