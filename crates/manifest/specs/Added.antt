-- What is added: attributes, at a place of the text, to a thing of the module.
use Rattle.std.specs.Prelude.{ℕ, zero, suc, List, [], ◌∷◌, ◌++◌}
use Rattle.attr_ids.specs.declared.insertion.Place.{Place}
use Rattle.attr_ids.specs.declared.insertion.Insertion.{Insertion}
use Rattle.ir_module.specs.declared.module.Spot.{Spot}
use Rattle.manifest.specs.Attrs.{Attr}
use Rattle.manifest.specs.Spelling.{words_of}

-- what attributes are added to: a body or what it returns, a parameter of a body, a call or what it returns, an argument of a call
pub data Subject : Type 0 where
  OfBody : (f : ℕ) → Subject
  OfParam : (f at : ℕ) → Subject
  OfCall : (spot : Spot) → Subject
  OfArg : (spot : Spot) (at : ℕ) → Subject

-- attributes that are added, at an offset of the text
pub record Added : Type 0 where
  pub at : ℕ
  pub place : Place
  pub subject : Subject
  pub attrs : List Attr

-- these attributes at a place, if there are any
abbrev pub put : ℕ → Place → Subject → List Attr → List Added
put at place subject [] = []
put at place subject (attr ∷ attrs) = record { at = at; place = place; subject = subject; attrs = attr ∷ attrs } ∷ []

-- the insertion that adds them
abbrev pub inserted : Added → Insertion
inserted a = record { at = a.at; place = a.place; words = words_of a.attrs }

-- what the numbers below n give, one after the other
unfoldable pub joined : {X : Type 0} → (ℕ → List X) → ℕ → List X
joined part zero = []
joined part (suc n) = joined part n ++ part n
