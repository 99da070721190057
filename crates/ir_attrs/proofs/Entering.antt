-- The table of groups, entity by entity.
use Rattle.std.proofs.Common.{◌≡◌, ℕ, Bool, true, false, cond, nat_eq, List, [], ◌∷◌, ◌++◌, Option, None, Some, get_or, refl, sym, ap, subst, ◌∙◌, arith, inl}
use Rattle.std.proofs.Common.{inr}
use Rattle.std.specs.Prelude.{slice_index, ◌==◌}
use Rattle.std.proofs.lemmas.Bool.Decides.{eqb_tells, nat_tests}
use Rattle.indexmap.specs.IndexMap.{IndexMap, get}
use Rattle.ir_token.specs.Bytes.{Bytes}
use Rattle.ir_token.specs.declared.token.Token.{Token}
use Rattle.ir_tree.specs.declared.attributes.Fattr.{Fattr}
use Rattle.ir_tree.specs.declared.attributes.Gattr.{Gattr}
use Rattle.ir_tree.specs.declared.entities.Entity.{Entity}
use Rattle.ir_tree.specs.declared.entities.Entity.TheVariants.{Opaque, SourceFilename, Target, Named, Attributes, GlobalVar, Declare, Define}
use Rattle.ir_attrs.specs.declared.functions.Gathered.{Gathered}
use Rattle.ir_attrs.specs.Attributes.{group_attrs}
use Rattle.ir_attrs.specs.Functions.{gathered, group_in}
use Rattle.ir_attrs.specs.Groups.{said_of, Knows}

-- what comes first of two
abbrev first : Option (List Fattr) → Option (List Fattr) → Option (List Fattr)
first None y = y
first (Some x) y = Some x

cond_first : (t : Bool) (x y z : Option (List Fattr)) → ((first x z) ≡ x) → cond t x (first y z) ≡ first (cond t x y) z
cond_first true x y z is = sym is
cond_first false x y z is = refl

-- a group of more entities is the first of it
group_more : (ids : List ℕ) (es : List Entity) (e : Entity) (name : ℕ)
    → group_in ids (es ++ e ∷ []) name ≡ first (group_in ids es name) (group_in ids (e ∷ []) name)
group_more ids [] e name = refl
group_more ids (Opaque a ∷ es) e name = group_more ids es e name
group_more ids (SourceFilename a ∷ es) e name = group_more ids es e name
group_more ids (Target a b ∷ es) e name = group_more ids es e name
group_more ids (Named a b ∷ es) e name = group_more ids es e name
group_more ids (Attributes group words ∷ es) e name =
    ap (cond (slice_index ids group == name) (Some (group_attrs words))) (group_more ids es e name)
    ∙ cond_first (slice_index ids group == name) (Some (group_attrs words)) (group_in ids es name) (group_in ids (e ∷ []) name) refl
group_more ids (GlobalVar a ∷ es) e name = group_more ids es e name
group_more ids (Declare a ∷ es) e name = group_more ids es e name
group_more ids (Define a ∷ es) e name = group_more ids es e name

-- only `attributes` define groups
group_other : (ids : List ℕ) (e : Entity) (name : ℕ) → ((group : ℕ) (words : List Gattr) → e ≡ Attributes group words → ⊥) → group_in ids (e ∷ []) name ≡ None
group_other ids (Opaque a) name other = refl
group_other ids (SourceFilename a) name other = refl
group_other ids (Target a b) name other = refl
group_other ids (Named a b) name other = refl
group_other ids (Attributes group words) name other = absurd (other group words refl)
group_other ids (GlobalVar a) name other = refl
group_other ids (Declare a) name other = refl
group_other ids (Define a) name other = refl

first_none : (x : Option (List Fattr)) → first x None ≡ x
first_none None = refl
first_none (Some x) = refl

module _ {S : Type 0} (b : Bytes) (toks : List Token) (ids : List ℕ) (before : List Entity) (old : IndexMap ℕ Gathered S)
    (knows : Knows b toks ids before old) where
  -- an entity that defines no group
  pub knows_other : (e : Entity) → ((group : ℕ) (words : List Gattr) → e ≡ Attributes group words → ⊥) → Knows b toks ids (before ++ e ∷ []) old
  knows_other e other = λ name.
      knows name
      ∙ ap (said_of b toks) (sym (group_more ids before e name ∙ ap (first (group_in ids before name)) (group_other ids e name other)
      ∙ first_none (group_in ids before name)))

  -- a group that has something already
  pub knows_there : (group : ℕ) (words : List Gattr) (x : Gathered) → get nat_eq old (slice_index ids group) ≡ Some x
      → Knows b toks ids (before ++ Attributes group words ∷ []) old
  knows_there group words x there = λ name.
      knows name ∙ ap (said_of b toks) (sym (group_more ids before (Attributes group words) name ∙ by name (group_in ids before name) refl))
    where
      stays : (o : Option (List Fattr)) (y : Option (List Fattr)) → said_of b toks o ≡ Some x → first o y ≡ o
      stays None y is = absurd cc
      stays (Some fs) y is = refl

      by : (name : ℕ) (o : Option (List Fattr)) → group_in ids before name ≡ o → first o (group_in ids (Attributes group words ∷ []) name) ≡ o
      by name o is = elim (eqb_tells (slice_index ids group) name) [
        | inl (yes', same) ↦ stays o _ (ap (said_of b toks) (sym is) ∙ sym (knows name) ∙ ap (get nat_eq old) (sym same) ∙ there)
        | inr (no', other) ↦ ap (λ t. first o (cond t (Some (group_attrs words)) None)) no' ∙ first_none o
      ]

  -- a group that has nothing yet
  pub knows_new : (group : ℕ) (words : List Gattr) (new : IndexMap ℕ Gathered S) (x : Gathered) → get nat_eq old (slice_index ids group) ≡ None
      → x ≡ gathered b toks (group_attrs words) → ((q : ℕ) → get nat_eq new q ≡ cond (nat_eq (slice_index ids group) q) (Some x) (get nat_eq old q))
      → Knows b toks ids (before ++ Attributes group words ∷ []) new
  knows_new group words new x absent is entered = λ name.
      entered name ∙ by name (group_in ids before name) refl ∙ ap (said_of b toks) (sym (group_more ids before (Attributes group words) name))
    where
      none : (o : Option (List Fattr)) → said_of b toks o ≡ None → o ≡ None
      none None h = refl
      none (Some fs) h = absurd cc

      by : (name : ℕ) (o : Option (List Fattr)) → group_in ids before name ≡ o
          → cond (nat_eq (slice_index ids group) name) (Some x) (get nat_eq old name)
          ≡ said_of b toks (first o (group_in ids (Attributes group words ∷ []) name))
      by name o here = elim (eqb_tells (slice_index ids group) name) [
        | inl (yes', same) ↦
            (let empty : o ≡ None = none o (ap (said_of b toks) (sym here) ∙ sym (knows name) ∙ ap (get nat_eq old) (sym same) ∙ absent) in
            ap (λ t. cond t (Some x) (get nat_eq old name)) yes' ∙ ap (λ y. Some y) is
            ∙ sym (ap (λ p. said_of b toks (first p (group_in ids (Attributes group words ∷ []) name))) empty
            ∙ ap (λ t. said_of b toks (cond t (Some (group_attrs words)) None)) yes'))
        | inr (no', other) ↦
            ap (λ t. cond t (Some x) (get nat_eq old name)) no' ∙ knows name ∙ ap (said_of b toks) here
            ∙ sym (ap (said_of b toks) (ap (λ t. first o (cond t (Some (group_attrs words)) None)) no' ∙ first_none o))
      ]
