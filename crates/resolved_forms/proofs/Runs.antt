-- Entities one behind another: what each adds to a list of the module, and where that stands.
use Rattle.std.proofs.Common.{◌≡◌, ◌⊎◌, ◌∙◌, ◌+◌, ◌-◌, ◌≤◌, inl, inr, ℕ, List, [], ◌∷◌, ◌++◌, length, slice_get, Some, refl, sym, ap}
use Rattle.std.proofs.Common.{subst, arith}
use Rattle.std.proofs.lemmas.Bool.{cases_lt}
use Rattle.std.proofs.lemmas.Option.{none-some}
use Rattle.shelf.proofs.Shelf.{get_kept, get_left, get_right}
use Rattle.ir_tree.specs.declared.entities.Entity.{Entity}
use Rattle.ir_resolve.specs.Inputs.{Setting}
use Rattle.ir_resolve.specs.Functions.{Before}
use Rattle.ir_resolve.specs.Entities.{behind_entity, each_entity, behind_all, entity_faults}

pub nil_parts : {X : Type 0} (xs ys : List X) → xs ++ ys ≡ [] → (xs ≡ []) × (ys ≡ [])
nil_parts [] ys e = (refl, e)
nil_parts (x ∷ xs) ys e = absurd (cc)

module _ (x : Setting) where
  -- e is one of these entities, and `at` is what stands before it
  abbrev pub Reached : Before → List Entity → Before → Entity → Type 0
  Reached b [] at e = ⊥
  Reached b (d ∷ es) at e = ((b ≡ at) × (d ≡ e)) ⊎ Reached (behind_entity x b d) es at e

  module _ {X : Type 0} (made : Before → Entity → List X) (n : Before → ℕ)
      (counts : (b : Before) (e : Entity) → n (behind_entity x b e) ≡ n b + length (made b e)) where
    above : (b : Before) (es : List Entity) (at : Before) (e : Entity) → Reached b es at e → n b ≤ n at
    above b [] at e h = absurd h
    above b (d ∷ es) at e (inl same) = let eq = ap n same.0 in omega (arith, eq)
    above b (d ∷ es) at e (inr later) = let rest = above (behind_entity x b d) es at e later in let c = counts b d in omega (arith, rest, c)

    -- what stands in the list comes from an entity
    pub come : (b : Before) (es : List Entity) (k : ℕ) (y : X) → slice_get (each_entity x made b es) k ≡ Some y
        → (at : Before) × (e : Entity) × (j : ℕ) × Reached b es at e × (slice_get (made at e) j ≡ Some y) × (n b + k ≡ n at + j)
    come b [] k y is = absurd (none-some y is)
    come b (d ∷ es) k y is = elim (cases_lt k (length (made b d))) [
      | inl l ↦
          (b, d, k, inl (refl, refl), sym (get_left (made b d) (each_entity x made (behind_entity x b d) es) k l) ∙ is, refl)
      | inr l ↦
          (let later = come (behind_entity x b d) es (k - length (made b d)) y
          (sym (get_right (made b d) (each_entity x made (behind_entity x b d) es) k (k - length (made b d)) (omega (arith, l))) ∙ is) in
          let c = counts b d in
          let p = later.5 in
          (later.0, later.1, later.2, inr later.3, later.4, omega (arith, l, c, p)))
    ]

    -- what an entity adds stands in the list
    pub go : (b : Before) (es : List Entity) (at : Before) (e : Entity) → Reached b es at e → (j : ℕ) (y : X) → slice_get (made at e) j ≡ Some y
        → (k : ℕ) → n b + k ≡ n at + j → slice_get (each_entity x made b es) k ≡ Some y
    go b [] at e h j y is k place = absurd h
    go b (d ∷ es) at e (inl same) j y is k place =
        let eq = ap n same.0 in
        let k_is : k ≡ j = omega (arith, eq, place) in
        get_kept (made b d) (each_entity x made (behind_entity x b d) es) k y
        (ap (slice_get (made b d)) k_is ∙ ap (λ z. slice_get (made z d) j) same.0 ∙ ap (λ z. slice_get (made at z) j) same.1 ∙ is)
    go b (d ∷ es) at e (inr later) j y is k place =
        let c = counts b d in
        let up = above (behind_entity x b d) es at e later in
        get_right (made b d) (each_entity x made (behind_entity x b d) es) k (k - length (made b d)) (omega (arith, c, up, place))
        ∙ go (behind_entity x b d) es at e later j y is (k - length (made b d)) (omega (arith, c, up, place))

  -- what stands in a list of a module comes from an entity
  pub comes : {X : Type 0} (made : Before → Entity → List X) (b : Before) (es : List Entity) (k : ℕ) (y : X) → slice_get (each_entity x made b es) k ≡ Some y
      → (at : Before) × (e : Entity) × (j : ℕ) × Reached b es at e × (slice_get (made at e) j ≡ Some y)
  comes made b [] k y is = absurd (none-some y is)
  comes made b (d ∷ es) k y is = elim (cases_lt k (length (made b d))) [
    | inl l ↦
        (b, d, k, inl (refl, refl), sym (get_left (made b d) (each_entity x made (behind_entity x b d) es) k l) ∙ is)
    | inr l ↦
        (let later = comes made (behind_entity x b d) es (k - length (made b d)) y
        (sym (get_right (made b d) (each_entity x made (behind_entity x b d) es) k (k - length (made b d)) (omega (arith, l))) ∙ is) in
        (later.0, later.1, later.2, inr later.3, later.4))
  ]

  -- where nothing is wrong with entities, nothing is with any of them
  pub none_wrong : (b : Before) (es : List Entity) → each_entity x (entity_faults x) b es ≡ [] → (at : Before) (e : Entity) → Reached b es at e
      → entity_faults x at e ≡ []
  none_wrong b [] none at e h = absurd h
  none_wrong b (d ∷ es) none at e (inl same) =
      sym (ap (λ z. entity_faults x z d) same.0 ∙ ap (λ z. entity_faults x at z) same.1) ∙ (nil_parts (entity_faults x b d) _ none).0
  none_wrong b (d ∷ es) none at e (inr later) =
      none_wrong (behind_entity x b d) es (nil_parts (entity_faults x b d) (each_entity x (entity_faults x) (behind_entity x b d) es) none).1 at e later

  -- what each entity keeps holds before each of them, and behind all
  module _ (P : Before → Type 0) (step : (b : Before) (d : Entity) → entity_faults x b d ≡ [] → P b → P (behind_entity x b d)) where
    pub holds_before : (b : Before) (es : List Entity) → each_entity x (entity_faults x) b es ≡ [] → P b → (at : Before) (e : Entity)
        → Reached b es at e → P at
    holds_before b [] none p at e h = absurd h
    holds_before b (d ∷ es) none p at e (inl same) = subst P same.0 p
    holds_before b (d ∷ es) none p at e (inr later) =
        let both = nil_parts (entity_faults x b d) (each_entity x (entity_faults x) (behind_entity x b d) es) none in
        holds_before (behind_entity x b d) es both.1 (step b d both.0 p) at e later

    pub holds_behind : (b : Before) (es : List Entity) → each_entity x (entity_faults x) b es ≡ [] → P b → P (behind_all x b es)
    holds_behind b [] none p = p
    holds_behind b (d ∷ es) none p =
        let both = nil_parts (entity_faults x b d) (each_entity x (entity_faults x) (behind_entity x b d) es) none in
        holds_behind (behind_entity x b d) es both.1 (step b d both.0 p)

  -- a number that no entity lowers is no less behind all than behind any of them
  module _ (P : Before → Type 0) (n : Before → ℕ)
      (step : (b : Before) (d : Entity) → entity_faults x b d ≡ [] → P b → P (behind_entity x b d) × (n b ≤ n (behind_entity x b d))) where
    rises : (b : Before) (es : List Entity) → each_entity x (entity_faults x) b es ≡ [] → P b → n b ≤ n (behind_all x b es)
    rises b [] none p = omega arith
    rises b (d ∷ es) none p =
        let both = nil_parts (entity_faults x b d) (each_entity x (entity_faults x) (behind_entity x b d) es) none in
        let one = step b d both.0 p in
        let less = one.1 in
        let rest = rises (behind_entity x b d) es both.1 one.0 in
        omega (arith, less, rest)

    pub no_less : (b : Before) (es : List Entity) → each_entity x (entity_faults x) b es ≡ [] → P b → (at : Before) (e : Entity) → Reached b es at e
        → n (behind_entity x at e) ≤ n (behind_all x b es)
    no_less b [] none p at e h = absurd h
    no_less b (d ∷ es) none p at e (inl same) =
        let both = nil_parts (entity_faults x b d) (each_entity x (entity_faults x) (behind_entity x b d) es) none in
        let eq = ap (λ z. n (behind_entity x z d)) same.0 ∙ ap (λ z. n (behind_entity x at z)) same.1 in
        let rest = rises (behind_entity x b d) es both.1 (step b d both.0 p).0 in
        omega (arith, eq, rest)
    no_less b (d ∷ es) none p at e (inr later) =
        let both = nil_parts (entity_faults x b d) (each_entity x (entity_faults x) (behind_entity x b d) es) none in
        no_less (behind_entity x b d) es both.1 (step b d both.0 p).0 at e later
