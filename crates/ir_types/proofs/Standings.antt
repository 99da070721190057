-- What is kept of types, before and after a write.
use Rattle.std.proofs.Common.{ℕ, suc, ◌<◌, ◌≤◌, ◌≡◌, sym, ap, subst, ◌∙◌, arith, inl, inr, Option, None, Some, List, [], ◌∷◌, length, get_or, set}
use Rattle.std.specs.Prelude.{slice_get, IfSome}
use Rattle.std.specs.Option.{option_and_then}
use Rattle.std.proofs.lemmas.Option.{none-some, same_Some, slice_get-get_or}
use Rattle.std.proofs.lemmas.Bool.{cases_eq}
use Rattle.shelf.proofs.Shelf.{get_set_same, get_set_other}
use Rattle.ir_types.specs.declared.ir_type.IrType.{IrType}
use Rattle.ir_types.specs.declared.standing.Extent.{Extent}
use Rattle.ir_types.specs.declared.standing.Standing.{Standing}
use Rattle.ir_types.specs.declared.standing.Standing.TheVariants.{Waiting}
use Rattle.ir_types.specs.Layout.{Layout, laid_out, layout}
use Rattle.ir_types.specs.Standing.{Shows, Agrees, AreSound, IsBlocked, extent_of, laid}
use Rattle.ir_types.proofs.Layouts.{layout_from_entry, layout_tight}

pub laid_same : (ss : List Standing) (t : ℕ) (s : Standing) → t < length ss → laid (set ss t s) t ≡ extent_of s
laid_same ss t s l = ap (option_and_then extent_of) (get_set_same ss t s l)

pub laid_other : (ss : List Standing) (t : ℕ) (s : Standing) (u : ℕ) → (u ≡ t → ⊥) → laid (set ss t s) u ≡ laid ss u
laid_other ss t s u n = ap (option_and_then extent_of) (get_set_other ss t u s n)

-- a type that waits is not laid out
pub open_before : (ss : List Standing) (t : ℕ) (d : Standing) (known : ℕ) → t < length ss → get_or ss t d ≡ Waiting known → laid ss t ≡ None
open_before ss t d known l e = ap (option_and_then extent_of) (slice_get-get_or ss t d l ∙ ap Some e)

-- a write that lays nothing out
pub laid_alike : (ss : List Standing) (t : ℕ) (s : Standing) → t < length ss → extent_of s ≡ None → laid ss t ≡ None → (u : ℕ) → laid (set ss t s) u ≡ laid ss u
laid_alike ss t s l e o u =
    elim (cases_eq u t) [
      | inl same ↦ rw same (laid_same ss t s l ∙ e ∙ sym o)
      | inr other ↦ laid_other ss t s u other
    ]

some_of : (P : Extent → Type 0) (o : Option Extent) (x : Extent) → IfSome o P → o ≡ Some x → P x
some_of P None x h e = absurd (none-some x e)
some_of P (Some y) x h e = subst P (same_Some y x e) h

pub blocked_alike : (old new : List Standing) (type : IrType) → ((u : ℕ) → laid new u ≡ laid old u) → IsBlocked old type → IsBlocked new type
blocked_alike old new type h b = record { part = b.part; is_part = b.is_part; deep = λ e is. b.deep e (sym (h b.part) ∙ is) }

-- what a new standing says of its type
abbrev pub SaysExtent : List Standing → IrType → Extent → Type 0
SaysExtent ss type e = (of : ℕ → Option Layout) → Agrees of ss → (l : Layout) × (laid_out of type ≡ Some l) × Shows l e

-- an extent from sound extents is sound
new_extent : (types : List IrType) (ss : List Standing) (t : ℕ) (type : IrType) (e : Extent) → slice_get types t ≡ Some type → AreSound types ss
    → SaysExtent ss type e → (l : Layout) × (layout types 64 t ≡ Some l) × Shows l e
new_extent types ss t type e at sound says =
    let from = says (layout types 64) sound in
    let deep : layout types (suc 64) t ≡ Some from.0 = layout_from_entry types 64 t from.0 type at from.1 in
    let few : from.0.nesting ≤ 64 = omega (arith, from.2.nesting, e.nesting_bound) in
    (from.0, layout_tight types 64 t from.0 deep few, from.2)

pub sound_set : (types : List IrType) (ss : List Standing) (t : ℕ) (s : Standing) (type : IrType) → t < length ss → slice_get types t ≡ Some type
    → AreSound types ss → IfSome (extent_of s) (SaysExtent ss type) → AreSound types (set ss t s)
sound_set types ss t s type l at sound says u e is =
    elim (cases_eq u t) [
      | inl same ↦
          (let here : extent_of s ≡ Some e = sym (laid_same ss t s l) ∙ (rw same at is) in
          let of_t = new_extent types ss t type e at sound (some_of (SaysExtent ss type) (extent_of s) e says here) in
          rw same of_t)
      | inr other ↦ sound u e (sym (laid_other ss t s u other) ∙ is)
    ]

pub blocked_set : (types : List IrType) (ss : List Standing) (t : ℕ) (s : Standing) (type : IrType) → t < length ss → slice_get types t ≡ Some type
    → laid ss t ≡ None → (extent_of s ≡ None → IsBlocked ss type) → (ty : IrType) → slice_get types t ≡ Some ty → laid (set ss t s) t ≡ None
    → IsBlocked (set ss t s) ty
blocked_set types ss t s type l at before says ty at' is =
    let here : extent_of s ≡ None = sym (laid_same ss t s l) ∙ is in
    subst (IsBlocked (set ss t s)) (same_Some type ty (sym at ∙ at')) (blocked_alike ss (set ss t s) type (laid_alike ss t s l here before) (says here))
