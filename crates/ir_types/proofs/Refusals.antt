-- The refusals by the parts of a type.
use Rattle.std.proofs.Common.{ℕ, zero, suc, ◌<◌, ◌^◌, ◌≡◌, refl, sym, ap, subst, ◌∙◌, inl, inr, true, false, Bool, Option, None, Some, Ok, Err, Result}
use Rattle.std.proofs.Common.{List, [], ◌∷◌, get_or, lt-ltb}
use Rattle.std.specs.Prelude.{slice_get, nat_lt, if◌then◌else◌, ◌⊎◌, ◌↔◌, ◌&&◌}
use Rattle.std.specs.Option.{option_map, option_and_then}
use Rattle.std.specs.List.{list_all}
use Rattle.std.proofs.Math.Bool.{and-false}
use Rattle.std.proofs.lemmas.Option.{none-some, same_Some, slice_get-get_or}
use Rattle.std.proofs.lemmas.Bool.{ltb-true, true≢false}
use Rattle.ir_types.specs.declared.ir_type.IrType.{IrType}
use Rattle.ir_types.specs.declared.ir_type.IrType.TheVariants.{Void, Int, Ptr, Array, Struct, Opaque}
use Rattle.ir_types.specs.declared.refusal.TypeRefusal.{TypeRefusal}
use Rattle.ir_types.specs.declared.refusal.TypeRefusal.TheVariants as refused
use Rattle.ir_types.specs.IrType.{numbers, parts}
use Rattle.ir_types.specs.Layout.{Layout, every, joined, laid_out, undivided, unsized, scalar, int_size, array_of, struct_of, layout}
use Rattle.ir_types.specs.Standing.{Has}
use Rattle.ir_types.specs.TypeTable.{checked, size}
use Rattle.ir_types.specs.Refusals.{IsReached, IsWhole, IsComposite, IsDeeper, HasUnsizedPart, IsHuge, AreRefusedByParts}
use Rattle.ir_types.proofs.Layouts.{map_some, joined_some, laid_out_part, layout_entry, layout_flat, layout_more}

-- ---- a type that is not laid out has a part that is not
every_lacks : (f : ℕ → Option Layout) (ts : List ℕ) → every f ts ≡ None → (t : ℕ) × Has ts t × (f t ≡ None)
every_lacks f [] e = absurd (none-some [] (sym e))
every_lacks f (t ∷ ts) e = go (f t) refl (every f ts) refl (every_lacks f ts)
  where
    go : (o : Option Layout) → f t ≡ o → (others : Option (List Layout)) → every f ts ≡ others
        → (every f ts ≡ None → (u : ℕ) × Has ts u × (f u ≡ None)) → (u : ℕ) × Has (t ∷ ts) u × (f u ≡ None)
    go None is others rest later = (t, (zero, refl), is)
    go (Some l) is None rest later = let u = later rest in (u.0, (suc u.1.0, u.1.1), u.2)
    go (Some l) is (Some ls) rest later =
        let all : joined (f t) (every f ts) ≡ Some (l ∷ ls) = rw (is, rest) refl in
        absurd (none-some (l ∷ ls) (sym e ∙ all))

laid_out_lacks : (f : ℕ → Option Layout) (type : IrType) → laid_out f type ≡ None → (part : ℕ) × Has (parts type) part × (f part ≡ None)
laid_out_lacks f Void e = absurd (none-some unsized (sym e))
laid_out_lacks f (Int width) e = absurd (none-some (scalar (int_size width)) (sym e))
laid_out_lacks f Ptr e = absurd (none-some (scalar 8) (sym e))
laid_out_lacks f Opaque e = absurd (none-some unsized (sym e))
laid_out_lacks f (Array count elem) e = go (f elem.0) refl
  where
    go : (o : Option Layout) → f elem.0 ≡ o → (part : ℕ) × Has (parts (Array count elem)) part × (f part ≡ None)
    go None is = (elem.0, (zero, refl), is)
    go (Some l) is =
        let there : option_map (array_of count) (f elem.0) ≡ Some (array_of count l) = rw is refl in
        absurd (none-some (array_of count l) (sym e ∙ there))
laid_out_lacks f (Struct fields packed) e = go (every f (numbers fields)) refl
  where
    go : (o : Option (List Layout)) → every f (numbers fields) ≡ o → (part : ℕ) × Has (parts (Struct fields packed)) part × (f part ≡ None)
    go None is = every_lacks f (numbers fields) is
    go (Some ls) is =
        let there : option_map (struct_of packed) (every f (numbers fields)) ≡ Some (struct_of packed ls) = rw is refl in
        absurd (none-some (struct_of packed ls) (sym e ∙ there))

composite_if_divided : (type : IrType) → undivided type ≡ None → IsComposite type
composite_if_divided Void e = absurd (none-some unsized (sym e))
composite_if_divided (Int width) e = absurd (none-some (scalar (int_size width)) (sym e))
composite_if_divided Ptr e = absurd (none-some (scalar 8) (sym e))
composite_if_divided Opaque e = absurd (none-some unsized (sym e))
composite_if_divided (Array count elem) e = tt
composite_if_divided (Struct fields packed) e = tt

divided_if_composite : (type : IrType) → IsComposite type → undivided type ≡ None
divided_if_composite Void h = absurd h
divided_if_composite (Int width) h = absurd h
divided_if_composite Ptr h = absurd h
divided_if_composite Opaque h = absurd h
divided_if_composite (Array count elem) h = refl
divided_if_composite (Struct fields packed) h = refl

composite_if_part : (type : IrType) (part : ℕ) → Has (parts type) part → IsComposite type
composite_if_part Void part (k, at) = absurd (none-some part at)
composite_if_part (Int width) part (k, at) = absurd (none-some part at)
composite_if_part Ptr part (k, at) = absurd (none-some part at)
composite_if_part Opaque part (k, at) = absurd (none-some part at)
composite_if_part (Array count elem) part h = tt
composite_if_part (Struct fields packed) part h = tt

-- ---- deep types
flat_lacks : (types : List IrType) (t : ℕ) (type : IrType) → slice_get types t ≡ Some type → layout types zero t ≡ None → undivided type ≡ None
unfolding layout
flat_lacks types t type at e = subst (λ (o : Option IrType). option_and_then undivided o ≡ None) at e

entry_lacks : (types : List IrType) (k t : ℕ) (type : IrType) → slice_get types t ≡ Some type → layout types (suc k) t ≡ None
    → laid_out (layout types k) type ≡ None
unfolding layout
entry_lacks types k t type at e = subst (λ (o : Option IrType). option_and_then (laid_out (layout types k)) o ≡ None) at e

lacks_flat : (types : List IrType) (t : ℕ) (type : IrType) → slice_get types t ≡ Some type → undivided type ≡ None → layout types zero t ≡ None
unfolding layout
lacks_flat types t type at e = rw at e

-- no layout: the parts go deeper
deeper_if_none : (types : List IrType) (k t : ℕ) → IsWhole types t → layout types k t ≡ None → IsDeeper types k t
deeper_if_none types zero t whole e =
    let at = slice_get-get_or types t Void (whole zero t refl) in
    (get_or types t Void, at, composite_if_divided (get_or types t Void) (flat_lacks types t (get_or types t Void) at e))
deeper_if_none types (suc k) t whole e =
    let type = get_or types t Void in
    let at = slice_get-get_or types t Void (whole zero t refl) in
    let lacks = laid_out_lacks (layout types k) type (entry_lacks types k t type at e) in
    (type, lacks.0, at, lacks.1, deeper_if_none types k lacks.0 (λ steps u reached. whole (suc steps) u (type, lacks.0, at, lacks.1, reached)) lacks.2)

-- the part of a type that is laid out
part_of : (types : List IrType) (k t : ℕ) (l : Layout) (type : IrType) (part : ℕ) → layout types (suc k) t ≡ Some l → slice_get types t ≡ Some type
    → Has (parts type) part → (q : Layout) × (layout types k part ≡ Some q)
part_of types k t l type part e at has =
    let from = layout_entry types k t l e in
    let same : type ≡ from.0 = same_Some type from.0 (sym at ∙ from.1) in
    let q = laid_out_part (layout types k) from.0 l part from.2 (subst (λ (x : IrType). Has (parts x) part) same has) in
    (q.0, q.1)

none_if_deeper : (types : List IrType) (k t : ℕ) → IsDeeper types k t → layout types k t ≡ None
none_if_deeper types zero t (type, at, composite) = lacks_flat types t type at (divided_if_composite type composite)
none_if_deeper types (suc k) t (type, part, at, has, deeper) = go (layout types (suc k) t) refl (none_if_deeper types k part deeper)
  where
    go : (o : Option Layout) → layout types (suc k) t ≡ o → layout types k part ≡ None → layout types (suc k) t ≡ None
    go None e below = e
    go (Some l) e below = let q = part_of types k t l type part e at has in absurd (none-some q.0 (sym below ∙ q.1))

-- ---- rings
deeper_less : (types : List IrType) (k t : ℕ) → IsDeeper types (suc k) t → IsDeeper types k t
deeper_less types zero t (type, part, at, has, deeper) = (type, at, composite_if_part type part has)
deeper_less types (suc k) t (type, part, at, has, deeper) = (type, part, at, has, deeper_less types k part deeper)

deeper_before : (types : List IrType) (k steps t u : ℕ) → IsReached types steps t u → IsDeeper types k u → IsDeeper types k t
deeper_before types k zero t u e deeper = subst (IsDeeper types k) (sym e) deeper
deeper_before types k (suc steps) t u (type, part, at, has, reached) deeper =
    deeper_less types k t (type, part, at, has, deeper_before types k steps part u reached deeper)

-- a type that is reached from itself has no greatest nesting
ring_deeper : (types : List IrType) (steps t : ℕ) → IsReached types (suc steps) t t → (k : ℕ) → IsDeeper types k t
ring_deeper types steps t (type, part, at, has, reached) zero = (type, at, composite_if_part type part has)
ring_deeper types steps t (type, part, at, has, reached) (suc k) =
    (type, part, at, has, deeper_before types k steps part t reached (ring_deeper types steps t (type, part, at, has, reached) k))

-- ---- types without a size
sized_and : (a b : Bool) → (a && b) ≡ false → a ≡ true → b ≡ false
sized_and true b e is = e
sized_and false b e is = absurd (true≢false (sym is))

every_unsized : (f : ℕ → Option Layout) (ts : List ℕ) (ls : List Layout) → every f ts ≡ Some ls → list_all (λ (l : Layout). l.is_sized) ls ≡ false
    → (part : ℕ) × (q : Layout) × Has ts part × (f part ≡ Some q) × (q.is_sized ≡ false)
every_unsized f [] ls e s = absurd (true≢false (ap (list_all (λ (l : Layout). l.is_sized)) (same_Some [] ls e) ∙ s))
every_unsized f (t ∷ ts) ls e s =
    let split = joined_some (f t) (every f ts) ls e in
    let all : (split.0.is_sized && list_all (λ (l : Layout). l.is_sized) split.1) ≡ false = ap (list_all (λ (l : Layout). l.is_sized)) split.4 ∙ s in
    go split.0.is_sized split.0 split.1 refl split.2 all (every_unsized f ts split.1 split.3)
  where
    go : (b : Bool) (l : Layout) (rest : List Layout) → l.is_sized ≡ b → f t ≡ Some l → (l.is_sized && list_all (λ (l : Layout). l.is_sized) rest) ≡ false
        → (list_all (λ (l : Layout). l.is_sized) rest ≡ false → (part : ℕ) × (q : Layout) × Has ts part × (f part ≡ Some q) × (q.is_sized ≡ false))
        → (part : ℕ) × (q : Layout) × Has (t ∷ ts) part × (f part ≡ Some q) × (q.is_sized ≡ false)
    go false l rest is one all later = (t, l, (zero, refl), one, is)
    go true l rest is one all later =
        let found = later (sized_and l.is_sized (list_all (λ (l : Layout). l.is_sized) rest) all is) in
        (found.0, found.1, (suc found.2.0, found.2.1), found.3, found.4)

unsized_every : (f : ℕ → Option Layout) (ts : List ℕ) (ls : List Layout) (k part : ℕ) (q : Layout) → every f ts ≡ Some ls → slice_get ts k ≡ Some part
    → f part ≡ Some q → q.is_sized ≡ false
    → list_all (λ (l : Layout). l.is_sized) ls ≡ false
unsized_every f [] ls k part q e at is s = absurd (none-some part at)
unsized_every f (t ∷ ts) ls zero part q e at is s =
    let split = joined_some (f t) (every f ts) ls e in
    let same : split.0 ≡ q = same_Some split.0 q (sym split.2 ∙ ap f (same_Some t part at) ∙ is) in
    let first : split.0.is_sized ≡ false = rw same s in
    let all : (split.0.is_sized && list_all (λ (l : Layout). l.is_sized) split.1) ≡ false = rw first refl in
    sym (ap (list_all (λ (l : Layout). l.is_sized)) split.4) ∙ all
unsized_every f (t ∷ ts) ls (suc k) part q e at is s =
    let split = joined_some (f t) (every f ts) ls e in
    let later : list_all (λ (l : Layout). l.is_sized) split.1 ≡ false = unsized_every f ts split.1 k part q split.3 at is s in
    let all : (split.0.is_sized && list_all (λ (l : Layout). l.is_sized) split.1) ≡ false = rw later (and-false split.0.is_sized) in
    sym (ap (list_all (λ (l : Layout). l.is_sized)) split.4) ∙ all

-- what is unsized is void, opaque, or has an unsized part
laid_out_unsized : (f : ℕ → Option Layout) (type : IrType) (l : Layout) → laid_out f type ≡ Some l → l.is_sized ≡ false
    → ((type ≡ Void) ⊎ (type ≡ Opaque)) ⊎ ((part : ℕ) × (q : Layout) × Has (parts type) part × (f part ≡ Some q) × (q.is_sized ≡ false))
laid_out_unsized f Void l e s = inl (inl refl)
laid_out_unsized f Opaque l e s = inl (inr refl)
laid_out_unsized f (Int width) l e s = absurd (true≢false (ap (λ (x : Layout). x.is_sized) (same_Some (scalar (int_size width)) l e) ∙ s))
laid_out_unsized f Ptr l e s = absurd (true≢false (ap (λ (x : Layout). x.is_sized) (same_Some (scalar 8) l e) ∙ s))
laid_out_unsized f (Array count elem) l e s =
    let from = map_some (array_of count) (f elem.0) l e in
    inr (elem.0, from.0, (zero, refl), from.1, ap (λ (x : Layout). x.is_sized) from.2 ∙ s)
laid_out_unsized f (Struct fields packed) l e s =
    let from = map_some (struct_of packed) (every f (numbers fields)) l e in
    inr (every_unsized f (numbers fields) from.0 from.1 (ap (λ (x : Layout). x.is_sized) from.2 ∙ s))

unsized_laid_out : (f : ℕ → Option Layout) (type : IrType) (l : Layout) (part : ℕ) (q : Layout) → laid_out f type ≡ Some l → Has (parts type) part
    → f part ≡ Some q → q.is_sized ≡ false → l.is_sized ≡ false
unsized_laid_out f Void l part q e (k, at) is s = absurd (none-some part at)
unsized_laid_out f (Int width) l part q e (k, at) is s = absurd (none-some part at)
unsized_laid_out f Ptr l part q e (k, at) is s = absurd (none-some part at)
unsized_laid_out f Opaque l part q e (k, at) is s = absurd (none-some part at)
unsized_laid_out f (Array count elem) l part q e (zero, at) is s =
    let from = map_some (array_of count) (f elem.0) l e in
    let same : from.0 ≡ q = same_Some from.0 q (sym from.1 ∙ ap f (same_Some elem.0 part at) ∙ is) in
    sym (ap (λ (x : Layout). x.is_sized) from.2) ∙ ap (λ (x : Layout). x.is_sized) same ∙ s
unsized_laid_out f (Array count elem) l part q e (suc k, at) is s = absurd (none-some part at)
unsized_laid_out f (Struct fields packed) l part q e (k, at) is s =
    let from = map_some (struct_of packed) (every f (numbers fields)) l e in
    sym (ap (λ (x : Layout). x.is_sized) from.2) ∙ unsized_every f (numbers fields) from.0 k part q from.1 at is s

flat_unsized : (type : IrType) (l : Layout) → undivided type ≡ Some l → l.is_sized ≡ false → (type ≡ Void) ⊎ (type ≡ Opaque)
flat_unsized Void l e s = inl refl
flat_unsized Opaque l e s = inr refl
flat_unsized (Int width) l e s = absurd (true≢false (ap (λ (x : Layout). x.is_sized) (same_Some (scalar (int_size width)) l e) ∙ s))
flat_unsized Ptr l e s = absurd (true≢false (ap (λ (x : Layout). x.is_sized) (same_Some (scalar 8) l e) ∙ s))
flat_unsized (Array count elem) l e s = absurd (none-some l e)
flat_unsized (Struct fields packed) l e s = absurd (none-some l e)

unsized_here : (types : List IrType) (t : ℕ) (type : IrType) → slice_get types t ≡ Some type → (type ≡ Void) ⊎ (type ≡ Opaque) → HasUnsizedPart types t
unsized_here types t type at (inl void) = (zero, t, refl, inl (at ∙ ap Some void))
unsized_here types t type at (inr opaque) = (zero, t, refl, inr (at ∙ ap Some opaque))

part_if_unsized : (types : List IrType) (k t : ℕ) (l : Layout) → layout types k t ≡ Some l → l.is_sized ≡ false → HasUnsizedPart types t
part_if_unsized types zero t l e s =
    let from = layout_flat types t l e in
    unsized_here types t from.0 from.1 (flat_unsized from.0 l from.2 s)
part_if_unsized types (suc k) t l e s =
    let from = layout_entry types k t l e in
    elim (laid_out_unsized (layout types k) from.0 l from.2 s) [
      | inl here ↦ unsized_here types t from.0 from.1 here
      | inr more ↦
          (let rest = part_if_unsized types k more.0 more.1 more.3 more.4 in
          (suc rest.0, rest.1, (from.0, more.0, from.1, more.2, rest.2), rest.3))
    ]

unsized_if_here : (types : List IrType) (k t : ℕ) (l : Layout) → layout types k t ≡ Some l
    → (slice_get types t ≡ Some Void) ⊎ (slice_get types t ≡ Some Opaque) → l.is_sized ≡ false
unsized_if_here types k t l e here =
    let from = layout_entry types k t l (layout_more types k t l e) in
    elim here [
      | inl void ↦
          (let same : from.0 ≡ Void = same_Some from.0 Void (sym from.1 ∙ void) in
          let flat : laid_out (layout types k) Void ≡ Some l = subst (λ (x : IrType). laid_out (layout types k) x ≡ Some l) same from.2 in
          sym (ap (λ (x : Layout). x.is_sized) (same_Some unsized l flat)))
      | inr opaque ↦
          (let same : from.0 ≡ Opaque = same_Some from.0 Opaque (sym from.1 ∙ opaque) in
          let flat : laid_out (layout types k) Opaque ≡ Some l = subst (λ (x : IrType). laid_out (layout types k) x ≡ Some l) same from.2 in
          sym (ap (λ (x : Layout). x.is_sized) (same_Some unsized l flat)))
    ]

unsized_if_part : (types : List IrType) (k t : ℕ) (l : Layout) (steps u : ℕ) → layout types k t ≡ Some l → IsReached types steps t u
    → (slice_get types u ≡ Some Void) ⊎ (slice_get types u ≡ Some Opaque) → l.is_sized ≡ false
unsized_if_part types k t l zero u e same here =
    unsized_if_here types k t l e (subst (λ (x : ℕ). (slice_get types x ≡ Some Void) ⊎ (slice_get types x ≡ Some Opaque)) (sym same) here)
unsized_if_part types k t l (suc steps) u e (type, part, at, has, reached) here =
    let more = layout_more types k t l e in
    let from = layout_entry types k t l more in
    let same : type ≡ from.0 = same_Some type from.0 (sym at ∙ from.1) in
    let has_part : Has (parts from.0) part = subst (λ (x : IrType). Has (parts x) part) same has in
    let q = part_of types k t l type part more at has in
    unsized_laid_out (layout types k) from.0 l part q.0 from.2 has_part q.1 (unsized_if_part types k part q.0 steps u q.1 reached here)

-- ---- from layouts to refusals
one_refusal : (x y : TypeRefusal) → ◌≡◌ {A = Result ℕ TypeRefusal} (Err x) (Err y) → x ≡ y
one_refusal x y e = cc

no_refusal : (n : ℕ) (x : TypeRefusal) → ◌≡◌ {A = Result ℕ TypeRefusal} (Ok n) (Err x) → ⊥
no_refusal n x e = cc

huge_is_not_deep : refused.Huge ≡ refused.Deep → ⊥
huge_is_not_deep e = cc

unsized_is_not_deep : refused.Unsized ≡ refused.Deep → ⊥
unsized_is_not_deep e = cc

unsized_is_not_huge : refused.Unsized ≡ refused.Huge → ⊥
unsized_is_not_huge e = cc

-- what a layout that is there is answered with
abbrev answer : Bool → Bool → ℕ → Result ℕ TypeRefusal
answer big sized n = if big then Err refused.Huge else (if sized then Ok n else Err refused.Unsized)

never_deep : (big sized : Bool) (n : ℕ) → answer big sized n ≡ Err refused.Deep → ⊥
never_deep true sized n e = huge_is_not_deep (one_refusal refused.Huge refused.Deep e)
never_deep false true n e = no_refusal n refused.Deep e
never_deep false false n e = unsized_is_not_deep (one_refusal refused.Unsized refused.Deep e)

huge_test : (big sized : Bool) (n : ℕ) → answer big sized n ≡ Err refused.Huge → big ≡ true
huge_test true sized n e = refl
huge_test false true n e = absurd (no_refusal n refused.Huge e)
huge_test false false n e = absurd (unsized_is_not_huge (one_refusal refused.Unsized refused.Huge e))

unsized_test : (big sized : Bool) (n : ℕ) → answer big sized n ≡ Err refused.Unsized → (big ≡ false) × (sized ≡ false)
unsized_test true sized n e = absurd (unsized_is_not_huge (sym (one_refusal refused.Huge refused.Unsized e)))
unsized_test false true n e = absurd (no_refusal n refused.Unsized e)
unsized_test false false n e = (refl, refl)

deep_iff_none : (o : Option Layout) → (checked (λ l. l.size) o ≡ Err refused.Deep) ↔ (o ≡ None)
deep_iff_none None = (λ e. refl, λ e. refl)
deep_iff_none (Some l) = (λ e. absurd (never_deep (nat_lt (2 ^ 40) l.size) l.is_sized l.size e), λ e. absurd (none-some l (sym e)))

huge_from : (o : Option Layout) → checked (λ l. l.size) o ≡ Err refused.Huge → (l : Layout) × (o ≡ Some l) × (2 ^ 40 < l.size)
huge_from None e = absurd (huge_is_not_deep (sym (one_refusal refused.Deep refused.Huge e)))
huge_from (Some l) e = (l, refl, ltb-true (2 ^ 40) l.size (huge_test (nat_lt (2 ^ 40) l.size) l.is_sized l.size e))

huge_is : (o : Option Layout) (l : Layout) → o ≡ Some l → 2 ^ 40 < l.size → checked (λ l. l.size) o ≡ Err refused.Huge
huge_is o l e h = rw (e, lt-ltb (2 ^ 40) l.size h) refl

unsized_from : (o : Option Layout) → checked (λ l. l.size) o ≡ Err refused.Unsized
    → (l : Layout) × (o ≡ Some l) × (nat_lt (2 ^ 40) l.size ≡ false) × (l.is_sized ≡ false)
unsized_from None e = absurd (unsized_is_not_deep (sym (one_refusal refused.Deep refused.Unsized e)))
unsized_from (Some l) e =
    let tests = unsized_test (nat_lt (2 ^ 40) l.size) l.is_sized l.size e in
    (l, refl, tests.0, tests.1)

unsized_is : (o : Option Layout) (l : Layout) → o ≡ Some l → nat_lt (2 ^ 40) l.size ≡ false → l.is_sized ≡ false → checked (λ l. l.size) o ≡ Err refused.Unsized
unsized_is o l e small s = rw (e, small, s) refl

-- ---- the law
deep_law : (types : List IrType) (t : ℕ) → IsWhole types t → (size types t ≡ Err refused.Deep) ↔ IsDeeper types 64 t
deep_law types t whole =
    let iff = deep_iff_none (layout types 64 t) in
    (λ e. deeper_if_none types 64 t whole (iff.0 e), λ deeper. iff.1 (none_if_deeper types 64 t deeper))

ring_law : (types : List IrType) (steps t : ℕ) → IsReached types (suc steps) t t → size types t ≡ Err refused.Deep
ring_law types steps t ring = (deep_iff_none (layout types 64 t)).1 (none_if_deeper types 64 t (ring_deeper types steps t ring 64))

huge_law : (types : List IrType) (t : ℕ) → (size types t ≡ Err refused.Huge) ↔ IsHuge types t
huge_law types t = (λ e. huge_from (layout types 64 t) e, λ (l, is, big). huge_is (layout types 64 t) l is big)

unsized_law : (types : List IrType) (t : ℕ) → IsWhole types t
    → (size types t ≡ Err refused.Unsized) ↔ ((IsDeeper types 64 t → ⊥) × (IsHuge types t → ⊥) × HasUnsizedPart types t)
unsized_law types t whole = (there, back)
  where
    there : size types t ≡ Err refused.Unsized → (IsDeeper types 64 t → ⊥) × (IsHuge types t → ⊥) × HasUnsizedPart types t
    there e =
        let from = unsized_from (layout types 64 t) e in (
          λ deeper. none-some from.0 (sym (none_if_deeper types 64 t deeper) ∙ from.1),
          λ huge.
              true≢false (sym (lt-ltb (2 ^ 40) huge.0.size huge.2) ∙ ap (λ (l : Layout). nat_lt (2 ^ 40) l.size)
              (same_Some huge.0 from.0 (sym huge.1 ∙ from.1)) ∙ from.2),
          part_if_unsized types 64 t from.0 from.1 from.3,
        )

    back : (IsDeeper types 64 t → ⊥) × (IsHuge types t → ⊥) × HasUnsizedPart types t → size types t ≡ Err refused.Unsized
    back (not_deep, not_huge, has) = go (layout types 64 t) refl
      where
        small : (l : Layout) → layout types 64 t ≡ Some l → (b : Bool) → nat_lt (2 ^ 40) l.size ≡ b → nat_lt (2 ^ 40) l.size ≡ false
        small l e true is = absurd (not_huge (l, e, ltb-true (2 ^ 40) l.size is))
        small l e false is = is

        go : (o : Option Layout) → layout types 64 t ≡ o → size types t ≡ Err refused.Unsized
        go None e = absurd (not_deep (deeper_if_none types 64 t whole e))
        go (Some l) e = unsized_is (layout types 64 t) l e (small l e (nat_lt (2 ^ 40) l.size) refl) (unsized_if_part types 64 t l has.0 has.1 e has.2 has.3)

pub refused_by_parts : AreRefusedByParts
refused_by_parts = record { deep = deep_law; ring = ring_law; huge = huge_law; unsized = unsized_law }
