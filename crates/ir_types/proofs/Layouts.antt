-- Layouts of types from the layouts of their parts.
use Rattle.std.proofs.Common.{ℕ, zero, suc, ◌+◌, ◌-◌, ◌<◌, ◌≤◌, ◌≡◌, refl, sym, ap, subst, ◌∙◌, max, arith, Option, None, Some, List, [], ◌∷◌, ◌++◌, length}
use Rattle.std.proofs.Common.{get_or, take, zero-add}
use Rattle.std.specs.Prelude.{slice_get}
use Rattle.std.specs.Option.{option_map, option_and_then}
use Rattle.std.proofs.lemmas.Option.{none-some, same_Some, slice_get-map, slice_get-get_or}
use Rattle.std.proofs.lemmas.List.{map-append, take_more}
use Rattle.attr_ids.specs.declared.ids.TypeId.{TypeId}
use Rattle.shelf.proofs.Shelf.{get_kept}
use Rattle.ir_types.specs.declared.ir_type.IrType.{IrType}
use Rattle.ir_types.specs.declared.ir_type.IrType.TheVariants.{Void, Int, Ptr, Array, Struct, Opaque}
use Rattle.ir_types.specs.IrType.{numbers, parts}
use Rattle.ir_types.specs.Layout.{Layout, every, joined, greatest, laid_out, undivided, array_of, struct_of, layout}
use Rattle.ir_types.specs.Standing.{Has}

-- ---- what a result that is there came from
pub map_some : {A B : Type 0} (f : A → B) (o : Option A) (y : B) → option_map f o ≡ Some y → (x : A) × (o ≡ Some x) × (f x ≡ y)
map_some f None y e = absurd (none-some y e)
map_some f (Some x) y e = (x, refl, same_Some (f x) y e)

pub and_then_some : {A B : Type 0} (f : A → Option B) (o : Option A) (y : B) → option_and_then f o ≡ Some y → (x : A) × (o ≡ Some x) × (f x ≡ Some y)
and_then_some f None y e = absurd (none-some y e)
and_then_some f (Some x) y e = (x, refl, e)

pub joined_some : (o : Option Layout) (others : Option (List Layout)) (ls : List Layout) → joined o others ≡ Some ls
    → (l : Layout) × (rest : List Layout) × (o ≡ Some l) × (others ≡ Some rest) × (l ∷ rest ≡ ls)
joined_some None others ls e = absurd (none-some ls e)
joined_some (Some l) None ls e = absurd (none-some ls e)
joined_some (Some l) (Some rest) ls e = (l, rest, refl, refl, same_Some (l ∷ rest) ls e)

-- ---- the parts of a struct
pub numbers_more : (fields : List TypeId) (i : ℕ) (d : TypeId) → i < length fields
    → numbers (take (i + 1) fields) ≡ numbers (take i fields) ++ (get_or fields i d).0 ∷ []
numbers_more fields i d l = ap numbers (take_more fields i d l) ∙ map-append (λ (t : TypeId). t.0) (take i fields) (get_or fields i d ∷ [])

pub number_at : (fields : List TypeId) (i : ℕ) (d : TypeId) → i < length fields → slice_get (numbers fields) i ≡ Some (get_or fields i d).0
number_at fields i d l = slice_get-map (λ (t : TypeId). t.0) fields i ∙ ap (option_map (λ (t : TypeId). t.0)) (slice_get-get_or fields i d l)

pub every_push : (of : ℕ → Option Layout) (ts : List ℕ) (ls : List Layout) (t : ℕ) (l : Layout) → every of ts ≡ Some ls → of t ≡ Some l
    → every of (ts ++ t ∷ []) ≡ Some (ls ++ l ∷ [])
every_push of [] ls t l e f = rw f (ap (λ (xs : List Layout). Some (xs ++ l ∷ [])) (same_Some [] ls e))
every_push of (x ∷ ts) ls t l e f =
    let split = joined_some (of x) (every of ts) ls e in
    let rest = every_push of ts split.1 t l split.3 f in
    rw (split.2, rest) (ap (λ (xs : List Layout). Some (xs ++ l ∷ [])) split.4)

-- ---- the greatest nesting
pub greatest_least : (least : ℕ) (ls : List Layout) → least ≤ greatest (λ l. l.nesting) least ls
greatest_least least [] = omega arith
greatest_least least (l ∷ ls) = omega (arith, greatest_least (max least l.nesting) ls)

pub greatest_bound : (least most : ℕ) (of : ℕ → Option Layout) (ts : List ℕ) (ls : List Layout) → every of ts ≡ Some ls → least ≤ most
    → ((t : ℕ) (l : Layout) → of t ≡ Some l → l.nesting ≤ most) → greatest (λ l. l.nesting) least ls ≤ most
greatest_bound least most of [] ls e b h = subst (λ (xs : List Layout). greatest (λ l. l.nesting) least xs ≤ most) (same_Some [] ls e) b
greatest_bound least most of (t ∷ ts) ls e b h =
    let split = joined_some (of t) (every of ts) ls e in
    let one = h t split.0 split.2 in
    subst (λ (xs : List Layout). greatest (λ l. l.nesting) least xs ≤ most) split.4
    (greatest_bound (max least split.0.nesting) most of ts split.1 split.3 (omega arith) h)

-- ---- the same layouts from another table of parts
pub every_along : (f g : ℕ → Option Layout) (least most : ℕ) (ts : List ℕ) (ls : List Layout) → every f ts ≡ Some ls
    → greatest (λ l. l.nesting) least ls ≤ most → ((t : ℕ) (l : Layout) → f t ≡ Some l → l.nesting ≤ most → g t ≡ Some l) → every g ts ≡ Some ls
every_along f g least most [] ls e b h = e
every_along f g least most (t ∷ ts) ls e b h =
    let split = joined_some (f t) (every f ts) ls e in
    let within : greatest (λ l. l.nesting) (max least split.0.nesting) split.1 ≤ most = subst
    (λ (xs : List Layout). greatest (λ l. l.nesting) least xs ≤ most) (sym split.4) b in
    let one : g t ≡ Some split.0 = h t split.0 split.2 (omega (arith, greatest_least (max least split.0.nesting) split.1)) in
    let rest : every g ts ≡ Some split.1 = every_along f g (max least split.0.nesting) most ts split.1 split.3 within h in
    rw (one, rest) (ap Some split.4)

pub every_part : (f : ℕ → Option Layout) (least : ℕ) (ts : List ℕ) (ls : List Layout) (k t : ℕ) → every f ts ≡ Some ls → slice_get ts k ≡ Some t
    → (l : Layout) × (f t ≡ Some l) × (l.nesting ≤ greatest (λ l. l.nesting) least ls)
every_part f least [] ls k t e at = absurd (none-some t at)
every_part f least (x ∷ ts) ls zero t e at =
    let split = joined_some (f x) (every f ts) ls e in
    let bound : split.0.nesting ≤ greatest (λ l. l.nesting) (max least split.0.nesting) split.1 = omega
    (arith, greatest_least (max least split.0.nesting) split.1) in (
      split.0,
      subst (λ (y : ℕ). f y ≡ Some split.0) (same_Some x t at) split.2,
      subst
          (λ (xs : List Layout). split.0.nesting ≤ greatest (λ l. l.nesting) least xs) split.4 bound,
    )
every_part f least (x ∷ ts) ls (suc k) t e at =
    let split = joined_some (f x) (every f ts) ls e in
    let rest = every_part f (max least split.0.nesting) ts split.1 k t split.3 at in
    (rest.0, rest.1, subst (λ (xs : List Layout). rest.0.nesting ≤ greatest (λ l. l.nesting) least xs) split.4 rest.2)

pub laid_out_along : (f g : ℕ → Option Layout) (type : IrType) (l : Layout) → laid_out f type ≡ Some l
    → ((t : ℕ) (p : Layout) → f t ≡ Some p → p.nesting < l.nesting → g t ≡ Some p) → laid_out g type ≡ Some l
laid_out_along f g Void l e h = e
laid_out_along f g (Int width) l e h = e
laid_out_along f g Ptr l e h = e
laid_out_along f g Opaque l e h = e
laid_out_along f g (Array count elem) l e h =
    let from = map_some (array_of count) (f elem.0) l e in
    let deeper : suc from.0.nesting ≡ l.nesting = ap (λ (x : Layout). x.nesting) from.2 in
    let part : g elem.0 ≡ Some from.0 = h elem.0 from.0 from.1 (omega arith) in
    rw part (ap Some from.2)
laid_out_along f g (Struct fields packed) l e h =
    let from = map_some (struct_of packed) (every f (numbers fields)) l e in
    let deeper : suc (greatest (λ x. x.nesting) 0 from.0) ≡ l.nesting = ap (λ (x : Layout). x.nesting) from.2 in
    let all : every g (numbers fields) ≡ Some from.0 =
    every_along f g 0 (greatest (λ x. x.nesting) 0 from.0) (numbers fields) from.0 from.1 (omega arith) (λ t p is b. h t p is (omega arith)) in
    rw all (ap Some from.2)

pub laid_out_part : (f : ℕ → Option Layout) (type : IrType) (l : Layout) (p : ℕ) → laid_out f type ≡ Some l → Has (parts type) p
    → (q : Layout) × (f p ≡ Some q) × (q.nesting < l.nesting)
laid_out_part f Void l p e (k, at) = absurd (none-some p at)
laid_out_part f (Int width) l p e (k, at) = absurd (none-some p at)
laid_out_part f Ptr l p e (k, at) = absurd (none-some p at)
laid_out_part f Opaque l p e (k, at) = absurd (none-some p at)
laid_out_part f (Array count elem) l p e (zero, at) =
    let from = map_some (array_of count) (f elem.0) l e in
    let deeper : suc from.0.nesting ≡ l.nesting = ap (λ (x : Layout). x.nesting) from.2 in
    (from.0, subst (λ (y : ℕ). f y ≡ Some from.0) (same_Some elem.0 p at) from.1, omega arith)
laid_out_part f (Array count elem) l p e (suc k, at) = absurd (none-some p at)
laid_out_part f (Struct fields packed) l p e (k, at) =
    let from = map_some (struct_of packed) (every f (numbers fields)) l e in
    let deeper : suc (greatest (λ x. x.nesting) 0 from.0) ≡ l.nesting = ap (λ (x : Layout). x.nesting) from.2 in
    let part = every_part f 0 (numbers fields) from.0 k p from.1 at in
    (part.0, part.1, omega (arith, part.2))

-- ---- types without parts
flat : (type : IrType) (l : Layout) → undivided type ≡ Some l → (f : ℕ → Option Layout) → laid_out f type ≡ Some l
flat Void l e f = e
flat (Int width) l e f = e
flat Ptr l e f = e
flat Opaque l e f = e
flat (Array count elem) l e f = absurd (none-some l e)
flat (Struct fields packed) l e f = absurd (none-some l e)

flat_depth : (type : IrType) (l : Layout) → undivided type ≡ Some l → l.nesting ≡ 0
flat_depth Void l e = sym (ap (λ (x : Layout). x.nesting) (same_Some _ l e))
flat_depth (Int width) l e = sym (ap (λ (x : Layout). x.nesting) (same_Some _ l e))
flat_depth Ptr l e = sym (ap (λ (x : Layout). x.nesting) (same_Some _ l e))
flat_depth Opaque l e = sym (ap (λ (x : Layout). x.nesting) (same_Some _ l e))
flat_depth (Array count elem) l e = absurd (none-some l e)
flat_depth (Struct fields packed) l e = absurd (none-some l e)

pub flat_has_no_part : (type : IrType) (l : Layout) (p : ℕ) → undivided type ≡ Some l → Has (parts type) p → ⊥
flat_has_no_part Void l p e (k, at) = none-some p at
flat_has_no_part (Int width) l p e (k, at) = none-some p at
flat_has_no_part Ptr l p e (k, at) = none-some p at
flat_has_no_part Opaque l p e (k, at) = none-some p at
flat_has_no_part (Array count elem) l p e h = none-some l e
flat_has_no_part (Struct fields packed) l p e h = none-some l e

-- a type with no depth has no parts
shallow : (f : ℕ → Option Layout) (type : IrType) (l : Layout) → laid_out f type ≡ Some l → l.nesting ≤ 0 → undivided type ≡ Some l
shallow f Void l e b = e
shallow f (Int width) l e b = e
shallow f Ptr l e b = e
shallow f Opaque l e b = e
shallow f (Array count elem) l e b =
    let from = map_some (array_of count) (f elem.0) l e in
    let deeper : suc from.0.nesting ≡ l.nesting = ap (λ (x : Layout). x.nesting) from.2 in
    absurd (omega arith)
shallow f (Struct fields packed) l e b =
    let from = map_some (struct_of packed) (every f (numbers fields)) l e in
    let deeper : suc (greatest (λ x. x.nesting) 0 from.0) ≡ l.nesting = ap (λ (x : Layout). x.nesting) from.2 in
    absurd (omega arith)

laid_out_depth : (f : ℕ → Option Layout) (type : IrType) (l : Layout) (k : ℕ) → laid_out f type ≡ Some l
    → ((t : ℕ) (p : Layout) → f t ≡ Some p → p.nesting ≤ k) → l.nesting ≤ suc k
laid_out_depth f Void l k e h = omega (arith, flat_depth Void l e)
laid_out_depth f (Int width) l k e h = omega (arith, flat_depth (Int width) l e)
laid_out_depth f Ptr l k e h = omega (arith, flat_depth Ptr l e)
laid_out_depth f Opaque l k e h = omega (arith, flat_depth Opaque l e)
laid_out_depth f (Array count elem) l k e h =
    let from = map_some (array_of count) (f elem.0) l e in
    let deeper : suc from.0.nesting ≡ l.nesting = ap (λ (x : Layout). x.nesting) from.2 in
    omega (arith, h elem.0 from.0 from.1)
laid_out_depth f (Struct fields packed) l k e h =
    let from = map_some (struct_of packed) (every f (numbers fields)) l e in
    let deeper : suc (greatest (λ x. x.nesting) 0 from.0) ≡ l.nesting = ap (λ (x : Layout). x.nesting) from.2 in
    omega (arith, greatest_bound 0 k f (numbers fields) from.0 from.1 (omega arith) h)

-- ---- the layout of a type of a table
pub layout_entry : (types : List IrType) (k t : ℕ) (l : Layout) → layout types (suc k) t ≡ Some l
    → (type : IrType) × (slice_get types t ≡ Some type) × (laid_out (layout types k) type ≡ Some l)
unfolding layout
layout_entry types k t l e = and_then_some (laid_out (layout types k)) (slice_get types t) l e

pub layout_flat : (types : List IrType) (t : ℕ) (l : Layout) → layout types zero t ≡ Some l
    → (type : IrType) × (slice_get types t ≡ Some type) × (undivided type ≡ Some l)
unfolding layout
layout_flat types t l e = and_then_some undivided (slice_get types t) l e

pub layout_from_entry : (types : List IrType) (k t : ℕ) (l : Layout) (type : IrType) → slice_get types t ≡ Some type
    → laid_out (layout types k) type ≡ Some l → layout types (suc k) t ≡ Some l
unfolding layout
layout_from_entry types k t l type at e = rw at e

layout_from_flat : (types : List IrType) (t : ℕ) (l : Layout) (type : IrType) → slice_get types t ≡ Some type → undivided type ≡ Some l
    → layout types zero t ≡ Some l
unfolding layout
layout_from_flat types t l type at e = rw at e

-- the nesting is at most the number of levels
pub layout_depth : (types : List IrType) (k t : ℕ) (l : Layout) → layout types k t ≡ Some l → l.nesting ≤ k
layout_depth types zero t l e =
    let from = layout_flat types t l e in
    omega (arith, flat_depth from.0 l from.2)
layout_depth types (suc k) t l e =
    let from = layout_entry types k t l e in
    laid_out_depth (layout types k) from.0 l k from.2 (layout_depth types k)

-- more levels change nothing
pub layout_more : (types : List IrType) (k t : ℕ) (l : Layout) → layout types k t ≡ Some l → layout types (suc k) t ≡ Some l
layout_more types zero t l e =
    let from = layout_flat types t l e in
    layout_from_entry types zero t l from.0 from.1 (flat from.0 l from.2 (layout types zero))
layout_more types (suc k) t l e =
    let from = layout_entry types k t l e in
    layout_from_entry types (suc k) t l from.0 from.1
    (laid_out_along (layout types k) (layout types (suc k)) from.0 l from.2 (λ u p is b. layout_more types k u p is))

-- fewer levels change nothing, if they are enough
pub layout_tight : (types : List IrType) (k t : ℕ) (l : Layout) → layout types (suc k) t ≡ Some l → l.nesting ≤ k → layout types k t ≡ Some l
layout_tight types zero t l e b =
    let from = layout_entry types zero t l e in
    layout_from_flat types t l from.0 from.1 (shallow (layout types zero) from.0 l from.2 b)
layout_tight types (suc k) t l e b =
    let from = layout_entry types (suc k) t l e in
    layout_from_entry types k t l from.0 from.1
    (laid_out_along (layout types (suc k)) (layout types k) from.0 l from.2 (λ u p is d. layout_tight types k u p is (omega arith)))

layout_raised : (types : List IrType) (j k t : ℕ) (l : Layout) → layout types k t ≡ Some l → layout types (j + k) t ≡ Some l
layout_raised types zero k t l e = rw (zero-add k) e
layout_raised types (suc j) k t l e =
    let s : suc j + k ≡ suc (j + k) = omega arith in
    rw s (layout_more types (j + k) t l (layout_raised types j k t l e))

pub layout_at : (types : List IrType) (k n t : ℕ) (l : Layout) → k ≤ n → layout types k t ≡ Some l → layout types n t ≡ Some l
layout_at types k n t l b e =
    let s : (n - k) + k ≡ n = omega arith in
    subst (λ (m : ℕ). layout types m t ≡ Some l) s (layout_raised types (n - k) k t l e)

-- more types change nothing
pub layout_appended : (types more : List IrType) (k t : ℕ) (l : Layout) → layout types k t ≡ Some l → layout (types ++ more) k t ≡ Some l
layout_appended types more zero t l e =
    let from = layout_flat types t l e in
    layout_from_flat (types ++ more) t l from.0 (get_kept types more t from.0 from.1) from.2
layout_appended types more (suc k) t l e =
    let from = layout_entry types k t l e in
    layout_from_entry (types ++ more) k t l from.0 (get_kept types more t from.0 from.1)
    (laid_out_along (layout types k) (layout (types ++ more) k) from.0 l from.2 (λ u p is b. layout_appended types more k u p is))
