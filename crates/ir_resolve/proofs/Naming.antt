-- Names of types: which of them are void, and which types they stand for.
use Rattle.std.proofs.Common.{◌≡◌, ℕ, ◌+◌, ◌<◌, Bool, true, false, cond, ◌&&◌, ◌||◌, eqb, List, [], ◌∷◌, ◌++◌, length, get_or, take, Some, None}
use Rattle.std.proofs.Common.{refl, sym, ap, ◌∙◌, arith}
use Rattle.std.proofs.lemmas.List.{take_more}
use Rattle.std.specs.Prelude.{Option, slice_index}
use Rattle.std.specs.List.{list_any}
use Rattle.std.specs.Option.{unwrap_or}
use borrow.Author.Tests.{eqb-true}
use Rattle.ir_tree.specs.declared.entities.Entity.{Entity}
use Rattle.ir_tree.specs.declared.entities.Entity.TheVariants as entity
use Rattle.ir_types.specs.declared.ir_type.IrType.{IrType}
use Rattle.ir_scopes.specs.declared.slot.Counts.{Counts}
use Rattle.ir_scopes.specs.declared.slot.Entry.{Entry}
use Rattle.ir_scopes.specs.declared.slot.Entry.TheVariants as entry
use Rattle.ir_scopes.specs.declared.slot.Kind.TheVariants as kind
use Rattle.ir_scopes.specs.declared.top.Space.TheVariants.{Types}
use Rattle.ir_scopes.specs.Scopes.{find, definitions, counted}
use Rattle.ir_scopes.specs.Slots.{top_slots, slot}
use Rattle.ir_type_names.specs.Reading.{number_in}
use Rattle.ir_type_names.specs.Numbers.{named_count}
use Rattle.ir_resolve.specs.Inputs.{is_void_entry}
use Rattle.ir_resolve.specs.Voids.{names_type, is_written}

neither : (a b : Bool) → (a || b) ≡ false → (a ≡ false) × (b ≡ false)
neither true b h = absurd (cc)
neither false b h = (refl, h)

-- a name that is written for no type stands for none
unwritten : (ids : List ℕ) (c : Counts) (es : List Entity) (name : ℕ) → is_written ids es name ≡ false →
    find (definitions ids c (top_slots Types es)) name ≡ None
unwritten ids c [] name h = refl
unwritten ids c (entity.Named at body ∷ es) name h =
    let parts = neither (eqb (slice_index ids at) name) (is_written ids es name) h in
    let rest = find (definitions ids (counted ids c (slot kind.Type (Some at))) (top_slots Types es)) name in
    ap (λ b. cond b (Some (entry.Type (record { 0 = c.types }))) rest) parts.0
    ∙ unwritten ids (counted ids c (slot kind.Type (Some at))) es name parts.1
unwritten ids c (entity.Opaque at ∷ es) name h = unwritten ids c es name h
unwritten ids c (entity.SourceFilename at ∷ es) name h = unwritten ids c es name h
unwritten ids c (entity.Target which text ∷ es) name h = unwritten ids c es name h
unwritten ids c (entity.Attributes group words ∷ es) name h = unwritten ids c es name h
unwritten ids c (entity.GlobalVar g ∷ es) name h = unwritten ids c es name h
unwritten ids c (entity.Declare d ∷ es) name h = unwritten ids c es name h
unwritten ids c (entity.Define d ∷ es) name h = unwritten ids c es name h

settled : (w v : Bool) → (w ≡ false → v ≡ false) → (w && v) ≡ v
settled true v h = refl
settled false v h = sym (h refl)

-- once all entities are seen, the written names among the void ones are the void ones
pub all_voids : (ids : List ℕ) (c : Counts) (es : List Entity) (types : List IrType) (name : ℕ) (o : Option Entry) →
    o ≡ find (definitions ids c (top_slots Types es)) name → (is_written ids es name && is_void_entry types o) ≡ is_void_entry types o
all_voids ids c es types name o is =
    settled (is_written ids es name) (is_void_entry types o) (λ h. ap (is_void_entry types) (is ∙ unwritten ids c es name h))

any_suc : {X : Type 0} (f : X → Bool) (xs : List X) (x : X) → list_any f (xs ++ x ∷ []) ≡ (list_any f xs || f x)
any_suc f [] x = or_false (f x)
  where
    or_false : (b : Bool) → (b || false) ≡ b
    or_false true = refl
    or_false false = refl
any_suc f (y ∷ xs) x = ap (λ b. f y || b) (any_suc f xs x) ∙ regrouped (f y) (list_any f xs) (f x)
  where
    regrouped : (a b c : Bool) → (a || (b || c)) ≡ ((a || b) || c)
    regrouped true b c = refl
    regrouped false b c = refl

spread : (w n v : Bool) → ((w && v) || (n && v)) ≡ ((w || n) && v)
spread true true true = refl
spread true true false = refl
spread true false true = refl
spread true false false = refl
spread false true true = refl
spread false true false = refl
spread false false true = refl
spread false false false = refl

-- the void names among those of one more entity
pub voids_next : (ids : List ℕ) (es : List Entity) (i : ℕ) (e : Entity) (name : ℕ) (v old new : Bool) → i < length es → e ≡ get_or es i e →
    old ≡ (is_written ids (take i es) name && v) → new ≡ (old || (names_type ids name e && v)) → new ≡ (is_written ids (take (i + 1) es) name && v)
voids_next ids es i e name v old new l is before more =
    let one : is_written ids (take (i + 1) es) name ≡ (is_written ids (take i es) name || names_type ids name e) =
    ap (list_any (names_type ids name)) (take_more es i e l ∙ ap (λ z. take i es ++ z ∷ []) (sym is)) ∙ any_suc (names_type ids name) (take i es) e in
    more ∙ ap (λ o. o || (names_type ids name e && v)) before ∙ spread (is_written ids (take i es) name) (names_type ids name e) v
    ∙ ap (λ w. w && v) (sym one)

-- a name that is taken in
pub name_in : (id name : ℕ) (f : ℕ → Bool) (b old new : Bool) → eqb id name ≡ b → f id ≡ true → new ≡ cond (eqb id name) true old →
    new ≡ (old || (eqb id name && f name))
name_in id name f true old new same void is =
    let here : f name ≡ true = ap f (sym (eqb-true id name same)) ∙ void in
    is ∙ ap (λ b. cond b true old) same ∙ sym (ap (λ b. old || (b && f name)) same ∙ ap (λ v. old || v) here ∙ or_true old)
  where
    or_true : (b : Bool) → (b || true) ≡ true
    or_true true = refl
    or_true false = refl
name_in id name f false old new same void is =
    is ∙ ap (λ b. cond b true old) same ∙ sym (ap (λ b. old || (b && f name)) same ∙ or_false old)
  where
    or_false : (b : Bool) → (b || false) ≡ b
    or_false true = refl
    or_false false = refl

-- a name that is not
pub name_out : (id name : ℕ) (f : ℕ → Bool) (b old : Bool) → eqb id name ≡ b → f id ≡ false → old ≡ (old || (eqb id name && f name))
name_out id name f true old same void =
    let here : f name ≡ false = ap f (sym (eqb-true id name same)) ∙ void in
    sym (ap (λ b. old || (b && f name)) same ∙ ap (λ v. old || v) here ∙ or_false old)
  where
    or_false : (b : Bool) → (b || false) ≡ b
    or_false true = refl
    or_false false = refl
name_out id name f false old same void = sym (ap (λ b. old || (b && f name)) same ∙ or_false old)
  where
    or_false : (b : Bool) → (b || false) ≡ b
    or_false true = refl
    or_false false = refl

-- ---- the types that names stand for

pick : (b : Bool) (n m : ℕ) (r : Option Entry) → n < m → unwrap_or (number_in r) 0 < m →
    unwrap_or (number_in (cond b (Some (entry.Type (record { 0 = n }))) r)) 0 < m
pick true n m r l h = l
pick false n m r l h = h

-- the named types have the numbers from one on, as many as there are
pub bounded : (ids : List ℕ) (c : Counts) (es : List Entity) (name : ℕ) → 0 < c.types →
    unwrap_or (number_in (find (definitions ids c (top_slots Types es)) name)) 0 < c.types + named_count es
bounded ids c [] name l = omega (arith, l)
bounded ids c (entity.Named at body ∷ es) name l =
    let next = counted ids c (slot kind.Type (Some at)) in
    let rest = bounded ids next es name (omega arith) in
    pick (eqb (slice_index ids at) name) c.types (c.types + named_count (entity.Named at body ∷ es))
    (find (definitions ids next (top_slots Types es)) name) (omega arith) (omega (arith, rest))
bounded ids c (entity.Opaque at ∷ es) name l = let h = bounded ids c es name l in omega (arith, h)
bounded ids c (entity.SourceFilename at ∷ es) name l = let h = bounded ids c es name l in omega (arith, h)
bounded ids c (entity.Target which text ∷ es) name l = let h = bounded ids c es name l in omega (arith, h)
bounded ids c (entity.Attributes group words ∷ es) name l = let h = bounded ids c es name l in omega (arith, h)
bounded ids c (entity.GlobalVar g ∷ es) name l = let h = bounded ids c es name l in omega (arith, h)
bounded ids c (entity.Declare d ∷ es) name l = let h = bounded ids c es name l in omega (arith, h)
bounded ids c (entity.Define d ∷ es) name l = let h = bounded ids c es name l in omega (arith, h)
