-- What a name stands for lies between the counts before its definitions and those behind them.
use Rattle.std.proofs.Common.{◌≡◌, ◌<◌, ◌≤◌, ◌==◌, ℕ, Bool, true, false, if◌then◌else◌, List, [], ◌∷◌, ◌++◌, Option, Some, refl, sym, subst}
use Rattle.std.proofs.Common.{arith}
use Rattle.std.proofs.lemmas.Option.{none-some, same_Some}
use Rattle.ir_scopes.specs.declared.slot.Kind.{Kind}
use Rattle.ir_scopes.specs.declared.slot.Kind.TheVariants as kind
use Rattle.ir_scopes.specs.declared.slot.Entry.{Entry}
use Rattle.ir_scopes.specs.declared.slot.Entry.TheVariants as entry
use Rattle.ir_scopes.specs.declared.slot.Slot.{Slot}
use Rattle.ir_scopes.specs.declared.slot.Counts.{Counts}
use Rattle.ir_scopes.specs.Scopes.{name_in, entry_of, counted_as, counted, all_counted, definitions, find}

pub record Rises (c d : Counts) : Type 0 where
  pub values : c.values ≤ d.values
  pub blocks : c.blocks ≤ d.blocks
  pub globals : c.globals ≤ d.globals
  pub funcs : c.funcs ≤ d.funcs
  pub types : c.types ≤ d.types

-- a thing that was defined between these counts
abbrev pub IsBetween : Counts → Counts → Entry → Type 0
IsBetween c d (entry.Value v) = (c.values ≤ v.0) × (v.0 < d.values)
IsBetween c d (entry.Block b) = (c.blocks ≤ b.0) × (b.0 < d.blocks)
IsBetween c d (entry.Global g) = (c.globals ≤ g.0) × (g.0 < d.globals)
IsBetween c d (entry.Func f) = (c.funcs ≤ f.0) × (f.0 < d.funcs)
IsBetween c d (entry.Type t) = (c.types ≤ t.0) × (t.0 < d.types)
IsBetween c d (entry.Group g) = Unit {0}

stays : (c : Counts) → Rises c c
stays c = record { values = omega arith; blocks = omega arith; globals = omega arith; funcs = omega arith; types = omega arith }

goes_on : (c d e : Counts) → Rises c d → Rises d e → Rises c e
goes_on c d e x y = record {
  values = (let a = x.values in let b = y.values in omega (arith, a, b));
  blocks = (let a = x.blocks in let b = y.blocks in omega (arith, a, b));
  globals = (let a = x.globals in let b = y.globals in omega (arith, a, b));
  funcs = (let a = x.funcs in let b = y.funcs in omega (arith, a, b));
  types = (let a = x.types in let b = y.types in omega (arith, a, b));
}

one_rises : (c : Counts) (k : Kind) (id : ℕ) → Rises c (counted_as c k id)
one_rises c kind.Value id = record { values = omega arith; blocks = omega arith; globals = omega arith; funcs = omega arith; types = omega arith }
one_rises c kind.Block id = record { values = omega arith; blocks = omega arith; globals = omega arith; funcs = omega arith; types = omega arith }
one_rises c kind.Global id = record { values = omega arith; blocks = omega arith; globals = omega arith; funcs = omega arith; types = omega arith }
one_rises c kind.Func id = record { values = omega arith; blocks = omega arith; globals = omega arith; funcs = omega arith; types = omega arith }
one_rises c kind.Type id = record { values = omega arith; blocks = omega arith; globals = omega arith; funcs = omega arith; types = omega arith }
one_rises c kind.Group id = record { values = omega arith; blocks = omega arith; globals = omega arith; funcs = omega arith; types = omega arith }

-- a thing is between the counts before it and those behind it
own_between : (c d : Counts) (k : Kind) (id : ℕ) → Rises (counted_as c k id) d → IsBetween c d (entry_of c k)
own_between c d kind.Value id r = let a = r.values in (omega arith, omega (arith, a))
own_between c d kind.Block id r = let a = r.blocks in (omega arith, omega (arith, a))
own_between c d kind.Global id r = let a = r.globals in (omega arith, omega (arith, a))
own_between c d kind.Func id r = let a = r.funcs in (omega arith, omega (arith, a))
own_between c d kind.Type id r = let a = r.types in (omega arith, omega (arith, a))
own_between c d kind.Group id r = tt

wider : (c d e : Counts) (x : Entry) → Rises c d → IsBetween d e x → IsBetween c e x
wider c d e (entry.Value v) r h = let a = r.values in let b = h.0 in (omega (arith, a, b), h.1)
wider c d e (entry.Block v) r h = let a = r.blocks in let b = h.0 in (omega (arith, a, b), h.1)
wider c d e (entry.Global v) r h = let a = r.globals in let b = h.0 in (omega (arith, a, b), h.1)
wider c d e (entry.Func v) r h = let a = r.funcs in let b = h.0 in (omega (arith, a, b), h.1)
wider c d e (entry.Type v) r h = let a = r.types in let b = h.0 in (omega (arith, a, b), h.1)
wider c d e (entry.Group v) r h = tt

-- the first of some definitions, or one of those behind it
found_pick : (c next : Counts) (k : Kind) (id : ℕ) → counted_as c k id ≡ next → (b : Bool) (rest : Option Entry) (d : Counts) (e : Entry) → Rises next d
    → (rest ≡ Some e → IsBetween next d e) → (if b then Some (entry_of c k) else rest) ≡ Some e → IsBetween c d e
found_pick c next k id is true rest d e r later own =
    subst (IsBetween c d) (same_Some (entry_of c k) e own) (own_between c d k id (subst (λ z. Rises z d) (sym is) r))
found_pick c next k id is false rest d e r later other = wider c next d e (subst (Rises c) is (one_rises c k id)) (later other)

module _ (ids : List ℕ) where
  pub all_rise : (c : Counts) (ss : List Slot) → Rises c (all_counted ids c ss)
  all_rise c [] = stays c
  all_rise c (s ∷ ss) =
      goes_on c (counted ids c s) (all_counted ids (counted ids c s) ss) (one_rises c s.kind (name_in ids c.counter s.written)) (all_rise (counted ids c s) ss)

  pub found_between : (c : Counts) (ss : List Slot) (id : ℕ) (e : Entry) → find (definitions ids c ss) id ≡ Some e → IsBetween c (all_counted ids c ss) e
  found_between c [] id e is = absurd (none-some e is)
  found_between c (s ∷ ss) id e is = found_pick c (counted ids c s) s.kind (name_in ids c.counter s.written) refl
      (name_in ids c.counter s.written == id) (find (definitions ids (counted ids c s) ss) id) (all_counted ids (counted ids c s) ss) e
      (all_rise (counted ids c s) ss) (λ later. found_between (counted ids c s) ss id e later) is

  pub counted_both : (c : Counts) (ss ts : List Slot) → all_counted ids c (ss ++ ts) ≡ all_counted ids (all_counted ids c ss) ts
  counted_both c [] ts = refl
  counted_both c (s ∷ ss) ts = counted_both (counted ids c s) ss ts
