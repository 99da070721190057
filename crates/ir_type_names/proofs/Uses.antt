-- Lists of places at which types are written, one more element at a time; and the offsets that come of their marks.
use Rattle.std.proofs.Common.{◌≡◌, ℕ, ◌+◌, ◌<◌, List, [], ◌∷◌, ◌++◌, length, get_or, map, take, replicate, Option, None, sym, ap, ◌∙◌, arith}
use Rattle.std.specs.List.{flat_map}
use Rattle.std.specs.Option.{unwrap_or}
use Rattle.std.proofs.lemmas.List.{take_more, flat_map_more, length-map, length-replicate, get_or-map, get_or-replicate}
use Rattle.std.proofs.lemmas.List.Folds.{flat_map-map}
use Rattle.ir_tree.specs.declared.entities.Entity.{Entity}
use Rattle.ir_scopes.specs.declared.faults.NameFault.{NameFault}
use Rattle.ir_scopes.specs.Faults.{first_in}
use Rattle.ir_type_uses.specs.declared.uses.TypeUse.{TypeUse}
use Rattle.ir_type_uses.specs.Uses.{Use, listed}
use Rattle.ir_type_uses.specs.Written.{written}
use Rattle.ir_type_names.specs.Reading.{Reading}
use Rattle.ir_type_names.specs.Numbers.{Table, parts_first, with_all, with_parts}
use Rattle.ir_type_names.specs.Places.{marks_at, definitions, least, place_in, AreMarked, ArePlaces}
use Rattle.ir_type_names.specs.Unknown.{unknown_in, unknown_uses}
use Rattle.ir_type_names.proofs.Taking.{with_all-append}
use Rattle.ir_type_names.proofs.Missing.{more_found}
use Rattle.ir_type_names.proofs.Marking.{more_marked, marked_as, least_append}

abbrev use_of : TypeUse → Use
use_of u = (u.ty.now, u.at)

module _ {Y : Type 0} (f : Use → List Y) where
  read : (uses : List TypeUse) → flat_map f (listed uses) ≡ flat_map (λ u. f (use_of u)) uses
  read uses = flat_map-map f use_of uses

  longer : (uses : List TypeUse) (i : ℕ) (u : TypeUse) → i < length uses → u ≡ get_or uses i u
      → flat_map f (listed (take i uses)) ++ f (use_of u) ≡ flat_map f (listed (take (i + 1) uses))
  longer uses i u within here = ap (λ ys. ys ++ f (use_of u)) (read (take i uses)) ∙ flat_map_more (λ u. f (use_of u)) [] (take i uses) u
      ∙ ap (λ z. flat_map (λ u. f (use_of u)) (take i uses ++ z ∷ [])) here ∙ ap (flat_map (λ u. f (use_of u))) (sym (take_more uses i u within))
      ∙ sym (read (take (i + 1) uses))

pub uses_taken : (old mid new : Table) (uses : List TypeUse) (i : ℕ) (u : TypeUse) → i < length uses → u ≡ get_or uses i u
    → mid ≡ with_all old (with_parts (listed (take i uses))) → new ≡ with_all mid (parts_first u.ty.now)
    → new ≡ with_all old (with_parts (listed (take (i + 1) uses)))
uses_taken old mid new uses i u within here first second =
    second ∙ ap (λ t. with_all t (parts_first u.ty.now)) first
    ∙ sym (with_all-append old (with_parts (listed (take i uses))) (parts_first u.ty.now))
    ∙ ap (with_all old) (longer (λ x. parts_first x.0) uses i u within here)

pub uses_marked : (t : Table) (uses : List TypeUse) (i : ℕ) (u : TypeUse) (old mid new : List (Option ℕ)) → i < length uses → u ≡ get_or uses i u
    → AreMarked old mid (flat_map (marks_at t) (listed (take i uses))) → AreMarked mid new (marks_at t (u.ty.now, u.at))
    → AreMarked old new (flat_map (marks_at t) (listed (take (i + 1) uses)))
uses_marked t uses i u old mid new within here first second =
    marked_as old new (flat_map (λ u. marks_at t (use_of u)) (take (i + 1) uses)) (flat_map (marks_at t) (listed (take (i + 1) uses)))
    (sym (read (marks_at t) (take (i + 1) uses)))
    (more_marked (λ u. marks_at t (use_of u)) uses i u old mid new within here
    (marked_as old mid (flat_map (marks_at t) (listed (take i uses))) (flat_map (λ u. marks_at t (use_of u)) (take i uses))
    (read (marks_at t) (take i uses)) first)
    second)

pub uses_found : (r : Reading) (uses : List TypeUse) (i : ℕ) (u : TypeUse) (old mid new : Option NameFault) → i < length uses → u ≡ get_or uses i u
    → mid ≡ first_in old (unknown_uses r (listed (take i uses))) → new ≡ first_in mid (unknown_in r u.ty.now)
    → new ≡ first_in old (unknown_uses r (listed (take (i + 1) uses)))
uses_found r uses i u old mid new within here first second =
    more_found (λ u. unknown_in r u.ty.now) uses i u old mid new within here
    (first ∙ ap (first_in old) (read (λ x. unknown_in r x.0) (take i uses))) second
    ∙ ap (first_in old) (sym (read (λ x. unknown_in r x.0) (take (i + 1) uses)))

pub places_found : (t : Table) (es : List Entity) (count : ℕ) (none mid new : List (Option ℕ)) (out : List ℕ) → none ≡ replicate count None
    → AreMarked none mid (definitions t.names 2 es) → AreMarked mid new (flat_map (marks_at t) (written es))
    → out ≡ map (λ p. unwrap_or p 0) new → ArePlaces t es count out
places_found t es count none mid new out empty first second is =
    let ms = flat_map (marks_at t) (written es) in
    let start : length none ≡ count = ap length empty ∙ length-replicate count None in
    let long : length new ≡ count = second.long ∙ first.long ∙ start in record {
      long = ap length is ∙ length-map new (λ p. unwrap_or p 0) ∙ long;
      lowest = λ n within.
          let inside : n < length none = omega (arith, within, start) in
          let between : n < length mid = omega (arith, inside, first.long) in
          ap (λ xs. get_or xs n 0) is ∙ get_or-map (λ p. unwrap_or p 0) new n None 0 (omega (arith, within, long))
          ∙ ap (λ p. unwrap_or p 0) (second.lowest n between ∙ ap (λ f. least n f ms) (first.lowest n inside
          ∙ ap (λ f. least n f (definitions t.names 2 es)) (ap (λ ps. place_in ps n) empty ∙ get_or-replicate count n None None within))
          ∙ sym (least_append n None (definitions t.names 2 es) ms));
    }
