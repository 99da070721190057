-- Every type that is taken in is in the table then, and so is each of its parts, whatever follows.
use Rattle.std.proofs.Common.{◌≡◌, ℕ, ◌+◌, List, [], ◌∷◌, ◌++◌, map, refl, sym, ap, subst, ◌∙◌, append_assoc}
use Rattle.std.specs.List.{flat_map, position_or_len, AllByRecursion}
use Rattle.std.specs.Str.{bytes_eq}
use Rattle.ir_tree.specs.declared.types.Ty.{Ty}
use Rattle.ir_tree.specs.declared.types.Ty.TheOpen.{Ty-F}
use Rattle.ir_tree.specs.declared.types.Ty.TheOpen.Ty-F.{Void, Int, Ptr, Array, Struct, Packed, Named}
use Rattle.ir_tree.specs.declared.types.Ty.TheViews.{roll-Ty}
use Rattle.ir_tree.specs.declared.types.Ty.TheFolds.{ind-Ty, map-Ty}
use Rattle.ir_tree.specs.declared.entities.Entity.{Entity}
use Rattle.ir_type_uses.specs.Uses.{Use}
use Rattle.ir_type_uses.specs.Written.{written}
use Rattle.shelf.proofs.Every.{every_append, every_mapped, every_at}
use Rattle.ir_type_names.specs.Reading.{Reading, named, bits_of, elements_of}
use Rattle.ir_type_names.specs.Numbers.Form.{Own, Keyed}
use Rattle.ir_type_names.specs.Numbers.{Key, Table, placed, form, type_id, type_ids, form_of, parts_first, joined_by, with_all, with_parts, empty_table}
use Rattle.ir_type_names.specs.Numbers.{bit_key, table_of}
use Rattle.ir_type_names.specs.Tables.{followed_by, IsPut, IsTaken}
use Rattle.ir_type_names.specs.Laws.{IsThere, IsWritten}
use Rattle.ir_type_names.proofs.Found.{key_stays, any_joined}
use Rattle.ir_type_names.proofs.Taking.{form_roll, parts_array, parts_struct, parts_packed, parts_own, with_all-append, joined_grows, all_grow, own_taken}
use Rattle.ir_type_names.proofs.Taking.{key_taken}

-- the table has the type, whatever follows
abbrev pub IsKept : Table → Ty → Type 0
IsKept t ty = (rest : List Key) → IsThere (t.keys ++ rest) (form_of (followed_by t rest) ty)

kept_on : (t : Table) (more : List Key) (ty : Ty) → IsKept t ty → IsKept (followed_by t more) ty
kept_on t more ty kept rest =
    subst (λ ks. IsThere ks (form_of (record t { keys = ks }) ty)) (sym (append_assoc t.keys more rest)) (kept (more ++ rest))

-- what is in a table is in those that grew from it
kept_by : (t new : Table) (tys : List Ty) (ty : Ty) → new ≡ with_all t tys → IsKept t ty → IsKept new ty
kept_by t new tys ty grew kept = let grown = all_grow t tys in subst (λ u. IsKept u ty) (sym (grew ∙ grown.1)) (kept_on t grown.0 ty kept)

kept_own : (t : Table) (x : Ty-F Ty) (n : ℕ) → ((f : Ty → ℕ) → form t.names (map-Ty Ty ℕ f x) ≡ Own n) → IsKept t (roll-Ty x)
kept_own t x n own rest = subst (IsThere (t.keys ++ rest)) (sym (form_roll (followed_by t rest) x ∙ own (type_id (followed_by t rest)))) tt

kept_key : (mid : Table) (x : Ty-F Ty) (key : Key) → ((rest : List Key) → form mid.names (map-Ty Ty ℕ (type_id (followed_by mid rest)) x) ≡ Keyed key)
    → IsKept (record mid { keys = joined_by mid.keys (Keyed key) }) (roll-Ty x)
kept_key mid x key says rest =
    let grown = joined_grows mid.keys (Keyed key) in
    let new : Table = record mid { keys = joined_by mid.keys (Keyed key) } in
    let behind : followed_by new rest ≡ followed_by mid (grown.0 ++ rest) =
    ap (λ ks. record mid { keys = ks ++ rest }) grown.1 ∙ ap (λ ks. record mid { keys = ks }) (append_assoc mid.keys grown.0 rest) in
    subst (IsThere (new.keys ++ rest))
    (sym (form_roll (followed_by new rest) x ∙ ap (λ (t : Table). form t.names (map-Ty Ty ℕ (type_id t) x)) behind ∙ says (grown.0 ++ rest)))
    (any_joined mid.keys rest key)

put_there : (mid : Table) (key : Key) → IsPut mid key (record mid { keys = joined_by mid.keys (Keyed key) })
    (mid.first + position_or_len (bytes_eq key) mid.keys)
put_there mid key = record { is = refl; stays = λ rest. ap (λ r. placed mid.first r) (key_stays mid.keys rest key) }

-- a type that is taken in has a number that stays, and it and its parts are in the table
pub record IsIn (old : Table) (ty : Ty) (new : Table) : Type 0 where
  pub number : (n : ℕ) × IsTaken old ty new n
  pub kept : AllByRecursion (IsKept new) (parts_first ty)

abbrev pub AlwaysIn : Ty → Type 0
AlwaysIn ty = (t : Table) → IsIn t ty (with_all t (parts_first ty))

-- the same of a list of types
pub record AreIn (old : Table) (tys : List Ty) (new : Table) : Type 0 where
  pub numbers : (ns : List ℕ) × ((rest : List Key) → type_ids (followed_by new rest) tys ≡ ns)
  pub kept : AllByRecursion (IsKept new) (flat_map parts_first tys)

abbrev some_in : List ((ty : Ty) × AlwaysIn ty) → List Ty
some_in xs = map (λ x. x.0) xs

all_in : (xs : List ((ty : Ty) × AlwaysIn ty)) (t : Table) → AreIn t (some_in xs) (with_all t (flat_map parts_first (some_in xs)))
all_in [] t = record { numbers = ([], λ rest. refl); kept = tt }
all_in (x ∷ xs) t =
    let mid = with_all t (parts_first x.0) in
    let one = x.1 t in
    let rest = all_in xs mid in
    let tys = flat_map parts_first (some_in xs) in
    let grown = all_grow mid tys in
    let new = with_all mid tys in
    let both : AreIn t (x.0 ∷ some_in xs) new = record {
      numbers = (
        one.number.0 ∷ rest.numbers.0,
        λ more. ap (λ ns. type_id (followed_by new more) x.0 ∷ ns) (rest.numbers.1 more)
            ∙ ap (λ n. n ∷ rest.numbers.0) (ap (λ (u : Table). type_id u x.0) (ap (λ (u : Table). followed_by u more) grown.1
            ∙ ap (λ ks. record mid { keys = ks }) (append_assoc mid.keys grown.0 more)) ∙ one.number.1.stays (grown.0 ++ more)),
      );
      kept = every_append (IsKept new) (parts_first x.0) tys
          (every_mapped (IsKept mid) (IsKept new) (parts_first x.0) (λ ty. kept_by mid new tys ty refl) one.kept) rest.kept;
    } in
    subst (AreIn t (x.0 ∷ some_in xs)) (sym (with_all-append t (parts_first x.0) tys)) both

-- an unnamed type behind its parts
key_in : (old mid : Table) (x : Ty-F Ty) (parts : List Ty) (key : Key) → parts_first (roll-Ty x) ≡ parts ++ roll-Ty x ∷ []
    → mid ≡ with_all old parts → ((rest : List Key) → form mid.names (map-Ty Ty ℕ (type_id (followed_by mid rest)) x) ≡ Keyed key)
    → AllByRecursion (IsKept mid) parts → IsIn old (roll-Ty x) (with_all old (parts_first (roll-Ty x)))
key_in old mid x parts key before taken says kept =
    let new : Table = record mid { keys = joined_by mid.keys (Keyed key) } in
    let it = key_taken old mid new x parts key (mid.first + position_or_len (bytes_eq key) mid.keys) before taken says (put_there mid key) in
    let grown = joined_grows mid.keys (Keyed key) in
    let here : AllByRecursion (IsKept new) (parts_first (roll-Ty x)) =
    subst (AllByRecursion (IsKept new)) (sym before) (every_append (IsKept new) parts (roll-Ty x ∷ [])
    (every_mapped (IsKept mid) (IsKept new) parts (λ ty is. subst (λ u. IsKept u ty) (ap (λ ks. record mid { keys = ks }) (sym grown.1))
    (kept_on mid grown.0 ty is)) kept) (kept_key mid x key says, tt)) in
    subst (IsIn old (roll-Ty x)) it.is (record { number = (mid.first + position_or_len (bytes_eq key) mid.keys, it); kept = here })

own_in : (t : Table) (x : Ty-F Ty) (n : ℕ) → parts_first (roll-Ty x) ≡ roll-Ty x ∷ [] → ((f : Ty → ℕ) → form t.names (map-Ty Ty ℕ f x) ≡ Own n)
    → IsIn t (roll-Ty x) (with_all t (parts_first (roll-Ty x)))
own_in t x n alone own =
    let it = own_taken t x n alone own in
    let here : AllByRecursion (IsKept t) (parts_first (roll-Ty x)) = subst (AllByRecursion (IsKept t)) (sym alone) (kept_own t x n own, tt) in
    subst (IsIn t (roll-Ty x)) it.is (record { number = (n, it); kept = here })

pub always_in : (ty : Ty) → AlwaysIn ty
always_in = ind-Ty AlwaysIn (λ x y is. subst (λ z. AlwaysIn (roll-Ty z)) is (layer y))
  where
    layer : (y : Ty-F ((ty : Ty) × AlwaysIn ty)) → AlwaysIn (roll-Ty (map-Ty ((ty : Ty) × AlwaysIn ty) Ty (λ e. e.0) y))
    layer (Void at) t = own_in t (Void at) 0 (parts_own (Void at) refl) (λ f. refl)
    layer (Ptr at) t = own_in t (Ptr at) 1 (parts_own (Ptr at) refl) (λ f. refl)
    layer (Named name) t = own_in t (Named name) (named t.names name) (parts_own (Named name) refl) (λ f. refl)
    layer (Int at) t = key_in t t (Int at) [] (0 ∷ bits_of t.names at ∷ []) (parts_own (Int at) refl) refl (λ rest. refl) tt
    layer (Array start count elem) t =
        let one = elem.1 t in
        let mid = with_all t (parts_first elem.0) in
        key_in t mid (Array start count elem.0) (parts_first elem.0) (1 ∷ elements_of mid.names count ∷ one.number.0 ∷ [])
        (parts_array start count elem.0) refl (λ rest. ap (λ n. Keyed (1 ∷ elements_of mid.names count ∷ n ∷ [])) (one.number.1.stays rest)) one.kept
    layer (Struct start ps) t =
        let all = all_in ps t in
        key_in t (with_all t (flat_map parts_first (some_in ps))) (Struct start (some_in ps)) (flat_map parts_first (some_in ps)) (2 ∷ all.numbers.0)
        (parts_struct start (some_in ps)) refl (λ rest. ap (λ ns. Keyed (2 ∷ ns)) (all.numbers.1 rest)) all.kept
    layer (Packed start ps) t =
        let all = all_in ps t in
        key_in t (with_all t (flat_map parts_first (some_in ps))) (Packed start (some_in ps)) (flat_map parts_first (some_in ps)) (3 ∷ all.numbers.0)
        (parts_packed start (some_in ps)) refl (λ rest. ap (λ ns. Keyed (3 ∷ ns)) (all.numbers.1 rest)) all.kept

-- the types of a list of places
uses_kept : (uses : List Use) (t : Table) → AllByRecursion (IsKept (with_all t (with_parts uses))) (with_parts uses)
uses_kept [] t = tt
uses_kept (u ∷ us) t =
    let mid = with_all t (parts_first u.0) in
    let new = with_all mid (with_parts us) in
    subst (λ v. AllByRecursion (IsKept v) (parts_first u.0 ++ with_parts us)) (sym (with_all-append t (parts_first u.0) (with_parts us)))
    (every_append (IsKept new) (parts_first u.0) (with_parts us)
    (every_mapped (IsKept mid) (IsKept new) (parts_first u.0) (λ ty. kept_by mid new (with_parts us) ty refl) (always_in u.0 t).kept) (uses_kept us mid))

pub written_there : (r : Reading) (es : List Entity) (ty : Ty) → IsWritten es ty → IsThere (table_of r es).keys (form_of (table_of r es) ty)
written_there r es ty is =
    let t = with_all (empty_table r es) (with_parts (written es)) in
    let grown = joined_grows t.keys (Keyed bit_key) in
    let kept = every_at (IsKept t) (with_parts (written es)) is.0 ty (uses_kept (written es) (empty_table r es)) is.1 in
    subst (λ ks. IsThere ks (form_of (record t { keys = ks }) ty)) (sym grown.1) (kept grown.0)
