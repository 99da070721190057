-- Flags that are raised one after another.
use Rattle.std.proofs.Common.{◌≡◌, ◌+◌, ◌<◌, ◌≤◌, ◌++◌, ◌∷◌, ◌||◌, drop, subst, arith, inl, inr, ◌∙◌, ℕ, length, slice_get, slice_set, take, get_or, List}
use Rattle.std.proofs.Common.{[], Bool, true, false, Option, None, Some, refl, sym, ap}
use Rattle.std.specs.List.{list_any}
use Rattle.std.specs.Option.{option_map}
use Rattle.std.proofs.lemmas.List.{take_more, drop-append-le, length-take-le}
use Rattle.std.proofs.lemmas.Option.{get_or_from_slice_get}
use Rattle.std.proofs.lemmas.List.Folds.{list_any_more, list_any-append}
use Rattle.std.proofs.lemmas.Bool.{cases_eq}
use Rattle.std.proofs.Math.ListN.{length-set}
use Rattle.std.proofs.Math.Bool.{or-false}
use Rattle.shelf.proofs.Shelf.{get_set_same, get_set_other}
use Rattle.ir_module.specs.declared.module.Func.{Func}
use Rattle.ir_module.specs.Calls.{is_open_in}
use Rattle.ir_uses.specs.Raised.{Raises}

or_assoc : (a b c : Bool) → ((a || b) || c) ≡ (a || (b || c))
or_assoc true b c = refl
or_assoc false b c = refl

map_same : (p : Bool → Bool) → ((b : Bool) → p b ≡ b) → (o : Option Bool) → o ≡ option_map p o
map_same p e None = refl
map_same p e (Some b) = ap (λ (x : Bool). Some x) (sym (e b))

map_twice : (p q r : Bool) (o : Option Bool) → r ≡ (p || q) → option_map (λ b. b || q) (option_map (λ b. b || p) o) ≡ option_map (λ b. b || r) o
map_twice p q r None e = refl
map_twice p q r (Some b) e = ap (λ (x : Bool). Some x) (or_assoc b p q ∙ ap (λ (x : Bool). b || x) (sym e))

any_from : {X : Type 0} → (p : X → Bool) (xs : List X) (first i : ℕ) (x : X) → first ≤ i → i < length xs → slice_get xs i ≡ Some x
    → list_any p (drop first (take (i + 1) xs)) ≡ (list_any p (drop first (take i xs)) || p x)
any_from {X} p xs first i x low l e =
    let more : take (i + 1) xs ≡ take i xs ++ x ∷ [] =
    take_more xs i x l ∙ ap (λ (y : X). take i xs ++ y ∷ []) (get_or_from_slice_get xs i x x e) in
    let split : drop first (take i xs ++ x ∷ []) ≡ drop first (take i xs) ++ x ∷ [] =
    drop-append-le first (take i xs) (x ∷ []) (omega (arith, length-take-le i xs (omega (arith, l)), low)) in
    ap (λ (ys : List X). list_any p (drop first ys)) more ∙ ap (λ (ys : List X). list_any p ys) split
    ∙ list_any-append p (drop first (take i xs)) (x ∷ []) ∙ ap (λ (b : Bool). list_any p (drop first (take i xs)) || b) (or-false (p x))

-- nothing is raised
pub unraised : (flags : List Bool) (p : ℕ → Bool) → ((f : ℕ) → p f ≡ false) → Raises flags flags p
unraised flags p none f = map_same (λ b. b || p f) (λ b. ap (λ (x : Bool). b || x) (none f) ∙ or-false b) (slice_get flags f)

-- one step after another
pub raised_twice : (old mid new : List Bool) (p q r : ℕ → Bool) → Raises old mid p → Raises mid new q → ((f : ℕ) → r f ≡ (p f || q f)) → Raises old new r
raised_twice old mid new p q r h k e f = k f ∙ ap (λ (o : Option Bool). option_map (λ b. b || q f) o) (h f) ∙ map_twice (p f) (q f) (r f) (slice_get old f)
    (e f)

-- one element more of a list
pub raised_more : {X : Type 0} → (old mid new : List Bool) (t : ℕ → X → Bool) (xs : List X) (i : ℕ) (d : X) → i < length xs
    → Raises old mid (λ f. list_any (t f) (take i xs)) → Raises mid new (λ f. t f (get_or xs i d)) → Raises old new (λ f. list_any (t f) (take (i + 1) xs))
raised_more {X} old mid new t xs i d l h k =
    raised_twice old mid new (λ f. list_any (t f) (take i xs)) (λ f. t f (get_or xs i d)) (λ f. list_any (t f) (take (i + 1) xs)) h k
    (λ f. list_any_more (t f) xs i d l)

-- the same, where the element was read
pub raised_item : {X : Type 0} → (old mid new : List Bool) (t : ℕ → X → Bool) (xs : List X) (i : ℕ) (x : X) → i < length xs → x ≡ get_or xs i x
    → Raises old mid (λ f. list_any (t f) (take i xs)) → Raises mid new (λ f. t f x) → Raises old new (λ f. list_any (t f) (take (i + 1) xs))
raised_item {X} old mid new t xs i x l e h k = raised_more old mid new t xs i x l h (subst (λ (y : X). Raises mid new (λ f. t f y)) e k)

-- the same of a list without its first elements
pub raised_from : {X : Type 0} → (old mid new : List Bool) (t : ℕ → X → Bool) (xs : List X) (first i : ℕ) (x : X) → first ≤ i → i < length xs
    → slice_get xs i ≡ Some x
    → Raises old mid (λ f. list_any (t f) (drop first (take i xs))) → Raises mid new (λ f. t f x)
    → Raises old new (λ f. list_any (t f) (drop first (take (i + 1) xs)))
raised_from {X} old mid new t xs first i x low l e h k =
    raised_twice old mid new (λ f. list_any (t f) (drop first (take i xs))) (λ f. t f x) (λ f. list_any (t f) (drop first (take (i + 1) xs))) h k
    (λ f. any_from (t f) xs first i x low l e)

-- ---- flags of open bodies

-- the first flags say whether their functions are open bodies, the others whether their addresses are taken
pub record IsSettled (funcs : List Func) (old new : List Bool) (count : ℕ) : Type 0 where
  pub long : length new ≡ length old
  pub first : (f : ℕ) (func : Func) (taken : Bool) → f < count → slice_get funcs f ≡ Some func → slice_get old f ≡ Some taken
      → slice_get new f ≡ Some (is_open_in taken (Some func))
  pub others : (f : ℕ) → count ≤ f → slice_get new f ≡ slice_get old f

pub none_settled : (funcs : List Func) (old : List Bool) → IsSettled funcs old old 0
none_settled funcs old = record { long = refl; first = λ f func taken l. absurd (omega (arith, l)); others = λ f l. refl }

pub settled_more : (funcs : List Func) (old new : List Bool) (count : ℕ) (func : Func) (taken : Bool) → IsSettled funcs old new count → count < length new
    → slice_get funcs count ≡ Some func → slice_get new count ≡ Some taken
    → IsSettled funcs old (slice_set new count (is_open_in taken (Some func))) (count + 1)
settled_more funcs old new count func taken h inside here now = record {
  long = length-set new count (is_open_in taken (Some func)) ∙ h.long;
  first = λ f g b l e k. elim (cases_eq f count) [
    | inl same ↦ (let ef : slice_get funcs count ≡ Some g = subst (λ (x : ℕ). slice_get funcs x ≡ Some g) same e in
        let eb : slice_get old count ≡ Some b = subst (λ (x : ℕ). slice_get old x ≡ Some b) same k in
        let kept : slice_get new count ≡ slice_get old count = h.others count (omega arith) in
        let one : g ≡ func = cc in
        let two : b ≡ taken = cc in
        subst (λ (x : ℕ). slice_get (slice_set new count (is_open_in taken (Some func))) x ≡ Some (is_open_in b (Some g))) (sym same)
        (get_set_same new count (is_open_in taken (Some func)) inside ∙ ap (λ (x : Bool). Some (is_open_in x (Some func))) (sym two) ∙ ap
        (λ (x : Func). Some (is_open_in b (Some x))) (sym one)))
    | inr other ↦ (let before : f < count = omega arith in
        get_set_other new count f (is_open_in taken (Some func)) other ∙ h.first f g b before e k)
  ];
  others = λ f l. let other : (f ≡ count → ⊥) = λ e. omega (arith, e, l) in
      get_set_other new count f (is_open_in taken (Some func)) other ∙ h.others f (omega (arith, l));
}
