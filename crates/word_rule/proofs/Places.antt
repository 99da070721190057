-- Views by their places, and the seats of the core machine that they have.
use Rattle.std.proofs.Common.{◌≡◌, ℕ, zero, suc, ◌-◌, ◌<◌, List, [], ◌∷◌, ◌++◌, map, length, replicate, set, slice_get, Some, ap, sym, ◌∙◌, subst, arith}
use mathlib.Core.Option.{some, some-injective, some-ne-none}
use lib.ListN.{get_elem?}
use Rattle.std.proofs.lemmas.List.{length-map, length-set, map-set, set-append_left, map-append, append_assoc, length_push}
use Rattle.fix_core.specs.declared.state.CoreSeat.{CoreSeat}
use Rattle.fix_core.specs.Machine.{new_seat}
use Rattle.word_rule.specs.declared.view.View.{View}
use Rattle.word_rule.specs.Rule.{seats_of}

pub at_inside : {A : Type 0} (xs : List A) (i : ℕ) (x : A) → get_elem? xs i ≡ some x → i < length xs
at_inside [] i x e = absurd (some-ne-none x (sym e))
at_inside (y ∷ ys) zero x e = omega arith
at_inside (y ∷ ys) (suc i) x e = omega (arith, at_inside ys i x e)

pub same_at : {A : Type 0} (xs : List A) (i : ℕ) (x y : A) → get_elem? xs i ≡ some x → get_elem? xs i ≡ some y → x ≡ y
same_at xs i x y e f = some-injective x y (sym e ∙ f)

-- the core seat of the view at a place
seat_there : (views : List View) (more : List CoreSeat) (i : ℕ) (v : View) → get_elem? views i ≡ some v →
    slice_get (map (λ (w : View). w.core) views ++ more) i ≡ Some v.core
seat_there [] more i v e = absurd (some-ne-none v (sym e))
seat_there (w ∷ ws) more zero v e = ap (λ (u : View). Some u.core) (some-injective w v e)
seat_there (w ∷ ws) more (suc i) v e = seat_there ws more i v e

pub seats_at : (workers : ℕ) (views : List View) (i : ℕ) (v : View) → get_elem? views i ≡ some v → slice_get (seats_of workers views) i ≡ Some v.core
seats_at workers views i v e = seat_there views (replicate (workers - length views) new_seat) i v e

-- one view was written
pub seats_set : (workers : ℕ) (views : List View) (i : ℕ) (v : View) → i < length views →
    set (seats_of workers views) i v.core ≡ seats_of workers (set views i v)
seats_set workers views i v l =
    let inside : i < length (map (λ (w : View). w.core) views) = subst (λ n. i < n) (sym (length-map views (λ (w : View). w.core))) l in
    set-append_left (map (λ (w : View). w.core) views) (replicate (workers - length views) new_seat) i v.core inside
    ∙ ap (λ xs. xs ++ replicate (workers - length views) new_seat) (sym (map-set (λ (w : View). w.core) views i v))
    ∙ ap (λ n. map (λ (w : View). w.core) (set views i v) ++ replicate (workers - n) new_seat) (sym (length-set views i v))

-- a view for a number that had none yet
pub seats_more : (workers : ℕ) (views : List View) (v : View) → length views < workers → v.core ≡ new_seat →
    seats_of workers (views ++ v ∷ []) ≡ seats_of workers views
seats_more workers views v l fresh =
    let rest : ℕ = workers - length (views ++ v ∷ []) in
    let many : suc rest ≡ workers - length views = (let long = length_push views v in omega (arith, long, l)) in
    ap (λ xs. xs ++ replicate rest new_seat) (map-append (λ (w : View). w.core) views (v ∷ []))
    ∙ ap (λ c. (map (λ (w : View). w.core) views ++ c ∷ []) ++ replicate rest new_seat) fresh
    ∙ append_assoc (map (λ (w : View). w.core) views) (new_seat ∷ []) (replicate rest new_seat)
    ∙ ap (λ n. map (λ (w : View). w.core) views ++ replicate n new_seat) many
