-- A type is put at the end of the table.
use Rattle.std.proofs.Common.{ℕ, zero, suc, ◌≡◌, refl, sym, ap, subst, ◌∙◌, arith, inl, inr, None, Some, List, [], ◌∷◌, ◌++◌, length, take, drop}
use Rattle.std.proofs.Math.Seq.{drop-length}
use Rattle.std.proofs.lemmas.List.{append-nil, take_all, length-append}
use Rattle.std.proofs.lemmas.Option.{none-some}
use Rattle.shelf.proofs.Shelf.{get_push}
use Rattle.ir_types.specs.declared.ir_type.IrType.{IrType}
use Rattle.ir_types.specs.declared.standing.Standing.{Standing}
use Rattle.ir_types.specs.declared.standing.Standing.TheVariants.{Waiting}
use Rattle.ir_types.specs.IrType.{parts}
use Rattle.ir_types.specs.Standing.{AreSound, AreSettledBut, AreWaiting, Grows, Has, HasAll, IsKept, laid, users_of}
use Rattle.ir_types.proofs.Layouts.{layout_appended}
use Rattle.ir_types.proofs.Settling.{waiting_grows}
use Rattle.ir_types.proofs.Standings.{blocked_alike}

-- a type that waits is laid out no more than one that is not there
pub laid_push : (ss : List Standing) (known u : ℕ) → laid (ss ++ Waiting known ∷ []) u ≡ laid ss u
laid_push [] known zero = refl
laid_push [] known (suc u) = refl
laid_push (s ∷ ss) known zero = refl
laid_push (s ∷ ss) known (suc u) = laid_push ss known u

pub more_notes : (types : List IrType) (ss : List Standing) (old new : List (List ℕ)) → HasAll old new → IsKept types ss old → IsKept types ss new
more_notes types ss old new keeps kept = record {
  long = kept.long;
  sound = kept.sound;
  settled = kept.settled;
  waiting = λ t part type at out is_part open_part. keeps part t (kept.waiting t part type at out is_part open_part);
}

pub sound_push : (types : List IrType) (ss : List Standing) (type : IrType) (known : ℕ) → AreSound types ss
    → AreSound (types ++ type ∷ []) (ss ++ Waiting known ∷ [])
sound_push types ss type known sound t e is =
    let from = sound t e (sym (laid_push ss known t) ∙ is) in
    (from.0, layout_appended types (type ∷ []) 64 t from.0 from.1, from.2)

pub waiting_push : (types : List IrType) (ss : List Standing) (users : List (List ℕ)) (type : IrType) (known : ℕ) → AreWaiting users types ss
    → ((part : ℕ) → Has (parts type) part → laid ss part ≡ None → Has (users_of users part) (length types))
    → AreWaiting users (types ++ type ∷ []) (ss ++ Waiting known ∷ [])
waiting_push types ss users type known waits noted t part ty at out is_part open_part =
    let out' = sym (laid_push ss known t) ∙ out in
    let open' = sym (laid_push ss known part) ∙ open_part in
    elim (get_push types type ty t at) [
      | inl before ↦ waits t part ty before out' is_part open'
      | inr last ↦ subst (Has (users_of users part)) (sym last.0) (noted part (subst (λ (x : IrType). Has (parts x) part) (sym last.1) is_part) open')
    ]

pub settled_push : (types : List IrType) (ss : List Standing) (type : IrType) (known : ℕ) → AreSettledBut [] types ss
    → AreSettledBut (length types ∷ []) (types ++ type ∷ []) (ss ++ Waiting known ∷ [])
settled_push types ss type known settled t ty at out pending =
    elim (get_push types type ty t at) [
      | inl before ↦ blocked_alike ss (ss ++ Waiting known ∷ []) ty (laid_push ss known)
          (settled t ty before (sym (laid_push ss known t) ∙ out) (λ has. none-some t has.1))
      | inr last ↦ absurd (pending (zero, ap Some (sym last.0)))
    ]

-- ---- the same, for lists that are known to be these
pub sound_new : (types types' : List IrType) (ss ss' : List Standing) (type : IrType) → types' ≡ types ++ type ∷ [] → ss' ≡ ss ++ Waiting 0 ∷ []
    → AreSound types ss → AreSound types' ss'
sound_new types types' ss ss' type e f sound =
    subst (λ (ts : List IrType). AreSound ts ss') (sym e) (subst (AreSound (types ++ type ∷ [])) (sym f) (sound_push types ss type 0 sound))

pub waiting_new : (types types' : List IrType) (ss ss' : List Standing) (users users' users'' : List (List ℕ)) (type : IrType) → types' ≡ types ++ type ∷ []
    → ss' ≡ ss ++ Waiting 0 ∷ [] → users'' ≡ users'
    → HasAll users users' → AreWaiting users types ss → ((part : ℕ) → Has (parts type) part → laid ss part ≡ None → Has (users_of users' part)
    (length types)) → AreWaiting users'' types' ss'
waiting_new types types' ss ss' users users' users'' type e f g keeps waits noted =
    subst (λ (us : List (List ℕ)). AreWaiting us types' ss') (sym g)
    (subst (λ (ts : List IrType). AreWaiting users' ts ss') (sym e)
    (subst (AreWaiting users' (types ++ type ∷ [])) (sym f)
    (waiting_push types ss users' type 0 (λ t part ty at out is_part open_part. keeps part t (waits t part ty at out is_part open_part)) noted)))

pub settled_new : (types types' : List IrType) (ss ss' : List Standing) (type : IrType) → types' ≡ types ++ type ∷ [] → ss' ≡ ss ++ Waiting 0 ∷ []
    → AreSettledBut [] types ss → AreSettledBut (length types ∷ []) types' ss'
settled_new types types' ss ss' type e f settled =
    subst (λ (ts : List IrType). AreSettledBut (length types ∷ []) ts ss') (sym e)
    (subst (AreSettledBut (length types ∷ []) (types ++ type ∷ [])) (sym f) (settled_push types ss type 0 settled))

-- what a write of a whole list leaves
pub whole_list : (n : ℕ) (xs ys : List Standing) → length xs ≡ n → length ys ≡ n → take n (xs ++ drop (length xs) ys) ≡ xs
whole_list n xs ys e f =
    let same : length ys ≡ length xs = f ∙ sym e in
    let rest : drop (length xs) ys ≡ [] = subst (λ (k : ℕ). drop k ys ≡ []) same (drop-length ys) in
    ap (λ (zs : List Standing). take n (xs ++ zs)) rest ∙ ap (take n) (append-nil xs) ∙ take_all n xs (omega arith)

pub kept_same : (types types' : List IrType) (ss ss' : List Standing) (users users' : List (List ℕ)) → types' ≡ types → ss' ≡ ss → HasAll users users'
    → IsKept types ss users → IsKept types' ss' users'
kept_same types types' ss ss' users users' e f keeps kept =
    subst (λ (ts : List IrType). IsKept ts ss' users') (sym e) (subst (λ (xs : List Standing). IsKept types xs users') (sym f)
    (more_notes types ss users users' keeps kept))

long_new : (types types' : List IrType) (ss ss' : List Standing) (type : IrType) → types' ≡ types ++ type ∷ [] → ss' ≡ ss ++ Waiting 0 ∷ []
    → length ss ≡ length types → length ss' ≡ length types'
long_new types types' ss ss' type e f l =
    omega (arith, ap length e, ap length f, length-append types (type ∷ []), length-append ss (Waiting 0 ∷ []))

pub kept_new : (types types' : List IrType) (ss ss' new : List Standing) (users users' : List (List ℕ)) (type : IrType) → types' ≡ types ++ type ∷ []
    → ss' ≡ ss ++ Waiting 0 ∷ []
    → HasAll users users' → IsKept types ss users → ((part : ℕ) → Has (parts type) part → laid ss part ≡ None → Has (users_of users' part) (length types))
    → length new ≡ length ss' → AreSound types' new → Grows ss' new
    → ((pending : List ℕ) → AreSettledBut (length types ∷ pending) types' ss' → AreSettledBut pending types' new)
    → IsKept types' new users'
kept_new types types' ss ss' new users users' type e f keeps kept noted long sound grows settled = record {
  long = long ∙ long_new types types' ss ss' type e f kept.long;
  sound = sound;
  settled = settled [] (settled_new types types' ss ss' type e f kept.settled);
  waiting = waiting_grows users' types' ss' new grows (waiting_new types types' ss ss' users users' users' type e f refl keeps kept.waiting noted);
}
