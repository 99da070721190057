-- Notes of the types that wait, before and after a note.
use Rattle.std.proofs.Common.{ℕ, zero, suc, ◌+◌, ◌<◌, ◌≡◌, refl, sym, ap, subst, ◌∙◌, arith, inl, inr, eqb, true, Option, None, Some, List, [], ◌∷◌, ◌++◌}
use Rattle.std.proofs.Common.{length, get_or, set}
use Rattle.std.specs.Prelude.{slice_get}
use Rattle.std.specs.Option.{unwrap_or, option_eq}
use Rattle.std.proofs.lemmas.Option.{none-some, same_Some, slice_get_read}
use Rattle.std.proofs.lemmas.Bool.{cases_eq, true≢false, eqb-true}
use Rattle.shelf.proofs.Shelf.{get_kept, get_set_same, get_set_other}
use Rattle.ir_types.specs.declared.standing.Standing.{Standing}
use Rattle.ir_types.specs.Standing.{Has, HasAll, laid, users_of}

-- room for one more part
pub room_keeps : (users : List (List ℕ)) → HasAll users (users ++ [] ∷ [])
room_keeps users part t h = go (slice_get users part) refl h
  where
    go : (o : Option (List ℕ)) → slice_get users part ≡ o → Has (unwrap_or o []) t → Has (users_of (users ++ [] ∷ []) part) t
    go None is has = absurd (none-some t has.1)
    go (Some ts) is has = subst (λ (o : Option (List ℕ)). Has (unwrap_or o []) t) (sym (get_kept users ([] ∷ []) part ts is)) has

pub users_at_set : (users : List (List ℕ)) (part : ℕ) (ts : List ℕ) → part < length users → users_of (set users part ts) part ≡ ts
users_at_set users part ts l = ap (λ (o : Option (List ℕ)). unwrap_or o []) (get_set_same users part ts l)

pub has_pushed : (ts : List ℕ) (user t : ℕ) → Has ts t → Has (ts ++ user ∷ []) t
has_pushed ts user t (k, at) = (k, get_kept ts (user ∷ []) k t at)

pub has_new : (ts : List ℕ) (user : ℕ) → Has (ts ++ user ∷ []) user
has_new [] user = (zero, refl)
has_new (t ∷ ts) user = let rest = has_new ts user in (suc rest.0, rest.1)

-- the notes of one part grow
pub note_keeps : (users : List (List ℕ)) (part : ℕ) (old new : List ℕ) → part < length users → old ≡ get_or users part old
    → ((t : ℕ) → Has old t → Has new t) → HasAll users (set users part new)
note_keeps users part old new l is grows p t h =
    elim (cases_eq p part) [
      | inl same ↦
          (let at : users_of users part ≡ old = ap (λ (o : Option (List ℕ)). unwrap_or o []) (slice_get_read users (length users) part old refl l is) in
          let before = subst (λ (ts : List ℕ). Has ts t) at (subst (λ (q : ℕ). Has (users_of users q) t) same h) in
          subst (λ (q : ℕ). Has (users_of (set users part new) q) t) (sym same)
          (subst (λ (ts : List ℕ). Has ts t) (sym (users_at_set users part new l)) (grows t before)))
      | inr other ↦ subst (λ (o : Option (List ℕ)). Has (unwrap_or o []) t) (sym (get_set_other users part p new other)) h
    ]

pub note_has : (users : List (List ℕ)) (part user : ℕ) (old new : List ℕ) → part < length users → new ≡ old ++ user ∷ []
    → Has (users_of (set users part new) part) user
note_has users part user old new l is =
    subst (λ (ts : List ℕ). Has ts user) (sym (users_at_set users part new l)) (subst (λ (ts : List ℕ). Has ts user) (sym is) (has_new old user))

same_number : (o : Option ℕ) (x : ℕ) → option_eq eqb o (Some x) ≡ true → o ≡ Some x
same_number None x e = absurd (true≢false (sym e))
same_number (Some y) x e = ap Some (eqb-true y x e)

-- the last note is this one
pub last_has : (users : List (List ℕ)) (part user : ℕ) (ts : List ℕ) (last : Option ℕ) (k : ℕ) → part < length users → ts ≡ get_or users part ts
    → last ≡ slice_get ts k → true ≡ option_eq eqb last (Some user) → Has (users_of users part) user
last_has users part user ts last k l is at e =
    let here : users_of users part ≡ ts = ap (λ (o : Option (List ℕ)). unwrap_or o []) (slice_get_read users (length users) part ts refl l is) in
    subst (λ (xs : List ℕ). Has xs user) (sym here) (k, sym at ∙ same_number last user (sym e))

-- the parts below k + 1 are noted, if those below k are and the part at k is
pub noted_more : (old new : List (List ℕ)) (ps : List ℕ) (ss : List Standing) (user k p : ℕ) → HasAll old new → slice_get ps k ≡ Some p
    → ((j q : ℕ) → j < k → slice_get ps j ≡ Some q → laid ss q ≡ None → Has (users_of old q) user)
    → (laid ss p ≡ None → Has (users_of new p) user)
    → (j q : ℕ) → j < k + 1 → slice_get ps j ≡ Some q → laid ss q ≡ None → Has (users_of new q) user
noted_more old new ps ss user k p keeps at before here j q l is out =
    elim (cases_eq j k) [
      | inl same ↦
          (let e : q ≡ p = same_Some q p (sym is ∙ (rw same at)) in
          rw e (here (sym (ap (laid ss) e) ∙ out)))
      | inr other ↦ keeps q user (before j q (omega arith) is out)
    ]
