-- The first definition of a name, as more definitions come.
use Rattle.std.proofs.Common.{◌≡◌, ℕ, Bool, true, false, cond, eqb, List, [], ◌∷◌, ◌++◌, Some, None, refl, sym, ap, ◌∙◌}
use Rattle.std.specs.Prelude.{Option}
use Rattle.std.specs.Option.{is_some}
use borrow.Author.Tests.{eqb-true}
use Rattle.ir_scopes.specs.declared.slot.Entry.{Entry}
use Rattle.ir_scopes.specs.Scopes.{find}

kept : (b : Bool) (x e : Entry) (r s : Option Entry) → (r ≡ Some e → s ≡ Some e) → cond b (Some x) r ≡ Some e → cond b (Some x) s ≡ Some e
kept true x e r s further h = h
kept false x e r s further h = further h

passed : (b : Bool) (x : Entry) (r : Option Entry) → cond b (Some x) r ≡ None → (b ≡ false) × (r ≡ None)
passed true x r h = absurd (cc)
passed false x r h = (refl, h)

-- what is defined first stays first
pub find_old : (ds es : List (ℕ × Entry)) (q : ℕ) (e : Entry) → find ds q ≡ Some e → find (ds ++ es) q ≡ Some e
find_old [] es q e h = absurd (cc)
find_old (d ∷ ds) es q e h = kept (eqb d.0 q) d.1 e (find ds q) (find (ds ++ es) q) (find_old ds es q e) h

-- where a name has no definition, the first one behind counts
pub find_new : (ds es : List (ℕ × Entry)) (q : ℕ) → find ds q ≡ None → find (ds ++ es) q ≡ find es q
find_new [] es q h = refl
find_new (d ∷ ds) es q h =
    let by = passed (eqb d.0 q) d.1 (find ds q) h in
    ap (λ b. cond b (Some d.1) (find (ds ++ es) q)) by.0 ∙ find_new ds es q by.1

again : (ds : List (ℕ × Entry)) (id q : ℕ) (e : Entry) (b : Bool) (o : Option Entry) → eqb id q ≡ b → find ds q ≡ o → is_some (find ds id) ≡ true →
    find (ds ++ (id, e) ∷ []) q ≡ o
again ds id q e b (Some x) same is known = find_old ds ((id, e) ∷ []) q x is
again ds id q e true None same is known =
    let there : is_some (find ds id) ≡ false = ap (λ k. is_some (find ds k)) (eqb-true id q same) ∙ ap (λ o. is_some o) is in
    absurd (cc)
again ds id q e false None same is known = find_new ds ((id, e) ∷ []) q is ∙ ap (λ b. cond b (Some e) None) same

-- a second definition changes nothing
pub known_again : (ds : List (ℕ × Entry)) (id : ℕ) (e : Entry) → is_some (find ds id) ≡ true → (q : ℕ) → find (ds ++ (id, e) ∷ []) q ≡ find ds q
known_again ds id e known q = again ds id q e (eqb id q) (find ds q) refl refl known

unchanged : (ds : List (ℕ × Entry)) (id q : ℕ) (e : Entry) (o : Option Entry) → eqb id q ≡ false → find ds q ≡ o → find (ds ++ (id, e) ∷ []) q ≡ o
unchanged ds id q e (Some x) same h = find_old ds ((id, e) ∷ []) q x h
unchanged ds id q e None same h = find_new ds ((id, e) ∷ []) q h ∙ ap (λ b. cond b (Some e) None) same

first_time : (ds : List (ℕ × Entry)) (id q : ℕ) (e : Entry) (b : Bool) (t : Option Entry) → eqb id q ≡ b → find ds id ≡ None → t ≡ cond b (Some e) (find ds q) →
    t ≡ find (ds ++ (id, e) ∷ []) q
first_time ds id q e true t same none is =
    let none_here : find ds q ≡ None = ap (find ds) (sym (eqb-true id q same)) ∙ none in
    is ∙ sym (find_new ds ((id, e) ∷ []) q none_here ∙ ap (λ b. cond b (Some e) None) same)
first_time ds id q e false t same none is = is ∙ sym (unchanged ds id q e (find ds q) same refl)

-- a first definition is found from then on
pub known_new : (ds : List (ℕ × Entry)) (id q : ℕ) (e : Entry) (t : Option Entry) → find ds id ≡ None → t ≡ cond (eqb id q) (Some e) (find ds q) →
    t ≡ find (ds ++ (id, e) ∷ []) q
known_new ds id q e t none is = first_time ds id q e (eqb id q) t refl none is

pub is_none : (o : Option Entry) → is_some o ≡ false → o ≡ None
is_none None h = refl
is_none (Some x) h = absurd (cc)
