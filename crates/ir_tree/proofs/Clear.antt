-- Productions of which at most one tree fits: how that is shown of a production from its parts.
use Rattle.std.proofs.Common.{◌≡◌, ℕ, zero, suc, ◌+◌, ◌<◌, ◌≤◌, Bool, true, false, ◌&&◌, eqb, eqb-true, List, [], ◌∷◌, ◌++◌, length, map, Option, None, Some}
use Rattle.std.proofs.Common.{◌⊎◌, inl, inr, ⊎_elim, refl, sym, ap, ◌∙◌, subst, arith}
use Rattle.std.proofs.lemmas.Bool.{and_parts, true≢false}
use Rattle.std.proofs.lemmas.Option.{same_Some}
use Rattle.ir_tree.specs.declared.terminal.Terminal.{Terminal}
use Rattle.ir_tree.specs.declared.terminal.Terminal.TheVariants as k
use Rattle.ir_tree.specs.Steps.{Step, and_then, ◌⨾◌, when, unless, among, sees, stands, the, passing, many, some, optional, next, listed, separated, where_not}
use Rattle.ir_tree.proofs.Looks.{Test, passes, Look, apart, At, at_clash, at_left, at_right, at_nil, at_behind, seen_within}
use Rattle.ir_tree.proofs.Looks.Test.{In}

-- what follows where the test holds
abbrev pub given : Bool → List Look → List Look
given true looks = looks
given false looks = []

-- one tree behind another
abbrev pub pair : {T U : Type 0} → (T → Step) → (U → Step) → T × U → Step
pair p q x = p x.0 ⨾ q x.1

-- a tree of one of two kinds
abbrev pub choice : {T U : Type 0} → (T → Step) → (U → Step) → T ⊎ U → Step
choice p q (inl x) = p x
choice p q (inr y) = q y

pub split : (o : Option ℕ) (g : Step) (c : ℕ) → and_then o g ≡ Some c → (b : ℕ) × ((o ≡ Some b) × (g b ≡ Some c))
split None g c e = cc
split (Some b) g c e = (b, (refl, e))

pub then_some : (o : Option ℕ) → and_then o Some ≡ o
then_some None = refl
then_some (Some b) = refl

-- a step behind two is a step behind the second
pub then_then : (o : Option ℕ) (f g : Step) → and_then (and_then o f) g ≡ and_then o (f ⨾ g)
then_then None f g = refl
then_then (Some b) f g = refl

-- three steps and one more, however they are taken together
regroup_from : (o : Option ℕ) (g h i : Step) → and_then (and_then o g) (h ⨾ i) ≡ and_then (and_then o (g ⨾ h)) i
regroup_from None g h i = refl
regroup_from (Some b) g h i = sym (then_then (g b) h i)

pub regroup : (f g h i : Step) (a : ℕ) → ((f ⨾ g) ⨾ h ⨾ i) a ≡ ((f ⨾ g ⨾ h) ⨾ i) a
regroup f g h i a = regroup_from (f a) g h i

pub when_true : (x : Bool) (a b : ℕ) → when x a ≡ Some b → (x ≡ true) × (b ≡ a)
when_true true a b e = (refl, cc)
when_true false a b e = cc

pub unless_false : (x : Bool) (o : Option ℕ) (b : ℕ) → unless x o ≡ Some b → (x ≡ false) × (o ≡ Some b)
unless_false true o b e = cc
unless_false false o b e = (refl, e)

module _ (toks : List Terminal) where
  -- two trees from one place are one, or the shorter ends where the longer may go on
  abbrev pub Told : Type 0 → List Look → ℕ → ℕ → Type 0
  Told same more b c = same ⊎ (((b < c) × At toks more b) ⊎ ((c < b) × At toks more c))

  -- a tree eats something and begins as told, or it may be empty and is
  abbrev pub Opened : List Look → Bool → ℕ → ℕ → Type 0
  Opened first empty a b = ((a < b) × At toks first a) ⊎ ((b ≡ a) × (empty ≡ true))

  -- from this place the production's trees begin with `first` and are told apart by what may go on, `more`
  pub record Reads {T : Type 0} (p : T → Step) (first more : List Look) (empty : Bool) (a : ℕ) : Type 0 where
    pub clear : (t u : T) (b c : ℕ) → p t a ≡ Some b → p u a ≡ Some c → Told (t ≡ u) more b c
    pub opens : (t : T) (b : ℕ) → p t a ≡ Some b → Opened first empty a b
    pub within : (t : T) (b : ℕ) → p t a ≡ Some b → a ≤ length toks → b ≤ length toks

  told_as : {E E' : Type 0} (more more' : List Look) (b c : ℕ) → (E → E') → ((i : ℕ) → At toks more i → At toks more' i) → Told E more b c → Told E' more' b c
  told_as more more' b c f g (inl e) = inl (f e)
  told_as more more' b c f g (inr (inl h)) = inr (inl (h.0, g b h.1))
  told_as more more' b c f g (inr (inr h)) = inr (inr (h.0, g c h.1))

  pub rises : (first : List Look) (empty : Bool) (a b : ℕ) → Opened first empty a b → a ≤ b
  rises first empty a b (inl h) = omega (arith, h.0)
  rises first empty a b (inr h) = omega (arith, h.0)

  pub moves : (first : List Look) (a b : ℕ) → Opened first false a b → (a < b) × At toks first a
  moves first a b (inl h) = h
  moves first a b (inr h) = absurd (true≢false (sym h.1))

  -- ---- one token
  pub token_reads : (x : Test) (a : ℕ) → Reads (passing toks (passes x)) ((x ∷ []) ∷ []) [] false a
  token_reads x a = record {
    clear = λ t u b c et eu.
        let ft = when_true (eqb t a && sees toks (passes x) a) (suc a) b et in
        let fu = when_true (eqb u a && sees toks (passes x) a) (suc a) c eu in
        let st : t ≡ a = eqb-true t a (and_parts (eqb t a) (sees toks (passes x) a) ft.0).0 in
        let su : u ≡ a = eqb-true u a (and_parts (eqb u a) (sees toks (passes x) a) fu.0).0 in
        inl (st ∙ sym su);
    opens = λ t b et.
        let ft = when_true (eqb t a && sees toks (passes x) a) (suc a) b et in
        inl (omega (arith, ft.1), inl ((and_parts (eqb t a) (sees toks (passes x) a) ft.0).1, tt));
    within = λ t b et inside.
        let ft = when_true (eqb t a && sees toks (passes x) a) (suc a) b et in
        let here : a < length toks = seen_within toks (passes x) a (and_parts (eqb t a) (sees toks (passes x) a) ft.0).1 in
        omega (arith, ft.1, here);
  }

  pub the_reads : (t : Terminal) (a : ℕ) → Reads {T = Unit {0}} (λ _. the toks t) ((In (t ∷ []) ∷ []) ∷ []) [] false a
  the_reads t a = record {
    clear = λ x y b c ex ey. inl refl;
    opens = λ x b ex.
        let f = when_true (stands toks t a) (suc a) b ex in
        inl (omega (arith, f.1), inl (f.0, tt));
    within = λ x b ex inside.
        let f = when_true (stands toks t a) (suc a) b ex in
        let here : a < length toks = seen_within toks (among (t ∷ [])) a f.0 in
        omega (arith, f.1, here);
  }

  -- behind a token, which is one of the list
  pub passed : (x : Test) (a b : ℕ) → Opened ((x ∷ []) ∷ []) false a b → (a < b) × (a < length toks)
  passed x a b o =
      let h = moves ((x ∷ []) ∷ []) a b o in
      (h.0, seen_within toks (passes x) a (⊎_elim (λ l. l.0) (λ l. absurd l) h.1))

  -- ---- one behind the other
  module _ {T U : Type 0} {p : T → Step} {q : U → Step} {first more first' more' : List Look} {empty empty' : Bool} {a : ℕ}
      (of_p : Reads p first more empty a) (of_q : (b : ℕ) → Opened first empty a b → Reads q first' more' empty' b) (told : apart more first' ≡ true) where
    q_from : (t : T) (m : ℕ) → p t a ≡ Some m → Reads q first' more' empty' m
    q_from t m e = of_q m (of_p.opens t m e)

    q_ends : (u : U) (t : T) (m b : ℕ) → p t a ≡ Some m → q u m ≡ Some b → m ≤ b
    q_ends u t m b et eu = rises first' empty' m b ((q_from t m et).opens u b eu)

    -- the first part of the one ends before that of the other
    q_empty : (m b : ℕ) → At toks more m → Opened first' empty' m b → (b ≡ m) × At toks (more' ++ given empty' more) b
    q_empty m b h (inl o) = absurd (at_clash toks more first' m told h o.1)
    q_empty m b h (inr o) = (
      o.0,
      at_right toks more' (given empty' more) b
          (subst (λ x. At toks (given x more) b) (sym o.1) (subst (λ x. At toks more x) (sym o.0) h)),
    )

    q_shorter : (t t' : T) (u u' : U) (m n b c : ℕ) → p t a ≡ Some m → p t' a ≡ Some n → q u m ≡ Some b → q u' n ≡ Some c → m < n → At toks more m → (b < c) ×
        At toks (more' ++ given empty' more) b
    q_shorter t t' u u' m n b c et et' eu eu' less h =
        let here = q_empty m b h ((q_from t m et).opens u b eu) in
        let ends : n ≤ c = q_ends u' t' n c et' eu' in
        (omega (arith, here.0, ends, less), here.1)

    pair_clear : (x y : T × U) (b c : ℕ) → pair p q x a ≡ Some b → pair p q y a ≡ Some c → Told (x ≡ y) (more' ++ given empty' more) b c
    pair_clear x y b c ex ey =
        let sx = split (p x.0 a) (q x.1) b ex in
        let sy = split (p y.0 a) (q y.1) c ey in
        go sx.0 sy.0 sx.1.0 sy.1.0 sx.1.1 sy.1.1 (of_p.clear x.0 y.0 sx.0 sy.0 sx.1.0 sy.1.0)
      where
        go : (m n : ℕ) → p x.0 a ≡ Some m → p y.0 a ≡ Some n → q x.1 m ≡ Some b → q y.1 n ≡ Some c → Told (x.0 ≡ y.0) more m n →
            Told (x ≡ y) (more' ++ given empty' more) b c
        go m n et et' eu eu' (inl same) =
            let place : n ≡ m = same_Some n m (sym et' ∙ ap (λ z. p z a) (sym same) ∙ et) in
            told_as more' (more' ++ given empty' more) b c (λ e i. (same i, e i)) (λ i h. at_left toks more' (given empty' more) i h)
            ((q_from x.0 m et).clear x.1 y.1 b c eu (subst (λ z. q y.1 z ≡ Some c) place eu'))
        go m n et et' eu eu' (inr (inl h)) = inr (inl (q_shorter x.0 y.0 x.1 y.1 m n b c et et' eu eu' h.0 h.1))
        go m n et et' eu eu' (inr (inr h)) = inr (inr (q_shorter y.0 x.0 y.1 x.1 n m c b et' et eu' eu h.0 h.1))

    pair_opens : (x : T × U) (b : ℕ) → pair p q x a ≡ Some b → Opened (first ++ given empty first') (empty && empty') a b
    pair_opens x b ex =
        let sx = split (p x.0 a) (q x.1) b ex in
        go sx.0 sx.1.1 (of_p.opens x.0 sx.0 sx.1.0) ((q_from x.0 sx.0 sx.1.0).opens x.1 b sx.1.1)
      where
        go : (m : ℕ) → q x.1 m ≡ Some b → Opened first empty a m → Opened first' empty' m b → Opened (first ++ given empty first') (empty && empty') a b
        go m eu (inl h) o = let up : m ≤ b = rises first' empty' m b o in inl (omega (arith, h.0, up), at_left toks first (given empty first') a h.1)
        go m eu (inr h) (inl o) = inl (
          omega (arith, h.0, o.0),
          at_right toks first (given empty first') a (subst (λ x. At toks (given x first') a) (sym h.1) (subst (λ x. At toks first' x) h.0 o.1)),
        )
        go m eu (inr h) (inr o) = inr (o.0 ∙ h.0, ap (λ x. x && empty') h.1 ∙ o.1)

    pub pair_reads : Reads (pair p q) (first ++ given empty first') (more' ++ given empty' more) (empty && empty') a
    pair_reads = record {
      clear = pair_clear;
      opens = pair_opens;
      within = λ x b ex inside.
          let s = split (p x.0 a) (q x.1) b ex in
          (q_from x.0 s.0 s.1.0).within x.1 b s.1.1 (of_p.within x.0 s.0 s.1.0 inside);
    }

  -- ---- one of two
  module _ {T U : Type 0} {p : T → Step} {q : U → Step} {first more first' more' : List Look} {a : ℕ}
      (of_p : Reads p first more false a) (of_q : Reads q first' more' false a) (told : apart first first' ≡ true) where
    choice_clear : (x y : T ⊎ U) (b c : ℕ) → choice p q x a ≡ Some b → choice p q y a ≡ Some c → Told (x ≡ y) (more ++ more') b c
    choice_clear (inl t) (inl u) b c et eu = told_as more (more ++ more') b c (λ e. ap inl e) (λ i h. at_left toks more more' i h) (of_p.clear t u b c et eu)
    choice_clear (inr t) (inr u) b c et eu = told_as more' (more ++ more') b c (λ e. ap inr e) (λ i h. at_right toks more more' i h) (of_q.clear t u b c et eu)
    choice_clear (inl t) (inr u) b c et eu =
        absurd (at_clash toks first first' a told (moves first a b (of_p.opens t b et)).1 (moves first' a c (of_q.opens u c eu)).1)
    choice_clear (inr t) (inl u) b c et eu =
        absurd (at_clash toks first first' a told (moves first a c (of_p.opens u c eu)).1 (moves first' a b (of_q.opens t b et)).1)

    choice_opens : (x : T ⊎ U) (b : ℕ) → choice p q x a ≡ Some b → Opened (first ++ first') false a b
    choice_opens (inl t) b et = let h = moves first a b (of_p.opens t b et) in inl (h.0, at_left toks first first' a h.1)
    choice_opens (inr t) b et = let h = moves first' a b (of_q.opens t b et) in inl (h.0, at_right toks first first' a h.1)

    choice_within : (x : T ⊎ U) (b : ℕ) → choice p q x a ≡ Some b → a ≤ length toks → b ≤ length toks
    choice_within (inl t) b et = of_p.within t b et
    choice_within (inr t) b et = of_q.within t b et

    pub choice_reads : Reads (choice p q) (first ++ first') (more ++ more') false a
    choice_reads = record { clear = choice_clear; opens = choice_opens; within = choice_within }

  -- ---- one or none
  module _ {T : Type 0} {p : T → Step} {first more : List Look} {a : ℕ} (of_p : Reads p first more false a) where
    optional_clear : (x y : Option T) (b c : ℕ) → optional p x a ≡ Some b → optional p y a ≡ Some c → Told (x ≡ y) (first ++ more) b c
    optional_clear None None b c et eu = inl refl
    optional_clear (Some t) (Some u) b c et eu =
        told_as more (first ++ more) b c (λ e. ap Some e) (λ i h. at_right toks first more i h) (of_p.clear t u b c et eu)
    optional_clear None (Some u) b c et eu =
        let h = moves first a c (of_p.opens u c eu) in
        let place : a ≡ b = same_Some a b et in
        inr (inl (omega (arith, place, h.0), at_left toks first more b (subst (λ z. At toks first z) place h.1)))
    optional_clear (Some t) None b c et eu =
        let h = moves first a b (of_p.opens t b et) in
        let place : a ≡ c = same_Some a c eu in
        inr (inr (omega (arith, place, h.0), at_left toks first more c (subst (λ z. At toks first z) place h.1)))

    optional_opens : (x : Option T) (b : ℕ) → optional p x a ≡ Some b → Opened first true a b
    optional_opens None b et = inr (sym (same_Some a b et), refl)
    optional_opens (Some t) b et = inl (moves first a b (of_p.opens t b et))

    optional_within : (x : Option T) (b : ℕ) → optional p x a ≡ Some b → a ≤ length toks → b ≤ length toks
    optional_within None b et inside = let place : a ≡ b = same_Some a b et in omega (arith, place, inside)
    optional_within (Some t) b et inside = of_p.within t b et inside

    pub optional_reads : Reads (optional p) first (first ++ more) true a
    optional_reads = record { clear = optional_clear; opens = optional_opens; within = optional_within }

  -- ---- any number
  module _ {T : Type 0} {p : T → Step} {first more : List Look} {n : ℕ} (of_p : (b : ℕ) → n ≤ b →
      Reads p first more false b) (told : apart more first ≡ true) where
    many_opens : (ts : List T) (a b : ℕ) → n ≤ a → many p ts a ≡ Some b → Opened first true a b
    many_opens [] a b up e = inr (sym (same_Some a b e), refl)
    many_opens (t ∷ ts) a b up e =
        let s = split (p t a) (many p ts) b e in
        let h = moves first a s.0 ((of_p a up).opens t s.0 s.1.0) in
        let on : s.0 ≤ b = rises first true s.0 b (many_opens ts s.0 b (omega (arith, h.0)) s.1.1) in
        inl (omega (arith, h.0, on), h.1)

    many_ends : (ts : List T) (a b : ℕ) → n ≤ a → many p ts a ≡ Some b → a ≤ b
    many_ends ts a b up e = rises first true a b (many_opens ts a b up e)

    -- the first tree of the one list ends before that of the other
    many_shorter : (ts us : List T) (m k b c : ℕ) → n ≤ m → many p ts m ≡ Some b → many p us k ≡ Some c → m < k → At toks more m → (b < c) ×
        At toks (first ++ more) b
    many_shorter ts us m k b c up et eu less h =
        let on : k ≤ c = many_ends us k c (omega (arith, less)) eu in
        ⊎_elim
        (λ o. absurd (at_clash toks more first m told h o.1))
        (λ o. (omega (arith, o.0, on, less), at_right toks first more b (subst (λ z. At toks more z) (sym o.0) h)))
        (many_opens ts m b up et)

    many_clear : (ts us : List T) (a b c : ℕ) → n ≤ a → many p ts a ≡ Some b → many p us a ≡ Some c → Told (ts ≡ us) (first ++ more) b c
    many_clear [] [] a b c up et eu = inl refl
    many_clear [] (u ∷ us) a b c up et eu =
        let place : a ≡ b = same_Some a b et in
        let h = moves_on u us a c up eu in
        inr (inl (omega (arith, place, h.0), at_left toks first more b (subst (λ z. At toks first z) place h.1)))
      where
        moves_on : (u : T) (us : List T) (a c : ℕ) → n ≤ a → many p (u ∷ us) a ≡ Some c → (a < c) × At toks first a
        moves_on u us a c up e =
            let s = split (p u a) (many p us) c e in
            let h = moves first a s.0 ((of_p a up).opens u s.0 s.1.0) in
            let on : s.0 ≤ c = many_ends us s.0 c (omega (arith, h.0)) s.1.1 in
            (omega (arith, h.0, on), h.1)
    many_clear (t ∷ ts) [] a b c up et eu =
        let place : a ≡ c = same_Some a c eu in
        let s = split (p t a) (many p ts) b et in
        let h = moves first a s.0 ((of_p a up).opens t s.0 s.1.0) in
        let on : s.0 ≤ b = many_ends ts s.0 b (omega (arith, h.0)) s.1.1 in
        inr (inr (omega (arith, place, h.0, on), at_left toks first more c (subst (λ z. At toks first z) place h.1)))
    many_clear (t ∷ ts) (u ∷ us) a b c up et eu =
        let s = split (p t a) (many p ts) b et in
        let r = split (p u a) (many p us) c eu in
        let hs = moves first a s.0 ((of_p a up).opens t s.0 s.1.0) in
        let hr = moves first a r.0 ((of_p a up).opens u r.0 r.1.0) in
        ⊎_elim
        (λ same.
        let place : r.0 ≡ s.0 = same_Some r.0 s.0 (sym r.1.0 ∙ ap (λ z. p z a) (sym same) ∙ s.1.0) in
        told_as (first ++ more) (first ++ more) b c (λ e i. same i ∷ e i) (λ i h. h) (many_clear ts us s.0 b c (omega (
          arith,
          hs.0,
        )) s.1.1 (subst (λ z. many p us z ≡ Some c) place r.1.1)))
        (λ d. ⊎_elim
        (λ h. inr (inl (many_shorter ts us s.0 r.0 b c (omega (arith, hs.0)) s.1.1 r.1.1 h.0 h.1)))
        (λ h. inr (inr (many_shorter us ts r.0 s.0 c b (omega (arith, hr.0)) r.1.1 s.1.1 h.0 h.1)))
        d)
        ((of_p a up).clear t u s.0 r.0 s.1.0 r.1.0)

    many_within : (ts : List T) (a b : ℕ) → n ≤ a → many p ts a ≡ Some b → a ≤ length toks → b ≤ length toks
    many_within [] a b up e inside = let place : a ≡ b = same_Some a b e in omega (arith, place, inside)
    many_within (t ∷ ts) a b up e inside =
        let s = split (p t a) (many p ts) b e in
        let h = moves first a s.0 ((of_p a up).opens t s.0 s.1.0) in
        many_within ts s.0 b (omega (arith, h.0)) s.1.1 ((of_p a up).within t s.0 s.1.0 inside)

    pub many_reads : Reads (many p) first (first ++ more) true n
    many_reads = record {
      clear = λ ts us b c et eu. many_clear ts us n b c (omega arith) et eu;
      opens = λ ts b et. many_opens ts n b (omega arith) et;
      within =
          λ ts b et. many_within ts n b (omega arith) et;
    }

    some_is_many : (ts : List T) (a : ℕ) (b : ℕ) → some p ts a ≡ Some b → many p ts a ≡ Some b
    some_is_many [] a b e = cc
    some_is_many (t ∷ ts) a b e = e

    some_opens : (ts : List T) (b : ℕ) → some p ts n ≡ Some b → Opened first false n b
    some_opens [] b e = cc
    some_opens (t ∷ ts) b e =
        let s = split (p t n) (many p ts) b e in
        let h = moves first n s.0 ((of_p n (omega arith)).opens t s.0 s.1.0) in
        let on : s.0 ≤ b = many_ends ts s.0 b (omega (arith, h.0)) s.1.1 in
        inl (omega (arith, h.0, on), h.1)

    pub some_reads : Reads (some p) first (first ++ more) false n
    some_reads = record {
      clear = λ ts us b c et eu. many_clear ts us n b c (omega arith) (some_is_many ts n b et) (some_is_many us n c eu);
      opens = some_opens;
      within = λ ts b et. many_within ts n b (omega arith) (some_is_many ts n b et);
    }

  -- ---- a production by its shape
  module _ {T X : Type 0} {q : X → Step} {first more : List Look} {empty : Bool} {a : ℕ} (p : T → Step)
      (back : X → T) (view : (t : T) (b : ℕ) → p t a ≡ Some b → (x : X) × ((back x ≡ t) × (q x a ≡ Some b))) (of_q : Reads q first more empty a) where
    shape_clear : (t u : T) (b c : ℕ) → p t a ≡ Some b → p u a ≡ Some c → Told (t ≡ u) more b c
    shape_clear t u b c et eu =
        let vt = view t b et in
        let vu = view u c eu in
        told_as more more b c (λ e. sym vt.1.0 ∙ ap back e ∙ vu.1.0) (λ i h. h) (of_q.clear vt.0 vu.0 b c vt.1.1 vu.1.1)

    pub shape_reads : Reads p first more empty a
    shape_reads = record {
      clear = shape_clear;
      opens = λ t b e. let v = view t b e in of_q.opens v.0 b v.1.1;
      within = λ t b e. let v = view t b e in
          of_q.within v.0 b v.1.1;
    }

  -- ---- a step that is barred from some places
  module _ {T : Type 0} {p : T → Step} {first more : List Look} {a : ℕ} (barred : ℕ → Bool) (of_p : Reads p first more false a) where
    pub guarded_reads : Reads (λ t. where_not barred (p t)) first more false a
    guarded_reads = record {
      clear = λ t u b c et eu. of_p.clear t u b c (unless_false (barred a) (p t a) b et).1 (unless_false (barred a) (p u a) c eu).1;
      opens = λ t b et. of_p.opens t b (unless_false (barred a) (p t a) b et).1;
      within = λ t b et. of_p.within t b (unless_false (barred a) (p t a) b et).1;
    }

  -- a step that is barred where the first of its terminals stands
  module _ {T : Type 0} {p : T → Step} {first more : List Look} {a : ℕ} (t : Terminal) (of_p : Reads p ((In (t ∷ []) ∷ []) ∷ first) more false a) where
    pub barred_reads : Reads (λ x. where_not (stands toks t) (p x)) first more false a
    barred_reads = record {
      clear = λ x y b c ex ey. of_p.clear x y b c (unless_false (stands toks t a) (p x a) b ex).1 (unless_false (stands toks t a) (p y a) c ey).1;
      opens = λ x b ex.
          let u = unless_false (stands toks t a) (p x a) b ex in
          let h = moves ((In (t ∷ []) ∷ []) ∷ first) a b (of_p.opens x b u.1) in
          inl (h.0, ⊎_elim (λ here. let e : false ≡ true = sym u.0 ∙ here.0 in absurd (true≢false (sym e))) (λ later. later) h.1);
      within = λ x b ex. of_p.within x b (unless_false (stands toks t a) (p x a) b ex).1;
    }

  -- ---- one token, and what is behind it as part of what the two begin with
  module _ {T U : Type 0} {p : T → Step} {q : U → Step} {x : Test} {first' more' : List Look} {a : ℕ}
      (of_p : Reads p ((x ∷ []) ∷ []) [] false a) (short : (t : T) (b : ℕ) → p t a ≡ Some b → b ≡ suc a) (of_q : (b : ℕ) → a < b →
      Reads q first' more' false b) where
    behind : Reads (pair p q) ((x ∷ []) ∷ []) (more' ++ []) false a
    behind = pair_reads of_p (λ b o. of_q b (moves ((x ∷ []) ∷ []) a b o).0) refl

    behind_opens : (y : T × U) (b : ℕ) → pair p q y a ≡ Some b → Opened (map (λ l. x ∷ l) first') false a b
    behind_opens y b e =
        let s = split (p y.0 a) (q y.1) b e in
        let place : s.0 ≡ suc a = short y.0 s.0 s.1.0 in
        let h = moves ((x ∷ []) ∷ []) a s.0 (of_p.opens y.0 s.0 s.1.0) in
        let g = moves first' s.0 b ((of_q s.0 h.0).opens y.1 b s.1.1) in
        inl (omega (arith, h.0, g.0), at_behind toks x first' a (⊎_elim (λ l. l.0) (λ l. absurd l) h.1) (subst (λ z. At toks first' z) place g.1))

    pub behind_reads : Reads (pair p q) (map (λ l. x ∷ l) first') more' false a
    behind_reads = record {
      clear = λ y z b c e e'. told_as (more' ++ []) more' b c (λ i. i) (λ i h. at_nil toks more' i h) (behind.clear y z b c e e');
      opens =
          behind_opens;
      within = behind.within;
    }

  pub token_short : (test : Terminal → Bool) (t a b : ℕ) → passing toks test t a ≡ Some b → b ≡ suc a
  token_short test t a b e = (when_true (eqb t a && sees toks test a) (suc a) b e).1

  pub the_short : (t : Terminal) (a b : ℕ) → the toks t a ≡ Some b → b ≡ suc a
  the_short t a b e = (when_true (stands toks t a) (suc a) b e).1

  -- ---- lists with commas
  module _ {T : Type 0} {p : T → Step} {first more : List Look} {a : ℕ} (of_p : (b : ℕ) → a ≤ b → Reads p first more false b) where
    pub next_reads : Reads (next toks p) (map (λ l. In (k.Comma ∷ []) ∷ l) first) more false a
    next_reads = shape_reads (next toks p) (λ (x : Unit {0} × T). x.1) (λ t b e. (
      (tt, t),
      (refl, e),
    )) (behind_reads (the_reads k.Comma a) (λ t b e. the_short k.Comma a b e) (λ b l. of_p b (omega (arith, l))))

  module _ {T : Type 0} {p : T → Step} {first more : List Look} {a : ℕ} (of_p : (b : ℕ) → a ≤ b → Reads p first more false b)
      (told : apart more (map (λ l. In (k.Comma ∷ []) ∷ l) first) ≡ true) where
    listed_shape : (ts : List T) (b : ℕ) → listed toks p ts a ≡ Some b → (x : T × List T) × ((x.0 ∷ x.1 ≡ ts) × (pair p (many (next toks p)) x a ≡ Some b))
    listed_shape [] b e = cc
    listed_shape (t ∷ ts) b e = ((t, ts), (refl, e))

    pub listed_reads : Reads (listed toks p) (first ++ []) ((map (λ l. In (k.Comma ∷ []) ∷ l) first ++ more) ++ more) false a
    listed_reads = shape_reads (listed toks p) (λ (x : T × List T). x.0 ∷ x.1) listed_shape
        (pair_reads (of_p a (omega arith)) (λ b o. let up : a ≤ b = rises first false a b o in
        many_reads (λ c l. next_reads (λ d l'. of_p d (omega (arith, up, l, l')))) told) told)

    abbrev from_option : Option (List T) → List T
    from_option None = []
    from_option (Some ts) = ts

    separated_shape : (ts : List T) (b : ℕ) → separated toks p ts a ≡ Some b → (x : Option (List T)) ×
        ((from_option x ≡ ts) × (optional (listed toks p) x a ≡ Some b))
    separated_shape [] b e = (None, (refl, e))
    separated_shape (t ∷ ts) b e = (Some (t ∷ ts), (refl, e))

    pub separated_reads : Reads (separated toks p) (first ++ []) ((first ++ []) ++ ((map (λ l. In (k.Comma ∷ []) ∷ l) first ++ more) ++ more)) true a
    separated_reads = shape_reads (separated toks p) from_option separated_shape (optional_reads listed_reads)

  -- a law of places that holds where it holds behind them, as long as there are tokens
  module _ (P : ℕ → Type 0) (step : (a : ℕ) → ((b : ℕ) → a < b → a < length toks → P b) → P a) where
    by_fuel : (fuel a : ℕ) → length toks ≤ a + fuel → P a
    by_fuel zero a most = step a (λ b up inside. let no : ⊥ = omega (arith, most, inside) in absurd no)
    by_fuel (suc fuel) a most = step a (λ b up inside. by_fuel fuel b (omega (arith, most, up)))

    pub everywhere : (a : ℕ) → P a
    everywhere a = by_fuel (length toks) a (omega arith)

-- the same, where each part's own steps are given
pub many_map : {T : Type 0} (p : T → Step) (ts : List T) → many (λ s. s) (map p ts) ≡ many p ts
many_map p [] = refl
many_map p (t ∷ ts) = ap (λ z. p t ⨾ z) (many_map p ts)

next_map : {T : Type 0} (toks : List Terminal) (p : T → Step) (ts : List T) → many (next toks (λ s. s)) (map p ts) ≡ many (next toks p) ts
next_map toks p [] = refl
next_map toks p (t ∷ ts) = ap (λ z. next toks p t ⨾ z) (next_map toks p ts)

pub separated_map : {T : Type 0} (toks : List Terminal) (p : T → Step) (ts : List T) → separated toks (λ s. s) (map p ts) ≡ separated toks p ts
separated_map toks p [] = refl
separated_map toks p (t ∷ ts) = ap (λ z. p t ⨾ z) (next_map toks p ts)

pub some_next_map : {T : Type 0} (toks : List Terminal) (p : T → Step) (ts : List T) → some (next toks (λ s. s)) (map p ts) ≡ some (next toks p) ts
some_next_map toks p [] = refl
some_next_map toks p (t ∷ ts) = ap (λ z. next toks p t ⨾ z) (next_map toks p ts)
