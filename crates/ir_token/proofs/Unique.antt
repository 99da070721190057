-- A text has one token at a place at most, and so one list, and one place at which it is refused.
use Rattle.std.proofs.Common.{◌≡◌, ℕ, ◌<◌, ◌≤◌, true, false, cond, ◌⊎◌, inl, inr, eqb, List, [], ◌∷◌, length, refl, sym, ap, ◌∙◌, subst, ⊎_elim, arith}
use Rattle.std.proofs.lemmas.Bool.{cases_lt}
use Rattle.ir_token.specs.declared.token.Kind.{Kind}
use Rattle.ir_token.specs.declared.token.Kind.TheVariants.{Word, Global, Local, Comdat, Label, Int, Str, CStr, Group, Meta, Punct, Dots, Opaque}
use Rattle.std.proofs.Common.{Result}
use Rattle.std.proofs.lemmas.Option.{same_Some}
use Rattle.ir_token.specs.declared.token.LexRefusal.{LexRefusal}
use Rattle.ir_token.specs.declared.token.Token.{Token}
use Rattle.ir_token.specs.Bytes.{Bytes}
use Rattle.ir_token.specs.Names.{bears_name}
use Rattle.ir_token.specs.Texts.{order, IsText, IsOpaque, BeginsOpaque, IsLongest, IsToken, IsOpen, IsBad}
use Rattle.ir_token.specs.LeftOut.{IsLeft}
use Rattle.ir_token.specs.Lists.{Reaches, AreTokens, IsReached, Reading, Reads, Tells}
use Rattle.ir_token.specs.Lists.Reading.{Listed, BadAt, OpenAt, LeftAt}
use Rattle.ir_token.proofs.Greatest.{text_moves}
use Rattle.ir_token.proofs.Opaques.{opaque_begins, opaque_to}

-- the kind at a place of the order
unfoldable pub kind_at : ℕ → Kind
kind_at n = cond (eqb n 0) Opaque
    (cond (eqb n 1) Label
    (cond (eqb n 2) Global
    (cond (eqb n 3) Local
    (cond (eqb n 4) Comdat
    (cond (eqb n 5) Str (cond (eqb n 6) CStr
    (cond (eqb n 7) Group (cond (eqb n 8) Meta (cond (eqb n 9) Int (cond (eqb n 10) Word (cond (eqb n 11) Dots Punct)))))))))))

pub kind_at-order : (k : Kind) → kind_at (order k) ≡ k
unfolding kind_at
kind_at-order Opaque = refl
kind_at-order Label = refl
kind_at-order Global = refl
kind_at-order Local = refl
kind_at-order Comdat = refl
kind_at-order Str = refl
kind_at-order CStr = refl
kind_at-order Group = refl
kind_at-order Meta = refl
kind_at-order Int = refl
kind_at-order Word = refl
kind_at-order Dots = refl
kind_at-order Punct = refl

pub same_kind : (k j : Kind) → order k ≡ order j → k ≡ j
same_kind k j same = sym (kind_at-order k) ∙ ap kind_at same ∙ kind_at-order j

opaque_or : (k : Kind) → (k ≡ Opaque) ⊎ (k ≡ Opaque → ⊥)
opaque_or k = ⊎_elim (λ h. inl (same_kind k Opaque (omega arith)))
    (λ h. inr (λ same. let e : order k ≡ 0 = ap order same in absurd (omega arith))) (cases_lt (order k) 1)

as_opaque : (b : Bytes) (i : ℕ) (k : Kind) (e : ℕ) → k ≡ Opaque → IsLongest b i k e → IsOpaque b i e
as_opaque b i k e same h = let P : Kind → Type 0 = λ x. IsText x b i e in subst P same h.text

as_begins : (b : Bytes) (i : ℕ) (k : Kind) (e : ℕ) → k ≡ Opaque → IsLongest b i k e → BeginsOpaque b i
as_begins b i k e same h = opaque_begins b i e (as_opaque b i k e same h)

same_longest : (b : Bytes) (i : ℕ) (k j : Kind) (e f : ℕ) → IsLongest b i k e → IsLongest b i j f → (k ≡ j) × (e ≡ f)
same_longest b i k j e f h g = ⊎_elim (λ opaque. both_opaque opaque (g.unread (as_begins b i k e opaque h)))
    (λ plain. plain_both plain (λ opaque. plain (h.unread (as_begins b i j f opaque g)))) (opaque_or k)
  where
    both_opaque : k ≡ Opaque → j ≡ Opaque → (k ≡ j) × (e ≡ f)
    both_opaque first second =
        let one = opaque_to b i e h.within (as_opaque b i k e first h) in
        let two = opaque_to b i f g.within (as_opaque b i j f second g) in
        (first ∙ sym second, same_Some e f (sym one ∙ two))

    plain_both : (k ≡ Opaque → ⊥) → (j ≡ Opaque → ⊥) → (k ≡ j) × (e ≡ f)
    plain_both first second =
        let low : f ≤ e = h.longest first j f g.within g.text in
        let high : e ≤ f = g.longest second k e h.within h.text in
        let same : e ≡ f = omega arith in
        let one : order k ≤ order j = h.first j (subst (λ n. IsText j b i n) (sym same) g.text) in
        let two : order j ≤ order k = g.first k (subst (λ n. IsText k b i n) same h.text) in
        (same_kind k j (omega arith), same)

pub same_token : (b : Bytes) (i : ℕ) (k j : Kind) (e f : ℕ) → IsToken b i k e → IsToken b i j f → (k ≡ j) × (e ≡ f)
same_token b i k j e f h g = same_longest b i k j e f h.longest g.longest

pub token_moves : (b : Bytes) (i : ℕ) (k : Kind) (e : ℕ) → IsToken b i k e → i < e
token_moves b i k e h = text_moves k b i e h.longest.text

pub token_within : (b : Bytes) (i : ℕ) (k : Kind) (e : ℕ) → IsToken b i k e → e ≤ length b
token_within b i k e h = h.longest.within

-- no token that is kept begins at i
pub Stops : Bytes → ℕ → Type 0
Stops b i = (k : Kind) (e : ℕ) → IsToken b i k e → IsLeft b i k e

stops_at_end : (b : Bytes) → Stops b (length b)
unfolding Stops
stops_at_end b k e token = absurd (omega (arith, token_moves b (length b) k e token, token_within b (length b) k e token))

pub not_bad : (b : Bytes) (i : ℕ) (k : Kind) (e : ℕ) → IsBad b i → IsToken b i k e → ⊥
not_bad b i k e bad token =
    ⊎_elim (λ begins. begins.none k e token.longest.within token.longest.text)
    (⊎_elim (λ endless. endless.1 e token.longest.within (as_opaque b i k e (token.longest.unread endless.0) token.longest))
    (λ nameless. unnamed nameless.0 nameless.1.0 nameless.1.1.0 nameless.1.1.1))
    bad.cause
  where
    unnamed : (j : Kind) (f : ℕ) → IsLongest b i j f → bears_name b j i f ≡ false → ⊥
    unnamed j f longest none =
        let same = same_longest b i k j e f token.longest longest in
        let P : Kind → Type 0 = λ x. bears_name b x i f ≡ true in
        let named : bears_name b j i f ≡ true = subst P same.0 (subst (λ n. bears_name b k i n ≡ true) same.1 token.named) in
        cc

-- where a string is open no text is the longest
open_or_longest : (b : Bytes) (i : ℕ) (k : Kind) (e : ℕ) → IsOpen b i → IsLongest b i k e → ⊥
open_or_longest b i k e opens longest = opens.unread (as_begins b i k e (longest.closed opens.unclosed) longest)

pub not_open : (b : Bytes) (i : ℕ) (k : Kind) (e : ℕ) → IsOpen b i → IsToken b i k e → ⊥
not_open b i k e opens token = open_or_longest b i k e opens token.longest

stops_at_bad : (b : Bytes) (i : ℕ) → IsBad b i → Stops b i
unfolding Stops
stops_at_bad b i bad k e token = absurd (not_bad b i k e bad token)

stops_at_open : (b : Bytes) (i : ℕ) → IsOpen b i → Stops b i
unfolding Stops
stops_at_open b i opens k e token = absurd (not_open b i k e opens token)

stops_at_left : (b : Bytes) (i : ℕ) (j : Kind) (f : ℕ) → IsToken b i j f → IsLeft b i j f → Stops b i
unfolding Stops
stops_at_left b i j f left_token left k e token =
    let same = same_token b i j k f e left_token token in
    let P : Kind → Type 0 = λ x. IsLeft b i x e in
    subst P same.0 (subst (λ n. IsLeft b i j n) same.1 left)

abbrev make : Kind → ℕ → ℕ → Token
make k i e = record { kind = k; span = record { from = i; to = e } }

-- two lists from one place on, each as far as it goes, are one
one_chain : (b : Bytes) (ts us : List Token) (at i j : ℕ) → Reaches b at ts i → Reaches b at us j → Stops b i → Stops b j → (ts ≡ us) × (i ≡ j)
unfolding Stops
one_chain b [] [] at i j one two stop_one stop_two = (refl, one ∙ sym two)
one_chain b [] (u ∷ us) at i j one two stop_one stop_two =
    let here : u.span.from ≡ i = two.0 ∙ sym one in
    let token : IsToken b i u.kind u.span.to = subst (λ n. IsToken b n u.kind u.span.to) here two.1 in
    absurd (two.2 (subst (λ n. IsLeft b n u.kind u.span.to) (sym here) (stop_one u.kind u.span.to token)))
one_chain b (t ∷ ts) [] at i j one two stop_one stop_two =
    let here : t.span.from ≡ j = one.0 ∙ sym two in
    let token : IsToken b j t.kind t.span.to = subst (λ n. IsToken b n t.kind t.span.to) here one.1 in
    absurd (one.2 (subst (λ n. IsLeft b n t.kind t.span.to) (sym here) (stop_two t.kind t.span.to token)))
one_chain b (t ∷ ts) (u ∷ us) at i j one two stop_one stop_two =
    let from : t.span.from ≡ u.span.from = one.0 ∙ sym two.0 in
    let same = same_token b u.span.from t.kind u.kind t.span.to u.span.to (subst (λ n. IsToken b n t.kind t.span.to) from one.1) two.1 in
    let kind : t.kind ≡ u.kind = same.0 in
    let to : t.span.to ≡ u.span.to = same.1 in
    let rest = one_chain b ts us u.span.to i j (subst (λ n. Reaches b n ts i) to one.3) two.3 stop_one stop_two in
    let head : make t.kind t.span.from t.span.to ≡ make u.kind u.span.from u.span.to = cc in
    let tail : ts ≡ us = rest.0 in
    let all : make t.kind t.span.from t.span.to ∷ ts ≡ make u.kind u.span.from u.span.to ∷ us = cc in
    (all, rest.1)

pub one_list : (b : Bytes) (ts us : List Token) → AreTokens b ts → AreTokens b us → ts ≡ us
one_list b ts us one two = (one_chain b ts us 0 (length b) (length b) one two (stops_at_end b) (stops_at_end b)).0

one_place : (b : Bytes) (i j : ℕ) → IsReached b i → IsReached b j → Stops b i → Stops b j → i ≡ j
one_place b i j one two stop_one stop_two = (one_chain b one.0 two.0 0 i j one.1 two.1 stop_one stop_two).1

-- a list to the end reaches it
to_end : (b : Bytes) (ts : List Token) → AreTokens b ts → IsReached b (length b)
to_end b ts h = (ts, h)

listed_bad : (b : Bytes) (ts : List Token) (at : ℕ) → AreTokens b ts → IsReached b at → IsBad b at → ⊥
listed_bad b ts at list reach bad = let same : length b ≡ at = one_place b (length b) at (to_end b ts list) reach (stops_at_end b) (stops_at_bad b at bad) in
    omega (arith, bad.within)

listed_open : (b : Bytes) (ts : List Token) (at : ℕ) → AreTokens b ts → IsReached b at → IsOpen b at → ⊥
listed_open b ts at list reach opens = let same : length b ≡ at = one_place b (length b) at (to_end b ts list) reach (stops_at_end b)
    (stops_at_open b at opens) in omega (arith, opens.within)

listed_left : (b : Bytes) (ts : List Token) (at to : ℕ) (k : Kind) → AreTokens b ts → IsReached b at → IsToken b at k to → IsLeft b at k to → ⊥
listed_left b ts at to k list reach token left =
    let same : length b ≡ at = one_place b (length b) at (to_end b ts list) reach (stops_at_end b) (stops_at_left b at k to token left) in
    omega (arith, token_moves b at k to token, token_within b at k to token)

bad_open : (b : Bytes) (i j : ℕ) → IsReached b i → IsBad b i → IsReached b j → IsOpen b j → ⊥
bad_open b i j reach bad reach' opens =
    let same : i ≡ j = one_place b i j reach reach' (stops_at_bad b i bad) (stops_at_open b j opens) in
    apart (subst (λ n. IsOpen b n) (sym same) opens)
  where
    apart : IsOpen b i → ⊥
    apart opens =
        ⊎_elim (λ begins. begins.closed opens.unclosed)
        (⊎_elim (λ endless. opens.unread endless.0) (λ nameless. open_or_longest b i nameless.0 nameless.1.0 opens nameless.1.1.0))
        bad.cause

bad_left : (b : Bytes) (i j to : ℕ) (k : Kind) → IsReached b i → IsBad b i → IsReached b j → IsToken b j k to → IsLeft b j k to → ⊥
bad_left b i j to k reach bad reach' token left =
    let same : i ≡ j = one_place b i j reach reach' (stops_at_bad b i bad) (stops_at_left b j k to token left) in
    not_bad b i k to bad (subst (λ n. IsToken b n k to) (sym same) token)

open_left : (b : Bytes) (i j to : ℕ) (k : Kind) → IsReached b i → IsOpen b i → IsReached b j → IsToken b j k to → IsLeft b j k to → ⊥
open_left b i j to k reach opens reach' token left =
    let same : i ≡ j = one_place b i j reach reach' (stops_at_open b i opens) (stops_at_left b j k to token left) in
    not_open b i k to opens (subst (λ n. IsToken b n k to) (sym same) token)

left_left : (b : Bytes) (i j e f : ℕ) (k l : Kind) → IsReached b i → IsToken b i k e → IsLeft b i k e → IsReached b j → IsToken b j l f → IsLeft b j l f
    → LeftAt i e ≡ LeftAt j f
left_left b i j e f k l reach token left reach' token' left' =
    let same : i ≡ j = one_place b i j reach reach' (stops_at_left b i k e token left) (stops_at_left b j l f token' left') in
    let one : e ≡ f = (same_token b i k l e f token (subst (λ n. IsToken b n l f) (sym same) token')).1 in
    cc

pub same_reading : (b : Bytes) (x y : Reading) → Reads b x → Reads b y → x ≡ y
same_reading b (Listed ts) (Listed us) h g = ap Listed (one_list b ts us h g)
same_reading b (Listed ts) (BadAt j) h g = absurd (listed_bad b ts j h g.0 g.1)
same_reading b (Listed ts) (OpenAt j) h g = absurd (listed_open b ts j h g.0 g.1)
same_reading b (Listed ts) (LeftAt j f) h g = absurd (listed_left b ts j f g.1.0 h g.0 g.1.1.0 g.1.1.1)
same_reading b (BadAt i) (Listed us) h g = absurd (listed_bad b us i g h.0 h.1)
same_reading b (BadAt i) (BadAt j) h g = ap BadAt (one_place b i j h.0 g.0 (stops_at_bad b i h.1) (stops_at_bad b j g.1))
same_reading b (BadAt i) (OpenAt j) h g = absurd (bad_open b i j h.0 h.1 g.0 g.1)
same_reading b (BadAt i) (LeftAt j f) h g = absurd (bad_left b i j f g.1.0 h.0 h.1 g.0 g.1.1.0 g.1.1.1)
same_reading b (OpenAt i) (Listed us) h g = absurd (listed_open b us i g h.0 h.1)
same_reading b (OpenAt i) (BadAt j) h g = absurd (bad_open b j i g.0 g.1 h.0 h.1)
same_reading b (OpenAt i) (OpenAt j) h g = ap OpenAt (one_place b i j h.0 g.0 (stops_at_open b i h.1) (stops_at_open b j g.1))
same_reading b (OpenAt i) (LeftAt j f) h g = absurd (open_left b i j f g.1.0 h.0 h.1 g.0 g.1.1.0 g.1.1.1)
same_reading b (LeftAt i e) (Listed us) h g = absurd (listed_left b us i e h.1.0 g h.0 h.1.1.0 h.1.1.1)
same_reading b (LeftAt i e) (BadAt j) h g = absurd (bad_left b j i e h.1.0 g.0 g.1 h.0 h.1.1.0 h.1.1.1)
same_reading b (LeftAt i e) (OpenAt j) h g = absurd (open_left b j i e h.1.0 g.0 g.1 h.0 h.1.1.0 h.1.1.1)
same_reading b (LeftAt i e) (LeftAt j f) h g = left_left b i j e f h.1.0 g.1.0 h.0 h.1.1.0 h.1.1.1 g.0 g.1.1.0 g.1.1.1

-- an answer that tells one reading tells every one
pub tells_all : (b : Bytes) (answer : Result (List Token) LexRefusal) (x : Reading) → Reads b x → Tells answer x → (y : Reading) → Reads b y → Tells answer y
tells_all b answer x h told y g = subst (λ z. Tells answer z) (same_reading b x y h g) told
