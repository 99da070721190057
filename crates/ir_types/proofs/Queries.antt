-- What the queries answer.
use Rattle.std.proofs.Common.{ℕ, ◌<◌, ◌≤◌, ◌^◌, ◌≡◌, refl, sym, ap, subst, ◌∙◌, arith, true, false, not, Bool, Option, None, Some, Ok, Err, Result, List}
use Rattle.std.proofs.Common.{[], lt-ltb}
use Rattle.std.specs.Prelude.{nat_lt, if◌then◌else◌}
use Rattle.std.proofs.lemmas.Option.{none-some}
use Rattle.std.proofs.lemmas.Bool.{le-ltb}
use Rattle.ir_types.specs.declared.ir_type.IrType.{IrType}
use Rattle.ir_types.specs.declared.refusal.TypeRefusal.{TypeRefusal}
use Rattle.ir_types.specs.declared.refusal.TypeRefusal.TheVariants as refused
use Rattle.ir_types.specs.declared.standing.Extent.{Extent}
use Rattle.ir_types.specs.declared.standing.Standing.{Standing}
use Rattle.ir_types.specs.Layout.{Layout, layout}
use Rattle.ir_types.specs.Standing.{Shows, AreSound, AreSettledBut, laid}
use Rattle.ir_types.specs.TypeTable.{checked, IsJudged, Judges}
use Rattle.ir_types.proofs.Settling.{laid_if_finite}

pub judged_deep : (o : Option Layout) → o ≡ None → IsJudged o (Err refused.Deep)
judged_deep o e = rw e refl

pub judged_huge : (o : Option Layout) (l : Layout) → o ≡ Some l → 2 ^ 40 < l.size → IsJudged o (Err refused.Huge)
judged_huge o l e h = rw (e, lt-ltb (2 ^ 40) l.size h) refl

pub judged_unsized : (o : Option Layout) (l : Layout) → o ≡ Some l → l.size ≤ 2 ^ 40 → l.is_sized ≡ false → IsJudged o (Err refused.Unsized)
judged_unsized o l e h s = rw (e, le-ltb (2 ^ 40) l.size h, s) refl

pub judged_ok : (o : Option Layout) (l : Layout) (x : Extent) → o ≡ Some l → l.size ≤ 2 ^ 40 → l.is_sized ≡ true → Shows l x → IsJudged o (Ok x)
judged_ok o l x e h s shows =
    let all : Judges (if l.is_sized then Ok l else Err refused.Unsized) (Ok x) = subst
    (λ (b : Bool). Judges (if b then Ok l else Err refused.Unsized) (Ok x)) (sym s) (x, refl, shows, h) in
    rw (e, le-ltb (2 ^ 40) l.size h) all

pub kept_true : (b : Bool) → not b ≡ false → b ≡ true
kept_true true e = refl
kept_true false e = sym e

-- a type that is not laid out is deep
pub no_layout : (types : List IrType) (ss : List Standing) (t : ℕ) → AreSound types ss → AreSettledBut [] types ss → laid ss t ≡ None → layout types 64 t ≡ None
no_layout types ss t sound settled out = go (layout types 64 t) refl
  where
    go : (o : Option Layout) → layout types 64 t ≡ o → layout types 64 t ≡ None
    go None e = e
    go (Some l) e =
        let kept = laid_if_finite types ss sound settled 64 t l (omega arith) e in
        absurd (none-some kept.0 (sym out ∙ kept.1))

-- ---- from what is kept to the answer
same_refusal : (x y : TypeRefusal) → ◌≡◌ {A = Result Extent TypeRefusal} (Err x) (Err y) → x ≡ y
same_refusal x y e = cc

same_extent : (x y : Extent) → ◌≡◌ {A = Result Extent TypeRefusal} (Ok x) (Ok y) → x ≡ y
same_extent x y e = cc

unlike : (x : TypeRefusal) (y : Extent) → ◌≡◌ {A = Result Extent TypeRefusal} (Err x) (Ok y) → ⊥
unlike x y e = cc

err_tests : (big sized : Bool) (l : Layout) (x : TypeRefusal) (shown : Layout → ℕ)
    → Judges (if big then Err refused.Huge else (if sized then Ok l else Err refused.Unsized)) (Err x)
    → Err x ≡ (if big then Err refused.Huge else (if sized then Ok (shown l) else Err refused.Unsized))
err_tests true sized l x shown h = ap Err (same_refusal x refused.Huge h)
err_tests false true l x shown (e, is, shows, small) = absurd (unlike x e is)
err_tests false false l x shown h = ap Err (same_refusal x refused.Unsized h)

ok_tests : (big sized : Bool) (l : Layout) (e : Extent) (shown : Layout → ℕ) (n : ℕ) → (Shows l e → l.size ≤ 2 ^ 40 → n ≡ shown l)
    → Judges (if big then Err refused.Huge else (if sized then Ok l else Err refused.Unsized)) (Ok e)
    → Ok n ≡ (if big then Err refused.Huge else (if sized then Ok (shown l) else Err refused.Unsized))
ok_tests true sized l e shown n h j = absurd (unlike refused.Huge e (sym j))
ok_tests false true l e shown n h (x, is, shows, small) = ap Ok (h (subst (Shows l) (sym (same_extent e x is)) shows) small)
ok_tests false false l e shown n h j = absurd (unlike refused.Unsized e (sym j))

pub err_is : (o : Option Layout) (x : TypeRefusal) (shown : Layout → ℕ) → IsJudged o (Err x) → Err x ≡ checked shown o
err_is None x shown h = ap Err (same_refusal x refused.Deep h)
err_is (Some l) x shown h = err_tests (nat_lt (2 ^ 40) l.size) l.is_sized l x shown h

pub ok_is : (o : Option Layout) (e : Extent) (shown : Layout → ℕ) (n : ℕ) → ((l : Layout) → o ≡ Some l → Shows l e → l.size ≤ 2 ^ 40 → n ≡ shown l)
    → IsJudged o (Ok e) → Ok n ≡ checked shown o
ok_is None e shown n h j = absurd (unlike refused.Deep e (sym j))
ok_is (Some l) e shown n h j = ok_tests (nat_lt (2 ^ 40) l.size) l.is_sized l e shown n (h l refl) j

pub size_is : (o : Option Layout) (e : Extent) → IsJudged o (Ok e) → Ok e.size ≡ checked (λ l. l.size) o
size_is o e j = ok_is o e (λ l. l.size) e.size (λ l is shows small. omega (arith, shows.size)) j

pub align_is : (o : Option Layout) (e : Extent) → IsJudged o (Ok e) → Ok e.align ≡ checked (λ l. l.align) o
align_is o e j = ok_is o e (λ l. l.align) e.align (λ l is shows small. shows.align) j

pub judged_some : (o : Option Layout) (e : Extent) → IsJudged o (Ok e) → (l : Layout) × (o ≡ Some l)
judged_some None e j = absurd (unlike refused.Deep e (sym j))
judged_some (Some l) e j = (l, refl)
