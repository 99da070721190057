use Rattle.std.proofs.Common.{◌≡◌, ◌+◌, ◌≤◌, ◌∙◌, ℕ, Bool, true, false, List, length, get_or, slice_get, Some, if◌then◌else◌, Vec, Global, arith, ap, sym}
use Rattle.std.proofs.Common.{subst}
use Rattle.std.proofs.lemmas.Option.{slice_get_within, get_or_from_slice_get}
use Rattle.std.proofs.lemmas.Slice.Eq.{bytes_eq-Decides}
use Rattle.ir_types.specs.declared.ir_type.IrType.TheVariants.{Void}
use Rattle.ir_type_equality.specs.Content.{content}
use Rattle.ir_type_equality.proofs.Numbering.{AreNumbered, AreApart, one_more, apart_by, kept_inserted, told_apart}
use Rattle.ir_type_equality.proofs.Contents.{alike_of, content_of}
use Rattle.ir_type_equality.proofs.round.round.Goals as goal

few_more : (b : Bool) (x y t : ℕ) → x ≡ y + (if b then 1 else 0) → y ≤ t → x ≤ t + 1
few_more true x y t e l = omega (arith, e, l)
few_more false x y t e l = omega (arith, e, l)

pub overflow_cast-number : goal.overflow_cast-number
overflow_cast-number c =
    let e = c.in_ok-number.ensures in
    let few = few_more c.in_ok-number.field-0-1 (length c.insert_full.new.self.keys) (length c.loop-t.contents.keys) c.loop-t.t e.len c.loop-t.invariant.few in
    omega (arith, e.within, few, c.requires, c.loop-t-test.true)

pub loop-t-preserved : goal.loop-t-preserved
loop-t-preserved c =
    let old = c.args.old.now in
    let types = c.args.types.now in
    let t = c.loop-t.t in
    let e = c.in_ok-number.ensures in
    let s = e.stored in
    let keys = c.loop-t.contents.keys in
    let more = c.insert_full.new.self.keys in
    let here : get_or types t Void ≡ c.get.result.now = get_or_from_slice_get types t c.get.result.now Void c.get.ensures in
    let one : c.in_ok-key.key.items ≡ s.0.items = (bytes_eq-Decides c.in_ok-key.key.items s.0.items).0 s.2 in
    let says : s.0.items ≡ content old t (get_or types t Void) = sym one ∙ c.in_ok-key.ensures ∙ ap (content old t) (sym here) in
    let apart : AreApart (λ (key : Vec ℕ Global). key.items) more =
    apart_by _ (λ (key : Vec ℕ Global). key.items) more (λ a b same. (bytes_eq-Decides a.items b.items).1 same) e.unique in
    let grown = one_more (λ (key : Vec ℕ Global). key.items) (λ (u : ℕ). content old u (get_or types u Void)) keys more c.loop-t.new.items t
    c.in_ok-number.number s.0
    c.loop-t.invariant (λ i x at. subst (λ (ks : List (Vec ℕ Global)). slice_get ks i ≡ Some x) (sym e.keys) (kept_inserted _ keys c.in_ok-key.key i x at))
    (few_more c.in_ok-number.field-0-1 (length more) (length keys) t e.len c.loop-t.invariant.few) apart s.1 says in
    subst (λ (ns : List ℕ). AreNumbered (λ (key : Vec ℕ Global). key.items) (λ (u : ℕ). content old u (get_or types u Void)) more ns (t + 1))
    (sym c.in_ok-push.ensures.items) grown

pub returns : goal.returns
returns c =
    let old = c.args.old.now in
    let types = c.args.types.now in
    let n = c.loop-t.t in
    let l : length types ≤ n = omega (arith, c.loop-t-test.false) in
    let numbered = c.loop-t.invariant in
    record {
      long = numbered.long ∙ omega arith;
      same = λ t u a b at_t at_u.
          let told = told_apart (λ (key : Vec ℕ Global). key.items) (λ (u : ℕ). content old u (get_or types u Void)) c.loop-t.contents.keys c.loop-t.new.items n
          t u numbered
          (omega (arith, slice_get_within types t a at_t)) (omega (arith, slice_get_within types u b at_u)) in
          let is_a : get_or types t Void ≡ a = get_or_from_slice_get types t a Void at_t in
          let is_b : get_or types u Void ≡ b = get_or_from_slice_get types u b Void at_u in
          let left : content old t (get_or types t Void) ≡ content old t a = ap (content old t) is_a in
          let right : content old u (get_or types u Void) ≡ content old u b = ap (content old u) is_b in (
            λ one. alike_of old t u a b (sym left ∙ told.0 one ∙ right),
            λ alike. told.1 (left ∙ content_of old t u a b alike ∙ sym right),
          );
    }
