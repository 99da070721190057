-- Lists of calls that grow in text order.
use Rattle.std.proofs.Common.{◌≡◌, ◌+◌, ◌<◌, ◌≤◌, ◌⊎◌, inl, inr, ℕ, length, slice_get, slice_set, List, [], ◌∷◌, ◌++◌, Some, arith, subst, sym, ap, ◌∙◌}
use Rattle.std.proofs.Common.{⊎_elim, None}
use Rattle.std.proofs.lemmas.Option.{slice_get_within}
use Rattle.std.proofs.lemmas.Bool.{cases_eq, cases_lt}
use Rattle.attr_ids.specs.declared.ids.FuncId.{FuncId}
use Rattle.shelf.proofs.Shelf.{get_kept, get_behind, get_push, get_set_same, get_set_other}
use Rattle.ir_module.specs.declared.op.Instr.{Instr}
use Rattle.ir_module.specs.declared.module.Seg.{Seg}
use Rattle.ir_module.specs.declared.module.Module.{Module}
use Rattle.ir_module.specs.Places.{spot, instr_at}
use Rattle.ir_module.specs.Calls.{direct_callee}
use Rattle.ir_module.proofs.Spots.{stands}
use Rattle.ir_module.specs.declared.module.Spot.{Spot}
use Rattle.ir_uses.specs.Order.{IsCallBefore}
use Rattle.ir_uses.specs.Uses.{IsCallAt, IsCallList}
use Rattle.ir_uses.specs.Noted.{IsCallListTo, AreCallListsTo}

-- ---- the order of calls

pub same_call : (a b : Spot) → a.seg.0 ≡ b.seg.0 → a.at ≡ b.at → a ≡ b
same_call a b s i = ap (λ (x : ℕ). spot x a.at) s ∙ ap (λ (x : ℕ). spot b.seg.0 x) i

-- what is written before the next instruction is written before this one, or is it
pub before_next : (c : Spot) (s i : ℕ) → IsCallBefore c (spot s (i + 1)) → IsCallBefore c (spot s i) ⊎ (c ≡ spot s i)
before_next c s i b =
    elim (cases_lt c.seg.0 s) [
      | inl l ↦ inl (omega arith, λ e. absurd (omega arith))
      | inr g ↦ elim (cases_lt c.at i) [
        | inl l ↦ inl (omega (arith, b.0), λ e. l)
        | inr k ↦
            let es : c.seg.0 ≡ s = omega (arith, b.0) in
            let ei : c.at ≡ i = omega (arith, b.1 es) in
            inr (same_call c (spot s i) es ei)
      ]
    ]

pub next_of_before : (c : Spot) (s i : ℕ) → IsCallBefore c (spot s i) → IsCallBefore c (spot s (i + 1))
next_of_before c s i b = (b.0, λ e. omega (arith, b.1 e))

pub itself_before_next : (s i : ℕ) → IsCallBefore (spot s i) (spot s (i + 1))
itself_before_next s i = (omega arith, λ e. omega arith)

-- ---- one instruction more

-- the list of a function that is not called here
pub passed : (m : Module) (s i f : ℕ) (cs : List Spot) → IsCallListTo m (spot s i) f cs → (IsCallAt m f (spot s i) → ⊥) → IsCallListTo m (spot s (i + 1)) f cs
passed m s i f cs l n = record {
  each = l.each;
  before = λ k c e. next_of_before c s i (l.before k c e);
  all = λ c at b. elim (before_next c s i b) [ inl d ↦ l.all c at d | inr e ↦ absurd (n (subst (λ (x : Spot). IsCallAt m f x) e at)) ];
  order = l.order;
}

pub pushed_each : (m : Module) (s i f : ℕ) (cs : List Spot) → IsCallListTo m (spot s i) f cs → IsCallAt m f (spot s i)
    → (k : ℕ) (c : Spot) → slice_get (cs ++ spot s i ∷ []) k ≡ Some c → IsCallAt m f c × IsCallBefore c (spot s (i + 1))
pushed_each m s i f cs l at k c e =
    elim (get_push cs (spot s i) c k e) [
      | inl g ↦ (l.each k c g, next_of_before c s i (l.before k c g))
      | inr g ↦ (subst (λ (x : Spot). IsCallAt m f x) g.1 at, subst (λ (x : Spot). IsCallBefore x (spot s (i + 1))) g.1 (itself_before_next s i))
    ]

pub pushed_order : (m : Module) (s i f : ℕ) (cs : List Spot) → IsCallListTo m (spot s i) f cs
    → (k n : ℕ) (a b : Spot) → k < n → slice_get (cs ++ spot s i ∷ []) k ≡ Some a → slice_get (cs ++ spot s i ∷ []) n ≡ Some b → IsCallBefore a b
pushed_order m s i f cs l k n a b less ea eb =
    elim (get_push cs (spot s i) b n eb) [
      | inl fb ↦ elim (get_push cs (spot s i) a k ea) [
        | inl fa ↦ l.order k n a b less fa fb
        | inr fa ↦ absurd (omega (arith, fa.0, slice_get_within cs n b fb))
      ]
      | inr fb ↦ elim (get_push cs (spot s i) a k ea) [
        | inl fa ↦ subst (λ (x : Spot). IsCallBefore a x) fb.1 (l.before k a fa)
        | inr fa ↦ absurd (omega (arith, fa.0, fb.0))
      ]
    ]

-- the list of the function that is called here, with this call at its end
pub pushed : (m : Module) (s i f : ℕ) (cs : List Spot) → IsCallListTo m (spot s i) f cs → IsCallAt m f (spot s i)
    → IsCallListTo m (spot s (i + 1)) f (cs ++ spot s i ∷ [])
pushed m s i f cs l at = record {
  each = λ k c e. (pushed_each m s i f cs l at k c e).0;
  before = λ k c e. (pushed_each m s i f cs l at k c e).1;
  all = λ c a b. elim (before_next c s i b) [
    | inl d ↦ (let q = l.all c a d in (q.0, get_kept cs (spot s i ∷ []) q.0 c q.1))
    | inr e ↦ (length cs, subst (λ (x : Spot). slice_get (cs ++ spot s i ∷ []) (length cs) ≡ Some x) (sym e) (get_behind cs (spot s i) []))
  ];
  order = pushed_order m s i f cs l;
}

-- ---- all lists

pub none_so_far : (m : Module) (lists : List (List Spot)) → ((f : ℕ) → f < length m.funcs → slice_get lists f ≡ Some []) → AreCallListsTo m (spot 0 0) lists
none_so_far m lists h f l = (
  [],
  h f l,
  record {
    each = λ k c e. (cc);
    before = λ k c e. (cc);
    all = λ c at b. let e : c.seg.0 ≡ 0 = omega (arith, b.0) in absurd (omega (arith, b.1 e));
    order = λ i k a b less ea eb. (cc);
  },
)

abbrev func_id : ℕ → FuncId
func_id f = record { 0 = f }

-- two functions that one instruction calls are one
pub one_callee : (m : Module) (f g : ℕ) (c : Spot) → IsCallAt m f c → IsCallAt m g c → f ≡ g
one_callee m f g c a b =
    let ea = a.at_spot in let eb = b.at_spot in
    let same : a.instr ≡ b.instr = cc in
    let fa : direct_callee m b.instr.op ≡ Some (func_id f) = subst (λ (x : Instr). direct_callee m x.op ≡ Some (func_id f)) same a.is_call in
    let fb : direct_callee m b.instr.op ≡ Some (func_id g) = b.is_call in
    let named : func_id f ≡ func_id g = cc in
    ap (λ (x : FuncId). x.0) named

pub noted_all : (m : Module) (s i g : ℕ) (old new : List (List Spot)) → AreCallListsTo m (spot s i) old → IsCallAt m g (spot s i) → g < length m.funcs
    → ((cs : List Spot) → slice_get old g ≡ Some cs → new ≡ slice_set old g (cs ++ spot s i ∷ [])) → AreCallListsTo m (spot s (i + 1)) new
noted_all m s i g old new h at inside set f l =
    let q = h g inside in
    let e : new ≡ slice_set old g (q.0 ++ spot s i ∷ []) = set q.0 q.1 in
    let within : g < length old = slice_get_within old g q.0 q.1 in
    elim (cases_eq f g) [
      | inl same ↦ subst (λ (x : ℕ). (cs : List Spot) × (slice_get new x ≡ Some cs) × IsCallListTo m (spot s (i + 1)) x cs) (sym same)
          (q.0 ++ spot s i ∷ [], ap (λ (xs : List (List Spot)). slice_get xs g) e ∙ get_set_same old g (q.0 ++ spot s i ∷ []) within, pushed m s i g q.0 q.2 at)
      | inr other ↦ (let p = h f l in (
        p.0,
        ap (λ (xs : List (List Spot)). slice_get xs f) e ∙ get_set_other old g f (q.0 ++ spot s i ∷ []) other ∙ p.1,
        passed m s i f p.0 p.2
            (λ a. other (one_callee m f g (spot s i) a at)),
      ))
    ]

-- the instruction here is no direct call
pub passed_all : (m : Module) (s i : ℕ) (instr : Instr) (lists : List (List Spot)) → AreCallListsTo m (spot s i) lists
    → instr_at m (spot s i) ≡ Some instr → direct_callee m instr.op ≡ None → AreCallListsTo m (spot s (i + 1)) lists
passed_all m s i instr lists h found none f l = let q = h f l in (
  q.0,
  q.1,
  passed m s i f q.0 q.2 (λ at.
      let there = at.at_spot in
      let same : at.instr ≡ instr = cc in
      let called : direct_callee m instr.op ≡ Some (func_id f) = subst (λ (x : Instr). direct_callee m x.op ≡ Some (func_id f)) same at.is_call in
      cc),
)

-- ---- the next segment, the end

pub behind_seg : (c : Spot) (s i : ℕ) → IsCallBefore c (spot s i) → IsCallBefore c (spot (s + 1) 0)
behind_seg c s i b = (omega (arith, b.0), λ e. absurd (omega (arith, b.0, e)))

pub of_seg : (m : Module) (s f : ℕ) (seg : Seg) (c : Spot) → slice_get m.segs s ≡ Some seg → IsCallAt m f c
    → IsCallBefore c (spot (s + 1) 0) → IsCallBefore c (spot s (length seg.instrs))
of_seg m s f seg c here at b =
    let first : c.seg.0 ≤ s = ⊎_elim (λ (l : c.seg.0 < s + 1). omega (arith, l)) (λ (g : s + 1 ≤ c.seg.0).
    let e : c.seg.0 ≡ s + 1 = omega (arith, g, b.0) in
    absurd (omega (arith, b.1 e))) (cases_lt c.seg.0 (s + 1)) in
    let home = stands m c at.instr at.at_spot in
    let inside : (c.seg.0 ≡ s → c.at < length seg.instrs) = λ e.
    (let there : slice_get m.segs c.seg.0 ≡ Some home.seg = home.at_seg in
    let one : home.seg ≡ seg = cc in
    subst (λ (x : Seg). c.at < length x.instrs) one home.within) in
    (first, inside)

pub in_module : (m : Module) (f : ℕ) (c : Spot) → IsCallAt m f c → IsCallBefore c (spot (length m.segs) 0)
in_module m f c at =
    let home = stands m c at.instr at.at_spot in
    let inside : c.seg.0 < length m.segs = slice_get_within m.segs c.seg.0 home.seg home.at_seg in
    (omega (arith, inside), λ e. absurd (omega (arith, inside, e)))

pub next_seg : (m : Module) (s : ℕ) (seg : Seg) (lists : List (List Spot)) → slice_get m.segs s ≡ Some seg
    → AreCallListsTo m (spot s (length seg.instrs)) lists → AreCallListsTo m (spot (s + 1) 0) lists
next_seg m s seg lists here h f l = let q = h f l in (
  q.0,
  q.1,
  record {
    each = q.2.each;
    before = λ k c e. behind_seg c s (length seg.instrs) (q.2.before k c e);
    all = λ c at b. q.2.all c at (of_seg m s f seg c here at b);
    order = q.2.order;
  },
)

pub all_calls : (m : Module) (lists : List (List Spot)) → AreCallListsTo m (spot (length m.segs) 0) lists
    → (f : ℕ) → f < length m.funcs → (cs : List Spot) × (slice_get lists f ≡ Some cs) × IsCallList m f cs
all_calls m lists h f l = let q = h f l in (
  q.0,
  q.1,
  record {
    each = q.2.each;
    all = λ c at. q.2.all c at (in_module m f c at);
    order = q.2.order;
  },
)

pub lists_long : (m : Module) (here : Spot) (lists : List (List Spot)) (f : ℕ) → AreCallListsTo m here lists → f < length m.funcs → f < length lists
lists_long m here lists f h l = let q = h f l in slice_get_within lists f q.0 q.1
