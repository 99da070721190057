-- Lists of uses that grow in text order.
use Rattle.std.proofs.Common.{◌≡◌, ◌+◌, ◌^◌, ◌<◌, ◌≤◌, ◌⊎◌, inl, inr, ℕ, length, slice_get, slice_set, List, [], ◌∷◌, ◌++◌, Some, arith}
use Rattle.std.proofs.Common.{subst, sym, ap, ◌∙◌, ⊎_elim}
use Rattle.std.proofs.lemmas.Option.{slice_get_within}
use Rattle.std.proofs.lemmas.Bool.{cases_eq, cases_lt}
use Rattle.attr_ids.specs.declared.ids.ValueId.{ValueId}
use Rattle.shelf.proofs.Shelf.{get_there, get_kept, get_behind, get_push, get_set_same, get_set_other}
use Rattle.ir_module.specs.declared.op.Operand.TheVariants as operand
use Rattle.ir_module.specs.declared.op.Written.{Written}
use Rattle.ir_module.specs.declared.op.Instr.{Instr}
use Rattle.ir_module.specs.declared.module.Seg.{Seg}
use Rattle.ir_module.specs.declared.module.Module.{Module}
use Rattle.ir_module.specs.declared.module.Spot.{Spot}
use Rattle.ir_module.specs.Places.{spot, instr_at}
use Rattle.ir_module.specs.Operands.{operands}
use Rattle.ir_module.specs.WellFormed.{HasFew}
use Rattle.ir_module.proofs.Spots.{stands}
use Rattle.ir_uses.specs.declared.lists.Use.{Use}
use Rattle.ir_uses.specs.Order.{IsBefore}
use Rattle.ir_uses.specs.Uses.{IsUseAt, IsUseList}
use Rattle.ir_uses.specs.Noted.{use_at, IsUseListTo, AreUseListsTo}

-- ---- a list and one more

-- ---- the order of uses

pub same_use : (a b : Use) → a.spot.seg.0 ≡ b.spot.seg.0 → a.spot.at ≡ b.spot.at → a.operand ≡ b.operand → a ≡ b
same_use a b s i o = ap (λ (x : ℕ). use_at x a.spot.at a.operand) s ∙ ap (λ (x : ℕ). use_at b.spot.seg.0 x a.operand) i ∙ ap
    (λ (x : ℕ). use_at b.spot.seg.0 b.spot.at x) o

-- what is written before the next operand is written before this one, or is it
pub before_next : (u : Use) (s i j : ℕ) → IsBefore u (use_at s i (j + 1)) → IsBefore u (use_at s i j) ⊎ (u ≡ use_at s i j)
before_next u s i j b =
    elim (cases_lt u.spot.seg.0 s) [
      | inl l ↦ inl (omega arith, λ e. absurd (omega arith), λ e f. absurd (omega arith))
      | inr g ↦ elim (cases_lt u.spot.at i) [
        | inl l ↦ inl (omega (arith, b.0), λ e. omega arith, λ e f. absurd (omega arith))
        | inr k ↦ elim (cases_lt u.operand j) [
          | inl l ↦ inl (omega (arith, b.0), λ e. b.1 e, λ e f. l)
          | inr h ↦
              let es : u.spot.seg.0 ≡ s = omega (arith, b.0) in
              let ei : u.spot.at ≡ i = omega (arith, b.1 es) in
              let eo : u.operand ≡ j = omega (arith, b.2 es ei) in
              inr (same_use u (use_at s i j) es ei eo)
        ]
      ]
    ]

pub next_of_before : (u : Use) (s i j : ℕ) → IsBefore u (use_at s i j) → IsBefore u (use_at s i (j + 1))
next_of_before u s i j b = (b.0, b.1, λ e f. omega (arith, b.2 e f))

pub itself_before_next : (s i j : ℕ) → IsBefore (use_at s i j) (use_at s i (j + 1))
itself_before_next s i j = (omega arith, λ e. omega arith, λ e f. omega arith)

-- ---- one operand more

-- the list of a value that is not the operand here
pub passed : (m : Module) (s i j v : ℕ) (us : List Use) → IsUseListTo m (use_at s i j) v us → (IsUseAt m v (use_at s i j) → ⊥)
    → IsUseListTo m (use_at s i (j + 1)) v us
passed m s i j v us l n = record {
  each = l.each;
  before = λ k u e. next_of_before u s i j (l.before k u e);
  all = λ u at b. elim (before_next u s i j b) [ inl c ↦ l.all u at c | inr e ↦ absurd (n (subst (λ (x : Use). IsUseAt m v x) e at)) ];
  order = l.order;
}

pub pushed_each : (m : Module) (s i j v : ℕ) (us : List Use) → IsUseListTo m (use_at s i j) v us → IsUseAt m v (use_at s i j)
    → (k : ℕ) (u : Use) → slice_get (us ++ use_at s i j ∷ []) k ≡ Some u → IsUseAt m v u × IsBefore u (use_at s i (j + 1))
pushed_each m s i j v us l at k u e =
    elim (get_push us (use_at s i j) u k e) [
      | inl f ↦ (l.each k u f, next_of_before u s i j (l.before k u f))
      | inr f ↦ (subst (λ (x : Use). IsUseAt m v x) f.1 at, subst (λ (x : Use). IsBefore x (use_at s i (j + 1))) f.1 (itself_before_next s i j))
    ]

pub pushed_order : (m : Module) (s i j v : ℕ) (us : List Use) → IsUseListTo m (use_at s i j) v us
    → (k n : ℕ) (a b : Use) → k < n → slice_get (us ++ use_at s i j ∷ []) k ≡ Some a → slice_get (us ++ use_at s i j ∷ []) n ≡ Some b → IsBefore a b
pushed_order m s i j v us l k n a b less ea eb =
    elim (get_push us (use_at s i j) b n eb) [
      | inl fb ↦ elim (get_push us (use_at s i j) a k ea) [
        | inl fa ↦ l.order k n a b less fa fb
        | inr fa ↦ absurd (omega (arith, fa.0, slice_get_within us n b fb))
      ]
      | inr fb ↦ elim (get_push us (use_at s i j) a k ea) [
        | inl fa ↦ subst (λ (x : Use). IsBefore a x) fb.1 (l.before k a fa)
        | inr fa ↦ absurd (omega (arith, fa.0, fb.0))
      ]
    ]

-- the list of the value that is the operand here, with this use at its end
pub pushed : (m : Module) (s i j v : ℕ) (us : List Use) → IsUseListTo m (use_at s i j) v us → IsUseAt m v (use_at s i j)
    → IsUseListTo m (use_at s i (j + 1)) v (us ++ use_at s i j ∷ [])
pushed m s i j v us l at = record {
  each = λ k u e. (pushed_each m s i j v us l at k u e).0;
  before = λ k u e. (pushed_each m s i j v us l at k u e).1;
  all = λ u a b. elim (before_next u s i j b) [
    | inl c ↦ (let q = l.all u a c in (q.0, get_kept us (use_at s i j ∷ []) q.0 u q.1))
    | inr e ↦ (length us, subst (λ (x : Use). slice_get (us ++ use_at s i j ∷ []) (length us) ≡ Some x) (sym e) (get_behind us (use_at s i j) []))
  ];
  order = pushed_order m s i j v us l;
}

-- ---- all lists

pub none_so_far : (m : Module) (lists : List (List Use)) → ((v : ℕ) → v < length m.values → slice_get lists v ≡ Some []) → AreUseListsTo m (use_at 0 0 0) lists
none_so_far m lists h v l = (
  [],
  h v l,
  record {
    each = λ k u e. (cc);
    before = λ k u e. (cc);
    all = λ u at b. let e : u.spot.seg.0 ≡ 0 = omega (arith, b.0) in let f : u.spot.at ≡ 0 = omega (arith, b.1 e) in absurd (omega (arith, b.2 e f));
    order = λ i k a b less ea eb. (cc);
  },
)

-- the operand here names no value
pub passed_all : (m : Module) (s i j : ℕ) (lists : List (List Use)) → AreUseListsTo m (use_at s i j) lists → ((v : ℕ) → IsUseAt m v (use_at s i j) → ⊥)
    → AreUseListsTo m (use_at s i (j + 1)) lists
passed_all m s i j lists h n v l = let q = h v l in (q.0, q.1, passed m s i j v q.0 q.2 (n v))

abbrev value_id : ℕ → ValueId
value_id v = record { 0 = v }

-- two values that one operand names are one
pub one_value : (m : Module) (v w : ℕ) (u : Use) → IsUseAt m v u → IsUseAt m w u → v ≡ w
one_value m v w u a b =
    let ea = a.at_spot in let eb = b.at_spot in
    let same : a.instr ≡ b.instr = cc in
    let oa : slice_get (operands b.instr.op) u.operand ≡ Some a.written = subst
    (λ (x : Instr). slice_get (operands x.op) u.operand ≡ Some a.written) same a.is_operand in
    let ob = b.is_operand in
    let written : a.written ≡ b.written = cc in
    let va : b.written.val ≡ operand.Value (value_id v) = subst (λ (x : Written). x.val ≡ operand.Value (value_id v)) written a.is_value in
    let vb = b.is_value in
    let named : value_id v ≡ value_id w = cc in
    ap (λ (x : ValueId). x.0) named

pub noted_in : (m : Module) (s i j w : ℕ) (old new : List (List Use)) (us : List Use) → AreUseListsTo m (use_at s i j) old → IsUseAt m w (use_at s i j)
    → slice_get old w ≡ Some us → new ≡ slice_set old w (us ++ use_at s i j ∷ []) → AreUseListsTo m (use_at s i (j + 1)) new
noted_in m s i j w old new us h at found e v l =
    let p = h v l in
    let here : slice_get old v ≡ Some p.0 = p.1 in
    elim (cases_eq v w) [
      | inl same ↦
          (let there : slice_get old w ≡ Some p.0 = subst (λ (x : ℕ). slice_get old x ≡ Some p.0) same here in
          let one : p.0 ≡ us = cc in
          let known : IsUseListTo m (use_at s i j) w us = subst (λ (x : List Use). IsUseListTo m (use_at s i j) w x) one
          (subst (λ (x : ℕ). IsUseListTo m (use_at s i j) x p.0) same p.2) in
          subst (λ (x : ℕ). (xs : List Use) × (slice_get new x ≡ Some xs) × IsUseListTo m (use_at s i (j + 1)) x xs) (sym same) (
            us ++ use_at s i j ∷ [],
            ap (λ (xs : List (List Use)). slice_get xs w) e ∙ get_set_same old w (us ++ use_at s i j ∷ [])
                (slice_get_within old w us found),
            pushed m s i j w us known at,
          ))
      | inr other ↦ (
        p.0,
        ap (λ (xs : List (List Use)). slice_get xs v) e ∙ get_set_other old w v (us ++ use_at s i j ∷ []) other ∙ p.1,
        passed m s i j v p.0 p.2
            (λ a. other (one_value m v w (use_at s i j) a at)),
      )
    ]

-- a value that has no list is none of the module's
pub noted_out : (m : Module) (s i j w : ℕ) (old : List (List Use)) → AreUseListsTo m (use_at s i j) old → IsUseAt m w (use_at s i j) → length old ≤ w
    → AreUseListsTo m (use_at s i (j + 1)) old
noted_out m s i j w old h at past v l =
    let p = h v l in
    let within : v < length old = slice_get_within old v p.0 p.1 in
    (p.0, p.1, passed m s i j v p.0 p.2 (λ a. let e : v ≡ w = one_value m v w (use_at s i j) a at in omega (arith, e, past, within)))

pub noted_all : (m : Module) (s i j w : ℕ) (old new : List (List Use)) → AreUseListsTo m (use_at s i j) old → IsUseAt m w (use_at s i j)
    → (length old ≤ w → new ≡ old) → ((us : List Use) → slice_get old w ≡ Some us → new ≡ slice_set old w (us ++ use_at s i j ∷ []))
    → AreUseListsTo m (use_at s i (j + 1)) new
noted_all m s i j w old new h at out set = elim (cases_lt w (length old)) [
  | inl inside ↦ (let q = get_there old w inside in noted_in m s i j w old new q.0 h at q.1 (set q.0 q.1))
  | inr past ↦ subst (λ (xs : List (List Use)). AreUseListsTo m (use_at s i (j + 1)) xs) (sym (out past)) (noted_out m s i j w old h at past)
]

-- ---- the next instruction, the next segment, the end

pub behind_instr : (u : Use) (s i j : ℕ) → IsBefore u (use_at s i j) → IsBefore u (use_at s (i + 1) 0)
behind_instr u s i j b = (b.0, λ e. omega (arith, b.1 e), λ e f. absurd (omega (arith, b.1 e)))

pub of_instr : (m : Module) (s i v : ℕ) (instr : Instr) (u : Use) → instr_at m (spot s i) ≡ Some instr → IsUseAt m v u
    → IsBefore u (use_at s (i + 1) 0) → IsBefore u (use_at s i (length (operands instr.op)))
of_instr m s i v instr u here at b =
    let index : (u.spot.seg.0 ≡ s → u.spot.at ≤ i) = λ e. ⊎_elim (λ (l : u.spot.at < i + 1). omega (arith, l))
    (λ (g : i + 1 ≤ u.spot.at). absurd (omega (arith, b.1 e, b.2 e (omega (arith, g, b.1 e))))) (cases_lt u.spot.at (i + 1)) in (
      b.0,
      index,
      λ e f.
          let same : instr_at m (spot s i) ≡ Some at.instr = subst (λ (x : ℕ). instr_at m (spot x i) ≡ Some at.instr) e
          (subst (λ (x : ℕ). instr_at m (spot u.spot.seg.0 x) ≡ Some at.instr) f at.at_spot) in
          let one : at.instr ≡ instr = cc in
          let inside : u.operand < length (operands at.instr.op) = slice_get_within (operands at.instr.op) u.operand at.written at.is_operand in
          subst (λ (x : Instr). u.operand < length (operands x.op)) one inside,
    )

pub behind_seg : (u : Use) (s i : ℕ) → IsBefore u (use_at s i 0) → IsBefore u (use_at (s + 1) 0 0)
behind_seg u s i b = (omega (arith, b.0), λ e. absurd (omega (arith, b.0, e)), λ e f. absurd (omega (arith, b.0, e)))

pub of_seg : (m : Module) (s v : ℕ) (seg : Seg) (u : Use) → slice_get m.segs s ≡ Some seg → IsUseAt m v u
    → IsBefore u (use_at (s + 1) 0 0) → IsBefore u (use_at s (length seg.instrs) 0)
of_seg m s v seg u here at b =
    let first : u.spot.seg.0 ≤ s = ⊎_elim (λ (l : u.spot.seg.0 < s + 1). omega (arith, l)) (λ (g : s + 1 ≤ u.spot.seg.0).
    let e : u.spot.seg.0 ≡ s + 1 = omega (arith, g, b.0) in
    let f : u.spot.at ≡ 0 = omega (arith, b.1 e) in
    absurd (omega (arith, b.2 e f))) (cases_lt u.spot.seg.0 (s + 1)) in
    let home = stands m u.spot at.instr at.at_spot in
    let inside : (u.spot.seg.0 ≡ s → u.spot.at < length seg.instrs) = λ e.
    (let there : slice_get m.segs u.spot.seg.0 ≡ Some home.seg = home.at_seg in
    let one : home.seg ≡ seg = cc in
    subst (λ (x : Seg). u.spot.at < length x.instrs) one home.within) in
    (first, λ e. omega (arith, inside e), λ e f. absurd (omega (arith, inside e, f)))

pub in_module : (m : Module) (v : ℕ) (u : Use) → IsUseAt m v u → IsBefore u (use_at (length m.segs) 0 0)
in_module m v u at =
    let home = stands m u.spot at.instr at.at_spot in
    let inside : u.spot.seg.0 < length m.segs = slice_get_within m.segs u.spot.seg.0 home.seg home.at_seg in
    (omega (arith, inside), λ e. absurd (omega (arith, inside, e)), λ e f. absurd (omega (arith, inside, e)))

-- past its last operand nothing of an instruction is left
pub next_instr : (m : Module) (s i : ℕ) (instr : Instr) (lists : List (List Use)) → instr_at m (spot s i) ≡ Some instr
    → AreUseListsTo m (use_at s i (length (operands instr.op))) lists → AreUseListsTo m (use_at s (i + 1) 0) lists
next_instr m s i instr lists here h v l = let q = h v l in (
  q.0,
  q.1,
  record {
    each = q.2.each;
    before = λ k u e. behind_instr u s i (length (operands instr.op)) (q.2.before k u e);
    all = λ u at b. q.2.all u at (of_instr m s i v instr u here at b);
    order = q.2.order;
  },
)

pub next_seg : (m : Module) (s : ℕ) (seg : Seg) (lists : List (List Use)) → slice_get m.segs s ≡ Some seg
    → AreUseListsTo m (use_at s (length seg.instrs) 0) lists → AreUseListsTo m (use_at (s + 1) 0 0) lists
next_seg m s seg lists here h v l = let q = h v l in (
  q.0,
  q.1,
  record {
    each = q.2.each;
    before = λ k u e. behind_seg u s (length seg.instrs) (q.2.before k u e);
    all = λ u at b. q.2.all u at (of_seg m s v seg u here at b);
    order = q.2.order;
  },
)

pub all_uses : (m : Module) (lists : List (List Use)) → AreUseListsTo m (use_at (length m.segs) 0 0) lists
    → (v : ℕ) → v < length m.values → (us : List Use) × (slice_get lists v ≡ Some us) × IsUseList m v us
all_uses m lists h v l = let q = h v l in (
  q.0,
  q.1,
  record {
    each = q.2.each;
    all = λ u at. q.2.all u at (in_module m v u at);
    order = q.2.order;
  },
)

-- ---- what the module's size adds

pub few_operands : (m : Module) (s : Spot) (instr : Instr) → HasFew m → instr_at m s ≡ Some instr → length (operands instr.op) < 2 ^ 31
few_operands m s instr few h = let q = stands m s instr h in (few.each s.seg.0 q.seg q.at_seg).1 s.at instr q.at_place

-- an operand that is no value is no use
pub no_use : (m : Module) (s i j : ℕ) (instr : Instr) → instr_at m (spot s i) ≡ Some instr
    → ((o : Written) (v : ValueId) → slice_get (operands instr.op) j ≡ Some o → o.val ≡ operand.Value v → ⊥) → (v : ℕ) → IsUseAt m v (use_at s i j) → ⊥
no_use m s i j instr found none v at =
    let there = at.at_spot in
    let same : at.instr ≡ instr = cc in
    none at.written (value_id v) (subst (λ (x : Instr). slice_get (operands x.op) j ≡ Some at.written) same at.is_operand) at.is_value
