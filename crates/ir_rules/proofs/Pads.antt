-- Phis at the front of segments, and landing pads behind them.
use Rattle.std.proofs.Common.{◌≡◌, ◌+◌, ◌<◌, ◌≤◌, ◌∙◌, ◌↔◌, ℕ, Bool, true, false, List, length, slice_get, None, Some}
use Rattle.std.proofs.Common.{arith, ap, subst, sym, refl, inl, inr, IsTrue}
use Rattle.std.proofs.lemmas.Bool.{true≢false, cases_lt}
use Rattle.std.proofs.lemmas.Bool.Decides.{eqb_tells}
use Rattle.std.proofs.lemmas.Option.{none-some, same_Some, slice_get_within}
use Rattle.ir_module.specs.declared.op.Op.{Op}
use Rattle.ir_module.specs.declared.op.Op.TheVariants as op
use Rattle.ir_module.specs.declared.op.Instr.{Instr}
use Rattle.ir_module.specs.declared.module.Seg.{Seg}
use Rattle.ir_module.specs.declared.module.Module.{Module}
use Rattle.ir_module.specs.declared.module.Block.{Block}
use Rattle.ir_module.specs.Places.{spot, instr_at, in_seg, IsSegIn}
use Rattle.shelf.proofs.Shelf.{get_there}
use Rattle.ir_rules.specs.Blocks.{IsPhi, IsPad, ArePhisTo, StandsBehindPhis, HasPadBehindPhis, SegHasPad, HasPad}
use Rattle.ir_rules.specs.Survey.{IsPhiCount}

-- no instruction is a phi and a landing pad
phi_no_pad : (o : Op) → IsPhi o → IsPad o → ⊥
phi_no_pad (op.Phi arms) p q = q
phi_no_pad (op.LandingPad catch_all clauses) p q = p
phi_no_pad _ p q = p

-- a list of phis up to a place, which is the first that is none
pub counted_here : (instrs : List Instr) (i : ℕ) (x : Instr) → ArePhisTo i instrs → slice_get instrs i ≡ Some x → (IsPhi x.op → ⊥) → IsPhiCount instrs i
counted_here instrs i x phis at never = record {
  phis = phis;
  stop = λ y at_y p. never (subst (λ (z : Instr). IsPhi z.op) (same_Some y x (sym at_y ∙ at)) p);
}

-- phis alone
pub counted_all : (instrs : List Instr) (i n : ℕ) → ArePhisTo i instrs → n ≡ length instrs → n ≤ i → IsPhiCount instrs n
counted_all instrs i n phis is l = record {
  phis = λ k x below at. phis k x (omega (arith, below, l)) at;
  stop = λ x at p. absurd (omega (arith, slice_get_within instrs n x at, is));
}

-- all before a place are phis exactly where the count reaches it
pub reached : (instrs : List Instr) (n i : ℕ) → IsPhiCount instrs n → i ≤ n → ArePhisTo i instrs
reached instrs n i counted l k x below at = counted.phis k x (omega (arith, below, l)) at

pub not_reached : (instrs : List Instr) (n i : ℕ) → IsPhiCount instrs n → i < length instrs → n < i → ArePhisTo i instrs → ⊥
not_reached instrs n i counted inside l phis =
    let next = get_there instrs n (omega (arith, inside, l)) in
    counted.stop next.0 next.1 (phis n next.0 l next.1)

-- a landing pad behind phis stands where the count ends
pad_here : (seg : Seg) (n k : ℕ) (x : Instr) → IsPhiCount seg.instrs n → slice_get seg.instrs k ≡ Some x → IsPad x.op → ArePhisTo k seg.instrs
    → (y : Instr) × (slice_get seg.instrs n ≡ Some y) × IsPad y.op
pad_here seg n k x counted at pad phis = elim (cases_lt k n) [
  | inl less ↦ absurd (phi_no_pad x.op (counted.phis k x less at) pad)
  | inr more ↦ elim (eqb_tells k n) [
    | inl (_, same) ↦ (x, subst (λ (p : ℕ). slice_get seg.instrs p ≡ Some x) same at, pad)
    | inr (_, other) ↦
        (let inside = slice_get_within seg.instrs k x at in
        absurd (not_reached seg.instrs n k counted inside (omega (arith, more, other)) phis))
  ]
]

-- a place in front is behind phis alone
pub stands_told : (block : Block) (k : ℕ) (seg : Seg) (n i : ℕ) (b : Bool) → IsPhiCount seg.instrs n → i < length seg.instrs
    → IsTrue b ↔ ((k ≡ block.first_seg) × (i ≤ n)) → IsTrue b ↔ StandsBehindPhis block k seg i
stands_told block k seg n i b counted inside h = (
  λ t. let f = h.0 t in record { front = f.0; phis = reached seg.instrs n i counted f.1 },
  λ s. h.1 (s.front, elim (cases_lt n i) [ inl less ↦ absurd (not_reached seg.instrs n i counted inside less s.phis) | inr l ↦ l ]),
)

-- the instruction behind the phis is a landing pad exactly where one stands there
pub pad_told : (seg : Seg) (n : ℕ) (x : Instr) (b : Bool) → IsPhiCount seg.instrs n → slice_get seg.instrs n ≡ Some x → IsTrue b ↔ IsPad x.op
    → IsTrue b ↔ HasPadBehindPhis (Some seg)
pad_told seg n x b counted at h = (
  λ t. (n, x, at, h.0 t, counted.phis),
  λ p. let f = pad_here seg n p.0 p.1 counted p.2 p.3 p.4 in h.1 (subst (λ (z : Instr). IsPad z.op) (same_Some f.0 x (sym f.1 ∙ at)) f.2),
)

-- past the end there is none
pub no_pad_told : (seg : Seg) (n : ℕ) → IsPhiCount seg.instrs n → slice_get seg.instrs n ≡ None → IsTrue false ↔ HasPadBehindPhis (Some seg)
no_pad_told seg n counted none = (
  λ t. absurd (true≢false (sym t)),
  λ (k, x, at, pad, phis). let f = pad_here seg n k x counted at pad phis in absurd (none-some f.0 (sym none ∙ f.1)),
)

-- ---- landing pads of a function

pub none_yet : (instrs : List Instr) (i : ℕ) → i ≡ 0 → (k : ℕ) (x : Instr) → k < i → slice_get instrs k ≡ Some x → IsPad x.op → ⊥
none_yet instrs i is k x l at p = omega (arith, l, is)

pub none_more : (instrs : List Instr) (i : ℕ) (y : Instr) → ((k : ℕ) (x : Instr) → k < i → slice_get instrs k ≡ Some x → IsPad x.op → ⊥)
    → slice_get instrs i ≡ Some y → (IsPad y.op → ⊥) → (k : ℕ) (x : Instr) → k < i + 1 → slice_get instrs k ≡ Some x → IsPad x.op → ⊥
none_more instrs i y h here never k x l at p = elim (eqb_tells k i) [
  | inl (_, same) ↦
      (let at_i : slice_get instrs i ≡ Some x = subst (λ (n : ℕ). slice_get instrs n ≡ Some x) same at in
      never (subst (λ (z : Instr). IsPad z.op) (same_Some x y (sym at_i ∙ here)) p))
  | inr (_, other) ↦ h k x (omega (arith, l, other)) at p
]

-- a list with a landing pad, and one without
abbrev pub HasOne : List Instr → Type 0
HasOne instrs = (k : ℕ) × (x : Instr) × (slice_get instrs k ≡ Some x) × IsPad x.op

pub one_found : (instrs : List Instr) (i : ℕ) (x : Instr) → slice_get instrs i ≡ Some x → IsPad x.op → IsTrue true ↔ HasOne instrs
one_found instrs i x at p = (λ t. (i, x, at, p), λ h. refl)

pub none_found : (instrs : List Instr) (i : ℕ) → length instrs ≤ i → ((k : ℕ) (x : Instr) → k < i → slice_get instrs k ≡ Some x → IsPad x.op → ⊥)
    → IsTrue false ↔ HasOne instrs
none_found instrs i l h = (
  λ t. absurd (true≢false (sym t)),
  λ (k, x, at, p). absurd (h k x (omega (arith, l, slice_get_within instrs k x at)) at p),
)

-- a segment has one where its instructions do
pub seg_told : (m : Module) (k : ℕ) (seg : Seg) (xs : List Instr) (b : Bool) → slice_get m.segs k ≡ Some seg → xs ≡ seg.instrs → IsTrue b ↔ HasOne xs
    → IsTrue b ↔ SegHasPad m k
unfolding instr_at
seg_told m k seg xs b at is h =
    let told : IsTrue b ↔ HasOne seg.instrs = subst (λ (ys : List Instr). IsTrue b ↔ HasOne ys) is h in (
      λ t. let f = told.0 t in (f.0, f.1, ap (in_seg f.0) at ∙ f.2, f.3),
      λ (n, x, there, p). told.1 (n, x, sym (ap (in_seg n) at) ∙ there, p),
    )

pub no_seg_told : (m : Module) (k : ℕ) → slice_get m.segs k ≡ None → IsTrue false ↔ SegHasPad m k
unfolding instr_at
no_seg_told m k none = (
  λ t. absurd (true≢false (sym t)),
  λ (n, x, there, p). absurd (none-some x (sym (ap (in_seg n) none) ∙ there)),
)

-- a function has one in its segments
pub func_found : (m : Module) (f k : ℕ) → IsSegIn m f k → SegHasPad m k → IsTrue true ↔ HasPad m f
func_found m f k inside (n, x, at, p) = (
  λ t. (spot k n, x, record { seg = inside.seg; block = inside.block; at_seg = inside.at_seg; at_block = inside.at_block; in_func = inside.in_func }, at, p),
  λ h. refl,
)

pub func_none : (m : Module) (f from to k : ℕ) → ((n : ℕ) → (IsSegIn m f n) ↔ ((from ≤ n) × (n < to))) → to ≤ k
    → ((n : ℕ) → from ≤ n → n < k → SegHasPad m n → ⊥) → IsTrue false ↔ HasPad m f
func_none m f from to k segs l h = (
  λ t. absurd (true≢false (sym t)),
  λ (s, x, inside, at, p).
      let in_seg_of : IsSegIn m f s.seg.0 =
      record { seg = inside.seg; block = inside.block; at_seg = inside.at_seg; at_block = inside.at_block; in_func = inside.in_func } in
      let range = (segs s.seg.0).0 in_seg_of in
      absurd (h s.seg.0 range.0 (omega (arith, range.1, l)) (s.at, x, at, p)),
)
