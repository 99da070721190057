-- The values of a function: its parameters, and the results of its instructions, each by its number.
use Rattle.std.proofs.Common.{◌≡◌, ◌∙◌, ◌+◌, ℕ, zero, suc, List, [], ◌∷◌, ◌++◌, length, slice_get, Option, None, Some, refl, sym, ap, arith}
use Rattle.std.proofs.Common.{length-append, inl, inr, ◌-◌}
use Rattle.std.specs.List.{flat_map}
use Rattle.std.proofs.lemmas.Bool.{cases_lt}
use Rattle.std.proofs.lemmas.Option.{none-some, same_Some}
use Rattle.shelf.proofs.Shelf.{get_kept, get_left, get_right}
use Rattle.attr_ids.specs.declared.ids.FuncId.{FuncId}
use Rattle.attr_ids.specs.declared.ids.ValueId.{ValueId}
use Rattle.ir_tree.specs.declared.headers.Param as tree_param
use Rattle.ir_tree.specs.declared.headers.Params as tree_params
use Rattle.ir_tree.specs.declared.headers.Params.TheVariants as params
use Rattle.ir_module.specs.declared.op.Instr.{Instr}
use Rattle.ir_module.specs.declared.module.Def.TheVariants as def
use Rattle.ir_module.specs.declared.module.Param.{Param}
use Rattle.ir_module.specs.declared.module.Seg.{Seg}
use Rattle.ir_module.specs.declared.module.ValueInfo.{ValueInfo}
use Rattle.ir_module.specs.Places.{spot}
use Rattle.ir_instrs.specs.Reading.{Reading}
use Rattle.ir_bodies.specs.Order.{listed, results, AreCounted}
use Rattle.ir_bodies.proofs.Numbered.{flat_append}
use Rattle.ir_headers.specs.Headers.{param_of, params_from, params_of}
use Rattle.ir_headers.specs.Values.{param_values, result_at, results_in, results_of}

-- ---- numbers that follow one another
pub counted_at : (from to : ℕ) (ns : List ℕ) (k n : ℕ) → AreCounted from to ns → slice_get ns k ≡ Some n → n ≡ from + k
counted_at from to [] k n h at = absurd (none-some n at)
counted_at from to (m ∷ ns) zero n h at = let first = h.0 in let same = same_Some m n at in omega (arith, first, same)
counted_at from to (m ∷ ns) (suc k) n h at = let rest = counted_at (from + 1) to ns k n h.1 at in omega (arith, rest)

pub counted_to : (from to : ℕ) (ns : List ℕ) → AreCounted from to ns → to ≡ from + length ns
counted_to from to [] h = omega (arith, h)
counted_to from to (m ∷ ns) h = let rest = counted_to (from + 1) to ns h.1 in omega (arith, rest)

-- ---- parameters
abbrev pub param_info : FuncId → Param → ℕ → ValueInfo
param_info func p k = record { func = func; ty = p.ty; def = def.Param k }

pub param_count : (func : FuncId) (j : ℕ) (ps : List Param) → length (param_values func j ps) ≡ length ps
param_count func j [] = refl
param_count func j (p ∷ ps) = ap suc (param_count func (j + 1) ps)

pub param_there : (func : FuncId) (j : ℕ) (ps : List Param) (k : ℕ) (p : Param) → slice_get ps k ≡ Some p
    → slice_get (param_values func j ps) k ≡ Some (param_info func p (j + k))
param_there func j [] k p at = absurd (none-some p at)
param_there func j (q ∷ ps) zero p at =
    ap (λ (z : Param). Some (param_info func z j)) (same_Some q p at) ∙ ap (λ n. Some (param_info func p n)) (omega arith)
param_there func j (q ∷ ps) (suc k) p at = param_there func (j + 1) ps k p at ∙ ap (λ n. Some (param_info func p n)) (omega arith)

pub param_come : (func : FuncId) (j : ℕ) (ps : List Param) (k : ℕ) (info : ValueInfo) → slice_get (param_values func j ps) k ≡ Some info
    → (p : Param) × (slice_get ps k ≡ Some p) × (param_info func p (j + k) ≡ info)
param_come func j [] k info at = absurd (none-some info at)
param_come func j (q ∷ ps) zero info at =
    (q, refl, ap (λ n. param_info func q n) (omega arith) ∙ same_Some (param_info func q j) info at)
param_come func j (q ∷ ps) (suc k) info at =
    let rest = param_come func (j + 1) ps k info at in
    (rest.0, rest.1, ap (λ n. param_info func rest.0 n) (omega arith) ∙ rest.2)

listed_number : (r : Reading) (v : ℕ) (ps : List tree_param.Param) (k : ℕ) (p : Param) → slice_get (params_from r v ps) k ≡ Some p → p.value.0 ≡ v + k
listed_number r v [] k p at = absurd (none-some p at)
listed_number r v (q ∷ ps) zero p at = sym (ap (λ (z : Param). z.value.0) (same_Some (param_of r v q) p at)) ∙ omega arith
listed_number r v (q ∷ ps) (suc k) p at = let rest = listed_number r (v + 1) ps k p at in omega (arith, rest)

-- the number of a parameter
pub param_number : (r : Reading) (v : ℕ) (ps : tree_params.Params) (k : ℕ) (p : Param) → slice_get (params_of r v ps) k ≡ Some p → p.value.0 ≡ v + k
param_number r v params.Empty k p at = absurd (none-some p at)
param_number r v (params.Dots d) k p at = absurd (none-some p at)
param_number r v (params.Listed ps dots) k p at = listed_number r v ps k p at

-- ---- results
abbrev pub result_info : FuncId → ℕ → ℕ → Instr → ValueInfo
result_info func seg at i = record { func = func; ty = i.ty; def = def.Instr (spot seg at) }

-- number n of the results of these instructions, of which the first has this place, is that of one of them
pub record IsResult (func : FuncId) (seg at : ℕ) (is : List Instr) (n : ℕ) (info : ValueInfo) : Type 0 where
  pub i : ℕ
  pub instr : Instr
  pub value : ValueId
  pub there : slice_get is i ≡ Some instr
  pub gives : instr.result ≡ Some value
  pub said : result_info func seg (at + i) instr ≡ info
  pub counted : slice_get (results is) n ≡ Some value.0

module _ (func : FuncId) (seg : ℕ) where
  behind_one : (at : ℕ) (x : Instr) (is : List Instr) (n m : ℕ) (info : ValueInfo) → slice_get (results (x ∷ is)) n ≡ slice_get (results is) m
      → IsResult func seg (at + 1) is m info → IsResult func seg at (x ∷ is) n info
  behind_one at x is n m info same h = record {
    i = suc h.i;
    instr = h.instr;
    value = h.value;
    there = h.there;
    gives = h.gives;
    said = ap (λ z. result_info func seg z h.instr) (omega arith) ∙ h.said;
    counted = same ∙ h.counted;
  }

  come_first : (at : ℕ) (x : Instr) (is : List Instr) (o : Option ValueId) → x.result ≡ o → (n : ℕ) (info : ValueInfo)
      → slice_get (result_at func seg at x o ++ results_in func seg (at + 1) is) n ≡ Some info
      → ((m : ℕ) → slice_get (results_in func seg (at + 1) is) m ≡ Some info → IsResult func seg (at + 1) is m info)
      → IsResult func seg at (x ∷ is) n info
  come_first at x is None none n info there rest =
      behind_one at x is n n info (ap (λ z. slice_get (listed z ++ results is) n) none) (rest n there)
  come_first at x is (Some v) some zero info there rest = record {
    i = 0;
    instr = x;
    value = v;
    there = refl;
    gives = some;
    said = ap (λ z. result_info func seg z x) (omega arith) ∙ same_Some (result_info func seg at x) info there;
    counted = ap (λ z. slice_get (listed z ++ results is) 0) some;
  }
  come_first at x is (Some v) some (suc n) info there rest =
      behind_one at x is (suc n) n info (ap (λ z. slice_get (listed z ++ results is) (suc n)) some) (rest n there)

  pub come_in : (at : ℕ) (is : List Instr) (n : ℕ) (info : ValueInfo) → slice_get (results_in func seg at is) n ≡ Some info → IsResult func seg at is n info
  come_in at [] n info there = absurd (none-some info there)
  come_in at (x ∷ is) n info there = come_first at x is x.result refl n info there (λ m h. come_in (at + 1) is m info h)

  go_first : (at : ℕ) (x : Instr) (is : List Instr) (v : ValueId) → x.result ≡ Some v
      → (slice_get (results_in func seg at (x ∷ is)) 0 ≡ Some (result_info func seg at x)) × (slice_get (results (x ∷ is)) 0 ≡ Some v.0)
  go_first at x is v some = (
    ap (λ z. slice_get (result_at func seg at x z ++ results_in func seg (at + 1) is) 0) some,
    ap (λ z. slice_get (listed z ++ results is) 0) some,
  )

  go_later : (at : ℕ) (x : Instr) (is : List Instr) (o : Option ValueId) → x.result ≡ o → (n : ℕ)
      → (m : ℕ) × (slice_get (results_in func seg at (x ∷ is)) m ≡ slice_get (results_in func seg (at + 1) is) n)
      × (slice_get (results (x ∷ is)) m ≡ slice_get (results is) n)
  go_later at x is None none n =
      (n, ap (λ z. slice_get (result_at func seg at x z ++ results_in func seg (at + 1) is) n) none, ap (λ z. slice_get (listed z ++ results is) n) none)
  go_later at x is (Some v) some n = (
    suc n,
    ap (λ z. slice_get (result_at func seg at x z ++ results_in func seg (at + 1) is) (suc n)) some,
    ap (λ z. slice_get (listed z ++ results is) (suc n)) some,
  )

  -- the result of an instruction is among them
  pub go_in : (at : ℕ) (is : List Instr) (i : ℕ) (x : Instr) (v : ValueId) → slice_get is i ≡ Some x → x.result ≡ Some v
      → (n : ℕ) × (slice_get (results_in func seg at is) n ≡ Some (result_info func seg (at + i) x)) × (slice_get (results is) n ≡ Some v.0)
  go_in at [] i x v there some = absurd (none-some x there)
  go_in at (y ∷ is) zero x v there some =
      let first = go_first at y is v (ap (λ (z : Instr). z.result) (same_Some y x there) ∙ some) in (
        0,
        first.0 ∙ ap (λ (z : Instr). Some (result_info func seg at z)) (same_Some y x there)
            ∙ ap (λ z. Some (result_info func seg z x)) (omega arith),
        first.1,
      )
  go_in at (y ∷ is) (suc i) x v there some =
      let rest = go_in (at + 1) is i x v there some in
      let later = go_later at y is y.result refl rest.0 in
      (later.0, later.1 ∙ rest.1 ∙ ap (λ z. Some (result_info func seg z x)) (omega arith), later.2 ∙ rest.2)

  count_first : (at : ℕ) (x : Instr) (is : List Instr) (o : Option ValueId) → length (results_in func seg (at + 1) is) ≡ length (results is)
      → length (result_at func seg at x o ++ results_in func seg (at + 1) is) ≡ length (listed o ++ results is)
  count_first at x is None same = same
  count_first at x is (Some v) same = ap suc same

  pub count_in : (at : ℕ) (is : List Instr) → length (results_in func seg at is) ≡ length (results is)
  count_in at [] = refl
  count_in at (x ∷ is) = count_first at x is x.result (count_in (at + 1) is)

-- ---- segments
abbrev pub all_in : List Seg → List Instr
all_in segs = flat_map (λ (s : Seg). s.instrs) segs

results_both : (xs ys : List Instr) → results (xs ++ ys) ≡ results xs ++ results ys
results_both xs ys = flat_append (λ (i : Instr). listed i.result) xs ys

-- number n of the results of segments is that of an instruction of one of them
pub record IsResultOf (func : FuncId) (s : ℕ) (segs : List Seg) (n : ℕ) (info : ValueInfo) : Type 0 where
  pub k : ℕ
  pub seg : Seg
  pub i : ℕ
  pub instr : Instr
  pub value : ValueId
  pub at_seg : slice_get segs k ≡ Some seg
  pub there : slice_get seg.instrs i ≡ Some instr
  pub gives : instr.result ≡ Some value
  pub said : result_info func (s + k) i instr ≡ info
  pub counted : slice_get (results (all_in segs)) n ≡ Some value.0

module _ (func : FuncId) where
  in_first_seg : (s : ℕ) (g : Seg) (segs : List Seg) (n : ℕ) (info : ValueInfo) → IsResult func s 0 g.instrs n info → IsResultOf func s (g ∷ segs) n info
  in_first_seg s g segs n info h = record {
    k = 0;
    seg = g;
    i = h.i;
    instr = h.instr;
    value = h.value;
    at_seg = refl;
    there = h.there;
    gives = h.gives;
    said = ap (λ z. result_info func z h.i h.instr) (omega arith) ∙ ap (λ z. result_info func s z h.instr) (omega arith) ∙ h.said;
    counted = ap (λ ns. slice_get ns n) (results_both g.instrs (all_in segs))
        ∙ get_kept (results g.instrs) (results (all_in segs)) n h.value.0 h.counted;
  }

  in_later_seg : (s : ℕ) (g : Seg) (segs : List Seg) (n m : ℕ) (info : ValueInfo) → n ≡ length (results g.instrs) + m → IsResultOf func (s + 1) segs m info
      → IsResultOf func s (g ∷ segs) n info
  in_later_seg s g segs n m info place h = record {
    k = suc h.k;
    seg = h.seg;
    i = h.i;
    instr = h.instr;
    value = h.value;
    at_seg = h.at_seg;
    there = h.there;
    gives = h.gives;
    said = ap (λ z. result_info func z h.i h.instr) (omega arith) ∙ h.said;
    counted = ap (λ ns. slice_get ns n) (results_both g.instrs (all_in segs)) ∙ get_right (results g.instrs) (results (all_in segs)) n m place ∙ h.counted;
  }

  pub come_of : (s : ℕ) (segs : List Seg) (n : ℕ) (info : ValueInfo) → slice_get (results_of func s segs) n ≡ Some info → IsResultOf func s segs n info
  come_of s [] n info at = absurd (none-some info at)
  come_of s (g ∷ segs) n info at =
      let own = results_in func s 0 g.instrs in
      let behind = results_of func (s + 1) segs in
      let count = count_in func s 0 g.instrs in
      elim (cases_lt n (length own)) [
        | inl l ↦ in_first_seg s g segs n info (come_in func s 0 g.instrs n info (sym (get_left own behind n l) ∙ at))
        | inr l ↦
            (let m = n - length own in
            in_later_seg s g segs n m info (omega (arith, l, count))
            (come_of (s + 1) segs m info (sym (get_right own behind n m (omega (arith, l))) ∙ at)))
      ]

  pub go_of : (s : ℕ) (segs : List Seg) (k : ℕ) (g : Seg) (i : ℕ) (x : Instr) (v : ValueId) → slice_get segs k ≡ Some g → slice_get g.instrs i ≡ Some x
      → x.result ≡ Some v
      → (n : ℕ) × (slice_get (results_of func s segs) n ≡ Some (result_info func (s + k) i x)) × (slice_get (results (all_in segs)) n ≡ Some v.0)
  go_of s [] k g i x v at there some = absurd (none-some g at)
  go_of s (h ∷ segs) zero g i x v at there some =
      let same = same_Some h g at in
      let one = go_in func s 0 h.instrs i x v (ap (λ (z : Seg). slice_get z.instrs i) same ∙ there) some in (
        one.0,
        get_kept (results_in func s 0 h.instrs) (results_of func (s + 1) segs) one.0 _ one.1
            ∙ ap (λ z. Some (result_info func s z x)) (omega arith) ∙ ap (λ z. Some (result_info func z i x)) (omega arith),
        ap (λ ns. slice_get ns one.0) (results_both h.instrs (all_in segs)) ∙ get_kept (results h.instrs) (results (all_in segs)) one.0 v.0 one.2,
      )
  go_of s (h ∷ segs) (suc k) g i x v at there some =
      let rest = go_of (s + 1) segs k g i x v at there some in
      let own = results_in func s 0 h.instrs in
      let count = count_in func s 0 h.instrs in
      let n = length own + rest.0 in (
        n,
        get_right own (results_of func (s + 1) segs) n rest.0 refl ∙ rest.1 ∙ ap (λ z. Some (result_info func z i x)) (omega arith),
        ap (λ ns. slice_get ns n) (results_both h.instrs (all_in segs))
            ∙ get_right (results h.instrs) (results (all_in segs)) n rest.0 (omega (arith, count)) ∙ rest.2,
      )

  pub count_of : (s : ℕ) (segs : List Seg) → length (results_of func s segs) ≡ length (results (all_in segs))
  count_of s [] = refl
  count_of s (g ∷ segs) =
      let one = count_in func s 0 g.instrs in
      let rest = count_of (s + 1) segs in
      let left = length-append (results_in func s 0 g.instrs) (results_of func (s + 1) segs) in
      let right = length-append (results g.instrs) (results (all_in segs)) in
      let both = ap length (results_both g.instrs (all_in segs)) in
      omega (arith, one, rest, left, right, both)
