-- What is counted is what the limits speak of.
use Rattle.std.proofs.Common.{arith, ◌≡◌, ◌≤◌, ◌⊎◌, inl, inr, ℕ, refl, sym, ap, subst, ◌∙◌, length, Option, None, Some, slice_get}
use Rattle.std.specs.Option.{option_map_or}
use Rattle.std.proofs.lemmas.Option.{slice_get_within}
use Rattle.shelf.proofs.Shelf.{get_there}
use Rattle.ir_module.specs.declared.op.Call.{Call}
use Rattle.ir_module.specs.declared.op.Instr.{Instr}
use Rattle.ir_module.specs.declared.module.Func.{Func}
use Rattle.ir_module.specs.declared.module.Seg.{Seg}
use Rattle.ir_module.specs.declared.module.Module.{Module}
use Rattle.ir_module.specs.Calls.{call_of}
use Rattle.ir_module.specs.Places.{spot, in_seg, instr_at}
use Rattle.facts.specs.Bodies.{param_count}
use Rattle.accept.specs.Counting.{greater, greatest, args_of, args_in, args_at, seg_length, args_in_seg, greatest_params, greatest_args}
use Rattle.accept.specs.Limits.{HasParams, HasArgs, HasArity, IsGreatestArity}
use Rattle.accept.proofs.Counted.{greater_left, greater_right, greater_is, greatest_above, greatest_reached}

-- ---- parameters

-- the parameters of a function that is there
params_of : (m : Module) (f : ℕ) (func : Func) → slice_get m.funcs f ≡ Some func → param_count m f ≡ length func.params
params_of m f func at = ap (λ (o : Option Func). option_map_or (λ (g : Func). length g.params) o 0) at

params_all : (m : Module) (k : ℕ) → HasParams m k → k ≤ greatest_params m
params_all m k has =
    let is = params_of m has.0 has.1 has.2 in
    let up = greatest_above (param_count m) (length m.funcs) has.0 (slice_get_within m.funcs has.0 has.1 has.2) in
    omega (arith, up, is, has.3)

params_reached : (m : Module) → (greatest_params m ≡ 0) ⊎ HasParams m (greatest_params m)
params_reached m = elim (greatest_reached (param_count m) (length m.funcs)) [
  | inl nothing ↦ inl nothing
  | inr at ↦ (let there = get_there m.funcs at.0 at.1 in inr (at.0, there.0, there.1, sym (at.2 ∙ params_of m at.0 there.0 there.1)))
]

-- ---- arguments

-- an instruction stands in a segment that is there
at_seg : (at : ℕ) (o : Option Seg) (instr : Instr) → in_seg at o ≡ Some instr → (seg : Seg) × (o ≡ Some seg) × (slice_get seg.instrs at ≡ Some instr)
at_seg at None instr e = absurd (cc)
at_seg at (Some seg) instr e = (seg, refl, e)

opened : (m : Module) (k at : ℕ) → instr_at m (spot k at) ≡ in_seg at (slice_get m.segs k)
unfolding instr_at
opened m k at = refl

-- how long a segment is that is there
long_seg : (m : Module) (k : ℕ) (seg : Seg) → slice_get m.segs k ≡ Some seg → seg_length m k ≡ length seg.instrs
long_seg m k seg at = ap (λ (o : Option Seg). option_map_or (λ (s : Seg). length s.instrs) o 0) at

-- the arguments of a call that is there
args_there : (m : Module) (k at : ℕ) (instr : Instr) (call : Call) → instr_at m (spot k at) ≡ Some instr → call_of instr.op ≡ Some call →
    args_at m k at ≡ length call.args
args_there m k at instr call there is = ap args_in there ∙ ap args_of is

args_all : (m : Module) (k : ℕ) → HasArgs m k → k ≤ greatest_args m
args_all m k has =
    let seg = has.0.seg.0 in
    let at = has.0.at in
    let home = at_seg at (slice_get m.segs seg) has.1 (sym (opened m seg at) ∙ has.3) in
    let is = args_there m seg at has.1 has.2 has.3 has.4 in
    let inside = slice_get_within home.0.instrs at has.1 home.2 in
    let long = long_seg m seg home.0 home.1 in
    let here = greatest_above (args_at m seg) (seg_length m seg) at (omega (arith, inside, long)) in
    let up = greatest_above (args_in_seg m) (length m.segs) seg (slice_get_within m.segs seg home.0 home.1) in
    omega (arith, here, up, is, has.5)

-- an instruction has no arguments, or is a call that has them
args_cases : (m : Module) (k at n : ℕ) (o : Option Instr) → instr_at m (spot k at) ≡ o → n ≡ args_in o → (n ≡ 0) ⊎ HasArgs m n
args_cases m k at n None there is = inl is
args_cases m k at n (Some instr) there is = call_cases (call_of instr.op) refl is
  where
    call_cases : (c : Option Call) → call_of instr.op ≡ c → n ≡ args_of c → (n ≡ 0) ⊎ HasArgs m n
    call_cases None at_call long = inl long
    call_cases (Some call) at_call long = inr (spot k at, instr, call, there, at_call, sym long)

args_reached : (m : Module) → (greatest_args m ≡ 0) ⊎ HasArgs m (greatest_args m)
args_reached m = elim (greatest_reached (args_in_seg m) (length m.segs)) [
  | inl nothing ↦ inl nothing
  | inr seg ↦ elim (greatest_reached (args_at m seg.0) (seg_length m seg.0)) [
    | inl nothing ↦ inl (seg.2 ∙ nothing)
    | inr at ↦ args_cases m seg.0 at.0 (greatest_args m) (instr_at m (spot seg.0 at.0)) refl (seg.2 ∙ at.2)
  ]
]

-- ---- both

-- the greater of the two is the greatest of all
pub is_greatest : (m : Module) (n : ℕ) → n ≡ greater (greatest_params m) (greatest_args m) → IsGreatestArity m n
is_greatest m n is = record { all = all; reached = reached }
  where
    all : (k : ℕ) → HasArity m k → k ≤ n
    all k (inl has) =
        let here = params_all m k has in
        let up = greater_left (greatest_params m) (greatest_args m) in
        omega (arith, here, up, is)
    all k (inr has) =
        let here = args_all m k has in
        let up = greater_right (greatest_params m) (greatest_args m) in
        omega (arith, here, up, is)

    reached : (n ≡ 0) ⊎ HasArity m n
    reached = elim (greater_is (greatest_params m) (greatest_args m)) [
      | inl left ↦ elim (params_reached m) [
        | inl nothing ↦ inl (is ∙ (left ∙ nothing))
        | inr has ↦ inr (inl (subst (HasParams m) (sym (is ∙ left)) has))
      ]
      | inr right ↦ elim (args_reached m) [
        | inl nothing ↦ inl (is ∙ (right ∙ nothing))
        | inr has ↦ inr (inr (subst (HasArgs m) (sym (is ∙ right)) has))
      ]
    ]

-- what bounds the greatest bounds all
pub bounded : (m : Module) (n limit : ℕ) → IsGreatestArity m n → n ≤ limit → (k : ℕ) → HasArity m k → k ≤ limit
bounded m n limit greatest within k has = let here = greatest.all k has in omega (arith, here, within)

-- no function has more parameters than all have
pub few_params : (m : Module) (limit : ℕ) → ((k : ℕ) → HasArity m k → k ≤ limit) → (f : ℕ) → param_count m f ≤ limit
few_params m limit within f = cases (slice_get m.funcs f) refl
  where
    cases : (o : Option Func) → slice_get m.funcs f ≡ o → param_count m f ≤ limit
    cases None at =
        let none : param_count m f ≡ 0 = ap (λ (o : Option Func). option_map_or (λ (g : Func). length g.params) o 0) at in
        omega (arith, none)
    cases (Some func) at = within (param_count m f) (inl (f, func, at, sym (params_of m f func at)))
