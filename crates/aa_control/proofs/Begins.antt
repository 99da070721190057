-- Where bodies and blocks begin: at segments that are there.
use Rattle.std.proofs.Common.{arith, ◌≡◌, ◌+◌, ◌<◌, ◌==◌, ℕ, true, false, length, slice_get, Option, None, Some, refl, ap, subst, ◌∙◌}
use Rattle.std.proofs.lemmas.Bool.{not-true, eq-eqb, both_ways}
use Rattle.std.proofs.lemmas.Option.{slice_get_within}
use Rattle.ir_module.specs.declared.module.Block.{Block}
use Rattle.ir_module.specs.declared.module.Func.{Func}
use Rattle.ir_module.specs.declared.module.Module.{Module}
use Rattle.ir_module.specs.Places.{first_block_in, first_seg_in, first_seg_of, entry_of}
use Rattle.ir_module.specs.Calls.{has_blocks}
use Rattle.ir_module.specs.Formed.{IsBlockOf}
use Rattle.ir_module.specs.WellFormed.{IsWellFormed}
use Rattle.facts.specs.Bodies.{is_body}

crash : {A : Type 0} → false ≡ true → A
crash e = absurd (cc)

-- a body is a function
pub func_there : (m : Module) (f : ℕ) → is_body m f ≡ true → f < length m.funcs
func_there m f e = by (slice_get m.funcs f) refl e
  where
    by : (o : Option Func) → slice_get m.funcs f ≡ o → has_blocks o ≡ true → f < length m.funcs
    by (Some func) is e = slice_get_within m.funcs f func is
    by None is e = crash e

some_blocks : (m : Module) (f : ℕ) (func : Func) → slice_get m.funcs f ≡ Some func → is_body m f ≡ true → func.block_count ≡ 0 → ⊥
some_blocks m f func at body none =
    let has : has_blocks (Some func) ≡ true = subst (λ o. has_blocks o ≡ true) at body in
    both_ways (func.block_count == 0) (not-true (func.block_count == 0) has) (eq-eqb func.block_count 0 none)

-- its first block is there
first_block : (m : Module) (f : ℕ) (func : Func) → IsWellFormed m → slice_get m.funcs f ≡ Some func → is_body m f ≡ true →
    (b : Block) × (slice_get m.blocks func.first_block ≡ Some b)
first_block m f func formed at body =
    let some = some_blocks m f func at body in
    let first : IsBlockOf func func.first_block = (omega arith, below func.first_block func.block_count some) in
    let q = (formed.funcs f func at).blocks func.first_block first in
    (q.0, q.1)
  where
    below : (first count : ℕ) → (count ≡ 0 → ⊥) → first < first + count
    below first count some = grind (arith, some)

pub first_block_there : (m : Module) (f : ℕ) (func : Func) → IsWellFormed m → slice_get m.funcs f ≡ Some func → is_body m f ≡ true →
    func.first_block < length m.blocks
first_block_there m f func formed at body =
    let q = first_block m f func formed at body in slice_get_within m.blocks func.first_block q.0 q.1

-- a block begins at a segment that is there
pub block_begins : (m : Module) (i : ℕ) (b : Block) → IsWellFormed m → slice_get m.blocks i ≡ Some b → b.first_seg < length m.segs
block_begins m i b formed at =
    let filled = (formed.blocks i b at).filled in
    let q = (formed.blocks i b at).segs b.first_seg (omega arith, omega (arith, filled)) in
    slice_get_within m.segs b.first_seg q.0 q.1

pub first_seg_there : (m : Module) (f : ℕ) (func : Func) (k : ℕ) → IsWellFormed m → slice_get m.funcs f ≡ Some func → is_body m f ≡ true →
    k ≡ first_seg_of m func.first_block → k < length m.segs
first_seg_there m f func k formed at body is =
    let q = first_block m f func formed at body in
    let same : k ≡ q.0.first_seg = is ∙ ap first_seg_in q.1 in
    let l = block_begins m func.first_block q.0 formed q.1 in
    omega (arith, same, l)

pub entry_is : (m : Module) (f : ℕ) (func : Func) → slice_get m.funcs f ≡ Some func → (entry_of m f).seg.0 ≡ first_seg_of m func.first_block
unfolding entry_of
entry_is m f func at = ap (λ o. first_seg_of m (first_block_in o)) at

-- the function of a block is there
pub home_there : (m : Module) (i : ℕ) (b : Block) → IsWellFormed m → slice_get m.blocks i ≡ Some b → b.func.0 < length m.funcs
home_there m i b formed at = let home = (formed.blocks i b at).home in slice_get_within m.funcs b.func.0 home.0 home.1
