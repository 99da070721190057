use Rattle.std.proofs.Common.{◌+◌, ◌-◌, ℕ, arith, refl}
use Rattle.ir_module.specs.declared.module.Func.{Func}
use Rattle.ir_module.specs.declared.module.Block.{Block}
use Rattle.ir_module.proofs.Runs.{last_block, run_within, body_range}
use Rattle.ir_module.proofs.places.segs_of_func.Goals as goal

pub overflow_add-to : goal.overflow_add-to
overflow_add-to c =
    let inside = last_block c.args.m.now c.args.f.0 c.func-func.result.now c.requires.formed c.func-func.ensures c.if-func-eq0.false in
    omega (arith, inside, c.requires.formed.few.blocks)

pub block-first-requires : goal.block-first-requires
block-first-requires c =
    let inside = last_block c.args.m.now c.args.f.0 c.func-func.result.now c.requires.formed c.func-func.ensures c.if-func-eq0.false in
    omega (arith, inside)

pub block-last-requires : goal.block-last-requires
block-last-requires c = last_block c.args.m.now c.args.f.0 c.func-func.result.now c.requires.formed c.func-func.ensures c.if-func-eq0.false

pub overflow_add-result : goal.overflow_add-result
overflow_add-result c =
    let func : Func = c.func-func.result.now in
    let to : ℕ = func.first_block + (func.block_count - 1) in
    omega (arith, run_within c.args.m.now to c.block-last.result.now c.requires.formed c.block-last.ensures, c.requires.formed.few.segs)

pub returns : goal.returns
returns c k =
    let func : Func = c.func-func.result.now in
    let to : ℕ = func.first_block + (func.block_count - 1) in
    let first : Block = c.block-first.result.now in
    let last : Block = c.block-last.result.now in
    body_range c.args.m.now c.args.f.0 func.first_block to k func first last c.requires.formed c.func-func.ensures refl refl c.if-func-eq0.false
    c.block-first.ensures c.block-last.ensures
