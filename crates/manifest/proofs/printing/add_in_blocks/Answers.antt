use Rattle.std.proofs.Common.{arith, ◌≡◌, ◌+◌, ◌++◌, ℕ, map, slice_get, subst}
use Rattle.std.proofs.lemmas.Option.{slice_get_within}
use Rattle.manifest.specs.Added.{inserted, joined}
use Rattle.manifest.specs.Additions.{block_additions}
use Rattle.manifest.specs.Ready.{set_of}
use Rattle.manifest.proofs.Joining.{begun, grown}
use Rattle.manifest.proofs.printing.add_in_blocks.Goals as goal

pub loop-i-init : goal.loop-i-init
loop-i-init c =
    begun (λ i. block_additions c.args.held.now.m.now (set_of c.args.held.now) (slice_get c.args.held.now.m.now.blocks (c.args.func.now.first_block + i)))
    c.args.out.now.items

pub overflow_add-func : goal.overflow_add-func
overflow_add-func c =
    let func = c.args.func.now in
    let there = (c.requires.ready.formed.funcs c.args.f.0 func c.requires.there).blocks (func.first_block + c.loop-i.i) (
      omega arith,
      omega
          (arith, c.loop-i-test.true),
    ) in
    let within = slice_get_within c.args.held.now.m.now.blocks (func.first_block + c.loop-i.i) there.0 there.1 in
    omega (arith, within, c.requires.ready.formed.few.blocks)

pub add_in_block-requires-clause-there : goal.add_in_block-requires-clause-there
add_in_block-requires-clause-there c =
    let func = c.args.func.now in
    let there = (c.requires.ready.formed.funcs c.args.f.0 func c.requires.there).blocks (func.first_block + c.loop-i.i) (
      omega arith,
      omega
          (arith, c.loop-i-test.true),
    ) in
    slice_get_within c.args.held.now.m.now.blocks (func.first_block + c.loop-i.i) there.0 there.1

pub loop-i-preserved : goal.loop-i-preserved
loop-i-preserved c =
    grown (λ i. block_additions c.args.held.now.m.now (set_of c.args.held.now) (slice_get c.args.held.now.m.now.blocks (c.args.func.now.first_block + i)))
    c.args.out.now.items c.loop-i.out.items c.add_in_block.new.out.items c.loop-i.i c.loop-i.invariant c.in_ok-add_in_block.ensures

pub returns : goal.returns
returns c =
    let m = c.args.held.now.m.now in
    let set = set_of c.args.held.now in
    let func = c.args.func.now in
    let end : c.loop-i.i ≡ func.block_count = omega (arith, c.loop-i-test.false, c.loop-i.auto.i-end) in
    subst (λ (n : ℕ). c.loop-i.out.items ≡ c.args.out.now.items ++ map inserted (joined (λ i. block_additions m set (slice_get m.blocks
    (func.first_block + i))) n)) end
    c.loop-i.invariant
