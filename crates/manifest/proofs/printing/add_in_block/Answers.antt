use Rattle.std.proofs.Common.{arith, ◌≡◌, ◌+◌, ◌++◌, ℕ, map, slice_get, sym, ap, subst}
use Rattle.std.proofs.lemmas.Option.{slice_get_within}
use Rattle.manifest.specs.Added.{inserted, joined}
use Rattle.manifest.specs.Additions.{seg_additions, block_additions}
use Rattle.manifest.specs.Ready.{set_of}
use Rattle.manifest.proofs.Joining.{begun, grown, same_added}
use Rattle.manifest.proofs.printing.add_in_block.Goals as goal

pub loop-k-init : goal.loop-k-init
loop-k-init c =
    begun (λ i. seg_additions c.args.held.now.m.now (set_of c.args.held.now) (c.block-b.result.now.first_seg + i)
    (slice_get c.args.held.now.m.now.segs (c.block-b.result.now.first_seg + i))) c.args.out.now.items

pub overflow_add-b : goal.overflow_add-b
overflow_add-b c =
    let b = c.block-b.result.now in
    let there = (c.requires.ready.formed.blocks c.args.i.0 b c.block-b.ensures).segs (b.first_seg + c.loop-k.k) (
      omega arith,
      omega
          (arith, c.loop-k-test.true),
    ) in
    let within = slice_get_within c.args.held.now.m.now.segs (b.first_seg + c.loop-k.k) there.0 there.1 in
    omega (arith, within, c.requires.ready.formed.few.segs)

pub add_in_seg-requires-clause-there : goal.add_in_seg-requires-clause-there
add_in_seg-requires-clause-there c =
    let b = c.block-b.result.now in
    let there = (c.requires.ready.formed.blocks c.args.i.0 b c.block-b.ensures).segs (b.first_seg + c.loop-k.k) (
      omega arith,
      omega
          (arith, c.loop-k-test.true),
    ) in
    slice_get_within c.args.held.now.m.now.segs (b.first_seg + c.loop-k.k) there.0 there.1

pub loop-k-preserved : goal.loop-k-preserved
loop-k-preserved c =
    grown (λ i. seg_additions c.args.held.now.m.now (set_of c.args.held.now) (c.block-b.result.now.first_seg + i)
    (slice_get c.args.held.now.m.now.segs (c.block-b.result.now.first_seg + i)))
    c.args.out.now.items c.loop-k.out.items c.add_in_seg.new.out.items c.loop-k.k c.loop-k.invariant c.in_ok-add_in_seg.ensures

pub returns : goal.returns
returns c =
    let m = c.args.held.now.m.now in
    let set = set_of c.args.held.now in
    let b = c.block-b.result.now in
    let end : c.loop-k.k ≡ b.seg_count = omega (arith, c.loop-k-test.false, c.loop-k.auto.k-end) in
    same_added c.args.out.now.items c.loop-k.out.items _ _
    (subst (λ (n : ℕ). c.loop-k.out.items ≡ c.args.out.now.items ++ map inserted (joined (λ i. seg_additions m set (b.first_seg + i) (slice_get m.segs
    (b.first_seg + i))) n)) end
    c.loop-k.invariant)
    (ap (block_additions m set) (sym c.block-b.ensures))
