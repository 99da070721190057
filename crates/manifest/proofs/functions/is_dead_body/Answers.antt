use Rattle.std.proofs.Common.{arith, ◌≡◌, sym, ap, ◌∙◌}
use Rattle.std.proofs.lemmas.Option.{slice_get_within}
use Rattle.facts.specs.Facts.{dead, dead_at}
use Rattle.ir_module.specs.Places.{start_of, first_block_in, first_seg_in}
use Rattle.positions.proofs.Standing.{body_within}
use Rattle.manifest.specs.Ready.{set_of}
use Rattle.manifest.proofs.Exact.{entry_is, some_blocks}
use Rattle.manifest.proofs.functions.is_dead_body.Goals as goal

pub func-func-requires : goal.func-func-requires
func-func-requires c = body_within c.args.held.now.m.now c.args.f.0 c.requires.body

pub first_seg-entry-requires : goal.first_seg-entry-requires
first_seg-entry-requires c =
    let m = c.args.held.now.m.now in
    let some = some_blocks m c.args.f.0 c.func-func.result.now c.func-func.ensures c.requires.body in
    let there = (c.requires.ready.formed.funcs c.args.f.0 c.func-func.result.now c.func-func.ensures).blocks c.func-func.result.now.first_block (
      omega arith,
      omega
          (arith, some),
    ) in
    slice_get_within m.blocks c.func-func.result.now.first_block there.0 there.1

pub holds-requires-clause-there : goal.holds-requires-clause-there
holds-requires-clause-there c =
    let m = c.args.held.now.m.now in
    let some = some_blocks m c.args.f.0 c.func-func.result.now c.func-func.ensures c.requires.body in
    let there = (c.requires.ready.formed.funcs c.args.f.0 c.func-func.result.now c.func-func.ensures).blocks c.func-func.result.now.first_block (
      omega arith,
      omega
          (arith, some),
    ) in
    let formed = c.requires.ready.formed.blocks c.func-func.result.now.first_block there.0 there.1 in
    let filled = formed.filled in
    let seg = formed.segs there.0.first_seg (omega arith, omega (arith, filled)) in
    let within = slice_get_within m.segs there.0.first_seg seg.0 seg.1 in
    let is : c.first_seg-entry.result.0 ≡ there.0.first_seg = c.first_seg-entry.ensures ∙ ap first_seg_in there.1 in
    omega (arith, within, is)

pub returns : goal.returns
returns c =
    let m = c.args.held.now.m.now in
    let set = set_of c.args.held.now in
    c.holds.ensures ∙ (ap (λ k. set (dead k)) c.first_seg-entry.ensures ∙
    (ap (λ o. set (dead_at (start_of m (first_block_in o)))) (sym c.func-func.ensures) ∙ ap (λ s. set (dead_at s)) (sym (entry_is m c.args.f.0))))
