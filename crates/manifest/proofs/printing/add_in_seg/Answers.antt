use Rattle.std.proofs.Common.{◌++◌, List, length, map, slice_get, sym, ap, ◌∙◌}
use Rattle.ir_module.specs.declared.op.Instr.{Instr}
use Rattle.ir_module.specs.Places.{spot}
use Rattle.facts.specs.Facts.{dead}
use Rattle.manifest.specs.Added.{inserted, joined}
use Rattle.manifest.specs.Additions.{instr_additions, seg_additions}
use Rattle.manifest.specs.Ready.{set_of}
use Rattle.manifest.proofs.Joining.{left_out, left_in, same_added}
use Rattle.manifest.proofs.printing.add_in_seg.Goals as goal

pub returns-then-holds : goal.returns-then-holds
returns-then-holds c =
    same_added c.args.out.now.items c.args.out.now.items _ _ (left_out c.args.out.now.items _ _ (sym c.holds.ensures ∙ c.if-holds.true))
    (ap (seg_additions c.args.held.now.m.now (set_of c.args.held.now) c.args.k.0) (sym c.seg-seg.ensures))

pub returns : goal.returns
returns c =
    let m = c.args.held.now.m.now in
    let set = set_of c.args.held.now in
    let k = c.args.k.0 in
    let out = c.args.out.now.items in
    let instrs = c.seg-seg.result.now.instrs in
    let all = joined (λ at. instr_additions m set (spot k at) (slice_get instrs at)) (length instrs) in
    same_added out c.add_at_instrs.new.out.items _ _
    (left_in out c.add_at_instrs.new.out.items (set (dead k)) all (sym c.holds.ensures ∙ c.if-holds.false)
    (c.in_ok-add_at_instrs.ensures k ∙ ap (λ (xs : List Instr). out ++ map inserted (joined (λ at. instr_additions m set (spot k at) (slice_get xs at))
    (length xs))) c.as_slice.ensures))
    (ap (seg_additions m set k) (sym c.seg-seg.ensures))
