use Rattle.std.proofs.Common.{arith, ◌≡◌, ◌<◌, [], ◌∷◌, ◌++◌, List, Bool, take, map, length, get_or, sym, ap, subst, ◌∙◌}
use Rattle.std.proofs.lemmas.List.{take_all, map_more}
use Rattle.std.specs.List.{list_any}
use Rattle.ir_module.specs.declared.op.Instr.{Instr}
use Rattle.ir_module.specs.declared.module.Seg.{Seg}
use Rattle.ir_module.specs.Edges.{is_catch_all}
use Rattle.aa_control.specs.Asked.{has_pad}
use Rattle.aa_control.proofs.pads.pads.Goals as goal

pub loop-seg-preserved : goal.loop-seg-preserved
loop-seg-preserved c =
    let within : c.loop-seg.seg-index < length c.args.m.now.segs = omega (arith, c.loop-seg-test.true, ap length c.as_slice-seg-items.ensures) in
    let read : c.seg-item.result ≡ get_or c.args.m.now.segs c.loop-seg.seg-index c.seg-item.result =
    subst (λ (xs : List Seg). c.seg-item.result ≡ get_or xs c.loop-seg.seg-index c.seg-item.result) c.as_slice-seg-items.ensures c.seg-item.is in
    let here : c.has_pad.result ≡ has_pad (get_or c.args.m.now.segs c.loop-seg.seg-index c.seg-item.result) =
    c.has_pad.ensures ∙ (ap (λ (is : List Instr). list_any (λ (i : Instr). is_catch_all i.op) is) c.as_slice.ensures ∙ ap has_pad read) in
    c.in_ok-push.ensures.items ∙ (ap (λ (bs : List Bool). bs ++ c.has_pad.result ∷ []) c.loop-seg.invariant
    ∙ (ap (λ b. map has_pad (take c.loop-seg.seg-index c.args.m.now.segs) ++ b ∷ []) here
    ∙ sym (map_more has_pad c.args.m.now.segs c.loop-seg.seg-index c.seg-item.result within)))

pub returns : goal.returns
returns c =
    c.loop-seg.invariant ∙ ap (map has_pad) (take_all c.loop-seg.seg-index c.args.m.now.segs (omega (
      arith,
      c.loop-seg-test.false,
      ap length c.as_slice-seg-items.ensures,
    )))
