use Rattle.std.proofs.Common.{◌≡◌, length, refl, ap, ◌∙◌, arith}
use Rattle.attr_ids.specs.declared.ids.BlockId.{BlockId}
use Rattle.ir_segments.specs.Segments.{cut, ends}
use Rattle.ir_bodies.specs.declared.builder.Builder.{Builder}
use Rattle.ir_bodies.specs.Context.{context}
use Rattle.ir_bodies.specs.Bodies.{part, part_instrs, part_uses, part_values, block_id, block_name}
use Rattle.ir_bodies.proofs.Filling.{finished, segs_counted, block_is, put}
use Rattle.ir_bodies.proofs.builder.Builder.block.Goals as goal

pub returns : goal.returns
returns c =
    let x = context c.args.scene.now in
    let old = c.args.self.now in
    let p = part c.args.label c.args.lines.now c.args.last.now in
    let ins = part_instrs x old.values old.notes.parts.items c.args.next p in
    let mid = c.fill.new.self in
    let new : Builder = record {
      cutter = record { segs = c.finish.new.self.segs; run = c.finish.new.self.run };
      blocks = c.push.new.self;
      values = mid.values;
      notes = mid.notes;
    } in
    let b : BlockId = record { 0 = c.in_ok-count.count } in
    let count : c.in_ok-count.count ≡ length old.blocks.items = omega (arith, c.in_ok-count.ensures, c.len.ensures, old.blocks.ok.0) in
    let first : c.in_ok-first_seg.first_seg ≡ length old.cutter.segs.items =
    omega (arith, c.in_ok-first_seg.ensures, c.len-2.ensures, old.cutter.segs.ok.0) in
    let end : c.in_ok-end.end ≡ length c.finish.new.self.segs.items =
    omega (arith, c.in_ok-end.ensures, c.len-3.ensures, c.finish.new.self.segs.ok.0) in
    let segs = finished x b ins (part_uses x p) (part_values x old.values p) old mid c.finish.new.self.segs.items c.requires.run c.in_ok-fill.ensures
    c.in_ok-finish.ensures.segs in
    put x c.args.owner.func c.args.owner.counter c.args.next p b _ old mid new
    (ap block_id count) c.requires.run c.in_ok-fill.ensures c.in_ok-finish.ensures.segs c.in_ok-finish.ensures.run
    (block_is c.args.owner.func _ (block_name x c.args.owner.counter c.args.label) c.in_ok-first_seg.first_seg (length old.cutter.segs.items) _
    (length (cut ends ins)) c.in_ok-name.ensures first
    (c.saturating_sub.ensures ∙ segs_counted b ins old.cutter.segs.items c.finish.new.self.segs.items c.in_ok-first_seg.first_seg c.in_ok-end.end segs
    first end))
    c.in_ok-push.ensures.items refl refl
