use Rattle.std.proofs.Common.{◌≡◌, ◌<◌, List, Some, Ok, refl, sym, ap, subst, ◌∙◌, length}
use Rattle.std.proofs.lemmas.Result.{err_from_is_err_and}
use Rattle.std.proofs.lemmas.Option.{get_or_from_slice_get}
use Rattle.std.specs.Prelude.{slice_get, slice_index}
use Rattle.ir_types.specs.declared.ir_type.IrType.{IrType}
use Rattle.ir_types.specs.declared.ir_type.IrType.TheVariants.{Struct}
use Rattle.attr_ids.specs.declared.ids.TypeId.{TypeId}
use Rattle.ir_types.specs.declared.standing.Standing.{Standing}
use Rattle.ir_types.specs.IrType.{HasField}
use Rattle.ir_types.specs.Layout.{layout}
use Rattle.ir_types.specs.Standing.{AreSound, IsBlocked}
use Rattle.ir_types.specs.TypeTable.{IsJudged, field_start}
use Rattle.ir_types.proofs.Queries.{err_is, judged_some}
use Rattle.ir_types.proofs.Starts.{asked, field_is, not_blocked}
use Rattle.ir_types.proofs.table.TypeTable.field_offset.Goals as goal

pub returns-in_err-_extent : goal.returns-in_err-_extent
returns-in_err-_extent c =
    let p = err_from_is_err_and c.from_residual.result c.from_residual.ensures.1 in
    rw (p.1, p.2) (err_is (layout c.args.self.now 64 c.args.t.0) c.in_err-_extent.field-0.0 (λ l. slice_index l.starts c.args.i) c.in_err-_extent.ensures)

pub unreachable-requires-in-None : goal.unreachable-requires-in-None
unreachable-requires-in-None c =
    let types = c.self.inside.types.items in
    let t = c.args.t.0 in
    let judged = subst (λ (ts : List IrType). IsJudged (layout ts 64 t) (Ok c.in_ok-_extent._extent)) (sym c.self.view_is) c.in_ok-_extent.ensures in
    let l = judged_some (layout types 64 t) c.in_ok-_extent._extent judged in
    let of = asked c.args.self.now t (λ ty. HasField ty c.args.i) c.requires in
    let there = subst (λ (ts : List IrType). slice_get ts t ≡ Some of.0) (sym c.self.view_is) of.1 in
    let same : of.0 ≡ Struct c.in-Struct.fields c.in-Struct.packed = sym
    (get_or_from_slice_get types t of.0 c.index.result.now there) ∙ sym c.index.ensures ∙ c.in-Struct.is in
    let at = there ∙ ap Some same in
    let blocked = subst (λ (ss : List Standing). IsBlocked ss (Struct c.in-Struct.fields c.in-Struct.packed)) c.deref.ensures.value
    (subst (λ (fs : List TypeId). IsBlocked c.deref.result.now (Struct fs c.in-Struct.packed)) c.as_slice.ensures (c.in-None.ensures.none refl)) in
    not_blocked types c.self.inside.standings.items t (Struct c.in-Struct.fields c.in-Struct.packed) l.0 c.self.invariant.sound c.self.invariant.settled at
    l.1 blocked

pub returns : goal.returns
returns c =
    let types = c.self.inside.types.items in
    let t = c.args.t.0 in
    let judged = subst (λ (ts : List IrType). IsJudged (layout ts 64 t) (Ok c.in_ok-_extent._extent)) (sym c.self.view_is) c.in_ok-_extent.ensures in
    let of = asked c.args.self.now t (λ ty. HasField ty c.args.i) c.requires in
    let there = subst (λ (ts : List IrType). slice_get ts t ≡ Some of.0) (sym c.self.view_is) of.1 in
    let same : of.0 ≡ Struct c.in-Struct.fields c.in-Struct.packed = sym
    (get_or_from_slice_get types t of.0 c.index.result.now there) ∙ sym c.index.ensures ∙ c.in-Struct.is in
    let back = sym c.as_slice.ensures in
    let all : of.0 ≡ Struct c.as_slice.result.now c.in-Struct.packed = same ∙ ap (λ (fs : List TypeId). Struct fs c.in-Struct.packed) back in
    let inside : c.args.i < length c.as_slice.result.now = subst (λ (ty : IrType). HasField ty c.args.i) all of.2 in
    let sound = subst (AreSound types) (sym c.deref.ensures.value) c.self.invariant.sound in
    let answer = field_is types c.deref.result.now t c.args.i c.in-Some.start c.as_slice.result.now c.in-Struct.packed c.in_ok-_extent._extent sound
    (there ∙ ap Some all) inside judged c.in-Some.ensures.some in
    subst (λ (ts : List IrType). Ok c.in-Some.start ≡ field_start ts t c.args.i) c.self.view_is answer
