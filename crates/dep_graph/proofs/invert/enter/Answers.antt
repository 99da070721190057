use Rattle.std.proofs.Common.{◌≡◌, ◌<◌, ◌∙◌, ap, sym, arith, get_or, length, set, add-zero, refl}
use Rattle.std.proofs.lemmas.List.Elements.{All-get_or}
use Rattle.attr_ids.specs.declared.ids.PosId.{PosId}
use Rattle.row_lists.specs.EdgeRow.{with_edge, row_at as edges_at}
use Rattle.rule_terms.specs.System.{inputs_of}
use Rattle.rule_terms.specs.Reads.{reads_by}
use Rattle.dep_graph.specs.Graph.{row_at, edge_count}
use Rattle.dep_graph.specs.Row.{shown}
use Rattle.dep_graph.proofs.Naming.{inputs_within, inputs_few}
use Rattle.dep_graph.proofs.Entering.{entered_none, entered_after}
use Rattle.dep_graph.proofs.invert.enter.Goals as goal

pub loop-i-init : goal.loop-i-init
loop-i-init c = record {
  long = refl;
  entered = λ q l. sym (entered_none (inputs_of c.args.s.now c.args.d.0) (reads_by c.args.s.now c.args.d.0) c.args.d (row_at (shown c.args.rows.now) q) q);
  count = sym (add-zero (edge_count (shown c.args.rows.now)));
}

pub push-requires : goal.push-requires
push-requires c =
    let s = c.args.s.now in
    let d = c.args.d in
    let i = c.loop-i.i in
    let inputs : c.inputs-q-items.result.now ≡ inputs_of s d.0 = c.inputs-q-items.ensures in
    let z : PosId = record { 0 = 0 } in
    let is = ap (λ ps. (get_or ps i z).0) inputs in
    let on_list : i < length (inputs_of s d.0) = omega (arith, ap length inputs, c.loop-i-test.true) in
    omega (
      arith,
      is,
      All-get_or (λ (p : PosId). p.0 < length s.masks) (inputs_of s d.0) i z on_list (inputs_within s c.requires.system d.0),
      c.requires.long,
      c.loop-i.invariant.long,
    )

pub overflow_cast-i : goal.overflow_cast-i
overflow_cast-i c =
    let s = c.args.s.now in
    let len = ap length c.inputs-q-items.ensures in
    omega (arith, len, inputs_few s c.requires.system c.args.d.0, c.requires.system.fits)

pub loop-i-preserved : goal.loop-i-preserved
loop-i-preserved c =
    let s = c.args.s.now in
    let d = c.args.d in
    let i = c.loop-i.i in
    let inputs : c.inputs-q-items.result.now ≡ inputs_of s d.0 = c.inputs-q-items.ensures in
    let z : PosId = record { 0 = 0 } in
    let at = (get_or c.inputs-q-items.result.now i z).0 in
    let on_list : i < length (inputs_of s d.0) = omega (arith, ap length inputs, c.loop-i-test.true) in
    let is : at ≡ (get_or (inputs_of s d.0) i z).0 = ap (λ ps. (get_or ps i z).0) inputs in
    let within : at < length c.loop-i.rows =
    omega (
      arith,
      is,
      All-get_or (λ (p : PosId). p.0 < length s.masks) (inputs_of s d.0) i z on_list (inputs_within s c.requires.system d.0),
      c.requires.long,
      c.loop-i.invariant.long,
    ) in
    let bits : c.reads.result ≡ reads_by s d.0 at = c.reads.ensures ∙ ap (reads_by s d.0) (sym is) in
    let next = c.in_ok-push.ensures.ok ∙ ap (λ b. set c.loop-i.rows at (with_edge (edges_at c.loop-i.rows at) d b)) bits in
    let after = entered_after (inputs_of s d.0) (reads_by s d.0) d c.args.rows.now c.loop-i.rows c.push.new.self i at z on_list is within next
    c.loop-i.invariant.entered in
    record {
      long = after.0 ∙ c.loop-i.invariant.long;
      entered = after.1;
      count = omega (arith, after.2, c.loop-i.invariant.count);
    }
