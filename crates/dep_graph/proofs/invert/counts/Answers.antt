use Rattle.std.proofs.Common.{◌≡◌, ◌<◌, arith, sym, length, All}
use Rattle.std.proofs.lemmas.List.Elements.{All-same, All-weaker}
use Rattle.attr_ids.specs.declared.ids.PosId.{PosId}
use Rattle.rule_terms.specs.System.{inputs_of}
use Rattle.dep_graph.proofs.Naming.{inputs_within}
use Rattle.dep_graph.proofs.invert.counts.Goals as goal

pub count_each-requires : goal.count_each-requires
count_each-requires c =
    let s = c.args.s.now in
    let ps = c.inputs.result.now in
    let inputs : inputs_of s c.loop-p.p ≡ ps = sym c.inputs.ensures in
    let within : All (λ (q : PosId). q.0 < length s.masks) ps =
    All-same (λ (q : PosId). q.0 < length s.masks) ps (inputs_of s c.loop-p.p) (sym inputs) (inputs_within s c.count-p-end.ensures.system c.loop-p.p) in
    All-weaker (λ (q : PosId). q.0 < length s.masks) (λ (q : PosId). q.0 < length c.deref_mut.result.now) (λ q l. omega arith) ps within
