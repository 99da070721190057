use Rattle.std.proofs.Common.{◌∙◌, nat_eq}
use Rattle.indexmap.specs.IndexMap.{get}
use Rattle.ir_resolve.proofs.Whole.{top_done, resolved, few_things, unknown, twice, layout}
use Rattle.ir_resolve.proofs.call.resolve.Goals as goal

pub returns : goal.returns
returns c =
    let b = c.args.text.now in
    let toks = c.args.toks.now in
    let tree = c.args.tree.now in
    let result = c.typed.result in
    let told = top_done b toks tree c.as_slice-entities.result.now c.as_slice-ids.result.now (get nat_eq c.in_ok-types.types.names)
    (get nat_eq c.in_ok-symbols.symbols.names) c.in_ok-types.types.found c.in_ok-groups.groups.found c.in_ok-symbols.symbols.found result
    c.as_slice-entities.ensures (c.as_slice-ids.ensures ∙ c.in_ok-ids.ensures) c.in_ok-types.ensures.names c.in_ok-symbols.ensures.names
    c.in_ok-types.ensures.found c.in_ok-groups.ensures.found c.in_ok-symbols.ensures.found c.typed.ensures in
    record {
      resolved = resolved b toks tree result told;
      few_things = few_things b toks tree result told;
      unknown = unknown b toks tree result told;
      twice = twice b toks tree result told;
      layout = layout b toks tree result told;
    }
