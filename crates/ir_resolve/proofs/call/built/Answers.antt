use Rattle.std.proofs.Common.{ap, subst, ◌∙◌, nat_eq}
use Rattle.std.specs.HashSet.{contains}
use Rattle.indexmap.specs.IndexMap.{get}
use Rattle.ir_type_names.specs.Tables as tables
use Rattle.ir_resolve.specs.Answers.{names_at}
use Rattle.ir_resolve.specs.Building.{AddsAll}
use Rattle.ir_resolve.specs.Inputs.{setting_in, is_void_entry}
use Rattle.ir_resolve.proofs.Whole.{setting_is, types_there, built_all}
use Rattle.ir_resolve.proofs.call.built.Goals as goal

pub entities-requires-clause-sound : goal.entities-requires-clause-sound
entities-requires-clause-sound c = record {
  tokens = c.requires.top.tokens;
  there = types_there (names_at c.args.top.now) c.requires.top.types (tables.table c.args.kinds.now) c.args.types.now c.requires.kinds c.requires.types;
  groups = c.in_ok-groups.ensures;
}

pub returns : goal.returns
returns c =
    let n = names_at c.args.top.now in
    let es = c.args.top.now.entities.now in
    let same = setting_is n c.args.numbers.now (tables.table c.args.kinds.now) c.args.types.now (contains nat_eq c.in_ok-voids.voids) c.requires.kinds
    c.requires.types (λ name. c.in_ok-voids.ensures name ∙ ap (λ ts. is_void_entry ts (get nat_eq c.args.top.now.types.now name)) c.as_slice.ensures) in
    let empty = c.new-built.ensures in
    built_all (setting_in n c.args.numbers.now) es c.args.found c.new-built.result c.entities.new.self
    (subst (λ x. AddsAll x es c.new-built.result c.entities.new.self) same c.in_ok-entities.ensures) empty.before empty.globals empty.funcs empty.blocks
    empty.segs empty.values empty.found
