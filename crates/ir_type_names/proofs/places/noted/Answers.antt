use Rattle.std.proofs.Common.{subst}
use Rattle.std.specs.List.{flat_map}
use Rattle.ir_type_names.specs.Tables.{table}
use Rattle.ir_type_names.specs.Places.{AreMarked, marks_at}
use Rattle.ir_type_names.proofs.Numbering.{if_ok}
use Rattle.ir_type_names.proofs.Uses.{places_found}
use Rattle.ir_type_names.proofs.places.noted.Goals as goal

pub returns : goal.returns
returns c =
    let t = table c.args.ids.now in
    let mid = c.mark_definitions.new.places in
    let new = c.mark_uses.new.places in
    if_ok c.offsets.result (λ out is count empty. places_found t c.args.entities.now count c.args.places.now mid new out empty
    c.in_ok-mark_definitions.ensures (subst (λ us. AreMarked mid new (flat_map (marks_at t) us)) c.requires c.in_ok-mark_uses.ensures) is) c.offsets.ensures
