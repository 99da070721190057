use Rattle.std.proofs.Common.{sym, ◌∙◌}
use Rattle.ir_type_names.proofs.Numbering.{if_ok, place_some, place_none}
use Rattle.ir_type_names.proofs.table.TypeIds.place.Goals as goal

pub returns-in-Some : goal.returns-in-Some
returns-in-Some c = if_ok c.number_at.result (λ n is. place_some c.args.self.now.first c.args.self.now.keys.keys c.args.key.now c.in-Some.place n
    (sym c.get_index_of.ensures.index ∙ c.in-Some.is) is) c.number_at.ensures

pub returns-in-None : goal.returns-in-None
returns-in-None c = place_none c.args.self.now.first c.args.self.now.keys.keys c.args.key.now (sym c.get_index_of.ensures.index ∙ c.in-None.is)
