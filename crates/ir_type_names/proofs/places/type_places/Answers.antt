use Rattle.std.proofs.Common.{◌∙◌}
use Rattle.ir_type_names.proofs.Numbering.{if_ok}
use Rattle.ir_type_names.proofs.places.type_places.Goals as goal

pub returns : goal.returns
returns c = if_ok c.noted.result (λ out is. is c.args.count (c.deref_mut.ensures.value ∙ c.in_ok-places.ensures)) c.noted.ensures
