use Rattle.std.proofs.Common.{sym, ap, ◌∙◌}
use Rattle.std.specs.Option.{option_copied}
use Rattle.ir_names.proofs.Known.{placed_there, placed_new}
use Rattle.ir_names.proofs.ids.place_of.Goals as goal

pub returns-in-Some : goal.returns-in-Some
returns-in-Some c = λ before knows here. placed_there c.args.places.now c.args.bytes.items before c.in-Some.place.now knows
    (sym (knows c.args.bytes) ∙ sym c.get.ensures.value ∙ ap option_copied c.in-Some.is)

pub returns : goal.returns
returns c = λ before knows here. placed_new c.args.places.now c.insert.new.self c.args.bytes before c.args.at knows
    (sym (knows c.args.bytes) ∙ sym c.get.ensures.value ∙ ap option_copied c.in_default.is) here c.in_ok-insert.ensures.updates.0
