use Rattle.std.proofs.Common.{sym, ap, ◌∙◌}
use Rattle.std.specs.Option.{option_copied}
use Rattle.manifest.specs.Argument.{of_handed}
use Rattle.manifest.specs.Ready.{set_of}
use Rattle.manifest.proofs.Reading.{zero_bit}
use Rattle.manifest.proofs.argument.handed_word.Goals as goal

pub returns-in-Some : goal.returns-in-Some
returns-in-Some c = λ bit. c.value_word.ensures bit ∙ ap (λ o. of_handed (set_of c.args.held.now) (option_copied o) bit) (sym c.in-Some.is)

pub returns-in-None : goal.returns-in-None
returns-in-None c = λ bit. zero_bit bit ∙ ap (λ o. of_handed (set_of c.args.held.now) (option_copied o) bit) (sym c.in-None.is)
