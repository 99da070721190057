use Rattle.std.proofs.Common.{◌≡◌, length, ap, ◌∙◌}
use Rattle.rule_terms.specs.System.{System, inputs_of, value_at}
use Rattle.fix_core.specs.declared.state.CoreMode.{CoreMode}
use Rattle.fix_core.specs.Machine.{values_of}
use Rattle.word_rule.specs.Views.{opened, looked_in}
use Rattle.word_rule.proofs.Rooms.{place_open, inside_of, system_is, width_is}
use Rattle.word_rule.proofs.words.LatticeWords.value.Goals as goal

pub eval-requires-clause-place : goal.eval-requires-clause-place
eval-requires-clause-place c =
    let words = c.args.self.now in
    let seat = c.args.seat.now in
    inside_of words.table.shared.key seat.seat.me.0.about words.system.now c.in-Some.p.0 c.requires.of.1 words.about_system
    (seat.places c.in-Some.p c.in-Some.is)

pub eval-requires-clause-looked : goal.eval-requires-clause-looked
eval-requires-clause-looked c =
    let words = c.args.self.now in
    let seat = c.args.seat.now in
    ap length c.as_slice.ensures.value ∙ seat.width c.in-Some.p c.in-Some.is ∙ width_is seat.seat.me.0.about c.in-Some.p ∙
    ap (λ (s : System). length (inputs_of s c.in-Some.p.0)) (system_is words.table.shared.key seat.seat.me.0.about words.system.now c.requires.of.1
    words.about_system)

pub returns : goal.returns
returns c =
    let words = c.args.self.now in
    let seat = c.args.seat.now in
    let mode : CoreMode = seat.seat.me.0.core.mode in
    let at : c.in-Some.p ≡ opened mode = place_open mode seat.place c.in-Some.p c.in-Some.is seat.opens c.requires.open in
    let values : c.as_slice.result.now ≡ values_of (looked_in mode) = c.as_slice.ensures.value ∙ seat.looks in
    c.eval.ensures ∙ (λ j. value_at words.system.now (at j).0 (values j))
