use Rattle.std.proofs.Common.{◌∙◌, nat_eq, sym}
use Rattle.std.specs.HashMap.{get}
use Rattle.std.proofs.lemmas.Option.{slice_get-get_or, slice_get_within}
use Rattle.ir_rules.proofs.Told.{apart}
use Rattle.ir_rules.proofs.Leading.{next_told, led_first, arm_named}
use Rattle.ir_rules.proofs.arms.note_arm.Goals as goal

pub bounds-arms-first : goal.bounds-arms-first
bounds-arms-first c =
    let f = c.requires.led.each _ c.in-Some.first (sym c.first_from.ensures ∙ c.in-Some.is) in slice_get_within c.args.arms.now c.in-Some.first f.0 f.2

pub are_one-requires-clause-named : goal.are_one-requires-clause-named
are_one-requires-clause-named c =
    let f = c.requires.led.each _ c.in-Some.first (sym c.first_from.ensures ∙ c.in-Some.is) in
    arm_named c.args.m.now c.args.arms.now c.in-Some.first _ c.requires.named (slice_get_within c.args.arms.now c.in-Some.first f.0 f.2)

pub are_one-requires-clause-other_named : goal.are_one-requires-clause-other_named
are_one-requires-clause-other_named c = arm_named c.args.m.now c.args.arms.now c.args.i _ c.requires.named c.requires.inside

pub returns-in-Some : goal.returns-in-Some
returns-in-Some c =
    let known = sym c.first_from.ensures ∙ c.in-Some.is in
    let f = c.requires.led.each _ c.in-Some.first known in
    next_told c.args.m.now c.args.numbers.now c.args.arms.now (get nat_eq c.args.firsts.now) c.args.i c.in-Some.first _ _ c.are_one.result
    (slice_get-get_or c.args.arms.now c.args.i _ c.requires.inside) known
    (slice_get-get_or c.args.arms.now c.in-Some.first _ (slice_get_within c.args.arms.now c.in-Some.first f.0 f.2)) c.are_one.ensures c.requires.led

pub returns-in_ok-insert-in-None : goal.returns-in_ok-insert-in-None
returns-in_ok-insert-in-None c =
    let u = c.in_ok-insert-in-None.ensures.updates in
    led_first c.args.m.now c.args.numbers.now c.args.arms.now (get nat_eq c.args.firsts.now) (get nat_eq c.insert.new.self) c.args.i _
    (slice_get-get_or c.args.arms.now c.args.i _ c.requires.inside)
    (sym c.first_from.ensures ∙ c.in-None.is) u.1 (λ x other. u.2 x (apart _ x other)) c.requires.led
