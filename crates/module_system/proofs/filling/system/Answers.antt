use Rattle.std.proofs.Common.{arith, ◌<◌, ◌^◌, All, length, sym, ap, subst}
use Rattle.lattice_words.specs.declared.word.TheConstants.{FACT_BITS}
use Rattle.module_system.proofs.Answered.{small_masks, long_masks, answered, inputs_named, inputs_counted}
use Rattle.module_system.proofs.Composed.{composed}
use Rattle.module_system.specs.Filled.{IsSystemOf}
use Rattle.module_system.proofs.filling.system.Goals as goal
use Rattle.module_system.proofs.filling.system.Goals.{After-count-count}

pub masks-requires : goal.masks-requires
masks-requires c = long_masks c.args.m.now c.args.p.now c.requires.numbering

pub new-requires-clause-fits : goal.new-requires-clause-fits
new-requires-clause-fits c =
    let long = ap length c.in_ok-masks.ensures in
    let all = long_masks c.args.m.now c.args.p.now c.requires.numbering in
    omega (arith, long, all, c.count-positions.ensures, c.count-positions.type_inv)

pub new-requires-clause-facts : goal.new-requires-clause-facts
new-requires-clause-facts c =
    subst (All (λ mask. mask < 2 ^ FACT_BITS)) (sym c.in_ok-masks.ensures) (small_masks c.args.m.now c.args.p.now c.requires.numbering)

the_system : (c : After-count-count) → IsSystemOf c.args.m.now c.args.p.now c.terms-2.new.s
the_system c =
    answered c.args.m.now c.args.p.now c.requires.numbering c.in_ok-masks.field-0 c.in_ok-s.s c.terms.new.s c.terms-2.new.s c.count-count.ensures.system
    c.in_ok-masks.ensures c.in_ok-s.ensures c.in_ok-terms.ensures c.in_ok-terms-2.ensures

pub returns-clause-system : goal.returns-clause-system
returns-clause-system c = the_system c

pub returns-clause-composed : goal.returns-clause-composed
returns-clause-composed c = composed c.args.m.now c.args.p.now c.requires.numbering c.terms-2.new.s (the_system c)

pub returns-clause-inputs : goal.returns-clause-inputs
returns-clause-inputs c = inputs_named c.args.m.now c.args.p.now c.requires.numbering c.terms-2.new.s (the_system c)

pub returns-clause-count : goal.returns-clause-count
returns-clause-count c = inputs_counted c.args.m.now c.args.p.now c.requires.numbering c.terms-2.new.s (the_system c)
