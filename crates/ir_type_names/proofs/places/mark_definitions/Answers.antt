use Rattle.std.proofs.Common.{◌+◌, ◌++◌, take, subst, arith}
use Rattle.ir_type_names.specs.Numbers.{named_count}
use Rattle.ir_type_names.specs.Places.{AreMarked, definition_in, definitions}
use Rattle.ir_type_names.specs.Reading.{reading}
use Rattle.ir_type_names.proofs.Counted.{counted_more, definitions_more}
use Rattle.ir_type_names.proofs.Marking.{both_marked, marked_as}
use Rattle.ir_type_names.proofs.places.mark_definitions.Goals as goal

pub loop-entity-preserved : goal.loop-entity-preserved
loop-entity-preserved c =
    let r = reading c.args.source.now in
    let es = c.args.entities.now in
    let i = c.loop-entity.entity-index in
    let e = c.entity-item.result in
    let before = definitions r 2 (take i es) in
    let count = 2 + named_count (take i es) in
    let one = counted_more es i e c.loop-entity-test.true c.entity-item.is in (
      marked_as c.args.places.now c.mark_definition.new.places (before ++ definition_in r count e) (definitions r 2 (take (i + 1) es))
          (definitions_more r 2 es i e c.loop-entity-test.true c.entity-item.is)
          (both_marked c.args.places.now c.loop-entity.places c.mark_definition.new.places before (definition_in r count e) c.loop-entity.invariant.0
          (subst (λ k. AreMarked c.loop-entity.places c.mark_definition.new.places (definition_in r k e)) c.loop-entity.invariant.1 c.mark_definition.ensures)),
      omega (arith, one, c.in_ok-n.ensures, c.is_definition.ensures, c.loop-entity.invariant.1),
    )
