use Rattle.std.proofs.Common.{nat_eq, ap, ◌∙◌, ◌&&◌, take_all}
use Rattle.indexmap.specs.IndexMap.{get}
use Rattle.ir_resolve.specs.Inputs.{is_void_entry, start}
use Rattle.ir_resolve.specs.Voids.{is_written}
use Rattle.ir_resolve.proofs.Naming.{voids_next, all_voids}
use Rattle.ir_resolve.proofs.top.voids_of.Goals as goal

pub loop-entity-preserved : goal.loop-entity-preserved
loop-entity-preserved c = λ name. voids_next c.args.top.now.ids.now c.args.top.now.entities.now c.loop-entity.entity-index c.entity-item.result name
    (is_void_entry c.args.types.now (get nat_eq c.args.top.now.types.now name)) _ _ c.loop-entity-test.true c.entity-item.is
    (c.loop-entity.invariant name) (c.in_ok-enter_void.ensures name)

pub returns : goal.returns
returns c = λ name. c.loop-entity.invariant name
    ∙ ap (λ es. is_written c.args.top.now.ids.now es name && is_void_entry c.args.types.now (get nat_eq c.args.top.now.types.now name))
    (take_all c.loop-entity.entity-index c.args.top.now.entities.now c.loop-entity-test.false)
    ∙ all_voids c.args.top.now.ids.now start c.args.top.now.entities.now c.args.types.now name _ (c.requires name)
