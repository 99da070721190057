use Rattle.std.proofs.Common.{get_or}
use Rattle.ir_types.specs.declared.ir_type.IrType.TheVariants.{Void}
use Rattle.ir_type_equality.specs.Content.{content}
use Rattle.ir_type_equality.proofs.Numbering.{AreNumbered}
use Rattle.ir_type_equality.proofs.round.round.Given as goal

abbrev pub invariant-loop-t : goal.invariant-loop-t
invariant-loop-t l = AreNumbered (λ key. key.items) (λ t. content l.old t (get_or l.types t Void)) l.contents.keys l.new.items l.t
