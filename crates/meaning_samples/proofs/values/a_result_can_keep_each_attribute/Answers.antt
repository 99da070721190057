use Rattle.std.proofs.Common.{refl}
use Rattle.ir_types.specs.Layout.{layout}
use Rattle.ir_module.specs.Places.{instr_at, entry_of}
use Rattle.ir_module.specs.Edges.{catches_all}
use Rattle.ir_module.specs.Calls.{is_open, is_taken, is_promised, is_exact}
use Rattle.ir_machine.specs.Memory.{put, has_room}
use Rattle.ir_machine.specs.Steps.{plan}
use Rattle.ir_machine.specs.Runs.{run}
use Rattle.ir_machine.specs.Meanings.{nonnull, align, dereferenceable, Result}
use Rattle.meaning_samples.specs.Sample.{silent, call_of_f, in_a, null, poison, steps, where_all_give}
use Rattle.meaning_samples.proofs.ValueTests.{keeps_call_value}
use Rattle.meaning_samples.proofs.values.a_result_can_keep_each_attribute.Goals as goal

pub returns : goal.returns
unfolding run plan put has_room layout instr_at entry_of catches_all is_open is_taken is_promised is_exact
returns c = record {
  nonnull = keeps_call_value silent nonnull Result call_of_f (steps silent (where_all_give (in_a 0))) refl;
  nonnull_of_poison = keeps_call_value silent nonnull Result call_of_f (steps silent (where_all_give poison)) refl;
  align = keeps_call_value silent (align 8) Result call_of_f (steps silent (where_all_give (in_a 8))) refl;
  align_of_null = keeps_call_value silent (align 8) Result call_of_f (steps silent (where_all_give null)) refl;
  dereferenceable = keeps_call_value silent (dereferenceable 4) Result call_of_f (steps silent (where_all_give (in_a 4))) refl;
}
