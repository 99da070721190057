use Rattle.std.proofs.Common.{refl}
use Rattle.ir_types.specs.Layout.{layout}
use Rattle.ir_module.specs.Places.{instr_at, entry_of}
use Rattle.ir_module.specs.Edges.{catches_all}
use Rattle.ir_module.specs.Calls.{is_open, is_taken, is_promised, is_exact}
use Rattle.ir_machine.specs.Memory.{put, has_room}
use Rattle.ir_machine.specs.Steps.{plan}
use Rattle.ir_machine.specs.Runs.{run}
use Rattle.ir_machine.specs.Meanings.{nonnull, align, dereferenceable, Parameter}
use Rattle.meaning_samples.specs.Sample.{silent, func_f, in_a, null, undef, steps, where_all_get}
use Rattle.meaning_samples.proofs.ValueTests.{breaks_body_value}
use Rattle.meaning_samples.proofs.values.a_parameter_can_break_each_attribute.Goals as goal

pub returns : goal.returns
unfolding run plan put has_room layout instr_at entry_of catches_all is_open is_taken is_promised is_exact
returns c = record {
  nonnull_of_null = breaks_body_value silent nonnull (Parameter 0) func_f (steps silent (where_all_get null)) refl;
  nonnull_of_undef = breaks_body_value silent nonnull (Parameter 0) func_f (steps silent (where_all_get undef)) refl;
  align = breaks_body_value silent (align 8) (Parameter 0) func_f (steps silent (where_all_get (in_a 4))) refl;
  align_of_undef = breaks_body_value silent (align 8) (Parameter 0) func_f (steps silent (where_all_get undef)) refl;
  dereferenceable = breaks_body_value silent (dereferenceable 8) (Parameter 0) func_f (steps silent (where_all_get (in_a 4))) refl;
  dereferenceable_of_null = breaks_body_value silent (dereferenceable 8) (Parameter 0) func_f (steps silent (where_all_get null)) refl;
}
