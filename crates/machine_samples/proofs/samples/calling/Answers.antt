use Rattle.std.proofs.Common.{refl}
use Rattle.ir_types.specs.Layout.{layout}
use Rattle.ir_ops.specs.BinOp.{outcome}
use Rattle.ir_ops.specs.CastOp.{converted}
use Rattle.ir_ops.specs.Pred.{comparison}
use Rattle.ir_module.specs.Places.{instr_at, entry_of}
use Rattle.ir_module.specs.Edges.{catches_all}
use Rattle.ir_module.specs.Calls.{is_open, is_taken, is_promised, is_exact}
use Rattle.ir_machine.specs.Memory.{put, has_room}
use Rattle.ir_machine.specs.Steps.{plan}
use Rattle.machine_samples.specs.Build.{follow}
use Rattle.machine_samples.proofs.samples.calling.Goals as goal

pub returns : goal.returns
unfolding follow plan put has_room layout outcome converted comparison instr_at entry_of catches_all is_open is_taken is_promised is_exact
returns c = record {
  an_inner_call_pushes_a_module_frame = refl;
  an_outer_call_pushes_an_outside_frame = refl;
  an_indirect_call_of_a_body_is_outer = refl;
  an_indirect_call_through_no_function_is_outer = refl;
  enter_marks_each_pointer_by_its_place = refl;
  entry_nonnull = refl;
  entry_align = refl;
  entry_dereferenceable_of_null_is_undefined = refl;
  returned_nonnull_null_becomes_poison = refl;
  returned_dereferenceable_null_is_undefined = refl;
  outside_returns_what_it_has_in_hand = refl;
  results_of_entered_bodies_are_in_hand = refl;
  allocas_die_when_their_frame_returns = refl;
  an_invoke_goes_on_at_the_normal_block = refl;
  an_unwind_goes_on_at_the_unwind_block = refl;
  unwind_through_an_invoke_with_catch_of_a_type_by_pick = refl;
  unwinds_take_picks_from_the_top_frame_down = refl;
  an_unwind_stops_at_an_outside_frame = refl;
  lifetime_end_closes_the_block = refl;
  lifetime_start_opens_the_block_and_makes_its_bytes_undef = refl;
  lifetime_calls_of_other_pointers_do_nothing = refl;
  store_through_a_closed_block_is_undefined = refl;
  an_invoke_of_a_lifetime_name_goes_on_at_the_normal_block = refl;
}
