use Rattle.std.proofs.Common.{refl}
use Rattle.ir_types.specs.Layout.{layout}
use Rattle.ir_ops.specs.BinOp.{outcome}
use Rattle.ir_ops.specs.CastOp.{converted}
use Rattle.ir_ops.specs.Pred.{comparison}
use Rattle.ir_module.specs.Places.{instr_at, entry_of}
use Rattle.ir_module.specs.Edges.{catches_all}
use Rattle.ir_module.specs.Calls.{is_open, is_taken, is_promised, is_exact}
use Rattle.ir_machine.specs.Memory.{put, has_room}
use Rattle.ir_machine.specs.Steps.{plan}
use Rattle.machine_samples.specs.Build.{follow}
use Rattle.machine_samples.proofs.samples.acting.Goals as goal

pub returns : goal.returns
unfolding follow plan put has_room layout outcome converted comparison instr_at entry_of catches_all is_open is_taken is_promised is_exact
returns c = record {
  outside_reads_through_any_pointer_without_origins = refl;
  outside_read_of_one_fragment_puts_the_pointer_in_hand = refl;
  outside_read_of_a_closed_block_ends = refl;
  outside_writes_any_bytes = refl;
  outside_writes_a_pointer_in_hand_and_captures_it = refl;
  outside_write_of_a_fragment_with_foreign_origins_ends = refl;
  hidden_read_and_hidden_write = refl;
  new_gives_a_live_block_of_undef_bytes = refl;
  new_beside_a_live_block = refl;
  free_makes_a_heap_block_dead = refl;
  free_of_a_global_ends = refl;
  keep_of_foreign_origins_ends = refl;
  kept_values_are_in_every_hand = refl;
  enter_of_an_internal_body_ends = refl;
  enter_with_a_pointer_for_an_integer_ends = refl;
  the_lowest_frame_does_not_return = refl;
  the_lowest_frame_does_not_unwind = refl;
  return_of_an_integer_that_does_not_fit_ends = refl;
  no_act_in_an_outside_frame_ends = refl;
  act_in_a_module_frame_ends = refl;
}
