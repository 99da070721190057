use Rattle.std.proofs.Common.{refl}
use Rattle.ir_types.specs.Layout.{layout}
use Rattle.ir_ops.specs.BinOp.{outcome}
use Rattle.ir_ops.specs.CastOp.{converted}
use Rattle.ir_ops.specs.Pred.{comparison}
use Rattle.ir_module.specs.Places.{instr_at, entry_of}
use Rattle.ir_module.specs.Edges.{catches_all}
use Rattle.ir_module.specs.Calls.{is_open, is_taken, is_promised, is_exact}
use Rattle.ir_machine.specs.Memory.{put, has_room}
use Rattle.ir_machine.specs.Steps.{plan}
use Rattle.machine_samples.specs.Build.{follow}
use Rattle.machine_samples.proofs.samples.edges.Goals as goal

pub returns : goal.returns
unfolding follow plan put has_room layout outcome converted comparison instr_at entry_of catches_all is_open is_taken is_promised is_exact
returns c = record {
  br_takes_the_arm_of_its_condition = refl;
  br_on_undef_is_undefined = refl;
  switch_on_poison_is_undefined = refl;
  unreachable_is_undefined = refl;
  phis_read_the_old_values = refl;
  phis_carry_origins_and_take_the_arm_of_the_edge = refl;
  phis_of_the_unwind_block_take_the_later_picks = refl;
  pairs_go_through_a_phi = refl;
}
