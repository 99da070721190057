use Rattle.std.proofs.Common.{refl}
use Rattle.ir_types.specs.Layout.{layout}
use Rattle.ir_ops.specs.BinOp.{outcome}
use Rattle.ir_ops.specs.CastOp.{converted}
use Rattle.ir_ops.specs.Pred.{comparison}
use Rattle.ir_module.specs.Places.{instr_at, entry_of}
use Rattle.ir_module.specs.Edges.{catches_all}
use Rattle.ir_module.specs.Calls.{is_open, is_taken, is_promised, is_exact}
use Rattle.ir_machine.specs.Memory.{put, has_room}
use Rattle.ir_machine.specs.Steps.{plan}
use Rattle.machine_samples.specs.Build.{follow}
use Rattle.machine_samples.proofs.samples.computing.Goals as goal

pub returns : goal.returns
unfolding follow plan put has_room layout outcome converted comparison instr_at entry_of catches_all is_open is_taken is_promised is_exact
returns c = record {
  operations_at_8_bits = refl;
  flags_give_the_exact_result_or_poison = refl;
  undef_and_poison_in_operands = refl;
  udiv_of_poison_and_of_undef_by_0 = refl;
  udiv_by_0_is_undefined = refl;
  icmp_predicates = refl;
  icmp_on_pointers_goes_by_pick_and_captures = refl;
  casts = refl;
  ptrtoint_goes_by_pick_and_captures = refl;
  select = refl;
  select_on_a_poison_condition_is_poison = refl;
  freeze_of_integers = refl;
  freeze_of_pointers = refl;
  freeze_to_no_block_ends = refl;
  gep_offsets = refl;
  gep_from_null = refl;
  gep_undef_index_goes_by_pick = refl;
  gep_of_undef_and_poison = refl;
  inbounds_outside_is_poison = refl;
  nusw_and_nuw_go_by_pick_elsewhere = refl;
  constant_geps = refl;
}
