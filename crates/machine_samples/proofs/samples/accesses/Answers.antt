use Rattle.std.proofs.Common.{refl}
use Rattle.ir_types.specs.Layout.{layout}
use Rattle.ir_ops.specs.BinOp.{outcome}
use Rattle.ir_ops.specs.CastOp.{converted}
use Rattle.ir_ops.specs.Pred.{comparison}
use Rattle.ir_module.specs.Places.{instr_at, entry_of}
use Rattle.ir_module.specs.Edges.{catches_all}
use Rattle.ir_module.specs.Calls.{is_open, is_taken, is_promised, is_exact}
use Rattle.ir_machine.specs.Memory.{put, has_room}
use Rattle.ir_machine.specs.Steps.{plan}
use Rattle.machine_samples.specs.Build.{follow}
use Rattle.machine_samples.proofs.samples.accesses.Goals as goal

pub returns : goal.returns
unfolding follow plan put has_room layout outcome converted comparison instr_at entry_of catches_all is_open is_taken is_promised is_exact
returns c = record {
  alloca_sizes_and_bases = refl;
  alloca_over_a_live_block_ends = refl;
  alloca_of_count_undef_is_undefined = refl;
  loops_make_a_new_block_each_time = refl;
  integers_are_stored_little_endian = refl;
  loads_drop_the_upper_bits = refl;
  undef_and_poison_bytes = refl;
  four_fragments_load_as_undef_and_eight_as_the_pointer = refl;
  fragments_with_other_origins_give_poison = refl;
  stored_undef_poison_and_null = refl;
  load_through_null_is_undefined = refl;
  load_at_an_address_that_is_no_multiple_is_undefined = refl;
  store_through_a_dead_block_is_undefined = refl;
  a_volatile_load = refl;
  a_volatile_store = refl;
}
