use Rattle.std.proofs.Common.{refl}
use Rattle.ir_types.specs.Layout.{layout}
use Rattle.ir_module.specs.Places.{instr_at, entry_of}
use Rattle.ir_module.specs.Edges.{catches_all}
use Rattle.ir_module.specs.Calls.{is_open, is_taken, is_promised, is_exact}
use Rattle.ir_machine.specs.Memory.{put, has_room}
use Rattle.ir_machine.specs.Steps.{plan}
use Rattle.ir_machine.specs.Runs.{run}
use Rattle.meaning_samples.specs.Sample.{silent, in_b, where_all_return, where_g_calls_back, where_g_frees, where_g_reads, where_g_writes}
use Rattle.meaning_samples.specs.Sample.{where_g_reads_elsewhere, where_g_writes_hidden, where_g_keeps_it, where_g_gives_it_back, where_all_give}
use Rattle.meaning_samples.proofs.Fairness.{fair}
use Rattle.meaning_samples.proofs.promises.without_promises_each_run_is_honest.Goals as goal

pub returns : goal.returns
unfolding run plan put has_room layout instr_at entry_of catches_all is_open is_taken is_promised is_exact
returns c = record {
  returning = fair silent where_all_return refl;
  freeing = fair silent where_g_frees refl;
  calling_back = fair silent where_g_calls_back refl;
  reading = fair silent where_g_reads refl;
  writing = fair silent where_g_writes refl;
  reading_elsewhere = fair silent where_g_reads_elsewhere refl;
  writing_hidden = fair silent where_g_writes_hidden refl;
  keeping = fair silent where_g_keeps_it refl;
  giving_back = fair silent where_g_gives_it_back refl;
  giving_another = fair silent (where_all_give (in_b 0)) refl;
}
