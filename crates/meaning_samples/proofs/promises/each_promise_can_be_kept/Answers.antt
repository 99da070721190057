use Rattle.std.proofs.Common.{refl}
use Rattle.ir_types.specs.Layout.{layout}
use Rattle.ir_module.specs.Places.{instr_at, entry_of}
use Rattle.ir_module.specs.Edges.{catches_all}
use Rattle.ir_module.specs.Calls.{is_open, is_taken, is_promised, is_exact}
use Rattle.ir_machine.specs.Memory.{put, has_room}
use Rattle.ir_machine.specs.Steps.{plan}
use Rattle.ir_machine.specs.Runs.{run}
use Rattle.meaning_samples.specs.Sample.{declared, declared_of_parameter, many, with_nounwind, with_noreturn, with_nofree, with_nocallback, with_memory}
use Rattle.meaning_samples.specs.Sample.{with_nocapture, with_readnone, with_readonly, with_writeonly, with_returned, no_memory, read_memory}
use Rattle.meaning_samples.specs.Sample.{argument_memory, accessible_memory, where_g_unwinds, where_all_return, where_g_has_its_own, where_g_reads}
use Rattle.meaning_samples.specs.Sample.{where_g_writes, where_g_knows_it, where_g_writes_elsewhere, where_g_reads_hidden, where_g_keeps_another}
use Rattle.meaning_samples.specs.Sample.{where_g_gives_it_back}
use Rattle.meaning_samples.proofs.Fairness.{fair}
use Rattle.meaning_samples.proofs.promises.each_promise_can_be_kept.Goals as goal

pub returns : goal.returns
unfolding run plan put has_room layout instr_at entry_of catches_all is_open is_taken is_promised is_exact
returns c = record {
  nounwind = fair (declared with_nounwind) where_all_return refl;
  noreturn = fair (declared with_noreturn) where_g_unwinds refl;
  nofree = fair (declared with_nofree) where_g_has_its_own refl;
  nocallback = fair (declared with_nocallback) where_all_return refl;
  memory_none = fair (declared (with_memory no_memory)) where_g_has_its_own refl;
  memory_read = fair (declared (with_memory read_memory)) where_g_reads_hidden refl;
  memory_of_arguments = fair (declared (with_memory argument_memory)) where_g_knows_it refl;
  memory_that_is_seen = fair (declared (with_memory accessible_memory)) where_g_writes_elsewhere refl;
  nocapture = fair (declared_of_parameter with_nocapture) where_g_keeps_another refl;
  readnone = fair (declared_of_parameter with_readnone) where_g_knows_it refl;
  readonly = fair (declared_of_parameter with_readonly) where_g_reads refl;
  writeonly = fair (declared_of_parameter with_writeonly) where_g_writes refl;
  returned = fair (declared_of_parameter with_returned) where_g_gives_it_back refl;
  many_at_once = fair many where_g_reads refl;
}
