use Rattle.std.proofs.Common.{refl}
use Rattle.ir_types.specs.Layout.{layout}
use Rattle.ir_module.specs.Places.{instr_at, entry_of}
use Rattle.ir_module.specs.Edges.{catches_all}
use Rattle.ir_module.specs.Calls.{is_open, is_taken, is_promised, is_exact}
use Rattle.ir_machine.specs.Memory.{put, has_room}
use Rattle.ir_machine.specs.Steps.{plan}
use Rattle.ir_machine.specs.Runs.{run}
use Rattle.ir_machine.specs.Meanings.{nounwind, noreturn, nofree, norecurse, memory, nocapture, readnone, readonly, writeonly, returned}
use Rattle.meaning_samples.specs.Sample.{silent, func_f, no_memory, read_memory, argument_memory, accessible_memory, steps, where_g_unwinds, where_all_return}
use Rattle.meaning_samples.specs.Sample.{where_g_enters_another, where_g_has_its_own, where_g_reads, where_g_writes, where_g_knows_it}
use Rattle.meaning_samples.specs.Sample.{where_g_writes_elsewhere, where_g_reads_hidden, where_g_keeps_another, where_g_gives_it_back}
use Rattle.meaning_samples.proofs.Tests.{keeps_body}
use Rattle.meaning_samples.proofs.attributes.a_body_can_keep_each_attribute.Goals as goal

pub returns : goal.returns
unfolding run plan put has_room layout instr_at entry_of catches_all is_open is_taken is_promised is_exact
returns c = record {
  nounwind = keeps_body nounwind func_f (steps silent where_all_return) refl;
  noreturn = keeps_body noreturn func_f (steps silent where_g_unwinds) refl;
  nofree = keeps_body nofree func_f (steps silent where_g_has_its_own) refl;
  norecurse = keeps_body norecurse func_f (steps silent where_g_enters_another) refl;
  memory_none = keeps_body (memory no_memory) func_f (steps silent where_g_has_its_own) refl;
  memory_read = keeps_body (memory read_memory) func_f (steps silent where_g_reads_hidden) refl;
  memory_of_arguments = keeps_body (memory argument_memory) func_f (steps silent where_g_knows_it) refl;
  memory_that_is_seen = keeps_body (memory accessible_memory) func_f (steps silent where_g_writes_elsewhere) refl;
  nocapture = keeps_body (nocapture 0) func_f (steps silent where_g_keeps_another) refl;
  readnone = keeps_body (readnone 0) func_f (steps silent where_g_knows_it) refl;
  readonly = keeps_body (readonly 0) func_f (steps silent where_g_reads) refl;
  writeonly = keeps_body (writeonly 0) func_f (steps silent where_g_writes) refl;
  returned = keeps_body (returned 0) func_f (steps silent where_g_gives_it_back) refl;
}
