use Rattle.std.proofs.Common.{refl}
use Rattle.ir_types.specs.Layout.{layout}
use Rattle.ir_module.specs.Places.{instr_at, entry_of}
use Rattle.ir_module.specs.Edges.{catches_all}
use Rattle.ir_module.specs.Calls.{is_open, is_taken, is_promised, is_exact}
use Rattle.ir_machine.specs.Memory.{put, has_room}
use Rattle.ir_machine.specs.Steps.{plan}
use Rattle.ir_machine.specs.Runs.{run}
use Rattle.ir_machine.specs.Meanings.{nounwind, noreturn, nofree, nocallback, memory, nocapture, readnone, readonly, writeonly}
use Rattle.meaning_samples.specs.Sample.{silent, call_of_f, call_of_g, no_memory, read_memory, argument_memory, accessible_memory, steps, where_g_unwinds}
use Rattle.meaning_samples.specs.Sample.{where_all_return, where_g_has_its_own, where_g_reads, where_g_writes, where_g_knows_it, where_g_writes_elsewhere}
use Rattle.meaning_samples.specs.Sample.{where_g_reads_hidden, where_g_keeps_another}
use Rattle.meaning_samples.proofs.Tests.{keeps_call}
use Rattle.meaning_samples.proofs.attributes.a_call_can_keep_each_attribute.Goals as goal

pub returns : goal.returns
unfolding run plan put has_room layout instr_at entry_of catches_all is_open is_taken is_promised is_exact
returns c = record {
  nounwind = keeps_call nounwind call_of_f (steps silent where_all_return) refl;
  noreturn = keeps_call noreturn call_of_f (steps silent where_g_unwinds) refl;
  nofree = keeps_call nofree call_of_f (steps silent where_g_has_its_own) refl;
  memory_none = keeps_call (memory no_memory) call_of_f (steps silent where_g_has_its_own) refl;
  memory_read = keeps_call (memory read_memory) call_of_f (steps silent where_g_reads_hidden) refl;
  memory_of_arguments = keeps_call (memory argument_memory) call_of_f (steps silent where_g_knows_it) refl;
  memory_that_is_seen = keeps_call (memory accessible_memory) call_of_f (steps silent where_g_writes_elsewhere) refl;
  nocapture = keeps_call (nocapture 0) call_of_f (steps silent where_g_keeps_another) refl;
  readnone = keeps_call (readnone 0) call_of_f (steps silent where_g_knows_it) refl;
  readonly = keeps_call (readonly 0) call_of_f (steps silent where_g_reads) refl;
  writeonly = keeps_call (writeonly 0) call_of_f (steps silent where_g_writes) refl;
  nocallback = keeps_call nocallback call_of_g (steps silent where_all_return) refl;
}
