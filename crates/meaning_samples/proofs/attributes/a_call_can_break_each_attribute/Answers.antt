use Rattle.std.proofs.Common.{refl}
use Rattle.ir_types.specs.Layout.{layout}
use Rattle.ir_module.specs.Places.{instr_at, entry_of}
use Rattle.ir_module.specs.Edges.{catches_all}
use Rattle.ir_module.specs.Calls.{is_open, is_taken, is_promised, is_exact}
use Rattle.ir_machine.specs.Memory.{put, has_room}
use Rattle.ir_machine.specs.Steps.{plan}
use Rattle.ir_machine.specs.Runs.{run}
use Rattle.ir_machine.specs.Meanings.{nounwind, noreturn, nofree, nocallback, memory, nocapture, readnone, readonly, writeonly}
use Rattle.meaning_samples.specs.Sample.{silent, call_of_f, call_of_g, no_memory, read_memory, argument_memory, accessible_memory, steps, where_g_unwinds}
use Rattle.meaning_samples.specs.Sample.{where_all_return, where_g_calls_back, where_g_frees, where_g_reads, where_g_writes, where_g_reads_elsewhere}
use Rattle.meaning_samples.specs.Sample.{where_g_writes_hidden, where_g_keeps_it, where_g_gives_it_back}
use Rattle.meaning_samples.proofs.Tests.{breaks_call}
use Rattle.meaning_samples.proofs.attributes.a_call_can_break_each_attribute.Goals as goal

pub returns : goal.returns
unfolding run plan put has_room layout instr_at entry_of catches_all is_open is_taken is_promised is_exact
returns c = record {
  nounwind = breaks_call nounwind call_of_f (steps silent where_g_unwinds) refl;
  noreturn = breaks_call noreturn call_of_f (steps silent where_all_return) refl;
  nofree = breaks_call nofree call_of_f (steps silent where_g_frees) refl;
  memory_none = breaks_call (memory no_memory) call_of_f (steps silent where_g_reads) refl;
  memory_read = breaks_call (memory read_memory) call_of_f (steps silent where_g_writes) refl;
  memory_of_arguments = breaks_call (memory argument_memory) call_of_f (steps silent where_g_reads_elsewhere) refl;
  memory_that_is_seen = breaks_call (memory accessible_memory) call_of_f (steps silent where_g_writes_hidden) refl;
  nocapture = breaks_call (nocapture 0) call_of_f (steps silent where_g_keeps_it) refl;
  nocapture_by_return = breaks_call (nocapture 0) call_of_f (steps silent where_g_gives_it_back) refl;
  readnone_by_read = breaks_call (readnone 0) call_of_f (steps silent where_g_reads) refl;
  readnone_by_write = breaks_call (readnone 0) call_of_f (steps silent where_g_writes) refl;
  readonly = breaks_call (readonly 0) call_of_f (steps silent where_g_writes) refl;
  writeonly = breaks_call (writeonly 0) call_of_f (steps silent where_g_reads) refl;
  nocallback = breaks_call nocallback call_of_g (steps silent where_g_calls_back) refl;
}
