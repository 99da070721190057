use Rattle.std.proofs.Common.{refl}
use Rattle.ir_types.specs.Layout.{layout}
use Rattle.ir_module.specs.Places.{instr_at, entry_of}
use Rattle.ir_module.specs.Edges.{catches_all}
use Rattle.ir_module.specs.Calls.{is_open, is_taken, is_promised, is_exact}
use Rattle.ir_machine.specs.Memory.{put, has_room}
use Rattle.ir_machine.specs.Steps.{plan}
use Rattle.ir_machine.specs.Runs.{run}
use Rattle.ir_machine.specs.Meanings.{nounwind, noreturn, nofree, norecurse, nocallback, memory, nocapture, readnone, readonly, writeonly, returned}
use Rattle.meaning_samples.specs.Sample.{silent, func_f, no_memory, read_memory, argument_memory, accessible_memory, in_b, steps, where_g_unwinds}
use Rattle.meaning_samples.specs.Sample.{where_all_return, where_g_calls_back, where_g_frees, where_g_reads, where_g_writes, where_g_reads_elsewhere}
use Rattle.meaning_samples.specs.Sample.{where_g_writes_hidden, where_g_keeps_it, where_g_gives_it_back, where_all_give}
use Rattle.meaning_samples.proofs.Tests.{breaks_body}
use Rattle.meaning_samples.proofs.attributes.a_body_can_break_each_attribute.Goals as goal

pub returns : goal.returns
unfolding run plan put has_room layout instr_at entry_of catches_all is_open is_taken is_promised is_exact
returns c = record {
  nounwind = breaks_body nounwind func_f (steps silent where_g_unwinds) refl;
  noreturn = breaks_body noreturn func_f (steps silent where_all_return) refl;
  nofree = breaks_body nofree func_f (steps silent where_g_frees) refl;
  norecurse = breaks_body norecurse func_f (steps silent where_g_calls_back) refl;
  nocallback = breaks_body nocallback func_f (steps silent where_all_return) refl;
  memory_none = breaks_body (memory no_memory) func_f (steps silent where_g_reads) refl;
  memory_read = breaks_body (memory read_memory) func_f (steps silent where_g_writes) refl;
  memory_of_arguments = breaks_body (memory argument_memory) func_f (steps silent where_g_reads_elsewhere) refl;
  memory_that_is_seen = breaks_body (memory accessible_memory) func_f (steps silent where_g_writes_hidden) refl;
  nocapture = breaks_body (nocapture 0) func_f (steps silent where_g_keeps_it) refl;
  nocapture_by_return = breaks_body (nocapture 0) func_f (steps silent where_g_gives_it_back) refl;
  readnone_by_read = breaks_body (readnone 0) func_f (steps silent where_g_reads) refl;
  readnone_by_write = breaks_body (readnone 0) func_f (steps silent where_g_writes) refl;
  readonly = breaks_body (readonly 0) func_f (steps silent where_g_writes) refl;
  writeonly = breaks_body (writeonly 0) func_f (steps silent where_g_reads) refl;
  returned = breaks_body (returned 0) func_f (steps silent (where_all_give (in_b 0))) refl;
}
