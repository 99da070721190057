use Rattle.std.proofs.Common.{refl}
use Rattle.ir_types.specs.Layout.{layout}
use Rattle.ir_module.specs.Places.{instr_at, entry_of}
use Rattle.ir_module.specs.Edges.{catches_all}
use Rattle.ir_module.specs.Calls.{is_open, is_taken, is_promised, is_exact}
use Rattle.ir_module.specs.Calls as calls
use Rattle.ir_machine.specs.Memory.{put, has_room}
use Rattle.ir_machine.specs.Steps.{plan}
use Rattle.ir_machine.specs.Runs.{run}
use Rattle.ir_machine.specs.Meanings.{memory, nocallback, nocapture, nofree, noreturn, readnone, readonly, returned, writeonly}
use Rattle.meaning_samples.specs.Sample.{declared, declared_of_parameter, with_noreturn, with_nofree, with_nocallback, with_memory, with_nocapture}
use Rattle.meaning_samples.specs.Sample.{with_readnone, with_readonly, with_writeonly, with_returned, no_memory, read_memory, argument_memory}
use Rattle.meaning_samples.specs.Sample.{accessible_memory, in_b, where_all_return, where_g_calls_back, where_g_frees, where_g_reads}
use Rattle.meaning_samples.specs.Sample.{where_g_writes, where_g_reads_elsewhere, where_g_writes_hidden, where_g_keeps_it, where_g_gives_it_back}
use Rattle.meaning_samples.specs.Sample.{where_all_give}
use Rattle.meaning_samples.proofs.Fairness.{broken}
use Rattle.meaning_samples.proofs.promises.each_promise_can_be_broken.Goals as goal

pub returns : goal.returns
unfolding run plan put has_room layout instr_at entry_of catches_all is_open is_taken is_promised is_exact
returns c = record {
  noreturn = broken (declared with_noreturn) calls.Noreturn noreturn where_all_return (λ a e k. k) refl;
  nofree = broken (declared with_nofree) calls.Nofree nofree where_g_frees (λ a e k. k) refl;
  nocallback = broken (declared with_nocallback) calls.Nocallback nocallback where_g_calls_back (λ a e k. k) refl;
  memory_none = broken (declared (with_memory no_memory)) (calls.Memory no_memory) (memory no_memory) where_g_reads (λ a e k. k) refl;
  memory_read = broken (declared (with_memory read_memory)) (calls.Memory read_memory) (memory read_memory) where_g_writes (λ a e k. k) refl;
  memory_of_arguments = broken (declared (with_memory argument_memory)) (calls.Memory argument_memory) (memory argument_memory)
      where_g_reads_elsewhere (λ a e k. k) refl;
  memory_that_is_seen = broken (declared (with_memory accessible_memory)) (calls.Memory accessible_memory) (memory accessible_memory)
      where_g_writes_hidden (λ a e k. k) refl;
  nocapture = broken (declared_of_parameter with_nocapture) (calls.Nocapture 0) (nocapture 0) where_g_keeps_it (λ a e k. k) refl;
  nocapture_by_return = broken (declared_of_parameter with_nocapture) (calls.Nocapture 0) (nocapture 0) where_g_gives_it_back (λ a e k. k) refl;
  readnone_by_read = broken (declared_of_parameter with_readnone) (calls.Readnone 0) (readnone 0) where_g_reads (λ a e k. k) refl;
  readnone_by_write = broken (declared_of_parameter with_readnone) (calls.Readnone 0) (readnone 0) where_g_writes (λ a e k. k) refl;
  readonly = broken (declared_of_parameter with_readonly) (calls.Readonly 0) (readonly 0) where_g_writes (λ a e k. k) refl;
  writeonly = broken (declared_of_parameter with_writeonly) (calls.Writeonly 0) (writeonly 0) where_g_reads (λ a e k. k) refl;
  returned = broken (declared_of_parameter with_returned) (calls.Returned 0) (returned 0) (where_all_give (in_b 0)) (λ a e k. k) refl;
}
