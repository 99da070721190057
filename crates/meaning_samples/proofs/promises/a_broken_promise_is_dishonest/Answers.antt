use Rattle.std.proofs.Common.{refl}
use Rattle.ir_types.specs.Layout.{layout}
use Rattle.ir_module.specs.Places.{instr_at, entry_of}
use Rattle.ir_module.specs.Edges.{catches_all}
use Rattle.ir_module.specs.Calls.{is_open, is_taken, is_promised, is_exact}
use Rattle.ir_module.specs.Calls as calls
use Rattle.ir_machine.specs.Memory.{put, has_room}
use Rattle.ir_machine.specs.Steps.{plan}
use Rattle.ir_machine.specs.Runs.{run}
use Rattle.ir_machine.specs.Meanings.{nounwind}
use Rattle.meaning_samples.specs.Sample.{declared, called_with, with_nounwind, where_g_unwinds}
use Rattle.meaning_samples.proofs.Fairness.{broken}
use Rattle.meaning_samples.proofs.promises.a_broken_promise_is_dishonest.Goals as goal

pub returns : goal.returns
unfolding run plan put has_room layout instr_at entry_of catches_all is_open is_taken is_promised is_exact
returns c = record {
  at_its_declaration = broken (declared with_nounwind) calls.Nounwind nounwind where_g_unwinds (λ a e k. k) refl;
  at_the_call = broken (called_with with_nounwind) calls.Nounwind nounwind where_g_unwinds (λ a e k. k) refl;
}
