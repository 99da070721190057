use Rattle.std.proofs.Common.{refl}
use Rattle.ir_types.specs.Layout.{layout}
use Rattle.ir_module.specs.Places.{instr_at, entry_of}
use Rattle.ir_module.specs.Edges.{catches_all}
use Rattle.ir_module.specs.Calls.{is_open, is_taken, is_promised, is_exact}
use Rattle.ir_machine.specs.Memory.{put, has_room}
use Rattle.ir_machine.specs.Steps.{plan}
use Rattle.ir_machine.specs.Runs.{run}
use Rattle.meaning_samples.specs.Sample.{silent, where_g_unwinds}
use Rattle.meaning_samples.proofs.Fairness.{fair}
use Rattle.meaning_samples.proofs.promises.an_honest_run_can_unwind.Goals as goal

pub returns : goal.returns
unfolding run plan put has_room layout instr_at entry_of catches_all is_open is_taken is_promised is_exact
returns c = fair silent where_g_unwinds refl
