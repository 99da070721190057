use Rattle.std.proofs.Common.{refl}
use Rattle.ir_paths.proofs.Blocks.{run_of}
use Rattle.ir_paths.proofs.body.body_of.Goals as goal

pub returns : goal.returns
returns c = run_of c.args.m.now c.args.f.0 c.func-func.result.now _ c.requires.formed c.func-func.ensures refl refl refl
