use Rattle.std.proofs.lemmas.Result.{on_ok_weaker}
use Rattle.aa_memory.specs.Accesses.{access_of}
use Rattle.aa_memory.proofs.Together.{access_met}
use Rattle.aa_memory.proofs.keeping.keep_access.Goals as goal

pub returns : goal.returns
returns c =
    on_ok_weaker c.keep_visible.result (λ met. access_met c.args.m.now c.args.ps.now (access_of c.args.a) c.args.k.0 c.args.op.now c.args.s.now
    c.keep_off.new.s c.keep_off-2.new.s c.keep_visible.new.s c.in_ok-keep_off.ensures c.in_ok-keep_off-2.ensures met) c.keep_visible.ensures
