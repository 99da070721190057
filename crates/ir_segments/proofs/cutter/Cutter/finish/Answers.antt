use Rattle.std.proofs.Common.{◌∙◌, arith}
use Rattle.ir_segments.proofs.Segs.{finished_empty, finished_open, was_empty, was_open}
use Rattle.ir_segments.proofs.cutter.Cutter.finish.Goals as goal

pub returns-then-is_empty-clause-segs : goal.returns-then-is_empty-clause-segs
returns-then-is_empty-clause-segs c = λ old taken done. finished_empty c.args.block old taken c.args.self.now.segs.items c.args.self.now.run.items
    (was_empty _ c.args.self.now.run.items c.is_empty.result c.is_empty.ensures c.if-is_empty.true (omega (arith, c.args.self.now.run.ok.0))) done

pub returns-then-is_empty-clause-run : goal.returns-then-is_empty-clause-run
returns-then-is_empty-clause-run c = was_empty _ c.args.self.now.run.items c.is_empty.result c.is_empty.ensures c.if-is_empty.true
    (omega (arith, c.args.self.now.run.ok.0))

pub returns-clause-segs : goal.returns-clause-segs
returns-clause-segs c = λ old taken done. c.in_ok-end.ensures.segs ∙ finished_open c.args.block old taken c.args.self.now.segs.items c.args.self.now.run.items
    (was_open _ c.args.self.now.run.items c.is_empty.result c.is_empty.ensures c.if-is_empty.false (omega (arith, c.args.self.now.run.ok.0))) done
