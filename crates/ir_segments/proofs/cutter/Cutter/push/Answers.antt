use Rattle.std.proofs.Common.{sym, subst, ◌∙◌}
use Rattle.ir_segments.specs.Segments.{IsCut}
use Rattle.ir_segments.proofs.Segs.{cut_more, cut_pushed}
use Rattle.ir_segments.proofs.cutter.Cutter.push.Goals as goal

pub returns-then-not-is_last : goal.returns-then-not-is_last
returns-then-not-is_last c = λ old taken done. subst (IsCut c.args.block old _ _) (sym c.in_ok-push.ensures.items)
    (cut_more c.args.block old taken c.args.self.now.segs.items c.args.self.now.run.items c.args.instr (sym c.ends-is_last.ensures ∙ c.if-not-is_last.true)
    done)

pub returns : goal.returns
returns c = λ old taken done. cut_pushed c.args.block old taken c.args.self.now.segs.items c.args.self.now.run.items c.args.instr
    (sym c.ends-is_last.ensures ∙ c.if-not-is_last.false) done c.push.new.self.items c.end.new.self.segs.items c.end.new.self.run.items
    c.in_ok-push.ensures.items c.in_ok-end.ensures.segs c.in_ok-end.ensures.run
