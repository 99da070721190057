use Rattle.ir_parse_body.proofs.LongestBlocks.{behind_both}
use Rattle.ir_parse_body.proofs.blocks.behind.Goals as goal

pub returns : goal.returns
returns c = behind_both c.args.toks.now c.args.at c.in_ok-attached.place c.in_ok-after.next c.in_ok-attached.attached c.in_ok-after.after
    c.in_ok-attached.ensures c.in_ok-after.ensures
