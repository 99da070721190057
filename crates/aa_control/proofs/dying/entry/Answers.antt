use Rattle.std.proofs.Common.{sym, ◌∙◌}
use Rattle.aa_control.proofs.Begins.{func_there, first_block_there, first_seg_there, entry_is}
use Rattle.aa_control.proofs.dying.entry.Goals as goal

pub func-func-requires : goal.func-func-requires
func-func-requires c = func_there c.args.m.now c.args.f.0 c.requires.body

pub first_seg-requires : goal.first_seg-requires
first_seg-requires c = first_block_there c.args.m.now c.args.f.0 c.func-func.result.now c.requires.formed c.func-func.ensures c.requires.body

pub returns-clause-is : goal.returns-clause-is
returns-clause-is c = entry_is c.args.m.now c.args.f.0 c.func-func.result.now c.func-func.ensures ∙ sym c.first_seg.ensures

pub returns-clause-there : goal.returns-clause-there
returns-clause-there c =
    first_seg_there c.args.m.now c.args.f.0 c.func-func.result.now c.first_seg.result.0 c.requires.formed c.func-func.ensures c.requires.body
    c.first_seg.ensures
