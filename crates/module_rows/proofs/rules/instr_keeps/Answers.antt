use Rattle.std.proofs.Common.{sym}
use Rattle.std.proofs.lemmas.Option.{slice_get_within}
use Rattle.ir_verify.proofs.Segments.{names_of, block_within, func_within}
use Rattle.module_rows.proofs.rules.instr_keeps.Goals as goal

pub block-block-requires : goal.block-block-requires
block-block-requires c = block_within c.args.m.now c.args.s.seg.0 c.in-Some.seg.now c.requires.formed (sym c.in-Some.ensures.value)

pub func-func-requires : goal.func-func-requires
func-func-requires c = func_within c.args.m.now c.in-Some.seg.now.block.0 c.block-block.result.now c.requires.formed c.block-block.ensures

pub placed-requires-clause-there : goal.placed-requires-clause-there
placed-requires-clause-there c = block_within c.args.m.now c.args.s.seg.0 c.in-Some.seg.now c.requires.formed (sym c.in-Some.ensures.value)

pub placed-requires-clause-inside : goal.placed-requires-clause-inside
placed-requires-clause-inside c = slice_get_within c.in-Some.seg.now.instrs c.args.s.at c.in-Some-get.instr.now (sym c.in-Some-get.ensures.value)

pub placed-requires-clause-named : goal.placed-requires-clause-named
placed-requires-clause-named c =
    names_of c.args.m.now _ _ c.in-Some.seg.now c.in-Some-get.instr.now c.requires.formed (sym c.in-Some.ensures.value) (sym c.in-Some-get.ensures.value)
