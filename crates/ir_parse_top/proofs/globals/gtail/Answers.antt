use Rattle.std.proofs.Common.{subst}
use Rattle.ir_tree.specs.declared.terminal.Terminal.TheVariants as k
use Rattle.ir_tree.specs.Steps.{Longest}
use Rattle.ir_parse_top.specs.Parts.{leaf_pair}
use Rattle.ir_parse_top.proofs.LongestGlobals.{gtail_section, gtail_partition, gtail_model, gtail_align, gtail_comdat, gtail_attach, gtail_word, gtail_none}
use Rattle.ir_parse_top.proofs.globals.gtail.Goals as goal

pub returns-in-Some : goal.returns-in-Some
returns-in-Some c = gtail_section c.args.toks.now c.args.at c.in-Some.next (
  c.in-Some.word,
  c.in-Some.name,
) (subst (Longest (leaf_pair c.args.toks.now k.Section k.Str) c.args.at) c.in-Some.is c.leaf_pair.ensures)

pub returns-in-Some-leaf_pair : goal.returns-in-Some-leaf_pair
returns-in-Some-leaf_pair c = gtail_partition c.args.toks.now c.args.at c.in-Some-leaf_pair.next (
  c.in-Some-leaf_pair.word,
  c.in-Some-leaf_pair.name,
) (subst (Longest (leaf_pair c.args.toks.now k.Partition k.Str) c.args.at) c.in-Some-leaf_pair.is c.leaf_pair-2.ensures)

pub returns-in-Some-leaf_pair-2 : goal.returns-in-Some-leaf_pair-2
returns-in-Some-leaf_pair-2 c = gtail_model c.args.toks.now c.args.at c.in-Some-leaf_pair-2.next (
  c.in-Some-leaf_pair-2.word,
  c.in-Some-leaf_pair-2.name,
) (subst (Longest (leaf_pair c.args.toks.now k.CodeModel k.Str) c.args.at) c.in-Some-leaf_pair-2.is c.leaf_pair-3.ensures)

pub returns-in-Some-leaf_pair-3 : goal.returns-in-Some-leaf_pair-3
returns-in-Some-leaf_pair-3 c = gtail_align c.args.toks.now c.args.at c.in-Some-leaf_pair-3.next (
  c.in-Some-leaf_pair-3.word,
  c.in-Some-leaf_pair-3.bytes,
) (subst (Longest (leaf_pair c.args.toks.now k.Align k.Int) c.args.at) c.in-Some-leaf_pair-3.is c.leaf_pair-4.ensures)

pub returns-in-Some-comdat : goal.returns-in-Some-comdat
returns-in-Some-comdat c = gtail_comdat c.args.toks.now c.args.at c.in-Some-comdat.next c.in-Some-comdat.found c.in-Some-comdat.ensures

pub returns-in-Some-attach : goal.returns-in-Some-attach
returns-in-Some-attach c = gtail_attach c.args.toks.now c.args.at c.in-Some-attach.next c.in-Some-attach.found c.in-Some-attach.ensures

pub returns-in-Some-aword : goal.returns-in-Some-aword
returns-in-Some-aword c = gtail_word c.args.toks.now c.args.at c.in-Some-aword.next c.in-Some-aword.ensures

pub returns-in-None : goal.returns-in-None
returns-in-None c = gtail_none c.args.toks.now c.args.at (subst (Longest (leaf_pair c.args.toks.now k.Section k.Str) c.args.at) c.in_default.is
    c.leaf_pair.ensures) (subst (Longest (leaf_pair c.args.toks.now k.Partition k.Str) c.args.at) c.in_default-leaf_pair.is c.leaf_pair-2.ensures)
    (subst (Longest (leaf_pair c.args.toks.now k.CodeModel k.Str) c.args.at) c.in_default-leaf_pair-2.is c.leaf_pair-3.ensures)
    (subst (Longest (leaf_pair c.args.toks.now k.Align k.Int) c.args.at) c.in_default-leaf_pair-3.is c.leaf_pair-4.ensures) c.in_default-comdat.ensures
    c.in_default-attach.ensures c.in-None.ensures
