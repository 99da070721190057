use Rattle.std.proofs.Common.{sym, ◌∙◌}
use Rattle.ir_tree.specs.declared.terminal.Terminal.TheVariants.{CcWord}
use Rattle.ir_tree.specs.declared.attributes.Cc.TheVariants as cc_is
use Rattle.ir_tree.proofs.ClearAttributes.{cc_reads}
use Rattle.ir_parse_parts.proofs.Longest.{leaf_is_the, longest_by}
use Rattle.ir_parse_parts.proofs.attributes.cc.Goals as goal

pub returns-in-Some : goal.returns-in-Some
returns-in-Some c = longest_by (cc_reads c.args.toks.now c.args.at) (cc_is.Word c.args.at) c.in-Some.next (leaf_is_the c.args.toks.now CcWord c.args.at ∙
    sym c.in-Some.ensures.value) (λ h. h)
