use Rattle.std.proofs.Common.{◌≡◌}
use Rattle.std.proofs.lemmas.Result.{IfOk-weaker}
use Rattle.facts.specs.Known.{OperandSpeaks}
use Rattle.rule_terms.specs.declared.term.NewTerm.TheOpen.{NewTerm-F as made}
use Rattle.rule_terms.specs.declared.term.NewTerm.TheViews.{roll-NewTerm}
use Rattle.rule_says.specs.Saying.{Says}
use Rattle.operand_says.specs.Asked.{AsksOperand, AsksBit, SpeaksBit}
use Rattle.operand_says.proofs.Ones.{one_says}
use Rattle.operand_says.proofs.asking.operand_bit.Goals as goal

pub returns : goal.returns
returns c =
    IfOk-weaker c.spread.result (λ t. t ≡ roll-NewTerm (made.Spread c.args.bit c.args.to c.operand-term.result))
    (λ t. Says c.args.m.now c.args.ps.now c.args.to t (AsksBit c.args.m.now c.args.w.now c.args.bit) (SpeaksBit c.args.w.now c.args.bit))
    (λ t e. one_says c.args.m.now c.args.ps.now c.args.bit c.one.result c.args.to t c.operand-term.result (AsksOperand c.args.m.now c.args.w.now)
    (λ b y. OperandSpeaks c.args.w.now b y) c.requires.bit c.one.ensures.is e c.operand-term.ensures) c.spread.ensures
