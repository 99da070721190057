use Rattle.std.proofs.Common.{◌≡◌, sym, subst, IfOk}
use Rattle.std.proofs.lemmas.Result.{IfOk-weaker}
use Rattle.ir_verify.specs.declared.verify_module.Fault.TheVariants as verify
use Rattle.attrib.specs.Lines.{IsVerifyLine, rule_line}
use Rattle.attrib.proofs.lines.verify_line.Goals as goal

pub returns-in_ok-module-in-Rule : goal.returns-in_ok-module-in-Rule
returns-in_ok-module-in-Rule c =
    let text = c.args.text.now in
    let m = c.in_ok-module-in-Rule.module in
    let fault = verify.Rule c.in-Rule.rule c.in-Rule.at c.in-Rule.path in
    let said = IfOk-weaker c.rule_line.result (λ line. line ≡ rule_line text m c.in-Rule.rule c.in-Rule.at c.in-Rule.path) (IsVerifyLine text fault)
    (λ line is. (m, c.in_ok-module-in-Rule.ensures, is)) c.rule_line.ensures in
    subst (λ f. IfOk c.rule_line.result (IsVerifyLine text f)) (sym c.in-Rule.is) said
