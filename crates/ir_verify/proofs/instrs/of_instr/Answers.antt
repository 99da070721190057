use Rattle.std.proofs.Common.{◌++◌, sym, subst}
use Rattle.ir_verify.specs.Judging.{JudgedIn}
use Rattle.ir_verify.specs.Demands.{OfInstr, value_rules, operation_rules, flow_rules}
use Rattle.ir_verify.specs.Verified.{placed}
use Rattle.ir_verify.proofs.Judged.{rules_both, all_rules}
use Rattle.ir_verify.proofs.Covers.{instr_covers}
use Rattle.ir_verify.proofs.instrs.of_instr.Goals as goal

pub returns : goal.returns
returns c = λ func block seg at home.
    let p = placed func block c.args.s.0 seg c.args.i c.args.instr.now in
    let from = c.args.instr.now.span.from in
    let demands = OfInstr c.args.m.now c.args.numbers.now p in
    let behind : JudgedIn (operation_rules ++ flow_rules) from demands c.first_of.result =
    subst (JudgedIn (operation_rules ++ flow_rules) from demands) (sym c.first_of.ensures)
    (rules_both operation_rules flow_rules from demands c.of_operation-operation.result c.in_ok-flow.flow
    (c.of_operation-operation.ensures func block c.args.s.0 seg c.args.i) (c.in_ok-flow.ensures func block seg at home)) in
    let all : JudgedIn (value_rules ++ operation_rules ++ flow_rules) from demands c.first_of-2.result =
    subst (JudgedIn (value_rules ++ operation_rules ++ flow_rules) from demands) (sym c.first_of-2.ensures)
    (rules_both value_rules (operation_rules ++ flow_rules) from demands c.of_values-values.result c.first_of.result
    (c.of_values-values.ensures func block c.args.s.0 seg c.args.i) behind) in
    all_rules (value_rules ++ operation_rules ++ flow_rules) from demands c.first_of-2.result (instr_covers c.args.m.now c.args.numbers.now p) all
