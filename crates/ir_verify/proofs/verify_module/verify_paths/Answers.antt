use Rattle.std.proofs.Common.{◌≡◌, ◌<◌, ℕ, Option, length, subst, true, sym}
use Rattle.ir_verify.specs.declared.paths.Undefined.{Undefined}
use Rattle.ir_verify.specs.Undefined.{AreJudged}
use Rattle.ir_verify.specs.Verified.{IsRuleFault}
use Rattle.ir_verify.proofs.Verdicts.{answer_early, answer_late, paths_first}
use Rattle.ir_verify.proofs.verify_module.verify_paths.Goals as goal

pub returns-then-is_early : goal.returns-then-is_early
returns-then-is_early c =
    let r = answer_early c.args.m.now c.args.broken c.answer.result c.requires.layouts c.requires.others
    (c.is_early.ensures.0 c.if-is_early.true) c.answer.ensures in
    record { verified = r.verified; fault = r.fault }

pub returns-in-Some : goal.returns-in-Some
returns-in-Some c = record {
  verified = tt;
  fault = subst (λ (n : ℕ). IsRuleFault c.args.m.now n c.in-Some.u.at c.in-Some.u.path) (sym c.number.ensures)
      (paths_first c.args.m.now c.args.broken c.in-Some.u c.requires.formed c.requires.layouts c.requires.others
      (λ early. let on : c.is_early.result ≡ true = c.is_early.ensures.1 early in let off = c.if-is_early.false in (cc))
      (subst (λ (o : Option Undefined). AreJudged c.args.m.now (λ f. f < length c.args.m.now.funcs) o) c.in-Some.is c.in_ok-u.ensures));
}

pub returns-in-None : goal.returns-in-None
returns-in-None c =
    let all = subst (λ (o : Option Undefined). AreJudged c.args.m.now (λ f. f < length c.args.m.now.funcs) o) c.in-None.is c.in_ok-u.ensures in
    let r = answer_late c.args.m.now c.args.broken c.answer-in-None.result c.requires.formed c.requires.layouts c.requires.others all
    c.answer-in-None.ensures in
    record { verified = r.verified; fault = r.fault }
