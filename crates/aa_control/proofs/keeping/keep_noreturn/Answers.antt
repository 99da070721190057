use Rattle.std.proofs.Common.{refl, sym, ◌∙◌}
use Rattle.std.proofs.lemmas.Result.{on_ok_weaker}
use Rattle.facts.specs.Kinds.{NoReturn}
use Rattle.aa_control.proofs.Instrs.{ret_concerned, ret_fails, rest_stays, rest_free}
use Rattle.aa_control.proofs.Kept.{kept, unconcerned, never}
use Rattle.aa_control.proofs.keeping.keep_noreturn.Goals as goal

pub returns-then-is_ret : goal.returns-then-is_ret
returns-then-is_ret c =
    let is = sym c.is_ret.ensures ∙ c.if-is_ret.true in
    on_ok_weaker c.keep.result (λ w. kept c.args.m.now c.args.ps.now c.requires.numbering NoReturn c.args.k.0 c.args.op.now c.args.s.now c.keep.new.s 1
    c.bits.result w.0 refl c.requires.long
    (ret_concerned c.args.op.now is)
    (never c.args.m.now c.args.ps.now NoReturn c.args.op.now 1 c.bits.result c.bits.ensures (λ held. ret_fails c.args.m.now held c.args.op.now is)
    (λ y none. none)) w.1 w.2) c.keep.ensures

pub returns : goal.returns
returns c =
    let other = sym c.is_ret.ensures ∙ c.if-is_ret.false in
    unconcerned c.args.m.now c.args.ps.now c.requires.numbering NoReturn c.args.k.0 c.args.op.now c.args.s.now
    (λ held. rest_stays c.args.m.now held c.args.op.now other) (rest_free c.args.op.now other)
