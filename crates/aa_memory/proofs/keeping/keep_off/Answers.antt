use Rattle.std.proofs.Common.{sym}
use Rattle.std.proofs.lemmas.Result.{on_ok_weaker}
use Rattle.aa_memory.specs.Accesses.{access_of}
use Rattle.aa_memory.proofs.Instrs.{address_operand}
use Rattle.aa_memory.proofs.Called.{address_met}
use Rattle.aa_memory.proofs.keeping.keep_off.Goals as goal

pub keep_address-requires-clause-known : goal.keep_address-requires-clause-known
keep_address-requires-clause-known c =
    let operand = address_operand (access_of c.args.a) c.args.op.now c.in-Some.w.now (sym c.in-Some.ensures) in
    c.requires.known operand.0 c.in-Some.w.now operand.1

pub returns-in-Some : goal.returns-in-Some
returns-in-Some c =
    on_ok_weaker c.keep_address.result (λ met. address_met c.args.m.now c.args.ps.now c.args.a c.args.class c.args.k.0 c.args.op.now c.args.s.now
    c.keep_address.new.s c.in-Some.w.now (sym c.in-Some.ensures) met) c.keep_address.ensures
