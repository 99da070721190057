use Rattle.std.proofs.Common.{arith, ◌≡◌, ◌<◌, ◌++◌, ℕ, length, map, slice_get, sym, ap, subst, ◌∙◌}
use Rattle.ir_module.specs.Places.{spot}
use Rattle.positions.proofs.Finding.{is_read}
use Rattle.manifest.specs.Added.{inserted, joined}
use Rattle.manifest.specs.Additions.{instr_additions}
use Rattle.manifest.specs.Ready.{set_of}
use Rattle.manifest.proofs.Joining.{begun, grown}
use Rattle.manifest.proofs.printing.add_at_instrs.Goals as goal

pub loop-at-init : goal.loop-at-init
loop-at-init c = λ k. begun (λ at. instr_additions c.args.held.now.m.now (set_of c.args.held.now) (spot k at)
    (slice_get c.args.instrs.now at)) c.args.out.now.items

pub loop-at-preserved : goal.loop-at-preserved
loop-at-preserved c = λ k.
    let m = c.args.held.now.m.now in
    let set = set_of c.args.held.now in
    let here = is_read c.args.instrs.now c.loop-at.at c.index-instrs-at.result (let inside : c.loop-at.at < length c.args.instrs.now = omega
    (arith, c.loop-at-test.true) in inside) c.index-instrs-at.is in
    grown (λ at. instr_additions m set (spot k at) (slice_get c.args.instrs.now at)) c.args.out.now.items c.loop-at.out.items
    c.add_at_instr.new.out.items c.loop-at.at
    (c.loop-at.invariant k)
    (c.in_ok-add_at_instr.ensures (spot k c.loop-at.at) ∙ ap (λ o. c.loop-at.out.items ++ map inserted (instr_additions m set
    (spot k c.loop-at.at) o)) (sym here))

pub returns : goal.returns
returns c = λ k.
    let m = c.args.held.now.m.now in
    let set = set_of c.args.held.now in
    let end : c.loop-at.at ≡ length c.args.instrs.now = omega (arith, c.loop-at-test.false, c.loop-at.auto.at-end) in
    subst (λ (n : ℕ). c.loop-at.out.items ≡ c.args.out.now.items ++ map inserted (joined (λ at. instr_additions m set (spot k at)
    (slice_get c.args.instrs.now at)) n)) end
    (c.loop-at.invariant k)
