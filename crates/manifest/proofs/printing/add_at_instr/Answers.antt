use Rattle.std.proofs.Common.{◌≡◌, [], Some, None, sym, ap, ◌∙◌}
use Rattle.std.specs.Option.{option_copied, option_map_or}
use Rattle.ir_module.specs.Calls.{call_of, inner_callee}
use Rattle.manifest.specs.Additions.{call_additions}
use Rattle.manifest.specs.Ready.{set_of}
use Rattle.manifest.proofs.Joining.{nothing, same_added}
use Rattle.manifest.proofs.printing.add_at_instr.Goals as goal

pub returns-in_ok-add_call-in-Some : goal.returns-in_ok-add_call-in-Some
returns-in_ok-add_call-in-Some c = λ s.
    let m = c.args.held.now.m.now in
    let set = set_of c.args.held.now in
    let op = c.args.instr.now.op in
    let there : call_of op ≡ Some c.in-Some.call.now = sym c.call.ensures ∙ ap option_copied c.in-Some.is in
    same_added c.args.out.now.items c.add_call.new.out.items _ _ (c.in_ok-add_call-in-Some.ensures s)
    (ap (λ k. call_additions m set s k c.in-Some.call.now) c.inner_callee-callee.ensures.callee ∙
    sym (ap (λ o. option_map_or (call_additions m set s (inner_callee m op)) o []) there))

pub returns-in-None : goal.returns-in-None
returns-in-None c = λ s.
    let m = c.args.held.now.m.now in
    let set = set_of c.args.held.now in
    let op = c.args.instr.now.op in
    let there : call_of op ≡ None = sym c.call.ensures ∙ ap option_copied c.in-None.is in
    same_added c.args.out.now.items c.args.out.now.items _ _ (nothing c.args.out.now.items)
    (sym (ap (λ o. option_map_or (call_additions m set s (inner_callee m op)) o []) there))
