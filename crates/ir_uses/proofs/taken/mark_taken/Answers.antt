use Rattle.std.proofs.Common.{◌||◌, ℕ, List, Bool, refl, subst}
use Rattle.std.specs.List.{list_any}
use Rattle.ir_module.specs.declared.op.Written.{Written}
use Rattle.ir_module.specs.declared.module.GlobalVar.{GlobalVar}
use Rattle.ir_module.specs.declared.module.Func.{Func}
use Rattle.ir_module.specs.Operands.{optional}
use Rattle.ir_module.specs.Calls.{names, is_taken, is_taken_by}
use Rattle.ir_uses.specs.Raised.{Raises}
use Rattle.ir_uses.proofs.Raising.{raised_twice}
use Rattle.ir_uses.proofs.taken.mark_taken.Goals as goal

pub returns : goal.returns
unfolding is_taken
returns c =
    let parts : ℕ → Bool = λ f. list_any (names f) c.args.m.now.parts in
    let globals : ℕ → Bool = λ f. list_any (λ g. list_any (names f) (optional g.init)) c.args.m.now.globals in
    let headers : ℕ → Bool = λ f. list_any (λ g. list_any (names f) g.extra) c.args.m.now.funcs in
    let segs : ℕ → Bool = λ f. list_any (is_taken_by c.args.m.now f) c.args.m.now.segs in
    let by_parts : Raises c.args.flags.now c.mark_all.new.flags parts =
    subst (λ (xs : List Written). Raises c.args.flags.now c.mark_all.new.flags (λ f. list_any (names f) xs)) c.as_slice.ensures c.mark_all.ensures in
    let by_globals : Raises c.mark_all.new.flags c.mark_globals.new.flags globals =
    subst (λ (xs : List GlobalVar). Raises c.mark_all.new.flags c.mark_globals.new.flags (λ f. list_any (λ g. list_any (names f) (optional g.init)) xs))
    c.as_slice-2.ensures c.mark_globals.ensures in
    let by_headers : Raises c.mark_globals.new.flags c.mark_headers.new.flags headers =
    subst (λ (xs : List Func). Raises c.mark_globals.new.flags c.mark_headers.new.flags (λ f. list_any (λ g. list_any (names f) g.extra) xs))
    c.as_slice-3.ensures c.mark_headers.ensures in
    let two = raised_twice c.args.flags.now c.mark_all.new.flags c.mark_globals.new.flags parts globals (λ f. parts f || globals f) by_parts by_globals
    (λ f. refl) in
    let three = raised_twice c.args.flags.now c.mark_globals.new.flags c.mark_headers.new.flags (λ f. parts f || globals f) headers
    (λ f. parts f || globals f || headers f) two by_headers (λ f. refl) in
    raised_twice c.args.flags.now c.mark_headers.new.flags c.mark_segs.new.flags (λ f. parts f || globals f || headers f) segs
    (λ f. is_taken c.args.m.now f) three c.mark_segs.ensures (λ f. refl)
