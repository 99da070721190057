use Rattle.std.proofs.Common.{◌+◌, ◌<◌, length, slice_set, get_or, Bool, false, refl, sym, subst, arith}
use Rattle.std.proofs.lemmas.Option.{slice_get_within, slice_get-get_or, slice_get_read}
use Rattle.ir_module.specs.declared.module.Func.{Func}
use Rattle.ir_uses.proofs.Raising.{IsSettled, settled_more}
use Rattle.ir_uses.proofs.bodies.settle.Goals as goal

pub loop-f-preserved : goal.loop-f-preserved
loop-f-preserved c =
    let func : Func = c.index-funcs-f.result in
    let here = slice_get_read c.args.funcs.now (length c.args.funcs.now) c.loop-f.f func refl c.loop-f-test.true c.index-funcs-f.is in
    let taken : Bool = get_or c.loop-f.flags c.loop-f.f false in
    let inside : c.loop-f.f < length c.loop-f.flags = omega (arith, c.loop-f-test.true, c.loop-f.auto.flags, c.requires) in
    let more = settled_more c.args.funcs.now c.args.flags.now c.loop-f.flags c.loop-f.f func taken c.loop-f.invariant inside here
    (slice_get-get_or c.loop-f.flags c.loop-f.f false inside) in
    subst (λ (b : Bool). IsSettled c.args.funcs.now c.args.flags.now (slice_set c.loop-f.flags c.loop-f.f b) (c.loop-f.f + 1)) (sym c.is_open.ensures) more

pub returns : goal.returns
returns c f func taken e k =
    let inside : f < c.loop-f.f = omega (arith, slice_get_within c.args.funcs.now f func e, c.loop-f-test.false) in
    c.loop-f.invariant.first f func taken inside e k
