use Rattle.std.proofs.Common.{◌<◌, length, slice_get, sym, subst, ◌∙◌}
use Rattle.std.specs.Option.{option_map_or}
use Rattle.ir_module.specs.declared.module.Func.{Func}
use Rattle.ir_module.specs.Calls.{is_exact}
use Rattle.manifest.specs.Added.{joined}
use Rattle.manifest.specs.Function.{at_function}
use Rattle.manifest.specs.Return.{at_return}
use Rattle.manifest.specs.Parameter.{at_param, returned_param}
use Rattle.manifest.specs.Ready.{set_of}
use Rattle.manifest.proofs.Exact.{exact_is}
use Rattle.manifest.proofs.Joining.{both, put_out, put_in}
use Rattle.manifest.proofs.printing.add_at_header.Goals as goal

pub add_at_params-requires-clause-few : goal.add_at_params-requires-clause-few
add_at_params-requires-clause-few c =
    subst (λ o. option_map_or (λ (g : Func). length g.params) o 0 < 256) c.requires.there (c.requires.ready.few_params c.args.f.0)

pub returns-then-not-is_exact : goal.returns-then-not-is_exact
returns-then-not-is_exact c =
    put_out c.args.out.now.items _ _ (exact_is c.args.held.now.m.now c.args.f.0 ∙ (sym c.is_exact.ensures ∙ c.if-not-is_exact.true))

pub returns : goal.returns
returns c =
    let m = c.args.held.now.m.now in
    let set = set_of c.args.held.now in
    let f = c.args.f.0 in
    let func = c.args.func.now in
    let out = c.args.out.now.items in
    let params = joined (λ at. at_param set f (returned_param m set f func) at (slice_get func.params at)) (length func.params) in
    put_in out c.add_at_function.new.out.items (is_exact m f) _ (exact_is m f ∙ (sym c.is_exact.ensures ∙ c.if-not-is_exact.false))
    (both out c.add_at_params.new.out.items c.add_at_function.new.out.items _ (at_function m set f func)
    (both out c.add_at_return.new.out.items c.add_at_params.new.out.items
    (at_return set f func) params c.in_ok-add_at_return.ensures c.in_ok-add_at_params.ensures)
    c.in_ok-add_at_function.ensures)
