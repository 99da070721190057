use Rattle.std.proofs.Common.{arith, ◌≡◌, ◌<◌, ◌++◌, ℕ, length, map, slice_get, sym, ap, subst, ◌∙◌}
use Rattle.std.proofs.lemmas.Option.{slice_get-get_or}
use Rattle.manifest.specs.Added.{inserted, joined}
use Rattle.manifest.specs.Parameter.{at_param}
use Rattle.manifest.specs.Ready.{set_of}
use Rattle.manifest.proofs.Joining.{begun, grown}
use Rattle.manifest.proofs.printing.add_at_params.Goals as goal

pub loop-at-init : goal.loop-at-init
loop-at-init c = begun (λ at. at_param (set_of c.args.held.now) c.args.f.0 c.returned_param-returned.result at
    (slice_get c.args.func.now.params at)) c.args.out.now.items

pub loop-at-preserved : goal.loop-at-preserved
loop-at-preserved c =
    let set = set_of c.args.held.now in
    let r = c.returned_param-returned.result in
    let params = c.args.func.now.params in
    let list = c.as_slice-params.result.now in
    let inside : c.loop-at.at < length list = omega (arith, c.loop-at-test.true) in
    grown (λ at. at_param set c.args.f.0 r at (slice_get params at)) c.args.out.now.items c.loop-at.out.items c.add_at_param.new.out.items c.loop-at.at
    c.loop-at.invariant
    (c.in_ok-add_at_param.ensures ∙ ap (λ o. c.loop-at.out.items ++ map inserted (at_param set c.args.f.0 r c.loop-at.at o))
    (sym (ap (λ xs. slice_get xs c.loop-at.at) (sym c.as_slice-params.ensures) ∙ slice_get-get_or list c.loop-at.at _ inside)))

pub returns : goal.returns
returns c =
    let set = set_of c.args.held.now in
    let params = c.args.func.now.params in
    let end : c.loop-at.at ≡ length params = omega (
      arith,
      c.loop-at-test.false,
      c.loop-at.auto.at-end,
      ap length
          c.as_slice-params.ensures,
    ) in
    subst (λ (n : ℕ). c.loop-at.out.items ≡ c.args.out.now.items ++ map inserted
    (joined (λ at. at_param set c.args.f.0 c.returned_param-returned.result at (slice_get params at)) n)) end c.loop-at.invariant ∙
    ap (λ r. c.args.out.now.items ++ map inserted (joined (λ at. at_param set c.args.f.0 r at (slice_get params at))
    (length params))) c.returned_param-returned.ensures
