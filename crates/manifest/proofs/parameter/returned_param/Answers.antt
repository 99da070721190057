use Rattle.std.proofs.Common.{◌≡◌, ◌&&◌, ◌||◌, if◌then◌else◌, ℕ, Option, None, slice_get, sym, ap, ◌∙◌}
use Rattle.std.specs.List.{list_any}
use Rattle.lattice_words.specs.Words.{has_bit}
use Rattle.ir_module.specs.declared.module.Param.{Param}
use Rattle.facts.specs.Facts.{noreturn_of}
use Rattle.manifest.specs.Parameter.{has_return_type, lowest}
use Rattle.manifest.specs.Parameter as spec
use Rattle.manifest.specs.Ready.{set_of}
use Rattle.manifest.proofs.Rungs.{same_tests}
use Rattle.manifest.proofs.parameter.returned_param.Goals as goal

pub returns-then-either : goal.returns-then-either
returns-then-either c =
    let set = set_of c.args.held.now in
    let func = c.args.func.now in
    let is : (set (noreturn_of c.args.f.0) || list_any (λ (p : Param). p.attrs.returned) func.params) ≡ c.either.result =
    sym (c.either.ensures ∙ (ap (λ b. b || c.has_returned.result) c.holds-is_noreturn.ensures ∙
    ap (λ b. set (noreturn_of c.args.f.0) || b) (c.has_returned.ensures ∙ ap (list_any (λ (p : Param). p.attrs.returned)) c.as_slice.ensures))) in
    sym (ap {B = Option ℕ} (λ b. if b then None else lowest (spec.returns c.args.held.now.m.now set c.args.f.0 func) 16) (is ∙ c.if-either.true))

pub returns : goal.returns
returns c =
    let m = c.args.held.now.m.now in
    let set = set_of c.args.held.now in
    let func = c.args.func.now in
    let f = c.args.f.0 in
    let is : (set (noreturn_of f) || list_any (λ (p : Param). p.attrs.returned) func.params) ≡ c.either.result =
    sym (c.either.ensures ∙ (ap (λ b. b || c.has_returned.result) c.holds-is_noreturn.ensures ∙
    ap (λ b. set (noreturn_of f) || b) (c.has_returned.ensures ∙ ap (list_any (λ (p : Param). p.attrs.returned)) c.as_slice.ensures))) in
    let same : (λ (i : ℕ). has_return_type m func (slice_get func.params i) && has_bit c.word.result i) ≡ spec.returns m set f func =
    same_tests _ (spec.returns m set f func) (λ i. ap (λ b. has_return_type m func (slice_get func.params i) && b) (c.word.ensures i)) in
    c.lowest.ensures ∙ (ap (λ h. lowest h 16) same ∙ sym (ap {B = Option ℕ} (λ b. if b then None else lowest (spec.returns m set f func) 16) (is ∙
    c.if-either.false)))
