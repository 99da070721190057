use Rattle.std.proofs.Common.{arith, ◌≡◌, ◌++◌, ℕ, length, map, slice_get, slice_index, sym, ap, subst, ◌∙◌}
use Rattle.manifest.specs.Added.{inserted, joined}
use Rattle.manifest.specs.Additions.{func_additions}
use Rattle.rule_says.specs.Reading.{facts_in}
use Rattle.manifest.proofs.Joining.{begun_none, grown_none}
use Rattle.manifest.proofs.Exact.{insertions_are}
use Rattle.manifest.proofs.printing.insertions.Goals as goal

pub loop-f-init : goal.loop-f-init
loop-f-init c =
    let set = facts_in c.args.p.now (slice_index c.args.words.now) in
    c.new-out.ensures.items ∙ begun_none (λ f. func_additions c.args.m.now set f (slice_get c.args.m.now.funcs f))

pub loop-f-preserved : goal.loop-f-preserved
loop-f-preserved c =
    let set = facts_in c.args.p.now (slice_index c.args.words.now) in
    let is = c.in_ok-add_at_func.ensures ∙ ap (λ ws. c.loop-f.out.items ++ map inserted
    (func_additions c.args.m.now (facts_in c.args.p.now (slice_index ws)) c.loop-f.f (slice_get c.args.m.now.funcs c.loop-f.f))) c.as_slice.ensures in
    grown_none (λ f. func_additions c.args.m.now set f (slice_get c.args.m.now.funcs f)) c.loop-f.out.items c.add_at_func.new.out.items c.loop-f.f
    c.loop-f.invariant is

pub returns : goal.returns
returns c =
    let set = facts_in c.args.p.now (slice_index c.args.words.now) in
    let end : c.loop-f.f ≡ length c.args.m.now.funcs = omega (arith, c.loop-f-test.false, c.loop-f.auto.f-end, c.len-f-end.ensures) in
    c.from_vec.ensures ∙
    (subst (λ (n : ℕ). c.loop-f.out.items ≡ map inserted (joined (λ f. func_additions c.args.m.now set f
    (slice_get c.args.m.now.funcs f)) n)) end c.loop-f.invariant ∙
    sym (insertions_are c.args.m.now set))
