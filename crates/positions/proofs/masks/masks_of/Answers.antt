use Rattle.std.proofs.Common.{arith, ◌≡◌, ◌++◌, ◌∷◌, [], map, take, length, sym, ap, ◌∙◌}
use Rattle.std.proofs.Math.Seq.{take-length}
use Rattle.facts.specs.Masks.{mask_of}
use Rattle.std.proofs.lemmas.Option.{slice_get-get_or}
use Rattle.positions.proofs.Wording.{map_more}
use Rattle.positions.proofs.masks.masks_of.Goals as goal

pub loop-i-init : goal.loop-i-init
loop-i-init c = c.in_ok-found.ensures.items

pub loop-i-preserved : goal.loop-i-preserved
loop-i-preserved c =
    c.in_ok-push.ensures.items ∙ (ap (λ xs. xs ++ c.mask.result ∷ []) c.loop-i.invariant ∙
    (ap (λ w. map (mask_of c.args.m.now) (take c.loop-i.i c.args.list.now) ++ w ∷ []) c.mask.ensures ∙
    sym (map_more (mask_of c.args.m.now) c.args.list.now c.loop-i.i _ (slice_get-get_or c.args.list.now c.loop-i.i _ (omega (arith, c.loop-i-test.true))))))

pub returns : goal.returns
returns c =
    let end : c.loop-i.i ≡ length c.args.list.now = omega (arith, c.loop-i-test.false, c.loop-i.auto.i-end) in
    c.loop-i.invariant ∙ (ap (λ n. map (mask_of c.args.m.now) (take n c.args.list.now)) end ∙ ap (map (mask_of c.args.m.now)) (take-length c.args.list.now))
