use Rattle.std.proofs.Common.{arith, [], ◌∷◌, ◌++◌, List, ℕ, take, sym, ap, ◌∙◌}
use Rattle.std.proofs.lemmas.List.{take_all, take_more}
use Rattle.std.proofs.lemmas.Option.{get_or_from_slice_get, slice_get_within}
use Rattle.module_system.proofs.filling.masks.Goals as goal

pub loop-n-preserved : goal.loop-n-preserved
loop-n-preserved c =
    let within = slice_get_within c.args.p.now.masks c.loop-n.n c.mask.result c.mask.ensures in
    let here = get_or_from_slice_get c.args.p.now.masks c.loop-n.n c.mask.result 0 c.mask.ensures in
    c.in_ok-push.ensures.items ∙ (ap (λ (xs : List ℕ). xs ++ c.mask.result ∷ []) c.loop-n.invariant
    ∙ (ap (λ n. take c.loop-n.n c.args.p.now.masks ++ n ∷ []) (sym here) ∙ sym (take_more c.args.p.now.masks c.loop-n.n 0 within)))

pub returns : goal.returns
returns c =
    c.from_vec.ensures ∙ (c.loop-n.invariant ∙ take_all c.loop-n.n c.args.p.now.masks (omega (arith, c.loop-n-test.false, c.count-n-end.ensures, c.requires)))
