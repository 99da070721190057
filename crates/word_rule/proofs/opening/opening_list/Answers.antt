use Rattle.lattice_words.specs.declared.word.TheConstants.{DIRTY}
use Rattle.fix_core.specs.Machine.{opening_words}
use Rattle.std.proofs.Common.{◌≡◌, ◌+◌, ◌*◌, ◌%◌, ◌^◌, ◌<◌, ◌++◌, ◌∷◌, [], List, ℕ, length, take, bit_or, ap, refl, ◌∙◌, arith, mod-lt}
use Rattle.word_rule.proofs.Beginning.{opening_more}
use Rattle.word_rule.proofs.Remembering.{own_bit}
use Rattle.word_rule.proofs.opening.opening_list.Goals as goal

pub loop-p-preserved : goal.loop-p-preserved
loop-p-preserved c =
    let p = c.loop-p.p in
    let workers = c.args.workers in
    let few : p % workers < 16 = (let l = mod-lt p c.requires.0 in let m = c.requires.1 in omega (arith, l, m)) in
    let inside : p < length c.args.s.now.masks = (let l = c.loop-p-test.true in let e = c.count-p-end.ensures.positions in omega (arith, l, e)) in
    let bit : ℕ = 1 * 2 ^ (DIRTY + p % workers) % 18446744073709551616 in
    let masks : List ℕ = c.args.s.now.masks in
    let next : List ℕ = opening_words workers 0 (take p masks) ++ bit_or c.mask.result bit ∷ [] in
    let before : c.push.new.self.items ≡ next = c.in_ok-push.ensures.items ∙ ap (λ (xs : List ℕ). xs ++ bit_or c.mask.result bit ∷ []) c.loop-p.invariant in
    let after : next ≡ opening_words workers 0 (take (p + 1) masks) =
    opening_more workers masks p c.mask.result bit inside c.mask.ensures.mask (own_bit (p % workers) (p % workers) refl few) in
    before ∙ after
