use Rattle.std.proofs.Common.{arith, ◌≡◌, length, sym, ap, ◌∙◌}
use Rattle.std.specs.Vec.{vec_len}
use Rattle.std.proofs.lemmas.Bool.{eq-eqb, eqb-true}
use Rattle.std.proofs.lemmas.List.{nil_from_length}
use Rattle.manifest.proofs.Texts.{parted_none, parted_some}
use Rattle.manifest.proofs.spelling.part.Goals as goal

pub returns-in_ok-push : goal.returns-in_ok-push
returns-in_ok-push c = c.in_ok-push.ensures.items ∙ parted_some c.args.text.now.items
    (λ none. let long : vec_len c.args.text.now ≡ 0 = omega (arith, ap length none, c.args.text.now.ok.0) in
    let t = eq-eqb (vec_len c.args.text.now) 0 long in let e = c.is_empty.ensures in let f = c.if-not-is_empty.true in cc)

pub returns-else-not-is_empty : goal.returns-else-not-is_empty
returns-else-not-is_empty c =
    let long : vec_len c.args.text.now ≡ 0 = eqb-true (vec_len c.args.text.now) 0 (sym c.is_empty.ensures ∙ c.if-not-is_empty.false) in
    parted_none c.args.text.now.items (nil_from_length c.args.text.now.items (omega (arith, long, c.args.text.now.ok.0)))
