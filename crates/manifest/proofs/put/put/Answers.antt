use Rattle.std.proofs.Common.{arith, ◌≡◌, ◌++◌, [], length, sym, ap, ◌∙◌}
use Rattle.std.specs.Vec.{vec_len}
use Rattle.std.proofs.lemmas.Bool.{eq-eqb, eqb-true}
use Rattle.std.proofs.lemmas.List.{append-nil, nil_from_length}
use Rattle.manifest.proofs.Texts.{put_none, put_some}
use Rattle.manifest.proofs.put.put.Goals as goal

pub returns-in_ok-push : goal.returns-in_ok-push
returns-in_ok-push c = λ subject attrs is.
    c.in_ok-push.ensures.items ∙ ap (λ xs. c.args.out.now.items ++ xs) (sym (put_some c.args.at c.args.place subject attrs c.from_vec.result
    (c.from_vec.ensures ∙ is)
    (λ none. let empty = sym c.from_vec.ensures ∙ none in let long : vec_len c.args.words ≡ 0 = omega (arith, ap length empty, c.args.words.ok.0) in
    let t = eq-eqb (vec_len c.args.words) 0 long in let e = c.is_empty.ensures in let f = c.if-not-is_empty.true in cc)))

pub returns-else-not-is_empty : goal.returns-else-not-is_empty
returns-else-not-is_empty c = λ subject attrs is.
    let long : vec_len c.args.words ≡ 0 = eqb-true (vec_len c.args.words) 0 (sym c.is_empty.ensures ∙ c.if-not-is_empty.false) in
    let none : c.args.words.items ≡ [] = nil_from_length c.args.words.items (omega (arith, long, c.args.words.ok.0)) in
    sym (append-nil c.args.out.now.items) ∙ ap (λ xs. c.args.out.now.items ++ xs) (sym (put_none c.args.at c.args.place subject attrs (sym is ∙ none)))
