use Rattle.std.proofs.Common.{◌≡◌, ℕ, ◌<◌, List, [], ◌∷◌, ◌++◌, length, get_or, bit_and, ap, sym, ◌∙◌, arith}
use Rattle.std.specs.Prelude.{vec_capacity}
use Rattle.std.proofs.lemmas.List.{length_push}
use Rattle.attr_ids.specs.declared.ids.PosId.{PosId}
use Rattle.dep_graph.specs.Graph.{row_at}
use Rattle.fix_core.proofs.Gathered.{reader_kept, reader_added}
use Rattle.word_rule.proofs.lists.owe.Goals.{then-read_by-lost-ne0, else-read_by-lost-ne0}
use Rattle.word_rule.proofs.lists.owe.Goals as goal

pub loop-j-preserved : goal.loop-j-preserved
loop-j-preserved c =
    let ds : List PosId = (row_at c.args.g.now c.args.p.0).dependents in
    let reads : List ℕ = (row_at c.args.g.now c.args.p.0).reads in
    let j = c.loop-j.j in
    let same : c.of-dependents.result.now ≡ ds = c.of-dependents.ensures in
    let l : j < length ds = omega (arith, ap length same, c.loop-j-test.true) in
    let z : PosId = record { 0 = 0 } in
    let d : PosId = get_or c.of-dependents.result.now j z in
    let at : get_or ds j z ≡ d = ap (λ xs. get_or xs j z) (sym same) in
    elim c.if-read_by-lost-ne0.branch [
      | then-read_by-lost-ne0 w ↦ (
        ap (λ v. v.items) w.list-is ∙ w.push_reserved.ensures.items ∙ ap (λ xs. xs ++ d ∷ []) c.loop-j.invariant.0 ∙
            sym (reader_added c.args.lost ds reads j d z l c.requires.reads at
            (λ e. w.if-read_by-lost-ne0.true (ap (λ b. bit_and b c.args.lost) c.read_by.ensures ∙ e))),
        grind (arith, w.list-is, w.push_reserved.ensures.items, c.loop-j.invariant.1, length_push),
        ap vec_capacity w.list-is ∙ w.push_reserved.ensures.capacity ∙ c.loop-j.invariant.2,
      )
      | else-read_by-lost-ne0 w ↦ (
        ap (λ v. v.items) w.list-is ∙ c.loop-j.invariant.0 ∙
            sym (reader_kept c.args.lost ds reads j d z l c.requires.reads at (ap (λ b. bit_and b c.args.lost) (sym c.read_by.ensures) ∙
            w.if-read_by-lost-ne0.false)),
        omega (arith, ap (λ v. length v.items) w.list-is, c.loop-j.invariant.1),
        ap vec_capacity w.list-is ∙ c.loop-j.invariant.2,
      )
    ]
