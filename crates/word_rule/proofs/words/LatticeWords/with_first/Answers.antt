use Rattle.std.proofs.Common.{◌≡◌, ◌+◌, ◌++◌, ◌∷◌, [], List, length, ap, sym, ◌∙◌, subst}
use Rattle.std.proofs.lemmas.List.{length_push}
use Rattle.fix_core.proofs.Opening.{opening_long}
use Rattle.atomic_table.specs.Table.{opening}
use Rattle.rule_terms.specs.System.{System, IsSystem}
use Rattle.dep_graph.specs.Row.{Row}
use Rattle.dep_graph.specs.Graph.{IsGraphOf}
use Rattle.fix_core.specs.Machine.{opening_words}
use Rattle.word_rule.specs.declared.view.Key.{Key}
use Rattle.word_rule.specs.Views.{first_view}
use Rattle.word_rule.specs.Rule.{IsRuled}
use Rattle.word_rule.proofs.Joins.{opens}
use Rattle.word_rule.proofs.Beginning.{inputs_inside, rows_read, rows_few}
use Rattle.word_rule.proofs.words.LatticeWords.with_first.Goals as goal

pub of_words-requires : goal.of_words-requires
of_words-requires c =
    let k : Key = record { system = c.of.result; graph = c.of-2.result; workers = c.args.workers } in
    let is : IsSystem k.system.value = subst IsSystem (sym c.of.ensures) c.count.ensures.system in
    let graph : IsGraphOf k.system.value k.graph.value =
    subst (λ (y : System × List Row). IsGraphOf y.0 y.1) (λ j. (sym c.of.ensures j, sym c.of-2.ensures j)) c.requires.graph in
    let list : c.as_slice.result.now ≡ opening_words k.workers 0 k.system.value.masks ++ 0 ∷ [] =
    c.as_slice.ensures.value ∙ c.in_ok-list.ensures ∙ ap (λ (x : System). opening_words k.workers 0 x.masks ++ 0 ∷ []) (sym c.of.ensures) in
    subst (λ ws. IsRuled k (opening ws [] (first_view k))) (sym list) (opens k is graph c.requires.workers.0 c.requires.workers.1)

pub invariant_of-words-clause-inner : goal.invariant_of-words-clause-inner
invariant_of-words-clause-inner c = inputs_inside c.args.s.now c.count.ensures.system

pub invariant_of-words-clause-reads : goal.invariant_of-words-clause-reads
invariant_of-words-clause-reads c = rows_read c.args.s.now c.args.g.now c.requires.graph

pub invariant_of-words-clause-few : goal.invariant_of-words-clause-few
invariant_of-words-clause-few c = rows_few c.args.s.now c.args.g.now c.requires.graph

pub invariant_of-words-clause-rows : goal.invariant_of-words-clause-rows
invariant_of-words-clause-rows c = c.requires.graph.long

pub invariant_of-words-clause-sized : goal.invariant_of-words-clause-sized
invariant_of-words-clause-sized c =
    c.in_ok-table.ensures.0 ∙ ap length (c.as_slice.ensures.value ∙ c.in_ok-list.ensures) ∙ length_push (opening_words c.args.workers 0 c.args.s.now.masks) 0 ∙
    ap (λ n. n + 1) (opening_long c.args.workers 0 c.args.s.now.masks)
