use Rattle.std.proofs.Common.{◌≡◌, ◌++◌, ◌∷◌, [], length, map, take, ap, sym, ◌∙◌}
use Rattle.std.specs.Mem.Slots.{slots_items}
use Rattle.std.proofs.lemmas.List.{take_at}
use Rattle.atomic_table.specs.Table.{State, Final, Seen}
use Rattle.rule_terms.specs.System.{System}
use Rattle.fix_core.specs.Machine.{facts_of}
use Rattle.word_rule.specs.declared.view.Key.{Key}
use Rattle.word_rule.specs.declared.view.View.{View}
use Rattle.word_rule.specs.Rule.{IsRuled}
use Rattle.word_rule.proofs.words.LatticeWords.finish.Goals as goal

pub returns : goal.returns
returns c =
    let k : Key = c.args.self.table.shared.key in
    let last : Final (Seen (IsRuled k) c.args.first.seat.id c.args.first.seat.me.0) (slots_items c.close_with-closed.result.words)
    (slots_items c.close_with-closed.result.slots) = c.close_with-closed.ensures.values.2 in
    let t : State (Unit {0}) View = last.0 in
    let ruled : IsRuled k t = last.1.0 in
    let words : slots_items c.close_with-closed.result.words ≡ ruled.core.words ++ 0 ∷ [] = sym last.2 ∙ ruled.words in
    let many : length ruled.core.words ≡ c.count.result = ruled.keeps.words ∙ ap (λ (s : System). length s.masks) c.args.self.about_system ∙
    sym c.count.ensures.positions in
    record {
      table = t;
      ruled = ruled;
      seat = last.1.1;
      facts = c.from_vec.ensures ∙ c.copy_facts.ensures ∙ ap (λ ws. map facts_of (take c.count.result ws)) words ∙
          ap (map facts_of) (take_at ruled.core.words (0 ∷ []) c.count.result many);
    }
