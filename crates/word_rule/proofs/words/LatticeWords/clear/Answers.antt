use Rattle.std.proofs.Common.{◌<◌, length, sym, subst, arith}
use Rattle.rule_terms.specs.System.{System}
use Rattle.word_rule.proofs.Steps.{clears}
use Rattle.word_rule.proofs.words.LatticeWords.clear.Goals as goal

pub load-word-requires : goal.load-word-requires
load-word-requires c =
    let words = c.args.self.now in
    let inside : c.args.p.0 < length words.table.shared.key.system.value.masks =
    subst (λ (s : System). c.args.p.0 < length s.masks) (sym words.about_system) c.requires.position in (
      c.requires.of.0,
      (let sized = words.sized in let l = c.requires.position in omega (arith, sized, l)),
      clears words.table.shared.key _ _ c.args.seat.now.seat.me c.args.p c.requires.of.1 inside,
    )
