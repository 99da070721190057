use Rattle.std.proofs.Common.{◌≡◌, ℕ, ◌<◌, List, length, ap, sym, subst, ◌∙◌}
use Rattle.rule_terms.specs.Greatest.{IsGreatest}
use Rattle.why_check.specs.Removal.{NoneIsSupported, words_left}
use Rattle.why_check.specs.Judged.{IsGiven}
use Rattle.why_check.proofs.Removed.{after_long, complete_greatest, none_supported}
use Rattle.why_check.proofs.checking.check.Goals as goal

pub least_short-requires : goal.least_short-requires
least_short-requires c = ap length c.in_default.ensures.1 ∙ after_long c.args.s.now.masks c.as_slice.result.now

pub returns-in-Some-least_short-clause-shows : goal.returns-in-Some-least_short-clause-shows
returns-in-Some-least_short-clause-shows c =
    subst (NoneIsSupported c.args.s.now) c.as_slice.ensures
    (none_supported c.args.s.now c.least_short.ensures.system c.as_slice.result.now c.in_default.ensures.0)

pub returns-clause-shows : goal.returns-clause-shows
returns-clause-shows c =
    let s = c.args.s.now in
    let seen = c.as_slice.result.now in
    let system = c.least_short.ensures.system in
    let left : c.first_breach.new.words ≡ words_left s seen = c.in_default.ensures.1 in (
      subst (IsGreatest s) (sym left) (complete_greatest s system seen c.in_default.ensures.0
          (subst (λ (xs : List ℕ). (p : ℕ) → p < length s.masks → IsGiven s xs p) left c.in_default-least_short.ensures.least)),
      subst (NoneIsSupported s) c.as_slice.ensures (none_supported s system seen c.in_default.ensures.0),
    )
