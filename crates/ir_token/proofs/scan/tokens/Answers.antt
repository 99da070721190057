use Rattle.std.proofs.Common.{◌≡◌, ◌+◌, ◌<◌, ◌≤◌, true, false, length, Ok, Err, refl, sym, ap, ◌∙◌, subst, arith}
use Rattle.std.proofs.lemmas.Bool.{both_ways}
use Rattle.ir_token.specs.declared.TheConstants.{MAX_TOKENS}
use Rattle.ir_token.specs.declared.token.LexRefusal.TheVariants.{BadByte, OpenString, LeftOut, TooMany}
use Rattle.ir_token.specs.Bytes.{is_label}
use Rattle.ir_token.specs.Texts.{IsToken}
use Rattle.ir_token.specs.LeftOut.{IsLeft, past_gap}
use Rattle.ir_token.specs.Ends.{past}
use Rattle.ir_token.proofs.Past.{past_within}
use Rattle.ir_token.specs.Lists.{Reaches, Reads}
use Rattle.attr_ids.specs.declared.insertion.Span.{Span}
use Rattle.ir_token.specs.Lists.Reading.{Listed, BadAt, OpenAt, LeftAt}
use Rattle.ir_token.proofs.Chains.{IsScanned, scanned_kept, scanned_counted, run_stays}
use Rattle.ir_token.proofs.Unique.{tells_all, token_moves}
use Rattle.ir_token.proofs.scan.tokens.Goals as goal
use Rattle.ir_token.proofs.scan.tokens.Goals.{then-run-at, else-run-at, then-count-lt-MAX_TOKENS+in_ok-push, else-count-lt-MAX_TOKENS}

pub returns-in-Bad-clause-only : goal.returns-in-Bad-clause-only
returns-in-Bad-clause-only c =
    let read = c.loop-at.invariant.0 in
    tells_all c.args.text.now (Err (BadByte c.loop-at.at)) (BadAt c.loop-at.at) ((read.tokens, read.chain), c.in-Bad.ensures) refl

pub returns-in-Open-clause-only : goal.returns-in-Open-clause-only
returns-in-Open-clause-only c =
    let read = c.loop-at.invariant.0 in
    tells_all c.args.text.now (Err (OpenString c.loop-at.at)) (OpenAt c.loop-at.at) ((read.tokens, read.chain), c.in-Open.ensures) refl

pub returns-then-is_left-clause-only : goal.returns-then-is_left-clause-only
returns-then-is_left-clause-only c =
    let read = c.loop-at.invariant.0 in
    tells_all c.args.text.now (Err (LeftOut (record { from = c.loop-at.at; to = c.in-Token.end }))) (LeftAt c.loop-at.at c.in-Token.end)
    ((read.tokens, read.chain), (c.in-Token.kind, (c.in-Token.ensures, c.is_left.ensures.0 c.if-is_left.true))) (refl, refl)

pub loop-at-preserved : goal.loop-at-preserved
loop-at-preserved c =
    let read = c.loop-at.invariant.0 in
    let token : IsToken c.args.text.now c.loop-at.at c.in-Token.kind c.in-Token.end = c.in-Token.ensures in
    let moves : c.loop-at.at < c.in-Token.end = token_moves c.args.text.now c.loop-at.at c.in-Token.kind c.in-Token.end token in
    let kept = λ (left : IsLeft c.args.text.now c.loop-at.at c.in-Token.kind c.in-Token.end). both_ways c.is_left.result c.if-is_left.false
    (c.is_left.ensures.1 left) in
    let gap = sym c.past_gap-at-in-loop-at.ensures.value in
    let run : c.if-run-at.run ≡ past is_label c.args.text.now c.loop-at.at = elim c.if-run-at.branch [
      | then-run-at w ↦ w.run-is
          ∙ w.past_label-run.ensures.value
      | else-run-at w ↦ w.run-is ∙ sym (c.loop-at.invariant.4 w.if-run-at.false)
    ] in
    let top : c.if-run-at.run ≤ length c.args.text.now = omega (arith, (past_within is_label c.args.text.now c.loop-at.at c.loop-at.invariant.1).1) in
    let scanned : IsScanned MAX_TOKENS c.args.text.now c.if-count-lt-MAX_TOKENS.items.items (c.loop-at.count + 1) (past_gap c.args.text.now c.in-Token.end) =
    elim c.if-count-lt-MAX_TOKENS.branch [
      | then-count-lt-MAX_TOKENS+in_ok-push w ↦ subst
          (λ items. IsScanned MAX_TOKENS c.args.text.now items (c.loop-at.count + 1) (past_gap c.args.text.now c.in-Token.end))
          (sym (ap (λ v. v.items) w.items-is ∙ w.in_ok-push.ensures.items))
          (scanned_kept MAX_TOKENS c.args.text.now c.loop-at.items.items c.loop-at.count c.loop-at.at c.in-Token.kind c.in-Token.end read token kept)
      | else-count-lt-MAX_TOKENS w ↦ subst
          (λ items. IsScanned MAX_TOKENS c.args.text.now items (c.loop-at.count + 1) (past_gap c.args.text.now c.in-Token.end))
          (sym (ap (λ v. v.items) w.items-is))
          (scanned_counted MAX_TOKENS c.args.text.now c.loop-at.items.items c.loop-at.count c.loop-at.at c.in-Token.kind c.in-Token.end
          w.if-count-lt-MAX_TOKENS.false read token kept)
    ] in (
      subst (λ at. IsScanned MAX_TOKENS c.args.text.now c.if-count-lt-MAX_TOKENS.items.items (c.loop-at.count + 1) at) gap scanned,
      c.past_gap-at-in-loop-at.ensures.within.1,
      omega (arith, c.past_gap-at-in-loop-at.ensures.within.0),
      top,
      λ inside. run_stays c.args.text.now c.loop-at.at c.past_gap-at-in-loop-at.result c.if-run-at.run
          (omega (arith, c.past_gap-at-in-loop-at.ensures.within.0)) run top inside,
    )

pub returns-then-count-gt-MAX_TOKENS-clause-only : goal.returns-then-count-gt-MAX_TOKENS-clause-only
returns-then-count-gt-MAX_TOKENS-clause-only c =
    let read = c.loop-at.invariant.0 in
    let end : c.loop-at.at ≡ length c.args.text.now = omega arith in
    let many : MAX_TOKENS < c.loop-at.count = omega arith in
    tells_all c.args.text.now (Err (TooMany c.loop-at.count)) (Listed read.tokens) (subst (λ at. Reaches c.args.text.now 0 read.tokens at) end read.chain)
    (sym read.counted, many)

pub returns-clause-only : goal.returns-clause-only
returns-clause-only c =
    let read = c.loop-at.invariant.0 in
    let end : c.loop-at.at ≡ length c.args.text.now = omega arith in
    let few : c.loop-at.count ≤ MAX_TOKENS = omega arith in
    let counted : length read.tokens ≤ MAX_TOKENS = omega (arith, read.counted) in
    tells_all c.args.text.now (Ok c.from_vec.result) (Listed read.tokens) (subst (λ at. Reaches c.args.text.now 0 read.tokens at) end read.chain)
    (c.from_vec.ensures ∙ read.kept few, counted)

pub returns-then-is_left-clause-left_out : goal.returns-then-is_left-clause-left_out
returns-then-is_left-clause-left_out c = λ word told.
    let read = c.loop-at.invariant.0 in
    let same : record { from = c.loop-at.at; to = c.in-Token.end } ≡ word = cc in
    subst (λ (w : Span). Reads c.args.text.now (LeftAt w.from w.to)) same
    ((read.tokens, read.chain), (c.in-Token.kind, (c.in-Token.ensures, c.is_left.ensures.0 c.if-is_left.true)))

pub loop-at-smaller : goal.loop-at-smaller
loop-at-smaller c =
    let moves : c.loop-at.at < c.in-Token.end = token_moves c.args.text.now c.loop-at.at c.in-Token.kind c.in-Token.end c.in-Token.ensures in
    omega (arith, c.past_gap-at-in-loop-at.ensures.within.0, c.past_gap-at-in-loop-at.ensures.within.1)
