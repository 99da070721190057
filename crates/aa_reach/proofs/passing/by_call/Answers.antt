use Rattle.std.proofs.Common.{arith, ◌≡◌, ap, subst, ◌∙◌}
use Rattle.std.proofs.lemmas.Result.{IfOk-weaker}
use Rattle.lattice_words.specs.declared.word.TheConstants.{FACTS}
use Rattle.facts.specs.Bodies.{rank, body_count}
use Rattle.rule_says.specs.Saying.{Says}
use Rattle.aa_reach.specs.Asked.{IsByRow, IsByOutside, AsksCall, SpeaksCall}
use Rattle.aa_reach.proofs.Calls.{says_inner, says_outer}
use Rattle.aa_reach.proofs.Listed.{ranked, rank_within, callee_within, row_low, row_listed}
use Rattle.aa_reach.proofs.passing.by_call.Goals as goal

pub row-requires : goal.row-requires
row-requires c =
    let within = callee_within c.args.m.now c.args.op.now c.in-Some.h.0 c.in-Some.ensures.some in
    rank_within c.args.m.now c.args.ranks.now c.requires.ranks c.in-Some.h.0 (omega (arith, within))

pub by_row-requires : goal.by_row-requires
by_row-requires c =
    let within = callee_within c.args.m.now c.args.op.now c.in-Some.h.0 c.in-Some.ensures.some in
    let same = ranked c.args.m.now c.args.ranks.now c.requires.ranks c.in-Some.h.0 c.row.result (omega (arith, within)) c.row.ensures in
    let low = row_low c.args.m.now c.in-Some.h.0 (omega (arith, within)) in
    row_listed c.args.m.now c.args.ps.now c.requires.numbering c.row.result c.args.k (omega (arith, same, low)) c.requires.word

pub returns-in-Some : goal.returns-in-Some
returns-in-Some c =
    let within = callee_within c.args.m.now c.args.op.now c.in-Some.h.0 c.in-Some.ensures.some in
    let same = ranked c.args.m.now c.args.ranks.now c.requires.ranks c.in-Some.h.0 c.row.result (omega (arith, within)) c.row.ensures in
    IfOk-weaker c.by_row.result (λ t. IsByRow c.args.ps.now t c.row.result c.args.k)
    (λ t. Says c.args.m.now c.args.ps.now FACTS t (AsksCall c.args.m.now c.args.k c.args.op.now) (SpeaksCall c.args.m.now c.args.k c.args.op.now))
    (λ t w. says_inner c.args.m.now c.args.ps.now c.requires.numbering c.args.k c.args.op.now t c.in-Some.h.0 c.in-Some.ensures.some (subst (λ r.
    IsByRow c.args.ps.now t r c.args.k) same w)) c.by_row.ensures

pub returns-in-None : goal.returns-in-None
returns-in-None c =
    let same = ranked c.args.m.now c.args.ranks.now c.requires.ranks c.len.result c.row-in-None.result (omega (arith, c.len.ensures)) c.row-in-None.ensures in
    let outside : c.row-in-None.result ≡ body_count c.args.m.now = same ∙ ap (rank c.args.m.now) c.len.ensures in
    IfOk-weaker c.by_outside.result (λ t. IsByOutside c.args.ps.now t c.row-in-None.result c.args.k c.promises-promised.result)
    (λ t. Says c.args.m.now c.args.ps.now FACTS t (AsksCall c.args.m.now c.args.k c.args.op.now) (SpeaksCall c.args.m.now c.args.k c.args.op.now))
    (λ t w. says_outer c.args.m.now c.args.ps.now c.requires.numbering c.args.k c.args.op.now t c.promises-promised.result c.requires.call
    c.in-None.ensures.none c.promises-promised.ensures (subst (λ r. IsByOutside c.args.ps.now t r c.args.k c.promises-promised.result) outside w))
    c.by_outside.ensures
