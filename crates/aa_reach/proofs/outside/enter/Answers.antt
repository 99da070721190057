use Rattle.std.proofs.Common.{arith, ◌≡◌, sym, ap, subst, ◌∙◌}
use Rattle.std.proofs.lemmas.Result.{on_ok_weaker}
use Rattle.facts.specs.declared.pos.Pos.TheVariants as pos
use Rattle.facts.specs.Bodies.{rank, body_count}
use Rattle.lattice_words.specs.declared.word.TheConstants.{FACTS}
use Rattle.rule_says.specs.Meeting.{IsMet}
use Rattle.aa_reach.specs.Asked.{IsByRow}
use Rattle.aa_reach.proofs.Calls.{says_row}
use Rattle.aa_reach.proofs.Passed.{entered, not_entered}
use Rattle.aa_reach.proofs.Listed.{ranked, rank_within, row_low, row_listed, open_is}
use Rattle.aa_reach.proofs.outside.enter.Goals as goal

pub row-own-requires : goal.row-own-requires
row-own-requires c = let l = c.requires.there in rank_within c.args.m.now c.args.ranks.now c.requires.ranks c.args.f (omega (arith, l))

pub row-outside-requires : goal.row-outside-requires
row-outside-requires c = rank_within c.args.m.now c.args.ranks.now c.requires.ranks c.len.result (omega (arith, c.len.ensures))

pub by_row-requires : goal.by_row-requires
by_row-requires c =
    let l = c.requires.there in
    let same = ranked c.args.m.now c.args.ranks.now c.requires.ranks c.args.f c.row-own.result (omega (arith, l)) c.row-own.ensures in
    let low = row_low c.args.m.now c.args.f (omega (arith, l)) in
    row_listed c.args.m.now c.args.ps.now c.requires.numbering c.row-own.result c.args.k (omega (arith, same, low)) c.requires.word

pub meet-requires-clause-listed : goal.meet-requires-clause-listed
meet-requires-clause-listed c =
    let same = ranked c.args.m.now c.args.ranks.now c.requires.ranks c.len.result c.row-outside.result (omega (arith, c.len.ensures)) c.row-outside.ensures in
    let low = row_low c.args.m.now c.len.result (omega (arith, c.len.ensures)) in
    row_listed c.args.m.now c.args.ps.now c.requires.numbering c.row-outside.result c.args.k (omega (arith, same, low)) c.requires.word

pub meet-requires-clause-over : goal.meet-requires-clause-over
meet-requires-clause-over c = (says_row c.args.m.now c.args.ps.now c.requires.numbering c.in_ok-term.term c.row-own.result c.args.k c.in_ok-term.ensures).over

pub returns-then-is_open : goal.returns-then-is_open
returns-then-is_open c =
    let l = c.requires.there in
    let own = ranked c.args.m.now c.args.ranks.now c.requires.ranks c.args.f c.row-own.result (omega (arith, l)) c.row-own.ensures in
    let last = ranked c.args.m.now c.args.ranks.now c.requires.ranks c.len.result c.row-outside.result (omega (arith, c.len.ensures)) c.row-outside.ensures in
    let outside : c.row-outside.result ≡ body_count c.args.m.now = last ∙ ap (rank c.args.m.now) c.len.ensures in
    on_ok_weaker c.meet.result (λ met. entered c.args.m.now c.args.ps.now c.requires.numbering c.args.k c.args.f c.args.s.now c.meet.new.s
    c.in_ok-term.term c.requires.long
    (sym (open_is c.args.m.now c.args.u.now c.requires.uses c.args.f c.is_open.result l c.is_open.ensures) ∙ c.if-is_open.true)
    (subst (λ r. IsByRow c.args.ps.now c.in_ok-term.term r c.args.k) own c.in_ok-term.ensures)
    (subst (λ r. IsMet c.args.ps.now c.args.s.now c.meet.new.s (pos.Reach r c.args.k) FACTS c.in_ok-term.term) outside met)) c.meet.ensures

pub returns : goal.returns
returns c =
    not_entered c.args.m.now c.args.ps.now c.requires.numbering c.args.k c.args.f c.args.s.now
    (sym (open_is c.args.m.now c.args.u.now c.requires.uses c.args.f c.is_open.result c.requires.there c.is_open.ensures) ∙ c.if-is_open.false)
