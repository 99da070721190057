use Rattle.std.proofs.Common.{ap, arith, refl, length, ◌<◌}
use Rattle.std.proofs.lemmas.Option.{slice_get_read}
use Rattle.ir_types.specs.Standing.{extent_of}
use Rattle.ir_types.proofs.Standings.{sound_set, blocked_set, laid_other, laid_alike, open_before}
use Rattle.ir_types.proofs.visit.settle.Goals as goal

pub returns-in-Laid-clause-sound : goal.returns-in-Laid-clause-sound
returns-in-Laid-clause-sound c =
    let within : c.args.t < length c.args.standings.now = omega (arith, c.requires.long, c.requires.within) in
    sound_set c.args.types.now c.args.standings.now c.args.t c.standing_of-standing.result c.index-types-t.result within
    (slice_get_read c.args.types.now _ c.args.t c.index-types-t.result refl c.requires.within c.index-types-t.is) c.requires.sound
    c.standing_of-standing.ensures.laid

pub returns-in-Laid-clause-others : goal.returns-in-Laid-clause-others
returns-in-Laid-clause-others c = laid_other c.args.standings.now c.args.t c.standing_of-standing.result

pub returns-in-Laid-clause-settled : goal.returns-in-Laid-clause-settled
returns-in-Laid-clause-settled c =
    let within : c.args.t < length c.args.standings.now = omega (arith, c.requires.long, c.requires.within) in
    blocked_set c.args.types.now c.args.standings.now c.args.t c.standing_of-standing.result c.index-types-t.result within
    (slice_get_read c.args.types.now _ c.args.t c.index-types-t.result refl c.requires.within c.index-types-t.is)
    (open_before c.args.standings.now c.args.t _ c.in-Waiting.known within c.in-Waiting.is) c.standing_of-standing.ensures.waits

pub returns-in_default-matches-clause-sound : goal.returns-in_default-matches-clause-sound
returns-in_default-matches-clause-sound c =
    let within : c.args.t < length c.args.standings.now = omega (arith, c.requires.long, c.requires.within) in
    sound_set c.args.types.now c.args.standings.now c.args.t c.standing_of-standing.result c.index-types-t.result within
    (slice_get_read c.args.types.now _ c.args.t c.index-types-t.result refl c.requires.within c.index-types-t.is) c.requires.sound
    c.standing_of-standing.ensures.laid

pub returns-in_default-matches-clause-others : goal.returns-in_default-matches-clause-others
returns-in_default-matches-clause-others c = laid_other c.args.standings.now c.args.t c.standing_of-standing.result

pub returns-in_default-matches-clause-settled : goal.returns-in_default-matches-clause-settled
returns-in_default-matches-clause-settled c =
    let within : c.args.t < length c.args.standings.now = omega (arith, c.requires.long, c.requires.within) in
    blocked_set c.args.types.now c.args.standings.now c.args.t c.standing_of-standing.result c.index-types-t.result within
    (slice_get_read c.args.types.now _ c.args.t c.index-types-t.result refl c.requires.within c.index-types-t.is)
    (open_before c.args.standings.now c.args.t _ c.in-Waiting.known within c.in-Waiting.is) c.standing_of-standing.ensures.waits

pub returns-in-Laid-clause-laid : goal.returns-in-Laid-clause-laid
returns-in-Laid-clause-laid c = λ h.
    open_before c.args.standings.now c.args.t _ c.in-Waiting.known (omega (arith, c.requires.long, c.requires.within)) c.in-Waiting.is

pub returns-in_default-matches-clause-same : goal.returns-in_default-matches-clause-same
returns-in_default-matches-clause-same c = λ h.
    let within : c.args.t < length c.args.standings.now = omega (arith, c.requires.long, c.requires.within) in
    let before = open_before c.args.standings.now c.args.t _ c.in-Waiting.known within c.in-Waiting.is in
    laid_alike c.args.standings.now c.args.t c.standing_of-standing.result within (ap extent_of c.in_default-matches.is) before c.args.t
