use Rattle.std.proofs.Common.{arith}
use Rattle.std.proofs.lemmas.Option.{slice_get-get_or}
use Rattle.manifest.proofs.Reading.{listed_in, word_within, word_is}
use Rattle.manifest.proofs.held.Held.word.Goals as goal

pub number-requires : goal.number-requires
number-requires c = listed_in c.args.self.now c.requires.ready c.args.p c.requires.there

pub bounds-self-number : goal.bounds-self-number
bounds-self-number c =
    let within = word_within c.args.self.now c.requires.ready c.args.p c.number.result.0 c.number.ensures in
    omega (arith, within)

pub returns : goal.returns
returns c =
    let within = word_within c.args.self.now c.requires.ready c.args.p c.number.result.0 c.number.ensures in
    word_is c.args.self.now c.requires.ready c.args.p c.requires.no_effect c.number.result.0 _ c.number.ensures
    (slice_get-get_or c.args.self.now.words.now c.number.result.0 0 within)
