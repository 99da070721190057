use Rattle.std.proofs.Common.{◌≡◌, take}
use Rattle.rule_terms.specs.Looked.{input_word}
use Rattle.rule_terms.specs.Meeting.{meet_places}
use Rattle.rule_terms.proofs.rule.meet.Given as goal

-- the word is what the places so far leave of the mask
abbrev pub invariant-loop-place : goal.invariant-loop-place
invariant-loop-place l = l.word ≡ meet_places (input_word l.looked) l.slots l.mask (take l.place-index l.places)
