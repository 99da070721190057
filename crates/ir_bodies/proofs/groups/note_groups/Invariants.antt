use Rattle.std.proofs.Common.{◌≡◌, take}
use Rattle.std.specs.List.{flat_map}
use Rattle.ir_scopes.specs.Faults.{first_in}
use Rattle.ir_bodies.specs.Context.{context}
use Rattle.ir_bodies.specs.Groups.{word_faults}
use Rattle.ir_bodies.proofs.groups.note_groups.Given as goal

abbrev pub invariant-loop-word : goal.invariant-loop-word
invariant-loop-word l = l.found ≡ first_in l.initial.found (flat_map (word_faults (context l.scene)) (take l.word-index l.words))
