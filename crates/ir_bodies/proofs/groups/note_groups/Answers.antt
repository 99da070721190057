use Rattle.ir_bodies.specs.Context.{context}
use Rattle.ir_bodies.specs.Groups.{word_faults}
use Rattle.ir_bodies.proofs.Noting.{one_found}
use Rattle.ir_bodies.proofs.groups.note_groups.Goals as goal

pub loop-word-preserved : goal.loop-word-preserved
loop-word-preserved c = one_found (word_faults (context c.args.scene.now)) c.args.words.now c.loop-word.word-index c.word-item.result
    c.args.found.now c.loop-word.found c.note_word.new.found
    c.loop-word-test.true c.word-item.is c.loop-word.invariant c.note_word.ensures
