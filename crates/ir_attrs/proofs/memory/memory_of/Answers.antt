use Rattle.std.proofs.Common.{◌++◌, [], ◌∷◌, ◌∙◌, arith}
use Rattle.ir_attrs.specs.Memory.{mark}
use Rattle.ir_attrs.proofs.Pieces.{accesses_more, accesses_last}
use Rattle.ir_attrs.proofs.Accesses.{read_nothing, read_whole}
use Rattle.ir_attrs.proofs.memory.memory_of.Goals as goal

pub loop-known-preserved : goal.loop-known-preserved
loop-known-preserved c =
    let said = c.loop-known.invariant.0 in (
      said ++ c.in_ok-access.access ∷ [],
      accesses_more (mark c.args.text.now c.args.toks.now) c.loop-known.rest.now _ said c.piece_end-end.result c.in_ok-access.access c.behind-rest.result.now
          c.if-end-rest.false c.piece_end-end.ensures.pieces c.in_ok-access.ensures c.behind-rest.ensures c.loop-known.invariant.1,
      c.in_ok-seen.ensures said c.loop-known.invariant.2,
    )

pub returns : goal.returns
returns c =
    let said = c.loop-known.invariant.0 in
    c.permitted.ensures
    ∙ read_whole c.args.text.now c.args.toks.now c.args.inside.now (said ++ c.in_ok-access.access ∷ []) c.enter.new.known c.in_ok-seen.seen
    (accesses_last (mark c.args.text.now c.args.toks.now) c.loop-known.rest.now _ said c.piece_end-end.result c.in_ok-access.access c.if-end-rest.true
    c.piece_end-end.ensures.pieces c.in_ok-access.ensures c.loop-known.invariant.1)
    (c.in_ok-seen.ensures said c.loop-known.invariant.2)
