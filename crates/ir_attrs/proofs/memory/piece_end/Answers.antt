use Rattle.std.proofs.Common.{arith, map}
use Rattle.ir_attrs.specs.Memory.{mark, pieces}
use Rattle.ir_attrs.proofs.Pieces.{prepend_none, piece_more, piece_ends, piece_last}
use Rattle.ir_attrs.proofs.memory.piece_end.Goals as goal

pub loop-end-init : goal.loop-end-init
loop-end-init c = record { within = omega arith; pieces = prepend_none (map (mark c.args.text.now c.args.toks.now) c.args.inside.now) }

pub loop-end-preserved : goal.loop-end-preserved
loop-end-preserved c = record {
  within = omega arith;
  pieces = piece_more (mark c.args.text.now c.args.toks.now) c.args.inside.now _ c.loop-end.end c.index-inside-end.result c.is_comma.result c.loop-end-test.true
      c.index-inside-end.is c.is_comma.ensures c.if-is_comma.false c.loop-end.invariant.pieces;
}

pub returns-then-is_comma-clause-pieces : goal.returns-then-is_comma-clause-pieces
returns-then-is_comma-clause-pieces c =
    piece_ends (mark c.args.text.now c.args.toks.now) c.args.inside.now _ c.loop-end.end c.index-inside-end.result c.is_comma.result c.loop-end-test.true
    c.index-inside-end.is c.is_comma.ensures c.if-is_comma.true c.loop-end.invariant.pieces

pub returns-clause-pieces : goal.returns-clause-pieces
returns-clause-pieces c =
    piece_last (mark c.args.text.now c.args.toks.now) c.args.inside.now _ c.loop-end.end c.loop-end-test.false c.loop-end.invariant.pieces
