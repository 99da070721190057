use Rattle.std.proofs.Common.{◌<◌, ◌∙◌, length, length-set, arith, get_or}
use Rattle.std.proofs.lemmas.Option.{slice_get-get_or, slice_get_within}
use Rattle.rule_terms.specs.Pool.{AreApart}
use Rattle.rule_terms.proofs.Marked.{length-le_apart, mark_more}
use Rattle.rule_terms.proofs.pool.Pool.mark.Goals as goal

pub overflow_cast-number : goal.overflow_cast-number
overflow_cast-number c = omega (arith, length-le_apart c.args.inputs.now (length c.args.self.now.marks.items) c.requires.apart)

pub index_mut-requires : goal.index_mut-requires
index_mut-requires c =
    let within : c.loop-number.number < length c.args.inputs.now = omega arith in
    let here = c.requires.apart.within c.loop-number.number _ (slice_get-get_or c.args.inputs.now c.loop-number.number (record { 0 = 0 }) within) in
    omega (arith, here, c.loop-number.invariant.pool.size, c.loop-number.self.marks.ok.0)

pub loop-number-preserved : goal.loop-number-preserved
loop-number-preserved c =
    let within : c.loop-number.number < length c.args.inputs.now = omega arith in
    let here : AreApart c.args.inputs.now (length c.loop-number.self.marks.items) = rw c.loop-number.invariant.pool.size c.requires.apart in
    record {
      pool = record {
        slots = c.loop-number.invariant.pool.slots;
        inputs = c.loop-number.invariant.pool.inputs;
        size = length-set c.loop-number.self.marks.items (get_or c.args.inputs.now c.loop-number.number (record { 0 = 0 })).0 c.loop-number.number ∙
            c.loop-number.invariant.pool.size;
      };
      marked = mark_more c.args.inputs.now c.loop-number.self.marks.items c.loop-number.number (record { 0 = 0 }) here within c.loop-number.invariant.marked;
    }

pub returns-clause-marked : goal.returns-clause-marked
returns-clause-marked c k p e =
    let within : k < length c.args.inputs.now = slice_get_within c.args.inputs.now k p e in
    (rw c.loop-number.invariant.pool.size (c.requires.apart.within k p e), c.loop-number.invariant.marked k p (omega arith) e)
