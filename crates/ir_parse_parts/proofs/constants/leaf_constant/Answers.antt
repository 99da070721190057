use Rattle.ir_parse_parts.specs.Parts.{constant_words}
use Rattle.ir_parse_parts.proofs.LongestRest.{none_stands}
use Rattle.ir_parse_parts.proofs.LongestConstants as constants
use Rattle.ir_parse_parts.proofs.constants.leaf_constant.Goals as goal

pub returns-in-Some-clause-some : goal.returns-in-Some-clause-some
returns-in-Some-clause-some c = constants.const_int c.args.toks.now c.args.at c.in-Some.next c.in-Some.ensures.value

pub returns-in-Some-the-clause-some : goal.returns-in-Some-the-clause-some
returns-in-Some-the-clause-some c = constants.const_true c.args.toks.now c.args.at c.in-Some-the.next c.in-Some-the.ensures.value

pub returns-in-Some-the-2-clause-some : goal.returns-in-Some-the-2-clause-some
returns-in-Some-the-2-clause-some c = constants.const_false c.args.toks.now c.args.at c.in-Some-the-2.next c.in-Some-the-2.ensures.value

pub returns-in-Some-the-3-clause-some : goal.returns-in-Some-the-3-clause-some
returns-in-Some-the-3-clause-some c = constants.const_null c.args.toks.now c.args.at c.in-Some-the-3.next c.in-Some-the-3.ensures.value

pub returns-in-Some-the-4-clause-some : goal.returns-in-Some-the-4-clause-some
returns-in-Some-the-4-clause-some c = constants.const_undef c.args.toks.now c.args.at c.in-Some-the-4.next c.in-Some-the-4.ensures.value

pub returns-in-Some-the-5-clause-some : goal.returns-in-Some-the-5-clause-some
returns-in-Some-the-5-clause-some c = constants.const_poison c.args.toks.now c.args.at c.in-Some-the-5.next c.in-Some-the-5.ensures.value

pub returns-in-Some-the-6-clause-some : goal.returns-in-Some-the-6-clause-some
returns-in-Some-the-6-clause-some c = constants.const_zero c.args.toks.now c.args.at c.in-Some-the-6.next c.in-Some-the-6.ensures.value

pub returns-in-Some-the-7-clause-some : goal.returns-in-Some-the-7-clause-some
returns-in-Some-the-7-clause-some c = constants.const_global c.args.toks.now c.args.at c.in-Some-the-7.next c.in-Some-the-7.ensures.value

pub returns-in-Some-the-8-clause-some : goal.returns-in-Some-the-8-clause-some
returns-in-Some-the-8-clause-some c = constants.const_cstr c.args.toks.now c.args.at c.in-Some-the-8.next c.in-Some-the-8.ensures.value

pub returns-clause-none : goal.returns-clause-none
returns-clause-none c = λ _. none_stands c.args.toks.now c.args.at constant_words (
  c.in_default.ensures.value,
  (
    c.in_default-the.ensures.value,
    (
      c.in_default-the-2.ensures.value,
      (
        c.in_default-the-3.ensures.value,
        (
          c.in_default-the-4.ensures.value,
          (c.in_default-the-5.ensures.value, (c.in_default-the-6.ensures.value, (c.in_default-the-7.ensures.value, (c.in_default-the-8.ensures.value, tt)))),
        ),
      ),
    ),
  ),
)
