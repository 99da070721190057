use Rattle.std.proofs.Common.{◌≡◌, rules, length, true}
use Rattle.rule_terms.specs.Names.{names_of, is_over}
use Rattle.rule_terms.specs.Pool.{Has}
use Rattle.rule_terms.specs.declared.term.NewTerm.TheOpen.{NewTerm-F as new}
use Rattle.rule_terms.specs.declared.term.NewTerm.TheViews.{roll-NewTerm, the_lemmas}
use Rattle.rule_terms.proofs.Putting.{goes_on_trans, goes_on_twice, has_stays, put_const, put_word, put_and, put_or, put_unless, put_shift, put_keep_align}
use Rattle.rule_terms.proofs.Putting.{put_spread, two_names, input_stays, over_and, over_or, over_unless, over_spread, names_and, names_or}
use Rattle.rule_terms.proofs.pool.Pool.+put.Goals as goal

pub returns-in_ok-place-in-Const-clause-has : goal.returns-in_ok-place-in-Const-clause-has
returns-in_ok-place-in-Const-clause-has t c =
    let is : roll-NewTerm (new.Const c.in-Const.bits) ≡ c.args.term.now = search (rules, the_lemmas) in
    put_const c.args.self.now c.push.new.self c.in_ok-place-in-Const.place.0 c.in-Const.bits c.args.term.now
    (record { inputs = c.in_ok-place-in-Const.ensures.inputs; slots = c.in_ok-place-in-Const.ensures.pushed; last = c.in_ok-place-in-Const.ensures.last }) is

pub returns-in_ok-place-in-Word-clause-has : goal.returns-in_ok-place-in-Word-clause-has
returns-in_ok-place-in-Word-clause-has t c =
    let is : roll-NewTerm (new.Word c.in-Word.p) ≡ c.args.term.now = search (rules, the_lemmas) in
    put_word c.number_of.new.self c.push-in-Word.new.self c.in_ok-place-in-Word.place.0 c.in_ok-input-in-Word.input c.in-Word.p c.args.term.now
    c.in_ok-input-in-Word.ensures.input
    (record { inputs = c.in_ok-place-in-Word.ensures.inputs; slots = c.in_ok-place-in-Word.ensures.pushed; last = c.in_ok-place-in-Word.ensures.last }) is

pub put-requires-in-And : goal.put-requires-in-And
put-requires-in-And t c =
    let is : roll-NewTerm (new.And c.get.result.now c.get-in-And.result.now) ≡ c.args.term.now = search (rules, the_lemmas) in
    let over : is_over (length c.args.self.now.marks.items) c.get-in-And.result.now ≡ true =
    (over_and (length c.args.self.now.marks.items) c.get.result.now c.get-in-And.result.now c.args.term.now is c.requires.over).1 in
    (search (rules, the_lemmas), (c.in_ok-left-in-And.ensures.goes_on.pool, rw c.in_ok-left-in-And.ensures.goes_on.size over))

pub returns-in_ok-place-in-And-clause-has : goal.returns-in_ok-place-in-And-clause-has
returns-in_ok-place-in-And-clause-has t c =
    let is : roll-NewTerm (new.And c.get.result.now c.get-in-And.result.now) ≡ c.args.term.now = search (rules, the_lemmas) in
    let first : Has c.put-in-And.new.self c.get.result.now c.in_ok-left-in-And.left.0 =
    has_stays c.put.new.self c.put-in-And.new.self c.get.result.now c.in_ok-left-in-And.left.0 c.in_ok-left-in-And.ensures.has
    c.in_ok-right-in-And.ensures.goes_on in
    put_and c.put-in-And.new.self c.push-in-And.new.self c.in_ok-place-in-And.place.0 c.in_ok-left-in-And.left c.in_ok-right-in-And.right c.get.result.now
    c.get-in-And.result.now c.args.term.now
    first c.in_ok-right-in-And.ensures.has (record {
      inputs = c.in_ok-place-in-And.ensures.inputs;
      slots = c.in_ok-place-in-And.ensures.pushed;
      last =
          c.in_ok-place-in-And.ensures.last;
    }) is

pub returns-in_ok-place-in-And-clause-names : goal.returns-in_ok-place-in-And-clause-names
returns-in_ok-place-in-And-clause-names t c =
    let is : roll-NewTerm (new.And c.get.result.now c.get-in-And.result.now) ≡ c.args.term.now = search (rules, the_lemmas) in
    rw (names_and c.get.result.now c.get-in-And.result.now c.args.term.now is)
    (two_names c.args.self.now.inputs.items c.put.new.self.inputs.items c.put-in-And.new.self.inputs.items c.push-in-And.new.self.inputs.items
    (names_of c.get.result.now) (names_of c.get-in-And.result.now)
    c.in_ok-left-in-And.ensures.names c.in_ok-right-in-And.ensures.names c.in_ok-place-in-And.ensures.inputs)

pub put-requires-in-Or-2 : goal.put-requires-in-Or-2
put-requires-in-Or-2 t c =
    let is : roll-NewTerm (new.Or c.get-in-Or.result.now c.get-in-Or-2.result.now) ≡ c.args.term.now = search (rules, the_lemmas) in
    let over : is_over (length c.args.self.now.marks.items) c.get-in-Or-2.result.now ≡ true =
    (over_or (length c.args.self.now.marks.items) c.get-in-Or.result.now c.get-in-Or-2.result.now c.args.term.now is c.requires.over).1 in
    (search (rules, the_lemmas), (c.in_ok-left-in-Or.ensures.goes_on.pool, rw c.in_ok-left-in-Or.ensures.goes_on.size over))

pub returns-in_ok-place-in-Or-clause-has : goal.returns-in_ok-place-in-Or-clause-has
returns-in_ok-place-in-Or-clause-has t c =
    let is : roll-NewTerm (new.Or c.get-in-Or.result.now c.get-in-Or-2.result.now) ≡ c.args.term.now = search (rules, the_lemmas) in
    let first : Has c.put-in-Or-2.new.self c.get-in-Or.result.now c.in_ok-left-in-Or.left.0 =
    has_stays c.put-in-Or.new.self c.put-in-Or-2.new.self c.get-in-Or.result.now c.in_ok-left-in-Or.left.0 c.in_ok-left-in-Or.ensures.has
    c.in_ok-right-in-Or.ensures.goes_on in
    put_or c.put-in-Or-2.new.self c.push-in-Or.new.self c.in_ok-place-in-Or.place.0 c.in_ok-left-in-Or.left c.in_ok-right-in-Or.right c.get-in-Or.result.now
    c.get-in-Or-2.result.now c.args.term.now
    first c.in_ok-right-in-Or.ensures.has (record {
      inputs = c.in_ok-place-in-Or.ensures.inputs;
      slots = c.in_ok-place-in-Or.ensures.pushed;
      last =
          c.in_ok-place-in-Or.ensures.last;
    }) is

pub returns-in_ok-place-in-Or-clause-names : goal.returns-in_ok-place-in-Or-clause-names
returns-in_ok-place-in-Or-clause-names t c =
    let is : roll-NewTerm (new.Or c.get-in-Or.result.now c.get-in-Or-2.result.now) ≡ c.args.term.now = search (rules, the_lemmas) in
    rw (names_or c.get-in-Or.result.now c.get-in-Or-2.result.now c.args.term.now is)
    (two_names c.args.self.now.inputs.items c.put-in-Or.new.self.inputs.items c.put-in-Or-2.new.self.inputs.items c.push-in-Or.new.self.inputs.items
    (names_of c.get-in-Or.result.now) (names_of c.get-in-Or-2.result.now)
    c.in_ok-left-in-Or.ensures.names c.in_ok-right-in-Or.ensures.names c.in_ok-place-in-Or.ensures.inputs)

pub returns-in_ok-place-in-Unless-clause-has : goal.returns-in_ok-place-in-Unless-clause-has
returns-in_ok-place-in-Unless-clause-has t c =
    let is : roll-NewTerm (new.Unless c.in-Unless.input c.in-Unless.bit c.get-in-Unless.result.now) ≡ c.args.term.now = search (rules, the_lemmas) in
    put_unless c.put-in-Unless.new.self c.push-in-Unless.new.self c.in_ok-place-in-Unless.place.0 c.in_ok-input-in-Unless.input c.in-Unless.bit
    c.in_ok-then-in-Unless.then c.in-Unless.input c.get-in-Unless.result.now c.args.term.now
    (input_stays c.number_of-in-Unless.new.self.inputs.items c.put-in-Unless.new.self.inputs.items c.in_ok-input-in-Unless.input c.in-Unless.input
    c.in_ok-then-in-Unless.ensures.goes_on.inputs c.in_ok-input-in-Unless.ensures.input)
    (over_unless (length c.args.self.now.marks.items) c.in-Unless.input c.in-Unless.bit c.get-in-Unless.result.now c.args.term.now is c.requires.over)
    c.in_ok-then-in-Unless.ensures.has (record {
      inputs = c.in_ok-place-in-Unless.ensures.inputs;
      slots = c.in_ok-place-in-Unless.ensures.pushed;
      last =
          c.in_ok-place-in-Unless.ensures.last;
    }) is

pub returns-in_ok-place-in-Shift-clause-has : goal.returns-in_ok-place-in-Shift-clause-has
returns-in_ok-place-in-Shift-clause-has t c =
    let is : roll-NewTerm (new.Shift c.in-Shift.bytes c.get-in-Shift.result.now) ≡ c.args.term.now = search (rules, the_lemmas) in
    put_shift c.put-in-Shift.new.self c.push-in-Shift.new.self c.in_ok-place-in-Shift.place.0 c.in-Shift.bytes c.in_ok-of-in-Shift.of c.get-in-Shift.result.now
    c.args.term.now
    c.in_ok-of-in-Shift.ensures.has (record {
      inputs = c.in_ok-place-in-Shift.ensures.inputs;
      slots = c.in_ok-place-in-Shift.ensures.pushed;
      last =
          c.in_ok-place-in-Shift.ensures.last;
    }) is

pub returns-in_ok-place-in-KeepAlign-clause-has : goal.returns-in_ok-place-in-KeepAlign-clause-has
returns-in_ok-place-in-KeepAlign-clause-has t c =
    let is : roll-NewTerm (new.KeepAlign c.in-KeepAlign.step c.get-in-KeepAlign.result.now) ≡ c.args.term.now = search (rules, the_lemmas) in
    put_keep_align c.put-in-KeepAlign.new.self c.push-in-KeepAlign.new.self c.in_ok-place-in-KeepAlign.place.0 c.in-KeepAlign.step c.in_ok-of-in-KeepAlign.of
    c.get-in-KeepAlign.result.now c.args.term.now
    c.in_ok-of-in-KeepAlign.ensures.has (record {
      inputs = c.in_ok-place-in-KeepAlign.ensures.inputs;
      slots = c.in_ok-place-in-KeepAlign.ensures.pushed;
      last =
          c.in_ok-place-in-KeepAlign.ensures.last;
    }) is

pub returns-in_ok-place-in-Spread-clause-has : goal.returns-in_ok-place-in-Spread-clause-has
returns-in_ok-place-in-Spread-clause-has t c =
    let is : roll-NewTerm (new.Spread c.in-Spread.bit c.in-Spread.to c.get-in-Spread.result.now) ≡ c.args.term.now = search (rules, the_lemmas) in
    put_spread c.put-in-Spread.new.self c.push-in-Spread.new.self c.in_ok-place-in-Spread.place.0 c.in-Spread.bit c.in-Spread.to c.in_ok-of-in-Spread.of
    c.get-in-Spread.result.now c.args.term.now
    (over_spread (length c.args.self.now.marks.items) c.in-Spread.bit c.in-Spread.to c.get-in-Spread.result.now c.args.term.now is c.requires.over)
    c.in_ok-of-in-Spread.ensures.has (record {
      inputs = c.in_ok-place-in-Spread.ensures.inputs;
      slots = c.in_ok-place-in-Spread.ensures.pushed;
      last =
          c.in_ok-place-in-Spread.ensures.last;
    }) is

-- the pool goes on through every call

pub returns-in_err-place-in-Word-clause-goes_on : goal.returns-in_err-place-in-Word-clause-goes_on
returns-in_err-place-in-Word-clause-goes_on t c =
    goes_on_trans c.args.self.now c.number_of.new.self c.push-in-Word.new.self
    c.in_ok-input-in-Word.ensures.goes_on c.in_err-place-in-Word.ensures.goes_on

pub returns-in_ok-place-in-Word-clause-goes_on : goal.returns-in_ok-place-in-Word-clause-goes_on
returns-in_ok-place-in-Word-clause-goes_on t c =
    goes_on_trans c.args.self.now c.number_of.new.self c.push-in-Word.new.self
    c.in_ok-input-in-Word.ensures.goes_on c.in_ok-place-in-Word.ensures.goes_on

pub returns-in_err-right-in-And-clause-goes_on : goal.returns-in_err-right-in-And-clause-goes_on
returns-in_err-right-in-And-clause-goes_on t c =
    goes_on_trans c.args.self.now c.put.new.self c.put-in-And.new.self
    c.in_ok-left-in-And.ensures.goes_on c.in_err-right-in-And.ensures.goes_on

pub returns-in_err-place-in-And-clause-goes_on : goal.returns-in_err-place-in-And-clause-goes_on
returns-in_err-place-in-And-clause-goes_on t c =
    goes_on_twice c.args.self.now c.put.new.self c.put-in-And.new.self c.push-in-And.new.self
    c.in_ok-left-in-And.ensures.goes_on c.in_ok-right-in-And.ensures.goes_on c.in_err-place-in-And.ensures.goes_on

pub returns-in_ok-place-in-And-clause-goes_on : goal.returns-in_ok-place-in-And-clause-goes_on
returns-in_ok-place-in-And-clause-goes_on t c =
    goes_on_twice c.args.self.now c.put.new.self c.put-in-And.new.self c.push-in-And.new.self
    c.in_ok-left-in-And.ensures.goes_on c.in_ok-right-in-And.ensures.goes_on c.in_ok-place-in-And.ensures.goes_on

pub returns-in_err-right-in-Or-clause-goes_on : goal.returns-in_err-right-in-Or-clause-goes_on
returns-in_err-right-in-Or-clause-goes_on t c =
    goes_on_trans c.args.self.now c.put-in-Or.new.self c.put-in-Or-2.new.self
    c.in_ok-left-in-Or.ensures.goes_on c.in_err-right-in-Or.ensures.goes_on

pub returns-in_err-place-in-Or-clause-goes_on : goal.returns-in_err-place-in-Or-clause-goes_on
returns-in_err-place-in-Or-clause-goes_on t c =
    goes_on_twice c.args.self.now c.put-in-Or.new.self c.put-in-Or-2.new.self c.push-in-Or.new.self
    c.in_ok-left-in-Or.ensures.goes_on c.in_ok-right-in-Or.ensures.goes_on c.in_err-place-in-Or.ensures.goes_on

pub returns-in_ok-place-in-Or-clause-goes_on : goal.returns-in_ok-place-in-Or-clause-goes_on
returns-in_ok-place-in-Or-clause-goes_on t c =
    goes_on_twice c.args.self.now c.put-in-Or.new.self c.put-in-Or-2.new.self c.push-in-Or.new.self
    c.in_ok-left-in-Or.ensures.goes_on c.in_ok-right-in-Or.ensures.goes_on c.in_ok-place-in-Or.ensures.goes_on

pub returns-in_err-then-in-Unless-clause-goes_on : goal.returns-in_err-then-in-Unless-clause-goes_on
returns-in_err-then-in-Unless-clause-goes_on t c =
    goes_on_trans c.args.self.now c.number_of-in-Unless.new.self c.put-in-Unless.new.self
    c.in_ok-input-in-Unless.ensures.goes_on c.in_err-then-in-Unless.ensures.goes_on

pub returns-in_err-place-in-Unless-clause-goes_on : goal.returns-in_err-place-in-Unless-clause-goes_on
returns-in_err-place-in-Unless-clause-goes_on t c =
    goes_on_twice c.args.self.now c.number_of-in-Unless.new.self c.put-in-Unless.new.self c.push-in-Unless.new.self
    c.in_ok-input-in-Unless.ensures.goes_on c.in_ok-then-in-Unless.ensures.goes_on c.in_err-place-in-Unless.ensures.goes_on

pub returns-in_ok-place-in-Unless-clause-goes_on : goal.returns-in_ok-place-in-Unless-clause-goes_on
returns-in_ok-place-in-Unless-clause-goes_on t c =
    goes_on_twice c.args.self.now c.number_of-in-Unless.new.self c.put-in-Unless.new.self c.push-in-Unless.new.self
    c.in_ok-input-in-Unless.ensures.goes_on c.in_ok-then-in-Unless.ensures.goes_on c.in_ok-place-in-Unless.ensures.goes_on

pub returns-in_err-place-in-Shift-clause-goes_on : goal.returns-in_err-place-in-Shift-clause-goes_on
returns-in_err-place-in-Shift-clause-goes_on t c =
    goes_on_trans c.args.self.now c.put-in-Shift.new.self c.push-in-Shift.new.self
    c.in_ok-of-in-Shift.ensures.goes_on c.in_err-place-in-Shift.ensures.goes_on

pub returns-in_ok-place-in-Shift-clause-goes_on : goal.returns-in_ok-place-in-Shift-clause-goes_on
returns-in_ok-place-in-Shift-clause-goes_on t c =
    goes_on_trans c.args.self.now c.put-in-Shift.new.self c.push-in-Shift.new.self
    c.in_ok-of-in-Shift.ensures.goes_on c.in_ok-place-in-Shift.ensures.goes_on

pub returns-in_err-place-in-KeepAlign-clause-goes_on : goal.returns-in_err-place-in-KeepAlign-clause-goes_on
returns-in_err-place-in-KeepAlign-clause-goes_on t c =
    goes_on_trans c.args.self.now c.put-in-KeepAlign.new.self c.push-in-KeepAlign.new.self
    c.in_ok-of-in-KeepAlign.ensures.goes_on c.in_err-place-in-KeepAlign.ensures.goes_on

pub returns-in_ok-place-in-KeepAlign-clause-goes_on : goal.returns-in_ok-place-in-KeepAlign-clause-goes_on
returns-in_ok-place-in-KeepAlign-clause-goes_on t c =
    goes_on_trans c.args.self.now c.put-in-KeepAlign.new.self c.push-in-KeepAlign.new.self
    c.in_ok-of-in-KeepAlign.ensures.goes_on c.in_ok-place-in-KeepAlign.ensures.goes_on

pub returns-in_err-place-in-Spread-clause-goes_on : goal.returns-in_err-place-in-Spread-clause-goes_on
returns-in_err-place-in-Spread-clause-goes_on t c =
    goes_on_trans c.args.self.now c.put-in-Spread.new.self c.push-in-Spread.new.self
    c.in_ok-of-in-Spread.ensures.goes_on c.in_err-place-in-Spread.ensures.goes_on

pub returns-in_ok-place-in-Spread-clause-goes_on : goal.returns-in_ok-place-in-Spread-clause-goes_on
returns-in_ok-place-in-Spread-clause-goes_on t c =
    goes_on_trans c.args.self.now c.put-in-Spread.new.self c.push-in-Spread.new.self
    c.in_ok-of-in-Spread.ensures.goes_on c.in_ok-place-in-Spread.ensures.goes_on
