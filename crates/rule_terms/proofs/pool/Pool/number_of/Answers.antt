use Rattle.std.proofs.Common.{◌≡◌, refl, arith, sym, ◌∙◌, false, length, length-set, [], ◌∷◌, Some, slice_get}
use Rattle.shelf.proofs.Shelf.{get_behind}
use Rattle.rule_terms.specs.Names.{has_name}
use Rattle.rule_terms.proofs.Marked.{length-le_marked, not_input, IsMarked-push, has_name-at, with_name-there, with_name-new}
use Rattle.rule_terms.proofs.Putting.{grown_refl}
use Rattle.rule_terms.proofs.pool.Pool.number_of.Goals as goal
use Rattle.rule_terms.proofs.pool.Pool.number_of.Goals.{After-self-1}

pub overflow_cast-number : goal.overflow_cast-number
overflow_cast-number c = omega (arith, length-le_marked c.args.self.now.inputs.items c.args.self.now.marks.items c.requires.pool.marked)

pub returns-then-is_input-clause-names : goal.returns-then-is_input-clause-names
returns-then-is_input-clause-names c =
    let at : slice_get c.deref.result.now c.index-mark.result.now ≡ Some c.args.p = c.if-is_input.ensures.0 refl in
    sym (with_name-there c.args.self.now.inputs.items c.args.p (has_name-at c.args.self.now.inputs.items c.index-mark.result.now c.args.p
    (rw c.deref.ensures.value at at)))

-- the position is no input yet
is_new : (c : After-self-1) → has_name c.args.self.now.inputs.items c.args.p ≡ false
is_new c =
    not_input c.args.self.now.inputs.items c.deref.result.now c.args.self.now.marks.items c.args.p c.index-mark.result.now c.is_input.result
    c.requires.pool.marked c.requires.place c.index-mark.ensures c.deref.ensures.value c.is_input.ensures.1 c.if-is_input.false

-- the new input has the number after the others
last_number : (c : After-self-1) → c.len-number.result ≡ length c.args.self.now.inputs.items
last_number c = c.len-number.ensures ∙ c.args.self.now.inputs.ok.0

pub returns-in_err-push-clause-goes_on : goal.returns-in_err-push-clause-goes_on
returns-in_err-push-clause-goes_on c = record {
  pool = record { fits = c.requires.pool.fits; marked = rw c.in_err-push.ensures.items c.requires.pool.marked; ordered = c.requires.pool.ordered };
  slots = grown_refl c.args.self.now.slots.items;
  inputs = rw c.in_err-push.ensures.items (grown_refl c.args.self.now.inputs.items);
  size = refl;
}

pub returns-clause-goes_on : goal.returns-clause-goes_on
returns-clause-goes_on c = record {
  pool = record {
    fits = rw length-set c.requires.pool.fits;
    marked = rw (
      c.in_ok-push.ensures.items,
      last_number c,
    ) (IsMarked-push c.args.self.now.inputs.items c.args.self.now.marks.items c.args.p c.requires.pool.marked c.requires.place (is_new c));
    ordered = c.requires.pool.ordered;
  };
  slots = grown_refl c.args.self.now.slots.items;
  inputs = (c.args.p ∷ [], c.in_ok-push.ensures.items);
  size = length-set c.args.self.now.marks.items c.args.p.0 c.len-number.result;
}

pub returns-clause-input : goal.returns-clause-input
returns-clause-input c = rw (c.in_ok-push.ensures.items, last_number c) (get_behind c.args.self.now.inputs.items c.args.p [])

pub returns-clause-names : goal.returns-clause-names
returns-clause-names c = c.in_ok-push.ensures.items ∙ sym (with_name-new c.args.self.now.inputs.items c.args.p (is_new c))
