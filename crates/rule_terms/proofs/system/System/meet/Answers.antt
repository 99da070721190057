use Rattle.std.proofs.Common.{◌≡◌, true, sym, ◌∙◌, ap, subst, refl, length, length-set, slice_index, OnOk, OnErr, inl, inr, get_or}
use Rattle.std.specs.Vec.{with_item}
use Rattle.row_lists.specs.EdgeRow.{row_at}
use Rattle.rule_terms.specs.declared.system.System.TheInside.{Inside}
use Rattle.rule_terms.specs.Kept.{Rule, rule_of}
use Rattle.rule_terms.specs.Names.{is_over}
use Rattle.rule_terms.specs.Pool.{AreApart, IsGrown}
use Rattle.rule_terms.specs.Meeting.{Met}
use Rattle.rule_terms.specs.System.{System, with_term}
use Rattle.rule_terms.specs.Inside.{shown}
use Rattle.rule_terms.proofs.Keeping.{IsStep, no_places, some_rule, found_rule, rules_written, reopened_kept, step_kept, step_met, step_unmet, step_met_reads}
use Rattle.rule_terms.proofs.Keeping.{step_unmet_reads, told, on_ok, on_err, err_two}
use Rattle.rule_terms.proofs.system.System.meet.Goals as goal
use Rattle.rule_terms.proofs.system.System.meet.Goals.{Joined-term-2}

pub open-requires-clause-apart : goal.open-requires-clause-apart
open-requires-clause-apart c =
    let a = c.self.inside in
    let rule = rule_of (row_at a.rows c.args.p.0) (get_or a.places.items c.args.p.0 no_places).items in
    subst (AreApart rule.inputs) (sym c.self.invariant.marks)
    (c.self.invariant.rules c.args.p.0 rule (some_rule a c.args.self.now c.args.p.0 c.self.invariant c.self.view_is c.requires.place)).apart

pub invariant_of-self : goal.invariant_of-self
invariant_of-self c =
    let a = c.self.inside in
    reopened_kept a (record { masks = a.masks; pool = c.open.new.pool; rows = a.rows; places = a.places; marked = c.open.new.marked }) c.self.invariant
    (record { masks = refl; rows = refl; places = refl; pool = c.open.ensures.pool; opened = c.open.ensures.opened })

pub meet_in-requires-clause-reads : goal.meet_in-requires-clause-reads
meet_in-requires-clause-reads c =
    let a = c.self.inside in
    let rule = rule_of (row_at a.rows c.args.p.0) (get_or a.places.items c.args.p.0 no_places).items in
    (c.self.invariant.reads c.args.p.0 rule (some_rule a c.args.self.now c.args.p.0 c.self.invariant c.self.view_is c.requires.place)).long

-- the system after the call
abbrev after : Joined-term-2 → Inside
after c = record {
  masks = c.self.inside.masks;
  pool = c.meet_in.new.pool;
  rows = c.meet_in.new.rows;
  places =
      with_item c.self.inside.places c.args.p.0 c.meet_in.new.places;
  marked = c.open.new.marked;
}

-- what it kept of the position, and keeps after the call
abbrev old : Joined-term-2 → Rule
old c = rule_of (row_at c.self.inside.rows c.args.p.0) c.index_mut.result.now.items

abbrev new : Joined-term-2 → Rule
new c = rule_of (row_at c.meet_in.new.rows c.args.p.0) c.meet_in.new.places.items

step : (c : Joined-term-2) → IsStep c.self.inside (after c) c.args.p.0 (old c) (new c)
step c = record {
  masks = refl;
  rules = rules_written c.self.inside c.meet_in.new.rows c.args.p.0 c.meet_in.new.places c.meet_in.ensures.rows;
  found = found_rule c.self.inside c.args.self.now c.args.p.0 c.index_mut.result.now c.self.invariant c.self.view_is c.requires.place c.index_mut.ensures.value;
  grown = subst (λ l. IsGrown l c.meet_in.new.pool.slots.items) c.open.ensures.pool.slots c.meet_in.ensures.pool.slots;
  rows = ap length c.meet_in.ensures.rows ∙ length-set c.self.inside.rows c.args.p.0 (row_at c.meet_in.new.rows c.args.p.0);
  places = length-set c.self.inside.places.items c.args.p.0 c.meet_in.new.places;
  size = c.meet_in.ensures.pool.size ∙ c.open.ensures.pool.size;
  pool = c.meet_in.ensures.pool.pool;
  opened = c.meet_in.ensures.opened ∙ ap (λ n. (row_at c.meet_in.new.rows n).positions) (sym c.in_ok-open.ensures.marked);
  inputs = sym c.meet_in.ensures.opened;
}

over : (c : Joined-term-2) → is_over (length c.self.inside.masks) c.args.term ≡ true
over c = subst (λ (s : System). is_over (length s.masks) c.args.term ≡ true) (sym c.self.view_is) c.requires.over

-- the mask that is met into is the position's
met_here : (c : Joined-term-2) → OnOk c.meet_in.result (Met (after c).pool.slots.items (slice_index c.self.inside.masks c.args.p.0) (old c) (new c) c.args.term)
met_here c = rw c.as_slice.ensures at c.meet_in.ensures.met

-- where the call failed, the same is kept of the position
unmet_here : (c : Joined-term-2) → OnErr c.meet_in.result (new c ≡ old c)
unmet_here c = err_two c.meet_in.result
    (λ rows places. ap (λ l. rule_of (row_at l c.args.p.0) c.meet_in.new.places.items) rows ∙ ap (rule_of (row_at c.self.inside.rows c.args.p.0)) places)
    c.meet_in.ensures.err c.meet_in.ensures.places

pub invariant_of-self-2 : goal.invariant_of-self-2
invariant_of-self-2 c = elim (told c.meet_in.result (met_here c) (unmet_here c)) [
  | inl met ↦ step_kept c.self.inside (after c) c.self.invariant c.args.p.0 (old c) (new c) (step c)
      (step_met c.self.inside (after c) c.self.invariant c.args.p.0 (old c) (new c) (step c) c.args.term met (over c)).0
      (step_met_reads c.self.inside (after c) c.self.invariant c.args.p.0 (old c) (new c) (step c) c.args.term met)
  | inr unmet ↦ step_kept c.self.inside (after c) c.self.invariant c.args.p.0 (old c) (new c) (step c)
      (step_unmet c.self.inside (after c) c.self.invariant c.args.p.0 (old c) (new c) (step c) unmet).0
      (step_unmet_reads c.self.inside (after c) c.self.invariant c.args.p.0 (old c) (new c) (step c) unmet)
]

pub returns-clause-ok : goal.returns-clause-ok
returns-clause-ok c =
    let here : Met (after c).pool.slots.items (slice_index c.self.inside.masks c.args.p.0) (old c) (new c) c.args.term →
    shown (after c) ≡ with_term c.args.self.now c.args.p.0 c.args.term =
    λ met. (step_met c.self.inside (after c) c.self.invariant c.args.p.0 (old c) (new c) (step c) c.args.term met (over c)).1 ∙
    ap (λ (s : System). with_term s c.args.p.0 c.args.term) c.self.view_is in
    on_ok c.meet_in.result here (met_here c)

pub returns-clause-err : goal.returns-clause-err
returns-clause-err c =
    let here : new c ≡ old c → shown (after c) ≡ c.args.self.now =
    λ unmet. (step_unmet c.self.inside (after c) c.self.invariant c.args.p.0 (old c) (new c) (step c) unmet).1 ∙ c.self.view_is in
    on_err c.meet_in.result here (unmet_here c)
