use Rattle.std.proofs.Common.{◌≡◌, ℕ, ◌<◌, ◌≤◌, List, length, replicate, Option, Some, None, ap, sym, ◌∙◌, refl, subst, ne_eqb, arith}
use Rattle.std.specs.Prelude.{vec_capacity}
use Rattle.std.proofs.lemmas.List.{length-replicate}
use Rattle.attr_ids.specs.declared.ids.PosId.{PosId}
use Rattle.rule_terms.specs.System.{System, inputs_of}
use Rattle.fix_core.specs.declared.state.CoreMode.TheVariants.{Open}
use Rattle.fix_core.specs.Machine.{values_of}
use Rattle.word_rule.specs.declared.view.Key.{Key}
use Rattle.word_rule.specs.declared.view.View.{View}
use Rattle.word_rule.specs.Views.{system_of, looked_in}
use Rattle.word_rule.specs.Seats.{place_in, most_inputs}
use Rattle.word_rule.proofs.Steps.{takes}
use Rattle.word_rule.proofs.Remembering.{no_values, takes_up}
use Rattle.word_rule.proofs.Rooms.{inputs_fit, in_place, in_width}
use Rattle.word_rule.proofs.words.LatticeWords.take.Goals as goal

pub fetch_and-word-requires : goal.fetch_and-word-requires
fetch_and-word-requires c =
    let words = c.args.self.now in
    let inside : c.args.p.0 < length words.table.shared.key.system.value.masks =
    subst (λ (s : System). c.args.p.0 < length s.masks) (sym words.about_system) c.requires.position in (
      c.requires.of.0,
      (let sized = words.sized in let l = c.requires.position in omega (arith, sized, l)),
      takes words.table.shared.key _ _ c.args.seat.now.seat.me c.args.p c.requires.of.1 c.requires.idle inside,
    )

-- how many inputs it has
long : (k : Key) (s : System) (p : PosId) (n : ℕ) (inputs : List PosId) → n ≡ length inputs → inputs ≡ inputs_of s p.0 → k.system.value ≡ s →
    n ≡ length (inputs_of k.system.value p.0)
long k s p n inputs is are system = is ∙ ap length are ∙ ap (λ (x : System). length (inputs_of x p.0)) (sym system)

inside : (k : Key) (s : System) (p : PosId) → p.0 < length s.masks → k.system.value ≡ s → p.0 < length k.system.value.masks
inside k s p l system = subst (λ (x : System). p.0 < length x.masks) (sym system) l

pub clear_to-requires : goal.clear_to-requires
clear_to-requires c =
    let k : Key = c.args.self.now.table.shared.key in
    let room : most_inputs (Some k) ≤ vec_capacity c.args.seat.now.looked =
    subst (λ (o : Option Key). most_inputs o ≤ vec_capacity c.args.seat.now.looked) c.requires.of.1 c.args.seat.now.looked_room in
    omega (
      arith,
      (long c.args.self.now.table.shared.key c.args.self.now.system.now c.args.p (length c.inputs.result.now) c.inputs.result.now refl
          c.inputs.ensures c.args.self.now.about_system),
      inputs_fit k c.args.p.0 (inside c.args.self.now.table.shared.key c.args.self.now.system.now c.args.p c.requires.position c.args.self.now.about_system),
      room,
    )

about_now : (c : goal.After-clear_to) → c.fetch_and-word.new.seat.me.0.about ≡ Some c.args.self.now.table.shared.key
about_now c = ap (λ (v : View). v.about) c.fetch_and-word.ensures.2.seat.view ∙ c.requires.of.1

opened_now : (c : goal.After-clear_to) →
    c.fetch_and-word.new.seat.me.0.core.mode ≡ Open c.args.p (replicate (length (inputs_of c.args.self.now.table.shared.key.system.value c.args.p.0)) None)
opened_now c = ap (λ (v : View). v.core.mode) c.fetch_and-word.ensures.2.seat.view
    ∙ takes_up (system_of c.args.seat.now.seat.me.0.about) c.args.p c.fetch_and-word.result c.args.seat.now.seat.me.0.core (ne_eqb _ _ c.if-word-eq0.false)
    ∙ ap (λ (o : Option Key). Open c.args.p (replicate (length (inputs_of (system_of o) c.args.p.0)) None)) c.requires.of.1

pub invariant_of-seat-2-clause-opens : goal.invariant_of-seat-2-clause-opens
invariant_of-seat-2-clause-opens c = ap place_in (sym (opened_now c))

pub invariant_of-seat-2-clause-looks : goal.invariant_of-seat-2-clause-looks
invariant_of-seat-2-clause-looks c =
    c.clear_to.ensures.items ∙ ap (λ n. replicate n 0) (long c.args.self.now.table.shared.key c.args.self.now.system.now c.args.p (length c.inputs.result.now)
    c.inputs.result.now refl c.inputs.ensures c.args.self.now.about_system) ∙ sym (ap (λ m. values_of (looked_in m)) (opened_now c) ∙
    no_values (length (inputs_of c.args.self.now.table.shared.key.system.value c.args.p.0)))

pub invariant_of-seat-2-clause-places : goal.invariant_of-seat-2-clause-places
invariant_of-seat-2-clause-places c =
    λ q e. in_place c.args.self.now.table.shared.key _ c.args.p q (about_now c) (inside c.args.self.now.table.shared.key c.args.self.now.system.now c.args.p
    c.requires.position c.args.self.now.about_system) e

pub invariant_of-seat-2-clause-width : goal.invariant_of-seat-2-clause-width
invariant_of-seat-2-clause-width c =
    λ q e. in_width c.args.self.now.table.shared.key _ c.args.p q (length c.clear_to.new.list.items) (about_now c) (ap length c.clear_to.ensures.items ∙
    length-replicate (length c.inputs.result.now) 0 ∙
    (long c.args.self.now.table.shared.key c.args.self.now.system.now c.args.p (length c.inputs.result.now) c.inputs.result.now refl c.inputs.ensures
    c.args.self.now.about_system)) e
