use Rattle.std.proofs.Common.{◌≡◌, ℕ, ◌<◌, List, length, get_or, All, ap, sym, ◌∙◌, subst, arith}
use Rattle.std.proofs.lemmas.List.Elements.{All-get_or}
use Rattle.attr_ids.specs.declared.ids.PosId.{PosId}
use Rattle.rule_terms.specs.System.{System, IsSystem, inputs_of}
use Rattle.dep_graph.proofs.Naming.{inputs_within}
use Rattle.fix_core.specs.Machine.{word_at, after_look}
use Rattle.fix_core.proofs.Doing.{open_placed, look_done, look_past}
use Rattle.fix_core.proofs.running.look.Goals as goal

input_within : (s : System) → IsSystem s → (p : ℕ) (inputs : List PosId) (i : ℕ) → inputs ≡ inputs_of s p → i < length inputs →
    (get_or inputs i (record { 0 = 0 })).0 < length s.masks
input_within s is p inputs i e l =
    All-get_or (λ (q : PosId). q.0 < length s.masks) inputs i (record {
      0 =
          0;
    }) l (subst (All (λ (q : PosId). q.0 < length s.masks)) (sym e) (inputs_within s is p))

pub returns-then-i-inputs : goal.returns-then-i-inputs
returns-then-i-inputs c =
    let inputs = c.inputs-inputs.ensures in
    let mode = ap (λ seat. seat.mode) (sym c.seat-old.ensures) ∙ c.in-Open.is in
    look_past c.args.s.now c.args.c.now 1 c.requires.run c.args.w c.requires.seat c.in-Open.p c.in-Open.looked mode c.args.i (omega (
      arith,
      ap length inputs,
      c.if-i-inputs.true,
    ))

pub prove-unreachable-requires : goal.prove-unreachable-requires
prove-unreachable-requires c = omega (
  arith,
  c.count.ensures.positions,
  c.if-prove.true,
  input_within c.args.s.now c.count.ensures.system c.in-Open.p.0 c.inputs-inputs.result.now c.args.i c.inputs-inputs.ensures c.if-i-inputs.false,
)

pub word-word-requires : goal.word-word-requires
word-word-requires c = omega (arith, c.count.ensures.positions, c.if-prove.false, c.requires.run.words)

pub looking-requires : goal.looking-requires
looking-requires c =
    let inputs = c.inputs-inputs.ensures in
    let mode = ap (λ seat. seat.mode) (sym c.seat-old.ensures) ∙ c.in-Open.is in
    let placed = open_placed c.args.s.now c.args.c.now 1 c.requires.run c.args.w c.requires.seat c.in-Open.p c.in-Open.looked mode in
    omega (arith, ap length inputs, c.if-i-inputs.false, placed.1)

pub returns : goal.returns
returns c =
    let z : PosId = record { 0 = 0 } in
    let inputs = c.inputs-inputs.ensures in
    let mode = ap (λ seat. seat.mode) (sym c.seat-old.ensures) ∙ c.in-Open.is in
    let word = c.word-word.ensures ∙ ap (λ ps. word_at c.args.c.now (get_or ps c.args.i z).0) inputs in
    let seat = c.in_ok-seat.ensures ∙ ap (after_look c.in-Open.p c.in-Open.looked c.args.i c.word-word.result) c.seat-old.ensures in
    c.set_seat.ensures ∙ look_done c.args.s.now c.args.c.now 1 c.requires.run c.args.w c.requires.seat c.in-Open.p c.in-Open.looked mode c.args.i
    c.word-word.result c.in_ok-seat.seat word seat
