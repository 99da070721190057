-- What comes back to the frame under one that returns is well.
use Rattle.std.proofs.Common.{◌≡◌, ℕ, ◌<◌, Bool, false, List, [], ◌∷◌, map, Option, None, Some, refl, sym, ap, subst}
use Rattle.std.specs.List.{AllByRecursion}
use Rattle.attr_ids.specs.declared.ids.ValueId.{ValueId}
use Rattle.ir_module.specs.declared.op.Op.{Op}
use Rattle.ir_module.specs.declared.op.Instr.{Instr}
use Rattle.ir_module.specs.declared.module.Spot.{Spot}
use Rattle.ir_module.specs.declared.module.Module.{Module}
use Rattle.ir_module.specs.Places.{instr_at, IsIn}
use Rattle.ir_module.specs.Calls.{promising}
use Rattle.ir_module.specs.WellFormed.{IsWellFormed}
use Rattle.facts.specs.Kinds.{Access}
use Rattle.facts.specs.Bodies.{is_pointer}
use Rattle.facts.specs.Facts.{Fact}
use Rattle.ir_machine.specs.declared.choice.Value.{Value}
use Rattle.ir_machine.specs.Memory.{Memory}
use Rattle.ir_machine.specs.Frames.{At, active, BodyFrame, Frame, Body, Outside, call_of as call_in, State}
use Rattle.ir_machine.specs.Moves.{Move, after, Gives}
use Rattle.ir_machine.specs.Calls.{acted_on, came_back, takes}
use Rattle.ir_machine.specs.Arguments.{Homes, ArgumentsAreOperands}
use Rattle.ir_machine.specs.Links.{BeginsAs, CallsBody, CallsBodyIn, AreLinked}
use Rattle.ir_machine.specs.Runs.{Done}
use Rattle.ir_machine.specs.Valid.{AreOrdered}
use Rattle.ir_machine.proofs.Basics.{OnOutcome, on_with, given, Along}
use Rattle.ir_machine.proofs.Moving.{IsComing}
use Rattle.ir_machine.proofs.Linked.{with_stack}
use Rattle.law_premises.specs.Premises.{JustifiesItself, StandLive, TakesLiveEdges}
use Rattle.laws_uses.proofs.Marks.{Marked, from_more, same_origins}
use Rattle.laws_uses.proofs.Sealed.{OwnsWell, ForSecrets, KeptOf, SetsWell, C}
use Rattle.laws_uses.proofs.Calls.{Released, ReturnsFrom, came_through, result_owned, acted_keeps}
use Rattle.laws_uses.proofs.Crossing.{going_well}

-- what comes back is what was returned, with its origins
abbrev ComesFrom : Option Value → Option Value → Type 0
ComesFrom x y = (z : Value) → y ≡ Some z → (w : Value) × (x ≡ Some w) × (z.origins ≡ w.origins)

comes_given : (m : Module) (mem : Memory) (body : Option ℕ) (o : Op) (x : Option Value) → OnOutcome (ComesFrom x) (came_back m mem body o x)
comes_given m mem None o (Some x) =
    on_with (ComesFrom (Some x)) (acted_on mem (map (λ attrs. attrs.ret) (promising m o)) x) _
    (λ y acted z is. (
      x,
      refl,
      let same : y ≡ z = cc in subst (λ (z : Value). z.origins ≡ x.origins) same
          (acted_keeps mem (map (λ attrs. attrs.ret) (promising m o)) x y acted),
    ))
comes_given m mem None o None = λ z is. absurd (cc)
comes_given m mem (Some f) o x = λ z is. (z, is, refl)

pub comes_from : (m : Module) (mem : Memory) (body : Option ℕ) (o : Op) (x y : Option Value) → came_back m mem body o x ≡ Gives y → ComesFrom x y
comes_from m mem body o x y e = given (ComesFrom x) (came_back m mem body o x) y (comes_given m mem body o x) e

module _ (m : Module) (formed : IsWellFormed m) (held : Fact → Bool) (is : JustifiesItself m held) (access : Option Access) where
  -- what a frame returns: it came in as an argument, is let go, and is a pointer where its call is written as one
  pub record IsLetGo (t : State) (top : Frame) (below : List Frame) (x : Value) : Type 0 where
    pub from : ReturnsFrom m held is access t top x below
    pub released : Released m held is access t top x top
    pub types : (s : Spot) (instr : Instr) → (call_in top).made ≡ At s → instr_at m s ≡ Some instr → is_pointer m instr.ty ≡ false → x.origins ≡ []

  stands_in : (frame : BodyFrame) (below : List Frame) → AreLinked m (Body frame) below → IsIn m frame.func frame.spot
  stands_in frame [] h = h.0.1
  stands_in frame (under ∷ below) h = h.0.1

  pub coming_well : (d : Done) → TakesLiveEdges m held d →
      (t u : State) (mem : Memory) (body : Option ℕ) (top : Frame) (below : List Frame) (x : Option Value) →
      d.before.stack ≡ top ∷ below → AreLinked m top below → StandLive held below → AllByRecursion (OwnsWell m held access) below →
      ForSecrets m held access (top ∷ below) (KeptOf m held access t) → (home : Homes) → ArgumentsAreOperands m home (top ∷ below) →
      (born : ℕ → ℕ) (next most : ℕ) → AreOrdered born next most (top ∷ below) → ((w : Value) → x ≡ Some w → IsLetGo t top below w) → (moves : List Move) →
      IsComing m mem body below x moves → (after (with_stack u below) moves).stack ≡ d.next.stack → Along (C m held access) (with_stack u below) moves
  coming_well d edges t u mem body top [] x before h live own kept home passed born next most order let_go moves comes ends = absurd comes
  coming_well d edges t u mem body top (Outside under ∷ rest) x before h live own kept home passed born next most order let_go moves comes ends =
      subst (Along (C m held access) (with_stack u (Outside under ∷ rest))) (sym comes) (by x refl)
    where
      by : (y : Option Value) → x ≡ y → Along (C m held access) (with_stack u (Outside under ∷ rest)) (takes y)
      by None e = tt
      by (Some w) e = (came_through m held is access t top w (Outside under) rest kept (let_go w e).from, tt)
  coming_well d edges t u mem body top (Body under ∷ rest) x before h live own kept home passed born next most order let_go moves (
    instr,
    y,
    at,
    back,
    goes,
  ) ends =
      going_well m formed held is access d edges u (top ∷ []) under rest mem instr y before (stands_in under rest h.2) at own.0
      (λ above low below e j secret. ((kept (top ∷ Body under ∷ above) low below (ap (λ l. top ∷ Body under ∷ l) e) j secret).0.1.0).values)
      sets moves goes ends
    where
      calls : CallsBody m (active top).body instr.op
      calls = subst (CallsBodyIn m (active top).body) at (subst (BeginsAs m (active top).body) h.1 h.0.0)

      older : under.call.number < (call_in top).number
      older = order.3.0

      sets : (r : ValueId) (z : Value) → instr.result ≡ Some r → y ≡ Some z → SetsWell m held access (Body under ∷ rest) r.0 z
      sets r z result is_some =
          let from = comes_from m mem body instr.op x y back z is_some in
          let gone = let_go from.0 from.1 in (
            (λ j k secret has.
                result_owned m held is access t top from.0 under rest kept own.0 home passed.0 older instr at live.0 calls gone.from
                (gone.types under.spot instr h.1 at) gone.released r result j k secret (subst (Marked under.call.number j) from.2 has)),
            (λ above low below e j secret has.
                from_more under.call low.call.number j from.0 z (same_origins from.0 z from.2)
                (came_through m held is access t top from.0 (Body under) rest kept gone.from above low below e j secret
                (subst (Marked low.call.number j) from.2 has))),
          )
