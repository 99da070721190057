-- The induction: each step brings values that are as their words say.
use Rattle.std.proofs.Common.{◌≡◌, ℕ, ◌==◌, ◌<◌, Bool, true, false, if◌then◌else◌, List, [], ◌∷◌, slice_get, map, Option, None}
use Rattle.std.proofs.Common.{Some}
use Rattle.std.proofs.Common.{refl, sym, subst, ◌∙◌, ◌⊎◌, inl, inr, true≢false, arith}
use Rattle.std.specs.List.{AllByRecursion}
use Rattle.std.proofs.lemmas.Option.{same_Some}
use Rattle.std.proofs.lemmas.Bool.Decides.{eqb_tells}
use Rattle.attr_ids.specs.declared.ids.ValueId.{ValueId}
use Rattle.ir_module.specs.declared.attrs.CallAttrs.{CallAttrs}
use Rattle.ir_module.specs.declared.op.Op.{Op}
use Rattle.ir_module.specs.declared.op.Op.TheVariants as op
use Rattle.ir_module.specs.declared.op.Instr.{Instr}
use Rattle.ir_module.specs.declared.op.Symbol.{Symbol}
use Rattle.ir_module.specs.declared.op.Written.{Written}
use Rattle.ir_module.specs.declared.edge.Edge.{Edge}
use Rattle.ir_module.specs.declared.edge.Way.TheVariants as way
use Rattle.ir_module.specs.declared.module.Param.{Param}
use Rattle.ir_module.specs.declared.module.Spot.{Spot}
use Rattle.ir_module.specs.declared.module.Module.{Module}
use Rattle.ir_module.specs.Places.{instr_at, IsIn}
use Rattle.ir_module.specs.Edges.{edge, edges}
use Rattle.ir_module.specs.Calls.{promising}
use Rattle.ir_module.specs.WellFormed.{IsWellFormed}
use Rattle.facts.specs.Bodies.{param_of}
use Rattle.facts.specs.Facts.{Fact}
use Rattle.facts.specs.Promises.{may_poison}
use Rattle.ir_machine.specs.declared.choice.Datum.{Datum}
use Rattle.ir_machine.specs.declared.choice.Datum.TheVariants as datum
use Rattle.ir_machine.specs.declared.choice.Value.{Value}
use Rattle.ir_machine.specs.declared.choice.Byte.TheVariants as byte
use Rattle.ir_machine.specs.Memory.{Memory, Live, Closed, Dead, OfAlloca, is_dead, is_alloca_of}
use Rattle.ir_machine.specs.Frames.{active, BodyFrame, OutsideFrame, Frame, Body, Outside, call_of as call_in, State}
use Rattle.ir_machine.specs.Frames.{Return, event}
use Rattle.ir_machine.specs.Moves.{Move, Says, Grows, Turns, Fills, Keeps, Sets, Goes, Takes, Begins, Ends, moved, after}
use Rattle.ir_machine.specs.Moves.{set_on_top}
use Rattle.ir_machine.specs.Moves.{gone_on_top, taken_on_top, under_top, Gives}
use Rattle.ir_machine.specs.Reading.{Here}
use Rattle.ir_machine.specs.Calls.{acted_on, came_back, takes, marks_last, turns, is_alloca_result}
use Rattle.ir_machine.specs.Runs.{IsShapeOf, Done}
use Rattle.ir_machine.specs.Arguments.{ArgumentsAreOperands}
use Rattle.ir_machine.specs.Links.{BeginsAs, CallsBody, CallsBodyIn, AreLinked, IsLinked}
use Rattle.ir_machine.specs.Honest.{IsFair}
use Rattle.ir_machine.specs.Valid.{scope_of, Known, IsSomeOf, HasAll, IsValid, IsLater}
use Rattle.ir_machine.proofs.Basics.{OnOutcome, on_with, given, put_has, Along}
use Rattle.ir_machine.proofs.Carried.{came_back_has}
use Rattle.ir_machine.proofs.Instructions.{Leads}
use Rattle.ir_machine.proofs.Moving.{IsComing}
use Rattle.ir_machine.proofs.Linked.{with_stack}
use Rattle.ir_machine.proofs.Valid.{known_closed, Restricts, valid_moved, later_moved}
use Rattle.ir_machine.proofs.Running.{ValidLaw}
use Rattle.law_premises.specs.Premises.{JustifiesItself, TakesLiveEdges, IsControlled}
use Rattle.law_premises.specs.Types.{HasTypedAddresses, PassesAddresses}
use Rattle.laws_pointer.proofs.Good.{IsGood, word_of, HasHomes}
use Rattle.laws_pointer.proofs.Rules.{result_rules}
use Rattle.laws_pointer.proofs.Frames.{MayPoison, FrameIsGood, frames_later}
use Rattle.laws_pointer.proofs.Results.{return_word, ComesBack, inner_good, outer_good}
use Rattle.laws_pointer.proofs.Crossing.{SetsGood, C, MayLand, later_still, going_good}

-- what is given of each step
pub record Given (m : Module) (held : Fact → Bool) (d : Done) : Type 0 where
  pub linked : IsLinked m d.before.stack
  pub passed : ArgumentsAreOperands m d.before.memory.home d.before.stack
  pub fair : AllByRecursion (IsFair m) d.events
  pub controlled : IsControlled m held d
  pub typed : PassesAddresses m d

-- a move that makes no value and no frame
abbrev pub IsSilent : Move → Type 0
IsSilent (Sets v x) = ⊥
IsSilent (Begins frame) = ⊥
IsSilent _ = Unit {0}

-- a branch is at an instruction with edges
pub has_edge : (m : Module) (here : Here) (o : Op) (to : ℕ) → Leads m here o to → (e : Edge) × (slice_get (edges o) 0 ≡ Some e)
has_edge m here (op.Jump to) block leads = (edge way.Jump to, refl)
has_edge m here (op.Branch c so otherwise) block leads = (edge way.Yes so, refl)
has_edge m here (op.Switch on other cases) block leads = (edge way.Other other, refl)
has_edge m here _ block leads = absurd leads

module _ (m : Module) (formed : IsWellFormed m) (held : Fact → Bool) (is : JustifiesItself m held) where
  abbrev pub Good : Memory → Frame → Type 0
  Good mem frame = FrameIsGood m held is mem frame

  abbrev pub Asked : State → Move → Type 0
  Asked t x = C m formed held is t x

  pub record Inv (t : State) : Type 0 where
    pub frames : AllByRecursion (Good t.memory) t.stack
    pub homes : HasHomes m t.memory

  -- ---- each move

  set_good : (mem : Memory) (v : ℕ) (x : Value) (stack : List Frame) → SetsGood m formed held is mem stack v x →
      AllByRecursion (Good mem) stack → AllByRecursion (Good mem) (set_on_top v x stack)
  set_good mem v x [] has all = tt
  set_good mem v x (Outside f ∷ below) has all = all
  set_good mem v x (Body f ∷ below) has all = (
    record {
      kind = record {
        values = λ n y at. put_has (λ n (found : Option Value). found ≡ Some y → IsGood m mem f.call (word_of held n) y.datum) v (Some x) f.values n
            (λ same. subst (λ (z : Value). IsGood m mem f.call (word_of held v) z.datum) (same_Some x y same) has) (λ same. all.0.kind.values n y same) at;
        entry = all.0.kind.entry;
        there = all.0.kind.there;
      };
      args = all.0.args;
      passed = all.0.passed;
    },
    all.1,
  )

  gone_good : (mem : Memory) (s : Spot) (stack : List Frame) → AllByRecursion (Good mem) stack → AllByRecursion (Good mem) (gone_on_top s stack)
  gone_good mem s [] all = tt
  gone_good mem s (Outside f ∷ below) all = all
  gone_good mem s (Body f ∷ below) all = (
    record {
      kind = record { values = all.0.kind.values; entry = all.0.kind.entry; there = all.0.kind.there };
      args = all.0.args;
      passed = all.0.passed;
    },
    all.1,
  )

  taken_good_too : (mem : Memory) (x : Value) (stack : List Frame) → AllByRecursion (Good mem) stack → AllByRecursion (Good mem) (taken_on_top x stack)
  taken_good_too mem x [] all = tt
  taken_good_too mem x (Body f ∷ below) all = all
  taken_good_too mem x (Outside f ∷ below) all = (record { kind = all.0.kind; args = all.0.args; passed = all.0.passed }, all.1)

  under_good : (mem : Memory) (stack : List Frame) → AllByRecursion (Good mem) stack → AllByRecursion (Good mem) (under_top stack)
  under_good mem [] all = tt
  under_good mem (top ∷ below) all = all.1

  homes_later : (mem later : Memory) → IsLater mem later → ((s : Symbol) (b : ℕ) → mem.home s ≡ Some b → b < mem.count) → HasHomes m mem → HasHomes m later
  homes_later mem later is_later low homes = record {
    weak = λ s link e none. homes.weak s link e (sym (is_later.home s) ∙ none);
    shape = λ s b home.
        let old = sym (is_later.home s) ∙ home in
        subst (λ x. IsShapeOf m x s) (sym (is_later.shape b (low s b old))) (homes.shape s b old);
  }

  pub inv_moved : (t : State) (x : Move) → IsValid t → Restricts t x → Inv t → Asked t x → Inv (moved t x)
  inv_moved t x valid fits inv c =
      record {
        frames =
            by x fits c;
        homes = homes_later t.memory (moved t x).memory (later_moved t x fits) (λ s b home. (valid.blocks.homes s b home).0) inv.homes;
      }
    where
      all : (x : Move) → Restricts t x → AllByRecursion (Good (moved t x).memory) t.stack
      all x fits = frames_later m held is t.memory (moved t x).memory (later_moved t x fits) (scope_of t) refl t.stack valid.known.frames inv.frames

      by : (x : Move) → Restricts t x → Asked t x → AllByRecursion (Good (moved t x).memory) (moved t x).stack
      by (Says what) fits c = all (Says what) fits
      by (Grows shape) fits c = all (Grows shape) fits
      by (Turns block life') fits c = all (Turns block life') fits
      by (Fills block bytes) fits c = all (Fills block bytes) fits
      by (Keeps x) fits c = all (Keeps x) fits
      by (Sets v x) fits c = set_good t.memory v x t.stack c inv.frames
      by (Goes s) fits c = gone_good t.memory s t.stack inv.frames
      by (Takes x) fits c = taken_good_too t.memory x t.stack inv.frames
      by (Begins frame) fits c = (c, inv.frames)
      by Ends fits c = under_good (moved t Ends).memory t.stack (all Ends fits)

  pub law : ValidLaw Inv Asked (λ e. Unit {0})
  law = record { move = λ t x valid next fits inv c. inv_moved t x valid fits.0 inv c; happens = λ t what valid inv c. tt }

  -- ---- pieces of steps

  pub free_along : (t : State) (moves : List Move) → AllByRecursion (λ x. IsSilent x) moves → Along Asked t moves
  free_along t [] all = tt
  free_along t (x ∷ moves) all = (one x all.0, free_along (moved t x) moves all.1)
    where
      one : (x : Move) → IsSilent x → Asked t x
      one (Says what) s = tt
      one (Grows shape) s = tt
      one (Turns block life') s = tt
      one (Fills block bytes) s = tt
      one (Keeps x) s = tt
      one (Sets v x) s = absurd s
      one (Goes spot) s = tt
      one (Takes x) s = tt
      one (Begins frame) s = absurd s
      one Ends s = tt

  pub later_same : (mem : Memory) → IsLater mem mem
  later_same mem = record { count = omega arith; home = λ symbol. refl; shape = λ b low. refl; dead = λ b low gone. gone }

  -- what a lifetime marker does makes no value
  turns_good : (t : State) (is_end : Bool) (d : Datum) (moves : List Move) (end : List Frame) →
      ((u : State) → u.stack ≡ t.stack → IsLater t.memory u.memory → (after u moves).stack ≡ end → Along Asked u moves) →
      (after t (turns t.memory is_end d moves)).stack ≡ end → Along Asked t (turns t.memory is_end d moves)
  turns_good t is_end (datum.Ptr block offset) moves end rest = by (is_dead (t.memory.life block)) refl is_end
    where
      by : (dead : Bool) → is_dead (t.memory.life block) ≡ dead → (is_end : Bool) → (after t (if dead then moves else (if is_end then Turns block Closed ∷ moves
          else Turns block Live ∷ Fills block (λ at. byte.Undef) ∷ moves))).stack ≡ end →
          Along Asked t (if dead then moves else (if is_end then Turns block Closed ∷ moves
          else Turns block Live ∷ Fills block (λ at. byte.Undef) ∷ moves))
      by true e is_end ends = rest t refl (later_same t.memory) ends
      by false e true ends = (tt, rest (moved t (Turns block Closed)) refl (later_moved t (Turns block Closed) e) ends)
      by false e false ends =
          let open' = moved t (Turns block Live) in (
            tt,
            (
              tt,
              rest (moved open' (Fills block (λ at. byte.Undef))) refl
                  (later_still t.memory open'.memory (moved open' (Fills block (λ at. byte.Undef))).memory (later_moved t (Turns block Live) e)
                  (later_moved open' (Fills block (λ at. byte.Undef)) tt)) ends,
            ),
          )
  turns_good t is_end datum.Null moves end rest = rest t refl (later_same t.memory)
  turns_good t is_end datum.Undef moves end rest = rest t refl (later_same t.memory)
  turns_good t is_end datum.Poison moves end rest = rest t refl (later_same t.memory)
  turns_good t is_end (datum.Int bits) moves end rest = rest t refl (later_same t.memory)
  turns_good t is_end datum.Pair moves end rest = rest t refl (later_same t.memory)

  pub marks_good : (t : State) (is_end : Bool) (ws : List Written) (xs : List Value) (moves : List Move) (end : List Frame) →
      ((u : State) → u.stack ≡ t.stack → IsLater t.memory u.memory → (after u moves).stack ≡ end → Along Asked u moves) →
      (after t (marks_last m t.memory is_end ws xs moves)).stack ≡ end → Along Asked t (marks_last m t.memory is_end ws xs moves)
  marks_good t is_end [] xs moves end rest = rest t refl (later_same t.memory)
  marks_good t is_end (w ∷ []) [] moves end rest = rest t refl (later_same t.memory)
  marks_good t is_end (w ∷ []) (x ∷ []) moves end rest = by (is_alloca_result m w.val)
    where
      by : (b : Bool) → (after t (if b then turns t.memory is_end x.datum moves else moves)).stack ≡ end →
          Along Asked t (if b then turns t.memory is_end x.datum moves else moves)
      by true = turns_good t is_end x.datum moves end rest
      by false = rest t refl (later_same t.memory)
  marks_good t is_end (w ∷ []) (x ∷ y ∷ xs) moves end rest = rest t refl (later_same t.memory)
  marks_good t is_end (w ∷ v ∷ ws) [] moves end rest = rest t refl (later_same t.memory)
  marks_good t is_end (w ∷ v ∷ ws) (x ∷ xs) moves end rest = marks_good t is_end (v ∷ ws) xs moves end rest

  pub stands_in : (frame : BodyFrame) (below : List Frame) → AreLinked m (Body frame) below → IsIn m frame.func frame.spot
  stands_in frame [] h = h.0.1
  stands_in frame (under ∷ below) h = h.0.1

  -- the frames at which an unwinding may land
  pub may_land : (t0 : State) (top : Frame) (below : List Frame) → AreLinked m top below → AllByRecursion (Good t0.memory) below →
      AllByRecursion (HasAll (Known (scope_of t0))) below → AllByRecursion (MayLand m formed held is t0) below
  may_land t0 top [] h good known = tt
  may_land t0 top (Outside under ∷ below) h good known = (tt, may_land t0 (Outside under) below h.2 good.1 known.1)
  may_land t0 top (Body under ∷ below) h good known =
      ((stands_in under below h.2, (good.0.kind.values, known.0.1)), may_land t0 (Body under) below h.2 good.1 known.1)

  -- ---- what comes back

  abbrev ComesOut : Memory → Op → Option Value → Option Value → Type 0
  ComesOut mem o x y = (z : Value) → y ≡ Some z → (w : Value) × (x ≡ Some w) ×
      (acted_on mem (map (λ (attrs : CallAttrs). attrs.ret) (promising m o)) w ≡ Gives z)

  came_outer : (mem : Memory) (o : Op) (x : Option Value) → OnOutcome (ComesOut mem o x) (came_back m mem None o x)
  came_outer mem o None = λ z e. absurd (cc)
  came_outer mem o (Some w) =
      on_with (ComesOut mem o (Some w)) (acted_on mem (map (λ (attrs : CallAttrs). attrs.ret) (promising m o)) w) _
      (λ y acts z e. (w, refl, subst (λ z. acted_on mem (map (λ (attrs : CallAttrs). attrs.ret) (promising m o)) w ≡ Gives z) (same_Some y z e) acts))

  came_inner : (mem : Memory) (g : ℕ) (o : Op) (x y : Option Value) → came_back m mem (Some g) o x ≡ Gives y → x ≡ y
  came_inner mem g o x y e = cc

  -- what a frame returns: as the word of its return says, or by an honest call of the outside
  abbrev pub IsReturned : State → Frame → List Frame → Value → Type 0
  IsReturned t (Body frame) below w = IsGood m t.memory frame.call (return_word m held is frame.func) w.datum
  IsReturned t (Outside frame) below w = IsFair m (event (Outside frame ∷ below) (Return (Some w)))

  -- an alloca of the frame that is taken away is dead
  alloca_gone : (t : State) (top : Frame) (below : List Frame) (b n : ℕ) → (t.memory.shape b).kind ≡ OfAlloca (call_in top).number n →
      (moved (with_stack t (top ∷ below)) Ends).memory.life b ≡ Dead
  alloca_gone t top below b n kind =
      subst (λ k. (if is_alloca_of (call_in top).number k then Dead else t.memory.life b) ≡ Dead) (sym kind)
      (subst (λ same. (if same then Dead else t.memory.life b) ≡ Dead) (sym (same_number (call_in top).number)) refl)
    where
      same_number : (n : ℕ) → (n == n) ≡ true
      same_number n = elim (eqb_tells n n) [
        | inl (e, _) ↦ e
        | inr (_, other) ↦ absurd (other refl)
      ]

  module _ (t : State) (top : Frame) (under : BodyFrame) (rest : List Frame) (valid : IsValid (with_stack t (top ∷ Body under ∷ rest)))
      (inv : Inv (with_stack t (top ∷ Body under ∷ rest))) (h : AreLinked m top (Body under ∷ rest))
      (passed : ArgumentsAreOperands m t.memory.home (top ∷ Body under ∷ rest)) (typed : HasTypedAddresses m top) where
    abbrev w0 : State
    w0 = with_stack t (top ∷ Body under ∷ rest)

    abbrev w1 : State
    w1 = moved w0 Ends

    calls_it : (instr : Instr) → instr_at m under.spot ≡ Some instr → CallsBody m (active top).body instr.op
    calls_it instr at = subst (CallsBodyIn m (active top).body) at (subst (BeginsAs m (active top).body) h.1 h.0.0)

    comes_back : (instr : Instr) (r : ValueId) → instr_at m under.spot ≡ Some instr → instr.result ≡ Some r →
        ComesBack m held is w0.memory w1.memory (scope_of w0) top under instr r
    comes_back instr r at has = record {
      blocks = valid.blocks;
      is_later = later_moved w0 Ends tt;
      at = at;
      made = h.1;
      is_one = (calls_it instr at).0;
      inner = (calls_it instr at).1;
      passed = passed.0;
      typed = typed;
      args = inv.frames.0.args;
      all = inv.frames.0.passed;
      values = inv.frames.1.0.kind.values;
      rules = result_rules m held is under.func under.spot instr r (stands_in under rest h.2) at has;
    }

  module _ (t : State) (frame under : BodyFrame) (rest : List Frame) (valid : IsValid (with_stack t (Body frame ∷ Body under ∷ rest)))
      (inv : Inv (with_stack t (Body frame ∷ Body under ∷ rest))) (h : AreLinked m (Body frame) (Body under ∷ rest))
      (passed : ArgumentsAreOperands m t.memory.home (Body frame ∷ Body under ∷ rest)) (typed : HasTypedAddresses m (Body frame)) where
    back_inner : (instr : Instr) (r : ValueId) (w : Value) → instr_at m under.spot ≡ Some instr → instr.result ≡ Some r →
        Known (scope_of t) w → IsGood m t.memory frame.call (return_word m held is frame.func) w.datum →
        IsGood m (moved (with_stack t (Body frame ∷ Body under ∷ rest)) Ends).memory under.call (word_of held r.0) w.datum
    back_inner instr r w at has known good =
        let c = comes_back t (Body frame) under rest valid inv h passed typed instr r at has in
        inner_good m held is t.memory (moved (with_stack t (Body frame ∷ Body under ∷ rest)) Ends).memory
        (scope_of (with_stack t (Body frame ∷ Body under ∷ rest)))
        (Body frame) under instr r c frame.func (sym c.inner) w good known.0 (λ b n kind. alloca_gone t (Body frame) (Body under ∷ rest) b n kind)
        inv.frames.0.kind.there kept
      where
        kept : (at : ℕ) (p : Param) (x : Value) → param_of m frame.func at ≡ Some p → may_poison p.attrs ≡ false → slice_get frame.call.args at ≡ Some x →
            (y : Value) × (slice_get frame.call.passed at ≡ Some y) × (x.datum ≡ y.datum)
        kept at p x at_p none at_x =
            let from = inv.frames.0.args at x at_x in (from.0, from.1, same from.0 from.2)
          where
            same : (y : Value) → (x.datum ≡ y.datum) ⊎ ((x.datum ≡ datum.Poison) × MayPoison m held is (Body frame) at) → x.datum ≡ y.datum
            same y (inl e) = e
            same y (inr (poison, (q, at_q, may))) =
                let one : p ≡ q = same_Some p q (sym at_p ∙ at_q) in
                absurd (true≢false (sym may ∙ subst (λ (q : Param). may_poison q.attrs ≡ false) one none))

  module _ (t : State) (frame : OutsideFrame) (under : BodyFrame) (rest : List Frame) (valid : IsValid (with_stack t (Outside frame ∷ Body under ∷ rest)))
      (inv : Inv (with_stack t (Outside frame ∷ Body under ∷ rest))) (h : AreLinked m (Outside frame) (Body under ∷ rest))
      (passed : ArgumentsAreOperands m t.memory.home (Outside frame ∷ Body under ∷ rest)) (typed : HasTypedAddresses m (Outside frame)) where
    back_outer : (instr : Instr) (r : ValueId) (w z : Value) → instr_at m under.spot ≡ Some instr → instr.result ≡ Some r →
        IsFair m (event (Outside frame ∷ Body under ∷ rest) (Return (Some w))) →
        acted_on (moved (with_stack t (Outside frame ∷ Body under ∷ rest)) Ends).memory
        (map (λ (attrs : CallAttrs). attrs.ret) (promising m instr.op)) w ≡ Gives z →
        IsGood m (moved (with_stack t (Outside frame ∷ Body under ∷ rest)) Ends).memory under.call (word_of held r.0) z.datum
    back_outer instr r w z at has fair acts =
        let c = comes_back t (Outside frame) under rest valid inv h passed typed instr r at has in
        outer_good m held is t.memory (moved (with_stack t (Outside frame ∷ Body under ∷ rest)) Ends).memory
        (scope_of (with_stack t (Outside frame ∷ Body under ∷ rest))) (Outside frame) under instr r c (sym c.inner) inv.frames.0.kind
        (event (Outside frame ∷ Body under ∷ rest) (Return (Some w))) fair (map active (Body under ∷ rest), refl) w z refl refl acts

  module _ (d : Done) (takes' : TakesLiveEdges m held d) where
    -- what comes back to the frame under one that returns is as the word of the result says
    pub coming_good : (t : State) (top : Frame) (below : List Frame) (x : Option Value) → IsValid (with_stack t (top ∷ below)) →
        Inv (with_stack t (top ∷ below)) →
        AreLinked m top below → ArgumentsAreOperands m t.memory.home (top ∷ below) → HasTypedAddresses m top → d.before.stack ≡ top ∷ below →
        ((w : Value) → x ≡ Some w → Known (scope_of t) w × IsReturned t top below w) → (moves : List Move) →
        IsComing m (moved (with_stack t (top ∷ below)) Ends).memory (active top).body below x moves →
        (after (moved (with_stack t (top ∷ below)) Ends) moves).stack ≡ d.next.stack → Along Asked (moved (with_stack t (top ∷ below)) Ends) moves
    coming_good t top [] x valid inv h passed typed before returned moves comes ends = absurd comes
    coming_good t top (Outside under ∷ rest) x valid inv h passed typed before returned moves comes ends =
        subst (Along Asked (moved (with_stack t (top ∷ Outside under ∷ rest)) Ends)) (sym comes) (by x)
      where
        by : (x : Option Value) → Along Asked (moved (with_stack t (top ∷ Outside under ∷ rest)) Ends) (takes x)
        by None = tt
        by (Some x) = (tt, tt)
    coming_good t top (Body under ∷ rest) x valid inv h passed typed before returned moves (instr, y, at, back, goes) ends =
        let valid1 = valid_moved (with_stack t (top ∷ Body under ∷ rest)) Ends valid (tt, tt) in
        let inv1 = inv_moved (with_stack t (top ∷ Body under ∷ rest)) Ends valid tt inv tt in
        going_good m formed held is d takes' (moved (with_stack t (top ∷ Body under ∷ rest)) Ends) (moved (with_stack t (top ∷ Body under ∷ rest)) Ends)
        (top ∷ []) under rest instr y before at
        (record {
          valid = valid1;
          homes = inv1.homes;
          later = later_same (moved (with_stack t (top ∷ Body under ∷ rest)) Ends).memory;
          stands = stands_in under rest h.2;
          good = inv1.frames.0.kind.values;
          known = valid1.known.frames.0.1;
        })
        (λ r z has is_z. (good top valid inv h passed typed returned back r z has is_z, known valid1 z is_z)) moves goes ends
      where
        known : IsValid (moved (with_stack t (top ∷ Body under ∷ rest)) Ends) → (z : Value) → y ≡ Some z → Known (scope_of t) z
        known valid1 z is_z =
            subst (IsSomeOf (Known (scope_of t))) is_z
            (came_back_has t.memory.count (Known (scope_of t)) (known_closed.carried (scope_of t)) m
            (moved (with_stack t (top ∷ Body under ∷ rest)) Ends).memory
            (active top).body instr.op x y (some_known x refl) back)
          where
            some_known : (x' : Option Value) → x ≡ x' → IsSomeOf (Known (scope_of t)) x'
            some_known None e = tt
            some_known (Some w) e = (returned w e).0

        good : (top : Frame) → IsValid (with_stack t (top ∷ Body under ∷ rest)) → Inv (with_stack t (top ∷ Body under ∷ rest)) →
            AreLinked m top (Body under ∷ rest) →
            ArgumentsAreOperands m t.memory.home (top ∷ Body under ∷ rest) → HasTypedAddresses m top →
            ((w : Value) → x ≡ Some w → Known (scope_of t) w × IsReturned t top (Body under ∷ rest) w) →
            came_back m (moved (with_stack t (top ∷ Body under ∷ rest)) Ends).memory (active top).body instr.op x ≡ Gives y → (r : ValueId) (z : Value) →
            instr.result ≡ Some r → y ≡ Some z →
            IsGood m (moved (with_stack t (top ∷ Body under ∷ rest)) Ends).memory under.call (word_of held r.0) z.datum
        good (Body frame) valid inv h passed typed returned back r z has is_z =
            let from = returned z (came_inner (moved (with_stack t (Body frame ∷ Body under ∷ rest)) Ends).memory frame.func instr.op x y back ∙ is_z) in
            back_inner t frame under rest valid inv h passed typed instr r z at has from.0 from.1
        good (Outside frame) valid inv h passed typed returned back r z has is_z =
            let mem = (moved (with_stack t (Outside frame ∷ Body under ∷ rest)) Ends).memory in
            let from = given (ComesOut mem instr.op x) (came_back m mem None instr.op x) y (came_outer mem instr.op x) back z is_z in
            back_outer t frame under rest valid inv h passed typed instr r from.0 z at has (returned from.0 from.1).1 from.2
