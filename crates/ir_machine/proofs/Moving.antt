-- The lists of moves that edges, returns and unwindings are made of, as relations that laws go along.
use Rattle.std.proofs.Common.{◌≡◌, ℕ, suc, ◌+◌, arith, ◌⊎◌, inl, inr, List, [], ◌∷◌, slice_get, Option, None, Some, refl, sym, ap, subst}
use Rattle.std.specs.List.{AllByRecursion}
use Rattle.attr_ids.specs.declared.ids.ValueId.{ValueId}
use Rattle.ir_module.specs.declared.op.Arm.{Arm}
use Rattle.ir_module.specs.declared.op.Op.{Op}
use Rattle.ir_module.specs.declared.op.Op.TheVariants as op
use Rattle.ir_module.specs.declared.op.Instr.{Instr}
use Rattle.ir_module.specs.declared.op.Written.{Written}
use Rattle.ir_module.specs.declared.module.Spot.{Spot}
use Rattle.ir_module.specs.declared.module.Module.{Module}
use Rattle.ir_module.specs.Places.{instr_at, behind_call}
use Rattle.ir_machine.specs.declared.choice.Value.{Value}
use Rattle.ir_machine.specs.Memory.{Memory}
use Rattle.ir_machine.specs.Frames.{BodyFrame, Frame, Body, Outside, State, Unwind}
use Rattle.ir_machine.specs.Moves.{Move, Says, Grows, Turns, Fills, Keeps, Sets, Goes, Takes, Begins, Ends, moved, Outcome, Gives, Undefined, Over, with}
use Rattle.ir_machine.specs.Reading.{Values, read}
use Rattle.ir_machine.specs.Edges.{Crossing, first_instrs, behind_phis, arm_from, phi_or_end, phi_moves, crosses, crossing}
use Rattle.ir_machine.specs.Calls.{set_result, with_result, onward, goes_on, came_back, takes, comes_back, Landing, Lands, Passes, landing_in, at_landing}
use Rattle.ir_machine.specs.Calls.{goes_through}
use Rattle.ir_machine.specs.Outside.{taking}
use Rattle.ir_machine.proofs.Basics.{OnOutcome, on_with, on_found, given, Along}

-- ---- edges

-- an instruction of the list is a phi with result v, which reads its arm as x
pub record IsPhiSet (m : Module) (way : Crossing) (v : ℕ) (x : Value) : Type 0 where
  pub instr : Instr
  pub arms : List Arm
  pub result : ValueId
  pub arm : Written
  pub picks : List ℕ
  pub rest : List ℕ
  pub at : ℕ
  pub stands : slice_get (first_instrs m way.target) at ≡ Some instr
  pub phi : instr.op ≡ op.Phi arms
  pub has : instr.result ≡ Some result
  pub is : result.0 ≡ v
  pub from_arm : arm_from way.source arms ≡ Some arm
  pub reads : read m way.memory way.values arm picks ≡ Gives (record { value = x; picks = rest })

-- the phis of the block are set one after another, and then the frame stands behind them
abbrev pub IsCrossing : Module → Crossing → List Move → Type 0
IsCrossing m way [] = ⊥
IsCrossing m way (Sets v x ∷ moves) = IsPhiSet m way v x × IsCrossing m way moves
IsCrossing m way (Goes spot ∷ moves) = (spot ≡ behind_phis m way.target) × (moves ≡ [])
IsCrossing m way (x ∷ moves) = ⊥

module _ (m : Module) (way : Crossing) where
  -- the instructions are those of the block from number k on
  abbrev IsRest : ℕ → List Instr → Type 0
  IsRest k instrs = (j : ℕ) → slice_get (first_instrs m way.target) (k + j) ≡ slice_get instrs j

  next_rest : (k : ℕ) (instr : Instr) (instrs : List Instr) → IsRest k (instr ∷ instrs) → IsRest (k + 1) instrs
  next_rest k instr instrs rest = λ j. subst (λ n. slice_get (first_instrs m way.target) n ≡ slice_get instrs j) (omega arith) (rest (suc j))

  first_at : (k : ℕ) (instr : Instr) (instrs : List Instr) → IsRest k (instr ∷ instrs) → slice_get (first_instrs m way.target) k ≡ Some instr
  first_at k instr instrs rest = subst (λ n. slice_get (first_instrs m way.target) n ≡ Some instr) (omega arith) (rest 0)

  on_phi : (k : ℕ) (instr : Instr) (instrs : List Instr) (o : Op) (picks : List ℕ) → IsRest k (instr ∷ instrs) → instr.op ≡ o →
      ((picks : List ℕ) → OnOutcome (IsCrossing m way) (phi_moves m way instrs picks)) →
      OnOutcome (IsCrossing m way) (phi_or_end m way instr o picks (λ picks. phi_moves m way instrs picks))
  on_phi k instr instrs (op.Phi arms) picks rest is others =
      on_found (IsCrossing m way) (arm_from way.source arms) _ (λ w from_arm. on_with (IsCrossing m way) (read m way.memory way.values w picks) _ (λ r reads.
      on_found (IsCrossing m way) instr.result _ (λ v has. on_with (IsCrossing m way) (phi_moves m way instrs r.picks) _ (λ moves gives. (
        record {
          instr = instr;
          arms = arms;
          result = v;
          arm = w;
          picks = picks;
          rest = r.picks;
          at = k;
          stands = first_at k instr instrs rest;
          phi = is;
          has = has;
          is = refl;
          from_arm = from_arm;
          reads = reads;
        },
        given (IsCrossing m way) (phi_moves m way instrs r.picks) moves (others r.picks) gives,
      )))))
  on_phi k instr instrs _ picks rest is others = (refl, refl)

  on_phis : (k : ℕ) (instrs : List Instr) (picks : List ℕ) → IsRest k instrs → OnOutcome (IsCrossing m way) (phi_moves m way instrs picks)
  on_phis k [] picks rest = (refl, refl)
  on_phis k (instr ∷ instrs) picks rest = on_phi k instr instrs instr.op picks rest refl (λ picks. on_phis (k + 1) instrs picks (next_rest k instr instrs rest))

  -- the moves of an edge, by its phis
  pub crossed : (picks : List ℕ) (moves : List Move) → crosses m way picks ≡ Gives moves → IsCrossing m way moves
  crossed picks moves gives =
      given (IsCrossing m way) (crosses m way picks) moves
      (on_phis 0 (first_instrs m way.target) picks (λ j. ap (λ n. slice_get (first_instrs m way.target) n) (omega arith))) gives

-- ---- returns

-- a body goes on at its call, behind a `call` or over the normal edge of an `invoke`
abbrev pub IsOnward : Module → Memory → BodyFrame → Values → Op → List Move → Type 0
IsOnward m mem frame values (op.Call call) moves = moves ≡ Goes (behind_call frame.spot) ∷ []
IsOnward m mem frame values (op.Invoke call normal unwind) moves = IsCrossing m (crossing m mem frame values normal.0) moves
IsOnward m mem frame values _ moves = ⊥

-- first its result is set, where it has one
abbrev pub SetsFirst : Option ValueId → Option Value → List Move → List Move → Type 0
SetsFirst None x rest moves = moves ≡ rest
SetsFirst (Some v) (Some x) rest moves = moves ≡ Sets v.0 x ∷ rest
SetsFirst (Some v) None rest moves = ⊥

abbrev pub IsGoingOn : Module → Memory → BodyFrame → Instr → Option Value → List Move → Type 0
IsGoingOn m mem frame instr x moves =
    (rest : List Move) × IsOnward m mem frame (with_result instr.result x frame.values) instr.op rest × SetsFirst instr.result x rest moves

abbrev pub IsComing : Module → Memory → Option ℕ → List Frame → Option Value → List Move → Type 0
IsComing m mem body [] x moves = ⊥
IsComing m mem body (Outside under ∷ below) x moves = moves ≡ takes x
IsComing m mem body (Body under ∷ below) x moves =
    (instr : Instr) × (y : Option Value) × (instr_at m under.spot ≡ Some instr) ×
    (came_back m mem body instr.op x ≡ Gives y) × IsGoingOn m mem under instr y moves

went_onward : (m : Module) (mem : Memory) (frame : BodyFrame) (values : Values) (o : Op) (picks : List ℕ) (moves : List Move) →
    onward m mem frame values o picks ≡ Gives moves → IsOnward m mem frame values o moves
went_onward m mem frame values (op.Call call) picks moves e = cc
went_onward m mem frame values (op.Invoke call normal unwind) picks moves e = crossed m (crossing m mem frame values normal.0) picks moves e
went_onward m mem frame values _ picks moves e = absurd (cc)

set_first : (result : Option ValueId) (x : Option Value) (rest moves : List Move) → set_result result x rest ≡ Gives moves → SetsFirst result x rest moves
set_first None x rest moves e = cc
set_first (Some v) (Some x) rest moves e = cc
set_first (Some v) None rest moves e = absurd (cc)

pub went_on : (m : Module) (mem : Memory) (frame : BodyFrame) (instr : Instr) (x : Option Value) (picks : List ℕ) (moves : List Move) →
    goes_on m mem frame instr x picks ≡ Gives moves → IsGoingOn m mem frame instr x moves
went_on m mem frame instr x picks moves e =
    given (IsGoingOn m mem frame instr x) (goes_on m mem frame instr x picks) moves
    (on_with (IsGoingOn m mem frame instr x) (onward m mem frame (with_result instr.result x frame.values) instr.op picks)
    (λ rest. set_result instr.result x rest) (λ rest goes. sets rest goes (set_result instr.result x rest) refl)) e
  where
    sets : (rest : List Move) → onward m mem frame (with_result instr.result x frame.values) instr.op picks ≡ Gives rest → (o : Outcome (List Move)) →
        set_result instr.result x rest ≡ o → OnOutcome (IsGoingOn m mem frame instr x) o
    sets rest goes (Gives all) is =
        (rest, went_onward m mem frame (with_result instr.result x frame.values) instr.op picks rest goes, set_first instr.result x rest all is)
    sets rest goes Undefined is = tt
    sets rest goes Over is = tt

-- what comes back to the frame under the one that returns
pub came : (m : Module) (mem : Memory) (body : Option ℕ) (below : List Frame) (x : Option Value) (picks : List ℕ) (moves : List Move) →
    comes_back m mem body below x picks ≡ Gives moves → IsComing m mem body below x moves
came m mem body [] x picks moves e = absurd (cc)
came m mem body (Outside under ∷ below) x picks moves e = cc
came m mem body (Body under ∷ below) x picks moves e =
    given (IsComing m mem body (Body under ∷ below) x) (comes_back m mem body (Body under ∷ below) x picks) moves
    (on_found (IsComing m mem body (Body under ∷ below) x) (instr_at m under.spot) _ (λ instr at.
    on_with (IsComing m mem body (Body under ∷ below) x) (came_back m mem body instr.op x) _ (λ y back.
    goes instr y at back (goes_on m mem under instr y picks) refl))) e
  where
    goes : (instr : Instr) (y : Option Value) → instr_at m under.spot ≡ Some instr → came_back m mem body instr.op x ≡ Gives y → (o : Outcome (List Move)) →
        goes_on m mem under instr y picks ≡ o → OnOutcome (IsComing m mem body (Body under ∷ below) x) o
    goes instr y at back (Gives all) is = (instr, y, at, back, went_on m mem under instr y picks all is)
    goes instr y at back Undefined is = tt
    goes instr y at back Over is = tt

-- ---- unwindings

-- An unwinding lands at a block of the frame under it, or takes that frame away too, and so on.
abbrev pub IsThrough : Module → Memory → List Frame → List Move → Type 0
IsThrough m mem [] moves = ⊥
IsThrough m mem (Outside under ∷ below) moves = moves ≡ []
IsThrough m mem (Body under ∷ below) moves =
    ((picks rest : List ℕ) × (block : ℕ) × (landing_in m picks (instr_at m under.spot) ≡ Lands block rest) × IsCrossing m
    (crossing m mem under under.values block) moves) ⊎
    ((picks rest : List ℕ) × (more : List Move) × (landing_in m picks (instr_at m under.spot) ≡ Passes rest) ×
    (moves ≡ Says Unwind ∷ Ends ∷ more) × IsThrough m mem below more)

module _ (m : Module) (mem : Memory) where
  at_body : (under : BodyFrame) (below : List Frame) (picks : List ℕ) (l : Landing) → landing_in m picks (instr_at m under.spot) ≡ l →
      ((rest : List ℕ) → OnOutcome (IsThrough m mem below) (goes_through m mem below rest)) →
      OnOutcome (IsThrough m mem (Body under ∷ below)) (at_landing l (λ block picks. crosses m (crossing m mem under under.values block) picks)
      (λ picks. with (goes_through m mem below picks) (λ moves. Gives (Says Unwind ∷ Ends ∷ moves))))
  at_body under below picks (Lands block rest) is others = by (crosses m (crossing m mem under under.values block) rest) refl
    where
      by : (o : Outcome (List Move)) → crosses m (crossing m mem under under.values block) rest ≡ o → OnOutcome (IsThrough m mem (Body under ∷ below)) o
      by (Gives moves) e = inl (picks, rest, block, is, crossed m (crossing m mem under under.values block) rest moves e)
      by Undefined e = tt
      by Over e = tt
  at_body under below picks (Passes rest) is others =
      on_with (IsThrough m mem (Body under ∷ below)) (goes_through m mem below rest) _
      (λ more gives. inr (picks, rest, more, is, refl, given (IsThrough m mem below) (goes_through m mem below rest) more (others rest) gives))

  on_through : (below : List Frame) (picks : List ℕ) → OnOutcome (IsThrough m mem below) (goes_through m mem below picks)
  on_through [] picks = tt
  on_through (Outside under ∷ below) picks = refl
  on_through (Body under ∷ below) picks = at_body under below picks (landing_in m picks (instr_at m under.spot)) refl (λ rest. on_through below rest)

  -- the moves of an unwinding, by the frames that it goes through
  pub went_through : (below : List Frame) (picks : List ℕ) (moves : List Move) → goes_through m mem below picks ≡ Gives moves → IsThrough m mem below moves
  went_through below picks moves e = given (IsThrough m mem below) (goes_through m mem below picks) moves (on_through below picks) e

-- ---- moves by what they are alone

-- D of each move is C of each in its state, where D is enough for that
pub along_all : (C : State → Move → Type 0) (D : Move → Type 0) → ((t : State) (x : Move) → D x → C t x) → (t : State) (moves : List Move) →
    AllByRecursion D moves →
    Along C t moves
along_all C D leads t [] all = tt
along_all C D leads t (x ∷ moves) all = (leads t x all.0, along_all C D leads (moved t x) moves all.1)

-- D of a value that is made or taken and of a place that is gone to is D of all moves of edges and returns
module _ (D : Move → Type 0) (sets : (v : ℕ) (x : Value) → D (Sets v x)) (goes : (spot : Spot) → D (Goes spot)) (takes_one : (x : Value) → D (Takes x)) where
  none_all : (moves : List Move) → moves ≡ [] → AllByRecursion D moves
  none_all moves is = subst (AllByRecursion D) (sym is) tt

  pub crossing_all : (m : Module) (way : Crossing) (moves : List Move) → IsCrossing m way moves → AllByRecursion D moves
  crossing_all m way [] is = absurd is
  crossing_all m way (Sets v x ∷ moves) is = (sets v x, crossing_all m way moves is.1)
  crossing_all m way (Goes spot ∷ moves) is = (goes spot, none_all moves is.1)
  crossing_all m way (Says what ∷ moves) is = absurd is
  crossing_all m way (Grows shape ∷ moves) is = absurd is
  crossing_all m way (Turns block life' ∷ moves) is = absurd is
  crossing_all m way (Fills block bytes ∷ moves) is = absurd is
  crossing_all m way (Keeps x ∷ moves) is = absurd is
  crossing_all m way (Takes x ∷ moves) is = absurd is
  crossing_all m way (Begins frame ∷ moves) is = absurd is
  crossing_all m way (Ends ∷ moves) is = absurd is

  onward_all : (m : Module) (mem : Memory) (frame : BodyFrame) (values : Values) (o : Op) (moves : List Move) → IsOnward m mem frame values o moves →
      AllByRecursion D moves
  onward_all m mem frame values (op.Call call) moves is = subst (AllByRecursion D) (sym is) (goes (behind_call frame.spot), tt)
  onward_all m mem frame values (op.Invoke call normal unwind) moves is = crossing_all m (crossing m mem frame values normal.0) moves is
  onward_all m mem frame values _ moves is = absurd is

  pub going_all : (m : Module) (mem : Memory) (frame : BodyFrame) (instr : Instr) (x : Option Value) (moves : List Move) → IsGoingOn m mem frame instr x moves →
      AllByRecursion D moves
  going_all m mem frame instr x moves (rest, onward, first) =
      by instr.result x (onward_all m mem frame (with_result instr.result x frame.values) instr.op rest onward) first
    where
      by : (result : Option ValueId) (x : Option Value) → AllByRecursion D rest → SetsFirst result x rest moves → AllByRecursion D moves
      by None x all is = subst (AllByRecursion D) (sym is) all
      by (Some v) None all is = absurd is
      by (Some v) (Some y) all is = subst (AllByRecursion D) (sym is) (sets v.0 y, all)

  pub coming_all : (m : Module) (mem : Memory) (body : Option ℕ) (below : List Frame) (x : Option Value) (moves : List Move) →
      IsComing m mem body below x moves →
      AllByRecursion D moves
  coming_all m mem body [] x moves is = absurd is
  coming_all m mem body (Outside under ∷ below) x moves is = subst (AllByRecursion D) (sym is) (by x)
    where
      by : (x : Option Value) → AllByRecursion D (takes x)
      by None = tt
      by (Some x) = (takes_one x, tt)
  coming_all m mem body (Body under ∷ below) x moves (instr, y, at, back, goes_is) = going_all m mem under instr y moves goes_is

  pub through_all : D (Says Unwind) → D Ends → (m : Module) (mem : Memory) (below : List Frame) (moves : List Move) → IsThrough m mem below moves →
      AllByRecursion D moves
  through_all unwinds ends m mem [] moves is = absurd is
  through_all unwinds ends m mem (Outside under ∷ below) moves is = none_all moves is
  through_all unwinds ends m mem (Body under ∷ below) moves is =
      elim is [
        | inl (picks, rest, block, lands, crossing_is) ↦ crossing_all m (crossing m mem under under.values block) moves crossing_is
        | inr (picks, rest, more, passes, eq, through) ↦
            subst (AllByRecursion D) (sym eq) (unwinds, (ends, through_all unwinds ends m mem below more through))
      ]

  pub taking_all : (xs : List Value) → AllByRecursion D (taking xs)
  taking_all [] = tt
  taking_all (x ∷ xs) = (takes_one x, taking_all xs)
