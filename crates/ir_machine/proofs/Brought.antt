-- Every step brings only values that are P, for each family of facts of values that is closed under what the machine does.
use Rattle.std.proofs.Common.{◌≡◌, ℕ, ◌+◌, ◌&&◌, ◌<◌, nat_lt, Bool, true, false, if◌then◌else◌, List, [], ◌∷◌, length, map, Option, None, Some, refl, sym}
use Rattle.std.proofs.Common.{subst, arith, inl, inr}
use Rattle.std.specs.List.{AllByRecursion, list_any, list_all}
use Rattle.std.proofs.lemmas.Bool.{and_parts}
use Rattle.attr_ids.specs.declared.ids.TypeId.{TypeId}
use Rattle.attr_ids.specs.declared.ids.ValueId.{ValueId}
use Rattle.shelf.proofs.Every.{every_mapped, every_append, every_always}
use Rattle.ir_module.specs.declared.op.Op.{Op}
use Rattle.ir_module.specs.declared.op.Op.TheVariants as op
use Rattle.ir_module.specs.declared.op.Instr.{Instr}
use Rattle.ir_module.specs.declared.op.Symbol.{Symbol}
use Rattle.ir_module.specs.declared.op.Written.{Written}
use Rattle.ir_module.specs.declared.module.Spot.{Spot}
use Rattle.ir_module.specs.declared.module.Module.{Module}
use Rattle.ir_machine.specs.declared.choice.Datum.{Datum}
use Rattle.ir_machine.specs.declared.choice.Datum.TheVariants as datum
use Rattle.ir_machine.specs.declared.choice.Value.{Value}
use Rattle.ir_machine.specs.declared.choice.Byte.{Byte}
use Rattle.ir_machine.specs.declared.choice.Byte.TheVariants as byte
use Rattle.ir_machine.specs.declared.choice.Choice.{Choice}
use Rattle.ir_machine.specs.Values.{marked, is_same_value}
use Rattle.ir_machine.specs.Memory.{Memory, put, Live, Closed, is_dead, without_allocas}
use Rattle.ir_machine.specs.Frames.{What, Read, Write, Capture, BodyFrame, OutsideFrame, Frame, Body, Outside, State}
use Rattle.ir_machine.specs.Moves.{Move, Says, Grows, Turns, Fills, Keeps, Sets, Goes, Takes, Begins, Ends, moved, set_on_top, gone_on_top, taken_on_top}
use Rattle.ir_machine.specs.Moves.{under_top, says, Gives}
use Rattle.ir_machine.specs.Reading.{is_pointer, type_of, Values, Here}
use Rattle.ir_machine.specs.Access.{hidden}
use Rattle.ir_machine.specs.Edges.{Crossing, crossing}
use Rattle.ir_module.specs.declared.module.Param.{Param}
use Rattle.ir_machine.specs.Calls.{is_end_name, Passing, params_of, entered, passed_to, marked_args, body_frame, takes, with_result, marks_last, turns}
use Rattle.ir_machine.specs.Calls.{is_alloca_result}
use Rattle.ir_machine.specs.Outside.{block_in, offset_in, can_use, can_touch, can_pass, is_value_of, return_type, can_return, pointers_in, taking, reads_at}
use Rattle.ir_machine.specs.Outside.{is_ptr, can_write, captures_in, written_at}
use Rattle.ir_machine.specs.Steps.{plan}
use Rattle.ir_machine.specs.Valid.{Scope, scope_of, IsSomeOf, IsByteOf, HasAll, AllAre}
use Rattle.ir_machine.proofs.Basics.{OnOutcome, given, put_has, Along, along_says}
use Rattle.ir_machine.proofs.Instructions.{IsBare, EachKind, EachAct, here_in, IsReadOr, by_step, passing_at, passing_in}
use Rattle.ir_machine.proofs.Moving.{IsCrossing, crossed, IsOnward, SetsFirst, IsGoingOn, went_on, IsComing, came, IsThrough, went_through}
use Rattle.ir_machine.proofs.Carried.{IsCarried, read_has, operand_has, operands_have, computed_has, bytes_from_have, overlaid_has, loaded_has, stored_has}
use Rattle.ir_machine.proofs.Carried.{entered_has, came_back_has, with_result_has, bound_has, used_has}

-- ---- scopes

-- one more block
abbrev pub with_block : Scope → Scope
with_block s = record { count = s.count + 1; next_call = s.next_call; born = s.born }

-- one more call
abbrev pub with_call : Scope → Scope
with_call s = record { count = s.count; next_call = s.next_call + 1; born = put s.next_call s.count s.born }

-- A family of facts of values, by the scope, that holds of what the machine makes of values that it holds of.
pub record IsClosed (P : Scope → Value → Type 0) : Type 0 where
  pub carried : (s : Scope) → IsCarried s.count (P s)
  pub wider : (s : Scope) (x : Value) → P s x → P (with_block s) x
  pub further : (s : Scope) (x : Value) → P s x → P (with_call s) x
  pub marked : (s : Scope) (x : Value) (j : ℕ) → P s x → P (with_call s) (marked (record { call = s.next_call; param = j }) x)

-- each value that a move brings is P
abbrev pub Brings : (Value → Type 0) → Move → Type 0
Brings P (Says what) = Unit {0}
Brings P (Grows shape) = Unit {0}
Brings P (Turns block life') = Unit {0}
Brings P (Fills block bytes) = (at : ℕ) → IsByteOf P (bytes at)
Brings P (Keeps x) = P x
Brings P (Sets v x) = P x
Brings P (Goes spot) = Unit {0}
Brings P (Takes x) = P x
Brings P (Begins frame) = HasAll P frame
Brings P Ends = Unit {0}

-- ---- what was there
byte_mapped : (P R : Value → Type 0) → ((x : Value) → P x → R x) → (b : Byte) → IsByteOf P b → IsByteOf R b
byte_mapped P R leads (byte.Number n) is = tt
byte_mapped P R leads byte.Undef is = tt
byte_mapped P R leads byte.Poison is = tt
byte_mapped P R leads (byte.Fragment k x) is = leads x is

some_mapped : (P R : Value → Type 0) → ((x : Value) → P x → R x) → (x : Option Value) → IsSomeOf P x → IsSomeOf R x
some_mapped P R leads None is = tt
some_mapped P R leads (Some x) is = leads x is

frame_mapped : (P R : Value → Type 0) → ((x : Value) → P x → R x) → (frame : Frame) → HasAll P frame → HasAll R frame
frame_mapped P R leads (Body f) has =
    ((every_mapped P R f.call.passed leads has.0.0, every_mapped P R f.call.args leads has.0.1), (λ v. some_mapped P R leads (f.values v) (has.1 v)))
frame_mapped P R leads (Outside f) has =
    ((every_mapped P R f.call.passed leads has.0.0, every_mapped P R f.call.args leads has.0.1), every_mapped P R f.hand leads has.1)

-- what holds of each value holds of each of them in another way too
pub all_mapped : (P R : Value → Type 0) → ((x : Value) → P x → R x) → (t : State) → AllAre P t → AllAre R t
all_mapped P R leads t all = record {
  frames = every_mapped (HasAll P) (HasAll R) t.stack (frame_mapped P R leads) all.frames;
  kept = every_mapped P R t.kept leads all.kept;
  bytes = λ b at. byte_mapped P R leads (t.memory.bytes b at) (all.bytes b at);
}

module _ (P : Value → Type 0) where
  set_has : (v : ℕ) (x : Value) (stack : List Frame) → P x → AllByRecursion (HasAll P) stack → AllByRecursion (HasAll P) (set_on_top v x stack)
  set_has v x [] has all = tt
  set_has v x (Body f ∷ below) has all = ((all.0.0, (λ n. put_has (λ n y. IsSomeOf P y) v (Some x) f.values n has (all.0.1 n))), all.1)
  set_has v x (Outside f ∷ below) has all = all

  gone_has : (spot : Spot) (stack : List Frame) → AllByRecursion (HasAll P) stack → AllByRecursion (HasAll P) (gone_on_top spot stack)
  gone_has spot [] all = tt
  gone_has spot (Body f ∷ below) all = all
  gone_has spot (Outside f ∷ below) all = all

  taken_has : (x : Value) (stack : List Frame) → P x → AllByRecursion (HasAll P) stack → AllByRecursion (HasAll P) (taken_on_top x stack)
  taken_has x [] has all = tt
  taken_has x (Body f ∷ below) has all = all
  taken_has x (Outside f ∷ below) has all = ((all.0.0, every_append P f.hand (x ∷ []) all.0.1 (has, tt)), all.1)

  under_has : (stack : List Frame) → AllByRecursion (HasAll P) stack → AllByRecursion (HasAll P) (under_top stack)
  under_has [] all = tt
  under_has (top ∷ below) all = all.1

module _ (P : Scope → Value → Type 0) (closed : IsClosed P) where
  -- the values that a move brings are P in the scope of afterwards
  abbrev pub Brought : State → Move → Type 0
  Brought t x = Brings (P (scope_of (moved t x))) x

  -- each value anywhere stays P
  pub all_moved : (t : State) (x : Move) → AllAre (P (scope_of t)) t → Brought t x → AllAre (P (scope_of (moved t x))) (moved t x)
  all_moved t (Says what) all brings = all
  all_moved t (Grows shape) all brings =
      let later = all_mapped (P (scope_of t)) (P (with_block (scope_of t))) (closed.wider (scope_of t)) t all in
      record {
        frames = later.frames;
        kept = later.kept;
        bytes = λ b at. put_has (λ n bytes. IsByteOf (P (with_block (scope_of t))) (bytes at)) t.memory.count (λ at. byte.Undef) t.memory.bytes b tt
            (later.bytes b at);
      }
  all_moved t (Turns block life') all brings = record { frames = all.frames; kept = all.kept; bytes = all.bytes }
  all_moved t (Fills block bytes) all brings = record {
    frames = all.frames;
    kept = all.kept;
    bytes = λ b at. put_has (λ n bytes. IsByteOf (P (scope_of t)) (bytes at)) block bytes t.memory.bytes b (brings at) (all.bytes b at);
  }
  all_moved t (Keeps x) all brings =
      record { frames = all.frames; kept = every_append (P (scope_of t)) t.kept (x ∷ []) all.kept (brings, tt); bytes = all.bytes }
  all_moved t (Sets v x) all brings = record { frames = set_has (P (scope_of t)) v x t.stack brings all.frames; kept = all.kept; bytes = all.bytes }
  all_moved t (Goes spot) all brings = record { frames = gone_has (P (scope_of t)) spot t.stack all.frames; kept = all.kept; bytes = all.bytes }
  all_moved t (Takes x) all brings = record { frames = taken_has (P (scope_of t)) x t.stack brings all.frames; kept = all.kept; bytes = all.bytes }
  all_moved t (Begins frame) all brings =
      let later = all_mapped (P (scope_of t)) (P (with_call (scope_of t))) (closed.further (scope_of t)) t all in
      record { frames = (brings, later.frames); kept = later.kept; bytes = later.bytes }
  all_moved t Ends all brings = record { frames = under_has (P (scope_of t)) t.stack all.frames; kept = all.kept; bytes = all.bytes }

  -- ---- pieces of steps

  moves_gone : (u : State) (moves : List Move) → moves ≡ [] → Along Brought u moves
  moves_gone u moves is = subst (Along Brought u) (sym is) tt

  -- the phis of an edge read values that are P
  along_crossing : (m : Module) (way : Crossing) (u : State) → ((s : Symbol) (b : ℕ) → way.memory.home s ≡ Some b → b < u.memory.count) →
      ((v : ℕ) → IsSomeOf (P (scope_of u)) (way.values v)) → (moves : List Move) → IsCrossing m way moves → Along Brought u moves
  along_crossing m way u exist all [] is = absurd is
  along_crossing m way u exist all (Sets v x ∷ moves) is = (
    read_has u.memory.count (P (scope_of u)) (closed.carried (scope_of u)) m way.memory way.values exist all is.0.arm x is.0.picks is.0.rest is.0.reads,
    along_crossing m way (moved u (Sets v x)) exist all moves is.1,
  )
  along_crossing m way u exist all (Goes spot ∷ moves) is = (tt, moves_gone (moved u (Goes spot)) moves is.1)
  along_crossing m way u exist all (Says what ∷ moves) is = absurd is
  along_crossing m way u exist all (Grows shape ∷ moves) is = absurd is
  along_crossing m way u exist all (Turns block life' ∷ moves) is = absurd is
  along_crossing m way u exist all (Fills block bytes ∷ moves) is = absurd is
  along_crossing m way u exist all (Keeps x ∷ moves) is = absurd is
  along_crossing m way u exist all (Takes x ∷ moves) is = absurd is
  along_crossing m way u exist all (Begins frame ∷ moves) is = absurd is
  along_crossing m way u exist all (Ends ∷ moves) is = absurd is

  along_onward : (m : Module) (mem : Memory) (frame : BodyFrame) (values : Values) (o : Op) (u : State) → ((s : Symbol) (b : ℕ) → mem.home s ≡ Some b →
      b < u.memory.count) →
      ((v : ℕ) → IsSomeOf (P (scope_of u)) (values v)) → (moves : List Move) → IsOnward m mem frame values o moves → Along Brought u moves
  along_onward m mem frame values (op.Call call) u exist all moves is = subst (Along Brought u) (sym is) (tt, tt)
  along_onward m mem frame values (op.Invoke call normal unwind) u exist all moves is = along_crossing m
      (crossing m mem frame values normal.0) u exist all moves is
  along_onward m mem frame values _ u exist all moves is = absurd is

  along_going : (m : Module) (mem : Memory) (frame : BodyFrame) (instr : Instr) (x : Option Value) (u : State) →
      ((s : Symbol) (b : ℕ) → mem.home s ≡ Some b → b < u.memory.count) → ((v : ℕ) → IsSomeOf (P (scope_of u)) (frame.values v)) → IsSomeOf (P (scope_of u)) x →
      (moves : List Move) → IsGoingOn m mem frame instr x moves → Along Brought u moves
  along_going m mem frame instr x u exist all has moves (rest, onward, sets) = by instr.result x has sets
    where
      inside : (u' : State) → scope_of u' ≡ scope_of u → Along Brought u' rest
      inside u' e =
          along_onward m mem frame (with_result instr.result x frame.values) instr.op u'
          (subst (λ s. (g : Symbol) (b : ℕ) → mem.home g ≡ Some b → b < s.count) (sym e) exist)
          (subst (λ s. (v : ℕ) → IsSomeOf (P s) (with_result instr.result x frame.values v)) (sym e)
          (with_result_has u.memory.count (P (scope_of u)) (closed.carried (scope_of u)) instr.result x frame.values has all)) rest onward

      by : (result : Option ValueId) (x : Option Value) → IsSomeOf (P (scope_of u)) x → SetsFirst result x rest moves → Along Brought u moves
      by None x has sets = subst (Along Brought u) (sym sets) (inside u refl)
      by (Some v) None has sets = absurd sets
      by (Some v) (Some y) has sets = subst (Along Brought u) (sym sets) (has, inside (moved u (Sets v.0 y)) refl)

  along_taking : (u : State) (xs : List Value) → AllByRecursion (P (scope_of u)) xs → Along Brought u (taking xs)
  along_taking u [] all = tt
  along_taking u (x ∷ xs) all = (all.0, along_taking (moved u (Takes x)) xs all.1)

  -- what comes back to the frame under the one that returned
  along_coming : (m : Module) (mem : Memory) (body : Option ℕ) (below : List Frame) (x : Option Value) (u : State) →
      ((s : Symbol) (b : ℕ) → mem.home s ≡ Some b → b < u.memory.count) → AllByRecursion (HasAll (P (scope_of u))) below → IsSomeOf (P (scope_of u)) x →
      (moves : List Move) → IsComing m mem body below x moves → Along Brought u moves
  along_coming m mem body [] x u exist all has moves is = absurd is
  along_coming m mem body (Outside under ∷ below) x u exist all has moves is = subst (Along Brought u) (sym is) (by x has)
    where
      by : (x : Option Value) → IsSomeOf (P (scope_of u)) x → Along Brought u (takes x)
      by None has = tt
      by (Some x) has = (has, tt)
  along_coming m mem body (Body under ∷ below) x u exist all has moves (instr, y, at, back, goes) =
      along_going m mem under instr y u exist all.0.1
      (came_back_has u.memory.count (P (scope_of u)) (closed.carried (scope_of u)) m mem body instr.op x y has back) moves goes

  -- an unwinding through the frames below
  along_through : (m : Module) (mem : Memory) (below : List Frame) (u : State) → ((s : Symbol) (b : ℕ) → mem.home s ≡ Some b → b < u.memory.count) →
      AllByRecursion (HasAll (P (scope_of u))) below → (moves : List Move) → IsThrough m mem below moves → Along Brought u moves
  along_through m mem [] u exist all moves is = absurd is
  along_through m mem (Outside under ∷ below) u exist all moves is = moves_gone u moves is
  along_through m mem (Body under ∷ below) u exist all moves is =
      elim is [
        | inl (picks, rest, block, lands, crossing_is) ↦ along_crossing m (crossing m mem under under.values block) u exist all.0.1 moves crossing_is
        | inr (picks, rest, more, passes, eq, through) ↦
            subst (Along Brought u) (sym eq) (tt, (tt, along_through m mem below (moved u Ends) exist all.1 more through))
      ]

  -- ---- marks
  marked_have : (m : Module) (s : Scope) (tys : List TypeId) (j : ℕ) (xs : List Value) → AllByRecursion (P s) xs →
      AllByRecursion (P (with_call s)) (marked_args m s.next_call j tys xs)
  marked_have m s [] j xs all = tt
  marked_have m s (ty ∷ tys) j [] all = tt
  marked_have m s (ty ∷ tys) j (x ∷ xs) all = (by (is_pointer m ty), marked_have m s tys (j + 1) xs all.1)
    where
      by : (b : Bool) → P (with_call s) (if b then marked (record { call = s.next_call; param = j }) x else x)
      by true = closed.marked s x j all.0
      by false = closed.further s x all.0

  -- the frame of a body that begins
  body_has : (m : Module) (t : State) (passing : Passing) (f : ℕ) (args : List Value) → AllByRecursion (P (scope_of t)) passing.values →
      entered t.memory (params_of m f) (passed_to m t passing) ≡ Gives args → HasAll (P (with_call (scope_of t))) (Body (body_frame m t passing f args))
  body_has m t passing f args all enters =
      let s = with_call (scope_of t) in
      let passed = marked_have m (scope_of t) passing.tys 0 passing.values all in
      let has = given (AllByRecursion (P s)) (entered t.memory (params_of m f) (passed_to m t passing)) args
      (entered_has t.memory.count (P s) (closed.carried s) t.memory (params_of m f) (passed_to m t passing) passed) enters in
      ((passed, has), bound_has t.memory.count (P s) (closed.carried s) (params_of m f) args has)

  -- things that happen bring no value
  along_whats : (u : State) (whats : List What) (moves : List Move) → Along Brought u moves → Along Brought u (says whats moves)
  along_whats u whats moves rest = along_says Brought u whats moves (every_always (λ what. Unit {0}) whats (λ what. tt)) rest

  module _ (m : Module) (t : State) (exist : (s : Symbol) (b : ℕ) → t.memory.home s ≡ Some b → b < t.memory.count) (all : AllAre (P (scope_of t)) t) where
    stack_has : (stack : List Frame) → t.stack ≡ stack → AllByRecursion (HasAll (P (scope_of t))) stack
    stack_has stack e = subst (AllByRecursion (HasAll (P (scope_of t)))) e all.frames

    bare_has : (x : Value) → IsBare x → P (scope_of t) x
    bare_has x bare = (closed.carried (scope_of t)).bare x bare

    along_turns : (mem : Memory) (is_end : Bool) (d : Datum) (moves : List Move) → ((u : State) → scope_of u ≡ scope_of t → Along Brought u moves) →
        Along Brought t (turns mem is_end d moves)
    along_turns mem is_end (datum.Ptr block offset) moves rest = by (is_dead (mem.life block)) is_end
      where
        by : (dead is_end : Bool) → Along Brought t (if dead then moves else (if is_end then Turns block Closed ∷ moves
            else Turns block Live ∷ Fills block (λ at. byte.Undef) ∷ moves))
        by true is_end = rest t refl
        by false true = (tt, rest (moved t (Turns block Closed)) refl)
        by false false = (tt, ((λ at. tt), rest (moved (moved t (Turns block Live)) (Fills block (λ at. byte.Undef))) refl))
    along_turns mem is_end datum.Null moves rest = rest t refl
    along_turns mem is_end datum.Undef moves rest = rest t refl
    along_turns mem is_end datum.Poison moves rest = rest t refl
    along_turns mem is_end (datum.Int bits) moves rest = rest t refl
    along_turns mem is_end datum.Pair moves rest = rest t refl

    along_marks : (mem : Memory) (is_end : Bool) (ws : List Written) (xs : List Value) (moves : List Move) → ((u : State) → scope_of u ≡ scope_of t →
        Along Brought u moves) →
        Along Brought t (marks_last m mem is_end ws xs moves)
    along_marks mem is_end [] xs moves rest = rest t refl
    along_marks mem is_end (w ∷ []) [] moves rest = rest t refl
    along_marks mem is_end (w ∷ []) (x ∷ []) moves rest = by (is_alloca_result m w.val)
      where
        by : (b : Bool) → Along Brought t (if b then turns mem is_end x.datum moves else moves)
        by true = along_turns mem is_end x.datum moves rest
        by false = rest t refl
    along_marks mem is_end (w ∷ []) (x ∷ y ∷ xs) moves rest = rest t refl
    along_marks mem is_end (w ∷ v ∷ ws) [] moves rest = rest t refl
    along_marks mem is_end (w ∷ v ∷ ws) (x ∷ xs) moves rest = along_marks mem is_end (v ∷ ws) xs moves rest

    body_brings : (frame : BodyFrame) (below : List Frame) (instr : Instr) → t.stack ≡ Body frame ∷ below →
        EachKind m (here_in t frame below instr) (Along Brought t)
    body_brings frame below instr stack =
        let frames = stack_has (Body frame ∷ below) stack in
        let c = closed.carried (scope_of t) in
        let here = here_in t frame below instr in record {
          computing = λ picks x v gives has. (computed_has t.memory.count (P (scope_of t)) c m here refl exist frames.0.1 picks instr.op x gives, (tt, tt));
          comparing = λ pred flagged a b x y z v is at_a at_b bare has. (tt, (tt, (bare_has z bare, (tt, tt))));
          exposing = λ flagged a x z v is at bare has. (tt, (bare_has z bare, (tt, tt)));
          allocating = λ ty count written align base size v is can has.
              (tt, ((closed.carried (with_block (scope_of t))).block t.memory.count 0 (omega arith), (tt, tt)));
          loading = λ ptr align volatile p place x v is at can loaded has.
              along_whats t (Read place.block p.origins ∷ hidden volatile p) _ (
                loaded_has t.memory.count (P (scope_of t)) c t.memory all.bytes
                    (type_of m instr.ty) place x loaded,
                (tt, tt),
              );
          storing = λ val ptr align volatile x p place is at_val at_ptr can.
              along_whats t (Write place.block p.origins ∷ Capture x.origins ∷ hidden volatile p) _ (
                stored_has t.memory.count (P (scope_of t)) c t.memory all.bytes place x (operand_has t.memory.count (P
                    (scope_of t)) c m here refl exist frames.0.1 val x at_val),
                (tt, tt),
              );
          branching = λ picks to moves leads gives.
              along_crossing m (crossing m t.memory frame frame.values to) t exist frames.0.1 moves (crossed m
              (crossing m t.memory frame frame.values to) picks moves gives);
          calling_body = λ call xs args f is at inner enters. (
            body_has m t (passing_at here call xs) f args (operands_have t.memory.count (P (scope_of t)) c m here refl exist frames.0.1 call.args xs at) enters,
            (tt, tt),
          );
          calling_outside = λ call callee xs is at_callee at inner.
              let passed = marked_have m (scope_of t) (map (λ w. w.ty) call.args) 0 xs (operands_have t.memory.count (P
              (scope_of t)) c m here refl exist frames.0.1 call.args xs at) in
              (tt, (((passed, passed), passed), tt));
          marking = λ call f xs picks moves is callee lifetime at goes.
              along_marks t.memory (is_end_name f.name) call.args xs moves (λ u e.
              along_going m t.memory frame instr None u (subst (λ s. (g : Symbol) (b : ℕ) → t.memory.home g ≡ Some b → b < s.count) (sym e) exist)
              (subst (λ s. (v : ℕ) → IsSomeOf (P s) (frame.values v)) (sym e) frames.0.1) tt moves (went_on m t.memory frame instr None picks moves goes));
          returning = λ val x picks moves is at back. (
            tt,
            (
              tt,
              along_coming m (without_allocas frame.call.number t.memory) (Some frame.func) below x (moved t Ends) exist frames.1
                  (returned_has here frames.0.1 val x at) moves
                  (came m (without_allocas frame.call.number t.memory) (Some frame.func) below x picks moves back),
            ),
          );
          unwinding = λ val picks moves is gives.
              (tt, (tt, along_through m t.memory below (moved t Ends) exist frames.1 moves (went_through m t.memory below picks moves gives)));
        }
      where
        returned_has : (here : Here) → ((v : ℕ) → IsSomeOf (P (scope_of t)) (frame.values v)) → (val : Option Written) (x : Option Value) →
            IsReadOr m (here_in t frame below instr) val x → IsSomeOf (P (scope_of t)) x
        returned_has here values None None at = tt
        returned_has here values None (Some x) at = absurd at
        returned_has here values (Some w) None at = absurd at
        returned_has here values (Some w) (Some x) at =
            operand_has t.memory.count (P (scope_of t)) (closed.carried (scope_of t)) m (here_in t frame below instr) refl exist values w x at

    outside_brings : (frame : OutsideFrame) (below : List Frame) → t.stack ≡ Outside frame ∷ below → EachAct m t frame below (Along Brought t)
    outside_brings frame below stack =
        let frames = stack_has (Outside frame ∷ below) stack in record {
          reading = λ p size can. (
            tt,
            along_taking t (pointers_in [] (reads_at t.memory p size))
                (pointers_have [] (reads_at t.memory p size) (bytes_from_have t.memory.count (P (scope_of t)) (closed.carried (scope_of t))
                (t.memory.bytes (block_in p.datum)) (all.bytes (block_in p.datum)) (offset_in p.datum) size)),
          );
          writing = λ p bytes can. along_whats t (Write (block_in p.datum) p.origins ∷ captures_in bytes) _ ((λ at. written_has frames.0.1 p bytes can at), tt);
          hidden_reading = (tt, tt);
          hidden_writing = (tt, tt);
          making = λ base size can. (tt, tt);
          freeing = λ block can. (tt, (tt, tt));
          keeping = λ x can. (tt, (used frames.0.1 x can, tt));
          entering = λ f xs args is_open passes enters. (
            body_has m t (passing_in m f xs) f args (passed_have frames.0.1
                (params_of m f) xs passes) enters,
            (tt, tt),
          );
          returning = λ x picks moves can back. (
            tt,
            (
              tt,
              along_coming m (without_allocas frame.call.number t.memory) None below x (moved t Ends) exist frames.1 (returned_used frames.0.1 x
                  (return_type m frame.call.made) can) moves
                  (came m (without_allocas frame.call.number t.memory) None below x picks moves back),
            ),
          );
          unwinding = λ picks moves gives.
              (tt, (tt, along_through m t.memory below (moved t Ends) exist frames.1 moves (went_through m t.memory below picks moves gives)));
        }
      where
        used : AllByRecursion (P (scope_of t)) frame.hand → (x : Value) → can_use t frame x ≡ true → P (scope_of t) x
        used hand x can = used_has t.memory.count (P (scope_of t)) (closed.carried (scope_of t)) t frame refl hand all.kept x can

        pointers_have : (seen : List Value) (bytes : List Byte) → AllByRecursion (IsByteOf (P (scope_of t))) bytes →
            AllByRecursion (P (scope_of t)) (pointers_in seen bytes)
        pointers_have seen [] all = tt
        pointers_have seen (byte.Fragment k x ∷ bytes) all =
            by (list_any (is_same_value x) seen) (pointers_have seen bytes all.1) (pointers_have (x ∷ seen) bytes all.1)
          where
            by : (b : Bool) → AllByRecursion (P (scope_of t)) (pointers_in seen bytes) → AllByRecursion (P (scope_of t)) (pointers_in (x ∷ seen) bytes) →
                AllByRecursion (P (scope_of t)) (if b then pointers_in seen bytes else x ∷ pointers_in (x ∷ seen) bytes)
            by true again new = again
            by false again new = (all.0, new)
        pointers_have seen (byte.Number n ∷ bytes) all = pointers_have seen bytes all.1
        pointers_have seen (byte.Undef ∷ bytes) all = pointers_have seen bytes all.1
        pointers_have seen (byte.Poison ∷ bytes) all = pointers_have seen bytes all.1

        byte_used : AllByRecursion (P (scope_of t)) frame.hand → (b : Byte) → can_write t frame b ≡ true → IsByteOf (P (scope_of t)) b
        byte_used hand (byte.Number n) can = tt
        byte_used hand byte.Undef can = tt
        byte_used hand byte.Poison can = tt
        byte_used hand (byte.Fragment k x) can = used hand x (and_parts (nat_lt k 8 && is_ptr x.datum) (can_use t frame x) can).1

        bytes_used : AllByRecursion (P (scope_of t)) frame.hand → (bytes : List Byte) → list_all (can_write t frame) bytes ≡ true →
            AllByRecursion (IsByteOf (P (scope_of t))) bytes
        bytes_used hand [] can = tt
        bytes_used hand (b ∷ bytes) can =
            let parts = and_parts (can_write t frame b) (list_all (can_write t frame) bytes) can in
            (byte_used hand b parts.0, bytes_used hand bytes parts.1)

        written_has : AllByRecursion (P (scope_of t)) frame.hand → (p : Value) (bytes : List Byte) →
            ((can_use t frame p && can_touch t.memory (length bytes) p.datum) && list_all (can_write t frame) bytes) ≡ true → (at : ℕ) →
            IsByteOf (P (scope_of t)) (written_at t.memory p bytes at)
        written_has hand p bytes can at =
            overlaid_has t.memory.count (P (scope_of t)) (closed.carried (scope_of t)) (offset_in p.datum) bytes (t.memory.bytes (block_in p.datum)) at
            (bytes_used hand bytes (and_parts (can_use t frame p && can_touch t.memory (length bytes) p.datum) (list_all (can_write t frame) bytes) can).1)
            (all.bytes (block_in p.datum) at)

        passed_have : AllByRecursion (P (scope_of t)) frame.hand → (params : List Param) (xs : List Value) → can_pass m t frame params xs ≡ true →
            AllByRecursion (P (scope_of t)) xs
        passed_have hand [] [] can = tt
        passed_have hand [] (x ∷ xs) can = absurd (cc)
        passed_have hand (p ∷ params) [] can = absurd (cc)
        passed_have hand (p ∷ params) (x ∷ xs) can =
            let parts = and_parts (can_use t frame x && is_value_of m p.ty x) (can_pass m t frame params xs) can in
            (used hand x (and_parts (can_use t frame x) (is_value_of m p.ty x) parts.0).0, passed_have hand params xs parts.1)

        returned_used : AllByRecursion (P (scope_of t)) frame.hand → (x : Option Value) (ty : Option TypeId) → can_return m t frame ty x ≡ true →
            IsSomeOf (P (scope_of t)) x
        returned_used hand None ty can = tt
        returned_used hand (Some x) None can = absurd (cc)
        returned_used hand (Some x) (Some ty) can = used hand x (and_parts (can_use t frame x) (is_value_of m ty x) can).0

    -- every step brings only values that are P
    pub brought : (choice : Choice) → OnOutcome (Along Brought t) (plan m t choice)
    brought choice = by_step m t (Along Brought t)
        (record { body = λ frame below instr stack at. body_brings frame below instr stack; outside = outside_brings }) choice
