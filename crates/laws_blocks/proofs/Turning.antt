-- The blocks of globals and functions are never dead nor closed: no move turns one.
use Rattle.std.proofs.Common.{◌≡◌, ◌≢◌, ◌&&◌, nat_lt, ℕ, Bool, true, false, if◌then◌else◌, List, [], ◌∷◌, None, Some, refl, sym, ap, subst}
use Rattle.std.proofs.Common.{◌∙◌, true≢false}
use Rattle.std.specs.List.{AllByRecursion}
use Rattle.std.proofs.lemmas.Bool.{and_parts}
use Rattle.ir_module.specs.declared.op.Instr.{Instr}
use Rattle.ir_module.specs.declared.op.Operand.{Operand}
use Rattle.ir_module.specs.declared.op.Operand.TheVariants as operand
use Rattle.ir_module.specs.declared.op.Symbol.{Symbol}
use Rattle.ir_module.specs.declared.op.Written.{Written}
use Rattle.ir_module.specs.declared.module.Module.{Module}
use Rattle.ir_module.specs.Places.{instr_at}
use Rattle.ir_module.specs.WellFormed.{IsWellFormed}
use Rattle.ir_machine.specs.declared.choice.Byte.TheVariants as byte
use Rattle.ir_machine.specs.declared.choice.Choice.{Choice}
use Rattle.ir_machine.specs.declared.choice.Datum.{Datum}
use Rattle.ir_machine.specs.declared.choice.Datum.TheVariants as datum
use Rattle.ir_machine.specs.declared.choice.Value.{Value}
use Rattle.ir_machine.specs.Memory.{Kind, OfSymbol, OfAlloca, Heap, Live, Closed, Dead, Memory, is_dead, is_live, without_allocas}
use Rattle.ir_machine.specs.Values.{plain}
use Rattle.ir_machine.specs.Frames.{BodyFrame, OutsideFrame, Frame, Body, Outside, State, What, Enter, Read, Write, HiddenRead, HiddenWrite, Capture}
use Rattle.ir_machine.specs.Frames.{Return, Unwind}
use Rattle.ir_machine.specs.Moves.{Move, Says, Grows, Turns, Fills, Keeps, Sets, Goes, Takes, Begins, Ends, moved, says, is_alloca_on}
use Rattle.ir_machine.specs.Reading.{behind}
use Rattle.ir_machine.specs.Access.{alloca_shape, bytes_with, hidden}
use Rattle.ir_machine.specs.Edges.{crossing}
use Rattle.ir_machine.specs.Calls.{is_end_name, marks_last, turns, is_alloca_result, passed_to, body_frame, begun_by}
use Rattle.ir_machine.specs.Outside.{is_heap, can_free, block_in, written_at, pointers_in, reads_at, taking, captures_in}
use Rattle.ir_machine.specs.Arguments.{IsValueOf}
use Rattle.ir_machine.specs.Steps.{plan}
use Rattle.ir_machine.specs.Runs.{Done, IsOpening, run}
use Rattle.ir_machine.specs.Valid.{IsValid}
use Rattle.ir_machine.proofs.Basics.{OnOutcome, Along, Shown, put_at}
use Rattle.ir_machine.proofs.Instructions.{IsRead, AreRead, passing_at, passing_in, EachKind, EachAct, by_step, here_in}
use Rattle.ir_machine.proofs.Arguments.{read_is}
use Rattle.ir_machine.proofs.Moving.{crossed, came, went_on, went_through, crossing_all, coming_all, going_all, through_all, taking_all}
use Rattle.ir_machine.proofs.Opening.{opening_valid}
use Rattle.ir_machine.proofs.Running.{valid_run}
use Rattle.fact_meanings.specs.Values.{FrameIsRight, FramesAreRight}
use Rattle.laws_pointer.specs.Told.{but_numbers}
use Rattle.laws_blocks.specs.Blocks.{HaveBlocks, AreLive}
use Rattle.laws_blocks.proofs.Kept.{Kept, kept_moved, opening_kept, home_is}
use Rattle.laws_blocks.proofs.Allocas.{of_allocas, alloca_block}

-- ---- moves that turn no block

abbrev TurnsNone : Move → Type 0
TurnsNone (Turns block life') = ⊥
TurnsNone (Says what) = Unit {0}
TurnsNone (Grows shape) = Unit {0}
TurnsNone (Fills block bytes) = Unit {0}
TurnsNone (Keeps x) = Unit {0}
TurnsNone (Sets v x) = Unit {0}
TurnsNone (Goes spot) = Unit {0}
TurnsNone (Takes x) = Unit {0}
TurnsNone (Begins frame) = Unit {0}
TurnsNone Ends = Unit {0}

says_none : (whats : List What) (moves : List Move) → AllByRecursion TurnsNone moves → AllByRecursion TurnsNone (says whats moves)
says_none [] moves none = none
says_none (what ∷ whats) moves none = (tt, says_none whats moves none)

-- a block that is turned is no symbol's
abbrev Spares : State → Move → Type 0
Spares t (Turns block life') = (s : Symbol) → t.memory.home s ≡ Some block → ⊥
Spares t (Says what) = Unit {0}
Spares t (Grows shape) = Unit {0}
Spares t (Fills block bytes) = Unit {0}
Spares t (Keeps x) = Unit {0}
Spares t (Sets v x) = Unit {0}
Spares t (Goes spot) = Unit {0}
Spares t (Takes x) = Unit {0}
Spares t (Begins frame) = Unit {0}
Spares t Ends = Unit {0}

spares_so : (t : State) (x : Move) → TurnsNone x → Spares t x
spares_so t (Turns block life') none = absurd none
spares_so t (Says what) none = tt
spares_so t (Grows shape) none = tt
spares_so t (Fills block bytes) none = tt
spares_so t (Keeps x) none = tt
spares_so t (Sets v x) none = tt
spares_so t (Goes spot) none = tt
spares_so t (Takes x) none = tt
spares_so t (Begins frame) none = tt
spares_so t Ends none = tt

along_none : (t : State) (moves : List Move) → AllByRecursion TurnsNone moves → Along Spares t moves
along_none t [] none = tt
along_none t (x ∷ moves) none = (spares_so t x none.0, along_none (moved t x) moves none.1)

module _ (m : Module) (formed : IsWellFormed m) where
  abbrev pub Inv : State → Type 0
  Inv t = Kept m t × AreLive t.memory

  -- a symbol's block is of no other kind
  not_of : (mem : Memory) → HaveBlocks m mem → (block : ℕ) (kind : Kind) → (mem.shape block).kind ≡ kind → ((s : Symbol) → OfSymbol s ≡ kind → ⊥) →
      (s : Symbol) → mem.home s ≡ Some block → ⊥
  not_of mem have block kind is other s home = other s (sym (home_is m mem have s block home).1 ∙ is)

  alloca_off : (stack : List Frame) (kind : Kind) (s : Symbol) → kind ≡ OfSymbol s → is_alloca_on stack kind ≡ false
  alloca_off [] kind s is = refl
  alloca_off (top ∷ below) kind s is = ap (is_alloca_on (top ∷ below)) is

  live_moved : (t : State) (x : Move) → Kept m t → AreLive t.memory → Spares t x → AreLive (moved t x).memory
  live_moved t (Says what) kept live spares = live
  live_moved t (Grows shape) kept live spares = λ s b home.
      put_at (λ l. l ≡ Live) t.memory.count Live t.memory.life b (λ e. refl) (λ other. live s b home)
  live_moved t (Turns block life') kept live spares = λ s b home.
      put_at (λ l. l ≡ Live) block life' t.memory.life b (λ e. absurd (spares s (home ∙ ap Some e))) (λ other. live s b home)
  live_moved t (Fills block bytes) kept live spares = live
  live_moved t (Keeps x) kept live spares = live
  live_moved t (Sets v x) kept live spares = live
  live_moved t (Goes spot) kept live spares = live
  live_moved t (Takes x) kept live spares = live
  live_moved t (Begins frame) kept live spares = live
  live_moved t Ends kept live spares = λ s b home.
      subst (λ test. (if test then Dead else t.memory.life b) ≡ Live)
      (sym (alloca_off t.stack (t.memory.shape b).kind s (home_is m t.memory kept s b home).1)) (live s b home)

  -- ---- lifetime markers

  module _ (t : State) (kept : Kept m t) (frame : BodyFrame) (below : List Frame) (instr : Instr)
      (right : FrameIsRight (but_numbers (of_allocas m)) t.memory (Body frame)) where
    value_is : (w : Written) (x : Value) (v : ℕ) → IsRead m (here_in t frame below instr) w x → w.val ≡ operand.Value (record { 0 = v }) →
        frame.values v ≡ Some x
    value_is w x v read is =
        subst (λ o. IsValueOf t.memory.home frame.values o x) is (read_is m (here_in t frame below instr) w x read)

    spares_block : (w : Written) (x : Value) → IsRead m (here_in t frame below instr) w x → is_alloca_result m w.val ≡ true → (b o : ℕ) →
        x.datum ≡ datum.Ptr b o → is_dead (t.memory.life b) ≡ false → (s : Symbol) → t.memory.home s ≡ Some b → ⊥
    spares_block w x read is b o points alive = by w.val refl is
      where
        not_dead : t.memory.life b ≢ Dead
        not_dead e = true≢false (sym (ap is_dead e) ∙ alive)

        by : (y : Operand) → w.val ≡ y → is_alloca_result m y ≡ true → (s : Symbol) → t.memory.home s ≡ Some b → ⊥
        by (operand.Value v) same is =
            let found = alloca_block m formed t.memory frame right v.0 x (value_is w x v.0 read same) is b o points not_dead in
            not_of t.memory kept b (OfAlloca frame.call.number found.0) found.1 (λ s e. clash s found.0 e)
          where
            clash : (s : Symbol) (value : ℕ) → OfSymbol s ≡ OfAlloca frame.call.number value → ⊥
            clash s value e = cc
        by (operand.Int bits fits) same is = absurd (true≢false (sym is))
        by (operand.Truth value) same is = absurd (true≢false (sym is))
        by operand.Zero same is = absurd (true≢false (sym is))
        by operand.Null same is = absurd (true≢false (sym is))
        by operand.Undef same is = absurd (true≢false (sym is))
        by operand.Poison same is = absurd (true≢false (sym is))
        by (operand.Global g) same is = absurd (true≢false (sym is))
        by (operand.Func f) same is = absurd (true≢false (sym is))
        by (operand.Offset base bytes inbounds wrap) same is = absurd (true≢false (sym is))
        by (operand.WrongOffset rule) same is = absurd (true≢false (sym is))
        by (operand.Parts shape first count) same is = absurd (true≢false (sym is))
        by (operand.AnyInt first count) same is = absurd (true≢false (sym is))

    turns_spare : (is_end : Bool) (d : Datum) (moves : List Move) → ((b o : ℕ) → d ≡ datum.Ptr b o → is_dead (t.memory.life b) ≡ false →
        (s : Symbol) → t.memory.home s ≡ Some b → ⊥) → AllByRecursion TurnsNone moves → Along Spares t (turns t.memory is_end d moves)
    turns_spare is_end (datum.Ptr block offset) moves spares none = by (is_dead (t.memory.life block)) refl is_end
      where
        by : (dead : Bool) → is_dead (t.memory.life block) ≡ dead → (is_end : Bool) → Along Spares t (if dead then moves else (if is_end then Turns block
            Closed ∷ moves else Turns block Live ∷ Fills block (λ at. byte.Undef) ∷ moves))
        by true e is_end = along_none t moves none
        by false e true = (spares block offset refl e, along_none (moved t (Turns block Closed)) moves none)
        by false e false =
            (spares block offset refl e, (tt, along_none (moved (moved t (Turns block Live)) (Fills block (λ at. byte.Undef))) moves none))
    turns_spare is_end datum.Null moves spares none = along_none t moves none
    turns_spare is_end datum.Undef moves spares none = along_none t moves none
    turns_spare is_end datum.Poison moves spares none = along_none t moves none
    turns_spare is_end (datum.Int bits) moves spares none = along_none t moves none
    turns_spare is_end datum.Pair moves spares none = along_none t moves none

    marks_spare : (is_end : Bool) (ws : List Written) (xs : List Value) (moves : List Move) → AreRead m (here_in t frame below instr) ws xs →
        AllByRecursion TurnsNone moves → Along Spares t (marks_last m t.memory is_end ws xs moves)
    marks_spare is_end [] xs moves are none = along_none t moves none
    marks_spare is_end (w ∷ []) [] moves are none = along_none t moves none
    marks_spare is_end (w ∷ []) (x ∷ []) moves are none = by (is_alloca_result m w.val) refl
      where
        by : (b : Bool) → is_alloca_result m w.val ≡ b → Along Spares t (if b then turns t.memory is_end x.datum moves else moves)
        by true is = turns_spare is_end x.datum moves (spares_block w x are.0 is) none
        by false is = along_none t moves none
    marks_spare is_end (w ∷ []) (x ∷ y ∷ xs) moves are none = along_none t moves none
    marks_spare is_end (w ∷ v ∷ ws) [] moves are none = along_none t moves none
    marks_spare is_end (w ∷ v ∷ ws) (x ∷ xs) moves are none = marks_spare is_end (v ∷ ws) xs moves are.1 none

  -- ---- each step

  module _ (t : State) (inv : Inv t) where
    abbrev Q : List Move → Type 0
    Q moves = FramesAreRight (but_numbers (of_allocas m)) t → Along Spares t moves

    quiet : (moves : List Move) → AllByRecursion TurnsNone moves → Q moves
    quiet moves none right = along_none t moves none

    body_spares : (frame : BodyFrame) (below : List Frame) (instr : Instr) → t.stack ≡ Body frame ∷ below → instr_at m frame.spot ≡ Some instr →
        EachKind m (here_in t frame below instr) Q
    body_spares frame below instr stack stands = record {
      computing = λ picks x v gives has. quiet (Sets v.0 x ∷ Goes (behind frame.spot) ∷ []) (tt, (tt, tt));
      comparing = λ pred flagged a b x y z v is at_a at_b bare has. quiet (Says (Capture x.origins) ∷ Says (Capture y.origins) ∷ Sets v.0 z ∷ Goes
          (behind frame.spot) ∷ []) (tt, (tt, (tt, (tt, tt))));
      exposing = λ flagged a x z v is at bare has. quiet (Says (Capture x.origins) ∷ Sets v.0 z ∷ Goes (behind frame.spot) ∷ []) (tt, (tt, (tt, tt)));
      allocating = λ ty count written align base size v is can has. quiet
          (Grows (alloca_shape (here_in t frame below instr) v.0 base size) ∷ Sets v.0 (plain (datum.Ptr t.memory.count 0)) ∷ Goes (behind frame.spot) ∷ [])
          (tt, (tt, (tt, tt)));
      loading = λ ptr align volatile p place x v is at can loaded has.
          quiet (says (Read place.block p.origins ∷ hidden volatile p) (Sets v.0 x ∷ Goes (behind frame.spot) ∷ []))
          (says_none (Read place.block p.origins ∷ hidden volatile p) (Sets v.0 x ∷ Goes (behind frame.spot) ∷ []) (tt, (tt, tt)));
      storing = λ val ptr align volatile x p place is at_val at_ptr can.
          quiet (says (Write place.block p.origins ∷ Capture x.origins ∷ hidden volatile p) (Fills place.block (bytes_with t.memory place x) ∷ Goes
          (behind frame.spot) ∷ []))
          (says_none (Write place.block p.origins ∷ Capture x.origins ∷ hidden volatile p)
          (Fills place.block (bytes_with t.memory place x) ∷ Goes (behind frame.spot) ∷ []) (tt, (tt, tt)));
      branching = λ picks to moves leads gives.
          quiet moves (crossing_all TurnsNone (λ v x. tt) (λ s. tt) (λ x. tt) m (crossing m t.memory frame frame.values to) moves
          (crossed m (crossing m t.memory frame frame.values to) picks moves gives));
      calling_body = λ call xs args f is at inner enters.
          quiet (Begins (Body (body_frame m t (passing_at (here_in t frame below instr) call xs) f args)) ∷ Says (Enter f) ∷ []) (tt, (tt, tt));
      calling_outside = λ call callee xs is at_callee at inner.
          let passing = passing_at (here_in t frame below instr) call xs in
          quiet (Says (Capture callee.origins) ∷ Begins (Outside (record {
            call = begun_by m t passing (passed_to m t passing);
            hand = passed_to m t passing;
          })) ∷ []) (tt, (tt, tt));
      marking = λ call f xs picks moves is callee lifetime at goes right.
          marks_spare t inv.0 frame below instr (subst (AllByRecursion (FrameIsRight (but_numbers (of_allocas m)) t.memory)) stack right).0
          (is_end_name f.name) call.args xs moves at
          (going_all TurnsNone (λ v x. tt) (λ s. tt) (λ x. tt) m t.memory frame instr None moves (went_on m t.memory frame instr None picks moves goes));
      returning = λ val x picks moves is at back.
          quiet (Says (Return x) ∷ Ends ∷ moves) (
            tt,
            (
              tt,
              coming_all TurnsNone (λ v x. tt) (λ s. tt) (λ x. tt) m (without_allocas frame.call.number t.memory) (Some frame.func) below x moves
                  (came m (without_allocas frame.call.number t.memory) (Some frame.func) below x picks moves back),
            ),
          );
      unwinding = λ val picks moves is gives.
          quiet (Says Unwind ∷ Ends ∷ moves) (
            tt,
            (
              tt,
              through_all TurnsNone (λ v x. tt) (λ s. tt) (λ x. tt) tt tt m t.memory below moves
                  (went_through m t.memory below picks moves gives),
            ),
          );
    }

    free_spares : (block : ℕ) → can_free t.memory block ≡ true → (s : Symbol) → t.memory.home s ≡ Some block → ⊥
    free_spares block can s home =
        let first = (and_parts (nat_lt block t.memory.count && is_heap (t.memory.shape block).kind) (is_live (t.memory.life block)) can).0 in
        let heap = (and_parts (nat_lt block t.memory.count) (is_heap (t.memory.shape block).kind) first).1 in
        true≢false (sym heap ∙ ap is_heap (home_is m t.memory inv.0 s block home).1)

    outside_spares : (frame : OutsideFrame) (below : List Frame) → t.stack ≡ Outside frame ∷ below → EachAct m t frame below Q
    outside_spares frame below stack = record {
      reading = λ p size can. quiet (Says (Read (block_in p.datum) p.origins) ∷ taking (pointers_in [] (reads_at t.memory p size)))
          (tt, taking_all TurnsNone (λ v x. tt) (λ s. tt) (λ x. tt) (pointers_in [] (reads_at t.memory p size)));
      writing = λ p bytes can.
          quiet (says (Write (block_in p.datum) p.origins ∷ captures_in bytes) (Fills (block_in p.datum) (written_at t.memory p bytes) ∷ []))
          (tt, says_none (captures_in bytes) (Fills (block_in p.datum) (written_at t.memory p bytes) ∷ []) (tt, tt));
      hidden_reading = quiet (Says HiddenRead ∷ []) (tt, tt);
      hidden_writing = quiet (Says HiddenWrite ∷ []) (tt, tt);
      making = λ base size can. quiet (Grows (record { size = size; base = base; kind = Heap }) ∷ []) (tt, tt);
      freeing = λ block can right. (tt, (free_spares block can, tt));
      keeping = λ x can. quiet (Says (Capture x.origins) ∷ Keeps x ∷ []) (tt, (tt, tt));
      entering = λ f xs args is_open passes enters. quiet (Begins (Body (body_frame m t (passing_in m f xs) f args)) ∷ Says (Enter f) ∷ []) (tt, (tt, tt));
      returning = λ x picks moves can back.
          quiet (Says (Return x) ∷ Ends ∷ moves) (
            tt,
            (
              tt,
              coming_all TurnsNone (λ v x. tt) (λ s. tt) (λ x. tt) m (without_allocas frame.call.number t.memory) None below x moves
                  (came m (without_allocas frame.call.number t.memory) None below x picks moves back),
            ),
          );
      unwinding = λ picks moves gives.
          quiet (Says Unwind ∷ Ends ∷ moves) (
            tt,
            (
              tt,
              through_all TurnsNone (λ v x. tt) (λ s. tt) (λ x. tt) tt tt m t.memory below moves
                  (went_through m t.memory below picks moves gives),
            ),
          );
    }

    spares_step : (choice : Choice) → OnOutcome Q (plan m t choice)
    spares_step choice = by_step m t Q (record { body = body_spares; outside = outside_spares }) choice

  opening_live : (t : State) → IsOpening m t → AreLive t.memory
  opening_live t is s b home = (is.memory.blocks b (home_is m t.memory (opening_kept m t is) s b home).0).live

  -- in every state of a run whose values are as that set says
  pub all_live : (t : State) → IsOpening m t → (choices : List Choice) →
      AllByRecursion (λ (d : Done). FramesAreRight (but_numbers (of_allocas m)) d.before) (run m t choices) →
      AllByRecursion (Shown (λ t. IsValid t × Inv t) (λ e. Unit {0})) (run m t choices)
  all_live t is choices right =
      valid_run m Inv (λ d. FramesAreRight (but_numbers (of_allocas m)) d.before) Spares (λ e. Unit {0}) (record {
        move = λ t x valid after fits inv spares. (kept_moved m t x valid fits inv.0, live_moved t x inv.0 inv.1 spares);
        happens = λ t what valid inv spares. tt;
      })
      (λ t choice valid inv. spares_step t inv choice) choices t (opening_valid m t is) (opening_kept m t is, opening_live t is) right
