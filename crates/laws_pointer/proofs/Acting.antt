-- Each kind of instruction and each act brings values that are as their words say.
use Rattle.std.proofs.Common.{◌≡◌, ℕ, Bool, true, false, List, [], ◌∷◌, slice_get, Option, None, Some, refl, sym, ap, subst}
use Rattle.std.proofs.Common.{◌∙◌}
use Rattle.std.proofs.Common.{inl, true≢false, MatchOption}
use Rattle.std.specs.List.{AllByRecursion}
use Rattle.std.proofs.Common.{◌%◌, ◌==◌}
use Rattle.std.specs.Int.{◌∣◌}
use Rattle.std.proofs.lemmas.Nat.Gcd.{dvd_of_mod-eq-zero}
use Rattle.std.proofs.lemmas.Bool.{and_parts, eqb-true}
use Rattle.facts.specs.Pointer.{alloca_align}
use Rattle.ir_machine.specs.Memory.{has_room}
use Rattle.ir_machine.specs.Runs.{or_one}
use Rattle.ir_machine.proofs.Instructions.{IsLaid}
use Rattle.laws_pointer.proofs.Placed.{rung_of, placed_start}
use Rattle.laws_pointer.proofs.Good.{same_align}
use Rattle.laws_pointer.proofs.Rules.{indexed_at}
use Rattle.std.proofs.lemmas.Option.{same_Some}
use Rattle.shelf.proofs.Every.{every_always}
use Rattle.attr_ids.specs.declared.ids.TypeId.{TypeId}
use Rattle.attr_ids.specs.declared.ids.ValueId.{ValueId}
use Rattle.ir_ops.specs.declared.conversion.CastOp.TheVariants as cast
use Rattle.ir_module.specs.declared.op.Call.{Call}
use Rattle.ir_module.specs.declared.op.Op.{Op}
use Rattle.ir_module.specs.declared.op.Op.TheVariants as op
use Rattle.ir_module.specs.declared.op.Instr.{Instr}
use Rattle.ir_module.specs.declared.op.Written.{Written}
use Rattle.ir_module.specs.declared.module.Spot.{Spot}
use Rattle.ir_module.specs.declared.module.Module.{Module}
use Rattle.ir_module.specs.Places.{instr_at, IsIn}
use Rattle.ir_module.specs.Calls.{call_of}
use Rattle.ir_module.specs.WellFormed.{IsWellFormed}
use Rattle.facts.specs.Kinds.{ValueFact, SameAs, NonNull, AlignedTo, HasBytes, NotTo, UsedSo, OwnAlloca, Unknown, class_bit, value_fact}
use Rattle.facts.specs.Facts.{Fact, of_return, dead_at}
use Rattle.facts.specs.Known.{written_has}
use Rattle.facts.specs.Return.{ReturnHas, RetHas}
use Rattle.ir_machine.specs.declared.choice.Datum.TheVariants as datum
use Rattle.ir_machine.specs.declared.choice.Value.{Value}
use Rattle.ir_machine.specs.declared.choice.Choice.{Choice}
use Rattle.ir_machine.specs.Values.{plain}
use Rattle.ir_machine.specs.Memory.{Memory, Shape, OfAlloca, without_allocas}
use Rattle.ir_machine.specs.Frames.{Entered, At, BodyFrame, OutsideFrame, Frame, Body, Outside, State, Read}
use Rattle.ir_machine.specs.Frames.{Write, Capture}
use Rattle.ir_machine.specs.Frames.{Return, Unwind, event}
use Rattle.ir_machine.specs.Moves.{Move, Says, Grows, Fills, Sets, Goes, Takes, Ends, moved, after, says}
use Rattle.ir_machine.specs.Reading.{Here, behind}
use Rattle.ir_machine.specs.Access.{alloca_shape, hidden, bytes_with}
use Rattle.ir_machine.specs.Edges.{crossing}
use Rattle.ir_machine.specs.Calls.{passed_to, is_end_name, marks_last}
use Rattle.ir_machine.specs.Outside.{can_use, is_value_of, return_type, can_return, pointers_in, reads_at, captures_in, written_at, block_in, taking}
use Rattle.ir_machine.specs.Steps.{plan}
use Rattle.ir_machine.specs.Runs.{done}
use Rattle.ir_machine.specs.Arguments.{ArgumentsAreOperands}
use Rattle.ir_machine.specs.Links.{IsLinked}
use Rattle.ir_machine.specs.Honest.{IsFair}
use Rattle.ir_machine.specs.Valid.{scope_of, Known, IsValid}
use Rattle.ir_machine.proofs.Basics.{OnOutcome, put_at, Along, along_says}
use Rattle.ir_machine.proofs.Carried.{operand_has, used_has}
use Rattle.ir_machine.proofs.Instructions.{AreRead, IsRead, IsReadOr, EachKind, EachAct, by_step, here_in, passing_at, passing_in}
use Rattle.ir_machine.proofs.Moving.{crossed, came, went_on, went_through}
use Rattle.ir_machine.proofs.Linked.{with_stack, onto}
use Rattle.ir_machine.proofs.Valid.{known_closed, later_moved}
use Rattle.law_premises.specs.Premises.{JustifiesItself, StandLive}
use Rattle.law_premises.specs.Types.{HasTypedAddresses}
use Rattle.laws_pointer.proofs.Good.{IsGood, word_of, class_fact, in_class, fewer_classes, AreGood}
use Rattle.laws_pointer.proofs.Good.{Says as IsSaid}
use Rattle.laws_pointer.proofs.Rules.{RuleOf, HasRules, result_rules, free_good, operand_good, computed_good}
use Rattle.laws_pointer.proofs.Frames.{begins_good, passed_says, all_passed}
use Rattle.laws_pointer.proofs.Results.{return_word}
use Rattle.laws_pointer.proofs.Crossing.{takes_edge, going_good, through_good}
use Rattle.laws_pointer.proofs.Stepping.{Given, has_edge, Asked, Inv, later_same, marks_good, stands_in, may_land, IsReturned}
use Rattle.laws_pointer.proofs.Stepping.{coming_good}

module _ (m : Module) (formed : IsWellFormed m) (held : Fact → Bool) (is : JustifiesItself m held) where
  -- what a `ret` returns is as the word of its body's return says
  pub ret_good : (t : State) (frame : BodyFrame) (below : List Frame) (instr : Instr) (w : Written) (x : Value) → IsIn m frame.func frame.spot →
      instr_at m frame.spot ≡ Some instr → held (dead_at frame.spot) ≡ false → instr.op ≡ op.Ret (Some w) →
      IsGood m t.memory frame.call (written_has m held w) x.datum → IsGood m t.memory frame.call (return_word m held is frame.func) x.datum
  ret_good t frame below instr w x stands at live op_is good = record {
    bits = λ bit kind has e. good.bits bit kind (rule bit kind has e) e;
    classes = fewer_classes t.memory frame.call (return_word m held is frame.func) (written_has m held w) x.datum
        (λ c has. rule (class_bit c) (NotTo c) has (class_fact c)) good.classes;
  }
    where
      rule : (bit : ℕ) (kind : ValueFact) → held (of_return frame.func bit) ≡ true → value_fact bit ≡ Some kind → written_has m held w bit ≡ true
      rule bit kind has e =
          let returns = subst (λ found. MatchOption found ⊥ (ReturnHas m held frame.func bit)) e (is (of_return frame.func bit) has) in
          (subst (λ o. RetHas m held o bit kind) op_is (returns frame.spot instr stands at live)).0

  -- the arguments of a call that begins at an instruction are those of its operands
  begins_passed : (t : State) (frame : BodyFrame) (below : List Frame) (instr : Instr) (call : Call) (xs : List Value) → instr_at m frame.spot ≡ Some instr →
      call_of instr.op ≡ Some call → AreRead m (here_in t frame below instr) call.args xs → (s : Spot) (other : Instr) (written : Call) (at : ℕ) (w : Written) →
      At frame.spot ≡ At s → instr_at m s ≡ Some other → call_of other.op ≡ Some written → slice_get written.args at ≡ Some w →
      (y : Value) × (slice_get (passed_to m t (passing_at (here_in t frame below instr) call xs)) at ≡ Some y)
  begins_passed t frame below instr call xs at_s is_call reads s other written at w here there is_written at_w =
      let spots : frame.spot ≡ s = cc in
      let one : instr ≡ other = same_Some instr other (sym at_s ∙ (ap (instr_at m) spots ∙ there)) in
      let calls : call ≡ written = same_Some call written (sym is_call ∙ (ap (λ (i : Instr). call_of i.op) one ∙ is_written)) in
      all_passed m t (here_in t frame below instr) call xs at w reads (subst (λ (c : Call). slice_get c.args at ≡ Some w) (sym calls) at_w)

  module _ (t : State) (valid : IsValid t) (inv : Inv m formed held is t) where
    abbrev Wanted : List Move → Type 0
    Wanted moves = Given m held (done t moves) → Along (Asked m formed held is) t moves

    -- ---- a module frame

    module _ (frame : BodyFrame) (below : List Frame) (instr : Instr) (stack : t.stack ≡ Body frame ∷ below) (at : instr_at m frame.spot ≡ Some instr) where
      abbrev old : List Frame
      old = Body frame ∷ below

      abbrev w0 : State
      w0 = with_stack t old

      abbrev here : Here
      here = here_in t frame below instr

      valid0 : IsValid w0
      valid0 = subst (λ s. IsValid (with_stack t s)) stack valid

      inv0 : Inv m formed held is w0
      inv0 = subst (λ s. Inv m formed held is (with_stack t s)) stack inv

      values : AreGood m held t.memory frame.call frame.values
      values = inv0.frames.0.kind.values

      ends_at : (moves : List Move) → (after w0 moves).stack ≡ (after t moves).stack
      ends_at moves = subst (λ s. (after (with_stack t s) moves).stack ≡ (after t moves).stack) stack refl

      stands : IsLinked m t.stack → IsIn m frame.func frame.spot
      stands linked = stands_in m formed held is frame below (subst (IsLinked m) stack linked)

      rules : IsLinked m t.stack → (v : ValueId) → instr.result ≡ Some v → HasRules m held is frame.func v.0 frame.spot instr.op
      rules linked v has = result_rules m held is frame.func frame.spot instr v (stands linked) at has

      -- a result of which no fact can be held
      free : (mem : Memory) (v : ValueId) (o : Op) (x : Value) → instr.op ≡ o → HasRules m held is frame.func v.0 frame.spot instr.op →
          ((bit : ℕ) → RuleOf m held is frame.func v.0 frame.spot o bit NonNull → ⊥) →
          ((bit i : ℕ) → RuleOf m held is frame.func v.0 frame.spot o bit (SameAs i) → ⊥) →
          ((bit n : ℕ) → RuleOf m held is frame.func v.0 frame.spot o bit (AlignedTo n) → ⊥) →
          ((bit : ℕ) → RuleOf m held is frame.func v.0 frame.spot o bit (NotTo Unknown) → ⊥) → IsGood m mem frame.call (word_of held v.0) x.datum
      free mem v o x op_is has no_null no_same no_align no_class =
          free_good m held is mem frame.call frame.func v.0 frame.spot o x.datum
          (subst (HasRules m held is frame.func v.0 frame.spot) op_is has) no_null no_same no_align no_class

      -- the block of an alloca is one of the frame's own
      alloca_good : (v : ValueId) (ty : TypeId) (count : Option Written) (written : Option ℕ) (align base size : ℕ) → instr.op ≡ op.Alloca ty count written →
          IsLaid m here ty count written align base size →
          HasRules m held is frame.func v.0 frame.spot instr.op →
          IsGood m (moved w0 (Grows (alloca_shape here v.0 base size))).memory frame.call (word_of held v.0) (datum.Ptr t.memory.count 0)
      alloca_good v ty count written align base size op_is laid has = record {
        bits = λ bit kind fact e. says bit kind e (own bit kind fact e);
        classes = λ b o points alive.
            let same : t.memory.count ≡ b = cc in
            in_class (moved w0 (Grows (alloca_shape here v.0 base size))).memory frame.call (word_of held v.0) b OwnAlloca (
              v.0,
              put_at (λ (s : Shape). s.kind ≡ OfAlloca frame.call.number v.0) t.memory.count (alloca_shape here v.0 base size) t.memory.shape b
                  (λ e. refl) (λ other. absurd (other (sym same))),
            )
            (λ fact. own (class_bit OwnAlloca) (NotTo OwnAlloca) fact (class_fact OwnAlloca));
      }
        where
          own : HasRules m held is frame.func v.0 frame.spot (op.Alloca ty count written)
          own = subst (HasRules m held is frame.func v.0 frame.spot) op_is has

          -- the alignment of the alloca, which its base has
          its_align : alloca_align m ty.0 written ≡ align
          its_align = sym (same_align m ty.0 written) ∙ ap or_one laid.aligned

          base_is : (base % align) ≡ 0
          base_is = eqb-true (base % align) 0 (and_parts (base % align == 0) (has_room t.memory base size) laid.lies).0

          says : (bit : ℕ) (kind : ValueFact) → value_fact bit ≡ Some kind →
              RuleOf m held is frame.func v.0 frame.spot (op.Alloca ty count written) bit kind →
              IsSaid m (moved w0 (Grows (alloca_shape here v.0 base size))).memory frame.call (Some kind) (datum.Ptr t.memory.count 0)
          says bit (SameAs i) e rule = absurd rule
          says bit NonNull e rule = tt
          says bit (AlignedTo bytes) e rule = λ indices.
              placed_start (moved w0 (Grows (alloca_shape here v.0 base size))).memory bytes t.memory.count align (rung_of bit bytes e)
              (subst (λ k. bytes ∣ k) its_align (dvd_of_mod-eq-zero bytes {n = alloca_align m ty.0 written} rule))
              (put_at (λ (s : Shape). s.base % align ≡ 0) t.memory.count (alloca_shape here v.0 base size) t.memory.shape t.memory.count
              (λ same. base_is) (λ other. absurd (other refl)))
          says bit (HasBytes n) e rule = tt
          says bit (NotTo class) e rule = tt
          says bit (UsedSo kind) e rule = tt

      operand_known : (w : Written) (x : Value) → IsRead m here w x → Known (scope_of t) x
      operand_known w x reads =
          operand_has t.memory.count (Known (scope_of t)) (known_closed.carried (scope_of t)) m here refl (λ s b home. (valid.blocks.homes s b home).0)
          valid0.known.frames.0.1 w x reads

      returned : IsLinked m t.stack → held (dead_at frame.spot) ≡ false → (val : Option Written) (x : Option Value) → instr.op ≡ op.Ret val →
          IsReadOr m here val x →
          (w : Value) → x ≡ Some w → Known (scope_of t) w × IsReturned m formed held is t (Body frame) below w
      returned linked live None None op_is reads w e = absurd (cc)
      returned linked live None (Some x) op_is reads w e = absurd reads
      returned linked live (Some v) None op_is reads w e = absurd reads
      returned linked live (Some v) (Some x) op_is reads w e =
          let same : x ≡ w = cc in
          subst (λ (w : Value). Known (scope_of t) w × IsGood m t.memory frame.call (return_word m held is frame.func) w.datum) same (
            operand_known v x reads,
            ret_good t frame below instr v x (stands linked) at live op_is
                (operand_good m held is here (scope_of t) valid.blocks inv.homes values 0 v x reads),
          )

      body_step : EachKind m here Wanted
      body_step = record {
        computing = λ picks x v gives has given.
            onto (Asked m formed held is) t old (Sets v.0 x ∷ Goes (behind frame.spot) ∷ []) stack (
              computed_good m held is here (scope_of t) valid.blocks inv.homes values v.0 frame.func frame.spot picks instr.op x
                  (indexed_at m frame.spot instr at) (rules given.linked v has) gives,
              (tt, tt),
            );
        comparing = λ pred flagged a b x y z v op_is at_a at_b bare has given.
            onto (Asked m formed held is) t old (Says (Capture x.origins) ∷ Says (Capture y.origins) ∷ Sets v.0 z ∷ Goes (behind frame.spot) ∷ []) stack (
              tt,
              (
                tt,
                (
                  free t.memory v (op.Icmp pred flagged a b) z op_is (rules given.linked v has) (λ bit r. r) (λ bit i r. r) (λ bit n r. r) (λ
                      bit r. r),
                  (tt, tt),
                ),
              ),
            );
        exposing = λ flagged a x z v op_is at_a bare has given.
            onto (Asked m formed held is) t old (Says (Capture x.origins) ∷ Sets v.0 z ∷ Goes (behind frame.spot) ∷ []) stack (
              tt,
              (
                free t.memory v (op.Cast cast.PtrToInt flagged a) z op_is (rules given.linked v has) (λ bit r. r) (λ bit i r. r) (λ bit n r. r) (λ
                    bit r. r),
                (tt, tt),
              ),
            );
        allocating = λ ty count written align base size v op_is can has given.
            onto (Asked m formed held is) t old
            (Grows (alloca_shape here v.0 base size) ∷ Sets v.0 (plain (datum.Ptr t.memory.count 0)) ∷ Goes (behind frame.spot) ∷ []) stack
            (tt, (alloca_good v ty count written align base size op_is can (rules given.linked v has), (tt, tt)));
        loading = λ ptr align volatile p place x v op_is at_p can loaded has given.
            onto (Asked m formed held is) t old (says (Read place.block p.origins ∷ hidden volatile p) (Sets v.0 x ∷ Goes (behind frame.spot) ∷ [])) stack
            (along_says (Asked m formed held is) w0 (Read place.block p.origins ∷ hidden volatile p) (Sets v.0 x ∷ Goes (behind frame.spot) ∷ [])
            (every_always (λ what. Unit {0}) (Read place.block p.origins ∷ hidden volatile p) (λ what. tt)) (
              free t.memory v (op.Load ptr align volatile) x op_is (rules given.linked v has) (λ bit r. r) (λ bit i r. r) (λ bit n r. r) (λ bit r. r),
              (tt, tt),
            ));
        storing = λ val ptr align volatile x p place op_is at_val at_ptr can given.
            along_says (Asked m formed held is) t (Write place.block p.origins ∷ Capture x.origins ∷ hidden volatile p)
            (Fills place.block (bytes_with t.memory place x) ∷ Goes (behind frame.spot) ∷ [])
            (every_always (λ what. Unit {0}) (Write place.block p.origins ∷ Capture x.origins ∷ hidden volatile p) (λ what. tt)) (tt, (tt, tt));
        branching = λ picks to moves leads gives given.
            let found = has_edge m here instr.op to leads in
            onto (Asked m formed held is) t old moves stack
            (takes_edge m formed held is (done t moves) given.controlled.edges w0 w0 [] frame frame below frame.values to refl
            (record {
              valid = valid0;
              homes = inv0.homes;
              later = later_same m formed held is t.memory;
              stands = stands given.linked;
              good = values;
              known = valid0.known.frames.0.1;
            })
            stack 0 found.0 (record { instr = instr; at_spot = at; is_edge = found.1 }) moves (ends_at moves)
            (crossed m (crossing m t.memory frame frame.values to) picks moves gives));
        calling_body = λ call xs args f is_call reads inner enters given.
            let live = (subst (StandLive held) stack given.controlled.live).0 in (
              begins_good m held is t (passing_at here call xs) f args enters
                  (λ at' bit kind p y closed each e at_y. passed_says m held is here
                  (scope_of t) valid.blocks inv.homes values live at call xs f at' bit kind y is_call reads inner each e at_y)
                  (λ s other written at' w made there is_written at_w.
                  begins_passed t frame below instr call xs at is_call reads s other written at' w made there is_written at_w),
              (tt, tt),
            );
        calling_outside = λ call callee xs is_call at_callee reads inner given. (
          tt,
          (
            record {
              kind = refl;
              args = λ at' x at_x. (x, at_x, inl refl);
              passed = λ s other written at' w made there is_written at_w.
                  begins_passed t frame below instr call xs at is_call reads s other written at' w made there is_written at_w;
            },
            tt,
          ),
        );
        marking = λ call f xs picks moves is_call callee lifetime reads goes given.
            let whole = marks_last m t.memory (is_end_name f.name) call.args xs moves in
            marks_good m formed held is t (is_end_name f.name) call.args xs moves (done t whole).next.stack
            (λ u e later ends.
            onto (Asked m formed held is) u old moves (e ∙ stack)
            (going_good m formed held is (done t whole) given.controlled.edges w0 u [] frame below instr None stack at
            (record { valid = valid0; homes = inv0.homes; later = later; stands = stands given.linked; good = values; known = valid0.known.frames.0.1 })
            (λ r y has none. absurd (no_value y none)) moves (went_on m t.memory frame instr None picks moves goes)
            (subst (λ s. (after (with_stack u s) moves).stack ≡ (done t whole).next.stack) (e ∙ stack) ends))) refl;
        returning = λ val x picks moves op_is reads back given.
            let mem = without_allocas frame.call.number t.memory in
            let live = (subst (StandLive held) stack given.controlled.live).0 in
            onto (Asked m formed held is) t old (Says (Return x) ∷ Ends ∷ moves) stack (
              tt,
              (
                tt,
                coming_good m formed held is (done t (Says (Return x) ∷ Ends ∷ moves)) given.controlled.edges t (Body frame) below x valid0 inv0
                    (subst (IsLinked m) stack given.linked) (subst (ArgumentsAreOperands m t.memory.home) stack given.passed)
                    (subst (AllByRecursion (HasTypedAddresses m)) stack given.typed).0 stack (returned given.linked live val x op_is reads) moves
                    (came m mem (Some frame.func) below x picks moves back) (ends_at (Says (Return x) ∷ Ends ∷ moves)),
              ),
            );
        unwinding = λ val picks moves op_is gives given.
            onto (Asked m formed held is) t old (Says Unwind ∷ Ends ∷ moves) stack (
              tt,
              (
                tt,
                through_good m formed held is (done t (Says Unwind ∷ Ends ∷ moves)) given.controlled.edges w0 (moved w0 Ends)
                    (Body frame ∷ []) below valid0 inv0.homes
                    (later_moved w0 Ends tt) stack
                    (may_land m formed held is w0 (Body frame) below (subst (IsLinked m) stack given.linked) inv0.frames.1 valid0.known.frames.1) moves
                    (went_through m t.memory below picks moves gives) (ends_at (Says Unwind ∷ Ends ∷ moves)),
              ),
            );
      }
        where
          no_value : (y : Value) → None ≡ Some y → ⊥
          no_value y e = cc

    -- ---- the outside

    module _ (frame : OutsideFrame) (below : List Frame) (stack : t.stack ≡ Outside frame ∷ below) where
      abbrev old' : List Frame
      old' = Outside frame ∷ below

      abbrev w0' : State
      w0' = with_stack t old'

      valid0' : IsValid w0'
      valid0' = subst (λ s. IsValid (with_stack t s)) stack valid

      inv0' : Inv m formed held is w0'
      inv0' = subst (λ s. Inv m formed held is (with_stack t s)) stack inv

      ends_at' : (moves : List Move) → (after w0' moves).stack ≡ (after t moves).stack
      ends_at' moves = subst (λ s. (after (with_stack t s) moves).stack ≡ (after t moves).stack) stack refl

      returned' : (x : Option Value) (ty : Option TypeId) → can_return m t frame ty x ≡ true → IsFair m (event t.stack (Return x)) → (w : Value) → x ≡ Some w →
          Known (scope_of t) w × IsFair m (event old' (Return (Some w)))
      returned' None ty can fair w e = absurd (cc)
      returned' (Some x) None can fair w e = absurd (cc)
      returned' (Some x) (Some ty) can fair w e =
          let same : x ≡ w = cc in
          subst (λ w. Known (scope_of t) w × IsFair m (event old' (Return (Some w)))) same (
            used_has t.memory.count (Known (scope_of t)) (known_closed.carried (scope_of t)) t frame refl valid0'.known.frames.0.1 valid.known.kept x
                (and_parts (can_use t frame x) (is_value_of m ty x) can).0,
            subst (λ s. IsFair m (event s (Return (Some x)))) stack fair,
          )

      taking_along : (u : State) (xs : List Value) → Along (Asked m formed held is) u (taking xs)
      taking_along u [] = tt
      taking_along u (x ∷ xs) = (tt, taking_along (moved u (Takes x)) xs)

      outside_step : EachAct m t frame below Wanted
      outside_step = record {
        reading = λ p size can given. (tt, taking_along t (pointers_in [] (reads_at t.memory p size)));
        writing = λ p bytes can given.
            along_says (Asked m formed held is) t (Write (block_in p.datum) p.origins ∷ captures_in bytes)
            (Fills (block_in p.datum) (written_at t.memory p bytes) ∷ [])
            (every_always (λ what. Unit {0}) (Write (block_in p.datum) p.origins ∷ captures_in bytes) (λ what. tt)) (tt, tt);
        hidden_reading = λ given. (tt, tt);
        hidden_writing = λ given. (tt, tt);
        making = λ base size can given. (tt, tt);
        freeing = λ block can given. (tt, (tt, tt));
        keeping = λ x can given. (tt, (tt, tt));
        entering = λ f xs args open' passes enters given. (
          begins_good m held is t (passing_in m f xs) f args enters
              (λ at bit kind p y closed each e at_y. absurd (true≢false (sym open' ∙ closed)))
              (λ s other written at w made there is_written at_w. absurd (entered_at s made)),
          (tt, tt),
        );
        returning = λ x picks moves can back given.
            let mem = without_allocas frame.call.number t.memory in
            onto (Asked m formed held is) t old' (Says (Return x) ∷ Ends ∷ moves) stack (
              tt,
              (
                tt,
                coming_good m formed held is (done t (Says (Return x) ∷ Ends ∷ moves)) given.controlled.edges t (Outside frame) below x valid0' inv0'
                    (subst (IsLinked m) stack given.linked) (subst (ArgumentsAreOperands m t.memory.home) stack given.passed)
                    (subst (AllByRecursion (HasTypedAddresses m)) stack given.typed).0 stack
                    (returned' x (return_type m frame.call.made) can given.fair.0) moves
                    (came m mem None below x picks moves back) (ends_at' (Says (Return x) ∷ Ends ∷ moves)),
              ),
            );
        unwinding = λ picks moves gives given.
            onto (Asked m formed held is) t old' (Says Unwind ∷ Ends ∷ moves) stack (
              tt,
              (
                tt,
                through_good m formed held is (done t (Says Unwind ∷ Ends ∷ moves)) given.controlled.edges w0' (moved w0' Ends)
                    (Outside frame ∷ []) below valid0'
                    inv0'.homes (later_moved w0' Ends tt) stack
                    (may_land m formed held is w0' (Outside frame) below (subst (IsLinked m) stack given.linked) inv0'.frames.1 valid0'.known.frames.1) moves
                    (went_through m t.memory below picks moves gives) (ends_at' (Says Unwind ∷ Ends ∷ moves)),
              ),
            );
      }
        where
          entered_at : (s : Spot) → Entered ≡ At s → ⊥
          entered_at s e = cc

    pub pointer_step : (choice : Choice) → OnOutcome Wanted (plan m t choice)
    pointer_step choice = by_step m t Wanted (record { body = body_step; outside = outside_step }) choice
