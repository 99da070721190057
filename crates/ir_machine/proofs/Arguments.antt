-- The arguments of each call are the values of its operands in the frame under it, at every moment.
use Rattle.std.proofs.Common.{◌≡◌, ◌⊎◌, inl, inr, ℕ, ◌+◌, ◌%◌, ◌^◌, ◌==◌, ◌&&◌, not, nat_le, Bool, true, false, if◌then◌else◌, List, [], ◌∷◌, map, Option, None}
use Rattle.std.proofs.Common.{Some, refl, sym, ap, subst, ◌∙◌}
use Rattle.std.specs.List.{AllByRecursion}
use Rattle.shelf.proofs.Every.{every_always}
use Rattle.ir_types.specs.declared.ir_type.IrType.{IrType}
use Rattle.ir_types.specs.declared.ir_type.IrType.TheVariants as type
use Rattle.ir_module.specs.declared.op.Symbol.{Symbol}
use Rattle.ir_module.specs.declared.op.Operand.{Operand}
use Rattle.ir_module.specs.declared.op.Operand.TheVariants as operand
use Rattle.ir_module.specs.declared.op.Written.{Written}
use Rattle.ir_module.specs.declared.op.Call.{Call}
use Rattle.ir_module.specs.declared.op.Instr.{Instr}
use Rattle.ir_module.specs.declared.module.Spot.{Spot}
use Rattle.ir_module.specs.declared.module.Module.{Module}
use Rattle.ir_module.specs.Places.{instr_at}
use Rattle.ir_module.specs.Calls.{call_of}
use Rattle.ir_machine.specs.declared.choice.Datum.{Datum}
use Rattle.ir_machine.specs.declared.choice.Datum.TheVariants as datum
use Rattle.ir_machine.specs.declared.choice.Value.{Value}
use Rattle.ir_machine.specs.declared.choice.Choice.{Choice}
use Rattle.ir_machine.specs.Values.{plain, carried, marked}
use Rattle.ir_machine.specs.Memory.{Memory}
use Rattle.ir_machine.specs.Frames.{BodyFrame, Frame, Body, Outside, State, Enter, Capture, call_of as call_in}
use Rattle.ir_machine.specs.Moves.{Move, Says, Grows, Turns, Fills, Keeps, Sets, Goes, Takes, Begins, Ends, moved, set_on_top, gone_on_top, taken_on_top}
use Rattle.ir_machine.specs.Moves.{under_top}
use Rattle.ir_machine.specs.Reading.{Values, Picked, picked, read, read_operand, type_of, width_in, is_pointer, any_int, pick, Displacement, led_to}
use Rattle.ir_machine.specs.Reading.{exact_or_poison, displaced_from, displaced, at_home, symbol_value, or_pair, zero_of, constant_way, Here}
use Rattle.ir_machine.specs.Calls.{marked_args, begun_by, passed_to, body_frame}
use Rattle.ir_machine.specs.Steps.{plan}
use Rattle.ir_machine.specs.Runs.{IsOpening, run}
use Rattle.ir_machine.specs.Arguments.{Homes, IsAddressOf, IsNoAddress, IsValueOf, ArePassed, IsPassedBy, ArgumentsCome, ArgumentsAreOperands}
use Rattle.ir_machine.proofs.Basics.{OnOutcome, on_with, on_found, on_fits, on_if, given, Along, Shown, run_law, outcome_mapped}
use Rattle.ir_machine.proofs.Instructions.{IsRead, AreRead, IsNoPtr, here_in, passing_at, passing_in}
use Rattle.ir_machine.proofs.Moving.{along_all}
use Rattle.ir_machine.proofs.Linked.{onto}
use Rattle.ir_machine.proofs.Calling.{IsNoCall, by_calls}

-- ---- what an operand was read as

no_address : (d : Datum) → IsNoPtr d → IsNoAddress (plain d)
no_address d is = record { origins = refl; block = by d is }
  where
    by : (d : Datum) → IsNoPtr d → (b o : ℕ) → d ≡ datum.Ptr b o → ⊥
    by (datum.Ptr block offset) is b o e = is
    by datum.Null is b o e = cc
    by datum.Undef is b o e = cc
    by datum.Poison is b o e = cc
    by (datum.Int bits) is b o e = cc
    by datum.Pair is b o e = cc

-- the address of a symbol, and what a getelementptr makes of it, is to its block alone
address_is : (home : Homes) (s : Symbol) → IsAddressOf home s (plain (at_home (home s)))
address_is home s = record { origins = refl; block = λ b o e. by (home s) refl b o e }
  where
    by : (found_at : Option ℕ) → home s ≡ found_at → (b o : ℕ) → at_home found_at ≡ datum.Ptr b o → home s ≡ Some b
    by None at b o e = absurd (cc)
    by (Some block) at b o e = let same_block : block ≡ b = cc in at ∙ ap Some same_block

abbrev IsAddressPicked : Homes → Symbol → Picked → Type 0
IsAddressPicked home s r = IsAddressOf home s r.value

address_carried : (home : Homes) (s : Symbol) (x : Value) (d : Datum) → IsAddressOf home s x → ((b o : ℕ) → d ≡ datum.Ptr b o → home s ≡ Some b) →
    IsAddressOf home s (carried x d)
address_carried home s x d is block = record { origins = is.origins; block = block }

address_led : (home : Homes) (s : Symbol) (way : Displacement) (x : Value) (block there : ℕ) (within : Bool) (picks : List ℕ) → IsAddressOf home s x →
    home s ≡ Some block →
    OnOutcome (IsAddressPicked home s) (led_to way x (datum.Ptr block there) within picks)
address_led home s way x block there within picks is at =
    on_if (IsAddressPicked home s) (way.inbounds && not within) _ _ (λ _. poison)
    (λ _. on_if (IsAddressPicked home s) (way.wrap && not (way.forward && within)) (exact_or_poison x (datum.Ptr block there) picks) (picked (carried x
    (datum.Ptr block there)) picks)
    (λ _. by (pick picks == 0)) (λ _. exact))
  where
    poison : IsAddressOf home s (carried x datum.Poison)
    poison = address_carried home s x datum.Poison is (λ b o e. absurd (cc))

    exact : IsAddressOf home s (carried x (datum.Ptr block there))
    exact = address_carried home s x (datum.Ptr block there) is (λ b o e. let same_block : block ≡ b = cc in at ∙ ap Some same_block)

    by : (b : Bool) → IsAddressOf home s (carried x (if b then datum.Ptr block there else datum.Poison))
    by true = address_carried home s x (datum.Ptr block there) is (λ b o e. let same_block : block ≡ b = cc in at ∙ ap Some same_block)
    by false = address_carried home s x datum.Poison is (λ b o e. absurd (cc))

address_displaced : (home : Homes) (s : Symbol) (mem : Memory) (way : Displacement) (x : Value) (picks : List ℕ) → IsAddressOf home s x →
    OnOutcome (IsAddressPicked home s) (displaced mem way x picks)
address_displaced home s mem way x picks is = by x.datum refl
  where
    by : (d : Datum) → x.datum ≡ d → OnOutcome (IsAddressPicked home s) (displaced_from mem way x d picks)
    by (datum.Ptr block offset) e =
        address_led home s way x block ((offset + way.bytes) % (2 ^ 64)) (nat_le ((offset + way.bytes) % (2 ^ 64)) (mem.shape block).size) picks is
        (is.block block offset e)
    by datum.Null e = null_or (way.bytes == 0)
      where
        null_or : (b : Bool) → IsAddressOf home s (carried x (if b then datum.Null else datum.Poison))
        null_or true = address_carried home s x datum.Null is (λ b o e. absurd (cc))
        null_or false = address_carried home s x datum.Poison is (λ b o e. absurd (cc))
    by datum.Undef e = is
    by datum.Poison e = is
    by (datum.Int bits) e = tt
    by datum.Pair e = tt

zero_no_ptr : (ty : Option IrType) → OnOutcome IsNoPtr (zero_of ty)
zero_no_ptr None = tt
zero_no_ptr (Some (type.Int width)) = tt
zero_no_ptr (Some type.Ptr) = tt
zero_no_ptr (Some (type.Struct fields packed)) = tt
zero_no_ptr (Some type.Void) = tt
zero_no_ptr (Some (type.Array n elem)) = tt
zero_no_ptr (Some type.Opaque) = tt

or_pair_no_ptr : (ty : Option IrType) (d : Datum) → IsNoPtr d → IsNoPtr (or_pair ty d)
or_pair_no_ptr None d is = is
or_pair_no_ptr (Some (type.Int width)) d is = is
or_pair_no_ptr (Some type.Ptr) d is = is
or_pair_no_ptr (Some (type.Struct fields packed)) d is = tt
or_pair_no_ptr (Some type.Void) d is = is
or_pair_no_ptr (Some (type.Array n elem)) d is = is
or_pair_no_ptr (Some type.Opaque) d is = is

module _ (m : Module) (mem : Memory) (values : Values) where
  abbrev IsPickedOf : Operand → Picked → Type 0
  IsPickedOf w r = IsValueOf mem.home values w r.value

  operand_is : (ty : Option IrType) (w : Operand) (picks : List ℕ) → OnOutcome (λ r. IsValueOf mem.home values w r.value) (read_operand m mem values ty w picks)
  operand_is ty (operand.Value v) picks = on_found (λ (r : Picked). values v.0 ≡ Some r.value) (values v.0) (λ x. picked x picks) (λ x is. is)
  operand_is ty (operand.Int bits here) picks = on_fits (λ (r : Picked). IsNoAddress r.value) here _ (λ _. no_address (datum.Int bits) tt)
  operand_is ty (operand.Truth b) picks = no_address (datum.Int (if b then 1 else 0)) tt
  operand_is ty operand.Zero picks =
      on_with (λ (r : Picked). IsNoAddress r.value) (zero_of ty) (λ d. picked (plain d) picks) (λ d is. no_address d (given IsNoPtr (zero_of ty) d
      (zero_no_ptr ty) is))
  operand_is ty operand.Null picks = no_address datum.Null tt
  operand_is ty operand.Undef picks = no_address (or_pair ty datum.Undef) (or_pair_no_ptr ty datum.Undef tt)
  operand_is ty operand.Poison picks = no_address (or_pair ty datum.Poison) (or_pair_no_ptr ty datum.Poison tt)
  operand_is ty (operand.Global g) picks = address_is mem.home _
  operand_is ty (operand.Func f) picks = address_is mem.home _
  operand_is ty (operand.Offset base bytes inbounds wrap) picks =
      address_displaced mem.home base mem (constant_way (operand.Offset base bytes inbounds wrap)) (symbol_value mem base) picks (address_is mem.home base)
  operand_is ty (operand.WrongOffset rule) picks = tt
  operand_is ty (operand.Parts shape first n) picks = tt
  operand_is ty (operand.AnyInt first n) picks = no_address (any_int (width_in ty) picks) tt

-- an operand that was read is a value of the frame, an address of a symbol, or no address
pub read_is : (m : Module) (here : Here) (w : Written) (x : Value) → IsRead m here w x → IsValueOf here.state.memory.home here.frame.values w.val x
read_is m here w x (picks, rest, gives) =
    given (λ (r : Picked). IsValueOf here.state.memory.home here.frame.values w.val r.value) (read m here.state.memory here.frame.values w picks)
    (record { value = x; picks = rest }) (operand_is m here.state.memory here.frame.values (type_of m w.ty) w.val picks) gives

pub passed_are : (m : Module) (here : Here) (call k : ℕ) (ws : List Written) (xs : List Value) → AreRead m here ws xs →
    ArePassed here.state.memory.home here.frame.values call k ws (marked_args m call k (map (λ w. w.ty) ws) xs)
passed_are m here call k [] [] are = tt
passed_are m here call k [] (x ∷ xs) are = absurd are
passed_are m here call k (w ∷ ws) [] are = absurd are
passed_are m here call k (w ∷ ws) (x ∷ xs) are = (
  record {
    value = x;
    operand = read_is m here w x are.0;
    is = by
        (is_pointer m w.ty);
  },
  passed_are m here call (k + 1) ws xs are.1,
)
  where
    by : (b : Bool) → ((if b then marked (record { call = call; param = k }) x else x) ≡ x) ⊎
        ((if b then marked (record { call = call; param = k }) x else x) ≡ marked (record { call = call; param = k }) x)
    by true = inr refl
    by false = inl refl

-- ---- at every moment
module _ (m : Module) where
  abbrev pub Passed : State → Type 0
  Passed t = ArgumentsAreOperands m t.memory.home t.stack

  -- only a call that begins has something to show
  abbrev Passes : State → Move → Type 0
  Passes t (Begins frame) = ArgumentsCome m t.memory.home (call_in frame) t.stack
  Passes t (Says what) = Unit {0}
  Passes t (Grows shape) = Unit {0}
  Passes t (Turns block life') = Unit {0}
  Passes t (Fills block bytes) = Unit {0}
  Passes t (Keeps x) = Unit {0}
  Passes t (Sets v x) = Unit {0}
  Passes t (Goes spot) = Unit {0}
  Passes t (Takes x) = Unit {0}
  Passes t Ends = Unit {0}

  set_passed : (home : Homes) (v : ℕ) (x : Value) (stack : List Frame) → ArgumentsAreOperands m home stack → ArgumentsAreOperands m home (set_on_top v x stack)
  set_passed home v x [] h = h
  set_passed home v x (Body f ∷ below) h = h
  set_passed home v x (Outside f ∷ below) h = h

  gone_passed : (home : Homes) (s : Spot) (stack : List Frame) → ArgumentsAreOperands m home stack → ArgumentsAreOperands m home (gone_on_top s stack)
  gone_passed home s [] h = h
  gone_passed home s (Body f ∷ below) h = h
  gone_passed home s (Outside f ∷ below) h = h

  taken_passed : (home : Homes) (x : Value) (stack : List Frame) → ArgumentsAreOperands m home stack → ArgumentsAreOperands m home (taken_on_top x stack)
  taken_passed home x [] h = h
  taken_passed home x (Body f ∷ below) h = h
  taken_passed home x (Outside f ∷ below) h = h

  under_passed : (home : Homes) (stack : List Frame) → ArgumentsAreOperands m home stack → ArgumentsAreOperands m home (under_top stack)
  under_passed home [] h = h
  under_passed home (top ∷ below) h = h.1

  passed_moved : (t : State) (x : Move) → Passed t → Passes t x → Passed (moved t x)
  passed_moved t (Says what) h c = h
  passed_moved t (Grows shape) h c = h
  passed_moved t (Turns block life') h c = h
  passed_moved t (Fills block bytes) h c = h
  passed_moved t (Keeps x) h c = h
  passed_moved t (Sets v x) h c = set_passed t.memory.home v x t.stack h
  passed_moved t (Goes s) h c = gone_passed t.memory.home s t.stack h
  passed_moved t (Takes x) h c = taken_passed t.memory.home x t.stack h
  passed_moved t (Begins frame) h c = (c, h)
  passed_moved t Ends h c = under_passed t.memory.home t.stack h

  no_call_passes : (t : State) (x : Move) → IsNoCall x → Passes t x
  no_call_passes t (Begins frame) none = absurd none
  no_call_passes t (Says what) none = tt
  no_call_passes t (Grows shape) none = tt
  no_call_passes t (Turns block life') none = tt
  no_call_passes t (Fills block bytes) none = tt
  no_call_passes t (Keeps x) none = tt
  no_call_passes t (Sets v x) none = tt
  no_call_passes t (Goes spot) none = tt
  no_call_passes t (Takes x) none = tt
  no_call_passes t Ends none = tt

  passed_by : (t : State) (frame : BodyFrame) (below : List Frame) (instr : Instr) (call : Call) (xs args : List Value) → instr_at m frame.spot ≡ Some instr →
      call_of instr.op ≡ Some call → AreRead m (here_in t frame below instr) call.args xs →
      IsPassedBy m t.memory.home (begun_by m t (passing_at (here_in t frame below instr) call xs) args) frame
  passed_by t frame below instr call xs args stands is at =
      record { instr = instr; written = call; stands = stands; is_call = is; args = passed_are m (here_in t frame below instr) t.next_call 0 call.args xs at }

  passes_step : (t : State) (choice : Choice) → OnOutcome (Along Passes t) (plan m t choice)
  passes_step t choice = by_calls m t (Along Passes t) (λ moves none. along_all Passes IsNoCall no_call_passes t moves none) (record {
    body = λ frame below instr call xs args f stack stands is at inner enters.
        onto Passes t (Body frame ∷ below) (Begins (Body (body_frame m t (passing_at (here_in t frame below instr) call xs) f args)) ∷ Says
        (Enter f) ∷ []) stack
        (passed_by t frame below instr call xs args stands is at, (tt, tt));
    outer = λ frame below instr call callee xs stack stands is at inner.
        let passing = passing_at (here_in t frame below instr) call xs in
        onto Passes t (Body frame ∷ below) (Says (Capture callee.origins) ∷ Begins (Outside (record {
          call = begun_by m t passing
              (passed_to m t passing);
          hand = passed_to m t passing;
        })) ∷ []) stack
        (tt, (passed_by t frame below instr call xs (passed_to m t passing) stands is at, tt));
    entered = λ frame below f xs args stack is_open passes enters.
        onto Passes t (Outside frame ∷ below) (Begins (Body (body_frame m t (passing_in m f xs) f args)) ∷ Says (Enter f) ∷ []) stack (tt, (tt, tt));
  }) choice

  opening_passed : (t : State) → IsOpening m t → Passed t
  opening_passed t is = subst (ArgumentsAreOperands m t.memory.home) (sym is.stack) (tt, tt)

  -- in every state of every run
  pub all_passed : (t : State) → IsOpening m t → (choices : List Choice) → AllByRecursion (Shown Passed (λ e. Unit {0})) (run m t choices)
  all_passed t is choices =
      run_law m Passed (λ d. Unit {0}) Passes (λ e. Unit {0}) (record { move = passed_moved; happens = λ t what h c. tt })
      (λ t choice h. outcome_mapped (Along Passes t) (λ moves. Unit {0} → Along Passes t moves) (plan m t choice) (λ moves along _. along)
      (passes_step t choice))
      choices t (opening_passed t is) (every_always (λ d. Unit {0}) (run m t choices) (λ d. tt))
