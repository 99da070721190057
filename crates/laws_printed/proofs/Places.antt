-- Each attribute that is added at a place of the module holds of its subject.
use Rattle.std.proofs.Common.{◌≡◌, ◌+◌, ◌<◌, ◌||◌, not, ◌==◌, ℕ, Bool, true, false, if◌then◌else◌, List, [], ◌∷◌, slice_get, All, Option, None}
use Rattle.std.proofs.Common.{Some, refl, sym, ap, subst, ◌∙◌, true≢false}
use Rattle.std.specs.List.{AllByRecursion, list_any}
use Rattle.std.specs.Option.{option_map_or}
use Rattle.std.proofs.lemmas.List.Elements.{All-from_recursion}
use Rattle.std.proofs.lemmas.Bool.{and_parts, eqb-true}
use Rattle.shelf.proofs.Every.{every_append}
use Rattle.attr_ids.specs.declared.insertion.Place.{Place}
use Rattle.lattice_words.specs.declared.value.TheConstants.{SAME_AS_PARAMETERS}
use Rattle.ir_module.specs.declared.attrs.ParamAttrs.{ParamAttrs}
use Rattle.ir_module.specs.declared.op.Written.{Written}
use Rattle.ir_module.specs.declared.op.Call.{Call}
use Rattle.ir_module.specs.declared.op.Instr.{Instr}
use Rattle.ir_module.specs.declared.module.Param.{Param}
use Rattle.ir_module.specs.declared.module.Seg.{Seg}
use Rattle.ir_module.specs.declared.module.Block.{Block}
use Rattle.ir_module.specs.declared.module.Func.{Func}
use Rattle.ir_module.specs.declared.module.Spot.{Spot}
use Rattle.ir_module.specs.declared.module.Module.{Module}
use Rattle.ir_module.specs.Places.{spot, instr_at, in_seg}
use Rattle.ir_module.specs.Calls.{call_of, inner_callee, is_exact, has_blocks}
use Rattle.ir_module.specs.WellFormed.{IsWellFormed}
use Rattle.facts.specs.Bodies.{is_body, is_pointer, param_in}
use Rattle.facts.specs.Facts.{Fact, dead, noreturn_of, of_return}
use Rattle.ir_machine.specs.declared.choice.Choice.{Choice}
use Rattle.ir_machine.specs.Frames.{At, State}
use Rattle.ir_machine.specs.Runs.{Done, IsOpening, run}
use Rattle.ir_machine.specs.Meanings.{Argument, Parameter, Result, HoldsOfBody, HoldsAtCall, HoldsOfBodyValue, HoldsAtCallValue}
use Rattle.fact_meanings.specs.Runs.{FactsHold}
use Rattle.manifest.specs.Attrs.{Attr, Returned, has_access}
use Rattle.manifest.specs.Added.{Subject, OfBody, OfParam, OfCall, OfArg, Added, put}
use Rattle.manifest.specs.Function.{is_dead_body, at_function, function_attrs}
use Rattle.manifest.specs.Call.{at_call, call_attrs}
use Rattle.manifest.specs.Return.{of_returned, return_attrs, at_return, at_call_return}
use Rattle.manifest.specs.Parameter.{of_entry, of_param, lowest, has_return_type, returns, returned_param, is_number, param_attrs, at_param}
use Rattle.manifest.specs.Argument.{of_operand, of_handed, param_for, refuses_access, arg_attrs_by, at_written, at_parts, at_arg}
use Rattle.manifest.specs.Additions.{call_additions, instr_additions, seg_additions, block_additions, header_additions, body_additions, func_additions}
use Rattle.laws_printed.specs.Printed.{HoldsOfSubject, AdditionHolds, ConstantsAreRight}
use Rattle.laws_printed.proofs.Lists.{every_joined, every_if, every_unless}
use Rattle.laws_printed.proofs.Attributes.{ValueSays, UsesSay, lowest_has, each_added, each_align, each_bytes, each_nonnull, each_nocapture, each_accessed}
use Rattle.laws_printed.proofs.Values.{value_says, entries_are, returns_are, results_are, args_are}
use Rattle.laws_printed.proofs.Uses.{each_function, each_call, body_uses, handed_uses, returns_it}

-- ---- lists of attributes

module _ (Q : Attr → Type 0) where
  each_returned : (written : ParamAttrs) (has : ℕ → Bool) → ValueSays Q has → AllByRecursion Q (return_attrs written has)
  each_returned written has says =
      every_append Q _ _ (every_append Q _ _ (each_align Q written has says) (each_bytes Q written has says)) (each_nonnull Q written has says)

  each_arg : (written : ParamAttrs) (operand uses : ℕ → Bool) (refuses : Bool) → ValueSays Q operand → UsesSay Q uses →
      AllByRecursion Q (arg_attrs_by written operand uses refuses)
  each_arg written operand uses refuses values used =
      every_append Q _ _ (every_append Q _ _ (every_append Q _ _ (every_append Q _ _ (each_align Q written operand values) (each_bytes Q written
      operand values))
      (each_nocapture Q written uses used)) (each_nonnull Q written operand values)) (each_accessed Q (has_access written || refuses) uses used)

-- the number of the parameter that is returned
returned_has : (m : Module) (held : Fact → Bool) (f : ℕ) (func : Func) (at : ℕ) → is_number at (returned_param m held f func) ≡ true →
    (at < SAME_AS_PARAMETERS) × (held (of_return f at) ≡ true)
returned_has m held f func at is = by (held (noreturn_of f) || list_any (λ (p : Param). p.attrs.returned) func.params) (lowest (returns m held f func)
    SAME_AS_PARAMETERS) refl is
  where
    by : (none : Bool) (o : Option ℕ) → lowest (returns m held f func) SAME_AS_PARAMETERS ≡ o → is_number at (if none then None else o) ≡ true →
        (at < SAME_AS_PARAMETERS) × (held (of_return f at) ≡ true)
    by true o found e = absurd (true≢false (sym e))
    by false None found e = absurd (true≢false (sym e))
    by false (Some n) found e =
        let same : n ≡ at = eqb-true n at e in
        let has = lowest_has (returns m held f func) SAME_AS_PARAMETERS n found in
        subst (λ i. (i < SAME_AS_PARAMETERS) × (held (of_return f i) ≡ true)) same
        (has.0, (and_parts (has_return_type m func (slice_get func.params n)) (held (of_return f n)) has.1).1)

module _ (m : Module) (formed : IsWellFormed m) (held : Fact → Bool) (opening : State) (opens : IsOpening m opening) (choices : List Choice)
    (holds : FactsHold m held (run m opening choices)) (constants : All (ConstantsAreRight m held) (run m opening choices)) where
  abbrev steps : List Done
  steps = run m opening choices

  abbrev Holds : Added → Type 0
  Holds a = AdditionHolds m steps a

  each_put : (at : ℕ) (place : Place) (subject : Subject) (attrs : List Attr) → AllByRecursion (HoldsOfSubject m steps subject) attrs →
      AllByRecursion Holds (put at place subject attrs)
  each_put at place subject [] each = tt
  each_put at place subject (attr ∷ attrs) each = (All-from_recursion (HoldsOfSubject m steps subject) (attr ∷ attrs) each, tt)

  -- ---- headers

  at_return_holds : (f : ℕ) (func : Func) → AllByRecursion Holds (at_return held f func)
  at_return_holds f func =
      every_unless Holds (held (noreturn_of f)) _ (λ live.
      each_put func.places.ret _ (OfBody f) (return_attrs func.ret_attrs (of_returned held f))
      (each_returned (HoldsOfSubject m steps (OfBody f)) func.ret_attrs (of_returned held f)
      (value_says m steps (λ a. a.body ≡ Some f) Result (of_returned held f) (returns_are m formed held opening opens choices holds f)
      (λ a. HoldsOfBody a f steps) 0)))

  at_function_holds : (f : ℕ) (func : Func) → is_body m f ≡ true → AllByRecursion Holds (at_function m held f func)
  at_function_holds f func is_one =
      each_put func.places.after _ (OfBody f) (function_attrs m held f func)
      (each_function m formed held opening opens choices holds f func is_one (λ a. HoldsOfBodyValue m a Result f steps) 0)

  at_param_holds : (f : ℕ) (func : Func) → slice_get m.funcs f ≡ Some func → (at : ℕ) (o : Option Param) → slice_get func.params at ≡ o →
      AllByRecursion Holds (at_param held f (returned_param m held f func) at o)
  at_param_holds f func is_func at None is = tt
  at_param_holds f func is_func at (Some p) is =
      let Q : Attr → Type 0 = HoldsOfSubject m steps (OfParam f at) in
      let entry = value_says m steps (λ a. a.body ≡ Some f) (Parameter at) (of_entry held f at) (entries_are m formed held opening opens choices holds f at)
      (λ a. HoldsOfBody a f steps) at
      in
      let uses = body_uses m formed held opening opens choices holds f at p (ap (param_in at) is_func ∙ is) (λ a. HoldsOfBodyValue m a (Parameter at)
      f steps) in
      each_put p.place _ (OfParam f at) (param_attrs held f (returned_param m held f func) at p)
      (every_append Q _ _ (every_append Q _ _ (every_append Q _ _ (every_append Q _ _ (every_append Q _ _ (each_align Q p.attrs (of_entry held f at) entry)
      (each_bytes Q p.attrs (of_entry held f at) entry)) (each_nocapture Q p.attrs (of_param held p) uses)) (each_nonnull Q p.attrs (of_entry held f at) entry))
      (each_accessed Q (has_access p.attrs) (of_param held p) uses))
      (each_added Q (p.attrs.sret || p.attrs.writable) (is_number at (returned_param m held f func)) Returned (λ on.
      let has = returned_has m held f func at on in returns_it m formed held opening opens choices holds f at has.0 has.1)))

  header_holds : (f : ℕ) (func : Func) → slice_get m.funcs f ≡ Some func → is_body m f ≡ true → AllByRecursion Holds (header_additions m held f func)
  header_holds f func is_func is_one =
      every_if Holds (is_exact m f) _ (λ exact.
      every_append Holds _ _ (every_append Holds _ _ (at_return_holds f func)
      (every_joined Holds (λ at. at_param held f (returned_param m held f func) at (slice_get func.params at)) _ (λ at within.
      at_param_holds f func is_func at (slice_get func.params at) refl))) (at_function_holds f func is_one))

  -- ---- calls

  module _ (s : Spot) (instr : Instr) (stands : instr_at m s ≡ Some instr) (call : Call) (is_call : call_of instr.op ≡ Some call) where
    at_call_return_holds : (callee : Option ℕ) → inner_callee m instr.op ≡ callee → AllByRecursion Holds (at_call_return held s call callee)
    at_call_return_holds None inner = tt
    at_call_return_holds (Some g) inner =
        every_unless Holds (held (noreturn_of g)) _ (λ live.
        each_put call.places.ret _ (OfCall s) (return_attrs call.attrs.ret (of_returned held g))
        (each_returned (HoldsOfSubject m steps (OfCall s)) call.attrs.ret (of_returned held g)
        (value_says m steps (λ a. a.call.made ≡ At s) Result (of_returned held g)
        (results_are m formed held opening opens choices holds s instr stands g inner) (λ a. HoldsAtCall a s steps) 0)))

    at_call_holds : (callee : Option ℕ) → inner_callee m instr.op ≡ callee → AllByRecursion Holds (at_call held s call callee)
    at_call_holds None inner = tt
    at_call_holds (Some g) inner =
        each_put call.places.after _ (OfCall s) (call_attrs held g call)
        (each_call m formed held opening opens choices holds s instr g stands inner call (λ a. HoldsAtCallValue m a Result s steps) 0)

    at_written_holds : (at : ℕ) (w : Written) → slice_get call.args at ≡ Some w → (written : ParamAttrs) (offset : ℕ) →
        AllByRecursion Holds (at_written m held s (param_for m (inner_callee m instr.op) at) at w written offset)
    at_written_holds at w is_arg written offset =
        every_if Holds (is_pointer m w.ty) _ (λ pointer.
        each_put offset _ (OfArg s at) (arg_attrs_by written (of_operand m held w) (of_handed held (param_for m (inner_callee m instr.op) at))
        (refuses_access (param_for m (inner_callee m instr.op) at)))
        (each_arg (HoldsOfSubject m steps (OfArg s at)) written (of_operand m held w) (of_handed held (param_for m (inner_callee m instr.op) at))
        (refuses_access (param_for m (inner_callee m instr.op) at))
        (value_says m steps (λ a. a.call.made ≡ At s) (Argument at) (of_operand m held w)
        (args_are m formed held opening opens choices holds s instr stands call is_call at w is_arg pointer constants) (λ a. HoldsAtCall a s steps) at)
        (handed_uses m formed held opening opens choices holds s instr stands at (λ a. HoldsAtCallValue m a (Argument at) s steps))))

    at_arg_holds : (at : ℕ) → AllByRecursion Holds (at_arg m held s call (inner_callee m instr.op) at)
    at_arg_holds at = by (slice_get call.args at) refl (slice_get call.attrs.args at) (slice_get call.places.args at)
      where
        by : (w : Option Written) → slice_get call.args at ≡ w → (written : Option ParamAttrs) (offset : Option ℕ) →
            AllByRecursion Holds (at_parts m held s (param_for m (inner_callee m instr.op) at) at w written offset)
        by None is written offset = tt
        by (Some w) is None offset = tt
        by (Some w) is (Some written) None = tt
        by (Some w) is (Some written) (Some offset) = at_written_holds at w is written offset

    call_holds : AllByRecursion Holds (call_additions m held s (inner_callee m instr.op) call)
    call_holds =
        every_append Holds _ _ (every_append Holds _ _ (at_call_return_holds (inner_callee m instr.op) refl)
        (every_joined Holds (at_arg m held s call (inner_callee m instr.op)) _ (λ at within. at_arg_holds at))) (at_call_holds (inner_callee m instr.op) refl)

  instr_holds : (s : Spot) (o : Option Instr) → instr_at m s ≡ o → AllByRecursion Holds (instr_additions m held s o)
  instr_holds s None is = tt
  instr_holds s (Some instr) is = by (call_of instr.op) refl
    where
      by : (o : Option Call) → call_of instr.op ≡ o → AllByRecursion Holds (option_map_or (call_additions m held s (inner_callee m instr.op)) o [])
      by None is_call = tt
      by (Some call) is_call = call_holds s instr is call is_call

  -- ---- bodies

  stands_at : (k : ℕ) (seg : Seg) (at : ℕ) → slice_get m.segs k ≡ Some seg → instr_at m (spot k at) ≡ slice_get seg.instrs at
  unfolding instr_at
  stands_at k seg at is = ap (in_seg at) is

  seg_holds : (k : ℕ) (o : Option Seg) → slice_get m.segs k ≡ o → AllByRecursion Holds (seg_additions m held k o)
  seg_holds k None is = tt
  seg_holds k (Some seg) is =
      every_unless Holds (held (dead k)) _ (λ live.
      every_joined Holds (λ at. instr_additions m held (spot k at) (slice_get seg.instrs at)) _ (λ at within.
      instr_holds (spot k at) (slice_get seg.instrs at) (stands_at k seg at is)))

  block_holds : (o : Option Block) → AllByRecursion Holds (block_additions m held o)
  block_holds None = tt
  block_holds (Some b) =
      every_joined Holds (λ i. seg_additions m held (b.first_seg + i) (slice_get m.segs (b.first_seg + i))) _ (λ i within.
      seg_holds (b.first_seg + i) (slice_get m.segs (b.first_seg + i)) refl)

  body_holds : (f : ℕ) (func : Func) → slice_get m.funcs f ≡ Some func → is_body m f ≡ true → AllByRecursion Holds (body_additions m held f func)
  body_holds f func is is_one =
      every_unless Holds (is_dead_body m held f) _ (λ live.
      every_append Holds _ _ (header_holds f func is is_one)
      (every_joined Holds (λ i. block_additions m held (slice_get m.blocks (func.first_block + i))) _ (λ i within. block_holds _)))

  pub func_holds : (f : ℕ) (o : Option Func) → slice_get m.funcs f ≡ o → AllByRecursion Holds (func_additions m held f o)
  func_holds f None is = tt
  func_holds f (Some func) is =
      every_unless Holds (func.block_count == 0) _ (λ some.
      body_holds f func is (ap has_blocks is ∙ ap not some))
