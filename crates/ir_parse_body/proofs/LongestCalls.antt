-- The longest call and the longest invoke from the longest of their parts.
use Rattle.std.proofs.Common.{◌≡◌, ℕ, ◌<◌, true, false, List, ◌∷◌, length, Option, None, Some, refl, arith}
use Rattle.ir_tree.specs.declared.terminal.Terminal.{Terminal}
use Rattle.ir_tree.specs.declared.terminal.Terminal.TheVariants as k
use Rattle.ir_tree.specs.declared.types.Ty.{Ty}
use Rattle.ir_tree.specs.declared.types.Ftype.{Ftype}
use Rattle.ir_tree.specs.declared.values.Value.{Value}
use Rattle.ir_tree.specs.declared.attributes.Cc.{Cc}
use Rattle.ir_tree.specs.declared.attributes.Rattr.{Rattr}
use Rattle.ir_tree.specs.declared.attributes.Word.{Word}
use Rattle.ir_tree.specs.declared.instructions.Arg.{Arg}
use Rattle.ir_tree.specs.declared.instructions.Callee.{Callee}
use Rattle.ir_tree.specs.declared.instructions.Arguments.{Arguments}
use Rattle.ir_tree.specs.declared.instructions.Called.{Called}
use Rattle.ir_tree.specs.declared.instructions.Call.{Call}
use Rattle.ir_tree.specs.declared.instructions.Invoke.{Invoke}
use Rattle.ir_tree.specs.Steps.{Step, the, leaf, many, optional, next, separated, Longest}
use Rattle.ir_tree.specs.Types.{ty, ftype}
use Rattle.ir_tree.specs.Values.{value}
use Rattle.ir_tree.specs.Attributes.{rattr, word, cc}
use Rattle.ir_tree.specs.Instructions.{target, arg, callee, arguments, called, call, invoke}
use Rattle.ir_tree.proofs.Clear.{pair, split, moves}
use Rattle.ir_tree.proofs.Known.{Known, leaf_of, the_of, pair_of, optional_of, many_of, next_of, separated_of, shape_of}
use Rattle.ir_tree.proofs.ClearTypes.{ty_of, ftype_of}
use Rattle.ir_tree.proofs.ClearValues.{value_of}
use Rattle.ir_tree.proofs.ClearAttributes.{cc_of, rattr_of, word_of}
use Rattle.ir_tree.proofs.ClearInstructions.{target_of, arg_of, callee_of, arguments_of, called_of}
use Rattle.ir_parse_parts.proofs.Longest.{leaf_some, leaf_none, the_some, pair_some, pair_none, pair_stop, shape_some, shape_none, separated_some}
use Rattle.ir_parse_parts.proofs.LongestTypes.{the_moves}
use Rattle.ir_parse_body.specs.Terms.{destinations}

module _ (toks : List Terminal) where
  -- ---- `arg`
  abbrev arg_shape : Ty × (List Rattr × Value) → Step
  arg_shape = pair (ty toks) (pair (many (rattr toks)) (value toks))

  abbrev arg_back : Ty × (List Rattr × Value) → Arg
  arg_back x = record { ty = x.0; words = x.1.0; value = x.1.1 }

  pub arg_view : (t : Arg) (a b : ℕ) → arg toks t a ≡ Some b → (x : Ty × (List Rattr × Value)) × ((arg_back x ≡ t) × (arg_shape x a ≡ Some b))
  arg_view t a b e = ((t.ty, (t.words, t.value)), (refl, e))

  abbrev words_of : Known toks true (many (rattr toks))
  words_of = many_of (rattr_of toks) refl

  abbrev worded_of : Known toks false (pair (many (rattr toks)) (value toks))
  worded_of = pair_of words_of (value_of toks) refl

  pub arg_no_type : (a : ℕ) → Longest (ty toks) a None → Longest (arg toks) a None
  arg_no_type a n = shape_none (arg toks) arg_back arg_view (λ x a b e. e) (pair_stop (ty_of toks) worded_of a n)

  module _ (a first : ℕ) (kind : Ty) (l : Longest (ty toks) a (Some (
    kind,
    first,
  ))) (behind : ℕ) (words : List Rattr) (l' : Longest (many (rattr toks)) first (Some (words, behind))) where
    pub arg_no_value : Longest (value toks) behind None → Longest (arg toks) a None
    arg_no_value n = shape_none (arg toks) arg_back arg_view (λ x a b e. e) (pair_none (ty_of toks) worded_of refl a first kind l
        (pair_none words_of (value_of toks) refl first behind words l' n))

    pub arg_ends : (v : Value) (end : ℕ) → Longest (value toks) behind (Some (v, end)) → Longest (arg toks) a (Some (arg_back (kind, (words, v)), end))
    arg_ends v end n = shape_some (arg toks) arg_back arg_view (λ x a b e. e) {x =
        (kind, (words, v))} (pair_some (ty_of toks) worded_of refl a first end kind (
          words,
          v,
        ) l (pair_some words_of (value_of toks) refl first behind end words v l' n))

  -- ---- `arg,*`
  abbrev pub next_arg_of : Known toks false (next toks (arg toks))
  next_arg_of = next_of (arg_of toks)

  pub next_arg_moves : (a n : ℕ) (t : Arg) → Longest (next toks (arg toks)) a (Some (t, n)) → (a < n) × (a < length toks)
  next_arg_moves a n t l =
      let s = split (the toks k.Comma a) (arg toks t) n l.0 in
      let m = the_moves toks k.Comma a s.0 s.1.0 in
      ((moves toks next_arg_of.first a n ((next_arg_of.at a).opens t n l.0)).0, omega (arith, m.0, m.1))

  pub args_listed : (a m b : ℕ) (t : Arg) (ts : List Arg) → Longest (arg toks) a (Some (t, m)) → Longest (many (next toks (arg toks))) m (Some (ts, b)) →
      Longest (separated toks (arg toks)) a (Some (t ∷ ts, b))
  args_listed a m b t ts l rest =
      let all = pair_some (arg_of toks) (many_of next_arg_of refl) refl a m b t ts l rest in
      separated_some toks (arg toks) a b t ts (omega (arith, ((pair_of (arg_of toks) (many_of next_arg_of refl) refl).at a).opens (t, ts) b all.0)) all

  -- ---- what is callee
  abbrev callee_shape : Option Cc × (List Rattr × (Ty × (Option Ftype × Value))) → Step
  callee_shape = pair (optional (cc toks)) (pair (many (rattr toks)) (pair (ty toks) (pair (optional (ftype toks)) (value toks))))

  abbrev callee_back : Option Cc × (List Rattr × (Ty × (Option Ftype × Value))) → Callee
  callee_back x = record { cc = x.0; result_words = x.1.0; result = x.1.1.0; params = x.1.1.1.0; value = x.1.1.1.1 }

  pub callee_view : (t : Callee) (a b : ℕ) → callee toks t a ≡ Some b
      → (x : Option Cc × (List Rattr × (Ty × (Option Ftype × Value)))) × ((callee_back x ≡ t) × (callee_shape x a ≡ Some b))
  callee_view t a b e = ((t.cc, (t.result_words, (t.result, (t.params, t.value)))), (refl, e))

  abbrev convention_of : Known toks true (optional (cc toks))
  convention_of = optional_of (cc_of toks)

  abbrev params_of : Known toks true (optional (ftype toks))
  params_of = optional_of (ftype_of toks)

  abbrev named_of : Known toks false (pair (optional (ftype toks)) (value toks))
  named_of = pair_of params_of (value_of toks) refl

  abbrev typed_of : Known toks false (pair (ty toks) (pair (optional (ftype toks)) (value toks)))
  typed_of = pair_of (ty_of toks) named_of refl

  abbrev result_of : Known toks false (pair (many (rattr toks)) (pair (ty toks) (pair (optional (ftype toks)) (value toks))))
  result_of = pair_of words_of typed_of refl

  module _ (a first : ℕ) (convention : Option Cc) (l : Longest (optional (cc toks)) a (Some (
    convention,
    first,
  ))) (kind : ℕ) (words : List Rattr) (l' : Longest (many (rattr toks)) first (Some (words, kind))) where
    -- nothing is called where nothing of it fits from its type on
    typed_rest : Longest (pair (ty toks) (pair (optional (ftype toks)) (value toks))) kind None → Longest (callee toks) a None
    typed_rest rest =
        shape_none (callee toks) callee_back callee_view (λ x a b e. e)
        (pair_none convention_of result_of refl a first convention l (pair_none words_of typed_of refl first kind words l' rest))

    pub callee_no_type : Longest (ty toks) kind None → Longest (callee toks) a None
    callee_no_type n = typed_rest (pair_stop (ty_of toks) named_of kind n)

    module _ (result : Ty) (behind : ℕ) (l'' : Longest (ty toks) kind (Some (
      result,
      behind,
    ))) (params : Option Ftype) (name : ℕ) (l''' : Longest (optional (ftype toks)) behind (Some (params, name))) where
      pub callee_no_value : Longest (value toks) name None → Longest (callee toks) a None
      callee_no_value n =
          typed_rest (pair_none (ty_of toks) named_of refl kind behind result l'' (pair_none params_of (value_of toks) refl behind name params l''' n))

      pub callee_ends : (v : Value) (end : ℕ) → Longest (value toks) name (Some (v, end))
          → Longest (callee toks) a (Some (callee_back (convention, (words, (result, (params, v)))), end))
      callee_ends v end n =
          shape_some (callee toks) callee_back callee_view (λ x a b e. e) {x = (convention, (words, (result, (params, v))))}
          (pair_some convention_of result_of refl a first end convention (words, (result, (params, v))) l
          (pair_some words_of typed_of refl first kind end words (result, (params, v)) l'
          (pair_some (ty_of toks) named_of refl kind behind end result (
            params,
            v,
          ) l'' (pair_some params_of (value_of toks) refl behind name end params v l''' n))))

  -- ---- what is arguments to it
  abbrev arguments_shape : Unit {0} × (List Arg × (ℕ × List Word)) → Step
  arguments_shape = pair (λ _. the toks k.LeftParen) (pair (separated toks (arg toks)) (pair (leaf toks k.RightParen) (many (word toks))))

  abbrev arguments_back : Unit {0} × (List Arg × (ℕ × List Word)) → Arguments
  arguments_back x = record { args = x.1.0; close = x.1.1.0; attributes = x.1.1.1 }

  pub arguments_view : (t : Arguments) (a b : ℕ) → arguments toks t a ≡ Some b
      → (x : Unit {0} × (List Arg × (ℕ × List Word))) × ((arguments_back x ≡ t) × (arguments_shape x a ≡ Some b))
  arguments_view t a b e = ((tt, (t.args, (t.close, t.attributes))), (refl, e))

  abbrev attributes_of : Known toks true (many (word toks))
  attributes_of = many_of (word_of toks) refl

  abbrev args_of : Known toks true (separated toks (arg toks))
  args_of = separated_of (arg_of toks) refl

  abbrev close_of : Known toks false (pair (leaf toks k.RightParen) (many (word toks)))
  close_of = pair_of (leaf_of k.RightParen) attributes_of refl

  abbrev listed_of : Known toks false (pair (separated toks (arg toks)) (pair (leaf toks k.RightParen) (many (word toks))))
  listed_of = pair_of args_of close_of refl

  module _ (a first : ℕ) (h : Some first ≡ the toks k.LeftParen a) (args : List Arg) (close : ℕ) (l : Longest (separated toks (arg toks)) first (Some (
    args,
    close,
  ))) where
    pub arguments_no_close : None ≡ the toks k.RightParen close → Longest (arguments toks) a None
    arguments_no_close n =
        shape_none (arguments toks) arguments_back arguments_view (λ x a b e. e)
        (pair_none (the_of k.LeftParen) listed_of refl a first tt (the_some toks k.LeftParen a first h)
        (pair_none args_of close_of refl first close args l (pair_stop (leaf_of k.RightParen) attributes_of close (leaf_none toks k.RightParen close n))))

    pub arguments_ends : (behind : ℕ) → Some behind ≡ the toks k.RightParen close → (attributes : List Word) (end : ℕ)
        → Longest (many (word toks)) behind (Some (attributes, end))
        → Longest (arguments toks) a (Some (arguments_back (tt, (args, (close, attributes))), end))
    arguments_ends behind h' attributes end n =
        shape_some (arguments toks) arguments_back arguments_view (λ x a b e. e) {x = (tt, (args, (close, attributes)))}
        (pair_some (the_of k.LeftParen) listed_of refl a first end tt (args, (close, attributes)) (the_some toks k.LeftParen a first h)
        (pair_some args_of close_of refl first close end args (close, attributes) l
        (pair_some (leaf_of k.RightParen) attributes_of refl close behind end close attributes (leaf_some toks k.RightParen close behind h') n)))

  -- ---- where an invoke goes on
  abbrev destinations_shape : Unit {0} × (ℕ × (Unit {0} × ℕ)) → Step
  destinations_shape = pair (λ _. the toks k.To) (pair (target toks) (pair (λ _. the toks k.Unwind) (target toks)))

  abbrev destinations_back : Unit {0} × (ℕ × (Unit {0} × ℕ)) → ℕ × ℕ
  destinations_back x = (x.1.0, x.1.1.1)

  pub destinations_view : (t : ℕ × ℕ) (a b : ℕ) → destinations toks t a ≡ Some b → (x : Unit {0} × (ℕ × (Unit {0} × ℕ))) ×
      ((destinations_back x ≡ t) × (destinations_shape x a ≡ Some b))
  destinations_view t a b e = ((tt, (t.0, (tt, t.1))), (refl, e))

  abbrev unwind_of : Known toks false (pair (λ (_ : Unit {0}). the toks k.Unwind) (target toks))
  unwind_of = pair_of (the_of k.Unwind) (target_of toks) refl

  abbrev normal_of : Known toks false (pair (target toks) (pair (λ (_ : Unit {0}). the toks k.Unwind) (target toks)))
  normal_of = pair_of (target_of toks) unwind_of refl

  abbrev pub destinations_of : Known toks false (destinations toks)
  destinations_of = shape_of destinations_back destinations_view (pair_of (the_of k.To) normal_of refl)

  pub destinations_no_unwind : (a first normal behind second : ℕ) → Some first ≡ the toks k.To a → Longest (target toks) first (Some (normal, behind)) →
      Some second ≡ the toks k.Unwind behind → Longest (target toks) second None → Longest (destinations toks) a None
  destinations_no_unwind a first normal behind second h l h' n =
      shape_none (destinations toks) destinations_back destinations_view (λ x a b e. e)
      (pair_none (the_of k.To) normal_of refl a first tt (the_some toks k.To a first h)
      (pair_none (target_of toks) unwind_of refl first behind normal l (pair_none (the_of k.Unwind) (target_of toks) refl behind second tt
      (the_some toks k.Unwind behind second h') n)))

  -- ---- `called`
  abbrev called_shape : Callee × Arguments → Step
  called_shape = pair (callee toks) (arguments toks)

  abbrev called_back : Callee × Arguments → Called
  called_back x = record { callee = x.0; arguments = x.1 }

  called_view : (t : Called) (a b : ℕ) → called toks t a ≡ Some b → (x : Callee × Arguments) × ((called_back x ≡ t) × (called_shape x a ≡ Some b))
  called_view t a b e = ((t.callee, t.arguments), (refl, e))

  pub called_no_callee : (a : ℕ) → Longest (callee toks) a None → Longest (called toks) a None
  called_no_callee a n = shape_none (called toks) called_back called_view (λ x a b e. e) (pair_stop (callee_of toks) (arguments_of toks) a n)

  module _ (a first : ℕ) (what : Callee) (l : Longest (callee toks) a (Some (what, first))) where
    pub called_no_arguments : Longest (arguments toks) first None → Longest (called toks) a None
    called_no_arguments n =
        shape_none (called toks) called_back called_view (λ x a b e. e) (pair_none (callee_of toks) (arguments_of toks) refl a first what l n)

    pub called_ends : (given : Arguments) (end : ℕ) → Longest (arguments toks) first (Some (given, end))
        → Longest (called toks) a (Some (called_back (what, given), end))
    called_ends given end n =
        shape_some (called toks) called_back called_view (λ x a b e. e) {x = (what, given)}
        (pair_some (callee_of toks) (arguments_of toks) refl a first end what given l n)

  -- ---- `call`
  abbrev call_shape : Option ℕ × (ℕ × Called) → Step
  call_shape = pair (optional (leaf toks k.Tail)) (pair (leaf toks k.Call) (called toks))

  abbrev call_back : Option ℕ × (ℕ × Called) → Call
  call_back x = record { tail = x.0; op = x.1.0; called = x.1.1 }

  call_view : (t : Call) (a b : ℕ) → call toks t a ≡ Some b → (x : Option ℕ × (ℕ × Called)) × ((call_back x ≡ t) × (call_shape x a ≡ Some b))
  call_view t a b e = ((t.tail, (t.op, t.called)), (refl, e))

  abbrev op_of : Known toks false (pair (leaf toks k.Call) (called toks))
  op_of = pair_of (leaf_of k.Call) (called_of toks) refl

  abbrev tail_of : Known toks true (optional (leaf toks k.Tail))
  tail_of = optional_of (leaf_of k.Tail)

  module _ (a op : ℕ) (tail : Option ℕ) (l : Longest (optional (leaf toks k.Tail)) a (Some (tail, op))) where
    -- no call is where none fits behind the word before it
    op_rest : Longest (pair (leaf toks k.Call) (called toks)) op None → Longest (call toks) a None
    op_rest rest = shape_none (call toks) call_back call_view (λ x a b e. e) (pair_none tail_of op_of refl a op tail l rest)

    pub call_no_op : None ≡ the toks k.Call op → Longest (call toks) a None
    call_no_op n = op_rest (pair_stop (leaf_of k.Call) (called_of toks) op (leaf_none toks k.Call op n))

    module _ (first : ℕ) (h : Some first ≡ the toks k.Call op) where
      pub call_none_called : Longest (called toks) first None → Longest (call toks) a None
      call_none_called n = op_rest (pair_none (leaf_of k.Call) (called_of toks) refl op first op (leaf_some toks k.Call op first h) n)

      pub call_ends : (what : Called) (end : ℕ) → Longest (called toks) first (Some (what, end))
          → Longest (call toks) a (Some (call_back (tail, (op, what)), end))
      call_ends what end n =
          shape_some (call toks) call_back call_view (λ x a b e. e) {x = (tail, (op, what))}
          (pair_some tail_of op_of refl a op end tail (op, what) l
          (pair_some (leaf_of k.Call) (called_of toks) refl op first end op what (leaf_some toks k.Call op first h) n))

  -- ---- `invoke`
  abbrev invoke_shape : ℕ × (Called × (ℕ × ℕ)) → Step
  invoke_shape = pair (leaf toks k.Invoke) (pair (called toks) (destinations toks))

  abbrev invoke_back : ℕ × (Called × (ℕ × ℕ)) → Invoke
  invoke_back (op, (what, both)) = record { op = op; called = what; normal = both.0; unwind = both.1 }

  invoke_view : (t : Invoke) (a b : ℕ) → invoke toks t a ≡ Some b → (x : ℕ × (Called × (ℕ × ℕ))) × ((invoke_back x ≡ t) × (invoke_shape x a ≡ Some b))
  invoke_view t a b e = ((t.op, (t.called, (t.normal, t.unwind))), (refl, e))

  abbrev invoked_of : Known toks false (pair (called toks) (destinations toks))
  invoked_of = pair_of (called_of toks) destinations_of refl

  module _ (a first : ℕ) (h : Some first ≡ the toks k.Invoke a) where
    -- no invoke is where none fits behind its word
    invoked_rest : Longest (pair (called toks) (destinations toks)) first None → Longest (invoke toks) a None
    invoked_rest rest =
        shape_none (invoke toks) invoke_back invoke_view (λ x a b e. e)
        (pair_none (leaf_of k.Invoke) invoked_of refl a first a (leaf_some toks k.Invoke a first h) rest)

    pub invoke_none_called : Longest (called toks) first None → Longest (invoke toks) a None
    invoke_none_called n = invoked_rest (pair_stop (called_of toks) destinations_of first n)

    module _ (what : Called) (to : ℕ) (l : Longest (called toks) first (Some (what, to))) where
      pub invoke_no_destinations : Longest (destinations toks) to None → Longest (invoke toks) a None
      invoke_no_destinations n = invoked_rest (pair_none (called_of toks) destinations_of refl first to what l n)

      pub invoke_ends : (both : ℕ × ℕ) (end : ℕ) → Longest (destinations toks) to (Some (both, end))
          → Longest (invoke toks) a (Some (invoke_back (a, (what, both)), end))
      invoke_ends both end n =
          shape_some (invoke toks) invoke_back invoke_view (λ x a b e. e) {x = (a, (what, both))}
          (pair_some (leaf_of k.Invoke) invoked_of refl a first end a (what, both) (leaf_some toks k.Invoke a first h)
          (pair_some (called_of toks) destinations_of refl first to end what both l n))
