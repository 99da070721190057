-- At most one instruction or terminator fits from a place up to another.
use Rattle.std.proofs.Common.{◌≡◌, ℕ, false, List, [], ◌∷◌, Option, Some, ◌⊎◌, inl, inr, refl}
use Rattle.ir_tree.specs.declared.terminal.Terminal.{Terminal}
use Rattle.ir_tree.specs.declared.terminal.Terminal.TheVariants as k
use Rattle.ir_tree.specs.declared.types.Ty.{Ty}
use Rattle.ir_tree.specs.declared.types.Ftype.{Ftype}
use Rattle.ir_tree.specs.declared.constants.Gepflag.{Gepflag}
use Rattle.ir_tree.specs.declared.constants.Tconst.{Tconst}
use Rattle.ir_tree.specs.declared.values.Value.{Value}
use Rattle.ir_tree.specs.declared.values.Tvalue.{Tvalue}
use Rattle.ir_tree.specs.declared.attributes.Cc.{Cc}
use Rattle.ir_tree.specs.declared.attributes.Rattr.{Rattr}
use Rattle.ir_tree.specs.declared.attributes.Word.{Word}
use Rattle.ir_tree.specs.declared.instructions.Arm.{Arm}
use Rattle.ir_tree.specs.declared.instructions.Arg.{Arg}
use Rattle.ir_tree.specs.declared.instructions.Callee.{Callee}
use Rattle.ir_tree.specs.declared.instructions.Arguments.{Arguments}
use Rattle.ir_tree.specs.declared.instructions.Called.{Called}
use Rattle.ir_tree.specs.declared.instructions.Call.{Call}
use Rattle.ir_tree.specs.declared.instructions.Clause.{Clause}
use Rattle.ir_tree.specs.declared.instructions.Instr.{Instr}
use Rattle.ir_tree.specs.declared.instructions.Instr.TheVariants as instr_is
use Rattle.ir_tree.specs.declared.instructions.Invoke.{Invoke}
use Rattle.ir_tree.specs.declared.instructions.Case.{Case}
use Rattle.ir_tree.specs.declared.instructions.Term.{Term}
use Rattle.ir_tree.specs.declared.instructions.Term.TheVariants as term_is
use Rattle.ir_tree.specs.Steps.{Step, ◌⨾◌, the, leaf, many, some, optional, next, listed, stands, where_not}
use Rattle.ir_tree.specs.Types.{ty}
use Rattle.ir_tree.specs.Constants.{iflag, gepflag}
use Rattle.ir_tree.specs.Values.{value, tvalue}
use Rattle.ir_tree.specs.Instructions.{binop, castop, volatile, alignment, target, arm, arg, clause, callee, arguments, called, call, instr, invoke, case, term}
use Rattle.ir_tree.proofs.Clear.{pair, choice, barred_reads}
use Rattle.ir_tree.proofs.Known.{Known, firsts, leaf_of, set_of, the_of, pair_of, choice_of, optional_of, many_of, some_of, next_of, listed_of, separated_of}
use Rattle.ir_tree.proofs.Known.{shape_of}
use Rattle.ir_tree.proofs.ClearTypes.{ty_of, ftype_of}
use Rattle.ir_tree.proofs.ClearConstants.{iflag_of, gepflag_known, tconst_of}
use Rattle.ir_tree.proofs.ClearValues.{value_of, tvalue_of, tvalue_reads}
use Rattle.ir_tree.proofs.ClearAttributes.{cc_of, rattr_of, word_of}

abbrev pub InstrShape : Type 0
InstrShape = (ℕ × ((List ℕ) × (Ty × (Value × ((Unit {0}) × Value))))) ⊎ ((ℕ × ((List ℕ) × (ℕ × (Ty × (Value × ((Unit {0}) × Value)))))) ⊎ ((ℕ ×
    ((List ℕ) × (Tvalue × ((Unit {0}) × Ty)))) ⊎ ((ℕ × (Tvalue × ((Unit {0}) × (Tvalue × ((Unit {0}) × Tvalue))))) ⊎ ((ℕ ×
    Tvalue) ⊎ ((ℕ × (Ty × ((List Arm)))) ⊎ ((ℕ ×
    (Ty × ((Option Tvalue) × ((Option ℕ))))) ⊎ ((ℕ × ((Option ℕ) × (Ty × ((Unit {0}) × (Tvalue × ((Option ℕ))))))) ⊎ ((ℕ ×
    ((Option ℕ) × (Tvalue × ((Unit {0}) × (Tvalue × ((Option ℕ))))))) ⊎ ((ℕ × ((List Gepflag) × (Ty × ((List Tvalue))))) ⊎ (Call ⊎ (ℕ ×
    (Ty × ((ℕ × List Clause) ⊎ List Clause)))))))))))))

abbrev pub instr_back : InstrShape → Instr
instr_back (inl x) = instr_is.Binop x.0 x.1.0 x.1.1.0 x.1.1.1.0 x.1.1.1.1.1
instr_back (inr (inl x)) = instr_is.Icmp (record { op = x.0; flags = x.1.0; pred = x.1.1.0; ty = x.1.1.1.0; left = x.1.1.1.1.0; right = x.1.1.1.1.1.1 })
instr_back (inr (inr (inl x))) = instr_is.Cast x.0 x.1.0 x.1.1.0 x.1.1.1.1
instr_back (inr (inr (inr (inl x)))) = instr_is.Select (record { op = x.0; on = x.1.0; yes = x.1.1.1.0; no = x.1.1.1.1.1 })
instr_back (inr (inr (inr (inr (inl x))))) = instr_is.Freeze x.0 x.1
instr_back (inr (inr (inr (inr (inr (inl x)))))) = instr_is.Phi x.0 x.1.0 x.1.1
instr_back (inr (inr (inr (inr (inr (inr (inl x))))))) = instr_is.Alloca (record { op = x.0; ty = x.1.0; count = x.1.1.0; align = x.1.1.1 })
instr_back (inr (inr (inr (inr (inr (inr (inr (inl x)))))))) = instr_is.Load x.0 x.1.0 x.1.1.0 x.1.1.1.1.0 x.1.1.1.1.1
instr_back (inr (inr (inr (inr (inr (inr (inr (inr (inl x))))))))) =
    instr_is.Store (record { op = x.0; volatile = x.1.0; value = x.1.1.0; to = x.1.1.1.1.0; align = x.1.1.1.1.1 })
instr_back (inr (inr (inr (inr (inr (inr (inr (inr (inr (inl x)))))))))) = instr_is.GetElementPtr x.0 x.1.0 x.1.1.0 x.1.1.1
instr_back (inr (inr (inr (inr (inr (inr (inr (inr (inr (inr (inl x))))))))))) = instr_is.Call x
instr_back (inr (inr (inr (inr (inr (inr (inr (inr (inr (inr (inr (op, (kind, inl x))))))))))))) = instr_is.Cleanup op kind x.0 x.1
instr_back (inr (inr (inr (inr (inr (inr (inr (inr (inr (inr (inr (op, (kind, inr clauses))))))))))))) = instr_is.LandingPad op kind clauses

abbrev pub TermShape : Type 0
TermShape = (ℕ × (Unit {0} ⊎ Tvalue)) ⊎ ((ℕ × (ℕ ⊎ (Tvalue × (Unit {0} × (ℕ × (Unit {0} × ℕ)))))) ⊎ ((ℕ ×
    (Tvalue × (Unit {0} × (ℕ × (Unit {0} × (List Case × Unit {0})))))) ⊎ (ℕ ⊎ (ℕ × Tvalue))))

abbrev pub term_back : TermShape → Term
term_back (inl (op, inl x)) = term_is.RetVoid op
term_back (inl (op, inr of)) = term_is.Ret op of
term_back (inr (inl (op, inl to))) = term_is.Jump op to
term_back (inr (inl (op, inr x))) = term_is.Branch op x.0 x.1.1.0 x.1.1.1.1
term_back (inr (inr (inl x))) = term_is.Switch (record { op = x.0; on = x.1.0; other = x.1.1.1.0; cases = x.1.1.1.1.1.0 })
term_back (inr (inr (inr (inl op)))) = term_is.Unreachable op
term_back (inr (inr (inr (inr x)))) = term_is.Resume x.0 x.1

module _ (toks : List Terminal) where
  abbrev pub aligned : ℕ → Step
  aligned bytes = the toks k.Align ⨾ leaf toks k.Int bytes

  abbrev pub aligned_of : Known toks false aligned
  aligned_of = shape_of (λ (x : Unit {0} × ℕ). x.1) (λ t a b e. ((tt, t), (refl, e))) (pair_of (the_of k.Align) (leaf_of k.Int) refl)

  abbrev pub target_of : Known toks false (target toks)
  target_of = shape_of (λ (x : Unit {0} × ℕ). x.1) (λ t a b e. ((tt, t), (refl, e))) (pair_of (the_of k.LabelWord) (leaf_of k.Local) refl)

  -- a value whose type is not void
  abbrev pub typed_of : Known toks false (λ v. where_not (stands toks k.Void) (tvalue toks v))
  typed_of = record {
    first = firsts (k.IntType ∷ k.Ptr ∷ k.Local ∷ k.LeftBracket ∷ k.LeftBrace ∷ k.Less ∷ []);
    more = [];
    at =
        λ a. barred_reads toks k.Void (tvalue_reads toks a);
  }

  abbrev pub arm_of : Known toks false (arm toks)
  arm_of = shape_of (λ (x : (Unit {0}) × (Value × ((Unit {0}) × (ℕ × ((Unit {0})))))). record {
    value = x.1.0;
    from =
        x.1.1.1.0;
  }) (λ t a b e. (
    (tt, (t.value, (tt, (t.from, tt)))),
    (refl, e),
  )) (pair_of (the_of k.LeftBracket) (pair_of (value_of toks) (pair_of (the_of k.Comma) (pair_of (leaf_of k.Local) (the_of k.RightBracket) refl)
      refl) refl) refl)

  abbrev pub arg_of : Known toks false (arg toks)
  arg_of = shape_of (λ (x : Ty × ((List Rattr) × Value)). record { ty = x.0; words = x.1.0; value = x.1.1 }) (λ t a b e. (
    (t.ty, (t.words, t.value)),
    (refl, e),
  )) (pair_of (ty_of toks) (pair_of (many_of (rattr_of toks) refl) (value_of toks) refl) refl)

  abbrev pub clause_of : Known toks false (clause toks)
  clause_of = shape_of (λ (x : ℕ × Tconst). record { word = x.0; value = x.1 }) (λ t a b e. (
    (t.word, t.value),
    (refl, e),
  )) (pair_of (leaf_of k.ClauseWord) (tconst_of toks) refl)

  abbrev CalleeShape : Type 0
  CalleeShape = Option Cc × (List Rattr × (Ty × (Option Ftype × Value)))

  abbrev callee_back : CalleeShape → Callee
  callee_back (convention, (words, (kind, (params, of)))) = record { cc = convention; result_words = words; result = kind; params = params; value = of }

  abbrev pub callee_of : Known toks false (callee toks)
  callee_of =
      shape_of callee_back (λ t a b e. ((t.cc, (t.result_words, (t.result, (t.params, t.value)))), (refl, e)))
      (pair_of (optional_of (cc_of toks))
      (pair_of (many_of (rattr_of toks) refl) (pair_of (ty_of toks) (pair_of (optional_of (ftype_of toks)) (value_of toks) refl) refl) refl) refl)

  abbrev ArgumentsShape : Type 0
  ArgumentsShape = Unit {0} × (List Arg × (ℕ × List Word))

  abbrev arguments_back : ArgumentsShape → Arguments
  arguments_back (_, (args, (close, attributes))) = record { args = args; close = close; attributes = attributes }

  abbrev pub arguments_of : Known toks false (arguments toks)
  arguments_of =
      shape_of arguments_back (λ t a b e. ((tt, (t.args, (t.close, t.attributes))), (refl, e)))
      (pair_of (the_of k.LeftParen) (pair_of (separated_of arg_of refl) (pair_of (leaf_of k.RightParen) (many_of (word_of toks) refl) refl) refl) refl)

  abbrev pub called_of : Known toks false (called toks)
  called_of =
      shape_of (λ (x : Callee × Arguments). record { callee = x.0; arguments = x.1 }) (λ t a b e. ((t.callee, t.arguments), (refl, e)))
      (pair_of callee_of arguments_of refl)

  abbrev pub call_of : Known toks false (call toks)
  call_of =
      shape_of (λ (x : Option ℕ × (ℕ × Called)). record { tail = x.0; op = x.1.0; called = x.1.1 }) (λ t a b e. ((t.tail, (t.op, t.called)), (refl, e)))
      (pair_of (optional_of (leaf_of k.Tail)) (pair_of (leaf_of k.Call) called_of refl) refl)

  abbrev pub instr_shape : InstrShape → Step
  instr_shape = choice (pair (binop toks) (pair (many (iflag toks)) (pair (ty toks) (pair (value toks) (pair (λ _. the toks k.Comma) (value toks))))))
      (choice (pair (leaf toks k.Icmp)
      (pair (many (iflag toks)) (pair (leaf toks k.Pred) (pair (ty toks) (pair (value toks) (pair (λ _. the toks k.Comma) (value toks)))))))
      (choice (pair (castop toks) (pair (many (iflag toks)) (pair (tvalue toks) (pair (λ _. the toks k.To) (ty toks)))))
      (choice (pair (leaf toks k.Select) (pair (tvalue toks) (pair (λ _. the toks k.Comma) (pair (tvalue toks) (pair (λ _. the toks k.Comma) (tvalue toks))))))
      (choice (pair (leaf toks k.Freeze) (tvalue toks)) (choice (pair (leaf toks k.Phi) (pair (ty toks) (listed toks (arm toks))))
      (choice (pair (leaf toks k.Alloca) (pair (ty toks) (pair (optional (next toks (tvalue toks))) (alignment toks))))
      (choice (pair (leaf toks k.Load) (pair (volatile toks) (pair (ty toks) (pair (λ _. the toks k.Comma) (pair (tvalue toks) (alignment toks))))))
      (choice (pair (leaf toks k.Store) (pair (volatile toks) (pair (tvalue toks) (pair (λ _. the toks k.Comma) (pair (tvalue toks) (alignment toks))))))
      (choice (pair (leaf toks k.GetElementPtr) (pair (many (gepflag toks)) (pair (ty toks) (some (next toks (tvalue toks))))))
      (choice (call toks) (pair (leaf toks k.LandingPad)
      (pair (ty toks) (choice (pair (leaf toks k.Cleanup) (many (clause toks))) (some (clause toks)))))))))))))))

  pub instr_view : (t : Instr) (a b : ℕ) → instr toks t a ≡ Some b → (x : InstrShape) × ((instr_back x ≡ t) × (instr_shape x a ≡ Some b))
  instr_view (instr_is.Binop op flags kind left right) a b e = (inl (op, (flags, (kind, (left, (tt, right))))), (refl, e))
  instr_view (instr_is.Icmp x) a b e = (inr (inl (x.op, (x.flags, (x.pred, (x.ty, (x.left, (tt, x.right))))))), (refl, e))
  instr_view (instr_is.Cast op flags of to) a b e = (inr (inr (inl (op, (flags, (of, (tt, to)))))), (refl, e))
  instr_view (instr_is.Select x) a b e = (inr (inr (inr (inl (x.op, (x.on, (tt, (x.yes, (tt, x.no)))))))), (refl, e))
  instr_view (instr_is.Freeze op of) a b e = (inr (inr (inr (inr (inl (op, of))))), (refl, e))
  instr_view (instr_is.Phi op kind arms) a b e = (inr (inr (inr (inr (inr (inl (op, (kind, arms))))))), (refl, e))
  instr_view (instr_is.Alloca x) a b e = (inr (inr (inr (inr (inr (inr (inl (x.op, (x.ty, (x.count, x.align))))))))), (refl, e))
  instr_view (instr_is.Load op hidden kind from align) a b e = (
    inr (inr (inr (inr (inr (inr (inr (inl (op, (hidden, (kind, (tt, (from, align)))))))))))),
    (refl, e),
  )
  instr_view (instr_is.Store x) a b e = (inr (inr (inr (inr (inr (inr (inr (inr (inl (x.op, (x.volatile, (x.value, (tt, (x.to, x.align))))))))))))), (refl, e))
  instr_view (instr_is.GetElementPtr op flags elem operands) a b e = (
    inr (inr (inr (inr (inr (inr (inr (inr (inr (inl (op, (flags, (elem, operands)))))))))))),
    (refl, e),
  )
  instr_view (instr_is.Call x) a b e = (inr (inr (inr (inr (inr (inr (inr (inr (inr (inr (inl x)))))))))), (refl, e))
  instr_view (instr_is.Cleanup op kind cleanup clauses) a b e =
      (inr (inr (inr (inr (inr (inr (inr (inr (inr (inr (inr (op, (kind, inl (cleanup, clauses))))))))))))), (refl, e))
  instr_view (instr_is.LandingPad op kind clauses) a b e = (
    inr (inr (inr (inr (inr (inr (inr (inr (inr (inr (inr (op, (kind, inr clauses)))))))))))),
    (refl, e),
  )

  abbrev pub instr_of : Known toks false (instr toks)
  instr_of = shape_of instr_back instr_view
      (choice_of (pair_of (set_of (k.ConstBinop ∷ k.Binop ∷ []))
      (pair_of (many_of (iflag_of toks) refl) (pair_of (ty_of toks) (pair_of (value_of toks) (pair_of (the_of k.Comma) (value_of toks) refl) refl) refl) refl)
      refl) (choice_of (pair_of (leaf_of k.Icmp)
      (pair_of (many_of (iflag_of toks) refl)
      (pair_of (leaf_of k.Pred) (pair_of (ty_of toks) (pair_of (value_of toks) (pair_of (the_of k.Comma) (value_of toks) refl) refl) refl) refl) refl) refl)
      (choice_of (pair_of (set_of (k.ConstCast ∷ k.Cast ∷ []))
      (pair_of (many_of (iflag_of toks) refl) (pair_of (tvalue_of toks) (pair_of (the_of k.To) (ty_of toks) refl) refl) refl) refl)
      (choice_of (pair_of (leaf_of k.Select)
      (pair_of (tvalue_of toks) (pair_of (the_of k.Comma) (pair_of (tvalue_of toks) (pair_of (the_of k.Comma) (tvalue_of toks) refl) refl) refl) refl) refl)
      (choice_of (pair_of (leaf_of k.Freeze) (tvalue_of toks) refl)
      (choice_of (pair_of (leaf_of k.Phi) (pair_of (ty_of toks) (listed_of arm_of refl) refl) refl)
      (choice_of (pair_of (leaf_of k.Alloca) (pair_of (ty_of toks) (pair_of (optional_of (next_of (tvalue_of toks))) (optional_of (next_of aligned_of)) refl)
      refl) refl) (choice_of (pair_of (leaf_of k.Load)
      (pair_of (optional_of (leaf_of k.Volatile))
      (pair_of (ty_of toks) (pair_of (the_of k.Comma) (pair_of (tvalue_of toks) (optional_of (next_of aligned_of)) refl) refl) refl) refl) refl)
      (choice_of (pair_of (leaf_of k.Store)
      (pair_of (optional_of (leaf_of k.Volatile))
      (pair_of (tvalue_of toks) (pair_of (the_of k.Comma) (pair_of (tvalue_of toks) (optional_of (next_of aligned_of)) refl) refl) refl) refl) refl)
      (choice_of (pair_of (leaf_of k.GetElementPtr) (pair_of (many_of (gepflag_known toks) refl) (pair_of (ty_of toks) (some_of (next_of (tvalue_of toks)) refl)
      refl) refl) refl) (choice_of call_of
      (pair_of (leaf_of k.LandingPad) (pair_of (ty_of toks) (choice_of (pair_of (leaf_of k.Cleanup) (many_of clause_of refl) refl) (some_of clause_of refl)
      refl) refl) refl) refl) refl) refl) refl) refl) refl) refl) refl) refl) refl) refl)

  abbrev InvokeShape : Type 0
  InvokeShape = ℕ × (Called × (Unit {0} × (ℕ × (Unit {0} × ℕ))))

  abbrev invoke_back : InvokeShape → Invoke
  invoke_back (op, (what, (_, (normal, (_, unwind))))) = record { op = op; called = what; normal = normal; unwind = unwind }

  abbrev pub invoke_of : Known toks false (invoke toks)
  invoke_of =
      shape_of invoke_back (λ t a b e. ((t.op, (t.called, (tt, (t.normal, (tt, t.unwind))))), (refl, e)))
      (pair_of (leaf_of k.Invoke) (pair_of called_of (pair_of (the_of k.To) (pair_of target_of (pair_of (the_of k.Unwind) target_of refl) refl) refl) refl)
      refl)

  abbrev pub case_of : Known toks false (case toks)
  case_of = shape_of (λ (x : Ty × (ℕ × ((Unit {0}) × ℕ))). record { ty = x.0; value = x.1.0; to = x.1.1.1 }) (λ t a b e. (
    (t.ty, (t.value, (tt, t.to))),
    (refl, e),
  )) (pair_of (ty_of toks) (pair_of (leaf_of k.Int) (pair_of (the_of k.Comma) target_of refl) refl) refl)

  abbrev pub term_shape : TermShape → Step
  term_shape = choice (pair (leaf toks k.Ret) (choice (λ _. the toks k.Void) (λ v. where_not (stands toks k.Void) (tvalue toks v))))
      (choice (pair (leaf toks k.Br) (choice (target toks)
      (pair (tvalue toks) (pair (λ _. the toks k.Comma) (pair (target toks) (pair (λ _. the toks k.Comma) (target toks)))))))
      (choice (pair (leaf toks k.Switch)
      (pair (tvalue toks) (pair (λ _. the toks k.Comma)
      (pair (target toks) (pair (λ _. the toks k.LeftBracket) (pair (many (case toks)) (λ _. the toks k.RightBracket)))))))
      (choice (leaf toks k.Unreachable) (pair (leaf toks k.Resume) (tvalue toks)))))

  pub term_view : (t : Term) (a b : ℕ) → term toks t a ≡ Some b → (x : TermShape) × ((term_back x ≡ t) × (term_shape x a ≡ Some b))
  term_view (term_is.RetVoid op) a b e = (inl (op, inl tt), (refl, e))
  term_view (term_is.Ret op of) a b e = (inl (op, inr of), (refl, e))
  term_view (term_is.Jump op to) a b e = (inr (inl (op, inl to)), (refl, e))
  term_view (term_is.Branch op on taken other) a b e = (inr (inl (op, inr (on, (tt, (taken, (tt, other)))))), (refl, e))
  term_view (term_is.Switch x) a b e = (inr (inr (inl (x.op, (x.on, (tt, (x.other, (tt, (x.cases, tt)))))))), (refl, e))
  term_view (term_is.Unreachable op) a b e = (inr (inr (inr (inl op))), (refl, e))
  term_view (term_is.Resume op of) a b e = (inr (inr (inr (inr (op, of)))), (refl, e))

  abbrev pub term_of : Known toks false (term toks)
  term_of = shape_of term_back term_view (choice_of (pair_of (leaf_of k.Ret) (choice_of (the_of k.Void) (typed_of) refl) refl)
      (choice_of (pair_of (leaf_of k.Br)
      (choice_of target_of (pair_of (tvalue_of toks) (pair_of (the_of k.Comma) (pair_of target_of (pair_of (the_of k.Comma) target_of refl) refl) refl) refl)
      refl) refl) (choice_of (pair_of (leaf_of k.Switch)
      (pair_of (tvalue_of toks) (pair_of (the_of k.Comma)
      (pair_of target_of (pair_of (the_of k.LeftBracket) (pair_of (many_of case_of refl) (the_of k.RightBracket) refl) refl) refl) refl) refl) refl)
      (choice_of (leaf_of k.Unreachable) (pair_of (leaf_of k.Resume) (tvalue_of toks) refl) refl) refl) refl) refl)
