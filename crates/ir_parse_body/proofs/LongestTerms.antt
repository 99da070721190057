-- The longest terminator, by its first token.
use Rattle.std.proofs.Common.{◌≡◌, ℕ, false, List, [], ◌∷◌, Option, None, Some, ◌⊎◌, inl, inr, refl}
use Rattle.ir_tree.specs.declared.terminal.Terminal.{Terminal}
use Rattle.ir_tree.specs.declared.terminal.Terminal.TheVariants as k
use Rattle.ir_tree.specs.declared.types.Ty.{Ty}
use Rattle.ir_tree.specs.declared.values.Tvalue.{Tvalue}
use Rattle.ir_tree.specs.declared.instructions.Case.{Case}
use Rattle.ir_tree.specs.declared.instructions.Term.{Term}
use Rattle.ir_tree.specs.declared.instructions.Term.TheVariants as term_is
use Rattle.ir_tree.specs.Steps.{Step, the, leaf, many, stands, where_not, Longest}
use Rattle.ir_tree.specs.Types.{ty}
use Rattle.ir_tree.specs.Values.{tvalue}
use Rattle.ir_tree.specs.Instructions.{target, case, term}
use Rattle.ir_tree.proofs.Clear.{pair, choice, moves}
use Rattle.ir_tree.proofs.Known.{Known, firsts, leaf_of, the_of, pair_of, choice_of, many_of}
use Rattle.ir_tree.proofs.ClearTypes.{ty_of}
use Rattle.ir_tree.proofs.ClearValues.{tvalue_of}
use Rattle.ir_tree.proofs.ClearInstructions.{target_of, typed_of, case_of}
use Rattle.ir_parse_parts.proofs.Longest.{turned, leaf_some, leaf_none, the_some, the_none, pair_stop, choice_none, not_begun}
use Rattle.ir_parse_body.specs.Terms.{targets, table}
use Rattle.ir_parse_body.proofs.Sequences.{twice, shaped, pair_by, choice_left, choice_right, after, before, after_of, before_of, seen, after_by, after_none}
use Rattle.ir_parse_body.proofs.Sequences.{before_some, before_none, led_by, unbarred}

-- ---- terminators as one of five, each by its first token and what is behind it
abbrev Shape : Type 0
Shape = (ℕ × (Unit {0} ⊎ Tvalue)) ⊎ ((ℕ × (ℕ ⊎ (Tvalue × (ℕ × ℕ)))) ⊎ ((ℕ × (Tvalue × (ℕ × List Case))) ⊎ (ℕ ⊎ (ℕ × Tvalue))))

abbrev back : Shape → Term
back (inl (op, inl x)) = term_is.RetVoid op
back (inl (op, inr of)) = term_is.Ret op of
back (inr (inl (op, inl to))) = term_is.Jump op to
back (inr (inl (op, inr x))) = term_is.Branch op x.0 x.1.0 x.1.1
back (inr (inr (inl x))) = term_is.Switch (record { op = x.0; on = x.1.0; other = x.1.1.0; cases = x.1.1.1 })
back (inr (inr (inr (inl op)))) = term_is.Unreachable op
back (inr (inr (inr (inr x)))) = term_is.Resume x.0 x.1

module _ (toks : List Terminal) where
  abbrev returned : Unit {0} ⊎ Tvalue → Step
  returned = choice (λ _. the toks k.Void) (λ v. where_not (stands toks k.Void) (tvalue toks v))

  abbrev returned_of : Known toks false returned
  returned_of = choice_of (the_of k.Void) (typed_of toks) refl

  abbrev targets_of : Known toks false (targets toks)
  targets_of = after_of toks k.Comma (pair_of (target_of toks) (after_of toks k.Comma (target_of toks)) refl)

  abbrev branched : Tvalue × (ℕ × ℕ) → Step
  branched = pair (tvalue toks) (targets toks)

  abbrev branched_of : Known toks false branched
  branched_of = pair_of (tvalue_of toks) targets_of refl

  abbrev jumped : ℕ ⊎ (Tvalue × (ℕ × ℕ)) → Step
  jumped = choice (target toks) branched

  abbrev jumped_of : Known toks false jumped
  jumped_of = choice_of (target_of toks) branched_of refl

  abbrev table_of : Known toks false (table toks)
  table_of = after_of toks k.Comma (pair_of (target_of toks) (after_of toks k.LeftBracket (before_of toks k.RightBracket (many_of (case_of toks) refl) refl))
      refl)

  abbrev switched : Tvalue × (ℕ × List Case) → Step
  switched = pair (tvalue toks) (table toks)

  abbrev switched_of : Known toks false switched
  switched_of = pair_of (tvalue_of toks) table_of refl

  abbrev ret_part : ℕ × (Unit {0} ⊎ Tvalue) → Step
  ret_part = pair (leaf toks k.Ret) returned

  abbrev ret_of : Known toks false ret_part
  ret_of = pair_of (leaf_of k.Ret) returned_of refl

  abbrev br_part : ℕ × (ℕ ⊎ (Tvalue × (ℕ × ℕ))) → Step
  br_part = pair (leaf toks k.Br) jumped

  abbrev br_of : Known toks false br_part
  br_of = pair_of (leaf_of k.Br) jumped_of refl

  abbrev switch_part : ℕ × (Tvalue × (ℕ × List Case)) → Step
  switch_part = pair (leaf toks k.Switch) switched

  abbrev switch_of : Known toks false switch_part
  switch_of = pair_of (leaf_of k.Switch) switched_of refl

  abbrev resume_part : ℕ × Tvalue → Step
  resume_part = pair (leaf toks k.Resume) (tvalue toks)

  abbrev resume_of : Known toks false resume_part
  resume_of = pair_of (leaf_of k.Resume) (tvalue_of toks) refl

  abbrev from_unreachable : ℕ ⊎ (ℕ × Tvalue) → Step
  from_unreachable = choice (leaf toks k.Unreachable) resume_part

  abbrev from_unreachable_of : Known toks false from_unreachable
  from_unreachable_of = choice_of (leaf_of k.Unreachable) resume_of refl

  abbrev from_switch : (ℕ × (Tvalue × (ℕ × List Case))) ⊎ (ℕ ⊎ (ℕ × Tvalue)) → Step
  from_switch = choice switch_part from_unreachable

  abbrev from_switch_of : Known toks false from_switch
  from_switch_of = choice_of switch_of from_unreachable_of refl

  abbrev from_br : (ℕ × (ℕ ⊎ (Tvalue × (ℕ × ℕ)))) ⊎ ((ℕ × (Tvalue × (ℕ × List Case))) ⊎ (ℕ ⊎ (ℕ × Tvalue))) → Step
  from_br = choice br_part from_switch

  abbrev from_br_of : Known toks false from_br
  from_br_of = choice_of br_of from_switch_of refl

  abbrev shape : Shape → Step
  shape = choice ret_part from_br

  view : (t : Term) (a b : ℕ) → term toks t a ≡ Some b → (x : Shape) × ((back x ≡ t) × (shape x a ≡ Some b))
  view (term_is.RetVoid op) a b e = (inl (op, inl tt), (refl, e))
  view (term_is.Ret op of) a b e = (inl (op, inr of), (refl, e))
  view (term_is.Jump op to) a b e = (inr (inl (op, inl to)), (refl, e))
  view (term_is.Branch op on taken other) a b e = (inr (inl (op, inr (on, (taken, other)))), (refl, e))
  view (term_is.Switch x) a b e = (inr (inr (inl (x.op, (x.on, (x.other, x.cases))))), (refl, e))
  view (term_is.Unreachable op) a b e = (inr (inr (inr (inl op))), (refl, e))
  view (term_is.Resume op of) a b e = (inr (inr (inr (inr (op, of)))), (refl, e))

  is : (x : Shape) (a : ℕ) → term toks (back x) a ≡ shape x a
  is (inl (op, inl x)) a = refl
  is (inl (op, inr of)) a = refl
  is (inr (inl (op, inl to))) a = refl
  is (inr (inl (op, inr x))) a = refl
  is (inr (inr (inl x))) a = refl
  is (inr (inr (inr (inl op)))) a = refl
  is (inr (inr (inr (inr x)))) a = refl

  term_by : (a : ℕ) (r : Option (Shape × ℕ)) → Longest shape a r → Longest (term toks) a (turned back r)
  term_by a r l = shaped (term toks) shape a back (λ t b e. view t a b e) (λ x. is x a) r l

  -- no terminator is where none of the first tokens is
  pub term_none : (a : ℕ) → None ≡ the toks k.Ret a → None ≡ the toks k.Br a → None ≡ the toks k.Switch a → None ≡ the toks k.Unreachable a →
      None ≡ the toks k.Resume a → Longest (term toks) a None
  term_none a r b s u m =
      term_by a None (choice_none ret_part from_br a (pair_stop (leaf_of k.Ret) returned_of a (leaf_none toks k.Ret a r))
      (choice_none br_part from_switch a (pair_stop (leaf_of k.Br) jumped_of a (leaf_none toks k.Br a b))
      (choice_none switch_part from_unreachable a (pair_stop (leaf_of k.Switch) switched_of a (leaf_none toks k.Switch a s))
      (choice_none (leaf toks k.Unreachable) resume_part a (leaf_none toks k.Unreachable a u)
      (pair_stop (leaf_of k.Resume) (tvalue_of toks) a (leaf_none toks k.Resume a m))))))

  -- ---- by the first token
  module _ (a b : ℕ) (h : Some b ≡ the toks k.Ret a) where
    ret_by : (r : Option ((Unit {0} ⊎ Tvalue) × ℕ)) → Longest returned b r → Longest (term toks) a (turned (λ x. back (inl (a, x))) r)
    ret_by r l =
        let part = led_by toks k.Ret returned_of a b h r l in
        let one = choice_left ret_part from_br a (turned (λ x. (a, x)) r) part (not_begun (from_br_of.at a) (firsts (k.Ret ∷ [])) refl (seen toks k.Ret a b h))
        in
        twice (term toks) (λ x. back (inl x)) (λ x. (
          a,
          x,
        )) a r (twice (term toks) back inl a (turned (λ x. (a, x)) r) (term_by a (turned inl (turned (λ x. (a, x)) r)) one))

    pub ret_void : (c : ℕ) → Some c ≡ the toks k.Void b → Longest (term toks) a (Some (term_is.RetVoid a, c))
    ret_void c e = ret_by (Some (inl tt, c)) (choice_left (λ _. the toks k.Void) (λ v. where_not (stands toks k.Void) (tvalue toks v)) b (Some (
      tt,
      c,
    )) (the_some toks k.Void b c e) (not_begun ((typed_of toks).at b) (firsts (k.Void ∷ [])) refl (seen toks k.Void b c e)))

    pub ret_value : None ≡ the toks k.Void b → (r : Option (Tvalue × ℕ)) → Longest (tvalue toks) b r → Longest (term toks) a (turned (λ v. term_is.Ret a v) r)
    ret_value n r l = twice (term toks) (λ x. back (inl (
      a,
      x,
    ))) inr a r (ret_by (turned inr r) (choice_right (λ _. the toks k.Void) (λ v. where_not (stands toks k.Void) (tvalue toks v)) b r
        (the_none toks k.Void b n) (unbarred toks k.Void (tvalue toks) b n r l)))

  module _ (a b : ℕ) (h : Some b ≡ the toks k.Br a) where
    br_by : (r : Option ((ℕ ⊎ (Tvalue × (ℕ × ℕ))) × ℕ)) → Longest jumped b r → Longest (term toks) a (turned (λ x. back (inr (inl (a, x)))) r)
    br_by r l =
        let at' = seen toks k.Br a b h in
        let part = led_by toks k.Br jumped_of a b h r l in
        let one = choice_left br_part from_switch a (turned (λ x. (a, x)) r) part (not_begun (from_switch_of.at a) (firsts (k.Br ∷ [])) refl at') in
        let two = choice_right ret_part from_br a (turned inl (turned (λ x. (a, x)) r)) (not_begun (ret_of.at a) (firsts (k.Br ∷ [])) refl at') one in
        twice (term toks) (λ x. back (inr (inl x))) (λ x. (a, x)) a r
        (twice (term toks) (λ x. back (inr x)) inl a (turned (λ x. (a, x)) r)
        (twice (term toks) back inr a (turned inl (turned (λ x. (a, x)) r)) (term_by a (turned inr (turned inl (turned (λ x. (a, x)) r))) two)))

    pub br_jump : (c to : ℕ) → Longest (target toks) b (Some (to, c)) → Longest (term toks) a (Some (term_is.Jump a to, c))
    br_jump c to l = br_by (Some (
      inl to,
      c,
    )) (choice_left (target toks) branched b (Some (
      to,
      c,
    )) l (not_begun (branched_of.at b) (target_of toks).first refl (moves toks (target_of toks).first b c (((target_of toks).at b).opens to c l.0)).1))

    module _ (n : Longest (target toks) b None) where
      br_branch : (r : Option ((Tvalue × (ℕ × ℕ)) × ℕ)) → Longest branched b r → Longest (term toks) a (turned (λ x. back (inr (inl (a, inr x)))) r)
      br_branch r l = twice (term toks) (λ x. back (inr (inl (a, x)))) inr a r (br_by (turned inr r) (choice_right (target toks) branched b r n l))

      pub br_no_value : Longest (tvalue toks) b None → Longest (term toks) a None
      br_no_value l = br_branch None (pair_stop (tvalue_of toks) targets_of b l)

      pub br_targets : (on : Tvalue) (c : ℕ) → Longest (tvalue toks) b (Some (on, c)) → (r : Option ((ℕ × ℕ) × ℕ)) → Longest (targets toks) c r →
          Longest (term toks) a (turned (λ x. term_is.Branch a on x.0 x.1) r)
      br_targets on c l r l' = twice (term toks) (λ x. back (inr (inl (a, inr x)))) (λ x. (
        on,
        x,
      )) a r (br_branch (turned (λ x. (on, x)) r) (pair_by (tvalue_of toks) targets_of refl b c on l r l'))

  module _ (a b : ℕ) (h : Some b ≡ the toks k.Switch a) where
    switch_by : (r : Option ((Tvalue × (ℕ × List Case)) × ℕ)) → Longest switched b r → Longest (term toks) a (turned (λ x. back (inr (inr (inl (a, x))))) r)
    switch_by r l =
        let at' = seen toks k.Switch a b h in
        let part = led_by toks k.Switch switched_of a b h r l in
        let one = choice_left switch_part from_unreachable a (turned (λ x. (
          a,
          x,
        )) r) part (not_begun (from_unreachable_of.at a) (firsts (k.Switch ∷ [])) refl at') in
        let two = choice_right br_part from_switch a (turned inl (turned (λ x. (a, x)) r)) (not_begun (br_of.at a) (firsts (k.Switch ∷ [])) refl at') one in
        let three = choice_right ret_part from_br a (turned inr (turned inl (turned (λ x. (a, x)) r))) (not_begun (ret_of.at a) (firsts (k.Switch ∷ [])) refl
        at') two in
        twice (term toks) (λ x. back (inr (inr (inl x)))) (λ x. (a, x)) a r
        (twice (term toks) (λ x. back (inr (inr x))) inl a (turned (λ x. (a, x)) r)
        (twice (term toks) (λ x. back (inr x)) inr a (turned inl (turned (λ x. (a, x)) r))
        (twice (term toks) back inr a (turned inr (turned inl (turned (λ x. (a, x)) r)))
        (term_by a (turned inr (turned inr (turned inl (turned (λ x. (a, x)) r)))) three))))

    pub switch_no_value : Longest (tvalue toks) b None → Longest (term toks) a None
    switch_no_value l = switch_by None (pair_stop (tvalue_of toks) table_of b l)

    pub switch_table : (on : Tvalue) (c : ℕ) → Longest (tvalue toks) b (Some (on, c)) → (r : Option ((ℕ × List Case) × ℕ)) → Longest (table toks) c r →
        Longest (term toks) a (turned (λ x. term_is.Switch (record { op = a; on = on; other = x.0; cases = x.1 })) r)
    switch_table on c l r l' = twice (term toks) (λ x. back (inr (inr (inl (a, x))))) (λ x. (
      on,
      x,
    )) a r (switch_by (turned (λ x. (on, x)) r) (pair_by (tvalue_of toks) table_of refl b c on l r l'))

  -- neither `ret`, `br` nor `switch`
  later_by : (a : ℕ) → Longest ret_part a None → Longest br_part a None → Longest switch_part a None → (r : Option ((ℕ ⊎ (ℕ × Tvalue)) × ℕ)) →
      Longest from_unreachable a r → Longest (term toks) a (turned (λ x. back (inr (inr (inr x)))) r)
  later_by a n m o r l =
      let one = choice_right switch_part from_unreachable a r o l in
      let two = choice_right br_part from_switch a (turned inr r) m one in
      let three = choice_right ret_part from_br a (turned inr (turned inr r)) n two in
      twice (term toks) (λ x. back (inr (inr x))) inr a r
      (twice (term toks) (λ x. back (inr x)) inr a (turned inr r)
      (twice (term toks) back inr a (turned inr (turned inr r)) (term_by a (turned inr (turned inr (turned inr r))) three)))

  pub unreachable : (a b : ℕ) → Some b ≡ the toks k.Unreachable a → Longest (term toks) a (Some (term_is.Unreachable a, b))
  unreachable a b h =
      let at' = seen toks k.Unreachable a b h in
      let rest = not_begun (resume_of.at a) (firsts (k.Unreachable ∷ [])) refl at' in
      later_by a (not_begun (ret_of.at a) (firsts (k.Unreachable ∷ [])) refl at') (not_begun (br_of.at a) (firsts (k.Unreachable ∷ [])) refl at')
      (not_begun (switch_of.at a) (firsts (k.Unreachable ∷ [])) refl at') (Some (inl a, b)) (choice_left (leaf toks k.Unreachable) resume_part a (Some (
        a,
        b,
      )) (leaf_some toks k.Unreachable a b h) rest)

  pub resume_value : (a b : ℕ) → Some b ≡ the toks k.Resume a → (r : Option (Tvalue × ℕ)) → Longest (tvalue toks) b r →
      Longest (term toks) a (turned (λ v. term_is.Resume a v) r)
  resume_value a b h r l =
      let at' = seen toks k.Resume a b h in
      let part = led_by toks k.Resume (tvalue_of toks) a b h r l in
      let one = choice_right (leaf toks k.Unreachable) resume_part a (turned (λ v. (
        a,
        v,
      )) r) (not_begun ((leaf_of {toks = toks} k.Unreachable).at a) (firsts (k.Resume ∷ [])) refl at') part in
      twice (term toks) (λ x. back (inr (inr (inr (inr x))))) (λ v. (a, v)) a r
      (twice (term toks) (λ x. back (inr (inr (inr x)))) inr a (turned (λ v. (a, v)) r)
      (later_by a (not_begun (ret_of.at a) (firsts (k.Resume ∷ [])) refl at') (not_begun (br_of.at a) (firsts (k.Resume ∷ [])) refl at')
      (not_begun (switch_of.at a) (firsts (k.Resume ∷ [])) refl at') (turned inr (turned (λ v. (a, v)) r)) one))

  -- ---- what is behind the value of a branch and of a switch
  module _ (a b : ℕ) (h : Some b ≡ the toks k.Comma a) (to c : ℕ) (l : Longest (target toks) b (Some (to, c))) where
    pub targets_last : (d : ℕ) → Some d ≡ the toks k.Comma c → (r : Option (ℕ × ℕ)) → Longest (target toks) d r →
        Longest (targets toks) a (turned (λ other. (to, other)) r)
    targets_last d h' r l' =
        let second = after_by toks k.Comma (target toks) c d h' r l' in
        after_by toks k.Comma (pair (target toks) (after toks k.Comma (target toks))) a b h (turned (λ other. (
          to,
          other,
        )) r) (pair_by (target_of toks) (after_of toks k.Comma (target_of toks)) refl b c to l r second)

    module _ (d e : ℕ) (h' : Some d ≡ the toks k.LeftBracket c) (all : List Case) (cases : Longest (many (case toks)) d (Some (all, e))) where
      table_by : (r : Option (List Case × ℕ)) → Longest (before toks k.RightBracket (many (case toks))) d r → Longest (table toks) a (turned (λ x. (to, x)) r)
      table_by r l' =
          let listed = after_by toks k.LeftBracket (before toks k.RightBracket (many (case toks))) c d h' r l' in
          after_by toks k.Comma (pair (target toks) (after toks k.LeftBracket (before toks k.RightBracket (many (case toks))))) a b h (turned (λ x. (
            to,
            x,
          )) r) (pair_by (target_of toks) (after_of toks k.LeftBracket (before_of toks k.RightBracket (many_of (case_of toks) refl) refl)) refl b c to l r
          listed)

      pub table_no_close : None ≡ the toks k.RightBracket e → Longest (table toks) a None
      table_no_close n = table_by None (before_none toks k.RightBracket (many_of (case_of toks) refl) refl d e all cases n)

      pub table_ends : (end : ℕ) → Some end ≡ the toks k.RightBracket e → Longest (table toks) a (Some ((to, all), end))
      table_ends end f = table_by (Some (all, end)) (before_some toks k.RightBracket (many_of (case_of toks) refl) refl d e all cases end f)

  -- ---- a case
  abbrev case_shape : Ty × (ℕ × ℕ) → Step
  case_shape = pair (ty toks) (pair (leaf toks k.Int) (after toks k.Comma (target toks)))

  abbrev to_of : Known toks false (after toks k.Comma (target toks))
  to_of = after_of toks k.Comma (target_of toks)

  case_by : (a : ℕ) (r : Option ((Ty × (ℕ × ℕ)) × ℕ)) → Longest case_shape a r →
      Longest (case toks) a (turned (λ (x : Ty × (ℕ × ℕ)). record { ty = x.0; value = x.1.0; to = x.1.1 }) r)
  case_by a r l = shaped (case toks) case_shape a (λ (x : Ty × (ℕ × ℕ)). record { ty = x.0; value = x.1.0; to = x.1.1 }) (λ t b e. (
    (t.ty, (t.value, t.to)),
    (refl, e),
  )) (λ x. refl) r l

  pub case_no_type : (a : ℕ) → Longest (ty toks) a None → Longest (case toks) a None
  case_no_type a l = case_by a None (pair_stop (ty_of toks) (pair_of (leaf_of k.Int) to_of refl) a l)

  module _ (a b : ℕ) (t : Ty) (l : Longest (ty toks) a (Some (t, b))) where
    case_rest : (r : Option ((ℕ × ℕ) × ℕ)) → Longest (pair (leaf toks k.Int) (after toks k.Comma (target toks))) b r →
        Longest (case toks) a (turned (λ (x : ℕ × ℕ). record { ty = t; value = x.0; to = x.1 }) r)
    case_rest r l' = twice (case toks) (λ (x : Ty × (ℕ × ℕ)). record { ty = x.0; value = x.1.0; to = x.1.1 }) (λ x. (
      t,
      x,
    )) a r (case_by a (turned (λ x. (t, x)) r) (pair_by (ty_of toks) (pair_of (leaf_of k.Int) to_of refl) refl a b t l r l'))

    pub case_no_value : None ≡ the toks k.Int b → Longest (case toks) a None
    case_no_value n = case_rest None (pair_stop (leaf_of k.Int) to_of b (leaf_none toks k.Int b n))

    module _ (c : ℕ) (h : Some c ≡ the toks k.Int b) where
      pub case_no_comma : None ≡ the toks k.Comma c → Longest (case toks) a None
      case_no_comma n = case_rest None (led_by toks k.Int to_of b c h None (after_none toks k.Comma (target toks) c n))

      pub case_to : (d : ℕ) → Some d ≡ the toks k.Comma c → (r : Option (ℕ × ℕ)) → Longest (target toks) d r →
          Longest (case toks) a (turned (λ to. record { ty = t; value = b; to = to }) r)
      case_to d h' r l' = twice (case toks) (λ (x : ℕ × ℕ). record { ty = t; value = x.0; to = x.1 }) (λ to. (
        b,
        to,
      )) a r (case_rest (turned (λ to. (b, to)) r) (led_by toks k.Int to_of b c h r (after_by toks k.Comma (target toks) c d h' r l')))
