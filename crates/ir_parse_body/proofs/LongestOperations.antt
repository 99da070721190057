-- The longest operation on values, from its parts.
use Rattle.std.proofs.Common.{◌≡◌, ℕ, false, List, [], ◌∷◌, None, Some, refl}
use Rattle.ir_tree.specs.declared.terminal.Terminal.{Terminal}
use Rattle.ir_tree.specs.declared.terminal.Terminal.TheVariants as k
use Rattle.ir_tree.specs.declared.types.Ty.{Ty}
use Rattle.ir_tree.specs.declared.constants.Gepflag.{Gepflag}
use Rattle.ir_tree.specs.declared.values.Value.{Value}
use Rattle.ir_tree.specs.declared.values.Tvalue.{Tvalue}
use Rattle.ir_tree.specs.declared.instructions.Arm.{Arm}
use Rattle.ir_tree.specs.declared.instructions.Instr.TheVariants as instr_is
use Rattle.ir_tree.specs.Steps.{the, leaf, many, some, next, listed, Longest}
use Rattle.ir_tree.specs.Types.{ty}
use Rattle.ir_tree.specs.Constants.{iflag, gepflag}
use Rattle.ir_tree.specs.Values.{value, tvalue}
use Rattle.ir_tree.specs.Instructions.{arm, instr}
use Rattle.ir_tree.proofs.Clear.{pair}
use Rattle.ir_tree.proofs.Known.{Known, leaf_of, the_of, pair_of, many_of, some_of, next_of, listed_of}
use Rattle.ir_tree.proofs.ClearTypes.{ty_of}
use Rattle.ir_tree.proofs.ClearConstants.{iflag_of, gepflag_known}
use Rattle.ir_tree.proofs.ClearValues.{value_of, tvalue_of}
use Rattle.ir_tree.proofs.ClearInstructions.{arm_of}
use Rattle.ir_parse_parts.specs.Parts.{any_of}
use Rattle.ir_parse_parts.proofs.Longest.{leaf_some, leaf_none, the_some, the_none, pair_stop, listed_some, listed_none}
use Rattle.ir_parse_body.specs.declared.operations.Sides.{Sides}
use Rattle.ir_parse_body.specs.Parts.{operands}
use Rattle.ir_parse_body.proofs.Remains.{Remains, rest_none, rest_some, then_rest, pair_rest, comma_rest, next_rest}
use Rattle.ir_parse_body.proofs.LongestInstr.{comma, two_values, binop_rest, icmp_rest, cast_rest, select_rest, freeze_rest, phi_rest, gep_rest}

module _ (toks : List Terminal) where
  -- ---- `type value ',' value`
  abbrev right_part : Known toks false (pair (comma toks) (value toks))
  right_part = pair_of (the_of k.Comma) (value_of toks) refl

  abbrev left_part : Known toks false (pair (value toks) (pair (comma toks) (value toks)))
  left_part = pair_of (value_of toks) right_part refl

  abbrev two_values_of : Known toks false (two_values toks)
  two_values_of = pair_of (ty_of toks) left_part refl

  -- the two sides of an operation, where two values of a type are left
  sides_rest : (a : ℕ) → Remains (two_values toks) a (operands toks) a (λ x. (x.ty, (x.left, (tt, x.right))))
  sides_rest a = record { fits = λ x c e. e; only = λ x c e. (record { ty = x.0; left = x.1.0; right = x.1.1.1 }, e) }

  module _ (a : ℕ) where
    values_rest : Remains (operands toks) a (two_values toks) a (λ x. record { ty = x.0; left = x.1.0; right = x.1.1.1 })
    values_rest = record { fits = λ x c e. e; only = λ x c e. ((x.ty, (x.left, (tt, x.right))), e) }

    pub operands_no_type : Longest (ty toks) a None → Longest (operands toks) a None
    operands_no_type n = rest_none values_rest (pair_stop (ty_of toks) left_part a n)

    module _ (kind : Ty) (first : ℕ) (typed : Longest (ty toks) a (Some (kind, first))) where
      left_rest : Remains (operands toks) a (pair (value toks) (pair (comma toks) (value toks))) first (λ x. record { ty = kind; left = x.0; right = x.1.1 })
      left_rest = then_rest values_rest (pair_rest (ty_of toks) left_part refl typed)

      pub operands_no_left : Longest (value toks) first None → Longest (operands toks) a None
      operands_no_left n = rest_none left_rest (pair_stop (value_of toks) right_part first n)

      module _ (left : Value) (place : ℕ) (valued : Longest (value toks) first (Some (left, place))) where
        behind_left : Remains (operands toks) a (pair (comma toks) (value toks)) place (λ x. record { ty = kind; left = left; right = x.1 })
        behind_left = then_rest left_rest (pair_rest (value_of toks) right_part refl valued)

        pub operands_no_comma : None ≡ the toks k.Comma place → Longest (operands toks) a None
        operands_no_comma n = rest_none behind_left (pair_stop (the_of k.Comma) (value_of toks) place (the_none toks k.Comma place n))

        module _ (second : ℕ) (h : Some second ≡ the toks k.Comma place) where
          right_rest : Remains (operands toks) a (value toks) second (λ right. record { ty = kind; left = left; right = right })
          right_rest = then_rest behind_left (pair_rest (the_of k.Comma) (value_of toks) refl (the_some toks k.Comma place second h))

          pub operands_no_right : Longest (value toks) second None → Longest (operands toks) a None
          operands_no_right n = rest_none right_rest n

          pub operands_end : (right : Value) (end : ℕ) → Longest (value toks) second (Some (right, end)) →
              Longest (operands toks) a (Some (record { ty = kind; left = left; right = right }, end))
          operands_end right end l = rest_some right_rest l

  -- ---- binop
  module _ (a first : ℕ) (h : Some first ≡ any_of toks (k.ConstBinop ∷ k.Binop ∷ []) a) (flags : List ℕ) (place : ℕ)
      (flagged : Longest (many (iflag toks)) first (Some (flags, place))) where
    binop_sides : Remains (instr toks) a (operands toks) place (λ x. instr_is.Binop a flags x.ty x.left x.right)
    binop_sides = then_rest (then_rest (binop_rest toks a first h) (pair_rest (many_of (iflag_of toks) refl) two_values_of refl flagged)) (sides_rest place)

    pub binop_no_operands : Longest (operands toks) place None → Longest (instr toks) a None
    binop_no_operands n = rest_none binop_sides n

    pub binop_ends : (x : Sides) (end : ℕ) → Longest (operands toks) place (Some (x, end)) →
        Longest (instr toks) a (Some (instr_is.Binop a flags x.ty x.left x.right, end))
    binop_ends x end l = rest_some binop_sides l

  -- ---- icmp
  abbrev pred_part : Known toks false (pair (leaf toks k.Pred) (two_values toks))
  pred_part = pair_of (leaf_of k.Pred) two_values_of refl

  module _ (a first : ℕ) (h : Some first ≡ the toks k.Icmp a) (flags : List ℕ) (pred : ℕ) (flagged : Longest (many (iflag toks)) first (Some (
    flags,
    pred,
  ))) where
    pred_rest : Remains (instr toks) a (pair (leaf toks k.Pred) (two_values toks)) pred (λ x. instr_is.Icmp (record {
      op = a;
      flags = flags;
      pred = x.0;
      ty =
          x.1.0;
      left = x.1.1.0;
      right = x.1.1.1.1;
    }))
    pred_rest = then_rest (icmp_rest toks a first h) (pair_rest (many_of (iflag_of toks) refl) pred_part refl flagged)

    pub icmp_no_pred : None ≡ the toks k.Pred pred → Longest (instr toks) a None
    icmp_no_pred n = rest_none pred_rest (pair_stop (leaf_of k.Pred) two_values_of pred (leaf_none toks k.Pred pred n))

    module _ (place : ℕ) (h' : Some place ≡ the toks k.Pred pred) where
      icmp_sides : Remains (instr toks) a (operands toks) place (λ x. instr_is.Icmp (record {
        op = a;
        flags = flags;
        pred = pred;
        ty = x.ty;
        left = x.left;
        right = x.right;
      }))
      icmp_sides = then_rest (then_rest pred_rest (pair_rest (leaf_of k.Pred) two_values_of refl (leaf_some toks k.Pred pred place h'))) (sides_rest place)

      pub icmp_no_operands : Longest (operands toks) place None → Longest (instr toks) a None
      icmp_no_operands n = rest_none icmp_sides n

      pub icmp_ends : (x : Sides) (end : ℕ) → Longest (operands toks) place (Some (x, end)) →
          Longest (instr toks) a (Some (instr_is.Icmp (record { op = a; flags = flags; pred = pred; ty = x.ty; left = x.left; right = x.right }), end))
      icmp_ends x end l = rest_some icmp_sides l

  -- ---- cast
  abbrev to_part : Known toks false (pair (λ (_ : Unit {0}). the toks k.To) (ty toks))
  to_part = pair_of (the_of k.To) (ty_of toks) refl

  abbrev of_part : Known toks false (pair (tvalue toks) (pair (λ (_ : Unit {0}). the toks k.To) (ty toks)))
  of_part = pair_of (tvalue_of toks) to_part refl

  module _ (a first : ℕ) (h : Some first ≡ any_of toks (k.ConstCast ∷ k.Cast ∷ []) a) (flags : List ℕ) (place : ℕ)
      (flagged : Longest (many (iflag toks)) first (Some (flags, place))) where
    of_rest : Remains (instr toks) a (pair (tvalue toks) (pair (λ (_ : Unit {0}). the toks k.To) (ty toks))) place (λ x. instr_is.Cast a flags x.0 x.1.1)
    of_rest = then_rest (cast_rest toks a first h) (pair_rest (many_of (iflag_of toks) refl) of_part refl flagged)

    pub cast_no_value : Longest (tvalue toks) place None → Longest (instr toks) a None
    cast_no_value n = rest_none of_rest (pair_stop (tvalue_of toks) to_part place n)

    module _ (of : Tvalue) (word : ℕ) (valued : Longest (tvalue toks) place (Some (of, word))) where
      to_rest : Remains (instr toks) a (pair (λ (_ : Unit {0}). the toks k.To) (ty toks)) word (λ x. instr_is.Cast a flags of x.1)
      to_rest = then_rest of_rest (pair_rest (tvalue_of toks) to_part refl valued)

      pub cast_no_to : None ≡ the toks k.To word → Longest (instr toks) a None
      cast_no_to n = rest_none to_rest (pair_stop (the_of k.To) (ty_of toks) word (the_none toks k.To word n))

      module _ (target : ℕ) (h' : Some target ≡ the toks k.To word) where
        target_rest : Remains (instr toks) a (ty toks) target (λ to. instr_is.Cast a flags of to)
        target_rest = then_rest to_rest (pair_rest (the_of k.To) (ty_of toks) refl (the_some toks k.To word target h'))

        pub cast_no_type : Longest (ty toks) target None → Longest (instr toks) a None
        cast_no_type n = rest_none target_rest n

        pub cast_ends : (to : Ty) (end : ℕ) → Longest (ty toks) target (Some (to, end)) → Longest (instr toks) a (Some (instr_is.Cast a flags of to, end))
        cast_ends to end l = rest_some target_rest l

  -- ---- select
  abbrev no_part : Known toks false (pair (comma toks) (tvalue toks))
  no_part = pair_of (the_of k.Comma) (tvalue_of toks) refl

  abbrev yes_part : Known toks false (pair (comma toks) (pair (tvalue toks) (pair (comma toks) (tvalue toks))))
  yes_part = pair_of (the_of k.Comma) (pair_of (tvalue_of toks) no_part refl) refl

  -- a value behind a comma, where nothing else is left
  last_rest : (a : ℕ) → Remains (pair (comma toks) (tvalue toks)) a (next toks (tvalue toks)) a (λ x. (tt, x))
  last_rest a = record { fits = λ x c e. e; only = λ x c e. (x.1, e) }

  module _ (a first : ℕ) (h : Some first ≡ the toks k.Select a) where
    pub select_no_first : Longest (tvalue toks) first None → Longest (instr toks) a None
    select_no_first n = rest_none (select_rest toks a first h) (pair_stop (tvalue_of toks) yes_part first n)

    module _ (on : Tvalue) (second : ℕ) (valued : Longest (tvalue toks) first (Some (on, second))) where
      yes_rest : Remains (instr toks) a (pair (comma toks) (pair (tvalue toks) (pair (comma toks) (tvalue toks)))) second (λ x. instr_is.Select (record {
        op =
            a;
        on = on;
        yes = x.1.0;
        no = x.1.1.1;
      }))
      yes_rest = then_rest (select_rest toks a first h) (pair_rest (tvalue_of toks) yes_part refl valued)

      pub select_no_second : Longest (next toks (tvalue toks)) second None → Longest (instr toks) a None
      select_no_second n = rest_none (then_rest yes_rest (comma_rest toks (tvalue toks) (pair (comma toks) (tvalue toks)) second))
          (pair_stop (next_of (tvalue_of toks)) no_part second n)

      module _ (yes : Tvalue) (third : ℕ) (valued' : Longest (next toks (tvalue toks)) second (Some (yes, third))) where
        no_rest : Remains (instr toks) a (next toks (tvalue toks)) third (λ x. instr_is.Select (record { op = a; on = on; yes = yes; no = x }))
        no_rest = then_rest (then_rest yes_rest (next_rest (tvalue_of toks) no_part refl valued')) (last_rest third)

        pub select_no_third : Longest (next toks (tvalue toks)) third None → Longest (instr toks) a None
        select_no_third n = rest_none no_rest n

        pub select_ends : (other : Tvalue) (end : ℕ) → Longest (next toks (tvalue toks)) third (Some (other, end)) →
            Longest (instr toks) a (Some (instr_is.Select (record { op = a; on = on; yes = yes; no = other }), end))
        select_ends other end l = rest_some no_rest l

  -- ---- freeze
  module _ (a first : ℕ) (h : Some first ≡ the toks k.Freeze a) where
    pub freeze_no_value : Longest (tvalue toks) first None → Longest (instr toks) a None
    freeze_no_value n = rest_none (freeze_rest toks a first h) n

    pub freeze_ends : (of : Tvalue) (end : ℕ) → Longest (tvalue toks) first (Some (of, end)) → Longest (instr toks) a (Some (instr_is.Freeze a of, end))
    freeze_ends of end l = rest_some (freeze_rest toks a first h) l

  -- ---- arm
  abbrev from_part : Known toks false (pair (leaf toks k.Local) (λ (_ : Unit {0}). the toks k.RightBracket))
  from_part = pair_of (leaf_of k.Local) (the_of k.RightBracket) refl

  abbrev comma_part : Known toks false (pair (comma toks) (pair (leaf toks k.Local) (λ (_ : Unit {0}). the toks k.RightBracket)))
  comma_part = pair_of (the_of k.Comma) from_part refl

  abbrev value_part : Known toks false (pair (value toks) (pair (comma toks) (pair (leaf toks k.Local) (λ (_ : Unit {0}). the toks k.RightBracket))))
  value_part = pair_of (value_of toks) comma_part refl

  module _ (a first : ℕ) (h : Some first ≡ the toks k.LeftBracket a) where
    value_rest : Remains (arm toks) a (pair (value toks) (pair (comma toks) (pair (leaf toks k.Local) (λ (_ : Unit {0}). the toks k.RightBracket)))) first
        (λ x. record { value = x.0; from = x.1.1.0 })
    value_rest = then_rest arm_rest (pair_rest (the_of k.LeftBracket) value_part refl (the_some toks k.LeftBracket a first h))
      where
        arm_rest : Remains (arm toks) a
            (pair (λ (_ : Unit {0}). the toks k.LeftBracket)
            (pair (value toks) (pair (comma toks) (pair (leaf toks k.Local) (λ (_ : Unit {0}). the toks k.RightBracket))))) a (λ x. record {
              value = x.1.0;
              from = x.1.1.1.0;
            })
        arm_rest = record { fits = λ x c e. e; only = λ x c e. ((tt, (x.value, (tt, (x.from, tt)))), e) }

    pub arm_no_value : Longest (value toks) first None → Longest (arm toks) a None
    arm_no_value n = rest_none value_rest (pair_stop (value_of toks) comma_part first n)

    module _ (of : Value) (place : ℕ) (valued : Longest (value toks) first (Some (of, place))) where
      behind_value : Remains (arm toks) a (pair (comma toks) (pair (leaf toks k.Local) (λ (_ : Unit {0}). the toks k.RightBracket))) place
          (λ x. record { value = of; from = x.1.0 })
      behind_value = then_rest value_rest (pair_rest (value_of toks) comma_part refl valued)

      pub arm_no_comma : None ≡ the toks k.Comma place → Longest (arm toks) a None
      arm_no_comma n = rest_none behind_value (pair_stop (the_of k.Comma) from_part place (the_none toks k.Comma place n))

      module _ (from : ℕ) (h' : Some from ≡ the toks k.Comma place) where
        from_rest : Remains (arm toks) a (pair (leaf toks k.Local) (λ (_ : Unit {0}). the toks k.RightBracket)) from (λ x. record { value = of; from = x.0 })
        from_rest = then_rest behind_value (pair_rest (the_of k.Comma) from_part refl (the_some toks k.Comma place from h'))

        pub arm_no_block : None ≡ the toks k.Local from → Longest (arm toks) a None
        arm_no_block n = rest_none from_rest (pair_stop (leaf_of k.Local) (the_of k.RightBracket) from (leaf_none toks k.Local from n))

        module _ (close : ℕ) (h'' : Some close ≡ the toks k.Local from) where
          close_rest : Remains (arm toks) a (λ (_ : Unit {0}). the toks k.RightBracket) close (λ x. record { value = of; from = from })
          close_rest = then_rest from_rest (pair_rest (leaf_of k.Local) (the_of k.RightBracket) refl (leaf_some toks k.Local from close h''))

          pub arm_no_close : None ≡ the toks k.RightBracket close → Longest (arm toks) a None
          arm_no_close n = rest_none close_rest (the_none toks k.RightBracket close n)

          pub arm_ends : (end : ℕ) → Some end ≡ the toks k.RightBracket close → Longest (arm toks) a (Some (record { value = of; from = from }, end))
          arm_ends end e = rest_some close_rest (the_some toks k.RightBracket close end e)

  -- ---- phi
  abbrev pub next_arm_of : Known toks false (next toks (arm toks))
  next_arm_of = next_of (arm_of toks)

  pub arms_none : (a : ℕ) → Longest (arm toks) a None → Longest (listed toks (arm toks)) a None
  arms_none a n = listed_none toks (arm toks) a n

  pub arms_all : (a m b : ℕ) (t : Arm) (ts : List Arm) → Longest (arm toks) a (Some (t, m)) → Longest (many (next toks (arm toks))) m (Some (ts, b)) →
      Longest (listed toks (arm toks)) a (Some (t ∷ ts, b))
  arms_all a m b t ts l rest = listed_some (arm_of toks) refl a m b t ts l rest

  module _ (a first : ℕ) (h : Some first ≡ the toks k.Phi a) where
    pub phi_no_type : Longest (ty toks) first None → Longest (instr toks) a None
    phi_no_type n = rest_none (phi_rest toks a first h) (pair_stop (ty_of toks) (listed_of (arm_of toks) refl) first n)

    module _ (kind : Ty) (place : ℕ) (typed : Longest (ty toks) first (Some (kind, place))) where
      arms_rest : Remains (instr toks) a (listed toks (arm toks)) place (λ arms. instr_is.Phi a kind arms)
      arms_rest = then_rest (phi_rest toks a first h) (pair_rest (ty_of toks) (listed_of (arm_of toks) refl) refl typed)

      pub phi_no_arms : Longest (listed toks (arm toks)) place None → Longest (instr toks) a None
      phi_no_arms n = rest_none arms_rest n

      pub phi_ends : (arms : List Arm) (end : ℕ) → Longest (listed toks (arm toks)) place (Some (arms, end)) →
          Longest (instr toks) a (Some (instr_is.Phi a kind arms, end))
      phi_ends arms end l = rest_some arms_rest l

  -- ---- getelementptr
  abbrev pub next_tvalue_of : Known toks false (next toks (tvalue toks))
  next_tvalue_of = next_of (tvalue_of toks)

  abbrev operands_part : Known toks false (some (next toks (tvalue toks)))
  operands_part = some_of next_tvalue_of refl

  abbrev elem_part : Known toks false (pair (ty toks) (some (next toks (tvalue toks))))
  elem_part = pair_of (ty_of toks) operands_part refl

  module _ (a first : ℕ) (h : Some first ≡ the toks k.GetElementPtr a) (flags : List Gepflag) (place : ℕ)
      (flagged : Longest (many (gepflag toks)) first (Some (flags, place))) where
    elem_rest : Remains (instr toks) a (pair (ty toks) (some (next toks (tvalue toks)))) place (λ x. instr_is.GetElementPtr a flags x.0 x.1)
    elem_rest = then_rest (gep_rest toks a first h) (pair_rest (many_of (gepflag_known toks) refl) elem_part refl flagged)

    pub gep_no_type : Longest (ty toks) place None → Longest (instr toks) a None
    gep_no_type n = rest_none elem_rest (pair_stop (ty_of toks) operands_part place n)

    module _ (elem : Ty) (after : ℕ) (typed : Longest (ty toks) place (Some (elem, after))) where
      operands_rest : Remains (instr toks) a (some (next toks (tvalue toks))) after (λ operands. instr_is.GetElementPtr a flags elem operands)
      operands_rest = then_rest elem_rest (pair_rest (ty_of toks) operands_part refl typed)

      pub gep_no_operands : Longest (some (next toks (tvalue toks))) after None → Longest (instr toks) a None
      gep_no_operands n = rest_none operands_rest n

      pub gep_ends : (operands : List Tvalue) (end : ℕ) → Longest (some (next toks (tvalue toks))) after (Some (operands, end)) →
          Longest (instr toks) a (Some (instr_is.GetElementPtr a flags elem operands, end))
      gep_ends operands end l = rest_some operands_rest l
