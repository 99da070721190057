-- The longest instruction of memory, from its parts.
use Rattle.std.proofs.Common.{◌≡◌, ℕ, true, false, List, Option, None, Some, refl}
use Rattle.ir_tree.specs.declared.terminal.Terminal.{Terminal}
use Rattle.ir_tree.specs.declared.terminal.Terminal.TheVariants as k
use Rattle.ir_tree.specs.declared.types.Ty.{Ty}
use Rattle.ir_tree.specs.declared.values.Tvalue.{Tvalue}
use Rattle.ir_tree.specs.declared.instructions.Instr.TheVariants as instr_is
use Rattle.ir_tree.specs.Steps.{the, optional, next, Longest}
use Rattle.ir_tree.specs.Types.{ty}
use Rattle.ir_tree.specs.Values.{tvalue}
use Rattle.ir_tree.specs.Instructions.{alignment, volatile, instr}
use Rattle.ir_tree.proofs.Clear.{pair}
use Rattle.ir_tree.proofs.Known.{Known, leaf_of, the_of, pair_of, optional_of, next_of}
use Rattle.ir_tree.proofs.ClearTypes.{ty_of}
use Rattle.ir_tree.proofs.ClearValues.{tvalue_of}
use Rattle.ir_tree.proofs.ClearInstructions.{aligned_of}
use Rattle.ir_parse_parts.proofs.Longest.{pair_some, pair_stop, optional_some, optional_none}
use Rattle.ir_parse_body.proofs.Remains.{Remains, rest_none, rest_some, then_rest, pair_rest, comma_rest}
use Rattle.ir_parse_body.proofs.LongestInstr.{comma, alloca_rest, load_rest, store_rest}
use Rattle.ir_parse_body.proofs.LongestOperations.{next_tvalue_of}

module _ (toks : List Terminal) where
  abbrev alignment_of : Known toks true (alignment toks)
  alignment_of = optional_of (next_of (aligned_of toks))

  pub no_count : (a : ℕ) → Longest (next toks (tvalue toks)) a None → Longest (optional (next toks (tvalue toks))) a (Some (None, a))
  no_count a n = optional_none (next toks (tvalue toks)) a n

  pub one_count : (a b : ℕ) (t : Tvalue) → Longest (next toks (tvalue toks)) a (Some (t, b)) → Longest (optional (next toks (tvalue toks))) a (Some (Some t, b))
  one_count a b t l = optional_some (next_tvalue_of toks) a b t l

  -- ---- alloca
  abbrev count_part : Known toks true (pair (optional (next toks (tvalue toks))) (alignment toks))
  count_part = pair_of (optional_of (next_tvalue_of toks)) alignment_of refl

  module _ (a first : ℕ) (h : Some first ≡ the toks k.Alloca a) where
    pub alloca_no_type : Longest (ty toks) first None → Longest (instr toks) a None
    alloca_no_type n = rest_none (alloca_rest toks a first h) (pair_stop (ty_of toks) count_part first n)

    module _ (kind : Ty) (place : ℕ) (typed : Longest (ty toks) first (Some (kind, place))) where
      pub alloca_ends : (count : Option Tvalue) (after : ℕ) → Longest (optional (next toks (tvalue toks))) place (Some (count, after)) →
          (align : Option ℕ) (end : ℕ) → Longest (alignment toks) after (Some (align, end)) →
          Longest (instr toks) a (Some (instr_is.Alloca (record { op = a; ty = kind; count = count; align = align }), end))
      alloca_ends count after counted align end aligned =
          rest_some (alloca_rest toks a first h) (pair_some (ty_of toks) count_part refl first place end kind (
            count,
            align,
          ) typed (pair_some (optional_of (next_tvalue_of toks)) alignment_of refl place after end count align counted aligned))

  -- ---- load and store: a place behind a comma, and its alignment
  abbrev place_part : Known toks false (pair (tvalue toks) (alignment toks))
  place_part = pair_of (tvalue_of toks) alignment_of refl

  abbrev comma_part : Known toks false (pair (comma toks) (pair (tvalue toks) (alignment toks)))
  comma_part = pair_of (the_of k.Comma) place_part refl

  no_place : (a : ℕ) → Longest (next toks (tvalue toks)) a None → Longest (pair (comma toks) (pair (tvalue toks) (alignment toks))) a None
  no_place a n = rest_none (comma_rest toks (tvalue toks) (alignment toks) a) (pair_stop (next_tvalue_of toks) alignment_of a n)

  place_ends : (a b c : ℕ) (t : Tvalue) (align : Option ℕ) → Longest (next toks (tvalue toks)) a (Some (t, b)) → Longest (alignment toks) b (Some (align, c)) →
      Longest (pair (comma toks) (pair (tvalue toks) (alignment toks))) a (Some ((tt, (t, align)), c))
  place_ends a b c t align l aligned =
      rest_some (comma_rest toks (tvalue toks) (alignment toks) a) (pair_some (next_tvalue_of toks) alignment_of refl a b c t align l aligned)

  abbrev from_part : Known toks false (pair (ty toks) (pair (comma toks) (pair (tvalue toks) (alignment toks))))
  from_part = pair_of (ty_of toks) comma_part refl

  module _ (a first : ℕ) (h : Some first ≡ the toks k.Load a) (hidden : Option ℕ) (place : ℕ) (hid : Longest (volatile toks) first (Some (hidden, place))) where
    from_rest : Remains (instr toks) a (pair (ty toks) (pair (comma toks) (pair (tvalue toks) (alignment toks)))) place
        (λ x. instr_is.Load a hidden x.0 x.1.1.0 x.1.1.1)
    from_rest = then_rest (load_rest toks a first h) (pair_rest (optional_of (leaf_of k.Volatile)) from_part refl hid)

    pub load_no_type : Longest (ty toks) place None → Longest (instr toks) a None
    load_no_type n = rest_none from_rest (pair_stop (ty_of toks) comma_part place n)

    module _ (kind : Ty) (after : ℕ) (typed : Longest (ty toks) place (Some (kind, after))) where
      load_place : Remains (instr toks) a (pair (comma toks) (pair (tvalue toks) (alignment toks))) after (λ x. instr_is.Load a hidden kind x.1.0 x.1.1)
      load_place = then_rest from_rest (pair_rest (ty_of toks) comma_part refl typed)

      pub load_no_place : Longest (next toks (tvalue toks)) after None → Longest (instr toks) a None
      load_no_place n = rest_none load_place (no_place after n)

      pub load_ends : (from : Tvalue) (last : ℕ) → Longest (next toks (tvalue toks)) after (Some (from, last)) → (align : Option ℕ) (end : ℕ) →
          Longest (alignment toks) last (Some (align, end)) → Longest (instr toks) a (Some (instr_is.Load a hidden kind from align, end))
      load_ends from last l align end aligned = rest_some load_place (place_ends after last end from align l aligned)

  abbrev value_part : Known toks false (pair (tvalue toks) (pair (comma toks) (pair (tvalue toks) (alignment toks))))
  value_part = pair_of (tvalue_of toks) comma_part refl

  module _ (a first : ℕ) (h : Some first ≡ the toks k.Store a) (hidden : Option ℕ) (place : ℕ) (hid : Longest (volatile toks) first (Some (
    hidden,
    place,
  ))) where
    value_rest : Remains (instr toks) a (pair (tvalue toks) (pair (comma toks) (pair (tvalue toks) (alignment toks)))) place (λ x. instr_is.Store (record {
      op =
          a;
      volatile = hidden;
      value = x.0;
      to = x.1.1.0;
      align = x.1.1.1;
    }))
    value_rest = then_rest (store_rest toks a first h) (pair_rest (optional_of (leaf_of k.Volatile)) value_part refl hid)

    pub store_no_value : Longest (tvalue toks) place None → Longest (instr toks) a None
    store_no_value n = rest_none value_rest (pair_stop (tvalue_of toks) comma_part place n)

    module _ (of : Tvalue) (after : ℕ) (valued : Longest (tvalue toks) place (Some (of, after))) where
      store_place : Remains (instr toks) a (pair (comma toks) (pair (tvalue toks) (alignment toks))) after (λ x. instr_is.Store (record {
        op = a;
        volatile =
            hidden;
        value = of;
        to = x.1.0;
        align = x.1.1;
      }))
      store_place = then_rest value_rest (pair_rest (tvalue_of toks) comma_part refl valued)

      pub store_no_place : Longest (next toks (tvalue toks)) after None → Longest (instr toks) a None
      store_no_place n = rest_none store_place (no_place after n)

      pub store_ends : (to : Tvalue) (last : ℕ) → Longest (next toks (tvalue toks)) after (Some (to, last)) → (align : Option ℕ) (end : ℕ) →
          Longest (alignment toks) last (Some (align, end)) →
          Longest (instr toks) a (Some (instr_is.Store (record { op = a; volatile = hidden; value = of; to = to; align = align }), end))
      store_ends to last l align end aligned = rest_some store_place (place_ends after last end to align l aligned)
