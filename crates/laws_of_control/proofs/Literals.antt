-- Literals: they are read as their numbers, so that no branch on one takes an edge that it rules out.
use Rattle.std.proofs.Common.{◌≡◌, ℕ, suc, ◌==◌, ◌||◌, not, Bool, true, false, if◌then◌else◌, List, [], ◌∷◌, map, slice_get, Option, None, Some, refl, sym, ap}
use Rattle.std.proofs.Common.{subst, ◌∙◌, ◌⊎◌, inl, inr}
use Rattle.std.specs.List.{list_any}
use Rattle.std.specs.Option.{option_map_or}
use Rattle.attr_ids.specs.declared.ids.BlockId.{BlockId}
use Rattle.ir_types.specs.declared.ir_type.IrType.{IrType}
use Rattle.ir_types.specs.declared.ir_type.IrType.TheVariants as type
use Rattle.ir_module.specs.declared.op.Case.{Case}
use Rattle.ir_module.specs.declared.op.Op.{Op}
use Rattle.ir_module.specs.declared.op.Op.TheVariants as op
use Rattle.ir_module.specs.declared.op.Operand.{Operand}
use Rattle.ir_module.specs.declared.op.Operand.TheVariants as operand
use Rattle.ir_module.specs.declared.op.Written.{Written}
use Rattle.ir_module.specs.declared.edge.Edge.{Edge}
use Rattle.ir_module.specs.declared.edge.Way.TheVariants as way
use Rattle.ir_module.specs.declared.module.Module.{Module}
use Rattle.ir_module.specs.Edges.{edge, edges, case_edge}
use Rattle.ir_module.specs.Operands.{literal, literal_in}
use Rattle.facts.specs.Facts.{Fact}
use Rattle.facts.specs.DeadEdges.{is_number, is_other_number, takes_other, is_unused}
use Rattle.ir_machine.specs.declared.choice.Datum.{Datum}
use Rattle.ir_machine.specs.declared.choice.Datum.TheVariants as datum
use Rattle.ir_machine.specs.declared.choice.Value.{Value}
use Rattle.ir_machine.specs.Memory.{Memory}
use Rattle.ir_machine.specs.Moves.{Gives}
use Rattle.ir_machine.specs.Reading.{Picked, Values, Here, read_operand, type_of}
use Rattle.ir_machine.specs.Edges.{is_int_of, case_target, case_values}
use Rattle.ir_machine.proofs.Instructions.{IsRead, AreRead, Leads}

-- ---- reading

-- what is given is the picked value
given_datum : (p r : Picked) → Gives p ≡ Gives r → r.value.datum ≡ p.value.datum
given_datum p r e = let one : p ≡ r = cc in subst (λ (q : Picked). q.value.datum ≡ p.value.datum) one refl

literal_operand : (m : Module) (mem : Memory) (values : Values) (ty : Option IrType) (o : Operand) (picks : List ℕ) (r : Picked) (n : ℕ) →
    literal_in ty o ≡ Some n → read_operand m mem values ty o picks ≡ Gives r → r.value.datum ≡ datum.Int n
literal_operand m mem values ty (operand.Int k true) picks r n is reads =
    let number : k ≡ n = cc in subst (λ n. r.value.datum ≡ datum.Int n) number (given_datum _ r reads)
literal_operand m mem values ty (operand.Int k false) picks r n is reads = absurd (cc)
literal_operand m mem values ty (operand.Truth true) picks r n is reads =
    let number : 1 ≡ n = cc in subst (λ n. r.value.datum ≡ datum.Int n) number (given_datum _ r reads)
literal_operand m mem values ty (operand.Truth false) picks r n is reads =
    let number : 0 ≡ n = cc in subst (λ n. r.value.datum ≡ datum.Int n) number (given_datum _ r reads)
literal_operand m mem values (Some (type.Int width)) operand.Zero picks r n is reads =
    let number : 0 ≡ n = cc in subst (λ n. r.value.datum ≡ datum.Int n) number (given_datum _ r reads)
literal_operand m mem values _ _ picks r n is reads = absurd (cc)

-- a literal is read as its number
pub literal_read : (m : Module) (here : Here) (w : Written) (x : Value) (n : ℕ) → literal m w ≡ Some n → IsRead m here w x → x.datum ≡ datum.Int n
literal_read m here w x n is (picks, rest, reads) =
    literal_operand m here.state.memory here.frame.values (type_of m w.ty) w.val picks (record { value = x; picks = rest }) n is reads

one_int : (a b : ℕ) (d : Datum) → d ≡ datum.Int a → d ≡ datum.Int b → a ≡ b
one_int a b d at_a at_b = cc

-- ---- tests on numbers

not_of : (b : Bool) → b ≡ true → not b ≡ false
not_of true e = refl
not_of false e = absurd (cc)

-- a written number that is `bits`, if it is one, is no other number than n where n is `bits`
no_other : (m : Module) (n : ℕ) (w : Written) → ((k : ℕ) → literal m w ≡ Some k → (k == n) ≡ true) → is_other_number m n w ≡ false
no_other m n w is = by (literal m w) refl
  where
    by : (found : Option ℕ) → literal m w ≡ found → option_map_or (λ k. not (k == n)) found false ≡ false
    by None e = refl
    by (Some k) e = not_of (k == n) (is k e)

no_number : (m : Module) (n : ℕ) (w : Written) → ((k : ℕ) → literal m w ≡ Some k → (k == n) ≡ false) → is_number m n w ≡ false
no_number m n w is = by (literal m w) refl
  where
    by : (found : Option ℕ) → literal m w ≡ found → option_map_or (λ k. k == n) found false ≡ false
    by None e = refl
    by (Some k) e = is k e

-- ---- where a branch leads

-- edge number k of the terminator leads to the block, and neither a literal nor what its call does keeps it from being taken
pub record IsLed (m : Module) (held : Fact → Bool) (o : Op) (to : ℕ) : Type 0 where
  pub number : ℕ
  pub edge : Edge
  pub is_edge : slice_get (edges o) number ≡ Some edge
  pub leads : edge.to.0 ≡ to
  pub free : (takes_other m o edge.way || is_unused m held o edge.way) ≡ false

module _ (m : Module) (held : Fact → Bool) (here : Here) where
  -- `to` is the default block, where no case is the number; or the block of a case, which is no other literal than the number
  abbrev CaseOf : Written → BlockId → List Case → BlockId → Type 0
  CaseOf on other cases to =
      ((to ≡ other) × ((n : ℕ) → literal m on ≡ Some n → list_any (λ (case : Case). is_number m n case.val) cases ≡ false)) ⊎
      ((k : ℕ) × (case : Case) × (slice_get (map case_edge cases) k ≡ Some (case_edge case)) × (case.to.0 ≡ to.0) ×
      ((n : ℕ) → literal m on ≡ Some n → is_other_number m n case.val ≡ false))

  abbrev CaseIs : Written → ℕ → BlockId → List Case → List Value → Type 0
  CaseIs on bits other cases xs = CaseOf on other cases (case_target bits other cases xs)

  case_is : (on : Written) (bits : ℕ) (other : BlockId) → ((n : ℕ) → literal m on ≡ Some n → bits ≡ n) → (cases : List Case) (xs : List Value) →
      AreRead m here (case_values cases) xs → CaseIs on bits other cases xs
  case_is on bits other is [] [] reads = inl (refl, λ n e. refl)
  case_is on bits other is [] (x ∷ xs) reads = absurd reads
  case_is on bits other is (case ∷ cases) [] reads = absurd reads
  case_is on bits other is (case ∷ cases) (x ∷ xs) reads = by (is_int_of bits x.datum) refl (case_is on bits other is cases xs reads.1)
    where
      test : (k : ℕ) → literal m case.val ≡ Some k → is_int_of bits x.datum ≡ (k == bits)
      test k e = ap (is_int_of bits) (literal_read m here case.val x k e reads.0)

      by : (b : Bool) → is_int_of bits x.datum ≡ b → CaseIs on bits other cases xs →
          CaseOf on other (case ∷ cases) (if b then case.to else case_target bits other cases xs)
      by true e later = inr (
        0,
        case,
        refl,
        refl,
        λ n lit. no_other m n case.val (λ k written. subst (λ n. (k == n) ≡ true) (is n lit) (sym (test k written) ∙
            e)),
      )
      by false e (inl (goes, none)) =
          inl (
            goes,
            λ n lit. or_false (is_number m n case.val) (list_any (λ (case : Case). is_number m n case.val) cases)
                (no_number m n case.val (λ k written. subst (λ n. (k == n) ≡ false) (is n lit) (sym (test k written) ∙ e))) (none n lit),
          )
        where
          or_false : (a b : Bool) → a ≡ false → b ≡ false → (a || b) ≡ false
          or_false false b ea eb = eb
          or_false true b ea eb = absurd (cc)
      by false e (inr (k, found, at, goes, not_other)) = inr (suc k, found, at, goes, not_other)

  -- the edge that a branch takes is not one that a literal rules out
  pub led : (o : Op) (to : ℕ) → Leads m here o to → IsLed m held o to
  led (op.Jump to) block is = record { number = 0; edge = edge way.Jump to; is_edge = refl; leads = sym is; free = refl }
  led (op.Branch c so otherwise) block (x, bits, at, int, is) = by (bits == 0) refl is
    where
      number : (n : ℕ) → literal m c ≡ Some n → n ≡ bits
      number n lit = one_int n bits x.datum (literal_read m here c x n lit at) int

      or_none : (a : Bool) → a ≡ false → (a || false) ≡ false
      or_none false e = refl
      or_none true e = absurd (cc)

      by : (b : Bool) → (bits == 0) ≡ b → block ≡ (if b then otherwise.0 else so.0) → IsLed m held (op.Branch c so otherwise) block
      by true e goes = record {
        number = 1;
        edge = edge way.No otherwise;
        is_edge = refl;
        leads = sym goes;
        free = or_none (is_other_number m 0 c) (no_other m 0 c (λ k lit. subst (λ k. (k == 0) ≡ true) (sym (number k lit)) e));
      }
      by false e goes = record {
        number = 0;
        edge = edge way.Yes so;
        is_edge = refl;
        leads = sym goes;
        free = or_none (is_number m 0 c) (no_number m 0 c (λ k lit. subst (λ k. (k == 0) ≡ false) (sym (number k lit)) e));
      }
  led (op.Switch on other cases) block (x, bits, xs, at, are, int, is) =
      by (case_is on bits other (λ n lit. one_int bits n x.datum int (literal_read m here on x n lit at)) cases xs are)
    where
      or_none : (a : Bool) → a ≡ false → (a || false) ≡ false
      or_none false e = refl
      or_none true e = absurd (cc)

      by : CaseIs on bits other cases xs → IsLed m held (op.Switch on other cases) block
      by (inl (goes, none)) = record {
        number = 0;
        edge = edge way.Other other;
        is_edge = refl;
        leads = sym (is ∙ ap (λ (b : BlockId). b.0) goes);
        free = or_none _ (each (literal m on) (λ n e. none n e));
      }
        where
          each : (found : Option ℕ) → ((n : ℕ) → found ≡ Some n → list_any (λ (case : Case). is_number m n case.val) cases ≡ false) →
              option_map_or (λ n. list_any (λ (case : Case). is_number m n case.val) cases) found false ≡ false
          each None all = refl
          each (Some n) all = all n refl
      by (inr (k, case, at_case, goes, not_other)) = record {
        number = suc k;
        edge = case_edge case;
        is_edge = at_case;
        leads = goes ∙ sym is;
        free = or_none _ (each (literal m on) (λ n e. not_other n e));
      }
        where
          each : (found : Option ℕ) → ((n : ℕ) → found ≡ Some n → is_other_number m n case.val ≡ false) →
              option_map_or (λ n. is_other_number m n case.val) found false ≡ false
          each None all = refl
          each (Some n) all = all n refl
  led _ block is = absurd is
