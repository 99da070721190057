-- Indices, read one after the other.
use Rattle.std.proofs.Common.{◌≡◌, ◌+◌, ◌<◌, ◌≤◌, ◌∙◌, ℕ, zero, suc, List, [], ◌∷◌, ◌-◌, ◌↔◌, length, take, drop, get_or, IsTrue, Bool, Option, Some}
use Rattle.std.proofs.Common.{arith, ap, subst, refl, sym, add-one, drop-cons}
use Rattle.std.specs.Option.{option_and_then}
use Rattle.attr_ids.specs.declared.ids.TypeId.{TypeId}
use Rattle.ir_types.specs.declared.ir_type.IrType.{IrType}
use Rattle.ir_module.specs.declared.op.Written.{Written}
use Rattle.ir_operands.specs.Types.{type_of}
use Rattle.ir_module.specs.WellFormed.{Each}
use Rattle.ir_operands.specs.declared.rule.ConstantRule.{ConstantRule}
use Rattle.ir_operands.specs.Constants.{Keeps}
use Rattle.ir_operands.specs.Offsets.{entered, entered_by, literal_of, DemandsOffset, KeepsOffset}

-- the next of the indices leads on
pub one_step : (types : List IrType) (t : TypeId) (ws : List Written) (i : ℕ) (d : Written) (o : Option TypeId) → i < length ws
    → o ≡ entered (type_of types t) (literal_of types (get_or ws i d))
    → entered_by types t (drop i ws) ≡ option_and_then (λ u. entered_by types u (drop (i + 1) ws)) o
one_step types t ws i d o l e =
    let split : drop i ws ≡ get_or ws i d ∷ drop (i + 1) ws = rw (add-one, drop-cons ws i d) in
    ap (entered_by types t) split ∙ ap (option_and_then (λ u. entered_by types u (drop (i + 1) ws))) (sym e)

-- past the end no index is left
pub none_left : (types : List IrType) (t : TypeId) (ws : List Written) (i : ℕ) → length ws ≤ i → entered_by types t (drop i ws) ≡ Some t
none_left types t [] zero l = refl
none_left types t [] (suc i) l = refl
none_left types t (w ∷ ws) zero l = absurd (omega (arith, l))
none_left types t (w ∷ ws) (suc i) l = none_left types t ws i (omega (arith, l))

-- a list that is not empty, by its first element and the others
pub headed : {X : Type 0} → (xs : List X) (d : X) → 0 < length xs → xs ≡ get_or xs 0 d ∷ drop 1 xs
headed [] d l = absurd (omega (arith, l))
headed (x ∷ xs) d l = refl

take_all : {X : Type 0} → (xs : List X) (n : ℕ) → n ≡ length xs → take n xs ≡ xs
take_all [] zero e = refl
take_all [] (suc n) e = absurd (omega (arith, e))
take_all (x ∷ xs) zero e = absurd (omega (arith, e))
take_all (x ∷ xs) (suc n) e = ap (λ ys. x ∷ ys) (take_all xs n (omega (arith, e)))

-- a getelementptr that meets what is demanded of it keeps a rule where its operands do
pub offset_told : (types : List IrType) (numbers : List ℕ) (parts : List Written) (r : ConstantRule) (elem : TypeId) (ops : List Written) (d : Written)
    (b : Bool)
    → 0 < length ops → DemandsOffset types r elem (get_or ops 0 d) (take (length ops - 1) (drop 1 ops))
    → IsTrue b ↔ Each ops (λ k w. Keeps types numbers parts r w) → IsTrue b ↔ KeepsOffset types numbers parts r elem ops
offset_told types numbers parts r elem [] d b l h each = absurd (omega (arith, l))
offset_told types numbers parts r elem (base ∷ indices) d b l h each =
    let all : take (length (base ∷ indices) - 1) indices ≡ indices = take_all indices (length (base ∷ indices) - 1) (omega arith) in
    let demanded : DemandsOffset types r elem base indices = subst (λ ws. DemandsOffset types r elem base ws) all h in
    (λ t. (demanded, each.0 t), λ e. each.1 e.1)

-- what one keeps meets what is demanded of it
pub offset_demanded : (types : List IrType) (numbers : List ℕ) (parts : List Written) (r : ConstantRule) (elem : TypeId) (ops : List Written) (d : Written)
    → KeepsOffset types numbers parts r elem ops → DemandsOffset types r elem (get_or ops 0 d) (take (length ops - 1) (drop 1 ops))
offset_demanded types numbers parts r elem [] d h = absurd h
offset_demanded types numbers parts r elem (base ∷ indices) d h =
    let all : take (length (base ∷ indices) - 1) indices ≡ indices = take_all indices (length (base ∷ indices) - 1) (omega arith) in
    subst (λ ws. DemandsOffset types r elem base ws) (sym all) h.0
