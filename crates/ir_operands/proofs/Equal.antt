-- What `==` says of operands.
use Rattle.std.proofs.Common.{◌≡◌, ◌==◌, ◌&&◌, ◌∙◌, ℕ, Bool, true, false, Decides, refl, sym, ap}
use Rattle.std.proofs.Math.Bool.{beq}
use Rattle.std.proofs.lemmas.Bool.{true≢false}
use Rattle.std.proofs.lemmas.Bool.Decides.{Decides-eqb, Decides-int_eq}
use Rattle.ir_module.specs.declared.op.Operand.{Operand}
use Rattle.ir_module.specs.declared.op.Operand.TheVariants as operand
use Rattle.ir_module.specs.declared.op.Symbol.{Symbol}
use Rattle.ir_module.specs.declared.op.Symbol.TheVariants as symbol
use Rattle.ir_module.specs.declared.op.Shape.{Shape}
use Rattle.ir_module.specs.declared.op.Shape.TheVariants as shape
use Rattle.ir_module.specs.contracts.op.OperandPartialEq.TheImpl.{ghosts as of_operands}
use Rattle.ir_module.specs.contracts.op.SymbolPartialEq.TheImpl.{ghosts as of_symbols}
use Rattle.ir_module.specs.contracts.op.ShapePartialEq.TheImpl.{ghosts as of_shapes}

both : {P Q : Type 0} → (a b : Bool) → Decides a P → Decides b Q → Decides (a && b) (P × Q)
both true b p q = (λ e. (p.0 refl, q.0 e), λ h. q.1 h.1)
both false b p q = (λ e. absurd (true≢false (sym e)), λ h. absurd (true≢false (sym (p.1 h.0))))

turned : {P Q : Type 0} → (a : Bool) → (P → Q) → (Q → P) → Decides a P → Decides a Q
turned a f g d = (λ e. f (d.0 e), λ q. d.1 (g q))

of_bools : (a b : Bool) → Decides (beq a b) (a ≡ b)
of_bools true true = (λ e. refl, λ e. refl)
of_bools false false = (λ e. refl, λ e. refl)
of_bools true false = (λ e. absurd (true≢false (sym e)), λ e. absurd (true≢false e))
of_bools false true = (λ e. absurd (true≢false (sym e)), λ e. absurd (true≢false (sym e)))

apart : {P : Type 0} → (P → ⊥) → Decides false P
apart n = (λ e. absurd (true≢false (sym e)), λ p. absurd (n p))

shapes : (a b : Shape) → Decides (of_shapes.eq a b) (a ≡ b)
shapes shape.Array shape.Array = (λ e. refl, λ e. refl)
shapes shape.Struct shape.Struct = (λ e. refl, λ e. refl)
shapes shape.Packed shape.Packed = (λ e. refl, λ e. refl)
shapes shape.Bytes shape.Bytes = (λ e. refl, λ e. refl)
shapes a b = (λ e. absurd (true≢false (sym e)), λ e. let n : ⊥ = cc in absurd n)

symbols : (a b : Symbol) → Decides (of_symbols.eq a b) (a ≡ b)
symbols (symbol.Global g) (symbol.Global h) = turned (g.0 == h.0) (λ e. ap (λ (n : ℕ). symbol.Global (record { 0 = n })) e) (λ e. cc) (Decides-eqb g.0 h.0)
symbols (symbol.Func g) (symbol.Func h) = turned (g.0 == h.0) (λ e. ap (λ (n : ℕ). symbol.Func (record { 0 = n })) e) (λ e. cc) (Decides-eqb g.0 h.0)
symbols a b = (λ e. absurd (true≢false (sym e)), λ e. let n : ⊥ = cc in absurd n)

-- two operands are equal exactly where `==` answers true
pub operands_equal : (a b : Operand) → Decides (of_operands.eq a b) (a ≡ b)
operands_equal (operand.Value v) (operand.Value w) =
    turned (v.0 == w.0) (λ e. ap (λ (n : ℕ). operand.Value (record { 0 = n })) e) (λ e. cc) (Decides-eqb v.0 w.0)
operands_equal (operand.Int b f) (operand.Int n g) =
    turned _ (λ h. let p : b ≡ n = h.0 in let q : f ≡ g = h.1 in cc) (λ e. (cc, cc)) (both _ _ (Decides-eqb b n) (of_bools f g))
operands_equal (operand.Truth f) (operand.Truth g) = turned _ (λ e. ap operand.Truth e) (λ e. cc) (of_bools f g)
operands_equal operand.Zero operand.Zero = (λ e. refl, λ e. refl)
operands_equal operand.Null operand.Null = (λ e. refl, λ e. refl)
operands_equal operand.Undef operand.Undef = (λ e. refl, λ e. refl)
operands_equal operand.Poison operand.Poison = (λ e. refl, λ e. refl)
operands_equal (operand.Global v) (operand.Global w) =
    turned (v.0 == w.0) (λ e. ap (λ (n : ℕ). operand.Global (record { 0 = n })) e) (λ e. cc) (Decides-eqb v.0 w.0)
operands_equal (operand.Func v) (operand.Func w) = turned (v.0 == w.0) (λ e. ap (λ (n : ℕ). operand.Func (record { 0 = n })) e) (λ e. cc) (Decides-eqb v.0 w.0)
operands_equal (operand.Offset s b i w) (operand.Offset t c j x) =
    turned _ (λ h. let p : s ≡ t = h.0 in let q : b ≡ c = h.1.0 in let r : i ≡ j = h.1.1.0 in let u : w ≡ x = h.1.1.1 in cc) (λ e. (cc, (cc, (cc, cc))))
    (both _ _ (symbols s t) (both _ _ (Decides-int_eq b c) (both _ _ (of_bools i j) (of_bools w x))))
operands_equal (operand.WrongOffset r) (operand.WrongOffset s) = turned _ (λ e. ap operand.WrongOffset e) (λ e. cc) (Decides-eqb r s)
operands_equal (operand.Parts s b c) (operand.Parts t d f) =
    turned _ (λ h. let p : s ≡ t = h.0 in let q : b ≡ d = h.1.0 in let r : c ≡ f = h.1.1 in cc) (λ e. (cc, (cc, cc)))
    (both _ _ (shapes s t) (both _ _ (Decides-eqb b d) (Decides-eqb c f)))
operands_equal (operand.AnyInt b c) (operand.AnyInt d f) =
    turned _ (λ h. let q : b ≡ d = h.0 in let r : c ≡ f = h.1 in cc) (λ e. (cc, cc)) (both _ _ (Decides-eqb b d) (Decides-eqb c f))
operands_equal a b = (λ e. absurd (true≢false (sym e)), λ e. let n : ⊥ = cc in absurd n)

-- so do two forms, read as they are
pub forms_equal : (a b x y : Operand) (r : Bool) → x ≡ a → y ≡ b → r ≡ of_operands.eq x y → (r ≡ true → a ≡ b) × (a ≡ b → r ≡ true)
forms_equal a b x y r p q e = (
  λ t. sym p ∙ (operands_equal x y).0 (sym e ∙ t) ∙ q,
  λ same. e ∙ (operands_equal x y).1 (p ∙ same ∙ sym q),
)
