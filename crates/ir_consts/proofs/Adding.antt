-- The offsets of a chain add up modulo 2 ^ 64.
use Rattle.std.proofs.Common.{◌≡◌, ℤ, pos, ◌+ℤ◌, Bool, true, false, ◌&&◌, ◌||◌, List, [], ◌∷◌, refl, ap, ◌∙◌, arith}
use Rattle.std.specs.Int.{w64, int_wrap}
use Rattle.std.proofs.lemmas.Int.{ints, int_wrap-add_left}
use Rattle.ir_module.specs.declared.op.Symbol.{Symbol}
use Rattle.ir_module.specs.declared.op.Operand.{Operand}
use Rattle.ir_module.specs.declared.op.Operand.TheVariants as operand
use Rattle.ir_consts.specs.Chains.{Link, chain, sum_of, all_inbounds, one_wraps}

and_true : (b : Bool) → b ≡ (b && true)
and_true true = refl
and_true false = refl

or_false : (b : Bool) → b ≡ (b || false)
or_false true = refl
or_false false = refl

and_assoc : (a b c : Bool) → ((a && b) && c) ≡ (a && (b && c))
and_assoc true b c = refl
and_assoc false b c = refl

or_assoc : (a b c : Bool) → ((a || b) || c) ≡ (a || (b || c))
or_assoc true b c = refl
or_assoc false b c = refl

abbrev offset_by : Symbol → ℤ → Bool → Bool → Operand
offset_by base bytes inbounds wrap = operand.Offset base (int_wrap w64 bytes) inbounds wrap

equal_offsets : (base : Symbol) (x y : ℤ) (a b c d : Bool) → int_wrap w64 x ≡ int_wrap w64 y → a ≡ b → c ≡ d → offset_by base x a c ≡ offset_by base y b d
equal_offsets base x y a b c d e f g =
    ap (λ z. operand.Offset base z a c) e ∙ ap (λ z. operand.Offset base (int_wrap w64 y) z c) f ∙ ap (λ z. operand.Offset base (int_wrap w64 y) b z) g

-- behind an offset the sum goes on
pub goes_on : (base : Symbol) (z : ℤ) (inbounds wrap : Bool) (ls : List Link) →
    chain (offset_by base z inbounds wrap) ls ≡ offset_by base (z +ℤ sum_of ls) (inbounds && all_inbounds ls) (wrap || one_wraps ls)
goes_on base z inbounds wrap [] =
    equal_offsets base z (z +ℤ pos 0) inbounds (inbounds && true) wrap (wrap || false)
    (ap (int_wrap w64) (omega (arith, ints))) (and_true inbounds) (or_false wrap)
goes_on base z inbounds wrap (l ∷ ls) =
    ap (λ o. chain o ls) (equal_offsets base (int_wrap w64 z +ℤ l.bytes) (z +ℤ l.bytes) (inbounds && l.inbounds) (inbounds && l.inbounds)
    (wrap || l.wrap) (wrap || l.wrap) (int_wrap-add_left w64 z l.bytes) refl refl)
    ∙ goes_on base (z +ℤ l.bytes) (inbounds && l.inbounds) (wrap || l.wrap) ls
    ∙ equal_offsets base ((z +ℤ l.bytes) +ℤ sum_of ls) (z +ℤ (l.bytes +ℤ sum_of ls)) ((inbounds && l.inbounds) && all_inbounds ls)
    (inbounds && (l.inbounds && all_inbounds ls)) ((wrap || l.wrap) || one_wraps ls) (wrap || (l.wrap || one_wraps ls))
    (ap (int_wrap w64) (omega (arith, ints))) (and_assoc inbounds l.inbounds (all_inbounds ls)) (or_assoc wrap l.wrap (one_wraps ls))
