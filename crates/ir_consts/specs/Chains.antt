-- Chains of constant getelementptrs, each the base of the next.
use Rattle.std.specs.Prelude.{Bool, true, false, ◌&&◌, ◌||◌, ℤ, List, [], ◌∷◌, map}
use Rattle.ir_module.specs.declared.op.Operand.{Operand}
use Rattle.ir_consts.specs.Offsets.{chained, total}

-- a getelementptr of a chain: its flags and the sum of its literal offsets
pub record Link : Type 0 where
  pub inbounds : Bool
  pub wrap : Bool
  pub bytes : ℤ

-- from a base, one getelementptr after the other
abbrev pub chain : Operand → List Link → Operand
chain base [] = base
chain base (l ∷ ls) = chain (chained base l.inbounds l.wrap l.bytes) ls

-- the offsets of all of them together
abbrev pub sum_of : List Link → ℤ
sum_of ls = total (map (λ l. l.bytes) ls)

-- each of them has `inbounds`
abbrev pub all_inbounds : List Link → Bool
all_inbounds [] = true
all_inbounds (l ∷ ls) = l.inbounds && all_inbounds ls

-- one of them has `nusw` or `nuw`
abbrev pub one_wraps : List Link → Bool
one_wraps [] = false
one_wraps (l ∷ ls) = l.wrap || one_wraps ls
