-- The rules by number.
use Rattle.std.specs.Prelude.{ℕ}
use Rattle.ir_verify.specs.declared.rule.Rule.{Rule}
use Rattle.ir_verify.specs.declared.rule.Rule.TheVariants as rule

-- the number by which the program names a rule
abbrev pub number : Rule → ℕ
number rule.V1 = 1
number rule.V2 = 2
number rule.V3 = 3
number rule.V4 = 4
number rule.V5 = 5
number rule.V6 = 6
number rule.V7 = 7
number rule.V8 = 8
number rule.V9 = 9
number rule.V10 = 10
number rule.V11 = 11
number rule.V12 = 12
number rule.V13 = 13
number rule.V14 = 14
number rule.V15 = 15
number rule.V16 = 16
number rule.V17 = 17
number rule.V18 = 18
number rule.V19 = 19
number rule.V20 = 20
number rule.V21 = 21
