-- What the words of operations stand for.
use Rattle.std.specs.Prelude.{List, [], ◌∷◌, ℕ, map, if◌then◌else◌}
use Rattle.std.specs.Borrow.{Bor}
use Rattle.std.specs.Str.{bytes_eq}
use Rattle.ir_ops.specs.declared.binary.BinOp.{BinOp}
use Rattle.ir_ops.specs.declared.binary.BinOp.TheVariants.{SRem}
use Rattle.ir_ops.specs.declared.predicate.Pred.{Pred}
use Rattle.ir_ops.specs.declared.predicate.Pred.TheVariants.{Sle}
use Rattle.ir_ops.specs.declared.conversion.CastOp.{CastOp}
use Rattle.ir_ops.specs.declared.conversion.CastOp.TheVariants.{PtrToInt}
use Rattle.ir_instrs.specs.declared.words.TheConstants.{BIN_WORDS, PRED_WORDS, CAST_WORDS}

-- a word as a table has it
abbrev pub entries : {T : Type 0} → List (Bor (List ℕ) × T) → List (List ℕ × T)
entries rows = map (λ x. (x.0.now, x.1)) rows

-- what a table has for a word, and else the other thing
abbrev pub found : {T : Type 0} → T → List (List ℕ × T) → List ℕ → T
found other [] word = other
found other (x ∷ rows) word = if bytes_eq x.0 word then x.1 else found other rows word

abbrev pub bin_op : List ℕ → BinOp
bin_op word = found SRem (map (λ x. (x.0.now, x.1)) BIN_WORDS.now) word

abbrev pub pred : List ℕ → Pred
pred word = found Sle (map (λ x. (x.0.now, x.1)) PRED_WORDS.now) word

abbrev pub cast_op : List ℕ → CastOp
cast_op word = found PtrToInt (map (λ x. (x.0.now, x.1)) CAST_WORDS.now) word
