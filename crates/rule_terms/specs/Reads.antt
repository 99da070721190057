-- Which bits of an input a term reads.
use Rattle.std.specs.Prelude.{◌≡◌, ℕ, ◌^◌, ◌<◌, ◌==◌, if◌then◌else◌, bit_and, bit_or, slice_index}
use Rattle.std.specs.List.{fold}
use Rattle.std.specs.Int.{bit_at}
use Rattle.lattice_words.specs.declared.value.TheConstants.{ALL_BYTES}
use Rattle.rule_terms.specs.declared.term.NewTerm.{NewTerm}
use Rattle.rule_terms.specs.declared.term.NewTerm.TheOpen.{NewTerm-F}
use Rattle.rule_terms.specs.declared.term.NewTerm.TheOpen.NewTerm-F.{Const, Word, And, Or, Unless, Shift, KeepAlign, Spread}
use Rattle.rule_terms.specs.declared.term.NewTerm.TheFolds.{fold-NewTerm}
use Rattle.rule_terms.specs.Slots.{input_at}
use Rattle.rule_terms.specs.System.{System, terms_at, inputs_of}

-- the wanted bits, with all rungs of bytes if one of them is wanted
abbrev pub with_byte_bits : ℕ → ℕ
with_byte_bits wanted = if bit_and wanted ALL_BYTES == 0 then wanted else bit_or wanted ALL_BYTES

-- what a term reads of the position q, as a function of the bits that are wanted of it, once each part has given that
abbrev pub layer_reads : ℕ → NewTerm-F (ℕ → ℕ) → ℕ → ℕ
layer_reads q (Const bits) wanted = 0
layer_reads q (Word p) wanted = if p.0 == q then wanted else 0
layer_reads q (And left right) wanted = bit_or (left wanted) (right wanted)
layer_reads q (Or left right) wanted = bit_or (left wanted) (right wanted)
layer_reads q (Unless input bit then') wanted = bit_or (if input.0 == q then 2 ^ bit else 0) (then' wanted)
layer_reads q (Shift bytes of) wanted = of (with_byte_bits wanted)
layer_reads q (KeepAlign step of) wanted = of wanted
layer_reads q (Spread bit to of) wanted = of (2 ^ bit)

abbrev pub reads_of : ℕ → NewTerm → ℕ → ℕ
reads_of q = fold-NewTerm (ℕ → ℕ) (layer_reads q)

-- what the terms of the position p read of the position q, where the bits of p's mask are wanted
abbrev pub reads_by : System → ℕ → ℕ → ℕ
reads_by s p q = fold (λ bits term. bit_or bits (reads_of q term (slice_index s.masks p))) 0 (terms_at s p)

-- what they read of the input of this number
abbrev pub reads_at : System → ℕ → ℕ → ℕ
reads_at s p number = reads_by s p (input_at (inputs_of s p) number).0

-- two words have the same of these bits
abbrev pub AgreeOn : ℕ → ℕ → ℕ → Type 0
AgreeOn bits a b = (i : ℕ) → i < 64 → bit_at bits i ≡ 1 → bit_at a i ≡ bit_at b i
