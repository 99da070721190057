-- What the terms that a system keeps in slots read of an input.
use Rattle.std.specs.Prelude.{◌≡◌, ℕ, ◌^◌, ◌==◌, if◌then◌else◌, bit_or, List, slice_index}
use Rattle.std.specs.List.{fold}
use Rattle.rule_terms.specs.declared.term.Term.{Term}
use Rattle.rule_terms.specs.declared.term.TermId.{TermId}
use Rattle.rule_terms.specs.Reads.{with_byte_bits}
use Rattle.rule_terms.specs.Slots.{Numbered, const, word, both, either, unless, shift, keep_align, spread, nth, slot_terms}

-- what a numbered term reads of the input of this number, where these bits are wanted of it
abbrev pub numbered_reads : ℕ → Numbered → ℕ → ℕ
numbered_reads read (const bits) wanted = 0
numbered_reads read (word number) wanted = if number == read then wanted else 0
numbered_reads read (both left right) wanted = bit_or (numbered_reads read left wanted) (numbered_reads read right wanted)
numbered_reads read (either left right) wanted = bit_or (numbered_reads read left wanted) (numbered_reads read right wanted)
numbered_reads read (unless input bit then') wanted = bit_or (if input == read then 2 ^ bit else 0) (numbered_reads read then' wanted)
numbered_reads read (shift bytes of) wanted = numbered_reads read of (with_byte_bits wanted)
numbered_reads read (keep_align step of) wanted = numbered_reads read of wanted
numbered_reads read (spread bit to of) wanted = numbered_reads read of (2 ^ bit)

-- what the terms at these places read of it
abbrev pub places_read : ℕ → List Term → ℕ → List TermId → ℕ
places_read read slots wanted places = fold (λ bits place. bit_or bits (numbered_reads read (nth (slot_terms slots) place.0) wanted)) 0 places

-- of a list of bits beside each input: what the term at this place reads of it was added
abbrev pub ReadsToo : List Term → ℕ → ℕ → List ℕ → List ℕ → Type 0
ReadsToo slots wanted place old new = (i : ℕ) → slice_index new i ≡ bit_or (slice_index old i) (numbered_reads i (nth (slot_terms slots) place) wanted)
