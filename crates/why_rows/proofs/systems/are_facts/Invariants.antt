use Rattle.std.proofs.Common.{ℕ, ◌<◌, ◌^◌, get_or}
use Rattle.lattice_words.specs.declared.word.TheConstants.{FACT_BITS}
use Rattle.why_rows.proofs.systems.are_facts.Given as goal

abbrev pub invariant-loop-word : goal.invariant-loop-word
invariant-loop-word l = (k d : ℕ) → k < l.word-index → get_or l.words k d < 2 ^ FACT_BITS
