use Rattle.facts.proofs.Bits.{function_fact_of, nonnull_fact, align_fact, bytes_fact, class_fact_of, use_fact_of}
use Rattle.facts.proofs.laws.bits_say_their_facts.Goals as goal

pub returns : goal.returns
returns c = record { functions = function_fact_of; nonnull = nonnull_fact; align = align_fact; bytes = bytes_fact; classes = class_fact_of; uses = use_fact_of }
