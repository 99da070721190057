use Rattle.rule_terms.proofs.reads.+note_reads.Given as goal

abbrev pub decreases-note_reads : goal.decreases-note_reads
decreases-note_reads l = l.place.0
