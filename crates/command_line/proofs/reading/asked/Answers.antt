use Rattle.std.proofs.Common.{◌≡◌, ◌∙◌, ℕ, List, ap, sym, codes, option_map}
use Rattle.clap.specs.Words.{first_of, first_value, found_of, rows_of}
use Rattle.clap.proofs.WalkLemmas.{first_value-rows}
use Rattle.command_line.specs.Command.{number_of}
use Rattle.command_line.proofs.reading.asked.Goals as goal

pub returns-clause-asks : goal.returns-clause-asks
returns-clause-asks c =
    let found = found_of c.args.matches.now in
    let same : (id : List ℕ) → first_of id (rows_of found) ≡ first_value found id = λ id. sym (first_value-rows found id) in
    record {
      workers = ap (option_map number_of) (same (codes "workers")) ∙ c.workers.ensures.value;
      emit = same (codes "emit") ∙ c.emit.ensures;
      generate = ap (option_map number_of) (same (codes "generate")) ∙ c.generate.ensures.value;
    }
