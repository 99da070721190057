-- The words of the program's command: what they ask for, and where they are refused.
use Rattle.std.specs.Prelude.{◌≡◌, ◌≢◌, ◌⊎◌, ◌≤◌, ℕ, List, [], ◌∷◌, Some, map, option_map, codes}
use Rattle.std.specs.Borrow.{Bor}
use Rattle.std.specs.Str.Parse.{digits_value, without_leading_plus}
use Rattle.clap.specs.Words.{App, IsUnsignedIn, Row, Rule, fault_of, first_of, first_value, matches_of, new_app, new_rule, with_rule}
use Rattle.clap.specs.declared.builder.action.ArgAction.TheVariants.{Set}
use Rattle.clap.specs.declared.builder.value_parser.ValueParser.{ValueParser}
use Rattle.clap.specs.declared.builder.value_parser.ValueParser.TheVariants as parser
use Rattle.clap.specs.declared.parser.matches.Found.{Found}
use Rattle.command_line.specs.declared.asked.Asked.{Asked}
use Rattle.command_line.specs.declared.asked.Emit.{Emit}
use Rattle.command_line.specs.declared.asked.Emit.TheVariants as emit

-- ---- the written command

-- texts, as the program lends them to the parser; where they lie changes no answer (the laws of src/laws.rt)
abbrev pub Names : Type 0
Names = Bor (List (Bor (List ℕ)))

-- an option `--NAME` that takes one value by this parser, and has these values where it is not written
abbrev pub option_rule : List ℕ → ValueParser → List (List ℕ) → Rule
option_rule name values defaults = record (new_rule name) {
  long = Some name;
  action = Some Set;
  parser = Some values;
  defaults = defaults;
}

abbrev pub workers_rule : Rule
workers_rule = option_rule (codes "workers") (parser.Unsigned 1 16) (codes "4" ∷ [])

abbrev pub emit_rule : Names → Rule
emit_rule names = option_rule (codes "emit") (parser.Names names) (codes "module" ∷ [])

abbrev pub generate_rule : Rule
generate_rule = option_rule (codes "generate") (parser.Unsigned 1 4000) []

-- the command `attrib`: three options, no positional and no subcommand
abbrev pub written : Names → App
written names = with_rule (with_rule (with_rule (new_app (codes "attrib")) workers_rule) (emit_rule names)) generate_rule

-- the words of `--emit`
abbrev pub emit_word : Emit → List ℕ
emit_word emit.Module = codes "module"
emit_word emit.List = codes "list"
emit_word emit.Summary = codes "summary"

abbrev pub AreEmitWords : Names → Type 0
AreEmitWords names = map (λ name. name.now) names.now ≡ codes "module" ∷ codes "list" ∷ codes "summary" ∷ []

-- the words with the command's name in front, as the parser takes them
abbrev pub line : List (List ℕ) → List (List ℕ)
line words = codes "attrib" ∷ words

-- the line for words that are no command
abbrev pub usage_line : List ℕ
usage_line = codes "usage: attrib [--workers N] [--emit module|list|summary] [--generate N]\n"

-- ---- what is asked

-- the number that a text writes in decimal digits, where a plus may stand first
abbrev pub number_of : List ℕ → ℕ
number_of text = digits_value 10 (without_leading_plus text)

-- each option's first value says what is asked of it; an option without a default may have none
pub record Asks (rows : List Row) (asked : Asked) : Type 0 where
  pub workers : option_map number_of (first_of (codes "workers") rows) ≡ Some asked.workers
  pub emit : first_of (codes "emit") rows ≡ Some (emit_word asked.emit)
  pub generate : option_map number_of (first_of (codes "generate") rows) ≡ asked.generate

-- the numbers lie in their bounds
pub record InBounds (asked : Asked) : Type 0 where
  pub some_worker : 1 ≤ asked.workers
  pub most_workers : asked.workers ≤ 16
  pub some_function : (count : ℕ) → asked.generate ≡ Some count → 1 ≤ count
  pub most_functions : (count : ℕ) → asked.generate ≡ Some count → count ≤ 4000

-- clap's definition of the written command takes the words, and their matches ask for this
abbrev pub IsAsked : List (List ℕ) → Asked → Type 0
IsAsked words asked = (names : Names) × AreEmitWords names × (fault_of (written names) (line words) ≡ [])
    × Asks (matches_of (written names) (line words)) asked

-- clap's definition of the written command refuses the words
abbrev pub IsRefused : List (List ℕ) → Type 0
IsRefused words = (names : Names) × AreEmitWords names × (fault_of (written names) (line words) ≢ [])

-- ---- what a parse found

abbrev pub IsEmitWord : List ℕ → Type 0
IsEmitWord word = (word ≡ codes "module") ⊎ ((word ≡ codes "list") ⊎ (word ≡ codes "summary"))

-- the options with a default have a value, and each value is one that its option takes
pub record HasValues (found : Found) : Type 0 where
  pub workers : (text : List ℕ) × (first_value found (codes "workers") ≡ Some text) × IsUnsignedIn 1 16 text
  pub emit : (text : List ℕ) × (first_value found (codes "emit") ≡ Some text) × IsEmitWord text
  pub generate : (text : List ℕ) → first_value found (codes "generate") ≡ Some text → IsUnsignedIn 1 4000 text
