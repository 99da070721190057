-- The written command takes and refuses the same words, wherever its words of `--emit` lie.
use Rattle.std.proofs.Common.{◌≡◌, ◌∙◌, ◌&&◌, ap, ap₂, ℕ, Bool, true, false, List, [], ◌∷◌, map, Option, Some, None, refl, sym, subst, codes}
use Rattle.std.specs.Prelude.{if◌then◌else◌, drop, is_some, option_map, unwrap_or}
use Rattle.std.specs.List.{list_any}
use Rattle.std.specs.Str.{bytes_eq}
use Rattle.std.specs.Borrow.{Bor}
use Rattle.std.proofs.lemmas.Slice.Eq.{bytes_eq-Decides}
use Rattle.clap.specs.declared.builder.value_parser.ValueParser.{ValueParser}
use Rattle.clap.specs.declared.builder.value_parser.ValueParser.TheVariants as parser
use Rattle.clap.specs.declared.error.kind.ErrorKind.TheVariants as kind
use Rattle.clap.specs.Facts.{parser_of_value}
use Rattle.clap.specs.Faults.{entered_fault, fault_of, level_fault}
use Rattle.clap.specs.Kinds.{Kinds, value_kinds}
use Rattle.clap.specs.Simple.{Shape, built, entered, matches_of}
use Rattle.clap.specs.Values.{reading_of, same_text}
use Rattle.clap.specs.Walk.{Row, Text, Walk, finished, nothing_held, rows_after, walk}
use Rattle.clap.proofs.WalkLemmas.{both}
use Rattle.command_line.specs.declared.asked.Asked.{Asked}
use Rattle.command_line.specs.declared.asked.CommandRefusal.{CommandRefusal}
use Rattle.command_line.specs.declared.asked.CommandRefusal.TheVariants as refusal
use Rattle.command_line.specs.declared.asked.Emit.{Emit}
use Rattle.command_line.specs.declared.asked.Emit.TheVariants as emit
use Rattle.command_line.specs.Command.{AreEmitWords, Asks, IsAsked, IsRefused, Names, emit_word, line, written}
use Rattle.command_line.proofs.Options.{any_mapped, three_of}
use Rattle.command_line.proofs.Swaps.{Swap, all_swapped, finished_same, walk_same}
use Rattle.command_line.proofs.SwapFaults.{level_same, shape_swapped}

-- ---- the swap of one place of the words for another

abbrev are_words : List (Bor (List ℕ)) → Bool
are_words (a ∷ b ∷ c ∷ []) = bytes_eq a.now (codes "module") && (bytes_eq b.now (codes "list") && bytes_eq c.now (codes "summary"))
are_words _ = false

words_are : (names : Names) → are_words names.now ≡ true → AreEmitWords names
words_are names e = go names.now e
  where
    go : (xs : List (Bor (List ℕ))) → are_words xs ≡ true → map (λ name. name.now) xs ≡ codes "module" ∷ codes "list" ∷ codes "summary" ∷ []
    go [] e = cc
    go (a ∷ []) e = cc
    go (a ∷ b ∷ []) e = cc
    go (a ∷ b ∷ c ∷ d ∷ ds) e = cc
    go (a ∷ b ∷ c ∷ []) e =
        let first = both _ _ e in
        let second = both _ _ first.1 in
        ap₂ (λ (x : List ℕ) (xs : List (List ℕ)). x ∷ xs) ((bytes_eq-Decides _ _).0 first.0)
        (ap₂ (λ (x : List ℕ) (xs : List (List ℕ)). x ∷ xs) ((bytes_eq-Decides _ _).0 second.0)
        (ap (λ (x : List ℕ). x ∷ []) ((bytes_eq-Decides _ _).0 second.1)))

words_pass : (names : Names) → AreEmitWords names → are_words names.now ≡ true
words_pass names words =
    let three = three_of (λ (name : Bor (List ℕ)). name.now) names.now _ _ _ words in
    rw (three.1.1.1.0, three.1.1.1.1, three.1.1.1.2, three.1.1.1.3) refl

abbrev other_parser : Names → ValueParser → ValueParser
other_parser n (parser.Names m) = parser.Names (if are_words m.now then n else m)
other_parser n p = p

abbrev other_parsers : Names → Option ValueParser → Option ValueParser
other_parsers n = option_map (other_parser n)

-- the same words refuse the same
words_take : (n m : Names) (ic : Bool) (t : Text) → map (λ name. name.now) n.now ≡ map (λ name. name.now) m.now
    → value_kinds ic (parser.Names n) t ≡ value_kinds ic (parser.Names m) t
words_take n m ic t same =
    ap (λ (b : Bool). if b then [] else kind.InvalidValue ∷ [])
    (any_mapped (λ name. same_text ic name t) n.now ∙ (ap (list_any (λ name. same_text ic name t)) same ∙ sym (any_mapped (λ name. same_text ic name t) m.now)))

other_takes : (n : Names) → AreEmitWords n → (ic : Bool) (o : Option ValueParser) (t : Text)
    → value_kinds ic (parser_of_value (other_parsers n o)) t ≡ value_kinds ic (parser_of_value o) t
other_takes n words ic None t = refl
other_takes n words ic (Some p) t = go p
  where
    go : (p : ValueParser) → value_kinds ic (other_parser n p) t ≡ value_kinds ic p t
    go parser.String = refl
    go parser.NonEmptyString = refl
    go parser.Bool = refl
    go parser.Boolish = refl
    go parser.Falsey = refl
    go (parser.Signed low high) = refl
    go (parser.Unsigned low high) = refl
    go parser.Float = refl
    go parser.Char = refl
    go (parser.Values values) = refl
    go (parser.Names m) = chosen (are_words m.now) refl
      where
        chosen : (b : Bool) → are_words m.now ≡ b → value_kinds ic (parser.Names (if b then n else m)) t ≡ value_kinds ic (parser.Names m) t
        chosen true e = words_take n m ic t (words ∙ sym (words_are m e))
        chosen false e = refl

other_reads : (n : Names) (o : Option ValueParser) → reading_of (parser_of_value (other_parsers n o)) ≡ reading_of (parser_of_value o)
other_reads n None = refl
other_reads n (Some p) = go p
  where
    go : (p : ValueParser) → reading_of (other_parser n p) ≡ reading_of p
    go parser.String = refl
    go parser.NonEmptyString = refl
    go parser.Bool = refl
    go parser.Boolish = refl
    go parser.Falsey = refl
    go (parser.Signed low high) = refl
    go (parser.Unsigned low high) = refl
    go parser.Float = refl
    go parser.Char = refl
    go (parser.Values values) = refl
    go (parser.Names m) = refl

abbrev to_words : (n : Names) → AreEmitWords n → Swap
to_words n words = record { by = other_parsers n; takes = other_takes n words; reads = other_reads n }

-- ---- the command with the words in another place

abbrev top_of : Names → Shape
top_of n = (built (written n)).top

top_same : (n m : Names) (words : AreEmitWords n) → AreEmitWords m → top_of n ≡ shape_swapped (to_words n words) (top_of m)
top_same n m words others = sym (ap (λ (b : Bool). top_of (if b then n else m)) (words_pass m others))

-- a command with no subcommand enters none
none_entered : (top : Shape) (o : Option (Text × List Text)) → (is_some (entered (record { top = top; subs = [] }) o) ≡ false)
    × (entered_fault (record { top = top; subs = [] }) o ≡ [])
none_entered top None = (refl, refl)
none_entered top (Some p) = (refl, refl)

fault_at : (n : Names) (words : List Text) → fault_of (written n) words ≡ level_fault (top_of n) [] nothing_held (drop 1 words) false []
fault_at n words =
    let none = none_entered (top_of n) (walk (top_of n).rules [] nothing_held (drop 1 words)).stopped in
    ap₂ (λ (b : Bool) (below : Kinds). level_fault (top_of n) [] nothing_held (drop 1 words) b below) none.0 none.1

-- it refuses the same words
pub fault_same : (n m : Names) → AreEmitWords n → AreEmitWords m → (words : List Text) → fault_of (written n) words ≡ fault_of (written m) words
fault_same n m here there words =
    fault_at n words ∙ (ap (λ (top : Shape). level_fault top [] nothing_held (drop 1 words) false []) (top_same n m here there)
    ∙ (level_same (to_words n here) (top_of m) [] nothing_held (drop 1 words) false [] ∙ sym (fault_at m words)))

-- and its matches are the same
pub matches_same : (n m : Names) → AreEmitWords n → AreEmitWords m → (words : List Text) → matches_of (written n) words ≡ matches_of (written m) words
matches_same n m here there words =
    let s = to_words n here in
    let c = (top_of m).rules in
    ap (λ (top : Shape). rows_after top.rules [] (drop 1 words)) (top_same n m here there)
    ∙ (ap (λ (w : Walk). finished (all_swapped s c) w.held) (walk_same s c [] nothing_held (drop 1 words))
    ∙ finished_same s c (walk c [] nothing_held (drop 1 words)).held)

-- ---- what is asked

one_word : (e f : Emit) → Some (emit_word e) ≡ Some (emit_word f) → e ≡ f
one_word emit.Module emit.Module same = refl
one_word emit.Module emit.List same = cc
one_word emit.Module emit.Summary same = cc
one_word emit.List emit.Module same = cc
one_word emit.List emit.List same = refl
one_word emit.List emit.Summary same = cc
one_word emit.Summary emit.Module same = cc
one_word emit.Summary emit.List same = cc
one_word emit.Summary emit.Summary same = refl

-- the first values say one thing
one_asked : (rows : List Row) (a b : Asked) → Asks rows a → Asks rows b → a ≡ b
one_asked rows a b first second =
    let workers : a.workers ≡ b.workers = ap (λ (o : Option ℕ). unwrap_or o a.workers) (sym first.workers ∙ second.workers) in
    let emit : a.emit ≡ b.emit = one_word a.emit b.emit (sym first.emit ∙ second.emit) in
    let generate : a.generate ≡ b.generate = sym first.generate ∙ second.generate in
    ap₂ (λ (w : ℕ) (r : Emit × Option ℕ). record { workers = w; emit = r.0; generate = r.1 }) workers
    (ap₂ (λ (e : Emit) (g : Option ℕ). (e, g)) emit generate)

-- a command asks for one thing
pub asks_one : (words : List (List ℕ)) (a b : Asked) → IsAsked words a → IsAsked words b → a ≡ b
asks_one words a b first second =
    one_asked (matches_of (written second.0) (line words)) a b
    (subst (λ (rows : List Row). Asks rows a) (matches_same first.0 second.0 first.1 second.1 (line words)) first.3) second.3

-- a command that asks for something is not refused
pub not_refused : (words : List (List ℕ)) (a : Asked) → IsAsked words a → IsRefused words → ⊥
not_refused words a asked refused = refused.2 (fault_same refused.0 asked.0 refused.1 asked.1 (line words) ∙ asked.2)

-- words that ask for something are refused for want of memory alone
pub only_memory : (words : List (List ℕ)) (r : CommandRefusal) (a : Asked) → (r ≡ refusal.Usage → IsRefused words) → IsAsked words a
    → r ≡ refusal.NoMemory
only_memory words refusal.Usage a refused asked = absurd (not_refused words a asked (refused refl))
only_memory words refusal.NoMemory a refused asked = refl
