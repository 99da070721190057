-- Where a command refuses words hangs on what its arguments' parsers refuse, and not on the parsers themselves.
use Rattle.std.proofs.Common.{◌≡◌, ◌∙◌, ◌+◌, ◌&&◌, ◌||◌, ap, ap₂, ℕ, Bool, zero, suc, not, List, [], ◌∷◌, length, drop, is_some, option_map}
use Rattle.std.proofs.Common.{Option, Some, None, refl, sym}
use Rattle.std.specs.List.{list_any}
use Rattle.std.specs.Prelude.{encode_utf8, min, slice_get}
use Rattle.std.specs.Option.{option_map_or}
use Rattle.std.specs.Str.{bytes_eq, chars}
use Rattle.clap.specs.declared.builder.action.ArgAction.{ArgAction}
use Rattle.clap.specs.declared.builder.action.ArgAction.TheVariants.{Append, Count, Help, HelpLong, HelpShort, Set, SetFalse, SetTrue, Version}
use Rattle.clap.specs.declared.builder.value_parser.ValueParser.{ValueParser}
use Rattle.clap.specs.Facts.{explicit_source, parser_of_value, unwrap_or_range}
use Rattle.clap.specs.Faults.{action_fault, bundle_fault, bundle_step_fault, check_fault, default_fault, defaults_fault, flag_word_fault, flags_fault}
use Rattle.clap.specs.Faults.{level_fault, long_fault, option_fault, other_fault, positional_fault, react_fault, repeat_fault}
use Rattle.clap.specs.Faults.{settle_fault, short_fault, step_fault, stray_fault, turn_fault, use_fault, walk_fault, word_fault}
use Rattle.clap.specs.Kinds.{Kinds, check_kinds, or_else, range_kinds, request_kinds, values_kinds}
use Rattle.clap.specs.Lexer.{long_of, short_of}
use Rattle.clap.specs.Matches.{count_text}
use Rattle.clap.specs.Simple.{Shape}
use Rattle.clap.specs.Takes.{is_given}
use Rattle.clap.specs.Walk.{Held, Names, Row, Rule, Step, Text, Waiting, Walk, action_of, arg_by_id, arg_by_index, arg_by_long, arg_by_short}
use Rattle.clap.specs.Walk.{attached_value, count_of, finished, has_row, is_empty, is_pending, most_values, next, reacted, settled, subcommand}
use Rattle.clap.specs.Walk.{subcommand_met, takes_several, takes_values, trailing, value, values_or_missing, walk, walk_from, walked, with_default, word_met}
use Rattle.clap.proofs.WalkLemmas.{list_any-map}
use Rattle.command_line.proofs.Swaps.{Swap, all_swapped, by_id_same, by_index_same, by_long_same, by_short_same, finished_same, if_same, reacted_same}
use Rattle.command_line.proofs.Swaps.{settled_same, swapped, walk_same, walked_same, with_default_same, word_met_same}

-- the command with its parsers swapped
abbrev pub shape_swapped : Swap → Shape → Shape
shape_swapped s top = record top { rules = all_swapped s top.rules }

-- ---- one use of an argument

values_same : (s : Swap) (ic : Bool) (o : Option ValueParser) (vs : List Text)
    → values_kinds ic (parser_of_value (s.by o)) vs ≡ values_kinds ic (parser_of_value o) vs
values_same s ic o [] = refl
values_same s ic o (v ∷ vs) = ap₂ or_else (s.takes ic o v) (values_same s ic o vs)

set_same : (s : Swap) (again : Bool) (a : Rule) (vs : List Text) (rows : List Row)
    → or_else (repeat_fault again a.id rows) (values_kinds a.ignore_case (parser_of_value (s.by a.parser)) vs)
    ≡ or_else (repeat_fault again a.id rows) (values_kinds a.ignore_case (parser_of_value a.parser) vs)
set_same s again a vs rows = ap (or_else (repeat_fault again a.id rows)) (values_same s a.ignore_case a.parser vs)

action_same : (s : Swap) (x : ArgAction) (again : Bool) (a : Rule) (vs : List Text) (rows : List Row)
    → action_fault x again (swapped s a) vs rows ≡ action_fault x again a vs rows
action_same s Set again a vs rows = set_same s again a vs rows
action_same s SetTrue again a vs rows = set_same s again a vs rows
action_same s SetFalse again a vs rows = set_same s again a vs rows
action_same s Append again a vs rows = values_same s a.ignore_case a.parser vs
action_same s Count again a [] rows = s.takes a.ignore_case a.parser (count_text (min (count_of a.id rows + 1) 255))
action_same s Count again a (v ∷ vs) rows = values_same s a.ignore_case a.parser (v ∷ vs)
action_same s Help again a vs rows = refl
action_same s HelpShort again a vs rows = refl
action_same s HelpLong again a vs rows = refl
action_same s Version again a vs rows = refl

use_same : (s : Swap) (again : Bool) (a : Rule) (vs : List Text) (rows : List Row) → use_fault again (swapped s a) vs rows ≡ use_fault again a vs rows
use_same s again a vs rows =
    ap (or_else (range_kinds (unwrap_or_range a.range).start_inclusive (most_values a) (length vs)))
    (action_same s (action_of a) again a (values_or_missing a vs) rows)

-- ---- a flag word

use_by_same : (s : Swap) (again : Bool) (o : Option Rule) (vs : List Text) (rows : List Row)
    → option_map_or (λ a. use_fault again a vs rows) (option_map (swapped s) o) [] ≡ option_map_or (λ a. use_fault again a vs rows) o []
use_by_same s again None vs rows = refl
use_by_same s again (Some a) vs rows = use_same s again a vs rows

settle_same : (s : Swap) (c : List Rule) (again : Bool) (h : Held) → settle_fault (all_swapped s c) again h ≡ settle_fault c again h
settle_same s c again h = go h.pending
  where
    go : (o : Option (Text × List Text))
        → option_map_or (λ p. option_map_or (λ a. use_fault again a p.1 h.rows) (arg_by_id (all_swapped s c) p.0) []) o []
        ≡ option_map_or (λ p. option_map_or (λ a. use_fault again a p.1 h.rows) (arg_by_id c p.0) []) o []
    go None = refl
    go (Some p) =
        ap (λ o. option_map_or (λ a. use_fault again a p.1 h.rows) o []) (by_id_same s c p.0) ∙ use_by_same s again (arg_by_id c p.0) p.1 h.rows

react_same : (s : Swap) (c : List Rule) (again : Bool) (a : Rule) (vs : List Text) (h : Held)
    → react_fault (all_swapped s c) again (swapped s a) vs h ≡ react_fault c again a vs h
react_same s c again a vs h =
    ap₂ or_else (settle_same s c again h)
    (use_same s again a vs (settled (all_swapped s c) h).rows ∙ ap (λ (g : Held). use_fault again a vs g.rows) (settled_same s c h))

option_same : (s : Swap) (c : List Rule) (again : Bool) (a : Rule) (v : Option Text) (h : Held)
    → option_fault (all_swapped s c) again (swapped s a) v h ≡ option_fault c again a v h
option_same s c again a (Some v) h = react_same s c again a (v ∷ []) h
option_same s c again a None h = settle_same s c again h

long_same : (s : Swap) (c : List Rule) (again : Bool) (o : Option Rule) (v : Option Text) (h : Held)
    → long_fault (all_swapped s c) again (option_map (swapped s) o) v h ≡ long_fault c again o v h
long_same s c again None v h = refl
long_same s c again (Some a) v h =
    if_same (takes_values a) (option_same s c again a v h) (if_same (is_some v) refl (react_same s c again a [] h))

short_same : (s : Swap) (c : List Rule) (again : Bool) (o : Option Rule) (rest : Text) (h : Held) (follow' follow : Held → Kinds)
    → ((g : Held) → follow' g ≡ follow g) → short_fault (all_swapped s c) again (option_map (swapped s) o) rest h follow' ≡ short_fault c again o rest h follow
short_same s c again None rest h follow' follow same = refl
short_same s c again (Some a) rest h follow' follow same =
    if_same (takes_values a) (option_same s c again a (attached_value rest) h)
    (ap₂ or_else (react_same s c again a [] h) (same (reacted (all_swapped s c) (swapped s a) [] h) ∙ ap follow (reacted_same s c a [] h)))

bundle_step_same : (s : Swap) (c : List Rule) (again : Bool) (o : Option ℕ) (flags : Text) (skip : ℕ) (h : Held)
    (follow' follow : Text → ℕ → Held → Kinds) → ((t : Text) (n : ℕ) (g : Held) → follow' t n g ≡ follow t n g)
    → bundle_step_fault (all_swapped s c) again o flags skip h follow' ≡ bundle_step_fault c again o flags skip h follow
bundle_step_same s c again None flags skip h follow' follow same = refl
bundle_step_same s c again (Some x) flags zero h follow' follow same =
    let rest = drop (length (encode_utf8 x)) flags in
    ap (λ o. short_fault (all_swapped s c) again o rest h (follow' rest 0)) (by_short_same s c x)
    ∙ short_same s c again (arg_by_short c x) rest h (follow' rest 0) (follow rest 0) (same rest 0)
bundle_step_same s c again (Some x) flags (suc skip) h follow' follow same = same (drop (length (encode_utf8 x)) flags) skip h

flags_same : (s : Swap) (c : List Rule) (again : Bool) (k : ℕ) (flags : Text) (skip : ℕ) (h : Held)
    → flags_fault (all_swapped s c) again k flags skip h ≡ flags_fault c again k flags skip h
unfolding flags_fault
flags_same s c again zero flags skip h = refl
flags_same s c again (suc k) flags skip h =
    bundle_step_same s c again (slice_get (chars flags) 0) flags skip h (flags_fault (all_swapped s c) again k) (flags_fault c again k)
    (flags_same s c again k)

-- ---- a word

flag_word_same : (s : Swap) (c : List Rule) (again : Bool) (o : Option (Text × Option Text)) (word : Text) (h : Held)
    → flag_word_fault (all_swapped s c) again o word h ≡ flag_word_fault c again o word h
flag_word_same s c again (Some p) word h =
    ap (λ o. long_fault (all_swapped s c) again o p.1 h) (by_long_same s c p.0) ∙ long_same s c again (arg_by_long c p.0) p.1 h
flag_word_same s c again None word h = go (short_of word)
  where
    go : (o : Option Text) → option_map_or (λ flags. bundle_fault (all_swapped s c) again flags h) o []
        ≡ option_map_or (λ flags. bundle_fault c again flags h) o []
    go None = refl
    go (Some flags) = flags_same s c again (length flags) flags h.skip (record h { skip = 0 })

other_same : (s : Swap) (top : Shape) (o : Option Text) (word : Text) (h : Held)
    → other_fault (shape_swapped s top) o word h ≡ other_fault top o word h
other_same s top (Some name) word h = refl
other_same s top None word h =
    if_same (bytes_eq word (45 ∷ 45 ∷ [])) refl (flag_word_same s top.rules top.args_override_self (long_of word) word h)

word_same : (s : Swap) (top : Shape) (names : Names) (is_trailing : Bool) (w : Waiting) (word : Text) (h : Held)
    → word_fault (shape_swapped s top) names is_trailing w word h ≡ word_fault top names is_trailing w word h
word_same s top names is_trailing w word h = if_same is_trailing refl (other_same s top (subcommand_met names w word) word h)

-- a word for the positional of a place, which no argument may have
place_same : (s : Swap) (top : Shape) (o : Option Rule) (h : Held)
    → option_map_or (λ a. positional_fault (all_swapped s top.rules) top.args_override_self a h) (option_map (swapped s) o) (stray_fault top)
    ≡ option_map_or (λ a. positional_fault top.rules top.args_override_self a h) o (stray_fault top)
place_same s top None h = refl
place_same s top (Some a) h = if_same (is_pending a h.pending && takes_several a) refl (settle_same s top.rules top.args_override_self h)

step_same : (s : Swap) (top : Shape) (position : ℕ) (h : Held) (step : Step)
    → step_fault (shape_swapped s top) position h step ≡ step_fault top position h step
step_same s top position h (next waiting) = refl
step_same s top position h (trailing place) = refl
step_same s top position h (subcommand name) = refl
step_same s top position h value =
    ap (λ o. option_map_or (λ a. positional_fault (all_swapped s top.rules) top.args_override_self a h) o (stray_fault top))
    (by_index_same s top.rules position) ∙ place_same s top (arg_by_index top.rules position) h

turn_same : (s : Swap) (top : Shape) (names : Names) (w : Walk) (word : Text)
    → turn_fault (shape_swapped s top) names w word ≡ turn_fault top names w word
turn_same s top names w word =
    let met = word_met top.rules names w.is_trailing w.waiting w.position word w.held in
    if_same (is_some w.stopped) refl (ap₂ or_else (word_same s top names w.is_trailing w.waiting word w.held)
    (ap (λ (r : Held × Step). step_fault (shape_swapped s top) w.position r.0 r.1)
    (word_met_same s top.rules names w.is_trailing w.waiting w.position word w.held) ∙ step_same s top w.position met.0 met.1))

walk_fault_same : (s : Swap) (top : Shape) (names : Names) (w : Walk) (words : List Text)
    → walk_fault (shape_swapped s top) names w words ≡ walk_fault top names w words
unfolding walk_fault
walk_fault_same s top names w [] = refl
walk_fault_same s top names w (x ∷ xs) =
    ap₂ or_else (turn_same s top names w x) (ap (λ (v : Walk). walk_fault (shape_swapped s top) names v xs) (walked_same s top.rules names w x)
    ∙ walk_fault_same s top names (walked top.rules names w x) xs)

-- ---- after the walk

default_same : (s : Swap) (rows : List Row) (a : Rule) → default_fault rows (swapped s a) ≡ default_fault rows a
default_same s rows a =
    if_same (has_row a.id rows || is_empty a.defaults) refl
    (ap (or_else (request_kinds (action_of a))) (values_same s a.ignore_case a.parser a.defaults))

defaults_fault_same : (s : Swap) (rows : List Row) (c : List Rule) → defaults_fault rows (all_swapped s c) ≡ defaults_fault rows c
unfolding defaults_fault
defaults_fault_same s rows [] = refl
defaults_fault_same s rows (a ∷ rest) =
    ap₂ or_else (default_same s rows a) (ap (λ (r : List Row). defaults_fault r (all_swapped s rest)) (with_default_same s rows a)
    ∙ defaults_fault_same s (with_default rows a) rest)

check_same : (s : Swap) (top : Shape) (rows : List Row) (has : Bool) → check_fault (shape_swapped s top) rows has ≡ check_fault top rows has
check_same s top rows has =
    ap (λ (b : Bool). check_kinds (not has && (top.arg_required_else_help && not (list_any (λ r. explicit_source r.source) rows)))
    (not has && top.subcommand_required) (not (top.subcommand_negates_reqs && has) && b))
    (sym (list_any-map (λ a. a.required && not (is_given a.id rows)) (swapped s) top.rules))

-- where one level of the parse fails
pub level_same : (s : Swap) (top : Shape) (names : Names) (h : Held) (words : List Text) (has : Bool) (below : Kinds)
    → level_fault (shape_swapped s top) names h words has below ≡ level_fault top names h words has below
level_same s top names h words has below =
    let end = (walk top.rules names h words).held in
    let walked_on = walk_same s top.rules names h words in
    ap₂ or_else (walk_fault_same s top names (walk_from h) words)
    (ap (or_else below) (ap₂ or_else
    (ap (λ (w : Walk). settle_fault (all_swapped s top.rules) top.args_override_self w.held) walked_on ∙ settle_same s top.rules top.args_override_self end)
    (ap₂ or_else
    (ap (λ (w : Walk). defaults_fault (settled (all_swapped s top.rules) w.held).rows (all_swapped s top.rules)) walked_on
    ∙ (ap (λ (g : Held). defaults_fault g.rows (all_swapped s top.rules)) (settled_same s top.rules end)
    ∙ defaults_fault_same s (settled top.rules end).rows top.rules))
    (ap (λ (w : Walk). check_fault (shape_swapped s top) (finished (all_swapped s top.rules) w.held) has) walked_on
    ∙ (ap (λ (rows : List Row). check_fault (shape_swapped s top) rows has) (finished_same s top.rules end)
    ∙ check_same s top (finished top.rules end) has)))))
