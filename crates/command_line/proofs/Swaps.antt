-- The matches of a command hang on how its arguments' values are read, and not on the parsers themselves.
use Rattle.std.proofs.Common.{◌≡◌, ◌∙◌, ◌==◌, ◌&&◌, ◌||◌, ap, ℕ, Bool, zero, suc, true, false, not, List, [], ◌∷◌, length, map, drop, is_some, option_map}
use Rattle.std.proofs.Common.{Option, Some, None, refl, sym}
use Rattle.std.specs.Prelude.{if◌then◌else◌, encode_utf8, fold, slice_get}
use Rattle.std.specs.Option.{option_map_or}
use Rattle.std.specs.Str.{bytes_eq, chars}
use Rattle.clap.specs.declared.builder.value_parser.Reading.{Reading}
use Rattle.clap.specs.declared.builder.value_parser.ValueParser.{ValueParser}
use Rattle.clap.specs.Facts.{parser_of_value}
use Rattle.clap.specs.Kinds.{value_kinds}
use Rattle.clap.specs.Lexer.{long_of, short_of}
use Rattle.clap.specs.Values.{reading_of}
use Rattle.clap.specs.Walk.{Held, Names, Outcome, Row, Rule, Step, Text, Waiting, Walk, action_of, after_flag, after_step, arg_by_id, arg_by_index}
use Rattle.clap.specs.Walk.{arg_by_long, arg_by_short, attached_value, bundle, bundle_met, bundle_step, default_rows, done, finished, flag_met, has_long}
use Rattle.clap.specs.Walk.{has_row, has_short, idle, is_multiple, is_pending, long_met, long_or_other, long_word, next, next_position, option, option_met}
use Rattle.clap.specs.Walk.{option_word, plain, plain_word, positional, pushed, reacted, refused, settled, settled_rows, short_met}
use Rattle.clap.specs.Walk.{short_or_plain, subcommand, subcommand_met, subcommand_or_other, takes_several, takes_values, to_positional}
use Rattle.clap.specs.Walk.{trailing, used, used_as, used_by_id, value, values_or_missing, waits, walk, walk_from, walked, walked_from, with_default}
use Rattle.clap.specs.Walk.{word_met}
use Rattle.clap.proofs.WalkLemmas.{find-map}

-- for each parser another one, which refuses what it refuses, with the same kind of error, and is read alike
pub record Swap : Type 0 where
  pub by : Option ValueParser → Option ValueParser
  pub takes : (ignore_case : Bool) (o : Option ValueParser) (t : Text)
      → value_kinds ignore_case (parser_of_value (by o)) t ≡ value_kinds ignore_case (parser_of_value o) t
  pub reads : (o : Option ValueParser) → reading_of (parser_of_value (by o)) ≡ reading_of (parser_of_value o)

abbrev pub swapped : Swap → Rule → Rule
swapped s a = record a { parser = s.by a.parser }

abbrev pub all_swapped : Swap → List Rule → List Rule
all_swapped s = map (swapped s)

-- two branches that are the same
pub if_same : {A : Type 0} (b : Bool) {x x' y y' : A} → x' ≡ x → y' ≡ y → (if b then x' else y') ≡ (if b then x else y)
if_same true first second = first
if_same false first second = second

-- ---- the argument that answers to a name

pub by_id_same : (s : Swap) (c : List Rule) (id : Text) → arg_by_id (all_swapped s c) id ≡ option_map (swapped s) (arg_by_id c id)
by_id_same s c id = sym (find-map (λ a. bytes_eq a.id id) (swapped s) c)

pub by_long_same : (s : Swap) (c : List Rule) (name : Text) → arg_by_long (all_swapped s c) name ≡ option_map (swapped s) (arg_by_long c name)
by_long_same s c name = sym (find-map (λ a. not (is_some a.index) && has_long a name) (swapped s) c)

pub by_short_same : (s : Swap) (c : List Rule) (x : ℕ) → arg_by_short (all_swapped s c) x ≡ option_map (swapped s) (arg_by_short c x)
by_short_same s c x = sym (find-map (λ a. not (is_some a.index) && has_short a x) (swapped s) c)

pub by_index_same : (s : Swap) (c : List Rule) (i : ℕ) → arg_by_index (all_swapped s c) i ≡ option_map (swapped s) (arg_by_index c i)
by_index_same s c i = sym (find-map (λ a. option_map_or (λ k. k == i) a.index false) (swapped s) c)

-- ---- one use of an argument

used_same : (s : Swap) (a : Rule) (vs : List Text) (rows : List Row) → used (swapped s a) vs rows ≡ used a vs rows
used_same s a vs rows = ap (λ (how : Reading). used_as (action_of a) a.id how (values_or_missing a vs) rows) (s.reads a.parser)

used_by_same : (s : Swap) (o : Option Rule) (vs : List Text) (rows : List Row) → used_by_id (option_map (swapped s) o) vs rows ≡ used_by_id o vs rows
used_by_same s None vs rows = refl
used_by_same s (Some a) vs rows = used_same s a vs rows

settled_rows_same : (s : Swap) (c : List Rule) (p : Option (Text × List Text)) (rows : List Row)
    → settled_rows (all_swapped s c) p rows ≡ settled_rows c p rows
settled_rows_same s c None rows = refl
settled_rows_same s c (Some p) rows = ap (λ o. used_by_id o p.1 rows) (by_id_same s c p.0) ∙ used_by_same s (arg_by_id c p.0) p.1 rows

pub settled_same : (s : Swap) (c : List Rule) (h : Held) → settled (all_swapped s c) h ≡ settled c h
settled_same s c h = ap (λ (rows : List Row). record h { rows = rows; pending = None }) (settled_rows_same s c h.pending h.rows)

pub reacted_same : (s : Swap) (c : List Rule) (a : Rule) (vs : List Text) (h : Held) → reacted (all_swapped s c) (swapped s a) vs h ≡ reacted c a vs h
reacted_same s c a vs h =
    ap (λ (rows : List Row). record h { rows = rows; pending = None })
    (used_same s a vs (settled (all_swapped s c) h).rows ∙ ap (used a vs) (settled_rows_same s c h.pending h.rows))

-- ---- a flag word

option_met_same : (s : Swap) (c : List Rule) (a : Rule) (v : Option Text) (h : Held) → option_met (all_swapped s c) (swapped s a) v h ≡ option_met c a v h
option_met_same s c a (Some v) h = ap (λ (g : Held). (g, done)) (reacted_same s c a (v ∷ []) h)
option_met_same s c a None h = ap (λ (g : Held). (record g { pending = Some (a.id, []) }, waits a.id)) (settled_same s c h)

flag_met_same : (s : Swap) (c : List Rule) (a : Rule) (v : Option Text) (h : Held) → flag_met (all_swapped s c) (swapped s a) v h ≡ flag_met c a v h
flag_met_same s c a (Some v) h = refl
flag_met_same s c a None h = ap (λ (g : Held). (g, done)) (reacted_same s c a [] h)

long_met_same : (s : Swap) (c : List Rule) (o : Option Rule) (v : Option Text) (h : Held)
    → long_met (all_swapped s c) (option_map (swapped s) o) v h ≡ long_met c o v h
long_met_same s c None v h = refl
long_met_same s c (Some a) v h = if_same (takes_values a) (option_met_same s c a v h) (flag_met_same s c a v h)

short_met_same : (s : Swap) (c : List Rule) (o : Option Rule) (rest : Text) (h : Held) (follow' follow : Held → Held × Outcome)
    → ((g : Held) → follow' g ≡ follow g) → short_met (all_swapped s c) (option_map (swapped s) o) rest h follow' ≡ short_met c o rest h follow
short_met_same s c None rest h follow' follow same = refl
short_met_same s c (Some a) rest h follow' follow same =
    if_same (takes_values a) (option_met_same s c a (attached_value rest) h)
    (same (reacted (all_swapped s c) (swapped s a) [] h) ∙ ap follow (reacted_same s c a [] h))

bundle_step_same : (s : Swap) (c : List Rule) (o : Option ℕ) (flags : Text) (skip : ℕ) (so_far : Outcome) (h : Held)
    (follow' follow : Text → ℕ → Outcome → Held → Held × Outcome)
    → ((t : Text) (n : ℕ) (out : Outcome) (g : Held) → follow' t n out g ≡ follow t n out g)
    → bundle_step (all_swapped s c) o flags skip so_far h follow' ≡ bundle_step c o flags skip so_far h follow
bundle_step_same s c None flags skip so_far h follow' follow same = refl
bundle_step_same s c (Some x) flags zero so_far h follow' follow same =
    let rest = drop (length (encode_utf8 x)) flags in
    ap (λ o. short_met (all_swapped s c) o rest h (follow' rest 0 done)) (by_short_same s c x)
    ∙ short_met_same s c (arg_by_short c x) rest h (follow' rest 0 done) (follow rest 0 done) (same rest 0 done)
bundle_step_same s c (Some x) flags (suc skip) so_far h follow' follow same = same (drop (length (encode_utf8 x)) flags) skip so_far h

bundle_met_same : (s : Swap) (c : List Rule) (k : ℕ) (flags : Text) (skip : ℕ) (so_far : Outcome) (h : Held)
    → bundle_met (all_swapped s c) k flags skip so_far h ≡ bundle_met c k flags skip so_far h
unfolding bundle_met
bundle_met_same s c zero flags skip so_far h = refl
bundle_met_same s c (suc k) flags skip so_far h =
    bundle_step_same s c (slice_get (chars flags) 0) flags skip so_far h (bundle_met (all_swapped s c) k) (bundle_met c k) (bundle_met_same s c k)

-- ---- a word

option_word_same : (s : Swap) (o : Option Rule) (id word : Text) (h : Held) → option_word (option_map (swapped s) o) id word h ≡ option_word o id word h
option_word_same s None id word h = refl
option_word_same s (Some a) id word h = refl

plain_word_same : (s : Swap) (c : List Rule) (w : Waiting) (word : Text) (h : Held) → plain_word (all_swapped s c) w word h ≡ plain_word c w word h
plain_word_same s c (option id) word h =
    ap (λ (r : Held × Waiting). (r.0, next r.1))
    (ap (λ o. option_word o id word h) (by_id_same s c id) ∙ option_word_same s (arg_by_id c id) id word h)
plain_word_same s c idle word h = refl
plain_word_same s c positional word h = refl

after_flag_same : (s : Swap) (c : List Rule) (w : Waiting) (word : Text) (h : Held) (out : Outcome)
    → after_flag (all_swapped s c) w word h out ≡ after_flag c w word h out
after_flag_same s c w word h done = refl
after_flag_same s c w word h (waits id) = refl
after_flag_same s c w word h plain = plain_word_same s c w word h
after_flag_same s c w word h refused = plain_word_same s c w word h

-- what follows a flag word that comes to the same
after_same : (s : Swap) (c : List Rule) (w : Waiting) (word : Text) (r' r : Held × Outcome) → r' ≡ r
    → after_flag (all_swapped s c) w word r'.0 r'.1 ≡ after_flag c w word r.0 r.1
after_same s c w word r' r same =
    ap (λ (r : Held × Outcome). after_flag (all_swapped s c) w word r.0 r.1) same ∙ after_flag_same s c w word r.0 r.1

long_word_same : (s : Swap) (c : List Rule) (w : Waiting) (word name : Text) (v : Option Text) (h : Held)
    → long_word (all_swapped s c) w word name v h ≡ long_word c w word name v h
long_word_same s c w word name v h =
    after_same s c w word _ (long_met c (arg_by_long c name) v h)
    (ap (λ o. long_met (all_swapped s c) o v h) (by_long_same s c name) ∙ long_met_same s c (arg_by_long c name) v h)

short_or_plain_same : (s : Swap) (c : List Rule) (w : Waiting) (word : Text) (o : Option Text) (h : Held)
    → short_or_plain (all_swapped s c) w word o h ≡ short_or_plain c w word o h
short_or_plain_same s c w word (Some flags) h =
    after_same s c w word _ (bundle c flags h) (bundle_met_same s c (length flags) flags h.skip plain (record h { skip = 0 }))
short_or_plain_same s c w word None h = plain_word_same s c w word h

long_or_other_same : (s : Swap) (c : List Rule) (w : Waiting) (word : Text) (o : Option (Text × Option Text)) (h : Held)
    → long_or_other (all_swapped s c) w word o h ≡ long_or_other c w word o h
long_or_other_same s c w word (Some p) h = long_word_same s c w word p.0 p.1 h
long_or_other_same s c w word None h = short_or_plain_same s c w word (short_of word) h

other_same : (s : Swap) (c : List Rule) (o : Option Text) (w : Waiting) (position : ℕ) (word : Text) (h : Held)
    → subcommand_or_other (all_swapped s c) o w position word h ≡ subcommand_or_other c o w position word h
other_same s c (Some name) w position word h = refl
other_same s c None w position word h = if_same (bytes_eq word (45 ∷ 45 ∷ [])) refl (long_or_other_same s c w word (long_of word) h)

pub word_met_same : (s : Swap) (c : List Rule) (names : Names) (is_trailing : Bool) (w : Waiting) (position : ℕ) (word : Text) (h : Held)
    → word_met (all_swapped s c) names is_trailing w position word h ≡ word_met c names is_trailing w position word h
word_met_same s c names is_trailing w position word h =
    if_same is_trailing refl (other_same s c (subcommand_met names w word) w position word h)

-- ---- the walk

to_positional_same : (s : Swap) (c : List Rule) (o : Option Rule) (word : Text) (w : Walk) (h : Held)
    → to_positional (all_swapped s c) (option_map (swapped s) o) word w h ≡ to_positional c o word w h
to_positional_same s c None word w h = refl
to_positional_same s c (Some a) word w h = ap (λ (g : Held). record w {
  held = pushed a.id word g;
  waiting = if is_multiple a then positional else idle;
  position = next_position a w.position;
  is_trailing = w.is_trailing || a.trailing_var_arg;
  stopped = None;
}) (if_same (is_pending a h.pending && takes_several a) refl (settled_same s c h))

after_step_same : (s : Swap) (c : List Rule) (word : Text) (w : Walk) (h : Held) (step : Step)
    → after_step (all_swapped s c) word w h step ≡ after_step c word w h step
after_step_same s c word w h (next waiting) = refl
after_step_same s c word w h (trailing position) = refl
after_step_same s c word w h (subcommand name) = refl
after_step_same s c word w h value =
    ap (λ o. to_positional (all_swapped s c) o word w h) (by_index_same s c w.position) ∙ to_positional_same s c (arg_by_index c w.position) word w h

walked_from_same : (s : Swap) (c : List Rule) (names : Names) (o : Option (Text × List Text)) (w : Walk) (word : Text)
    → walked_from (all_swapped s c) names o w word ≡ walked_from c names o w word
walked_from_same s c names (Some p) w word = refl
walked_from_same s c names None w word =
    let met = word_met c names w.is_trailing w.waiting w.position word w.held in
    ap (λ (r : Held × Step). after_step (all_swapped s c) word w r.0 r.1) (word_met_same s c names w.is_trailing w.waiting w.position word w.held)
    ∙ after_step_same s c word w met.0 met.1

pub walked_same : (s : Swap) (c : List Rule) (names : Names) (w : Walk) (word : Text) → walked (all_swapped s c) names w word ≡ walked c names w word
unfolding walked
walked_same s c names w word = walked_from_same s c names w.stopped w word

folded_same : (s : Swap) (c : List Rule) (names : Names) (w : Walk) (words : List Text)
    → fold (walked (all_swapped s c) names) w words ≡ fold (walked c names) w words
folded_same s c names w [] = refl
folded_same s c names w (x ∷ xs) =
    ap (λ (v : Walk). fold (walked (all_swapped s c) names) v xs) (walked_same s c names w x) ∙ folded_same s c names (walked c names w x) xs

pub walk_same : (s : Swap) (c : List Rule) (names : Names) (h : Held) (words : List Text) → walk (all_swapped s c) names h words ≡ walk c names h words
walk_same s c names h words = folded_same s c names (walk_from h) words

-- ---- defaults

pub with_default_same : (s : Swap) (rows : List Row) (a : Rule) → with_default rows (swapped s a) ≡ with_default rows a
with_default_same s rows a =
    if_same (has_row a.id rows) refl (ap (λ (how : Reading). default_rows a.id how a.defaults rows) (s.reads a.parser))

defaults_same : (s : Swap) (rows : List Row) (c : List Rule) → fold with_default rows (all_swapped s c) ≡ fold with_default rows c
defaults_same s rows [] = refl
defaults_same s rows (a ∷ rest) =
    ap (λ (r : List Row). fold with_default r (all_swapped s rest)) (with_default_same s rows a) ∙ defaults_same s (with_default rows a) rest

pub finished_same : (s : Swap) (c : List Rule) (h : Held) → finished (all_swapped s c) h ≡ finished c h
finished_same s c h =
    ap (λ (g : Held). fold with_default g.rows (all_swapped s c)) (settled_same s c h) ∙ defaults_same s (settled c h).rows c
