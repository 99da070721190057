-- The three options of the written command, and what a parse found for them.
use Rattle.std.proofs.Common.{◌≡◌, ◌⊎◌, ◌∙◌, ◌<◌, ◌≤◌, ◌||◌, ap, ℕ, Bool, zero, suc, true, false, not, List}
use Rattle.std.proofs.Common.{[], ◌∷◌, length, map, is_some, Option, Some, None, refl, sym, subst, inl, inr, arith, codes, true≢false}
use Rattle.std.specs.List.{All, list_any, slice_index, slice_index_or}
use Rattle.std.specs.Str.{bytes_eq}
use Rattle.std.specs.Borrow.{Bor}
use Rattle.std.proofs.lemmas.Slice.Eq.{bytes_eq-Decides}
use Rattle.clap.specs.declared.builder.action.ArgAction.TheVariants.{Set}
use Rattle.clap.specs.declared.builder.arg.Arg.{Arg}
use Rattle.clap.specs.declared.builder.command.Command.{Command}
use Rattle.clap.specs.declared.builder.command.Command.TheViews.{out-Command}
use Rattle.clap.specs.declared.builder.value_parser.ValueParser.{ValueParser}
use Rattle.clap.specs.declared.builder.value_parser.ValueParser.TheVariants as parser
use Rattle.clap.specs.declared.parser.matches.ArgMatches.{ArgMatches}
use Rattle.clap.specs.Built.{IsParsedFrom, IsPlain, IsPlainArg}
use Rattle.clap.specs.Facts.{args_of, groups_of, WantsDefault, least_values}
use Rattle.clap.specs.Matches.{first_value, found_of}
use Rattle.clap.specs.Simple.{App, app_of}
use Rattle.clap.specs.Texts.{items_of}
use Rattle.clap.specs.Values.{Accepts}
use Rattle.clap.specs.Walk.{Rule, is_free_arg, is_simple_arg, rule_of}
use Rattle.clap.proofs.SimpleLemmas.{is_false, is_nil, plain_fields}
use Rattle.clap.proofs.WalkLemmas.{both}
use Rattle.command_line.specs.Command.{AreEmitWords, HasValues, IsEmitWord, Names, emit_rule, generate_rule, option_rule, workers_rule, written}
use Rattle.command_line.proofs.Arguments.{IsAlone, default_has_value, value_passes}

-- ---- what an option's rule says of its argument

no_delimiter : (o : Option ℕ) → not (is_some o) ≡ true → o ≡ None
no_delimiter None e = refl
no_delimiter (Some x) e = absurd (true≢false (sym e))

-- the argument excludes nothing, has defaults under no condition and takes a value at each use
record IsOption (a : Arg) : Type 0 where
  plain : IsPlainArg a
  ifs : a.default_vals_ifs.items ≡ []
  delimiter : a.val_delim ≡ None
  action : a.action ≡ Some Set
  least : 1 ≤ least_values a

is_option : (a : Arg) (name : List ℕ) (values : ValueParser) (defaults : List (List ℕ)) → rule_of a ≡ option_rule name values defaults → IsOption a
is_option a name values defaults e =
    let simple : is_simple_arg a ≡ true = ap (λ (r : Rule). r.is_simple) e in
    let free : is_free_arg a ≡ true = ap (λ (r : Rule). r.is_free) e in
    let overrides = both _ _ simple in
    let ifs = both _ _ overrides.1 in
    let groups = both _ _ ifs.1 in
    let delimiter = both _ _ groups.1 in
    let exclusive = both _ _ free in
    let conflicts = both _ _ exclusive.1 in
    record {
      plain = (is_false _ exclusive.0, is_nil _ conflicts.0, is_nil _ overrides.0, is_nil _ groups.0);
      ifs = is_nil _ ifs.0;
      delimiter = no_delimiter _ delimiter.0;
      action = ap (λ (r : Rule). r.action) e;
      least = rw (ap (λ (r : Rule). r.range) e) (omega arith);
    }

-- a list that maps to some list is no shorter
some_mapped : {X Y : Type 0} (f : X → Y) (xs : List X) (y : Y) (ys : List Y) → map f xs ≡ y ∷ ys → 0 < length xs
some_mapped f [] y ys e = cc
some_mapped f (x ∷ xs) y ys e = omega arith

wants_default : (a : Arg) (name : List ℕ) (values : ValueParser) (text : List ℕ) → rule_of a ≡ option_rule name values (text ∷ []) → WantsDefault a
wants_default a name values text e = (
  (is_option a name values (text ∷ []) e).ifs,
  some_mapped (λ s. s.now) (items_of a.default_vals) text [] (ap (λ (r : Rule). r.defaults) e),
)

-- ---- the arguments of the written command

-- the command has the three options, in their places
record HasOptions (c : Command) (names : Names) : Type 0 where
  workers : Arg
  emit : Arg
  generate : Arg
  list : args_of c ≡ workers ∷ emit ∷ generate ∷ []
  workers_is : rule_of workers ≡ workers_rule
  emit_is : rule_of emit ≡ emit_rule names
  generate_is : rule_of generate ≡ generate_rule
  groups : groups_of c ≡ []
  globals : (out-Command c).has_globals ≡ false

-- a list that maps to three things has three
pub three_of : {X Y : Type 0} (f : X → Y) (xs : List X) (r s t : Y) → map f xs ≡ r ∷ s ∷ t ∷ []
    → (x : X) × ((y : X) × ((z : X) × ((xs ≡ x ∷ y ∷ z ∷ []) × (f x ≡ r) × (f y ≡ s) × (f z ≡ t))))
three_of f [] r s t e = cc
three_of f (x ∷ []) r s t e = cc
three_of f (x ∷ y ∷ []) r s t e = cc
three_of f (x ∷ y ∷ z ∷ v ∷ vs) r s t e = cc
three_of f (x ∷ y ∷ z ∷ []) r s t e = (
  x,
  (y, (z, (refl, ap (λ l. slice_index_or l 0 r) e, ap (λ l. slice_index_or l 1 r) e, ap (λ l. slice_index_or l 2 r) e))),
)

has_options : (c : Command) (names : Names) → app_of c ≡ written names → HasOptions c names
has_options c names e =
    let fields = plain_fields c (ap (λ (a : App). a.top.is_plain) e) in
    let three = three_of rule_of (args_of c) workers_rule (emit_rule names) generate_rule (ap (λ (a : App). a.top.rules) e) in
    record {
      workers = three.0;
      emit = three.1.0;
      generate = three.1.1.0;
      list = three.1.1.1.0;
      workers_is = three.1.1.1.1;
      emit_is = three.1.1.1.2;
      generate_is = three.1.1.1.3;
      groups = fields.groups;
      globals = fields.globals;
    }

-- nothing in the command excludes anything
is_plain : (c : Command) (names : Names) → HasOptions c names → IsPlain c
is_plain c names has = (subst (All IsPlainArg) (sym has.list) each, has.groups)
  where
    each : All IsPlainArg (has.workers ∷ has.emit ∷ has.generate ∷ [])
    each zero d within = (is_option has.workers _ _ _ has.workers_is).plain
    each (suc zero) d within = (is_option has.emit _ _ _ has.emit_is).plain
    each (suc (suc zero)) d within = (is_option has.generate _ _ _ has.generate_is).plain
    each (suc (suc (suc n))) d within = absurd (omega arith)

-- ---- ids

-- an id of a command with three arguments stands in one place
three_ids : (c : Command) (x y z : Arg) → args_of c ≡ x ∷ y ∷ z ∷ [] → (P : ℕ → Arg → Type 0)
    → P 0 x → P 1 y → P 2 z → (j : ℕ) (e : Arg) → j < length (args_of c) → P j (slice_index_or (args_of c) j e)
three_ids c x y z list P at0 at1 at2 j e within =
    subst (λ (l : List Arg). P j (slice_index_or l j e)) (sym list) (go j (subst (λ (l : List Arg). j < length l) list within))
  where
    go : (i : ℕ) → i < length (x ∷ y ∷ z ∷ []) → P i (slice_index_or (x ∷ y ∷ z ∷ []) i e)
    go zero lt = at0
    go (suc zero) lt = at1
    go (suc (suc zero)) lt = at2
    go (suc (suc (suc n))) lt = absurd (omega arith)

id_of : (a : Arg) (name : List ℕ) (values : ValueParser) (defaults : List (List ℕ)) → rule_of a ≡ option_rule name values defaults → a.id.now ≡ name
id_of a name values defaults e = ap (λ (r : Rule). r.id) e

same_ids : (u v u' v' : List ℕ) → u ≡ u' → v ≡ v' → bytes_eq u v ≡ true → bytes_eq u' v' ≡ true
same_ids u v u' v' first second same = subst (λ (w : List ℕ). bytes_eq u' w ≡ true) second (subst (λ (w : List ℕ). bytes_eq w v ≡ true) first same)

-- an option by its name, which is no other option's and no flag's that the parser adds
alone : (c : Command) (names : Names) (has : HasOptions c names) (k : ℕ) (a : Arg) (name : List ℕ) → a.id.now ≡ name
    → k < length (args_of c) → slice_index_or (args_of c) k a ≡ a
    → (bytes_eq (codes "workers") name ≡ true → 0 ≡ k) → (bytes_eq (codes "emit") name ≡ true → 1 ≡ k)
    → (bytes_eq (codes "generate") name ≡ true → 2 ≡ k)
    → (name ≡ [] → ⊥) → (name ≡ codes "help" → ⊥) → (name ≡ codes "version" → ⊥) → IsAlone c k a
alone c names has k a name id within there at0 at1 at2 some no_help no_version = record {
  within = within;
  there = there;
  alone = three_ids c has.workers has.emit has.generate has.list (λ j e. bytes_eq e.id.now a.id.now ≡ true → j ≡ k)
      (λ same. at0 (same_ids _ _ _ _ (id_of has.workers _ _ _ has.workers_is) id same))
      (λ same. at1 (same_ids _ _ _ _ (id_of has.emit _ _ _ has.emit_is) id same))
      (λ same. at2 (same_ids _ _ _ _ (id_of has.generate _ _ _ has.generate_is) id same));
  named = λ e. some (sym id ∙ e);
  own = λ auto. elim auto [ inl e ↦ no_help (sym id ∙ e) | inr e ↦ no_version (sym id ∙ e) ];
}

-- a text's first byte tells it from another text
other_first : (u v : List ℕ) (m n : ℕ) → slice_index u 0 ≡ m → slice_index v 0 ≡ n → (m ≡ n → ⊥) → u ≡ v → ⊥
other_first u v m n at_u at_v differs same = differs (sym at_u ∙ (ap (λ (w : List ℕ). slice_index w 0) same ∙ at_v))

workers_alone : (c : Command) (names : Names) (has : HasOptions c names) → IsAlone c 0 has.workers
workers_alone c names has = alone c names has 0 has.workers (codes "workers") (id_of has.workers _ _ _ has.workers_is)
    (rw has.list (omega arith)) (rw has.list refl) (λ e. refl) (λ e. absurd (true≢false (sym e))) (λ e. absurd (true≢false (sym e)))
    (other_first _ _ 119 0 refl refl (λ e. omega arith)) (other_first _ _ 119 104 refl refl (λ e. omega arith))
    (other_first _ _ 119 118 refl refl (λ e. omega arith))

emit_alone : (c : Command) (names : Names) (has : HasOptions c names) → IsAlone c 1 has.emit
emit_alone c names has = alone c names has 1 has.emit (codes "emit") (id_of has.emit _ _ _ has.emit_is)
    (rw has.list (omega arith)) (rw has.list refl) (λ e. absurd (true≢false (sym e))) (λ e. refl) (λ e. absurd (true≢false (sym e)))
    (other_first _ _ 101 0 refl refl (λ e. omega arith)) (other_first _ _ 101 104 refl refl (λ e. omega arith))
    (other_first _ _ 101 118 refl refl (λ e. omega arith))

generate_alone : (c : Command) (names : Names) (has : HasOptions c names) → IsAlone c 2 has.generate
generate_alone c names has = alone c names has 2 has.generate (codes "generate") (id_of has.generate _ _ _ has.generate_is)
    (rw has.list (omega arith)) (rw has.list refl) (λ e. absurd (true≢false (sym e))) (λ e. absurd (true≢false (sym e))) (λ e. refl)
    (other_first _ _ 103 0 refl refl (λ e. omega arith)) (other_first _ _ 103 104 refl refl (λ e. omega arith))
    (other_first _ _ 103 118 refl refl (λ e. omega arith))

-- ---- what a parse found

-- an option's first value is one that it takes
value_taken : (c : Command) (m : ArgMatches) (p : IsParsedFrom c m) (names : Names) → HasOptions c names → (k : ℕ) (a : Arg) → IsAlone c k a
    → (name : List ℕ) (values : ValueParser) (defaults : List (List ℕ)) → rule_of a ≡ option_rule name values defaults
    → (t : List ℕ) → first_value (found_of m) name ≡ Some t → Accepts false values t
value_taken c m p names has k a is name values defaults e t first =
    let id = id_of a name values defaults e in
    subst (λ (b : Bool). Accepts b values t) (ap (λ (r : Rule). r.ignore_case) e)
    (value_passes c m p (is_plain c names has) has.globals k a is values (ap (λ (r : Rule). r.parser) e) t
    (subst (λ (w : List ℕ). first_value (found_of m) w ≡ Some t) (sym id) first))

-- an option with a default has a value, which it takes
default_taken : (c : Command) (m : ArgMatches) (p : IsParsedFrom c m) (names : Names) → HasOptions c names → (k : ℕ) (a : Arg) → IsAlone c k a
    → (name : List ℕ) (values : ValueParser) (text : List ℕ) → rule_of a ≡ option_rule name values (text ∷ [])
    → (t : List ℕ) × (first_value (found_of m) name ≡ Some t) × Accepts false values t
default_taken c m p names has k a is name values text e = go (first_value (found_of m) name) refl
  where
    some : is_some (first_value (found_of m) name) ≡ true
    some = subst (λ (w : List ℕ). is_some (first_value (found_of m) w) ≡ true) (id_of a name values (text ∷ []) e)
        (default_has_value c m p (is_plain c names has) has.globals k a is (is_option a name values (text ∷ []) e).action
        (is_option a name values (text ∷ []) e).delimiter (is_option a name values (text ∷ []) e).least (wants_default a name values text e))

    go : (o : Option (List ℕ)) → first_value (found_of m) name ≡ o → (t : List ℕ) × (first_value (found_of m) name ≡ Some t) × Accepts false values t
    go None found = absurd (true≢false (sym some ∙ ap is_some found))
    go (Some t) found = (t, found, value_taken c m p names has k a is name values (text ∷ []) e t found)

either_true : (a b : Bool) → (a || b) ≡ true → (a ≡ true) ⊎ (b ≡ true)
either_true true b e = inl refl
either_true false b e = inr e

pub any_mapped : (p : List ℕ → Bool) (names : List (Bor (List ℕ))) → list_any (λ name. p name.now) names ≡ list_any p (map (λ name. name.now) names)
any_mapped p [] = refl
any_mapped p (x ∷ xs) = ap (λ b. p x.now || b) (any_mapped p xs)

-- a value that is among the words of `--emit` is one of the three
emit_taken : (names : Names) (t : List ℕ) → AreEmitWords names → Accepts false (parser.Names names) t → IsEmitWord t
emit_taken names t words passed =
    let among : list_any (λ name. bytes_eq name t) (codes "module" ∷ codes "list" ∷ codes "summary" ∷ []) ≡ true =
    ap (list_any (λ name. bytes_eq name t)) (sym words) ∙ (sym (any_mapped (λ name. bytes_eq name t) names.now) ∙ passed) in
    elim (either_true _ _ among) [
      | inl e ↦ inl (sym ((bytes_eq-Decides _ _).0 e))
      | inr more ↦ elim (either_true _ _ more) [
        | inl e ↦ inr (inl (sym ((bytes_eq-Decides _ _).0 e)))
        | inr last ↦ elim (either_true _ _ last) [
          | inl e ↦ inr (inr (sym ((bytes_eq-Decides _ _).0 e)))
          | inr none ↦ absurd (true≢false (sym none))
        ]
      ]
    ]

-- a parse of the written command found values that its options take
pub parsed_values : (c : Command) (m : ArgMatches) (names : Names) → IsParsedFrom c m → app_of c ≡ written names → AreEmitWords names → HasValues (found_of m)
parsed_values c m names p e words =
    let has = has_options c names e in
    let workers = default_taken c m p names has 0 has.workers (workers_alone c names has) _ _ _ has.workers_is in
    let emit = default_taken c m p names has 1 has.emit (emit_alone c names has) _ _ _ has.emit_is in
    record {
      workers = (workers.0, workers.1, workers.2);
      emit = (emit.0, emit.1, emit_taken names emit.0 words emit.2);
      generate = λ t first. value_taken c m p names has 2 has.generate (generate_alone c names has) _ _ _ has.generate_is t first;
    }
