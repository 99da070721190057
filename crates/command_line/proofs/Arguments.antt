-- What a parse found for one argument of a command that excludes nothing: its values passed its parser, and it
-- has one where it has a default.
use Rattle.std.proofs.Common.{◌≡◌, ◌⊎◌, ◌∙◌, ◌<◌, ◌≤◌, ap, ℕ, Bool, zero, suc, true, false, List}
use Rattle.std.proofs.Common.{[], ◌∷◌, length, is_some, Option, Some, None, refl, sym, subst, inl, inr, arith}
use Rattle.std.specs.List.{All, slice_index_or}
use Rattle.std.specs.Str.{bytes_eq}
use Rattle.std.specs.Prelude.{find, option_map, slice_get, unwrap_or}
use Rattle.std.specs.Borrow.{Bor}
use Rattle.std.proofs.lemmas.Slice.Eq.{bytes_eq-Decides}
use Rattle.clap.specs.declared.builder.action.ArgAction.TheVariants.{Count, Set}
use Rattle.clap.specs.declared.builder.arg.Arg.{Arg}
use Rattle.clap.specs.declared.builder.command.Command.{Command}
use Rattle.clap.specs.declared.builder.command.Command.TheViews.{out-Command}
use Rattle.clap.specs.declared.builder.value_parser.ValueParser.{ValueParser}
use Rattle.clap.specs.declared.parser.matches.ArgMatches.{ArgMatches}
use Rattle.clap.specs.declared.parser.matches.MatchedArg.{MatchedArg}
use Rattle.clap.specs.Built.{IsAuto, IsParsedFrom, IsPlain, SameRules}
use Rattle.clap.specs.Facts.{args_of, groups_of, Entry, EntryPasses, HasIn, PassesArg, WantsDefault, least_values, parser_of, parser_of_value}
use Rattle.clap.specs.Matches.{first_value, found_of, matched_of}
use Rattle.clap.specs.Values.{Accepts}
use Rattle.clap.proofs.CallerLemmas.{default_present, entry_by_id, same_rules_by_id}

-- an argument of the caller's command, which alone has its id
pub record IsAlone (c : Command) (k : ℕ) (a : Arg) : Type 0 where
  pub within : k < length (args_of c)
  pub there : slice_index_or (args_of c) k a ≡ a
  pub alone : (j : ℕ) (e : Arg) → j < length (args_of c) → bytes_eq (slice_index_or (args_of c) j e).id.now a.id.now ≡ true → j ≡ k
  pub named : a.id.now ≡ [] → ⊥
  pub own : IsAuto a → ⊥

-- an argument of the built command with its id has its rules
same_rules : (c : Command) (m : ArgMatches) (p : IsParsedFrom c m) (k : ℕ) (a : Arg) → IsAlone c k a
    → (j : ℕ) (x : Arg) → j < length (args_of p.built) → slice_index_or (args_of p.built) j x ≡ x
    → bytes_eq x.id.now a.id.now ≡ true → SameRules a x
same_rules c m p k a is j x within at same =
    let here = slice_index_or (args_of c) k a in
    let back : a ≡ here = sym is.there in
    subst (λ (y : Arg). SameRules y x) is.there (same_rules_by_id c m p k a is.within
    (subst (λ (y : Arg). (i : ℕ) (e : Arg) → i < length (args_of c) → bytes_eq (slice_index_or (args_of c) i e).id.now y.id.now ≡ true → i ≡ k) back is.alone)
    (subst (λ (y : Arg). IsAuto y → ⊥) back is.own) j x within at (subst (λ (y : Arg). bytes_eq x.id.now y.id.now ≡ true) back same))

-- the entry of an id, with what holds of each entry
entry_of : (c : Command) (m : ArgMatches) (p : IsParsedFrom c m) → (out-Command c).has_globals ≡ false
    → (id : List ℕ) (x : MatchedArg) → matched_of (found_of m) id ≡ Some x
    → (e : Entry) × (e.1 ≡ x) × (e.0.now ≡ id) × EntryPasses p.built e
entry_of c m p globals id x found =
    let parsed = p.parsed (p.from.globals ∙ globals) in
    let got = entry_by_id (EntryPasses p.built) (found_of m).entries.items id x parsed.values found in
    (got.0, got.1, (bytes_eq-Decides got.0.0.now id).0 got.2, got.3)

-- where the command has no group, the entry of an argument is no group's
no_group : (c : Command) (m : ArgMatches) (p : IsParsedFrom c m) → IsPlain c → (e : Entry) (id : List ℕ) → e.0.now ≡ id
    → (id ≡ [] → ⊥) → (e.0.now ≡ []) ⊎ (0 < length (groups_of p.built)) → ⊥
no_group c m p plain e id key named (inl empty) = named (sym key ∙ empty)
no_group c m p plain e id key named (inr some) =
    let none : groups_of p.built ≡ [] = (p.from.plain plain).1 in
    let bad : 0 < 0 = rw none at some in
    omega arith

-- a value that passed an argument of its id passed the parser of the one that has this id
accepted : (c : Command) (m : ArgMatches) (p : IsParsedFrom c m) (k : ℕ) (a : Arg) → IsAlone c k a
    → (q : ValueParser) → a.value_parser ≡ Some q → (id value : List ℕ) → id ≡ a.id.now → PassesArg p.built id value
    → Accepts a.ignore_case q value
accepted c m p k a is q parser id value key pass =
    let same : bytes_eq pass.1.id.now a.id.now ≡ true = subst (λ (u : List ℕ). bytes_eq pass.1.id.now u ≡ true) key pass.4.0 in
    let rules = same_rules c m p k a is pass.0 pass.1 pass.2 pass.3 same in
    let is_q : parser_of pass.1 ≡ q = ap parser_of_value (rules.parser q parser) in
    subst (λ (b : Bool). Accepts b q value) rules.ignore_case
    (subst (λ (w : ValueParser). Accepts pass.1.ignore_case w value) is_q pass.4.1)

-- each value of the argument passed its parser
values_pass : (c : Command) (m : ArgMatches) (p : IsParsedFrom c m) → IsPlain c → (out-Command c).has_globals ≡ false
    → (k : ℕ) (a : Arg) → IsAlone c k a → (q : ValueParser) → a.value_parser ≡ Some q
    → (x : MatchedArg) → matched_of (found_of m) a.id.now ≡ Some x → All (λ v. Accepts a.ignore_case q v.now) x.vals.items
values_pass c m p plain globals k a is q parser x found =
    let e = entry_of c m p globals a.id.now x found in
    elim e.3.0 [
      | inl group ↦ absurd (no_group c m p plain e.0 a.id.now e.2 is.named (e.3.3 group))
      | inr all ↦
          let here : All (λ v. PassesArg p.built e.0.0.now v.now) x.vals.items =
          subst (λ (y : MatchedArg). All (λ v. PassesArg p.built e.0.0.now v.now) y.vals.items) e.1 all in
          λ i d within. accepted c m p k a is q parser e.0.0.now (slice_index_or x.vals.items i d).now e.2 (here i d within)
    ]

first_passes : (P : List ℕ → Type 0) (vs : List (Bor (List ℕ))) (t : List ℕ) → All (λ v. P v.now) vs
    → option_map (λ s. s.now) (slice_get vs 0) ≡ Some t → P t
first_passes P [] t all first = cc
first_passes P (v ∷ vs) t all first =
    subst P (ap (λ (o : Option (List ℕ)). unwrap_or o v.now) first) (all 0 v (omega arith))

-- the first value of the argument passed its parser
pub value_passes : (c : Command) (m : ArgMatches) (p : IsParsedFrom c m) → IsPlain c → (out-Command c).has_globals ≡ false
    → (k : ℕ) (a : Arg) → IsAlone c k a → (q : ValueParser) → a.value_parser ≡ Some q
    → (t : List ℕ) → first_value (found_of m) a.id.now ≡ Some t → Accepts a.ignore_case q t
value_passes c m p plain globals k a is q parser t first = go (matched_of (found_of m) a.id.now) refl
  where
    go : (o : Option MatchedArg) → matched_of (found_of m) a.id.now ≡ o → Accepts a.ignore_case q t
    go None found =
        let bad : None ≡ Some t = rw found at first in
        cc
    go (Some x) found =
        first_passes (Accepts a.ignore_case q) x.vals.items t (values_pass c m p plain globals k a is q parser x found) (rw found at first)

-- an entry with an id is found by it
found_by_id : (xs : List Entry) (id : List ℕ) → HasIn xs id → is_some (option_map (λ e. e.1) (find (λ e. bytes_eq e.0.now id) xs)) ≡ true
found_by_id [] id h = absurd (omega (arith, h.1))
found_by_id (x ∷ xs) id h = go (bytes_eq x.0.now id) refl h.0 h.1 h.2 (λ rest. found_by_id xs id rest)
  where
    go : (t : Bool) → bytes_eq x.0.now id ≡ t → (i : ℕ) → i < length (x ∷ xs)
        → ((d : Entry) → bytes_eq (slice_index_or (x ∷ xs) i d).0.now id ≡ true)
        → (HasIn xs id → is_some (option_map (λ e. e.1) (find (λ e. bytes_eq e.0.now id) xs)) ≡ true)
        → is_some (option_map (λ e. e.1) (find (λ e. bytes_eq e.0.now id) (x ∷ xs))) ≡ true
    go true t i within same rest = rw t refl
    go false t zero within same rest =
        let bad : false ≡ true = rw t at (same x) in
        cc
    go false t (suc i) within same rest = rw t (rest (i, omega arith, same))

first_some : (vs : List (Bor (List ℕ))) → 0 < length vs → is_some (option_map (λ s. s.now) (slice_get vs 0)) ≡ true
first_some [] within = absurd (omega arith)
first_some (v ∷ vs) within = refl

-- the entry of an argument that takes a value at each use has one
entry_filled : (c : Command) (m : ArgMatches) (p : IsParsedFrom c m) → IsPlain c → (out-Command c).has_globals ≡ false
    → (k : ℕ) (a : Arg) → IsAlone c k a → a.action ≡ Some Set → a.val_delim ≡ None → 1 ≤ least_values a
    → (x : MatchedArg) → matched_of (found_of m) a.id.now ≡ Some x → 0 < length x.vals.items
entry_filled c m p plain globals k a is set delim least x found =
    let e = entry_of c m p globals a.id.now x found in
    elim e.3.1 [
      | inl group ↦ absurd (no_group c m p plain e.0 a.id.now e.2 is.named group.1)
      | inr (inl some) ↦ subst (λ (y : MatchedArg). 0 < length y.vals.items) e.1 some
      | inr (inr (inl count)) ↦
          let any = count.1 in
          let rules = same_rules c m p k a is any.0 any.1 any.2 any.3 (subst (λ (u : List ℕ). bytes_eq any.1.id.now u ≡ true) e.2 any.4.0) in
          let bad : Set ≡ Count = rw (rules.action Set set) at any.4.1 in
          cc
      | inr (inr (inr any)) ↦
          let rules = same_rules c m p k a is any.0 any.1 any.2 any.3 (subst (λ (u : List ℕ). bytes_eq any.1.id.now u ≡ true) e.2 any.4.0) in
          elim any.4.1 [
            | inl none ↦
                let one = rules.least set least in
                absurd (omega arith)
            | inr split ↦
                let bad : false ≡ true = rw (rules.val_delim, delim) at split in
                cc
          ]
    ]

-- an argument with a default that takes a value at each use has a value
pub default_has_value : (c : Command) (m : ArgMatches) (p : IsParsedFrom c m) → IsPlain c → (out-Command c).has_globals ≡ false
    → (k : ℕ) (a : Arg) → IsAlone c k a → a.action ≡ Some Set → a.val_delim ≡ None → 1 ≤ least_values a → WantsDefault a
    → is_some (first_value (found_of m) a.id.now) ≡ true
default_has_value c m p plain globals k a is set delim least wants = go (matched_of (found_of m) a.id.now) refl
  where
    present : is_some (matched_of (found_of m) a.id.now) ≡ true
    present = found_by_id (found_of m).entries.items a.id.now (subst (λ (y : Arg). HasIn (found_of m).entries.items y.id.now) is.there
        (default_present c m p globals k a is.within (subst WantsDefault (sym is.there) wants)))

    go : (o : Option MatchedArg) → matched_of (found_of m) a.id.now ≡ o → is_some (first_value (found_of m) a.id.now) ≡ true
    go None found =
        let bad : false ≡ true = rw found at present in
        cc
    go (Some x) found = rw found (first_some x.vals.items (entry_filled c m p plain globals k a is set delim least x found))
