-- Where an Opaque begins and ends: each of its parts is a longest run of one class, so its places are functions of the first.
use Rattle.std.proofs.Common.{◌≡◌, ℕ, ◌+◌, ◌<◌, ◌≤◌, Bool, true, false, cond, ◌&&◌, ◌||◌, ◌⊎◌, inl, inr, eqb, ltb, None, Some, List, [], ◌∷◌, length, drop}
use Rattle.std.proofs.Common.{refl, sym, ap, ◌∙◌, subst, ⊎_elim, arith, length-drop}
use Rattle.std.proofs.lemmas.Bool.{cases_lt, cases_Bool, and_parts, and_from}
use Rattle.std.proofs.lemmas.Bool.Decides.{nat_tests}
use Rattle.std.proofs.lemmas.List.{get_or_past}
use Rattle.std.specs.List.{slice_index}
use Rattle.std.specs.Prelude.{codes}
use Rattle.std.specs.Char.{is_ascii_digit}
use Rattle.std.proofs.lemmas.Option.{same_Some, none-some}
use Rattle.ir_token.specs.declared.token.Kind.TheVariants.{Opaque}
use Rattle.ir_token.specs.Bytes.{Bytes, is_blank, begins_word, is_word, is_label, is_meta, IsRun, Spells}
use Rattle.ir_token.specs.Texts.{IsMeta, IsName, IsClosed, BeginsMetadata, IsDistinct, EndsMetadata, EndsRecord, IsComdat, BeginsOpaque, IsOpaque, closes_at}
use Rattle.ir_token.specs.Ends.{past, name_end, meta_end, spells, closed_end, metadata_equals, begins_metadata, metadata_end, past_distinct, begins_record}
use Rattle.ir_token.specs.Ends.{comdat_equals, choice_at, begins_choice, begins_comdat, begins_opaque, end_of_metadata, end_of_record, end_of_comdat}
use Rattle.ir_token.specs.Ends.{opaque_end, place_or, text_end}
use Rattle.ir_token.proofs.Past.{within_if, past_within, past_stops, past_moves, run_past, past_run, run_is_past, run_there}
use Rattle.ir_token.proofs.Meaning.{some_first, string_to, name_is, meta_is, meta_moves, name_moves}
use Rattle.ir_token.proofs.Closes.{closes_within}

-- words at a place

pub spells_is : (w : List ℕ) (b : Bytes) (i : ℕ) → spells w b i ≡ true → Spells w b i
spells_is [] b i h = tt
spells_is (c ∷ w) b i h =
    let parts = and_parts (eqb (slice_index b i) c) (spells w b (i + 1)) h in
    let first : slice_index b i ≡ c = grind (arith, nat_tests, parts.0) in
    (first, spells_is w b (i + 1) parts.1)

pub spells_from : (w : List ℕ) (b : Bytes) (i : ℕ) → Spells w b i → spells w b i ≡ true
spells_from [] b i h = refl
spells_from (c ∷ w) b i h =
    let first : slice_index b i ≡ c = h.0 in
    let rest : spells w b (i + 1) ≡ true = spells_from w b (i + 1) h.1 in
    let here : eqb (slice_index b i) c ≡ true = grind (arith, nat_tests) in
    ap (λ s. s && spells w b (i + 1)) here ∙ rest

-- the byte behind a run of blanks that ends at a `=` is a blank or `=`
blank_or_sign : (b : Bytes) (i e : ℕ) → IsRun is_blank b i e → slice_index b e ≡ 61 → (is_blank (slice_index b i) || eqb (slice_index b i) 61) ≡ true
blank_or_sign b i e run sign =
    ⊎_elim
    (λ before. let first : is_blank (slice_index b i) ≡ true = run.each i (omega arith) before in grind (arith, nat_tests))
    (λ there. let f = run.forward in let same : i ≡ e = omega arith in let here : slice_index b i ≡ 61 = ap (slice_index b) same ∙ sign in
    grind (arith, nat_tests))
    (cases_lt i e)

-- a Meta ends where a blank or `=` stands
meta_exact : (b : Bytes) (i e : ℕ) → IsMeta b i e → (is_blank (slice_index b e) || eqb (slice_index b e) 61) ≡ true → meta_end b (i + 1) ≡ e
meta_exact b i e (mark, either) stop =
    let some : 0 < slice_index b e = grind (arith, nat_tests) in
    ⊎_elim
    (λ digits.
    let first : is_ascii_digit (slice_index b (i + 1)) ≡ true = some_first is_ascii_digit b (i + 1) e digits in
    let stops : is_ascii_digit (slice_index b e) ≡ false = grind (arith, nat_tests) in
    let there : past is_ascii_digit b (i + 1) ≡ e = run_there is_ascii_digit b (i + 1) e digits.1 stops some in
    let same : meta_end b (i + 1) ≡ past is_ascii_digit b (i + 1) = grind (arith, nat_tests) in
    same ∙ there)
    (λ other.
    let bare : is_ascii_digit (slice_index b (i + 1)) ≡ false = other.0 in
    let stops : is_meta (slice_index b e) ≡ false = grind (arith, nat_tests) in
    let there : past is_meta b (i + 1) ≡ e = run_there is_meta b (i + 1) e other.1.1 stops some in
    let same : meta_end b (i + 1) ≡ past is_meta b (i + 1) = grind (arith, nat_tests) in
    same ∙ there)
    either

-- a name ends where a blank or `=` stands
name_exact : (b : Bytes) (i e : ℕ) → IsName b i e → (is_blank (slice_index b e) || eqb (slice_index b e) 61) ≡ true → name_end b i ≡ e
name_exact b i e name stop =
    let some : 0 < slice_index b e = grind (arith, nat_tests) in
    ⊎_elim
    (λ digits.
    let first : is_ascii_digit (slice_index b i) ≡ true = some_first is_ascii_digit b i e digits in
    let stops : is_ascii_digit (slice_index b e) ≡ false = grind (arith, nat_tests) in
    let there : past is_ascii_digit b i ≡ e = run_there is_ascii_digit b i e digits.1 stops some in
    let same : name_end b i ≡ past is_ascii_digit b i = grind (arith, nat_tests) in
    same ∙ there)
    (⊎_elim
    (λ plain.
    let first : is_label (slice_index b i) ≡ true = some_first is_label b i e plain.1 in
    let bare : is_ascii_digit (slice_index b i) ≡ false = plain.0 in
    let stops : is_label (slice_index b e) ≡ false = grind (arith, nat_tests) in
    let there : past is_label b i ≡ e = run_there is_label b i e plain.1.1 stops some in
    let same : name_end b i ≡ past is_label b i = grind (arith, nat_tests) in
    same ∙ there)
    (λ string.
    let inside : e < length b = within_if b e some in
    let opens : slice_index b i ≡ 34 = string.1.0 in
    let low = string_to b i e (omega arith) string in
    grind (arith, nat_tests, low)))
    name

-- closed parts

pub closed_is : (b : Bytes) (i e : ℕ) → closed_end b i ≡ Some e → IsClosed b i e
closed_is b i e h = by_bracket (eqb (slice_index b i) 40 || eqb (slice_index b i) 123) refl h
  where
    by_bracket : (t : Bool) → (eqb (slice_index b i) 40 || eqb (slice_index b i) 123) ≡ t → cond t (closes_at 1 false (i + 1) (drop (i + 1) b)) None ≡ Some e
        → IsClosed b i e
    by_bracket true is closes = let bracket : (slice_index b i ≡ 40) ⊎ (slice_index b i ≡ 123) = grind (arith, nat_tests) in (bracket, closes)
    by_bracket false is closes = absurd (none-some e closes)

pub closed_from : (b : Bytes) (i e : ℕ) → IsClosed b i e → closed_end b i ≡ Some e
closed_from b i e (either, closes) =
    let bracket : (eqb (slice_index b i) 40 || eqb (slice_index b i) 123) ≡ true = ⊎_elim (λ round. grind (arith, nat_tests))
    (λ curly. grind (arith, nat_tests)) either in
    ap (λ t. cond t (closes_at 1 false (i + 1) (drop (i + 1) b)) None) bracket ∙ closes

pub closed_within : (b : Bytes) (i e : ℕ) → closed_end b i ≡ Some e → (i < e) × (e ≤ length b)
closed_within b i e h =
    let part = closed_is b i e h in
    let some : 0 < slice_index b i = ⊎_elim (λ (round : slice_index b i ≡ 40). omega arith) (λ (curly : slice_index b i ≡ 123). omega arith) part.0 in
    let inside : i < length b = within_if b i some in
    let ends = closes_within (drop (i + 1) b) 1 false (i + 1) e part.1 in
    (omega arith, omega (arith, length-drop (i + 1) b))

-- the first byte of a closed part
bracket_of : (b : Bytes) (i e : ℕ) → IsClosed b i e → (eqb (slice_index b i) 40 || eqb (slice_index b i) 123) ≡ true
bracket_of b i e (either, closes) = ⊎_elim (λ (round : slice_index b i ≡ 40). grind (arith, nat_tests))
    (λ (curly : slice_index b i ≡ 123). grind (arith, nat_tests)) either

-- metadata

pub metadata_is : (b : Bytes) (i : ℕ) → begins_metadata b i ≡ true → BeginsMetadata b i (metadata_equals b i + 1)
metadata_is b i h =
    let parts = and_parts (eqb (slice_index b i) 33 && ltb (i + 1) (meta_end b (i + 1))) (eqb (slice_index b (metadata_equals b i)) 61) h in
    let front = and_parts (eqb (slice_index b i) 33) (ltb (i + 1) (meta_end b (i + 1))) parts.0 in
    let mark : slice_index b i ≡ 33 = grind (arith, nat_tests, front.0) in
    let moves : i + 1 < meta_end b (i + 1) = grind (arith, nat_tests, front.1) in
    let equal : slice_index b (metadata_equals b i) ≡ 61 = grind (arith, nat_tests, parts.1) in
    record {
      name_end = meta_end b (i + 1);
      equals = metadata_equals b i;
      name = meta_is b i mark moves;
      blanks = past_run is_blank b (meta_end b (i + 1)) (metadata_equals b i) (omega arith) (omega arith);
      sign = equal;
      ends = refl;
    }

pub metadata_from : (b : Bytes) (i rest : ℕ) → BeginsMetadata b i rest → (begins_metadata b i ≡ true) × (metadata_equals b i + 1 ≡ rest)
metadata_from b i rest h =
    let equal : slice_index b h.equals ≡ 61 = h.sign in
    let stop = blank_or_sign b h.name_end h.equals h.blanks h.sign in
    let name : meta_end b (i + 1) ≡ h.name_end = meta_exact b i h.name_end h.name stop in
    let unblank : is_blank (slice_index b h.equals) ≡ false = grind (arith, nat_tests) in
    let there : past is_blank b h.name_end ≡ h.equals = run_there is_blank b h.name_end h.equals h.blanks unblank (omega arith) in
    let place : metadata_equals b i ≡ h.equals = ap (past is_blank b) name ∙ there in
    let moves : i + 1 < h.name_end = meta_moves b i h.name_end h.name in
    let mark : slice_index b i ≡ 33 = h.name.0 in
    let one : eqb (slice_index b i) 33 ≡ true = grind (arith, nat_tests) in
    let further : i + 1 < meta_end b (i + 1) = omega arith in
    let two : ltb (i + 1) (meta_end b (i + 1)) ≡ true = grind (arith, nat_tests) in
    let last : slice_index b (metadata_equals b i) ≡ 61 = ap (slice_index b) place ∙ equal in
    let three : eqb (slice_index b (metadata_equals b i)) 61 ≡ true = grind (arith, nat_tests) in
    (and_from _ _ (and_from _ _ one two) three, ap (λ n. n + 1) place ∙ sym h.ends)

-- the rest of metadata, by the place where it begins with `distinct` or `!`
pub rest_is : (b : Bytes) (i e : ℕ) → metadata_end b (past_distinct b (past is_blank b i)) ≡ Some e → EndsMetadata b i e
rest_is b i e h = by_mark (eqb (slice_index b (past_distinct b (past is_blank b i))) 33) refl h
  where
    distinct : (w : ℕ) → (t : Bool) → spells (codes "distinct") b w ≡ t → IsDistinct b w (cond t (past is_blank b (w + 8)) w)
    distinct w true is = inl (spells_is (codes "distinct") b w is, past_run is_blank b (w + 8) (past is_blank b (w + 8)) (omega arith) (omega arith))
    distinct w false is = inr refl

    by_mark : (t : Bool) → eqb (slice_index b (past_distinct b (past is_blank b i))) 33 ≡ t
        → cond t (closed_end b (past is_meta b (past_distinct b (past is_blank b i) + 1))) None ≡ Some e → EndsMetadata b i e
    by_mark true is closes =
        let mark : slice_index b (past_distinct b (past is_blank b i)) ≡ 33 = grind (arith, nat_tests, is) in
        record {
          word = past is_blank b i;
          mark = past_distinct b (past is_blank b i);
          bracket = past is_meta b (past_distinct b (past is_blank b i) + 1);
          blanks = past_run is_blank b i (past is_blank b i) (omega arith) (omega arith);
          distinct = distinct (past is_blank b i) (spells (codes "distinct") b (past is_blank b i)) refl;
          sign = mark;
          name = past_run is_meta b (past_distinct b (past is_blank b i) + 1) (past is_meta b (past_distinct b (past is_blank b i) + 1)) (omega arith)
              (omega arith);
          part = closed_is b (past is_meta b (past_distinct b (past is_blank b i) + 1)) e closes;
        }
    by_mark false is closes = absurd (none-some e closes)

-- the place of the second mark of metadata
mark_from : (b : Bytes) (word mark : ℕ) → IsDistinct b word mark → slice_index b mark ≡ 33
    → (is_blank (slice_index b word) ≡ false) × (0 < slice_index b word) × (past_distinct b word ≡ mark)
mark_from b word mark either sign =
    let unblank : is_blank (slice_index b mark) ≡ false = grind (arith, nat_tests) in
    let some : 0 < slice_index b mark = omega arith in
    ⊎_elim
    (λ spelled.
    let letter : slice_index b word ≡ 100 = spelled.0.0 in
    let other : is_blank (slice_index b word) ≡ false = grind (arith, nat_tests) in
    let is : spells (codes "distinct") b word ≡ true = spells_from (codes "distinct") b word spelled.0 in
    let there : past is_blank b (word + 8) ≡ mark = run_there is_blank b (word + 8) mark spelled.1 unblank some in
    (other, omega arith, ap (λ t. cond t (past is_blank b (word + 8)) word) is ∙ there))
    (λ same.
    let here : slice_index b word ≡ 33 = ap (slice_index b) (sym same) ∙ sign in
    let other : is_blank (slice_index b word) ≡ false = grind (arith, nat_tests) in
    let none : spells (codes "distinct") b word ≡ false = ⊎_elim
    (λ is. let letter : slice_index b word ≡ 100 = (spells_is (codes "distinct") b word is).0 in absurd (omega arith))
    (λ h. h) (cases_Bool (spells (codes "distinct") b word)) in
    (other, omega arith, ap (λ t. cond t (past is_blank b (word + 8)) word) none ∙ sym same))
    either

pub rest_from : (b : Bytes) (i e : ℕ) → EndsMetadata b i e → metadata_end b (past_distinct b (past is_blank b i)) ≡ Some e
rest_from b i e h =
    let mark = mark_from b h.word h.mark h.distinct h.sign in
    let word : past is_blank b i ≡ h.word = run_there is_blank b i h.word h.blanks mark.0 mark.1 in
    let sign : eqb (slice_index b h.mark) 33 ≡ true = let is : slice_index b h.mark ≡ 33 = h.sign in grind (arith, nat_tests) in
    let bracket = bracket_of b h.bracket e h.part in
    let unnamed : is_meta (slice_index b h.bracket) ≡ false = grind (arith, nat_tests, bracket) in
    let some : 0 < slice_index b h.bracket = grind (arith, nat_tests, bracket) in
    let there : past is_meta b (h.mark + 1) ≡ h.bracket = run_there is_meta b (h.mark + 1) h.bracket h.name unnamed some in
    let place : past_distinct b (past is_blank b i) ≡ h.mark = ap (past_distinct b) word ∙ mark.2 in
    ap (metadata_end b) place ∙ ap (λ t. cond t (closed_end b (past is_meta b (h.mark + 1))) None) sign ∙ ap (closed_end b) there
    ∙ closed_from b h.bracket e h.part

-- debug records

pub record_is : (b : Bytes) (i e : ℕ) → closed_end b (past is_word b i) ≡ Some e → EndsRecord b i e
record_is b i e h = (past is_word b i, (past_run is_word b i (past is_word b i) (omega arith) (omega arith), closed_is b (past is_word b i) e h))

pub record_from : (b : Bytes) (i e : ℕ) → EndsRecord b i e → closed_end b (past is_word b i) ≡ Some e
record_from b i e (bracket, (run, part)) =
    let first = bracket_of b bracket e part in
    let other : is_word (slice_index b bracket) ≡ false = grind (arith, nat_tests, first) in
    let some : 0 < slice_index b bracket = grind (arith, nat_tests, first) in
    ap (closed_end b) (run_there is_word b i bracket run other some) ∙ closed_from b bracket e part

-- comdats

pub comdat_is : (b : Bytes) (i : ℕ) → begins_comdat b i ≡ true → IsComdat b i (end_of_comdat b i)
comdat_is b i h =
    let word : ℕ = past is_blank b (comdat_equals b i + 1) in
    let parts = and_parts ((eqb (slice_index b i) 36 && ltb (i + 1) (name_end b (i + 1))) && eqb (slice_index b (comdat_equals b i)) 61)
    (begins_choice b (past is_blank b (comdat_equals b i + 1))) h in
    let front = and_parts (eqb (slice_index b i) 36 && ltb (i + 1) (name_end b (i + 1))) (eqb (slice_index b (comdat_equals b i)) 61) parts.0 in
    let first = and_parts (eqb (slice_index b i) 36) (ltb (i + 1) (name_end b (i + 1))) front.0 in
    let mark : slice_index b i ≡ 36 = grind (arith, nat_tests, first.0) in
    let moves : i + 1 < name_end b (i + 1) = grind (arith, nat_tests, first.1) in
    let equal : slice_index b (comdat_equals b i) ≡ 61 = grind (arith, nat_tests, front.1) in
    of_choice b i (past is_blank b (comdat_equals b i + 1)) refl mark moves equal parts.1
  where
    of_choice : (b : Bytes) (i word : ℕ) → word ≡ past is_blank b (comdat_equals b i + 1) → slice_index b i ≡ 36 → i + 1 < name_end b (i + 1)
        → slice_index b (comdat_equals b i) ≡ 61
        → begins_choice b word ≡ true → IsComdat b i (past is_word b (choice_at b word))
    of_choice b i word place mark moves equal choice =
        let parts = and_parts (spells (codes "comdat") b word && is_blank (slice_index b (word + 6))) (begins_word (slice_index b (choice_at b word))) choice in
        let front = and_parts (spells (codes "comdat") b word) (is_blank (slice_index b (word + 6))) parts.0 in
        let blank : is_blank (slice_index b (word + 6)) ≡ true = front.1 in
        let letter : begins_word (slice_index b (choice_at b word)) ≡ true = parts.1 in
        let some : 0 < slice_index b (word + 6) = grind (arith, nat_tests, blank) in
        let inside : word + 6 < length b = within_if b (word + 6) some in
        let apart : word + 6 < choice_at b word = past_moves is_blank b (word + 6) inside blank in
        let there : 0 < slice_index b (choice_at b word) = grind (arith, nat_tests, letter) in
        let within : choice_at b word < length b = within_if b (choice_at b word) there in
        record {
          name_end = name_end b (i + 1);
          equals = comdat_equals b i;
          word = word;
          choice = choice_at b word;
          name = (mark, name_is b (i + 1) moves);
          blanks = past_run is_blank b (name_end b (i + 1)) (comdat_equals b i) (omega arith) (omega arith);
          sign = equal;
          further = past_run is_blank b (comdat_equals b i + 1) word (omega arith) (omega arith);
          spelled = spells_is (codes "comdat") b word front.0;
          apart = (apart, past_run is_blank b (word + 6) (choice_at b word) (omega arith) (omega arith));
          letter = letter;
          chosen = past_run is_word b (choice_at b word) (past is_word b (choice_at b word)) (omega arith) (omega arith);
          ends = stops b (choice_at b word) (omega arith);
        }
      where
        stops : (b : Bytes) (j : ℕ) → j ≤ length b → is_word (slice_index b (past is_word b j)) ≡ false
        stops b j within =
            ⊎_elim
            (λ inside. past_stops is_word b j inside)
            (λ outside. let none : slice_index b (past is_word b j) ≡ 0 = get_or_past b (past is_word b j) 0 outside in grind (arith, nat_tests))
            (cases_lt (past is_word b j) (length b))

-- the places of a comdat
comdat_places : (b : Bytes) (i e : ℕ) (h : IsComdat b i e)
    → (name_end b (i + 1) ≡ h.name_end) × (comdat_equals b i ≡ h.equals) × (past is_blank b (comdat_equals b i + 1) ≡ h.word) × (choice_at b h.word ≡ h.choice)
comdat_places b i e h =
    let equal : slice_index b h.equals ≡ 61 = h.sign in
    let stop = blank_or_sign b h.name_end h.equals h.blanks h.sign in
    let name : name_end b (i + 1) ≡ h.name_end = name_exact b (i + 1) h.name_end h.name.1 stop in
    let unblank : is_blank (slice_index b h.equals) ≡ false = grind (arith, nat_tests) in
    let there : past is_blank b h.name_end ≡ h.equals = run_there is_blank b h.name_end h.equals h.blanks unblank (omega arith) in
    let equals : comdat_equals b i ≡ h.equals = ap (past is_blank b) name ∙ there in
    let letter : slice_index b h.word ≡ 99 = h.spelled.0 in
    let bare : is_blank (slice_index b h.word) ≡ false = grind (arith, nat_tests) in
    let word : past is_blank b (h.equals + 1) ≡ h.word = run_there is_blank b (h.equals + 1) h.word h.further bare (omega arith) in
    let begins : begins_word (slice_index b h.choice) ≡ true = h.letter in
    let other : is_blank (slice_index b h.choice) ≡ false = grind (arith, nat_tests, begins) in
    let some : 0 < slice_index b h.choice = grind (arith, nat_tests, begins) in
    let choice : past is_blank b (h.word + 6) ≡ h.choice = run_there is_blank b (h.word + 6) h.choice h.apart.1 other some in
    (name, equals, ap (λ n. past is_blank b (n + 1)) equals ∙ word, choice)

pub comdat_from : (b : Bytes) (i e : ℕ) → IsComdat b i e → begins_comdat b i ≡ true
comdat_from b i e h =
    let at = comdat_places b i e h in
    let mark : slice_index b i ≡ 36 = h.name.0 in
    let one : eqb (slice_index b i) 36 ≡ true = grind (arith, nat_tests) in
    let moves : i + 1 < h.name_end = name_moves b (i + 1) h.name_end h.name.1 in
    let further : i + 1 < name_end b (i + 1) = omega (arith, at.0) in
    let two : ltb (i + 1) (name_end b (i + 1)) ≡ true = grind (arith, nat_tests) in
    let last : slice_index b (comdat_equals b i) ≡ 61 = ap (slice_index b) at.1 ∙ h.sign in
    let three : eqb (slice_index b (comdat_equals b i)) 61 ≡ true = grind (arith, nat_tests) in
    let blank : is_blank (slice_index b (h.word + 6)) ≡ true = some_first is_blank b (h.word + 6) h.choice h.apart in
    let letter : begins_word (slice_index b (choice_at b h.word)) ≡ true = ap (λ n. begins_word (slice_index b n)) at.3 ∙ h.letter in
    let choice : begins_choice b h.word ≡ true = and_from _ _ (and_from _ _ (spells_from (codes "comdat") b h.word h.spelled) blank) letter in
    and_from _ _ (and_from _ _ (and_from _ _ one two) three) (ap (begins_choice b) at.2 ∙ choice)

pub comdat_to : (b : Bytes) (i e : ℕ) → e ≤ length b → IsComdat b i e → end_of_comdat b i ≡ e
comdat_to b i e within h =
    let at = comdat_places b i e h in
    let place : choice_at b (past is_blank b (comdat_equals b i + 1)) ≡ h.choice = ap (choice_at b) at.2 ∙ at.3 in
    let there : past is_word b h.choice ≡ e = ⊎_elim (λ inside. run_is_past is_word b h.choice e inside h.chosen h.ends)
    (λ outside. let low = run_past is_word b h.choice e within h.chosen in
    let top = (past_within is_word b h.choice (omega (arith, h.chosen.forward))).1 in omega arith) (cases_lt e (length b)) in
    ap (past is_word b) place ∙ there

-- the three together

-- the first byte tells which of the three begins
metadata_mark : (b : Bytes) (i : ℕ) → begins_metadata b i ≡ true → slice_index b i ≡ 33
metadata_mark b i h = (metadata_is b i h).name.0

record_mark : (b : Bytes) (i : ℕ) → begins_record b i ≡ true → slice_index b i ≡ 35
record_mark b i h = (spells_is (codes "#dbg_") b i h).0

comdat_mark : (b : Bytes) (i : ℕ) → begins_comdat b i ≡ true → slice_index b i ≡ 36
comdat_mark b i h = (comdat_is b i h).name.0

pub which : (b : Bytes) (i : ℕ) → begins_opaque b i ≡ true → (begins_metadata b i ≡ true) ⊎ ((begins_record b i ≡ true) ⊎ (begins_comdat b i ≡ true))
which b i h = three (begins_metadata b i) (begins_record b i) (begins_comdat b i) h
  where
    three : (x y z : Bool) → (x || (y || z)) ≡ true → (x ≡ true) ⊎ ((y ≡ true) ⊎ (z ≡ true))
    three true y z h = inl refl
    three false true z h = inr (inl refl)
    three false false true h = inr (inr refl)
    three false false false h = absurd (cc)

first_of_three : (x y z : Bool) → x ≡ true → (x || (y || z)) ≡ true
first_of_three x y z h = ap (λ s. s || (y || z)) h

second_of_three : (x y z : Bool) → y ≡ true → (x || (y || z)) ≡ true
second_of_three true y z h = refl
second_of_three false y z h = ap (λ s. s || z) h

third_of_three : (x y z : Bool) → z ≡ true → (x || (y || z)) ≡ true
third_of_three true y z h = refl
third_of_three false true z h = refl
third_of_three false false z h = h

not_metadata : (b : Bytes) (i c : ℕ) → slice_index b i ≡ c → (c ≡ 33 → ⊥) → begins_metadata b i ≡ false
not_metadata b i c is other = ⊎_elim (λ h. absurd (other (sym is ∙ metadata_mark b i h))) (λ h. h) (cases_Bool (begins_metadata b i))

not_record : (b : Bytes) (i c : ℕ) → slice_index b i ≡ c → (c ≡ 35 → ⊥) → begins_record b i ≡ false
not_record b i c is other = ⊎_elim (λ h. absurd (other (sym is ∙ record_mark b i h))) (λ h. h) (cases_Bool (begins_record b i))

-- the end of each of the three
pub end_metadata : (b : Bytes) (i : ℕ) → begins_metadata b i ≡ true → opaque_end b i ≡ end_of_metadata b i
end_metadata b i h = ap (λ t. cond t (end_of_metadata b i) (cond (begins_record b i) (end_of_record b i) (Some (end_of_comdat b i)))) h

pub end_record : (b : Bytes) (i : ℕ) → begins_record b i ≡ true → opaque_end b i ≡ end_of_record b i
end_record b i h =
    let other : begins_metadata b i ≡ false = not_metadata b i 35 (record_mark b i h) (λ same. omega arith) in
    ap (λ t. cond t (end_of_metadata b i) (cond (begins_record b i) (end_of_record b i) (Some (end_of_comdat b i)))) other ∙ ap
    (λ t. cond t (end_of_record b i) (Some (end_of_comdat b i))) h

pub end_comdat : (b : Bytes) (i : ℕ) → begins_comdat b i ≡ true → opaque_end b i ≡ Some (end_of_comdat b i)
end_comdat b i h =
    let mark = comdat_mark b i h in
    let one : begins_metadata b i ≡ false = not_metadata b i 36 mark (λ same. omega arith) in
    let two : begins_record b i ≡ false = not_record b i 36 mark (λ same. omega arith) in
    ap (λ t. cond t (end_of_metadata b i) (cond (begins_record b i) (end_of_record b i) (Some (end_of_comdat b i)))) one ∙ ap
    (λ t. cond t (end_of_record b i) (Some (end_of_comdat b i))) two

pub opaque_is : (b : Bytes) (i : ℕ) → begins_opaque b i ≡ true → BeginsOpaque b i
opaque_is b i h = ⊎_elim
    (λ data'. inl (metadata_equals b i + 1, metadata_is b i data'))
    (⊎_elim (λ debug. inr (inl (spells_is (codes "#dbg_") b i debug))) (λ comdat. inr (inr (end_of_comdat b i, comdat_is b i comdat)))) (which b i h)

pub opaque_from : (b : Bytes) (i : ℕ) → BeginsOpaque b i → begins_opaque b i ≡ true
opaque_from b i h =
    ⊎_elim
    (λ data'. first_of_three (begins_metadata b i) (begins_record b i) (begins_comdat b i) (metadata_from b i data'.0 data'.1).0)
    (⊎_elim
    (λ debug. second_of_three (begins_metadata b i) (begins_record b i) (begins_comdat b i) (spells_from (codes "#dbg_") b i debug))
    (λ comdat. third_of_three (begins_metadata b i) (begins_record b i) (begins_comdat b i) (comdat_from b i comdat.0 comdat.1)))
    h

pub opaque_first : (b : Bytes) (i : ℕ) → begins_opaque b i ≡ true → ((slice_index b i ≡ 33) ⊎ (slice_index b i ≡ 36)) ⊎ (slice_index b i ≡ 35)
opaque_first b i h = ⊎_elim
    (λ data'. inl (inl (metadata_mark b i data'))) (⊎_elim (λ debug. inr (record_mark b i debug)) (λ comdat. inl (inr (comdat_mark b i comdat)))) (which b i h)

-- the text that the end tells is an Opaque
pub opaque_text : (b : Bytes) (i e : ℕ) → begins_opaque b i ≡ true → opaque_end b i ≡ Some e → IsOpaque b i e
opaque_text b i e begins ends =
    ⊎_elim
    (λ data'. inl (metadata_equals b i + 1, (metadata_is b i data', rest_is b (metadata_equals b i + 1) e (sym (end_metadata b i data') ∙ ends))))
    (⊎_elim
    (λ debug. inr (inl (spells_is (codes "#dbg_") b i debug, record_is b (i + 5) e (sym (end_record b i debug) ∙ ends))))
    (λ comdat. let same : end_of_comdat b i ≡ e = same_Some (end_of_comdat b i) e (sym (end_comdat b i comdat) ∙ ends) in
    inr (inr (subst (λ n. IsComdat b i n) same (comdat_is b i comdat)))))
    (which b i begins)

-- an Opaque begins, and ends where the end tells
pub opaque_begins : (b : Bytes) (i e : ℕ) → IsOpaque b i e → BeginsOpaque b i
opaque_begins b i e h = ⊎_elim (λ data'. inl (data'.0, data'.1.0)) (⊎_elim (λ debug. inr (inl debug.0)) (λ comdat. inr (inr (e, comdat)))) h

pub opaque_to : (b : Bytes) (i e : ℕ) → e ≤ length b → IsOpaque b i e → opaque_end b i ≡ Some e
opaque_to b i e within h =
    ⊎_elim
    (λ data'. let from = metadata_from b i data'.0 data'.1.0 in
    end_metadata b i from.0 ∙ ap (λ n. metadata_end b (past_distinct b (past is_blank b n))) from.1 ∙ rest_from b data'.0 e data'.1.1)
    (⊎_elim
    (λ debug. end_record b i (spells_from (codes "#dbg_") b i debug.0) ∙ record_from b (i + 5) e debug.1)
    (λ comdat. end_comdat b i (comdat_from b i e comdat) ∙ ap (λ n. Some n) (comdat_to b i e within comdat)))
    h

-- an Opaque has a byte
pub opaque_moves : (b : Bytes) (i e : ℕ) → IsOpaque b i e → i < e
opaque_moves b i e h = ⊎_elim (λ data'. data_moves data'.0 data'.1.0 data'.1.1) (⊎_elim (λ debug. debug_moves debug.1) comdat_moves) h
  where
    data_moves : (rest : ℕ) → BeginsMetadata b i rest → EndsMetadata b rest e → i < e
    data_moves rest first last =
        let moves : i + 1 < first.name_end = meta_moves b i first.name_end first.name in
        let one = first.blanks.forward in
        let two = last.blanks.forward in
        let three = last.name.forward in
        let four : last.word ≤ last.mark = ⊎_elim (λ spelled. let f = spelled.1.forward in omega arith) (λ same. omega arith) last.distinct in
        let five : rest ≡ first.equals + 1 = first.ends in
        let six = (closed_within b last.bracket e (closed_from b last.bracket e last.part)).0 in
        omega arith

    debug_moves : EndsRecord b (i + 5) e → i < e
    debug_moves rest = let one = rest.1.0.forward in let two = (closed_within b rest.0 e (closed_from b rest.0 e rest.1.1)).0 in omega arith

    comdat_moves : IsComdat b i e → i < e
    comdat_moves text =
        let moves : i + 1 < text.name_end = name_moves b (i + 1) text.name_end text.name.1 in
        let one = text.blanks.forward in
        let two = text.further.forward in
        let three = text.apart.0 in
        let four = text.chosen.forward in
        omega arith

-- an Opaque ends in the text
pub opaque_within : (b : Bytes) (i e : ℕ) → begins_opaque b i ≡ true → opaque_end b i ≡ Some e → e ≤ length b
opaque_within b i e begins ends = ⊎_elim data_within (⊎_elim debug_within comdat_within) (which b i begins)
  where
    data_within : begins_metadata b i ≡ true → e ≤ length b
    data_within h =
        let rest = rest_is b (metadata_equals b i + 1) e (sym (end_metadata b i h) ∙ ends) in
        (closed_within b rest.bracket e (closed_from b rest.bracket e rest.part)).1

    debug_within : begins_record b i ≡ true → e ≤ length b
    debug_within h =
        let rest = record_is b (i + 5) e (sym (end_record b i h) ∙ ends) in
        (closed_within b rest.0 e (closed_from b rest.0 e rest.1.1)).1

    comdat_within : begins_comdat b i ≡ true → e ≤ length b
    comdat_within h =
        let same : end_of_comdat b i ≡ e = same_Some (end_of_comdat b i) e (sym (end_comdat b i h) ∙ ends) in
        let text = comdat_is b i h in
        let letter : begins_word (slice_index b text.choice) ≡ true = text.letter in
        let some : 0 < slice_index b text.choice = grind (arith, nat_tests, letter) in
        let chosen : text.choice < length b = within_if b text.choice some in
        let places = comdat_places b i (end_of_comdat b i) text in
        let place : choice_at b (past is_blank b (comdat_equals b i + 1)) ≡ text.choice = ap (choice_at b) places.2 ∙ places.3 in
        let there : end_of_comdat b i ≡ past is_word b text.choice = ap (past is_word b) place in
        let top = past_within is_word b text.choice (omega arith) in
        omega (arith, top.1)

-- where the text of an Opaque ends
pub opaque_text_end : (b : Bytes) (i : ℕ) → begins_opaque b i ≡ true → text_end b i Opaque ≡ place_or i (opaque_end b i)
opaque_text_end b i h =
    let marks : ((eqb (slice_index b i) 33 || eqb (slice_index b i) 36) || eqb (slice_index b i) 35) ≡ true = ⊎_elim
    (⊎_elim (λ (one : slice_index b i ≡ 33). grind (arith, nat_tests)) (λ (two : slice_index b i ≡ 36). grind (arith, nat_tests)))
    (λ (three : slice_index b i ≡ 35). grind (arith, nat_tests)) (opaque_first b i h) in
    ap (λ t. cond t (cond (begins_opaque b i) (place_or i (opaque_end b i)) i) i) marks ∙ ap (λ t. cond t (place_or i (opaque_end b i)) i) h

pub opaque_none : (b : Bytes) (i : ℕ) → begins_opaque b i ≡ false → text_end b i Opaque ≡ i
opaque_none b i h = by_mark ((eqb (slice_index b i) 33 || eqb (slice_index b i) 36) || eqb (slice_index b i) 35)
  where
    by_mark : (t : Bool) → cond t (cond (begins_opaque b i) (place_or i (opaque_end b i)) i) i ≡ i
    by_mark true = ap (λ t. cond t (place_or i (opaque_end b i)) i) h
    by_mark false = refl
