-- Every text is read as something: at each place there is a token, or none can begin, or a string has no end.
use Rattle.std.proofs.Common.{◌≡◌, ℕ, zero, suc, ◌+◌, ◌<◌, ◌≤◌, Bool, true, false, not, ◌⊎◌, inl, inr, eqb, Option, None, Some, List, [], ◌∷◌, ◌++◌, length}
use Rattle.std.proofs.Common.{drop, refl, sym, ap, ◌∙◌, subst, ⊎_elim, arith, length-drop}
use Rattle.std.proofs.lemmas.Bool.{cases_lt, cases_Bool, cases_eq, both_ways}
use Rattle.std.proofs.lemmas.Bool.Decides.{nat_tests}
use Rattle.std.specs.List.{slice_index, slice_range}
use Rattle.std.specs.Char.{is_ascii_digit}
use Rattle.ir_token.specs.declared.token.Kind.{Kind}
use Rattle.ir_token.specs.declared.token.Kind.TheVariants.{Word, Global, Local, Comdat, Label, Int, Str, CStr, Group, Meta, Punct, Dots, Opaque}
use Rattle.ir_token.specs.declared.token.Token.{Token}
use Rattle.ir_token.specs.declared.found.Found.{Found}
use Rattle.ir_token.specs.declared.found.Found.TheVariants.{Token as FoundToken, Bad, Open}
use Rattle.ir_token.specs.Bytes.{Bytes, is_word, is_label, is_meta, is_inside, ends_comment}
use Rattle.ir_token.specs.Texts.{order, IsToken}
use Rattle.ir_token.specs.Names.{name_at}
use Rattle.ir_token.specs.LeftOut.{gap_len, past_gap, is_left_word, is_left_name, BeginsVector, IsLeft}
use Rattle.ir_token.specs.Ends.{past, string_end, name_end, text_end, begins_opaque, opaque_end, place_or, lacks_quote, StandsByEnds, Stands}
use Rattle.ir_token.specs.Lists.{Reaches, Reading, Reads}
use Rattle.ir_token.specs.Lists.Reading.{Listed, BadAt, OpenAt, LeftAt}
use Rattle.ir_token.proofs.Past.{within_if, past_within}
use Rattle.ir_token.proofs.Opaques.{opaque_text_end, opaque_none, opaque_within}
use Rattle.ir_token.proofs.Standing.{stands}
use Rattle.ir_token.proofs.Unique.{kind_at, kind_at-order, same_kind, same_token, token_moves, not_bad, not_open}
use Rattle.ir_token.proofs.Chains.{make, reaches_push}

-- no end lies beyond the text

string_within : (b : Bytes) (i : ℕ) → i ≤ length b → string_end b i ≤ length b
string_within b i h =
    ⊎_elim
    (λ found. let quote : 0 < slice_index b (past is_inside b (i + 1)) = grind (arith, nat_tests) in
    let inside = within_if b (past is_inside b (i + 1)) quote in let e : string_end b i ≡ past is_inside b (i + 1) + 1 = grind (arith, nat_tests) in
    omega arith)
    (λ none. omega arith)
    (cases_lt i (string_end b i))

name_within : (b : Bytes) (i : ℕ) → i ≤ length b → name_end b i ≤ length b
name_within b i h =
    let digits = (past_within is_ascii_digit b i h).1 in
    let labels = (past_within is_label b i h).1 in
    let string = string_within b i h in
    grind (arith, nat_tests, digits, labels, string)

end_within : (k : Kind) (b : Bytes) (i : ℕ) → i < length b → text_end b i k ≤ length b
end_within Opaque b i h = ⊎_elim (λ begins. let same = opaque_text_end b i begins in omega (arith, by_end begins (opaque_end b i) refl))
    (λ plain. omega (arith, opaque_none b i plain)) (cases_Bool (begins_opaque b i))
  where
    by_end : begins_opaque b i ≡ true → (o : Option ℕ) → opaque_end b i ≡ o → place_or i o ≤ length b
    by_end begins None ends = omega arith
    by_end begins (Some e) ends = opaque_within b i e begins ends
end_within Label b i h = label_within b i h
  where
    label_within : (b : Bytes) (i : ℕ) → i < length b → text_end b i Label ≤ length b
    label_within b i h =
        ⊎_elim
        (λ moves. ⊎_elim
        (λ quoted. let colon : 0 < slice_index b (string_end b i) = grind (arith, nat_tests) in let inside = within_if b (string_end b i) colon in
        let e : text_end b i Label ≡ string_end b i + 1 = grind (arith, nat_tests) in omega arith)
        (λ plain. let colon : 0 < slice_index b (past is_label b i) = grind (arith, nat_tests) in let inside = within_if b (past is_label b i) colon in
        let e : text_end b i Label ≡ past is_label b i + 1 = grind (arith, nat_tests) in omega arith)
        (cases_Bool (eqb (slice_index b i) 34)))
        (λ stays. omega arith)
        (cases_lt i (text_end b i Label))
end_within Global b i h = let top = name_within b (i + 1) (omega arith) in grind (arith, nat_tests, top)
end_within Local b i h = let top = name_within b (i + 1) (omega arith) in grind (arith, nat_tests, top)
end_within Comdat b i h = let top = name_within b (i + 1) (omega arith) in grind (arith, nat_tests, top)
end_within Str b i h = let top = string_within b i (omega arith) in grind (arith, nat_tests, top)
end_within CStr b i h = let top = string_within b (i + 1) (omega arith) in grind (arith, nat_tests, top)
end_within Group b i h = let top = (past_within is_ascii_digit b (i + 1) (omega arith)).1 in grind (arith, nat_tests, top)
end_within Meta b i h = let top = (past_within is_meta b (i + 1) (omega arith)).1 in let digits = (past_within is_ascii_digit b (i + 1) (omega arith)).1 in
    grind (arith, nat_tests, top, digits)
end_within Int b i h = let top = (past_within is_ascii_digit b (i + 1) (omega arith)).1 in let all = (past_within is_ascii_digit b i (omega arith)).1 in
    grind (arith, nat_tests, top, all)
end_within Word b i h = let top = (past_within is_word b i (omega arith)).1 in grind (arith, nat_tests, top)
end_within Dots b i h = dots_within b i h
  where
    dots_within : (b : Bytes) (i : ℕ) → i < length b → text_end b i Dots ≤ length b
    dots_within b i h =
        ⊎_elim
        (λ moves. let last : 0 < slice_index b (i + 2) = grind (arith, nat_tests) in let inside = within_if b (i + 2) last in
        let e : text_end b i Dots ≡ i + 3 = grind (arith, nat_tests) in omega arith)
        (λ stays. omega arith)
        (cases_lt i (text_end b i Dots))
end_within Punct b i h = grind (arith, nat_tests)

-- of the kinds up to a place of the order, the first of those with the greatest number

record IsBest (f : Kind → ℕ) (n : ℕ) (k : Kind) : Type 0 where
  pub placed : order k ≤ n
  pub greatest : (j : Kind) → order j ≤ n → f j ≤ f k
  pub first : (j : Kind) → order j ≤ n → f k ≡ f j → order k ≤ order j

order-kind_at : (n : ℕ) → n ≤ 12 → order (kind_at n) ≡ n
unfolding kind_at
order-kind_at n h = grind (arith, nat_tests)

at_place : (n : ℕ) (j : Kind) → order j ≡ n → j ≡ kind_at n
at_place n j same = sym (kind_at-order j) ∙ ap kind_at same

best_more : (f : Kind → ℕ) (n : ℕ) (k : Kind) → suc n ≤ 12 → IsBest f n k → (j : Kind) × IsBest f (suc n) j
best_more f n k h best = ⊎_elim (λ more. (kind_at (suc n), newer more)) (λ less. (k, older less)) (cases_lt (f k) (f (kind_at (suc n))))
  where
    place : order (kind_at (suc n)) ≡ suc n
    place = order-kind_at (suc n) h

    newer : f k < f (kind_at (suc n)) → IsBest f (suc n) (kind_at (suc n))
    newer more = record {
      placed = omega (arith, place);
      greatest = λ j within. ⊎_elim (λ before. omega (arith, best.greatest j (omega arith)))
          (λ there. let same : j ≡ kind_at (suc n) = at_place (suc n) j (omega arith) in let e : f j ≡ f (kind_at (suc n)) = ap f same in omega arith)
          (cases_lt (order j) (suc n));
      first = λ j within ties. ⊎_elim (λ before. absurd (omega (arith, best.greatest j (omega arith))))
          (λ there. omega (arith, place)) (cases_lt (order j) (suc n));
    }

    older : f (kind_at (suc n)) ≤ f k → IsBest f (suc n) k
    older less = record {
      placed = omega (arith, best.placed);
      greatest = λ j within. ⊎_elim (λ before. best.greatest j (omega arith))
          (λ there. let same : j ≡ kind_at (suc n) = at_place (suc n) j (omega arith) in let e : f j ≡ f (kind_at (suc n)) = ap f same in omega arith)
          (cases_lt (order j) (suc n));
      first = λ j within ties. ⊎_elim (λ before. best.first j (omega arith) ties) (λ there. omega (arith, best.placed)) (cases_lt (order j) (suc n));
    }

best : (f : Kind → ℕ) (n : ℕ) → n ≤ 12 → (k : Kind) × IsBest f n k
best f zero h = (
  Opaque,
  record {
    placed = omega arith;
    greatest = λ j within. let same : j ≡ Opaque = same_kind j Opaque (omega arith) in let e : f j ≡ f Opaque = ap f same in omega arith;
    first = λ j within ties. omega arith;
  },
)
best f (suc n) h = let one = best f n (omega arith) in best_more f n one.0 h one.1

order_small : (k : Kind) → order k ≤ 12
order_small Opaque = omega arith
order_small Label = omega arith
order_small Global = omega arith
order_small Local = omega arith
order_small Comdat = omega arith
order_small Str = omega arith
order_small CStr = omega arith
order_small Group = omega arith
order_small Meta = omega arith
order_small Int = omega arith
order_small Word = omega arith
order_small Dots = omega arith
order_small Punct = omega arith

-- what stands at a place

plain_here : (b : Bytes) (i : ℕ) → i < length b → begins_opaque b i ≡ false → lacks_quote b i ≡ false → (found : Found) × StandsByEnds b i found
plain_here b i h plain closed =
    let top = best (λ k. text_end b i k) 12 (omega arith) in
    ⊎_elim
    (λ moves. (
      FoundToken top.0 (text_end b i top.0),
      record {
        within = end_within top.0 b i h;
        unread = λ begins. absurd (both_ways (begins_opaque b i) plain begins);
        longest = λ _. (
          record {
            is_one = (moves, refl);
            longest = λ j. top.1.greatest j (order_small j);
            first = λ j ties. top.1.first j
                (order_small j) ties;
          },
          closed,
        );
      },
    ))
    (λ stays. (
      Bad,
      record {
        within = h;
        unread = λ begins. absurd (both_ways (begins_opaque b i) plain begins);
        none = λ _.
            (λ k. omega (arith, top.1.greatest k (order_small k)), closed);
      },
    ))
    (cases_lt i (text_end b i top.0))

opaque_here : (b : Bytes) (i : ℕ) → i < length b → begins_opaque b i ≡ true → (found : Found) × StandsByEnds b i found
opaque_here b i h begins = by_end (opaque_end b i) refl
  where
    by_end : (o : Option ℕ) → opaque_end b i ≡ o → (found : Found) × StandsByEnds b i found
    by_end None ends = (Bad, record { within = h; unread = λ _. ends; none = λ plain. absurd (both_ways (begins_opaque b i) plain begins) })
    by_end (Some e) ends = (
      FoundToken Opaque e,
      record {
        within = opaque_within b i e begins ends;
        unread = λ _. (refl, ends);
        longest = λ plain. absurd (both_ways (begins_opaque b i) plain begins);
      },
    )

pub found_here : (b : Bytes) (i : ℕ) → i < length b → (found : Found) × Stands b i found
found_here b i h =
    let ends : (found : Found) × StandsByEnds b i found =
    ⊎_elim (λ begins. opaque_here b i h begins)
    (λ plain. ⊎_elim (λ lacks. (Open, record { within = h; unread = plain; unclosed = lacks }))
    (λ closed. plain_here b i h plain closed) (cases_Bool (lacks_quote b i)))
    (cases_Bool (begins_opaque b i)) in
    stands b i ends.0 h ends.1

-- whether a token is left out

kind_or : (k j : Kind) → (k ≡ j) ⊎ (k ≡ j → ⊥)
kind_or k j = ⊎_elim (λ same. inl (same_kind k j same)) (λ apart. inr (λ same. apart (ap order same))) (cases_eq (order k) (order j))

true_or : (t : Bool) → (t ≡ true) ⊎ (t ≡ true → ⊥)
true_or true = inl refl
true_or false = inr (λ h. cc)

int_or : (b : Bytes) (i : ℕ) → ((to : ℕ) × IsToken b i Int to) ⊎ (((to : ℕ) × IsToken b i Int to) → ⊥)
int_or b i = ⊎_elim (λ inside. by_found inside (found_here b i inside))
    (λ outside. inr (λ h. absurd (omega (arith, token_moves b i Int h.0 h.1, h.1.longest.within)))) (cases_lt i (length b))
  where
    by_found : i < length b → (found : Found) × Stands b i found → ((to : ℕ) × IsToken b i Int to) ⊎ (((to : ℕ) × IsToken b i Int to) → ⊥)
    by_found inside (FoundToken k e, token) =
        ⊎_elim (λ same. let P : Kind → Type 0 = λ x. IsToken b i x e in inl (e, subst P same token))
        (λ apart. inr (λ h. apart (same_token b i k Int e h.0 token h.1).0)) (kind_or k Int)
    by_found inside (Bad, bad) = inr (λ h. not_bad b i Int h.0 bad h.1)
    by_found inside (Open, opens) = inr (λ h. not_open b i Int h.0 opens h.1)

left_or : (b : Bytes) (i : ℕ) (k : Kind) (e : ℕ) → IsLeft b i k e ⊎ (IsLeft b i k e → ⊥)
left_or b i k e =
    ⊎_elim (λ h. inl (inl h))
    (λ no_word. ⊎_elim (λ h. inl (inr (inl h)))
    (λ no_name. ⊎_elim (λ h. inl (inr (inr h))) (λ no_vector. inr (λ h. ⊎_elim no_word (λ g. ⊎_elim no_name no_vector g) h)) vector) name) word
  where
    word : ((k ≡ Word) × (is_left_word (slice_range b i e) ≡ true)) ⊎ (((k ≡ Word) × (is_left_word (slice_range b i e) ≡ true)) → ⊥)
    word = ⊎_elim (λ is. ⊎_elim (λ left. inl (is, left)) (λ kept. inr (λ h. kept h.1)) (true_or (is_left_word (slice_range b i e))))
        (λ other. inr (λ h. other h.0)) (kind_or k Word)

    name : ((k ≡ Global) × (is_left_name (name_at b Global i e) ≡ true)) ⊎ (((k ≡ Global) × (is_left_name (name_at b Global i e) ≡ true)) → ⊥)
    name = ⊎_elim (λ is. ⊎_elim (λ left. inl (is, left)) (λ kept. inr (λ h. kept h.1)) (true_or (is_left_name (name_at b Global i e))))
        (λ other. inr (λ h. other h.0)) (kind_or k Global)

    vector : BeginsVector b i k e ⊎ (BeginsVector b i k e → ⊥)
    vector =
        ⊎_elim (λ is. ⊎_elim (λ opens. ⊎_elim (λ int. inl (is, opens, int)) (λ none. inr (λ h. none h.2)) (int_or b (past_gap b e)))
        (λ other. inr (λ h. other h.1)) (cases_eq (slice_index b i) 60)) (λ other. inr (λ h. other h.0)) (kind_or k Punct)

-- the text from a place on

gap_within : (open_comment : Bool) (z : Bytes) → gap_len open_comment z ≤ length z
gap_within open_comment [] = gap_none open_comment
  where
    gap_none : (open_comment : Bool) → gap_len open_comment [] ≤ 0
    gap_none true = omega arith
    gap_none false = omega arith
gap_within true (c ∷ z) = omega (arith, gap_within (not (ends_comment c)) z)
gap_within false (c ∷ z) = either c z (gap_within true z) (gap_within false z)
  where
    either : (c : ℕ) (z : Bytes) → gap_len true z ≤ length z → gap_len false z ≤ length z → gap_len false (c ∷ z) ≤ suc (length z)
    either c z one two = grind (arith, nat_tests)

past_gap_within : (b : Bytes) (i : ℕ) → i ≤ length b → past_gap b i ≤ length b
past_gap_within b i h = omega (arith, gap_within false (drop i b), length-drop i b)

reading_from : (b : Bytes) (fuel at : ℕ) (ts : List Token) → length b ≤ at + fuel → at ≤ length b → Reaches b 0 ts at → (x : Reading) × Reads b x
reading_from b zero at ts enough within reach = let end : at ≡ length b = omega arith in (Listed ts, subst (λ n. Reaches b 0 ts n) end reach)
reading_from b (suc fuel) at ts enough within reach =
    ⊎_elim (λ inside. by_found b fuel at ts enough reach (λ next us far end there. reading_from b fuel next us far end there) (found_here b at inside))
    (λ outside. let end : at ≡ length b = omega arith in (Listed ts, subst (λ n. Reaches b 0 ts n) end reach)) (cases_lt at (length b))
  where
    by_found : (b : Bytes) (fuel at : ℕ) (ts : List Token) → length b ≤ at + suc fuel → Reaches b 0 ts at
        → ((next : ℕ) (us : List Token) → length b ≤ next + fuel → next ≤ length b → Reaches b 0 us next → (x : Reading) × Reads b x)
        → (found : Found) × Stands b at found → (x : Reading) × Reads b x
    by_found b fuel at ts enough reach onward (FoundToken k e, token) =
        ⊎_elim (λ left. (LeftAt at e, ((ts, reach), (k, (token, left)))))
        (λ kept. let moves = token_moves b at k e token in
        onward (past_gap b e) (ts ++ make k at e ∷ []) (omega arith) (past_gap_within b e token.longest.within)
        (reaches_push b ts 0 at k e reach token kept))
        (left_or b at k e)
    by_found b fuel at ts enough reach onward (Bad, bad) = (BadAt at, ((ts, reach), bad))
    by_found b fuel at ts enough reach onward (Open, opens) = (OpenAt at, ((ts, reach), opens))

pub some_reading : (b : Bytes) → (x : Reading) × Reads b x
some_reading b = reading_from b (length b) (past_gap b 0) [] (omega arith) (past_gap_within b 0 (omega arith)) refl
