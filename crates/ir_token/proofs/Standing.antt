-- What is found by the ends at a place is the token there, or that none is there.
use Rattle.std.proofs.Common.{◌≡◌, ℕ, ◌<◌, ◌≤◌, true, false, inl, inr, None, length, refl, sym, ◌∙◌, ⊎_elim, subst, arith}
use Rattle.std.proofs.lemmas.Bool.{cases_Bool, both_ways}
use Rattle.std.proofs.lemmas.Option.{none-some}
use Rattle.ir_token.specs.declared.token.Kind.{Kind}
use Rattle.ir_token.specs.declared.token.Kind.TheVariants.{Opaque}
use Rattle.ir_token.specs.declared.found.Found.{Found}
use Rattle.ir_token.specs.declared.found.Found.TheVariants.{Token, Bad, Open}
use Rattle.ir_token.specs.Bytes.{Bytes}
use Rattle.ir_token.specs.Names.{bears_name}
use Rattle.ir_token.specs.Texts.{order, IsText, IsLongest, IsOpen, BeginsNone, LacksEnd, IsBad}
use Rattle.ir_token.specs.Ends.{text_end, begins_opaque, opaque_end, lacks_quote, IsLongestEnd, IsTokenEnd, IsOpenEnd, IsBadEnd, StandsByEnds, Stands}
use Rattle.ir_token.proofs.Meaning.{lacks_is, lacks_from}
use Rattle.ir_token.proofs.Opaques.{opaque_is, opaque_from, opaque_text, opaque_to}
use Rattle.ir_token.proofs.Greatest.{greatest, text_moves}

opaque_longest : (b : Bytes) (i : ℕ) (k : Kind) (e : ℕ) → IsTokenEnd b i k e → begins_opaque b i ≡ true → IsLongest b i k e
opaque_longest b i k e h begins =
    let kind : k ≡ Opaque = (h.unread begins).0 in
    record {
      within = h.within;
      text = subst (λ j. IsText j b i e) (sym kind) (opaque_text b i e begins (h.unread begins).1);
      unread = λ _. kind;
      closed = λ _. kind;
      longest = λ other. absurd (other kind);
      first = λ j text. let zero_first : order k ≡ 0 =
          (λ (x : Kind) (same : x ≡ Opaque). let P : Kind → Type 0 = λ y. order y ≡ 0 in subst P (sym same) refl) k kind in omega arith;
    }

plain_longest : (b : Bytes) (i : ℕ) (k : Kind) (e : ℕ) → i < length b → IsTokenEnd b i k e → begins_opaque b i ≡ false → IsLongest b i k e
plain_longest b i k e inside h plain =
    let ends : IsLongestEnd b i k e = (h.longest plain).0 in
    let closed : lacks_quote b i ≡ false = (h.longest plain).1 in
    let end : e ≡ text_end b i k = ends.is_one.1 in
    let moves : i < text_end b i k = omega (arith, ends.is_one.0) in
    record {
      within = h.within;
      text = subst (λ n. IsText k b i n) (sym end) ((greatest k b i inside).is_text moves);
      unread = λ begins. absurd (both_ways (begins_opaque b i) plain (opaque_from b i begins));
      closed = λ lacks. absurd (both_ways (lacks_quote b i) closed (lacks_from b i lacks));
      longest = λ _ j f within text. omega (arith, (greatest j b i inside).no_further f within text, ends.longest j);
      first = λ j text. let same : e ≡ text_end b i j = omega (arith, (greatest j b i inside).no_further e h.within text, ends.longest j) in ends.first j same;
    }

-- what is found by the ends is the longest text
pub longest_here : (b : Bytes) (i : ℕ) (k : Kind) (e : ℕ) → i < length b → IsTokenEnd b i k e → IsLongest b i k e
longest_here b i k e inside h = ⊎_elim (λ begins. opaque_longest b i k e h begins)
    (λ plain. plain_longest b i k e inside h plain) (cases_Bool (begins_opaque b i))

-- an Opaque that has no end
lacks_end : (b : Bytes) (i : ℕ) → begins_opaque b i ≡ true → opaque_end b i ≡ None → LacksEnd b i
lacks_end b i begins none = (opaque_is b i begins, λ e within text. none-some e (sym none ∙ opaque_to b i e within text))

-- no text at all
begins_none : (b : Bytes) (i : ℕ) → i < length b → ((k : Kind) → text_end b i k ≤ i) → lacks_quote b i ≡ false → BeginsNone b i
begins_none b i inside none closed = record {
  none = λ k e within text. let moves : i < e = text_moves k b i e text in let stays : text_end b i k ≤ i = none k in
      absurd (omega (arith, (greatest k b i inside).no_further e within text));
  closed = λ lacks. both_ways (lacks_quote b i) closed (lacks_from b i lacks);
}

pub bad_here : (b : Bytes) (i : ℕ) → IsBadEnd b i → IsBad b i
bad_here b i h = record {
  within = h.within;
  cause = ⊎_elim (λ begins. inr (inl (lacks_end b i begins (h.unread begins))))
      (λ plain. let none = h.none plain in inl (begins_none b i h.within none.0 none.1)) (cases_Bool (begins_opaque b i));
}

-- the longest text, which writes no name
pub nameless : (b : Bytes) (i : ℕ) (k : Kind) (e : ℕ) → i < length b → IsTokenEnd b i k e → bears_name b k i e ≡ false → IsBad b i
nameless b i k e inside h none = record { within = inside; cause = inr (inr (k, (e, (longest_here b i k e inside h, none)))) }

pub open_here : (b : Bytes) (i : ℕ) → IsOpenEnd b i → IsOpen b i
open_here b i h = record {
  within = h.within;
  unread = λ begins. both_ways (begins_opaque b i) h.unread (opaque_from b i begins);
  unclosed = lacks_is b i h.unclosed;
}

-- what stands at a place, by what the ends tell
pub stands : (b : Bytes) (i : ℕ) (found : Found) → i < length b → StandsByEnds b i found → (j : Found) × Stands b i j
stands b i (Token k e) inside h = ⊎_elim (λ named. (Token k e, record { longest = longest_here b i k e inside h; named = named }))
    (λ none. (Bad, nameless b i k e inside h none)) (cases_Bool (bears_name b k i e))
stands b i Bad inside h = (Bad, bad_here b i h)
stands b i Open inside h = (Open, open_here b i h)
