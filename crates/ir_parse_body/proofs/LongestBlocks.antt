-- The longest line, block and body.
use Rattle.std.proofs.Common.{◌≡◌, ℕ, true, false, List, [], ◌∷◌, Option, None, Some, ◌⊎◌, inl, inr, refl}
use Rattle.ir_tree.specs.declared.terminal.Terminal.{Terminal}
use Rattle.ir_tree.specs.declared.terminal.Terminal.TheVariants as k
use Rattle.ir_tree.specs.declared.attributes.Attach.{Attach}
use Rattle.ir_tree.specs.declared.instructions.Instr.{Instr}
use Rattle.ir_tree.specs.declared.instructions.Invoke.{Invoke}
use Rattle.ir_tree.specs.declared.instructions.Term.{Term}
use Rattle.ir_tree.specs.declared.blocks.Line.{Line}
use Rattle.ir_tree.specs.declared.blocks.Line.TheVariants as line_is
use Rattle.ir_tree.specs.declared.blocks.Last.{Last}
use Rattle.ir_tree.specs.declared.blocks.Last.TheVariants as last_is
use Rattle.ir_tree.specs.declared.blocks.First.{First}
use Rattle.ir_tree.specs.declared.blocks.Block.{Block}
use Rattle.ir_tree.specs.Steps.{Step, the, leaf, many, optional, Longest}
use Rattle.ir_tree.specs.Instructions.{instr, invoke, term}
use Rattle.ir_tree.specs.Blocks.{result, line, last, first, block, body}
use Rattle.ir_tree.proofs.Clear.{pair, choice, moves}
use Rattle.ir_tree.proofs.Known.{Known, firsts, leaf_of, pair_of, optional_of, many_of}
use Rattle.ir_tree.proofs.ClearInstructions.{instr_of, invoke_of, term_of}
use Rattle.ir_tree.proofs.ClearBlocks.{attached, attached_of, ended, ended_of, line_of, last_of, first_of, block_of}
use Rattle.ir_parse_parts.proofs.Longest.{turned, leaf_some, leaf_none, pair_some, pair_stop, not_begun}
use Rattle.ir_parse_body.specs.Blocks.{behind, inside}
use Rattle.ir_parse_body.proofs.Sequences.{twice, shaped, pair_by, choice_left, choice_right, before_of, seen, led_by}

-- ---- lines and last lines, as one of two
abbrev LineShape : Type 0
LineShape = ℕ ⊎ (Option ℕ × (Instr × List Attach))

abbrev line_back : LineShape → Line
line_back (inl at) = line_is.Opaque at
line_back (inr x) = line_is.Instr x.0 x.1.0 x.1.1

abbrev LastShape : Type 0
LastShape = (Term × (List Attach × List ℕ)) ⊎ (Option ℕ × (Invoke × (List Attach × List ℕ)))

abbrev last_back : LastShape → Last
last_back (inl x) = last_is.Term x.0 x.1.0 x.1.1
last_back (inr x) = last_is.Invoke x.0 x.1.0 x.1.1.0 x.1.1.1

module _ (toks : List Terminal) where
  abbrev result_of : Known toks true (result toks)
  result_of = optional_of (before_of toks k.Equals (leaf_of k.Local) refl)

  abbrev told : Instr × List Attach → Step
  told = pair (instr toks) (attached toks)

  abbrev told_of : Known toks false told
  told_of = pair_of (instr_of toks) (attached_of toks) refl

  abbrev instr_part : Option ℕ × (Instr × List Attach) → Step
  instr_part = pair (result toks) told

  abbrev instr_part_of : Known toks false instr_part
  instr_part_of = pair_of result_of told_of refl

  abbrev line_shape : LineShape → Step
  line_shape = choice (leaf toks k.Opaque) instr_part

  line_view : (t : Line) (a b : ℕ) → line toks t a ≡ Some b → (x : LineShape) × ((line_back x ≡ t) × (line_shape x a ≡ Some b))
  line_view (line_is.Opaque at) a b e = (inl at, (refl, e))
  line_view (line_is.Instr name x all) a b e = (inr (name, (x, all)), (refl, e))

  line_same : (x : LineShape) (a : ℕ) → line toks (line_back x) a ≡ line_shape x a
  line_same (inl at) a = refl
  line_same (inr x) a = refl

  line_by : (a : ℕ) (r : Option (LineShape × ℕ)) → Longest line_shape a r → Longest (line toks) a (turned line_back r)
  line_by a r l = shaped (line toks) line_shape a line_back (λ t b e. line_view t a b e) (λ x. line_same x a) r l

  pub line_opaque : (a b : ℕ) → Some b ≡ the toks k.Opaque a → Longest (line toks) a (Some (line_is.Opaque a, b))
  line_opaque a b h = line_by a (Some (inl a, b)) (choice_left (leaf toks k.Opaque) instr_part a (Some (
    a,
    b,
  )) (leaf_some toks k.Opaque a b h) (not_begun (instr_part_of.at a) (firsts (k.Opaque ∷ [])) refl (seen toks k.Opaque a b h)))

  module _ (a b : ℕ) (n : None ≡ the toks k.Opaque a) (name : Option ℕ) (l : Longest (result toks) a (Some (name, b))) where
    line_rest : (r : Option ((Instr × List Attach) × ℕ)) → Longest told b r → Longest (line toks) a (turned (λ x. line_is.Instr name x.0 x.1) r)
    line_rest r l' =
        let part = pair_by result_of told_of refl a b name l r l' in
        let one = choice_right (leaf toks k.Opaque) instr_part a (turned (λ x. (name, x)) r) (leaf_none toks k.Opaque a n) part in
        twice (line toks) (λ x. line_back (inr x)) (λ x. (
          name,
          x,
        )) a r (twice (line toks) line_back inr a (turned (λ x. (name, x)) r) (line_by a (turned inr (turned (λ x. (name, x)) r)) one))

    pub line_no_instr : Longest (instr toks) b None → Longest (line toks) a None
    line_no_instr l' = line_rest None (pair_stop (instr_of toks) (attached_of toks) b l')

    pub line_instr : (x : Instr) (c d : ℕ) (all : List Attach) → Longest (instr toks) b (Some (x, c)) → Longest (attached toks) c (Some (all, d)) →
        Longest (line toks) a (Some (line_is.Instr name x all, d))
    line_instr x c d all l' l'' = line_rest (Some ((x, all), d)) (pair_some (instr_of toks) (attached_of toks) refl b c d x all l' l'')

  -- ---- the last line of a block
  pub behind_both : (a b c : ℕ) (all : List Attach) (after : List ℕ) → Longest (attached toks) a (Some (all, b)) →
      Longest (many (leaf toks k.Opaque)) b (Some (after, c)) → Longest (behind toks) a (Some ((all, after), c))
  behind_both a b c all after l l' = pair_some (attached_of toks) (many_of (leaf_of k.Opaque) refl) refl a b c all after l l'

  abbrev invoked : Invoke × (List Attach × List ℕ) → Step
  invoked = pair (invoke toks) (ended toks)

  abbrev invoked_of : Known toks false invoked
  invoked_of = pair_of (invoke_of toks) (ended_of toks) refl

  abbrev term_part : Term × (List Attach × List ℕ) → Step
  term_part = pair (term toks) (ended toks)

  abbrev term_part_of : Known toks false term_part
  term_part_of = pair_of (term_of toks) (ended_of toks) refl

  abbrev invoke_part : Option ℕ × (Invoke × (List Attach × List ℕ)) → Step
  invoke_part = pair (result toks) invoked

  abbrev invoke_part_of : Known toks false invoke_part
  invoke_part_of = pair_of result_of invoked_of refl

  abbrev last_shape : LastShape → Step
  last_shape = choice term_part invoke_part

  last_view : (t : Last) (a b : ℕ) → last toks t a ≡ Some b → (x : LastShape) × ((last_back x ≡ t) × (last_shape x a ≡ Some b))
  last_view (last_is.Term x all after) a b e = (inl (x, (all, after)), (refl, e))
  last_view (last_is.Invoke name x all after) a b e = (inr (name, (x, (all, after))), (refl, e))

  last_same : (x : LastShape) (a : ℕ) → last toks (last_back x) a ≡ last_shape x a
  last_same (inl x) a = refl
  last_same (inr x) a = refl

  last_by : (a : ℕ) (r : Option (LastShape × ℕ)) → Longest last_shape a r → Longest (last toks) a (turned last_back r)
  last_by a r l = shaped (last toks) last_shape a last_back (λ t b e. last_view t a b e) (λ x. last_same x a) r l

  pub last_term : (a b c : ℕ) (x : Term) (after : List Attach × List ℕ) → Longest (term toks) a (Some (x, b)) → Longest (behind toks) b (Some (after, c)) →
      Longest (last toks) a (Some (last_is.Term x after.0 after.1, c))
  last_term a b c x after l l' =
      let begun = (moves toks (term_of toks).first a b (((term_of toks).at a).opens x b l.0)).1 in
      let other = not_begun (invoke_part_of.at a) (term_of toks).first refl begun in
      last_by a (Some (inl (x, after), c)) (choice_left term_part invoke_part a (Some (
        (x, after),
        c,
      )) (pair_some (term_of toks) (ended_of toks) refl a b c x after l l') other)

  module _ (a b : ℕ) (n : Longest (term toks) a None) (name : Option ℕ) (l : Longest (result toks) a (Some (name, b))) where
    last_rest : (r : Option ((Invoke × (List Attach × List ℕ)) × ℕ)) → Longest invoked b r →
        Longest (last toks) a (turned (λ x. last_is.Invoke name x.0 x.1.0 x.1.1) r)
    last_rest r l' =
        let part = pair_by result_of invoked_of refl a b name l r l' in
        let one = choice_right term_part invoke_part a (turned (λ x. (name, x)) r) (pair_stop (term_of toks) (ended_of toks) a n) part in
        twice (last toks) (λ x. last_back (inr x)) (λ x. (
          name,
          x,
        )) a r (twice (last toks) last_back inr a (turned (λ x. (name, x)) r) (last_by a (turned inr (turned (λ x. (name, x)) r)) one))

    pub last_no_invoke : Longest (invoke toks) b None → Longest (last toks) a None
    last_no_invoke l' = last_rest None (pair_stop (invoke_of toks) (ended_of toks) b l')

    pub last_invoke : (x : Invoke) (c d : ℕ) (after : List Attach × List ℕ) → Longest (invoke toks) b (Some (x, c)) →
        Longest (behind toks) c (Some (after, d)) → Longest (last toks) a (Some (last_is.Invoke name x after.0 after.1, d))
    last_invoke x c d after l' l'' = last_rest (Some ((x, after), d)) (pair_some (invoke_of toks) (ended_of toks) refl b c d x after l' l'')

  -- ---- blocks
  abbrev inside_of : Known toks false (inside toks)
  inside_of = pair_of (many_of (line_of toks) refl) (last_of toks) refl

  pub inside_by : (a b : ℕ) (lines : List Line) → Longest (many (line toks)) a (Some (lines, b)) → (r : Option (Last × ℕ)) → Longest (last toks) b r →
      Longest (inside toks) a (turned (λ x. (lines, x)) r)
  inside_by a b lines l r l' = pair_by (many_of (line_of toks) refl) (last_of toks) refl a b lines l r l'

  pub first_by : (a b : ℕ) (label : Option ℕ) → Longest (optional (leaf toks k.Label)) a (Some (label, b)) → (r : Option ((List Line × Last) × ℕ)) →
      Longest (inside toks) b r → Longest (first toks) a (turned (λ (x : List Line × Last). record { label = label; lines = x.0; last = x.1 }) r)
  first_by a b label l r l' =
      let both = pair_by (optional_of (leaf_of k.Label)) inside_of refl a b label l r l' in
      let all = shaped (first toks) (pair (optional (leaf toks k.Label)) (inside toks)) a (λ (x : Option ℕ × (List Line × Last)). record {
        label = x.0;
        lines =
            x.1.0;
        last = x.1.1;
      }) (λ t b e. ((t.label, (t.lines, t.last)), (refl, e))) (λ x. refl) (turned (λ x. (label, x)) r) both in
      twice (first toks) (λ (x : Option ℕ × (List Line × Last)). record { label = x.0; lines = x.1.0; last = x.1.1 }) (λ x. (label, x)) a r all

  pub block_none : (a : ℕ) → None ≡ the toks k.Label a → Longest (block toks) a None
  block_none a n = not_led
    where
      not_led : Longest (block toks) a None
      not_led t c e = pair_stop (leaf_of k.Label) inside_of a (leaf_none toks k.Label a n) (t.label, (t.lines, t.last)) c e

  pub block_by : (a b : ℕ) → Some b ≡ the toks k.Label a → (r : Option ((List Line × Last) × ℕ)) → Longest (inside toks) b r →
      Longest (block toks) a (turned (λ (x : List Line × Last). record { label = a; lines = x.0; last = x.1 }) r)
  block_by a b h r l =
      let both = led_by toks k.Label inside_of a b h r l in
      let all = shaped (block toks) (pair (leaf toks k.Label) (inside toks)) a (λ (x : ℕ × (List Line × Last)). record {
        label = x.0;
        lines = x.1.0;
        last =
            x.1.1;
      }) (λ t b e. ((t.label, (t.lines, t.last)), (refl, e))) (λ x. refl) (turned (λ x. (a, x)) r) both in
      twice (block toks) (λ (x : ℕ × (List Line × Last)). record { label = x.0; lines = x.1.0; last = x.1.1 }) (λ x. (a, x)) a r all

  -- ---- the body
  pub body_none : (a : ℕ) → Longest (first toks) a None → Longest (body toks) a None
  body_none a l = λ t c e. pair_stop (first_of toks) (many_of (block_of toks) refl) a l (t.first, t.blocks) c e

  pub body_by : (a b c : ℕ) (x : First) (blocks : List Block) → Longest (first toks) a (Some (x, b)) → Longest (many (block toks)) b (Some (blocks, c)) →
      Longest (body toks) a (Some (record { first = x; blocks = blocks }, c))
  body_by a b c x blocks l l' =
      let both = pair_some (first_of toks) (many_of (block_of toks) refl) refl a b c x blocks l l' in
      (both.0, λ t d e. both.1 (t.first, t.blocks) d e)
