-- At most one block and one body fits from a place up to another.
use Rattle.std.proofs.Common.{◌≡◌, ℕ, true, false, List, Option, None, Some, ◌⊎◌, inl, inr, refl, sym, ◌∙◌}
use Rattle.ir_tree.specs.declared.terminal.Terminal.{Terminal}
use Rattle.ir_tree.specs.declared.terminal.Terminal.TheVariants as k
use Rattle.ir_tree.specs.declared.attributes.Attach.{Attach}
use Rattle.ir_tree.specs.declared.instructions.Instr.{Instr}
use Rattle.ir_tree.specs.declared.instructions.Invoke.{Invoke}
use Rattle.ir_tree.specs.declared.instructions.Term.{Term}
use Rattle.ir_tree.specs.declared.blocks.Line.{Line}
use Rattle.ir_tree.specs.declared.blocks.Line.TheVariants as line_is
use Rattle.ir_tree.specs.declared.blocks.Last.{Last}
use Rattle.ir_tree.specs.declared.blocks.Last.TheVariants as last_is
use Rattle.ir_tree.specs.declared.blocks.First.{First}
use Rattle.ir_tree.specs.declared.blocks.Block.{Block}
use Rattle.ir_tree.specs.Steps.{Step, the, leaf, many, next}
use Rattle.ir_tree.specs.Attributes.{attach}
use Rattle.ir_tree.specs.Instructions.{instr, invoke, term}
use Rattle.ir_tree.specs.Blocks.{line, last, first, block, body}
use Rattle.ir_tree.proofs.Clear.{pair, choice, regroup}
use Rattle.ir_tree.proofs.Known.{Known, leaf_of, pair_of, choice_of, optional_of, many_of, next_of, behind_of, behind_the, shape_of}
use Rattle.ir_tree.proofs.ClearAttributes.{attach_of}
use Rattle.ir_tree.proofs.ClearInstructions.{instr_of, invoke_of, term_of}

-- with or without a name for its result
abbrev pub Named : Type 0 → Type 0
Named T = T ⊎ (ℕ × (Unit {0} × T))

abbrev pub LineShape : Type 0
LineShape = ℕ ⊎ (Named Instr × List Attach)

abbrev pub line_back : LineShape → Line
line_back (inl at) = line_is.Opaque at
line_back (inr (inl x, attached)) = line_is.Instr None x attached
line_back (inr (inr y, attached)) = line_is.Instr (Some y.0) y.1.1 attached

abbrev pub LastShape : Type 0
LastShape = (Term × (List Attach × List ℕ)) ⊎ (Named Invoke × (List Attach × List ℕ))

abbrev pub last_back : LastShape → Last
last_back (inl x) = last_is.Term x.0 x.1.0 x.1.1
last_back (inr (inl x, after)) = last_is.Invoke None x after.0 after.1
last_back (inr (inr y, after)) = last_is.Invoke (Some y.0) y.1.1 after.0 after.1

module _ (toks : List Terminal) where
  abbrev pub named : {T : Type 0} → (T → Step) → Named T → Step
  named p = choice p (pair (leaf toks k.Local) (pair (λ _. the toks k.Equals) p))

  abbrev pub attached : List Attach → Step
  attached = many (next toks (attach toks))

  abbrev pub attached_of : Known toks true attached
  attached_of = many_of (next_of (attach_of toks)) refl

  abbrev pub ended : List Attach × List ℕ → Step
  ended = pair attached (many (leaf toks k.Opaque))

  abbrev pub ended_of : Known toks true ended
  ended_of = pair_of attached_of (many_of (leaf_of k.Opaque) refl) refl

  abbrev pub line_shape : LineShape → Step
  line_shape = choice (leaf toks k.Opaque) (pair (named (instr toks)) attached)

  pub line_view : (t : Line) (a b : ℕ) → line toks t a ≡ Some b → (x : LineShape) × ((line_back x ≡ t) × (line_shape x a ≡ Some b))
  line_view (line_is.Opaque at) a b e = (inl at, (refl, e))
  line_view (line_is.Instr None x all) a b e = (inr (inl x, all), (refl, e))
  line_view (line_is.Instr (Some name) x all) a b e =
      (inr (inr (name, (tt, x)), all), (refl, sym (regroup (leaf toks k.Local name) (the toks k.Equals) (instr toks x) (attached all) a) ∙ e))

  abbrev pub line_of : Known toks false (line toks)
  line_of = shape_of line_back line_view
      (choice_of (leaf_of k.Opaque) (pair_of (choice_of (instr_of toks) (behind_of k.Local (behind_the k.Equals (instr_of toks))) refl) attached_of refl) refl)

  abbrev pub last_shape : LastShape → Step
  last_shape = choice (pair (term toks) ended) (pair (named (invoke toks)) ended)

  pub last_view : (t : Last) (a b : ℕ) → last toks t a ≡ Some b → (x : LastShape) × ((last_back x ≡ t) × (last_shape x a ≡ Some b))
  last_view (last_is.Term x all after) a b e = (inl (x, (all, after)), (refl, e))
  last_view (last_is.Invoke None x all after) a b e = (inr (inl x, (all, after)), (refl, e))
  last_view (last_is.Invoke (Some name) x all after) a b e =
      (inr (inr (name, (tt, x)), (all, after)), (refl, sym (regroup (leaf toks k.Local name) (the toks k.Equals) (invoke toks x) (ended (all, after)) a) ∙ e))

  abbrev pub last_of : Known toks false (last toks)
  last_of = shape_of last_back last_view
      (choice_of (pair_of (term_of toks) ended_of refl) (pair_of (choice_of (invoke_of toks) (behind_of k.Local (behind_the k.Equals (invoke_of toks))) refl)
      ended_of refl) refl)

  abbrev pub first_of : Known toks false (first toks)
  first_of = shape_of (λ (x : (Option ℕ) × ((List Line) × Last)). record {
    label = x.0;
    lines = x.1.0;
    last =
        x.1.1;
  }) (λ t a b e. (
    (t.label, (t.lines, t.last)),
    (refl, e),
  )) (pair_of (optional_of (leaf_of k.Label)) (pair_of (many_of line_of refl) last_of refl) refl)

  abbrev pub block_of : Known toks false (block toks)
  block_of = shape_of (λ (x : ℕ × ((List Line) × Last)). record { label = x.0; lines = x.1.0; last = x.1.1 }) (λ t a b e. (
    (t.label, (t.lines, t.last)),
    (refl, e),
  )) (pair_of (leaf_of k.Label) (pair_of (many_of line_of refl) last_of refl) refl)

  abbrev pub body_of : Known toks false (body toks)
  body_of = shape_of (λ (x : First × ((List Block))). record { first = x.0; blocks = x.1 }) (λ t a b e. (
    (t.first, t.blocks),
    (refl, e),
  )) (pair_of first_of (many_of block_of refl) refl)
