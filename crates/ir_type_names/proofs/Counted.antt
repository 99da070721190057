-- How many named types come before, and their definitions.
use Rattle.std.proofs.Common.{◌≡◌, ℕ, ◌+◌, ◌<◌, List, [], ◌∷◌, ◌++◌, length, get_or, take, sym, ap, ◌∙◌, arith, append_assoc}
use Rattle.std.proofs.lemmas.List.{append-nil, take_more}
use Rattle.ir_tree.specs.declared.entities.Entity.{Entity}
use Rattle.ir_type_names.specs.Reading.{Reading}
use Rattle.ir_type_names.specs.Numbers.{is_definition, named_count}
use Rattle.ir_type_names.specs.Places.{definition_in, definitions}

counted_push : (es : List Entity) (e : Entity) → named_count (es ++ e ∷ []) ≡ named_count es + is_definition e
counted_push [] e = omega arith
counted_push (x ∷ es) e = omega (arith, counted_push es e)

-- one entity more
pub counted_more : (es : List Entity) (i : ℕ) (e : Entity) → i < length es → e ≡ get_or es i e →
    named_count (take (i + 1) es) ≡ named_count (take i es) + is_definition e
counted_more es i e within here = ap named_count (take_more es i e within) ∙ counted_push (take i es) (get_or es i e)
    ∙ ap (λ x. named_count (take i es) + is_definition x) (sym here)

definitions_push : (r : Reading) (n : ℕ) (es : List Entity) (e : Entity) →
    definitions r n (es ++ e ∷ []) ≡ definitions r n es ++ definition_in r (n + named_count es) e
definitions_push r n [] e = append-nil (definition_in r n e) ∙ ap (λ k. definition_in r k e) (omega arith)
definitions_push r n (x ∷ es) e = ap (λ ms. definition_in r n x ++ ms) (definitions_push r (n + is_definition x) es e
    ∙ ap (λ k. definitions r (n + is_definition x) es ++ definition_in r k e) (omega arith))
    ∙ sym (append_assoc (definition_in r n x) (definitions r (n + is_definition x) es) (definition_in r (n + (is_definition x + named_count es)) e))

pub definitions_more : (r : Reading) (n : ℕ) (es : List Entity) (i : ℕ) (e : Entity) → i < length es → e ≡ get_or es i e
    → definitions r n (take i es) ++ definition_in r (n + named_count (take i es)) e ≡ definitions r n (take (i + 1) es)
definitions_more r n es i e within here = ap (λ x. definitions r n (take i es) ++ definition_in r (n + named_count (take i es)) x) here
    ∙ sym (definitions_push r n (take i es) (get_or es i e)) ∙ ap (definitions r n) (sym (take_more es i e within))
