use Rattle.ir_module.proofs.formed.has_formed_data.Goals as goal
use Rattle.ir_module.proofs.formed.has_formed_data.Goals.{then-are_types_formed, else-are_types_formed}

pub returns-then-are_parts_formed : goal.returns-then-are_parts_formed
returns-then-are_parts_formed c = (
  λ t. elim c.if-are_types_formed.branch [
    | then-are_types_formed w ↦ (c.are_types_formed.ensures.0 w.if-are_types_formed.true, w.are_parts_formed.ensures.0 cc, c.are_globals_formed.ensures.0 t)
    | else-are_types_formed w ↦ (let no : ⊥ = cc in absurd no)
  ],
  λ h. c.are_globals_formed.ensures.1 h.2,
)
