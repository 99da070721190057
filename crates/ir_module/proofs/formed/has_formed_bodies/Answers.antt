use Rattle.ir_module.proofs.formed.has_formed_bodies.Goals as goal
use Rattle.ir_module.proofs.formed.has_formed_bodies.Goals.{then-are_funcs_formed, else-are_funcs_formed, then-are_blocks_formed, else-are_blocks_formed}

pub returns-then-are_segs_formed : goal.returns-then-are_segs_formed
returns-then-are_segs_formed c = (
  λ t. elim c.if-are_blocks_formed.branch [
    | then-are_blocks_formed w ↦ elim c.if-are_funcs_formed.branch [
      | then-are_funcs_formed v ↦ (
        c.are_funcs_formed.ensures.0 v.if-are_funcs_formed.true,
        v.are_blocks_formed.ensures.0 cc,
        w.are_segs_formed.ensures.0 cc,
        c.are_values_formed.ensures.0 t,
      )
      | else-are_funcs_formed v ↦ (let no : ⊥ = cc in absurd no)
    ]
    | else-are_blocks_formed w ↦ (let no : ⊥ = cc in absurd no)
  ],
  λ h. c.are_values_formed.ensures.1 h.3,
)
