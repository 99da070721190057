use Rattle.ir_module.proofs.formed.is_well_formed.Goals as goal
use Rattle.ir_module.proofs.formed.is_well_formed.Goals.{then-has_formed_sizes, else-has_formed_sizes}

pub returns-then-has_formed_data : goal.returns-then-has_formed_data
returns-then-has_formed_data c = (
  λ t. elim c.if-has_formed_sizes.branch [
    | then-has_formed_sizes w ↦
        (let sizes = c.has_formed_sizes.ensures.0 w.if-has_formed_sizes.true in
        let tables = w.has_formed_data.ensures.0 cc in
        let bodies = c.has_formed_bodies.ensures.0 t in
        record {
          few = sizes.0;
          type_at = sizes.1;
          types = tables.0;
          parts = tables.1;
          globals = tables.2;
          funcs = bodies.0;
          blocks = bodies.1;
          segs = bodies.2;
          values = bodies.3;
        })
    | else-has_formed_sizes w ↦ (let no : ⊥ = cc in absurd no)
  ],
  λ w. c.has_formed_bodies.ensures.1 (w.funcs, w.blocks, w.segs, w.values),
)
