use Rattle.ir_rules.proofs.blocks.has_personality.Goals as goal

pub returns : goal.returns
returns c =
    (λ t. λ h. c.is_allowed.ensures.0 t (c.has_pad.ensures.1 h), λ f. c.is_allowed.ensures.1 (λ p. f (c.has_pad.ensures.0 p)))
