use Rattle.ir_rules.proofs.Named.{targets_there}
use Rattle.ir_rules.proofs.blocks.has_pads.Goals as goal

pub all_land-requires-clause-there : goal.all_land-requires-clause-there
all_land-requires-clause-there c = targets_there c.args.m.now c.args.instr.now c.requires.named

pub returns-then-pad_is_reached : goal.returns-then-pad_is_reached
returns-then-pad_is_reached c =
    (λ t. record { pad = c.pad_is_reached.ensures.0 c.if-pad_is_reached.true; edges = c.all_land.ensures.0 t }, λ h. c.all_land.ensures.1 h.edges)
