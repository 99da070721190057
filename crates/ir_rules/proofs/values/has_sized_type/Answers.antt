use Rattle.ir_rules.proofs.Named.{alloca_there, gep_there, store_there}
use Rattle.ir_rules.proofs.values.has_sized_type.Goals as goal

pub has_size-requires : goal.has_size-requires
has_size-requires c = alloca_there c.args.m.now c.args.instr.now _ _ _ c.requires c.in-Alloca.is

pub has_size-requires-in-Store : goal.has_size-requires-in-Store
has_size-requires-in-Store c = store_there c.args.m.now c.args.instr.now _ _ _ _ c.requires c.in-Store.is

pub has_size-requires-in-Gep : goal.has_size-requires-in-Gep
has_size-requires-in-Gep c = gep_there c.args.m.now c.args.instr.now _ _ _ _ _ c.requires c.in-Gep.is
