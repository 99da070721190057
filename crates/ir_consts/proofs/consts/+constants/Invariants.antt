use Rattle.std.proofs.Common.{◌≡◌, take, drop}
use Rattle.std.specs.List.{flat_map}
use Rattle.ir_operands.specs.Constants.{ArePartsBelow}
use Rattle.ir_scopes.specs.Faults.{first_in}
use Rattle.ir_consts.specs.Source.{reading}
use Rattle.ir_consts.specs.Faults.{tconst_faults}
use Rattle.ir_consts.specs.Consts.{tconsts_of}
use Rattle.ir_consts.proofs.Lists.{ReadsOn}
use Rattle.ir_consts.proofs.consts.+constants.Given as goal

abbrev pub invariant-tconsts-loop-t : goal.invariant-tconsts-loop-t
invariant-tconsts-loop-t l = record {
  on : ReadsOn (reading l.src) l.own.items (drop l.t-index l.ts) l.out.parts.items (tconsts_of (reading l.src) l.ts l.initial.out.parts.items);
  found : l.out.found ≡ first_in l.initial.out.found (flat_map (tconst_faults (reading l.src)) (take l.t-index l.ts));
  below : ArePartsBelow l.out.parts.items;
}
