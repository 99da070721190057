use Rattle.std.proofs.Common.{◌*◌, ◌∙◌, sym, ap, map, subst, arith}
use Rattle.ir_type_names.specs.Chains.{step, Jumps}
use Rattle.ir_type_names.proofs.Doubling.{jumps_one, jumps_twice}
use Rattle.ir_type_names.proofs.chains.chain_ends.Goals as goal

pub loop-steps-init : goal.loop-steps-init
loop-steps-init c = record {
  some = omega arith;
  jumps = subst (λ js. Jumps c.args.nexts.now 1 js) (sym c.in_ok-jumps.ensures.items) (jumps_one c.args.nexts.now);
}

pub loop-steps-preserved : goal.loop-steps-preserved
loop-steps-preserved c = record {
  some = omega arith;
  jumps = jumps_twice c.args.nexts.now c.loop-steps.steps (c.loop-steps.steps * 2) c.loop-steps.jumps.items c.in_ok-jumps-2.jumps.items
      c.loop-steps.invariant.jumps (c.in_ok-jumps-2.ensures ∙ ap (λ js. map (step js) js) c.as_slice.ensures.value) (omega arith);
}

pub returns : goal.returns
returns c = (c.loop-steps.steps, (c.loop-steps-test.false, c.loop-steps.invariant.jumps))
