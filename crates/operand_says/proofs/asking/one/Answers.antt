use Rattle.std.proofs.Common.{◌*◌, ◌^◌, arith}
use Rattle.std.proofs.Math.Nat.{mod-le}
use Rattle.std.proofs.lemmas.Nat.{pow_below}
use Rattle.operand_says.proofs.asking.one.Goals as goal

pub returns-clause-low : goal.returns-clause-low
returns-clause-low c = omega (arith, mod-le (1 * 2 ^ c.args.bit) 18446744073709551616, pow_below c.args.bit 43 c.requires)
