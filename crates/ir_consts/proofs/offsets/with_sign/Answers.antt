use Rattle.std.proofs.Common.{◌+◌, ◌-◌, ◌*◌, ◌^◌, ◌%◌, ◌<◌, to_z, sym, subst, arith, rules}
use Rattle.std.specs.Int.{w64, int_wrap}
use Rattle.std.proofs.lemmas.Nat.{mod_below}
use Rattle.ir_ops.specs.Residue.{signed}
use Rattle.ir_consts.proofs.Wrapping.{signed_bits, sign_lower, half_is, cast_is, cast_back}
use Rattle.ir_consts.proofs.offsets.with_sign.Goals as goal

pub returns-then-bits-half : goal.returns-then-bits-half
returns-then-bits-half c =
    let h = half_is c.args.width c.requires.width.1 in
    let small : c.args.bits < 2 ^ 64 = search rules in
    cast_back c.cast_signed.result (int_wrap w64 (signed c.args.width c.args.bits)) c.args.bits (search (rules, c.cast_signed.ensures)) small
    (sign_lower c.args.width c.args.bits (1 * 2 ^ (c.args.width - 1) % 2 ^ 64) (to_z w64 c.args.bits) h.0 (cast_is c.args.bits small) c.if-bits-half.true)

pub returns-else-bits-half : goal.returns-else-bits-half
returns-else-bits-half c =
    let h = half_is c.args.width c.requires.width.1 in
    let half = 1 * 2 ^ (c.args.width - 1) % 2 ^ 64 in
    let n = ((c.args.bits + (2 ^ 64 - half)) % 2 ^ 64 + (2 ^ 64 - half)) % 2 ^ 64 in
    cast_back c.cast_signed-else-bits-half.result (int_wrap w64 (signed c.args.width c.args.bits)) n (search (rules, c.cast_signed-else-bits-half.ensures))
    (mod_below ((c.args.bits + (2 ^ 64 - half)) % 2 ^ 64 + (2 ^ 64 - half)) (2 ^ 64) (omega arith))
    (signed_bits c.args.width c.args.bits half c.requires.width.0 h.0 (search rules) (subst (λ n. n < 2 ^ 64) (sym h.0) h.1) c.if-bits-half.false)
