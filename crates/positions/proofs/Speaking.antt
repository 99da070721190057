-- What has a bit is a position of the module.
use Rattle.std.proofs.Common.{arith, ◌≡◌, ◌+◌, ◌*◌, ◌<◌, ◌≤◌, ℕ, Bool, true, false, ◌&&◌, nat_lt, nat_le, Option, None, Some, length, slice_get, refl}
use Rattle.std.proofs.lemmas.Bool.Decides.{nat_tests}
use Rattle.ir_module.specs.declared.module.Module.{Module}
use Rattle.ir_module.specs.declared.module.Func.{Func}
use Rattle.ir_module.specs.declared.module.ValueInfo.{ValueInfo}
use Rattle.facts.specs.declared.pos.Pos.{Pos}
use Rattle.facts.specs.declared.pos.Pos.TheVariants as pos
use Rattle.facts.specs.Bodies.{is_body, body_count}
use Rattle.facts.specs.Masks.{has_bit_of, is_value_bit, is_return_bit}
use Rattle.positions.specs.Order.{belongs}
use Rattle.positions.specs.Listed.{IsPosition}

-- of two tests that hold, the first does, and the second
first_of_two : (a b : Bool) → (a && b) ≡ true → a ≡ true
first_of_two true b is = refl
first_of_two false b is = absurd (cc)

second_of_two : (a b : Bool) → (a && b) ≡ true → b ≡ true
second_of_two true b is = is
second_of_two false b is = absurd (cc)

less : (a b : ℕ) → nat_lt a b ≡ true → a < b
less a b is = grind (arith, nat_tests)

at_most : (a b : ℕ) → nat_le a b ≡ true → a ≤ b
at_most a b is = grind (arith, nat_tests)

-- each kind of position has its bits where it is one of the module's
pub bits_of : (m : Module) (p : Pos) (bit : ℕ) → has_bit_of m p bit ≡ true → IsPosition m p
bits_of m (pos.Segment k) bit is = less k.0 (length m.segs) (first_of_two _ _ is)
bits_of m (pos.Function f) bit is = first_of_two _ _ is
bits_of m (pos.Value v) bit is = by (slice_get m.values v.0) is
  where
    by : (o : Option ValueInfo) → is_value_bit m bit o ≡ true → belongs m o ≡ true
    by None is = absurd (cc)
    by (Some info) is = first_of_two _ _ is
bits_of m (pos.Entry f at) bit is = (first_of_two _ _ is, first_of_two _ _ (second_of_two _ _ is))
bits_of m (pos.Return f) bit is = by (slice_get m.funcs f.0) is
  where
    by : (o : Option Func) → is_return_bit m f.0 bit o ≡ true → is_body m f.0 ≡ true
    by None is = absurd (cc)
    by (Some func) is = first_of_two _ _ is
bits_of m (pos.Reach row k) bit is =
    by row k bit (body_count m) is
  where
    by : (row k bit bodies : ℕ) → (nat_le row bodies && (nat_lt bit 47 && nat_lt (k * 47 + bit) bodies)) ≡ true → (row ≤ bodies) × (k * 47 < bodies)
    by row k bit bodies is =
        let second = second_of_two (nat_lt bit 47) (nat_lt (k * 47 + bit) bodies) (second_of_two (nat_le row bodies) _ is) in
        let within : k * 47 + bit < bodies = less (k * 47 + bit) bodies second in
        (at_most row bodies (first_of_two (nat_le row bodies) _ is), omega (arith, within))
bits_of m (pos.Effect k) bit is = less k.0 (length m.segs) (first_of_two _ _ is)
