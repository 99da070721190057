-- Which positions a module has, one by one.
use Rattle.std.specs.Prelude.{◌≡◌, ◌*◌, ◌<◌, ◌≤◌, ℕ, true, List, length, slice_get, Some}
use Rattle.lattice_words.specs.declared.reach.TheConstants.{BODIES}
use Rattle.ir_module.specs.declared.module.Module.{Module}
use Rattle.facts.specs.declared.pos.Pos.{Pos}
use Rattle.facts.specs.declared.pos.Pos.TheVariants as pos
use Rattle.facts.specs.Bodies.{is_body, body_count, param_of}
use Rattle.facts.specs.Masks.{is_pointer_param}
use Rattle.positions.specs.Order.{belongs}

-- facts, or an effect, of this module may be said of the position; a position may have no bit, as the return of a `void` body
abbrev pub IsPosition : Module → Pos → Type 0
IsPosition m (pos.Segment k) = k.0 < length m.segs
IsPosition m (pos.Function f) = is_body m f.0 ≡ true
IsPosition m (pos.Value v) = belongs m (slice_get m.values v.0) ≡ true
IsPosition m (pos.Entry f at) = (is_body m f.0 ≡ true) × (is_pointer_param m (param_of m f.0 at) ≡ true)
IsPosition m (pos.Return f) = is_body m f.0 ≡ true
IsPosition m (pos.Reach row k) = (row ≤ body_count m) × (k * BODIES < body_count m)
IsPosition m (pos.Effect k) = k.0 < length m.segs

-- the list has each position of the module once, and no other
pub record ArePositions (m : Module) (list : List Pos) : Type 0 where
  pub each : (n : ℕ) (p : Pos) → slice_get list n ≡ Some p → IsPosition m p
  pub all : (p : Pos) → IsPosition m p → (n : ℕ) × (slice_get list n ≡ Some p)
  pub once : (i j : ℕ) (p : Pos) → slice_get list i ≡ Some p → slice_get list j ≡ Some p → i ≡ j
