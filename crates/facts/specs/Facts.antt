-- Facts: a bit of a position's word, with a short name for each.
use Rattle.std.specs.Prelude.{◌/◌, ◌%◌, ℕ, Bool, true, false}
use Rattle.lattice_words.specs.declared.segment.TheConstants.{DEAD}
use Rattle.lattice_words.specs.declared.value.TheConstants.{NONNULL}
use Rattle.lattice_words.specs.declared.reach.TheConstants.{BODIES}
use Rattle.ir_module.specs.declared.module.Spot.{Spot}
use Rattle.ir_module.specs.declared.module.Module.{Module}
use Rattle.facts.specs.declared.pos.Pos.{Pos}
use Rattle.facts.specs.declared.pos.Pos.TheVariants as pos
use Rattle.facts.specs.Kinds.{FunctionFact, NoUnwind, NoReturn, NoFree, BlockClass, UseFact, function_bit, class_bit, use_bit}
use Rattle.facts.specs.Bodies.{rank}

-- a bit of a position's word
pub record Fact : Type 0 where
  pub pos : Pos
  pub bit : ℕ

-- the bit of the position
abbrev pub fact : Pos → ℕ → Fact
fact p bit = record { pos = p; bit = bit }

-- ---- positions by number

-- segment number k
abbrev pub segment : ℕ → Pos
segment k = pos.Segment (record { 0 = k })

-- body f
abbrev pub function : ℕ → Pos
function f = pos.Function (record { 0 = f })

-- value number v
abbrev pub value : ℕ → Pos
value v = pos.Value (record { 0 = v })

-- parameter `at` of body f
abbrev pub entry : ℕ → ℕ → Pos
entry f at = pos.Entry (record { 0 = f }) at

-- the return of body f
abbrev pub returned : ℕ → Pos
returned f = pos.Return (record { 0 = f })

-- the effect of segment number k
abbrev pub effect : ℕ → Pos
effect k = pos.Effect (record { 0 = k })

-- its words are worked out on the way, and are no facts
abbrev pub is_effect : Pos → Bool
is_effect (pos.Effect k) = true
is_effect _ = false

-- ---- facts by name

-- no run comes to segment k
abbrev pub dead : ℕ → Fact
dead k = fact (segment k) DEAD

-- no run comes to the spot
abbrev pub dead_at : Spot → Fact
dead_at s = dead s.seg.0

-- a fact of body f
abbrev pub of_function : FunctionFact → ℕ → Fact
of_function kind f = fact (function f) (function_bit kind)

-- body f does not unwind
abbrev pub nounwind_of : ℕ → Fact
nounwind_of f = of_function NoUnwind f

-- body f does not return
abbrev pub noreturn_of : ℕ → Fact
noreturn_of f = of_function NoReturn f

-- body f frees nothing that existed before it was called
abbrev pub nofree_of : ℕ → Fact
nofree_of f = of_function NoFree f

-- the bit of value v
abbrev pub of_value : ℕ → ℕ → Fact
of_value v bit = fact (value v) bit

-- value v is not null
abbrev pub nonnull_of : ℕ → Fact
nonnull_of v = of_value v NONNULL

-- value v is to no block of the class by itself
abbrev pub not_to : BlockClass → ℕ → Fact
not_to class v = of_value v (class_bit class)

-- the uses of value v are so
abbrev pub used_so : UseFact → ℕ → Fact
used_so kind v = of_value v (use_bit kind)

-- the bit of parameter `at` of body f at each entry
abbrev pub at_entry : ℕ → ℕ → ℕ → Fact
at_entry f at bit = fact (entry f at) bit

-- parameter `at` of body f is not null at each entry
abbrev pub entry_nonnull : ℕ → ℕ → Fact
entry_nonnull f at = at_entry f at NONNULL

-- the bit of what body f returns
abbrev pub of_return : ℕ → ℕ → Fact
of_return f bit = fact (returned f) bit

-- body f does not return null
abbrev pub return_nonnull : ℕ → Fact
return_nonnull f = of_return f NONNULL

-- row r does not reach body number t
abbrev pub unreached_by : ℕ → ℕ → Fact
unreached_by r t = fact (pos.Reach r (t / BODIES)) (t % BODIES)

-- body f does not reach body g
abbrev pub unreached : Module → ℕ → ℕ → Fact
unreached m f g = unreached_by (rank m f) (rank m g)

-- the effect of segment k has the bit of a fact of its body
abbrev pub of_effect : FunctionFact → ℕ → Fact
of_effect kind k = fact (effect k) (function_bit kind)
