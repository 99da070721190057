-- Operands as an instruction reads them (LangRef, "Constants", "Constant Expressions"), and the picks that this takes.
use Rattle.std.specs.Prelude.{ℕ, ◌+◌, ◌%◌, ◌^◌, ◌==◌, ◌&&◌, not, nat_le, int_le, pos, Bool, true, false, if◌then◌else◌, List, [], ◌∷◌, drop, slice_get, Option}
use Rattle.std.specs.Prelude.{None, Some, Result, Ok, Err}
use Rattle.attr_ids.specs.declared.ids.TypeId.{TypeId}
use Rattle.ir_types.specs.declared.ir_type.IrType.{IrType}
use Rattle.ir_types.specs.declared.ir_type.IrType.TheVariants as type
use Rattle.ir_types.specs.declared.refusal.TypeRefusal.{TypeRefusal}
use Rattle.ir_types.specs.TypeTable.{size, alignment}
use Rattle.ir_ops.specs.Residue.{residue}
use Rattle.ir_module.specs.declared.op.Symbol.{Symbol}
use Rattle.ir_module.specs.declared.op.Symbol.TheVariants as symbol
use Rattle.ir_module.specs.declared.op.Operand.{Operand}
use Rattle.ir_module.specs.declared.op.Operand.TheVariants as operand
use Rattle.ir_module.specs.declared.op.Written.{Written}
use Rattle.ir_module.specs.declared.op.Instr.{Instr}
use Rattle.ir_module.specs.declared.module.Spot.{Spot}
use Rattle.ir_module.specs.declared.module.Module.{Module}
use Rattle.ir_machine.specs.declared.choice.Datum.{Datum}
use Rattle.ir_machine.specs.declared.choice.Datum.TheVariants as datum
use Rattle.ir_machine.specs.declared.choice.Value.{Value}
use Rattle.ir_machine.specs.Values.{plain, carried}
use Rattle.ir_machine.specs.Memory.{Memory}
use Rattle.ir_machine.specs.Frames.{BodyFrame, Frame, State}
use Rattle.ir_machine.specs.Moves.{Outcome, Gives, Over, Plan, with, found, fits, does, Sets, Goes}

-- ---- types

-- the entry of the table of types
abbrev pub type_of : Module → TypeId → Option IrType
type_of m ty = slice_get m.types ty.0

-- the width of an integer type, 0 of every other
abbrev pub width_in : Option IrType → ℕ
width_in (Some (type.Int width)) = width
width_in _ = 0

-- the width of an integer type
abbrev pub width_of : Module → TypeId → ℕ
width_of m ty = width_in (type_of m ty)

-- the type is `ptr`
abbrev pub is_pointer_in : Option IrType → Bool
is_pointer_in (Some type.Ptr) = true
is_pointer_in _ = false

-- the type is `ptr`, by its number
abbrev pub is_pointer : Module → TypeId → Bool
is_pointer m ty = is_pointer_in (type_of m ty)

-- a size or an alignment of a type that has one
abbrev pub laid : Result ℕ TypeRefusal → Outcome ℕ
laid (Ok n) = Gives n
laid (Err refusal) = Over

-- the bytes that a value of the type takes
abbrev pub size_of : Module → ℕ → Outcome ℕ
size_of m ty = laid (size m.types ty)

-- the alignment that is written, that of the type where none is
abbrev pub align_or : Module → ℕ → Option ℕ → Outcome ℕ
align_or m ty (Some align) = Gives align
align_or m ty None = laid (alignment m.types ty)

-- ---- picks

-- the next pick; a missing one is 0
abbrev pub pick : List ℕ → ℕ
pick [] = 0
pick (n ∷ picks) = n

-- a value, and the picks that are left
pub record Picked : Type 0 where
  pub value : Value
  pub picks : List ℕ

-- this value, with these picks left
abbrev pub picked : Value → List ℕ → Outcome Picked
picked x picks = Gives (record { value = x; picks = picks })

-- any integer of this width, by pick
abbrev pub any_int : ℕ → List ℕ → Datum
any_int width picks = datum.Int (pick picks % (2 ^ width))

-- ---- addresses

-- how far a getelementptr leads: the bytes modulo 2 ^ 64, its flags, and whether each index is a literal of at least 0
pub record Displacement : Type 0 where
  pub bytes : ℕ
  pub forward : Bool
  pub inbounds : Bool
  pub wrap : Bool

-- an inexact `nusw` or `nuw` gives the exact result or poison, by pick
abbrev pub exact_or_poison : Value → Datum → List ℕ → Outcome Picked
exact_or_poison x d picks = picked (carried x (if pick picks == 0 then d else datum.Poison)) (drop 1 picks)

-- From a pointer to the result d, which lies within its block or not: `inbounds` is poison outside; `nusw` and `nuw` are
-- exact where the indices are literals of at least 0 and the result is within.
abbrev pub led_to : Displacement → Value → Datum → Bool → List ℕ → Outcome Picked
led_to way x d within picks =
    if way.inbounds && not within then picked (carried x datum.Poison) picks
    else (if way.wrap && not (way.forward && within) then exact_or_poison x d picks
    else picked (carried x d) picks)

-- where a getelementptr leads from this datum of the base x, whose origins are carried on; null leads nowhere else
abbrev pub displaced_from : Memory → Displacement → Value → Datum → List ℕ → Outcome Picked
displaced_from mem way x (datum.Ptr block offset) picks =
    let there = (offset + way.bytes) % (2 ^ 64) in
    led_to way x (datum.Ptr block there) (nat_le there (mem.shape block).size) picks
displaced_from mem way x datum.Null picks = picked (carried x (if way.bytes == 0 then datum.Null else datum.Poison)) picks
displaced_from mem way x datum.Undef picks = picked x picks
displaced_from mem way x datum.Poison picks = picked x picks
displaced_from mem way x (datum.Int bits) picks = Over
displaced_from mem way x datum.Pair picks = Over

-- where a getelementptr leads from the base x
abbrev pub displaced : Memory → Displacement → Value → List ℕ → Outcome Picked
displaced mem way x picks = displaced_from mem way x x.datum picks

-- ---- operands

-- a global or function is a pointer to its block, or null in this run
abbrev pub at_home : Option ℕ → Datum
at_home None = datum.Null
at_home (Some block) = datum.Ptr block 0

-- the address of a global or function
abbrev pub symbol_value : Memory → Symbol → Value
symbol_value mem s = plain (at_home (mem.home s))

-- every constant of a struct type stands for a pair
abbrev pub or_pair : Option IrType → Datum → Datum
or_pair (Some (type.Struct fields packed)) d = datum.Pair
or_pair _ d = d

-- what `zeroinitializer` stands for at a type
abbrev pub zero_of : Option IrType → Outcome Datum
zero_of (Some (type.Int width)) = Gives (datum.Int 0)
zero_of (Some type.Ptr) = Gives datum.Null
zero_of (Some (type.Struct fields packed)) = Gives datum.Pair
zero_of _ = Over

-- a constant getelementptr counts as one with the one literal `bytes`
abbrev pub constant_way : Operand → Displacement
constant_way (operand.Offset base bytes inbounds wrap) =
    record { bytes = residue 64 bytes; forward = int_le (pos 0) bytes; inbounds = inbounds; wrap = wrap }
constant_way _ = record { bytes = 0; forward = true; inbounds = false; wrap = false }

-- a frame's values by number; none where it has not made one
abbrev pub Values : Type 0
Values = ℕ → Option Value

-- An operand's value: a value of the frame; a literal; an address; any integer, by pick, for another constant expression.
abbrev pub read_operand : Module → Memory → Values → Option IrType → Operand → List ℕ → Outcome Picked
read_operand m mem values ty (operand.Value v) picks = with (found (values v.0)) (λ x. picked x picks)
read_operand m mem values ty (operand.Int bits here) picks = fits here (picked (plain (datum.Int bits)) picks)
read_operand m mem values ty (operand.Truth b) picks = picked (plain (datum.Int (if b then 1 else 0))) picks
read_operand m mem values ty operand.Zero picks = with (zero_of ty) (λ d. picked (plain d) picks)
read_operand m mem values ty operand.Null picks = picked (plain datum.Null) picks
read_operand m mem values ty operand.Undef picks = picked (plain (or_pair ty datum.Undef)) picks
read_operand m mem values ty operand.Poison picks = picked (plain (or_pair ty datum.Poison)) picks
read_operand m mem values ty (operand.Global g) picks = picked (symbol_value mem (symbol.Global g)) picks
read_operand m mem values ty (operand.Func f) picks = picked (symbol_value mem (symbol.Func f)) picks
read_operand m mem values ty (operand.Offset base bytes inbounds wrap) picks =
    displaced mem (constant_way (operand.Offset base bytes inbounds wrap)) (symbol_value mem base) picks
read_operand m mem values ty (operand.WrongOffset rule) picks = Over
read_operand m mem values ty (operand.Parts shape first count) picks = Over
read_operand m mem values ty (operand.AnyInt first count) picks = picked (plain (any_int (width_in ty) picks)) (drop 1 picks)

-- an operand with its written type
abbrev pub read : Module → Memory → Values → Written → List ℕ → Outcome Picked
read m mem values w picks = read_operand m mem values (type_of m w.ty) w.val picks

-- ---- a module frame at its instruction

-- the state, the frame on top and those below it, and the instruction at which it stands
pub record Here : Type 0 where
  pub state : State
  pub frame : BodyFrame
  pub below : List Frame
  pub instr : Instr

-- reads an operand, and goes on with its value and the picks that are left
abbrev pub reading : {A : Type 0} → Module → Here → Written → List ℕ → (Value → List ℕ → Outcome A) → Outcome A
reading m here w picks next = with (read m here.state.memory here.frame.values w picks) (λ r. next r.value r.picks)

-- values, and the picks that are left
pub record AllPicked : Type 0 where
  pub values : List Value
  pub picks : List ℕ

-- reads operands in the order in which they are written
abbrev pub read_all : Module → Here → List Written → List ℕ → Outcome AllPicked
read_all m here [] picks = Gives (record { values = []; picks = picks })
read_all m here (w ∷ ws) picks =
    reading m here w picks (λ x picks. with (read_all m here ws picks) (λ rest. Gives (record { values = x ∷ rest.values; picks = rest.picks })))

-- the next instruction of the segment
abbrev pub behind : Spot → Spot
behind s = record { seg = s.seg; at = s.at + 1 }

-- the instruction gives this value, and the frame goes on behind it
abbrev pub results : Here → Value → Plan
results here x = with (found here.instr.result) (λ v. does (Sets v.0 x ∷ Goes (behind here.frame.spot) ∷ []))
