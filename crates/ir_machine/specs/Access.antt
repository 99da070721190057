-- Memory access (LangRef, "Memory Access and Addressing Operations", "Volatile Memory Accesses").
use Rattle.std.specs.Prelude.{ℕ, ◌*◌, ◌%◌, ◌^◌, ◌==◌, ◌&&◌, nat_le, Bool, true, false, if◌then◌else◌, List, [], ◌∷◌, Option, None, Some}
use Rattle.ir_types.specs.declared.ir_type.IrType.{IrType}
use Rattle.ir_types.specs.declared.ir_type.IrType.TheVariants as type
use Rattle.ir_module.specs.declared.op.Written.{Written}
use Rattle.ir_module.specs.declared.module.Module.{Module}
use Rattle.ir_machine.specs.declared.choice.Datum.{Datum}
use Rattle.ir_machine.specs.declared.choice.Datum.TheVariants as datum
use Rattle.ir_machine.specs.declared.choice.Value.{Value}
use Rattle.ir_machine.specs.declared.choice.Byte.{Byte}
use Rattle.ir_machine.specs.Values.{plain, bytes_from, overlaid, stored, loaded_int, loaded_ptr}
use Rattle.ir_machine.specs.Memory.{OfAlloca, Memory, Shape, is_aligned, has_bytes, has_room, plain_base}
use Rattle.ir_machine.specs.Frames.{What, Read, Write, HiddenRead, HiddenWrite, Capture}
use Rattle.ir_machine.specs.Moves.{Outcome, Gives, Undefined, Over, Plan, with, found, needs, fits, does, Grows, Fills, Sets, Goes, says}
use Rattle.ir_machine.specs.Reading.{type_of, size_of, align_or, pick, Here, reading, behind}

-- ---- alloca

-- a count that is undef or poison is undefined
abbrev pub count_of : Datum → Outcome ℕ
count_of (datum.Int bits) = Gives bits
count_of datum.Undef = Undefined
count_of datum.Poison = Undefined
count_of _ = Over

-- how many, 1 where none is written; read without sign
abbrev pub counting : Module → Here → Option Written → List ℕ → (ℕ → List ℕ → Plan) → Plan
counting m here None picks next = next 1 picks
counting m here (Some w) picks next = reading m here w picks (λ x picks. with (count_of x.datum) (λ n. next n picks))

-- pick 0 is the plain base, every other a base
abbrev pub base_by : Memory → ℕ → ℕ → ℕ
base_by mem align n = if n == 0 then plain_base mem align else n

-- the base is a multiple of the alignment, and there is room
abbrev pub can_lie : Memory → ℕ → ℕ → ℕ → Bool
can_lie mem align base size = (base % align == 0) && has_room mem base size

-- the block that an alloca makes
abbrev pub alloca_shape : Here → ℕ → ℕ → ℕ → Shape
alloca_shape here v base size = record { size = size; base = base; kind = OfAlloca here.frame.call.number v }

-- an alloca of this size at this base: a new block of the call, and a pointer to it
abbrev pub allocates_at : Here → ℕ → ℕ → ℕ → Plan
allocates_at here align base size =
    let mem = here.state.memory in
    fits (can_lie mem align base size) (with (found here.instr.result) (λ v.
    does (Grows (alloca_shape here v.0 base size) ∷ Sets v.0 (plain (datum.Ptr mem.count 0)) ∷ Goes (behind here.frame.spot) ∷ [])))

-- an alloca: size times count bytes, undefined above 2 ^ 40
abbrev pub allocates : Module → Here → List ℕ → ℕ → Option Written → Option ℕ → Plan
allocates m here picks ty count align =
    counting m here count picks (λ n picks. with (size_of m ty) (λ size. with (align_or m ty align) (λ align.
    needs (nat_le (size * n) (2 ^ 40)) (allocates_at here align (base_by here.state.memory align (pick picks)) (size * n)))))

-- ---- load and store

-- bytes of a block
pub record Place : Type 0 where
  pub block : ℕ
  pub offset : ℕ
  pub size : ℕ

-- a place may be accessed where its block is live, it lies in it, and its address is a multiple of the alignment
abbrev pub can_access : Memory → ℕ → ℕ → ℕ → ℕ → Bool
can_access mem align size block offset = has_bytes mem size block offset && is_aligned mem align block offset

-- the place to which a pointer points, if it may be accessed; null, undef and poison point nowhere
abbrev pub accessed_at : Memory → ℕ → ℕ → Datum → Outcome Place
accessed_at mem align size (datum.Ptr block offset) =
    needs (can_access mem align size block offset) (Gives (record { block = block; offset = offset; size = size }))
accessed_at mem align size datum.Null = Undefined
accessed_at mem align size datum.Undef = Undefined
accessed_at mem align size datum.Poison = Undefined
accessed_at mem align size (datum.Int bits) = Over
accessed_at mem align size datum.Pair = Over

-- the place of a value of this type to which the pointer points
abbrev pub accessed : Module → Memory → ℕ → Option ℕ → Datum → Outcome Place
accessed m mem ty align d = with (size_of m ty) (λ size. with (align_or m ty align) (λ align. accessed_at mem align size d))

-- a volatile access is a hidden read, a hidden write and a capture besides
abbrev pub hidden : Bool → Value → List What
hidden true p = HiddenRead ∷ HiddenWrite ∷ Capture p.origins ∷ []
hidden false p = []

-- a value of an integer or pointer type from its bytes
abbrev pub loaded_as : Option IrType → List Byte → Outcome Value
loaded_as (Some (type.Int width)) bytes = Gives (loaded_int width bytes)
loaded_as (Some type.Ptr) bytes = Gives (loaded_ptr bytes)
loaded_as _ bytes = Over

-- the bytes of a place
abbrev pub bytes_at : Memory → Place → List Byte
bytes_at mem place = bytes_from (mem.bytes place.block) place.offset place.size

-- a load of a value of the instruction's type
abbrev pub loads : Module → Here → List ℕ → Written → Option ℕ → Bool → Plan
loads m here picks ptr align volatile =
    let mem = here.state.memory in
    reading m here ptr picks (λ p picks. with (accessed m mem here.instr.ty.0 align p.datum) (λ place.
    with (loaded_as (type_of m here.instr.ty) (bytes_at mem place)) (λ x. with (found here.instr.result) (λ v.
    does (says (Read place.block p.origins ∷ hidden volatile p) (Sets v.0 x ∷ Goes (behind here.frame.spot) ∷ []))))))

-- the bytes of a block after a store
abbrev pub bytes_with : Memory → Place → Value → ℕ → Byte
bytes_with mem place x = overlaid place.offset (stored place.size x) (mem.bytes place.block)

-- a store; a pointer that is stored is captured, and a value that is no pointer has no origins, so that its capture says nothing
abbrev pub stores : Module → Here → List ℕ → Written → Written → Option ℕ → Bool → Plan
stores m here picks val ptr align volatile =
    let mem = here.state.memory in
    reading m here val picks (λ x picks. reading m here ptr picks (λ p picks. with (accessed m mem val.ty.0 align p.datum) (λ place.
    does (says (Write place.block p.origins ∷ Capture x.origins ∷ hidden volatile p)
    (Fills place.block (bytes_with mem place x) ∷ Goes (behind here.frame.spot) ∷ [])))))
