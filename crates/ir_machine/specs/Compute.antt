-- Instructions that compute a value from their operands alone (LangRef, "Binary Operations", "Bitwise Binary Operations",
-- "Conversion Operations", "Other Operations", "'getelementptr' Instruction").
use Rattle.std.specs.Prelude.{ℕ, ◌-◌, ◌%◌, ◌^◌, ◌==◌, ◌&&◌, ◌||◌, not, nat_lt, int_le, pos, ℤ, ◌+ℤ◌, ◌*ℤ◌, Bool, true, false, if◌then◌else◌, List, [], ◌∷◌}
use Rattle.std.specs.Prelude.{drop, slice_get, Option, Some, is_some}
use Rattle.attr_ids.specs.declared.ids.TypeId.{TypeId}
use Rattle.ir_types.specs.declared.ir_type.IrType.{IrType}
use Rattle.ir_types.specs.declared.ir_type.IrType.TheVariants as type
use Rattle.ir_types.specs.TypeTable.{field_start}
use Rattle.ir_ops.specs.declared.binary.BinOp.{BinOp}
use Rattle.ir_ops.specs.declared.binary.BinOp.TheVariants as kind
use Rattle.ir_ops.specs.declared.binary.OpOut.{OpOut}
use Rattle.ir_ops.specs.declared.binary.OpOut.TheVariants as out
use Rattle.ir_ops.specs.declared.predicate.Pred.{Pred}
use Rattle.ir_ops.specs.declared.conversion.CastOp.{CastOp}
use Rattle.ir_ops.specs.declared.conversion.CastOp.TheVariants as cast
use Rattle.ir_ops.specs.Residue.{residue, signed}
use Rattle.ir_ops.specs.BinOp.{outcome}
use Rattle.ir_ops.specs.Pred.{comparison}
use Rattle.ir_ops.specs.CastOp.{converted}
use Rattle.ir_module.specs.declared.op.Op.{Op}
use Rattle.ir_module.specs.declared.op.Op.TheVariants as op
use Rattle.ir_module.specs.declared.op.Written.{Written}
use Rattle.ir_module.specs.declared.module.Module.{Module}
use Rattle.ir_module.specs.Operands.{literal}
use Rattle.ir_machine.specs.declared.choice.Datum.{Datum}
use Rattle.ir_machine.specs.declared.choice.Datum.TheVariants as datum
use Rattle.ir_machine.specs.declared.choice.Value.{Value}
use Rattle.ir_machine.specs.Values.{plain, carried, is_poison, is_undef}
use Rattle.ir_machine.specs.Memory.{Memory}
use Rattle.ir_machine.specs.Frames.{Capture}
use Rattle.ir_machine.specs.Moves.{Outcome, Gives, Undefined, Over, Plan, with, found, needs, fits, does, Says, Sets, Goes}
use Rattle.ir_machine.specs.Reading.{Displacement, type_of, width_of, is_pointer, laid, size_of, pick, any_int, displaced, Here, reading, behind, results}

-- ---- integers

-- the operations that have a divisor
abbrev pub is_division : BinOp → Bool
is_division kind.UDiv = true
is_division kind.URem = true
is_division kind.SDiv = true
is_division kind.SRem = true
is_division _ = false

-- what an operation on integers answers, as a datum
abbrev pub answered : OpOut → Outcome Datum
answered (out.Value bits) = Gives (datum.Int bits)
answered out.Poison = Gives datum.Poison
answered out.Undefined = Undefined

-- a function of two integers
abbrev pub on_ints : (ℕ → ℕ → Outcome Datum) → Datum → Datum → Outcome Datum
on_ints f (datum.Int a) (datum.Int b) = f a b
on_ints f _ _ = Over

-- poison in an operand gives poison, else undef in one gives undef
abbrev pub unless_odd : Datum → Datum → Outcome Datum → Outcome Datum
unless_odd a b next = if is_poison a || is_poison b then Gives datum.Poison else (if is_undef a || is_undef b then Gives datum.Undef else next)

-- a binary operation at a width; a divisor that is undef or poison is undefined
abbrev pub binary : ℕ → BinOp → Datum → Datum → Outcome Datum
binary width o a b = needs (not (is_division o && (is_poison b || is_undef b))) (unless_odd a b (on_ints (λ i j. answered (outcome width o i j)) a b))

-- a truth value as an integer of one bit
abbrev pub truth : Bool → Datum
truth b = datum.Int (if b then 1 else 0)

-- a comparison of integers at a width
abbrev pub compared : ℕ → Pred → Datum → Datum → Outcome Datum
compared width pred a b = unless_odd a b (on_ints (λ i j. Gives (truth (comparison width pred i j))) a b)

-- a conversion between two widths
abbrev pub converted_datum : ℕ → ℕ → CastOp → Datum → Outcome Datum
converted_datum from' to o (datum.Int bits) = Gives (datum.Int (converted from' to o bits))
converted_datum from' to o datum.Undef = Gives datum.Undef
converted_datum from' to o datum.Poison = Gives datum.Poison
converted_datum from' to o _ = Over

-- an instruction with a flag gives its exact result or poison, by pick
abbrev pub flagged_by : Bool → List ℕ → Datum → Datum
flagged_by flagged picks d = if flagged && not (pick picks == 0) then datum.Poison else d

-- the result of an operation on integers, which has no origins
abbrev pub int_result : Bool → List ℕ → Outcome Datum → Outcome Value
int_result flagged picks d = with d (λ d. Gives (plain (flagged_by flagged picks d)))

-- ---- select and freeze

-- poison where the condition is poison, either arm by pick where it is undef, else the arm
abbrev pub selected : Datum → Value → Value → List ℕ → Outcome Value
selected (datum.Int bits) a b picks = Gives (if bits == 0 then b else a)
selected datum.Undef a b picks = Gives (if pick picks == 0 then a else b)
selected datum.Poison a b picks = Gives (plain datum.Poison)
selected _ a b picks = Over

-- pick 0 is null, n is a pointer to block n - 1 with the next pick as its offset; the block has to exist
abbrev pub any_pointer : ℕ → ℕ → List ℕ → Outcome Value
any_pointer count n picks =
    if n == 0 then Gives (plain datum.Null) else fits (nat_lt (n - 1) count) (Gives (plain (datum.Ptr (n - 1) (pick picks % (2 ^ 64)))))

-- any value of the type, by pick
abbrev pub any_value : Memory → Option IrType → List ℕ → Outcome Value
any_value mem (Some (type.Int width)) picks = Gives (plain (any_int width picks))
any_value mem (Some type.Ptr) picks = any_pointer mem.count (pick picks) (drop 1 picks)
any_value mem _ picks = Over

-- freeze: the value, or for undef and poison any value of the type, which has no origins
abbrev pub frozen : Memory → Option IrType → Value → List ℕ → Outcome Value
frozen mem ty x picks = if is_undef x.datum || is_poison x.datum then any_value mem ty picks else Gives x

-- ---- getelementptr

-- an index as it is used, whether it is poison, and the picks that are left
pub record Index : Type 0 where
  pub bits : ℕ
  pub poison : Bool
  pub picks : List ℕ

-- an undef index is any integer, by pick
abbrev pub index_of : ℕ → Datum → List ℕ → Outcome Index
index_of width (datum.Int bits) picks = Gives (record { bits = bits; poison = false; picks = picks })
index_of width datum.Undef picks = Gives (record { bits = pick picks % (2 ^ width); poison = false; picks = drop 1 picks })
index_of width datum.Poison picks = Gives (record { bits = 0; poison = true; picks = picks })
index_of width _ picks = Over

-- an index as a number, how many bytes it leads on, and the type that it leads to
pub record Stride : Type 0 where
  pub number : ℤ
  pub bytes : ℤ
  pub ty : ℕ

-- so many elements of this type
abbrev pub elements : Module → ℕ → ℤ → Outcome Stride
elements m ty number = with (size_of m ty) (λ size. Gives (record { number = number; bytes = number *ℤ pos size; ty = ty }))

-- the field of this number
abbrev pub field : Module → ℕ → List TypeId → ℕ → Outcome Stride
field m ty fields i =
    with (laid (field_start m.types ty i)) (λ start.
    with (found (slice_get fields i)) (λ part. Gives (record { number = pos i; bytes = pos start; ty = part.0 })))

-- an index into a type: a struct's is the number of a field, an array's is read with its sign
abbrev pub into : Module → ℕ → ℕ → ℕ → Option IrType → Outcome Stride
into m ty width bits (Some (type.Array count elem)) = elements m elem.0 (signed width bits)
into m ty width bits (Some (type.Struct fields packed)) = field m ty fields bits
into m ty width bits _ = Over

-- how far the indices so far lead
pub record Walk : Type 0 where
  pub bytes : ℤ
  pub ty : ℕ
  pub forward : Bool
  pub poison : Bool
  pub picks : List ℕ

-- one index more, which leads as `stride` says of its width and bits
abbrev pub walked : Module → Here → (ℕ → ℕ → Outcome Stride) → Written → Walk → Outcome Walk
walked m here stride w walk =
    let width = width_of m w.ty in
    reading m here w walk.picks (λ x picks. with (index_of width x.datum picks) (λ i. with (stride width i.bits) (λ s. Gives (record {
      bytes = walk.bytes +ℤ s.bytes;
      ty = s.ty;
      forward = walk.forward && (is_some (literal m w) && int_le (pos 0) s.number);
      poison = walk.poison || i.poison;
      picks = i.picks;
    }))))

-- the indices behind the first lead into the type
abbrev pub walks_in : Module → Here → List Written → Walk → Outcome Walk
walks_in m here [] walk = Gives walk
walks_in m here (w ∷ ws) walk =
    with (walked m here (λ width bits. into m walk.ty width bits (slice_get m.types walk.ty)) w walk) (λ next. walks_in m here ws next)

-- the first index counts elements, with its sign
abbrev pub walks : Module → Here → List Written → Walk → Outcome Walk
walks m here [] walk = Gives walk
walks m here (w ∷ ws) walk = with (walked m here (λ width bits. elements m walk.ty (signed width bits)) w walk) (λ next. walks_in m here ws next)

-- how far the indices lead, with the flags of the instruction
abbrev pub way_of : Bool → Bool → Walk → Displacement
way_of inbounds wrap walk = record { bytes = residue 64 walk.bytes; forward = walk.forward; inbounds = inbounds; wrap = wrap }

-- where the indices lead from the base: a poison index gives poison, which keeps the origins of the base
abbrev pub gep_result : Memory → Bool → Bool → Value → Walk → Outcome Value
gep_result mem inbounds wrap x walk =
    if walk.poison then Gives (carried x datum.Poison) else with (displaced mem (way_of inbounds wrap walk) x walk.picks) (λ r. Gives r.value)

-- ---- what an instruction computes

-- a binary operation reads its two operands
abbrev pub computed_bin : Module → Here → List ℕ → BinOp → Bool → Written → Written → Outcome Value
computed_bin m here picks o flagged a b =
    reading m here a picks (λ x picks. reading m here b picks (λ y picks. int_result flagged picks (binary (width_of m a.ty) o x.datum y.datum)))

-- a comparison of integers reads its two operands
abbrev pub computed_icmp : Module → Here → List ℕ → Pred → Bool → Written → Written → Outcome Value
computed_icmp m here picks pred flagged a b =
    reading m here a picks (λ x picks. reading m here b picks (λ y picks. int_result flagged picks (compared (width_of m a.ty) pred x.datum y.datum)))

-- a conversion of an integer reads its operand
abbrev pub computed_cast : Module → Here → List ℕ → CastOp → Bool → Written → Outcome Value
computed_cast m here picks o flagged a =
    reading m here a picks (λ x picks. int_result flagged picks (converted_datum (width_of m a.ty) (width_of m here.instr.ty) o x.datum))

-- a getelementptr reads its base and then its indices
abbrev pub computed_gep : Module → Here → List ℕ → Op → Outcome Value
computed_gep m here picks (op.Gep elem base indices inbounds wrap) =
    reading m here base picks (λ x picks.
    with (walks m here indices (record { bytes = pos 0; ty = elem.0; forward = true; poison = false; picks = picks })) (λ walk.
    gep_result here.state.memory inbounds wrap x walk))
computed_gep m here picks _ = Over

-- the value that an instruction computes; an `icmp` is one of integers
abbrev pub computed : Module → Here → List ℕ → Op → Outcome Value
computed m here picks (op.Bin o flagged a b) = computed_bin m here picks o flagged a b
computed m here picks (op.Icmp pred flagged a b) = computed_icmp m here picks pred flagged a b
computed m here picks (op.Cast o flagged a) = computed_cast m here picks o flagged a
computed m here picks (op.Select c a b) =
    reading m here c picks (λ z picks. reading m here a picks (λ x picks. reading m here b picks (λ y picks. selected z.datum x y picks)))
computed m here picks (op.Freeze a) = reading m here a picks (λ x picks. frozen here.state.memory (type_of m a.ty) x picks)
computed m here picks (op.Gep elem base indices inbounds wrap) = computed_gep m here picks (op.Gep elem base indices inbounds wrap)
computed m here picks (op.LandingPad catch_all clauses) = Gives (plain datum.Pair)
computed m here picks _ = Over

-- the instruction gives the value that it computes
abbrev pub computes : Module → Here → List ℕ → Op → Plan
computes m here picks o = with (computed m here picks o) (λ x. results here x)

-- ---- pointers as numbers, which captures them

-- either truth value, by pick; then a flag may make it poison
abbrev pub any_truth : Bool → List ℕ → Value
any_truth flagged picks = plain (flagged_by flagged (drop 1 picks) (truth (not (pick picks == 0))))

-- an `icmp` on pointers, whatever they are
abbrev pub compares : Module → Here → List ℕ → Bool → Written → Written → Plan
compares m here picks flagged a b =
    reading m here a picks (λ x picks. reading m here b picks (λ y picks. with (found here.instr.result) (λ v.
    does (Says (Capture x.origins) ∷ Says (Capture y.origins) ∷ Sets v.0 (any_truth flagged picks) ∷ Goes (behind here.frame.spot) ∷ []))))

-- a `ptrtoint`: any integer of the type, by pick, whatever the pointer is
abbrev pub exposes : Module → Here → List ℕ → Bool → Written → Plan
exposes m here picks flagged a =
    reading m here a picks (λ x picks. with (found here.instr.result) (λ v.
    let number = plain (flagged_by flagged (drop 1 picks) (any_int (width_of m here.instr.ty) picks)) in
    does (Says (Capture x.origins) ∷ Sets v.0 number ∷ Goes (behind here.frame.spot) ∷ [])))

-- an `icmp` is of pointers or of integers, by the type of its operands
abbrev pub does_icmp : Module → Here → List ℕ → Op → Plan
does_icmp m here picks (op.Icmp pred flagged a b) =
    if is_pointer m a.ty then compares m here picks flagged a b else computes m here picks (op.Icmp pred flagged a b)
does_icmp m here picks _ = Over

-- a conversion is of a pointer or of an integer
abbrev pub does_cast : Module → Here → List ℕ → CastOp → Bool → Written → Plan
does_cast m here picks cast.PtrToInt flagged a = exposes m here picks flagged a
does_cast m here picks o flagged a = computes m here picks (op.Cast o flagged a)
