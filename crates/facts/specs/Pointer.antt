-- What a value of pointer type is known to be: not null, aligned, to so many bytes, to no block of a class.
use Rattle.std.specs.Prelude.{◌≡◌, ◌⊎◌, ◌≤◌, ◌*◌, ◌%◌, ◌-◌, ◌==◌, ◌&&◌, ℕ, Bool, true, false, length, MatchOption, slice_get, Option, None, Some}
use Rattle.std.specs.Option.{option_map_or, option_and_then}
use Rattle.std.specs.List.{list_any}
use Rattle.lattice_words.specs.Ladders.{is_byte_bit}
use Rattle.ir_module.specs.declared.op.Operand.{Operand}
use Rattle.ir_module.specs.declared.op.Operand.TheVariants as operand
use Rattle.ir_module.specs.declared.op.Written.{Written}
use Rattle.ir_module.specs.declared.op.Op.{Op}
use Rattle.ir_module.specs.declared.op.Op.TheVariants as op
use Rattle.ir_module.specs.declared.op.Instr.{Instr}
use Rattle.ir_module.specs.declared.module.Def.{Def}
use Rattle.ir_module.specs.declared.module.Def.TheVariants as def
use Rattle.ir_module.specs.declared.module.Spot.{Spot}
use Rattle.ir_module.specs.declared.module.Module.{Module}
use Rattle.ir_module.specs.Places.{instr_at, IsIn}
use Rattle.ir_module.specs.Operands.{literal}
use Rattle.ir_module.specs.Calls.{call_of, callee_of, inner_callee, is_lifetime}
use Rattle.ir_module.specs.WellFormed.{IsParamAt}
use Rattle.facts.specs.Kinds.{ValueFact, NonNull, AlignedTo, HasBytes, NotTo, BlockClass, OwnAlloca, Argument, Global, Unknown, class_bit}
use Rattle.facts.specs.Facts.{Fact, of_return, at_entry, nofree_of, not_to}
use Rattle.facts.specs.Promises.{gives_nonnull, gives_align, gives_bytes, returns_promised}
use Rattle.facts.specs.Displacements.{displacement, steps, size_of, align_of}
use Rattle.facts.specs.Known.{written_has, moved_has, OperandSpeaks, PointersHave, PointersSpeak}
use Rattle.facts.specs.DeadEdges.{ArmsHave, ArmsSpeak}

-- ---- lifetime markers

-- a direct call of a lifetime marker
abbrev pub is_marker : Module → Op → Bool
is_marker m o = option_map_or is_lifetime (callee_of m o) false

-- the last argument of a call
abbrev pub last_arg : Op → Option Written
last_arg o = option_and_then (λ call. slice_get call.args (length call.args - 1)) (call_of o)

-- the instruction is an alloca
abbrev pub is_alloca_op : Op → Bool
is_alloca_op (op.Alloca ty count align) = true
is_alloca_op _ = false

-- an alloca makes the value
abbrev pub is_alloca_def : Module → Def → Bool
is_alloca_def m (def.Instr s) = option_map_or (λ instr. is_alloca_op instr.op) (instr_at m s) false
is_alloca_def m (def.Param at) = false

-- the operand is written as the result of an alloca
abbrev pub is_alloca : Module → Operand → Bool
is_alloca m (operand.Value v) = option_map_or (λ info. is_alloca_def m info.def) (slice_get m.values v.0) false
is_alloca m _ = false

-- the instruction marks the lifetime of an alloca
abbrev pub marks_alloca : Module → Op → Bool
marks_alloca m o = is_marker m o && option_map_or (λ w. is_alloca m w.val) (last_arg o) false

-- the body marks the lifetime of an alloca somewhere
abbrev pub IsScoped : Module → ℕ → Type 0
IsScoped m f = (s : Spot) × (instr : Instr) × IsIn m f s × (instr_at m s ≡ Some instr) × (marks_alloca m instr.op ≡ true)

-- the operand is value v
abbrev pub is_value : ℕ → Operand → Bool
is_value v (operand.Value u) = u.0 == v
is_value v _ = false

-- the instruction marks the lifetime of value v
abbrev pub marks : Module → ℕ → Op → Bool
marks m v o = is_marker m o && option_map_or (λ call. list_any (λ (w : Written). is_value v w.val) call.args) (call_of o) false

-- no lifetime of value v is marked
abbrev pub IsUnmarked : Module → ℕ → Type 0
IsUnmarked m v = (s : Spot) (instr : Instr) → instr_at m s ≡ Some instr → marks m v instr.op ≡ false

-- ---- results of instructions

-- Bytes reached through the result v of a call in body f stay: the body frees nothing that existed before, and where it marks
-- lifetimes, the result is to none of its allocas.
pub record BytesStay (m : Module) (held : Fact → Bool) (f v : ℕ) : Type 0 where
  pub unfreed : held (nofree_of f) ≡ true
  pub unmarked : IsScoped m f → (held (not_to OwnAlloca v) ≡ true) × (held (not_to Unknown v) ≡ true)

-- how many elements an alloca has, where that is written
abbrev pub count_of : Module → Option Written → Option ℕ
count_of m None = Some 1
count_of m (Some w) = literal m w

-- the alignment of an alloca: the written one, else that of its type
abbrev pub alloca_align : Module → ℕ → Option ℕ → ℕ
alloca_align m ty align = option_map_or (λ bytes. bytes) align (align_of m ty)

-- an alloca has so many bytes, and they stay
abbrev pub AllocaHasBytes : Module → ℕ → ℕ → Option Written → ℕ → Type 0
AllocaHasBytes m v ty count bytes = (n : ℕ) × (count_of m count ≡ Some n) × (bytes ≤ size_of m ty * n) × IsUnmarked m v

-- an alloca is to a block of its own
abbrev pub IsNoAlloca : BlockClass → Type 0
IsNoAlloca OwnAlloca = ⊥
IsNoAlloca _ = Unit {0}

-- an alloca of `count` things of type ty
abbrev pub AllocaHas : Module → ℕ → ℕ → Option Written → Option ℕ → ValueFact → Type 0
AllocaHas m v ty count align NonNull = Unit {0}
AllocaHas m v ty count align (AlignedTo bytes) = (alloca_align m ty align % bytes) ≡ 0
AllocaHas m v ty count align (HasBytes bytes) = AllocaHasBytes m v ty count bytes
AllocaHas m v ty count align (NotTo class) = IsNoAlloca class
AllocaHas m v ty count align _ = ⊥

-- both arms of a select have it; that so many bytes can be reached is not kept
abbrev pub BothHave : Module → (Fact → Bool) → Written → Written → ℕ → ValueFact → Type 0
BothHave m held a b bit (HasBytes count) = ⊥
BothHave m held a b bit kind = (written_has m held a bit ≡ true) × (written_has m held b bit ≡ true)

-- what body g returns is to no block of the class by itself: a block of its allocas is gone, and one of its arguments is told by these
abbrev pub ReturnsNotTo : (Fact → Bool) → ℕ → BlockClass → Type 0
ReturnsNotTo held g Unknown = held (of_return g (class_bit Unknown)) ≡ true
ReturnsNotTo held g Global = held (of_return g (class_bit Global)) ≡ true
ReturnsNotTo held g _ = Unit {0}

-- the result v of an inner call of body g, made in body f
abbrev pub InnerHas : Module → (Fact → Bool) → ℕ → ℕ → Op → ℕ → ℕ → ValueFact → Type 0
InnerHas m held f v o bit g NonNull = held (of_return g bit) ≡ true
InnerHas m held f v o bit g (AlignedTo bytes) = held (of_return g bit) ≡ true
InnerHas m held f v o bit g (HasBytes count) = (held (of_return g bit) ≡ true) × BytesStay m held f v
InnerHas m held f v o bit g (NotTo class) = ReturnsNotTo held g class ×
    ((held (of_return g (class_bit Argument)) ≡ true) ⊎ PointersHave m held o bit)
InnerHas m held f v o bit g _ = ⊥

-- the result v of an outer call, made in body f
abbrev pub OuterHas : Module → (Fact → Bool) → ℕ → ℕ → Op → ValueFact → Type 0
OuterHas m held f v o NonNull = returns_promised m gives_nonnull o ≡ true
OuterHas m held f v o (AlignedTo bytes) = returns_promised m (gives_align bytes) o ≡ true
OuterHas m held f v o (HasBytes count) = (returns_promised m (gives_bytes count) o ≡ true) × BytesStay m held f v
OuterHas m held f v o _ = ⊥

-- the result v of a call, made in body f
abbrev pub CallHas : Module → (Fact → Bool) → ℕ → ℕ → Op → ℕ → ValueFact → Type 0
CallHas m held f v o bit kind = MatchOption (inner_callee m o) (OuterHas m held f v o kind) (λ g. InnerHas m held f v o bit g kind)

-- the result v of an instruction at spot s of body f
abbrev pub ResultHas : Module → (Fact → Bool) → ℕ → ℕ → Spot → Op → ℕ → ValueFact → Type 0
ResultHas m held f v s (op.Alloca ty count align) bit kind = AllocaHas m v ty.0 count align kind
ResultHas m held f v s (op.Select c a b) bit kind = BothHave m held a b bit kind
ResultHas m held f v s (op.Phi arms) bit kind = ArmsHave m held s arms bit
ResultHas m held f v s (op.Gep elem base indices inbounds wrap) bit kind =
    moved_has (displacement inbounds wrap (steps m elem.0 indices)) (written_has m held base) bit ≡ true
ResultHas m held f v s (op.Call call) bit kind = CallHas m held f v (op.Call call) bit kind
ResultHas m held f v s (op.Invoke call normal unwind) bit kind = CallHas m held f v (op.Invoke call normal unwind) bit kind
ResultHas m held f v s _ bit kind = ⊥

-- ---- parameters

-- a parameter is to a block that a pointer argument points to
abbrev pub IsNoArgument : BlockClass → Type 0
IsNoArgument Argument = ⊥
IsNoArgument _ = Unit {0}

-- parameter `at` of body f
abbrev pub ParamHas : (Fact → Bool) → ℕ → ℕ → ℕ → ValueFact → Type 0
ParamHas held f at bit NonNull = held (at_entry f at bit) ≡ true
ParamHas held f at bit (AlignedTo bytes) = held (at_entry f at bit) ≡ true
ParamHas held f at bit (HasBytes count) = (held (at_entry f at bit) ≡ true) × (held (nofree_of f) ≡ true)
ParamHas held f at bit (NotTo class) = IsNoArgument class
ParamHas held f at bit _ = ⊥

-- ---- the rule

-- pointer v has the bit: as a result, or as a parameter
pub record PointerHas (m : Module) (held : Fact → Bool) (v bit : ℕ) (kind : ValueFact) : Type 0 where
  pub made : (f : ℕ) (s : Spot) (instr : Instr) → IsIn m f s → instr_at m s ≡ Some instr → instr.result ≡ Some (record { 0 = v }) →
      ResultHas m held f v s instr.op bit kind
  pub param : (f at : ℕ) → IsParamAt m f at v → ParamHas held f at bit kind

-- ---- what the rule speaks of

-- that bytes stay
abbrev pub StaySpeaks : Module → ℕ → ℕ → Fact → Type 0
StaySpeaks m f v y = (y ≡ nofree_of f) ⊎ (IsScoped m f × ((y ≡ not_to OwnAlloca v) ⊎ (y ≡ not_to Unknown v)))

-- each arm
abbrev pub BothSpeak : Written → Written → ℕ → ValueFact → Fact → Type 0
BothSpeak a b bit (HasBytes count) y = ⊥
BothSpeak a b bit kind y = OperandSpeaks a bit y ⊎ OperandSpeaks b bit y

-- a getelementptr speaks of that bit of its base, and for a rung of bytes of each such rung
abbrev pub MovedSpeaks : Written → ℕ → ValueFact → Fact → Type 0
MovedSpeaks base bit (HasBytes count) y = (rung : ℕ) × (is_byte_bit rung ≡ true) × OperandSpeaks base rung y
MovedSpeaks base bit kind y = OperandSpeaks base bit y

-- of that class at the return of the callee
abbrev pub ReturnsSpeak : ℕ → BlockClass → Fact → Type 0
ReturnsSpeak g Unknown y = y ≡ of_return g (class_bit Unknown)
ReturnsSpeak g Global y = y ≡ of_return g (class_bit Global)
ReturnsSpeak g _ y = ⊥

-- an inner call speaks of what the callee returns, and for a class of blocks of each pointer argument
abbrev pub InnerSpeaks : Module → ℕ → ℕ → Op → ℕ → ℕ → ValueFact → Fact → Type 0
InnerSpeaks m f v o bit g (HasBytes count) y = (y ≡ of_return g bit) ⊎ StaySpeaks m f v y
InnerSpeaks m f v o bit g (NotTo class) y = ReturnsSpeak g class y ⊎ ((y ≡ of_return g (class_bit Argument)) ⊎ PointersSpeak m o bit y)
InnerSpeaks m f v o bit g kind y = y ≡ of_return g bit

-- an outer call speaks of facts for bytes alone
abbrev pub OuterSpeaks : Module → ℕ → ℕ → ValueFact → Fact → Type 0
OuterSpeaks m f v (HasBytes count) y = StaySpeaks m f v y
OuterSpeaks m f v kind y = ⊥

-- the result of a call speaks as its callee is
abbrev pub CallResultSpeaks : Module → ℕ → ℕ → Op → ℕ → ValueFact → Fact → Type 0
CallResultSpeaks m f v o bit kind y = MatchOption (inner_callee m o) (OuterSpeaks m f v kind y) (λ g. InnerSpeaks m f v o bit g kind y)

-- what the row of the instruction speaks of
abbrev pub ResultSpeaks : Module → ℕ → ℕ → Spot → Op → ℕ → ValueFact → Fact → Type 0
ResultSpeaks m f v s (op.Select c a b) bit kind y = BothSpeak a b bit kind y
ResultSpeaks m f v s (op.Phi arms) bit kind y = ArmsSpeak m s arms bit y
ResultSpeaks m f v s (op.Gep elem base indices inbounds wrap) bit kind y = MovedSpeaks base bit kind y
ResultSpeaks m f v s (op.Call call) bit kind y = CallResultSpeaks m f v (op.Call call) bit kind y
ResultSpeaks m f v s (op.Invoke call normal unwind) bit kind y = CallResultSpeaks m f v (op.Invoke call normal unwind) bit kind y
ResultSpeaks m f v s _ bit kind y = ⊥

-- a parameter speaks of its entries, and for bytes of `nofree`
abbrev pub ParamSpeaks : ℕ → ℕ → ℕ → ValueFact → Fact → Type 0
ParamSpeaks f at bit (NotTo class) y = ⊥
ParamSpeaks f at bit (HasBytes count) y = (y ≡ at_entry f at bit) ⊎ (y ≡ nofree_of f)
ParamSpeaks f at bit kind y = y ≡ at_entry f at bit

-- what the instruction that makes v speaks of
abbrev pub MadeSpeaks : Module → ℕ → ℕ → ValueFact → Fact → Type 0
MadeSpeaks m v bit kind y = (f : ℕ) × (s : Spot) × (instr : Instr) × IsIn m f s × (instr_at m s ≡ Some instr) × (instr.result ≡ Some (record { 0 = v })) ×
    ResultSpeaks m f v s instr.op bit kind y

-- what the rule of a pointer speaks of
abbrev pub PointerSpeaks : Module → ℕ → ℕ → ValueFact → Fact → Type 0
PointerSpeaks m v bit kind y = MadeSpeaks m v bit kind y ⊎ ((f : ℕ) × (at : ℕ) × IsParamAt m f at v × ParamSpeaks f at bit kind y)
