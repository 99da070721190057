-- Where the values of a module are made: parameters, and results of instructions.
use Rattle.std.specs.Prelude.{ℕ, List, [], ◌∷◌, ◌++◌, Option, None, Some}
use Rattle.attr_ids.specs.declared.ids.FuncId.{FuncId}
use Rattle.attr_ids.specs.declared.ids.ValueId.{ValueId}
use Rattle.ir_headers.specs.Headers.{one_more}
use Rattle.ir_module.specs.declared.op.Instr.{Instr}
use Rattle.ir_module.specs.declared.module.Def.TheVariants as def
use Rattle.ir_module.specs.declared.module.Param.{Param}
use Rattle.ir_module.specs.declared.module.Seg.{Seg}
use Rattle.ir_module.specs.declared.module.ValueInfo.{ValueInfo}

-- parameters, of which this is the place of the first
abbrev pub param_values : FuncId → ℕ → List Param → List ValueInfo
param_values func k [] = []
param_values func k (p ∷ ps) = record { func = func; ty = p.ty; def = def.Param k } ∷ param_values func (one_more k) ps

-- the value that an instruction gives, this being its place
abbrev pub result_at : FuncId → ℕ → ℕ → Instr → Option ValueId → List ValueInfo
result_at func seg at i None = []
result_at func seg at i (Some v) = record { func = func; ty = i.ty; def = def.Instr (record { seg = record { 0 = seg }; at = at }) } ∷ []

-- the results of the instructions of a segment, from this place on
abbrev pub results_in : FuncId → ℕ → ℕ → List Instr → List ValueInfo
results_in func seg at [] = []
results_in func seg at (i ∷ is) = result_at func seg at i i.result ++ results_in func seg (one_more at) is

-- the results of segments, of which this is the number of the first
abbrev pub results_of : FuncId → ℕ → List Seg → List ValueInfo
results_of func s [] = []
results_of func s (x ∷ xs) = results_in func s 0 x.instrs ++ results_of func (one_more s) xs
