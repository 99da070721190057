-- Instructions have the types that their operations write, production by production.
use Rattle.std.proofs.Common.{◌≡◌, ℕ, zero, suc, List, [], ◌∷◌, refl, subst}
use Rattle.std.specs.List.{AllByRecursion}
use Rattle.std.proofs.lemmas.Option.{none-some, same_Some}
use Rattle.shelf.proofs.Every.{every_append}
use Rattle.attr_ids.specs.declared.ids.TypeId.{TypeId}
use Rattle.ir_tree.specs.declared.constants.Const.{Const}
use Rattle.ir_tree.specs.declared.values.Value.{Value}
use Rattle.ir_tree.specs.declared.values.Value.TheVariants as value
use Rattle.ir_tree.specs.declared.instructions.Arm as tree_arm
use Rattle.ir_tree.specs.declared.instructions.Instr as tree
use Rattle.ir_tree.specs.declared.instructions.Instr.TheVariants as instr
use Rattle.ir_tree.specs.declared.instructions.Term.{Term}
use Rattle.ir_tree.specs.declared.instructions.Term.TheVariants as term
use Rattle.ir_tree.specs.declared.blocks.Line.{Line}
use Rattle.ir_tree.specs.declared.blocks.Line.TheVariants as line
use Rattle.ir_tree.specs.declared.blocks.Last.{Last}
use Rattle.ir_tree.specs.declared.blocks.Last.TheVariants as last
use Rattle.ir_module.specs.declared.op.Arm.{Arm}
use Rattle.ir_module.specs.declared.op.Instr.{Instr}
use Rattle.ir_module.specs.declared.module.Module.{Module}
use Rattle.ir_module.specs.WellFormed.{Each}
use Rattle.ir_operands.specs.Types.{type_of, IsIntegerOf, IsPointer}
use Rattle.ir_instrs.specs.Reading.{Parts, void_type, pointer_type}
use Rattle.ir_instrs.specs.Uses.{behind}
use Rattle.ir_instrs.specs.Operands.{written, tvalue_uses}
use Rattle.ir_instrs.specs.Ops.{arm_of, arm_uses, arms_of}
use Rattle.ir_instrs.specs.Terms.{term_of}
use Rattle.ir_bodies.specs.Context.{Context}
use Rattle.ir_bodies.specs.Instrs.{op_of, type_in}
use Rattle.ir_bodies.specs.Lines.{line_uses, line_instrs, line_values, first_of, lines_uses, lines_values, lines_instrs, last_instr, last_first}
use Rattle.ir_bodies.specs.Bodies.{Part, part_uses, part_values, part_instrs, label_of, instrs_of}
use Rattle.verified_types.specs.Results.{WritesType}

-- an instruction has the type that its operation writes
abbrev pub IsWritten : Module → Instr → Type 0
IsWritten m i = WritesType m i.ty i.op

module _ (m : Module) (x : Context) (bit : IsIntegerOf 1 (type_of m.types x.reading.bit)) (pointer : IsPointer (type_of m.types pointer_type))
    (consts : (c : Const) (ty : TypeId) (ps : Parts) → (x.reading.const c ty ps).0.ty ≡ ty) where
  written_type : (ps : Parts) (ty : TypeId) (v : Value) → (written x.reading ps ty v).ty ≡ ty
  written_type ps ty (value.Local at) = refl
  written_type ps ty (value.Const c) = consts c ty ps

  arms_type : (ty : TypeId) (ps : Parts) (arms : List tree_arm.Arm) → Each (arms_of x.reading ps ty arms) (λ k (arm : Arm). arm.val.ty ≡ ty)
  arms_type ty ps [] k arm at = absurd (none-some arm at)
  arms_type ty ps (a ∷ arms) zero arm at =
      subst (λ (z : Arm). z.val.ty ≡ ty) (same_Some (arm_of x.reading ty ps a) arm at) (written_type ps ty a.value)
  arms_type ty ps (a ∷ arms) (suc k) arm at = arms_type ty (behind x.reading ps (arm_uses ty a)) arms k arm at

  instr_written : (ps : Parts) (i : tree.Instr) → WritesType m (type_in x.reading i) (op_of x ps i)
  unfolding op_of type_in
  instr_written ps (instr.Binop w flags t left right) = written_type ps (x.reading.kind t) left
  instr_written ps (instr.Icmp i) = bit
  instr_written ps (instr.Cast w flags of to) = tt
  instr_written ps (instr.Select i) = written_type (behind x.reading ps (tvalue_uses x.reading i.on)) (x.reading.kind i.yes.ty) i.yes.value
  instr_written ps (instr.Freeze w of) = written_type ps (x.reading.kind of.ty) of.value
  instr_written ps (instr.Phi w t arms) = arms_type (x.reading.kind t) ps arms
  instr_written ps (instr.Alloca i) = pointer
  instr_written ps (instr.Load w volatile t from align) = tt
  instr_written ps (instr.Store i) = tt
  instr_written ps (instr.GetElementPtr w flags elem operands) = pointer
  instr_written ps (instr.Call i) = refl
  instr_written ps (instr.Cleanup w t cleanup clauses) = tt
  instr_written ps (instr.LandingPad w t clauses) = tt

  term_written : (ps : Parts) (t : Term) → WritesType m void_type (term_of x.reading ps t)
  unfolding term_of
  term_written ps (term.RetVoid at) = tt
  term_written ps (term.Ret at of) = tt
  term_written ps (term.Jump at to) = tt
  term_written ps (term.Branch at on taken other) = tt
  term_written ps (term.Switch y) = tt
  term_written ps (term.Unreachable at) = tt
  term_written ps (term.Resume at of) = tt

  -- ---- blocks
  line_written : (v : ℕ) (ps : Parts) (next : ℕ) (l : Line) → AllByRecursion (IsWritten m) (line_instrs x v ps next l)
  line_written v ps next (line.Opaque at) = tt
  line_written v ps next (line.Instr name i attached) = (instr_written ps i, tt)

  lines_written : (v : ℕ) (ps : Parts) (end : ℕ) (ls : List Line) → AllByRecursion (IsWritten m) (lines_instrs x v ps end ls)
  lines_written v ps end [] = tt
  lines_written v ps end (l ∷ ls) =
      every_append (IsWritten m) (line_instrs x v ps (first_of ls end) l) (lines_instrs x (line_values x v l) (behind x.reading ps (line_uses x l)) end ls)
      (line_written v ps (first_of ls end) l) (lines_written (line_values x v l) (behind x.reading ps (line_uses x l)) end ls)

  last_written : (v : ℕ) (ps : Parts) (next : ℕ) (l : Last) → IsWritten m (last_instr x v ps next l)
  last_written v ps next (last.Term t attached after) = term_written ps t
  last_written v ps next (last.Invoke name i attached after) = refl

  part_written : (v : ℕ) (ps : Parts) (next : ℕ) (p : Part) → AllByRecursion (IsWritten m) (part_instrs x v ps next p)
  part_written v ps next p =
      let w = lines_values x v p.lines in
      let q = behind x.reading ps (lines_uses x p.lines) in
      every_append (IsWritten m) (lines_instrs x v ps (last_first p.last) p.lines) (last_instr x w q next p.last ∷ [])
      (lines_written v ps (last_first p.last) p.lines) (last_written w q next p.last, tt)

  pub parts_written : (v : ℕ) (ps : Parts) (close : ℕ) (bs : List Part) → AllByRecursion (AllByRecursion (IsWritten m)) (instrs_of x v ps close bs)
  parts_written v ps close [] = tt
  parts_written v ps close (b ∷ bs) =
      (part_written v ps (label_of bs close) b, parts_written (part_values x v b) (behind x.reading ps (part_uses x b)) close bs)
