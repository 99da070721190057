-- The instructions of a block, with their results and their spans.
use Rattle.std.specs.Prelude.{ℕ, ◌+◌, ◌-◌, Bool, not, if◌then◌else◌, List, [], ◌∷◌, ◌++◌, Option, None, Some}
use Rattle.std.specs.Option.{is_some}
use Rattle.std.specs.List.{flat_map}
use Rattle.attr_ids.specs.declared.ids.TypeId.{TypeId}
use Rattle.attr_ids.specs.declared.ids.ValueId.{ValueId}
use Rattle.attr_ids.specs.declared.insertion.Span.{Span}
use Rattle.ir_tree.specs.declared.attributes.Attach.{Attach}
use Rattle.ir_tree.specs.declared.blocks.Line.{Line}
use Rattle.ir_tree.specs.declared.instructions.Instr as instr_of_tree
use Rattle.ir_tree.specs.declared.instructions.Term.{Term}
use Rattle.ir_tree.specs.declared.instructions.Invoke.{Invoke}
use Rattle.ir_tree.specs.declared.blocks.Line.TheVariants as line
use Rattle.ir_tree.specs.declared.blocks.Last.{Last}
use Rattle.ir_tree.specs.declared.blocks.Last.TheVariants as last
use Rattle.ir_module.specs.declared.op.Op.{Op}
use Rattle.ir_module.specs.declared.op.Instr.{Instr}
use Rattle.ir_attrs.specs.Leaves.{leaf_from, leaf_to}
use Rattle.ir_attrs.specs.Places.{or_leaf}
use Rattle.ir_scopes.specs.Results.{is_void, gives_result}
use Rattle.ir_instrs.specs.Reading.{Parts, void_type}
use Rattle.ir_instrs.specs.Uses.{Use, behind}
use Rattle.ir_instrs.specs.Terms.{term_of, term_uses, term_first}
use Rattle.ir_bodies.specs.Context.{Context}
use Rattle.ir_bodies.specs.Instrs.{op_of, uses_of, type_in, instr_first, invoke_of, invoke_uses}

-- the last token of an instruction, given the token behind its attachments: a comma stands before the first of these
abbrev pub last_token : List Attach → ℕ → ℕ
last_token [] next = next - 1
last_token (a ∷ attached) next = a.kind - 2

-- the span of these tokens
abbrev pub span : Context → ℕ → ℕ → Span
span r first end = record { from = leaf_from r.reading.toks first; to = leaf_to r.reading.toks end }

-- one more
abbrev pub one_more : ℕ → ℕ
one_more n = n + 1

-- the number of the next value, where one is given
abbrev pub value_in : Bool → ℕ → Option ValueId
value_in gives v = if gives then Some (record { 0 = v }) else None

-- how many values there are then
abbrev pub raised : Bool → ℕ → ℕ
raised gives v = if gives then one_more v else v

abbrev pub made : Context → Option ValueId → Option ℕ → TypeId → Op → ℕ → ℕ → Instr
made r value name t o first end = record { result = value; named = is_some name; ty = t; op = o; span = span r (or_leaf first name) end }

-- ---- lines

abbrev pub instr_gives : Context → instr_of_tree.Instr → Bool
instr_gives r x = gives_result r.reading.ids r.void x

abbrev pub instr_uses : Context → instr_of_tree.Instr → List Use
instr_uses r x = uses_of r.reading x

-- an instruction, behind so many values and these parts of constants, up to this token
abbrev pub instr_of : Context → ℕ → Parts → Option ℕ → instr_of_tree.Instr → ℕ → Instr
instr_of r v ps name x end = made r (value_in (instr_gives r x) v) name (type_in r.reading x) (op_of r ps x) (instr_first x) end

abbrev pub line_uses : Context → Line → List Use
line_uses r (line.Opaque at) = []
line_uses r (line.Instr name x attached) = instr_uses r x

abbrev pub line_first : Line → ℕ
line_first (line.Opaque at) = at
line_first (line.Instr name x attached) = or_leaf (instr_first x) name

-- the instruction of a line, before this token
abbrev pub line_instrs : Context → ℕ → Parts → ℕ → Line → List Instr
line_instrs r v ps next (line.Opaque at) = []
line_instrs r v ps next (line.Instr name x attached) = instr_of r v ps name x (last_token attached next) ∷ []

abbrev pub line_values : Context → ℕ → Line → ℕ
line_values r v (line.Opaque at) = v
line_values r v (line.Instr name x attached) = raised (instr_gives r x) v

-- the token behind a line: the first one of the next, or the one behind all of them
abbrev pub first_of : List Line → ℕ → ℕ
first_of [] end = end
first_of (l ∷ ls) end = line_first l

abbrev pub lines_uses : Context → List Line → List Use
lines_uses r ls = flat_map (line_uses r) ls

abbrev pub lines_values : Context → ℕ → List Line → ℕ
lines_values r v [] = v
lines_values r v (l ∷ ls) = lines_values r (line_values r v l) ls

abbrev pub lines_instrs : Context → ℕ → Parts → ℕ → List Line → List Instr
lines_instrs r v ps end [] = []
lines_instrs r v ps end (l ∷ ls) =
    line_instrs r v ps (first_of ls end) l ++ lines_instrs r (line_values r v l) (behind r.reading ps (line_uses r l)) end ls

-- ---- what ends a block

abbrev pub termin_uses : Context → Term → List Use
termin_uses r x = term_uses r.reading x

abbrev pub term_instr : Context → Parts → Term → ℕ → Instr
term_instr r ps x end = made r None None void_type (term_of r.reading ps x) (term_first x) end

abbrev pub invoke_gives : Context → Invoke → Bool
invoke_gives r x = not (is_void r.reading.ids r.void x.called.callee.result)

abbrev pub invoked_uses : Context → Invoke → List Use
invoked_uses r x = invoke_uses r.reading x

abbrev pub invoke_instr : Context → ℕ → Parts → Option ℕ → Invoke → ℕ → Instr
invoke_instr r v ps name x end = made r (value_in (invoke_gives r x) v) name (r.reading.kind x.called.callee.result) (invoke_of r ps x) x.op end

abbrev pub last_uses : Context → Last → List Use
last_uses r (last.Term x attached after) = termin_uses r x
last_uses r (last.Invoke name x attached after) = invoked_uses r x

abbrev pub last_values : Context → ℕ → Last → ℕ
last_values r v (last.Term x attached after) = v
last_values r v (last.Invoke name x attached after) = raised (invoke_gives r x) v

abbrev pub last_first : Last → ℕ
last_first (last.Term x attached after) = term_first x
last_first (last.Invoke name x attached after) = or_leaf x.op name

-- the token behind it: an opaque one, or the one behind the block
abbrev pub after_first : List ℕ → ℕ → ℕ
after_first [] end = end
after_first (at ∷ after) end = at

abbrev pub last_instr : Context → ℕ → Parts → ℕ → Last → Instr
last_instr r v ps next (last.Term x attached after) = term_instr r ps x (last_token attached (after_first after next))
last_instr r v ps next (last.Invoke name x attached after) = invoke_instr r v ps name x (last_token attached (after_first after next))

-- ---- a whole block, before this token

abbrev pub block_uses : Context → List Line → Last → List Use
block_uses r ls x = lines_uses r ls ++ last_uses r x

abbrev pub block_values : Context → ℕ → List Line → Last → ℕ
block_values r v ls x = last_values r (lines_values r v ls) x

abbrev pub block_instrs : Context → ℕ → Parts → ℕ → List Line → Last → List Instr
block_instrs r v ps next ls x =
    lines_instrs r v ps (last_first x) ls ++ last_instr r (lines_values r v ls) (behind r.reading ps (lines_uses r ls)) next x ∷ []
