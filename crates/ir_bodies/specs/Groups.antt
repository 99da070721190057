-- Groups that are named at calls and are defined nowhere.
use Rattle.std.specs.Prelude.{ℕ, List, [], ◌++◌, slice_index}
use Rattle.std.specs.List.{flat_map}
use Rattle.std.specs.Option.{is_some}
use Rattle.ir_tree.specs.declared.attributes.Word.{Word}
use Rattle.ir_tree.specs.declared.attributes.Word.TheVariants as word
use Rattle.ir_tree.specs.declared.instructions.Instr.{Instr}
use Rattle.ir_tree.specs.declared.instructions.Instr.TheVariants as instr
use Rattle.ir_tree.specs.declared.blocks.Line.{Line}
use Rattle.ir_tree.specs.declared.blocks.Line.TheVariants as line
use Rattle.ir_tree.specs.declared.blocks.Last.{Last}
use Rattle.ir_tree.specs.declared.blocks.Last.TheVariants as last
use Rattle.ir_scopes.specs.declared.faults.Cause.TheVariants.{Unknown}
use Rattle.ir_scopes.specs.declared.faults.NameFault.{NameFault}
use Rattle.ir_scopes.specs.Faults.{fault_unless}
use Rattle.ir_bodies.specs.Context.{Context}
use Rattle.ir_bodies.specs.Bodies.{Part}

abbrev pub group_faults : Context → ℕ → List NameFault
group_faults x at = fault_unless (is_some (x.groups (slice_index x.reading.ids at))) Unknown at

abbrev pub word_faults : Context → Word → List NameFault
word_faults x (word.Fattr f) = []
word_faults x (word.Group at) = group_faults x at

-- of those behind a closing parenthesis
abbrev pub words_faults : Context → List Word → List NameFault
words_faults x words = flat_map (word_faults x) words

abbrev pub instr_faults : Context → Instr → List NameFault
instr_faults x (instr.Call i) = words_faults x i.called.arguments.attributes
instr_faults x _ = []

abbrev pub line_faults : Context → Line → List NameFault
line_faults x (line.Opaque at) = []
line_faults x (line.Instr name i attached) = instr_faults x i

abbrev pub last_faults : Context → Last → List NameFault
last_faults x (last.Term i attached after) = []
last_faults x (last.Invoke name i attached after) = words_faults x i.called.arguments.attributes

abbrev pub part_faults : Context → Part → List NameFault
part_faults x p = flat_map (line_faults x) p.lines ++ last_faults x p.last

abbrev pub body_faults : Context → List Part → List NameFault
body_faults x ps = flat_map (part_faults x) ps
