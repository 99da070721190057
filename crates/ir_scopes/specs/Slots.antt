-- The things that a tree defines, in the order of the text.
use Rattle.std.specs.Prelude.{ℕ, Bool, not, List, [], ◌∷◌, ◌++◌, map, Option, None, Some, if◌then◌else◌}
use Rattle.std.specs.List.{flat_map}
use Rattle.ir_tree.specs.declared.headers.Param.{Param}
use Rattle.ir_tree.specs.declared.headers.Params.{Params}
use Rattle.ir_tree.specs.declared.headers.Params.TheVariants as params
use Rattle.ir_tree.specs.declared.blocks.Line.{Line}
use Rattle.ir_tree.specs.declared.blocks.Line.TheVariants as line
use Rattle.ir_tree.specs.declared.blocks.Last.{Last}
use Rattle.ir_tree.specs.declared.blocks.Last.TheVariants as last
use Rattle.ir_tree.specs.declared.blocks.Block.{Block}
use Rattle.ir_tree.specs.declared.blocks.Body.{Body}
use Rattle.ir_tree.specs.declared.entities.Entity.{Entity}
use Rattle.ir_tree.specs.declared.entities.Entity.TheVariants as entity
use Rattle.ir_scopes.specs.declared.slot.Slot.{Slot}
use Rattle.ir_scopes.specs.declared.slot.Kind.{Kind}
use Rattle.ir_scopes.specs.declared.slot.Kind.TheVariants as kind
use Rattle.ir_scopes.specs.declared.top.Space.{Space}
use Rattle.ir_scopes.specs.declared.top.Space.TheVariants as space
use Rattle.ir_scopes.specs.Results.{is_void, gives_result}

abbrev pub slot : Kind → Option ℕ → Slot
slot k written = record { kind = k; written = written }

-- a value, where the instruction gives one
abbrev pub result_slots : Bool → Option ℕ → List Slot
result_slots gives written = if gives then slot kind.Value written ∷ [] else []

abbrev pub listed_slots : List Param → List Slot
listed_slots ps = map (λ p. slot kind.Value p.name) ps

-- the parameters of a header
abbrev pub param_slots : Params → List Slot
param_slots params.Empty = []
param_slots (params.Dots at) = []
param_slots (params.Listed ps dots) = listed_slots ps

module _ (ids : List ℕ) (void : ℕ → Bool) where
  abbrev pub line_slots : Line → List Slot
  line_slots (line.Opaque at) = []
  line_slots (line.Instr written x attached) = result_slots (gives_result ids void x) written

  abbrev pub last_slots : Last → List Slot
  last_slots (last.Term x attached after) = []
  last_slots (last.Invoke written x attached after) = result_slots (not (is_void ids void x.called.callee.result)) written

  -- a block, and then the values of its instructions
  abbrev pub part_slots : Option ℕ → List Line → Last → List Slot
  part_slots label lines end = slot kind.Block label ∷ (flat_map line_slots lines ++ last_slots end)

  abbrev pub block_slots : Block → List Slot
  block_slots b = part_slots (Some b.label) b.lines b.last

  abbrev pub body_slots : Body → List Slot
  body_slots b = part_slots b.first.label b.first.lines b.first.last ++ flat_map block_slots b.blocks

  abbrev pub optional_slots : Option Body → List Slot
  optional_slots None = []
  optional_slots (Some b) = body_slots b

  -- the parameters of a function, then what its body defines
  abbrev pub func_slots : Params → Option Body → List Slot
  func_slots ps b = param_slots ps ++ optional_slots b

-- the one thing that an entity defines, if it does
abbrev pub defined_slots : Option (Kind × ℕ) → List Slot
defined_slots None = []
defined_slots (Some x) = slot x.0 (Some x.1) ∷ []

-- what an entity defines in a space of names
abbrev pub entity_slots : Space → Entity → List Slot
entity_slots space.Symbols (entity.GlobalVar x) = slot kind.Global (Some x.name) ∷ []
entity_slots space.Symbols (entity.Declare x) = slot kind.Func (Some x.header.name) ∷ []
entity_slots space.Symbols (entity.Define x) = slot kind.Func (Some x.header.name) ∷ []
entity_slots space.Types (entity.Named name body) = slot kind.Type (Some name) ∷ []
entity_slots space.Groups (entity.Attributes group words) = slot kind.Group (Some group) ∷ []
entity_slots s e = []

-- what the entities of a module define in a space of names
abbrev pub top_slots : Space → List Entity → List Slot
top_slots s es = flat_map (entity_slots s) es
