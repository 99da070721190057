-- How many values and blocks a function defines, and how many globals and functions a module does.
use Rattle.std.proofs.Common.{◌≡◌, ◌∙◌, ◌+◌, ℕ, Bool, true, false, List, [], ◌∷◌, ◌++◌, length, map, Option, None, Some, refl, ap, arith}
use Rattle.std.specs.List.{flat_map}
use Rattle.ir_tree.specs.declared.headers.Param as tree_param
use Rattle.ir_tree.specs.declared.headers.Params as tree_params
use Rattle.ir_tree.specs.declared.headers.Params.TheVariants as params
use Rattle.ir_tree.specs.declared.blocks.Line.{Line}
use Rattle.ir_tree.specs.declared.blocks.Line.TheVariants as line
use Rattle.ir_tree.specs.declared.blocks.Last.{Last}
use Rattle.ir_tree.specs.declared.blocks.Last.TheVariants as last
use Rattle.ir_tree.specs.declared.blocks.Block as tree_block
use Rattle.ir_tree.specs.declared.blocks.Body.{Body}
use Rattle.ir_tree.specs.declared.entities.Entity.{Entity}
use Rattle.ir_tree.specs.declared.entities.Entity.TheVariants as entity_of
use Rattle.ir_scopes.specs.declared.slot.Kind.TheVariants as kind
use Rattle.ir_scopes.specs.declared.slot.Slot.{Slot}
use Rattle.ir_scopes.specs.declared.slot.Counts.{Counts}
use Rattle.ir_scopes.specs.declared.top.Space.TheVariants as space
use Rattle.ir_scopes.specs.Scopes.{all_counted, counted}
use Rattle.ir_scopes.specs.Slots.{slot, result_slots, listed_slots, param_slots, line_slots, last_slots, part_slots, block_slots, optional_slots, top_slots}
use Rattle.ir_instrs.specs.Reading.{Reading}
use Rattle.ir_bodies.specs.Context.{Context}
use Rattle.ir_bodies.specs.Lines.{raised, line_values, lines_values, last_values}
use Rattle.ir_bodies.specs.Bodies.{Part, block_part, part_values, values_of}
use Rattle.ir_headers.specs.Headers.{params_from, params_of}
use Rattle.ir_resolve.specs.Inputs.{Setting}
use Rattle.ir_resolve.specs.Functions.{Before, parts_in}
use Rattle.ir_resolve.specs.Entities.{behind_entity, each_entity, globals_at, funcs_at}
use Rattle.resolved_forms.proofs.Names.{counted_both}

-- ---- a body
module _ (x : Context) where
  abbrev ids : List ℕ
  ids = x.reading.ids

  -- what a block defines
  abbrev pub part_in : Part → List Slot
  part_in p = part_slots x.reading.ids x.void p.label p.lines p.last

  -- so many values are counted, and as many blocks
  pub record IsCounted (d : Counts) (values blocks : ℕ) : Type 0 where
    pub values_are : d.values ≡ values
    pub blocks_are : d.blocks ≡ blocks

  result_counted : (gives : Bool) (written : Option ℕ) (c : Counts)
      → IsCounted (all_counted ids c (result_slots gives written)) (raised gives c.values) c.blocks
  result_counted true written c = record { values_are = refl; blocks_are = refl }
  result_counted false written c = record { values_are = refl; blocks_are = refl }

  line_counted : (l : Line) (c : Counts) → IsCounted (all_counted ids c (line_slots x.reading.ids x.void l)) (line_values x c.values l) c.blocks
  line_counted (line.Opaque at) c = record { values_are = refl; blocks_are = refl }
  line_counted (line.Instr name i attached) c = result_counted _ name c

  last_counted : (l : Last) (c : Counts) → IsCounted (all_counted ids c (last_slots x.reading.ids x.void l)) (last_values x c.values l) c.blocks
  last_counted (last.Term t attached after) c = record { values_are = refl; blocks_are = refl }
  last_counted (last.Invoke name i attached after) c = result_counted _ name c

  lines_counted : (ls : List Line) (c : Counts)
      → IsCounted (all_counted ids c (flat_map (line_slots x.reading.ids x.void) ls)) (lines_values x c.values ls) c.blocks
  lines_counted [] c = record { values_are = refl; blocks_are = refl }
  lines_counted (l ∷ ls) c =
      let d = all_counted ids c (line_slots x.reading.ids x.void l) in
      let both = counted_both ids c (line_slots x.reading.ids x.void l) (flat_map (line_slots x.reading.ids x.void) ls) in
      let one = line_counted l c in
      let rest = lines_counted ls d in
      record {
        values_are = ap (λ z. z.values) both ∙ rest.values_are ∙ ap (λ n. lines_values x n ls) one.values_are;
        blocks_are = ap (λ z. z.blocks) both ∙ rest.blocks_are ∙ one.blocks_are;
      }

  part_counted : (p : Part) (c : Counts) → IsCounted (all_counted ids c (part_in p)) (part_values x c.values p) (c.blocks + 1)
  part_counted p c =
      let d = counted ids c (slot kind.Block p.label) in
      let ls = flat_map (line_slots x.reading.ids x.void) p.lines in
      let both = counted_both ids d ls (last_slots x.reading.ids x.void p.last) in
      let inner = lines_counted p.lines d in
      let end = last_counted p.last (all_counted ids d ls) in
      record {
        values_are = ap (λ z. z.values) both ∙ end.values_are ∙ ap (λ n. last_values x n p.last) inner.values_are;
        blocks_are = ap (λ z. z.blocks) both ∙ end.blocks_are ∙ inner.blocks_are;
      }

  pub parts_counted : (ps : List Part) (c : Counts) → IsCounted (all_counted ids c (flat_map part_in ps)) (values_of x c.values ps) (c.blocks + length ps)
  parts_counted [] c = record { values_are = refl; blocks_are = omega arith }
  parts_counted (p ∷ ps) c =
      let d = all_counted ids c (part_in p) in
      let both = counted_both ids c (part_in p) (flat_map part_in ps) in
      let one = part_counted p c in
      let rest = parts_counted ps d in
      let blocks = ap (λ z. z.blocks) both in
      let b1 = rest.blocks_are in
      let b2 = one.blocks_are in
      record {
        values_are = ap (λ z. z.values) both ∙ rest.values_are ∙ ap (λ n. values_of x n ps) one.values_are;
        blocks_are = omega (arith, blocks, b1, b2);
      }

  blocks_same : (bs : List tree_block.Block) → flat_map part_in (map block_part bs) ≡ flat_map (block_slots x.reading.ids x.void) bs
  blocks_same [] = refl
  blocks_same (b ∷ bs) = ap (λ ss. block_slots x.reading.ids x.void b ++ ss) (blocks_same bs)

  -- what a body defines, block by block
  pub body_same : (o : Option Body) → flat_map part_in (parts_in o) ≡ optional_slots x.reading.ids x.void o
  body_same None = refl
  body_same (Some b) = ap (λ ss. part_slots x.reading.ids x.void b.first.label b.first.lines b.first.last ++ ss) (blocks_same b.blocks)

-- ---- parameters
module _ (ids : List ℕ) (r : Reading) where
  listed_counted : (ps : List tree_param.Param) (v : ℕ) (c : Counts) → c.values ≡ v
      → ((all_counted ids c (listed_slots ps)).values ≡ v + length (params_from r v ps)) × ((all_counted ids c (listed_slots ps)).blocks ≡ c.blocks)
  listed_counted [] v c is = (omega (arith, is), refl)
  listed_counted (p ∷ ps) v c is =
      let rest = listed_counted ps (v + 1) (counted ids c (slot kind.Value p.name)) (omega (arith, is)) in
      let values = rest.0 in
      (omega (arith, values), rest.1)

  pub params_counted : (ps : tree_params.Params) (c : Counts)
      → ((all_counted ids c (param_slots ps)).values ≡ c.values + length (params_of r c.values ps)) × ((all_counted ids c (param_slots ps)).blocks ≡ c.blocks)
  params_counted params.Empty c = (omega arith, refl)
  params_counted (params.Dots at) c = (omega arith, refl)
  params_counted (params.Listed ps dots) c = listed_counted ps c.values c refl

-- ---- a module
module _ (x : Setting) (ids : List ℕ) where
  pub globals_counted : (es : List Entity) (c : Counts) (b : Before)
      → (all_counted ids c (top_slots space.Symbols es)).globals ≡ c.globals + length (each_entity x (globals_at x) b es)
  globals_counted [] c b = omega arith
  globals_counted (entity_of.GlobalVar g ∷ es) c b =
      let rest = globals_counted es (counted ids c (slot kind.Global (Some g.name))) (behind_entity x b (entity_of.GlobalVar g)) in omega (arith, rest)
  globals_counted (entity_of.Declare d ∷ es) c b =
      globals_counted es (counted ids c (slot kind.Func (Some d.header.name))) (behind_entity x b (entity_of.Declare d))
  globals_counted (entity_of.Define d ∷ es) c b =
      globals_counted es (counted ids c (slot kind.Func (Some d.header.name))) (behind_entity x b (entity_of.Define d))
  globals_counted (e ∷ es) c b = globals_counted es c b

  pub funcs_counted : (es : List Entity) (c : Counts) (b : Before)
      → (all_counted ids c (top_slots space.Symbols es)).funcs ≡ c.funcs + length (each_entity x (funcs_at x) b es)
  funcs_counted [] c b = omega arith
  funcs_counted (entity_of.GlobalVar g ∷ es) c b =
      funcs_counted es (counted ids c (slot kind.Global (Some g.name))) (behind_entity x b (entity_of.GlobalVar g))
  funcs_counted (entity_of.Declare d ∷ es) c b =
      let rest = funcs_counted es (counted ids c (slot kind.Func (Some d.header.name))) (behind_entity x b (entity_of.Declare d)) in omega (arith, rest)
  funcs_counted (entity_of.Define d ∷ es) c b =
      let rest = funcs_counted es (counted ids c (slot kind.Func (Some d.header.name))) (behind_entity x b (entity_of.Define d)) in omega (arith, rest)
  funcs_counted (e ∷ es) c b = funcs_counted es c b
