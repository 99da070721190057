-- The module of a text without faults is well formed.
use Rattle.std.proofs.Common.{◌≡◌, ◌∙◌, ◌+◌, ◌-◌, ◌^◌, ◌<◌, ◌≤◌, inl, inr, ℕ, zero, suc, Bool, true, false, List, [], ◌∷◌, ◌++◌, length, slice_get, Option}
use Rattle.std.proofs.Common.{None, Some, refl, sym, ap, subst, arith, if◌then◌else◌}
use Rattle.std.specs.List.{AllByRecursion}
use Rattle.std.proofs.lemmas.List.{length-map}
use Rattle.std.proofs.lemmas.Option.{none-some, same_Some, slice_get_within}
use Rattle.shelf.proofs.Shelf.{get_there}
use Rattle.shelf.proofs.Every.{every_at}
use Rattle.attr_ids.specs.declared.ids.TypeId.{TypeId}
use Rattle.attr_ids.specs.declared.ids.BlockId.{BlockId}
use Rattle.attr_ids.specs.declared.ids.ValueId.{ValueId}
use Rattle.ir_tree.specs.declared.types.Ty.{Ty}
use Rattle.ir_tree.specs.declared.constants.Const.{Const}
use Rattle.ir_tree.specs.declared.entities.GlobalVar as tree_global
use Rattle.ir_tree.specs.declared.entities.Entity.{Entity}
use Rattle.ir_tree.specs.declared.entities.Entity.TheVariants as entity_of
use Rattle.ir_tree.specs.declared.headers.Param as tree_param
use Rattle.ir_tree.specs.declared.headers.Params as tree_params
use Rattle.ir_tree.specs.declared.headers.Params.TheVariants as params
use Rattle.ir_type_names.specs.Places.{type_at}
use Rattle.ir_module.specs.declared.op.Shape.TheVariants as shape
use Rattle.ir_module.specs.declared.op.Symbol.{Symbol}
use Rattle.ir_module.specs.declared.op.Symbol.TheVariants as symbol
use Rattle.ir_module.specs.declared.op.Operand.{Operand}
use Rattle.ir_module.specs.declared.op.Operand.TheVariants as operand
use Rattle.ir_module.specs.declared.op.Written.{Written}
use Rattle.ir_module.specs.declared.op.Instr.{Instr}
use Rattle.ir_module.specs.declared.module.Spot.{Spot}
use Rattle.ir_module.specs.declared.module.Seg.{Seg}
use Rattle.ir_module.specs.declared.module.Block.{Block}
use Rattle.ir_module.specs.declared.module.Func.{Func}
use Rattle.ir_module.specs.declared.module.Param.{Param}
use Rattle.ir_module.specs.declared.module.GlobalVar.{GlobalVar}
use Rattle.ir_module.specs.declared.module.Def.TheVariants as def
use Rattle.ir_module.specs.declared.module.ValueInfo.{ValueInfo}
use Rattle.ir_module.specs.declared.module.Module.{Module}
use Rattle.ir_module.specs.Operands.{optional}
use Rattle.ir_module.specs.Places.{spot, in_seg, instr_at}
use Rattle.ir_module.specs.Formed.{IsConstant, IsSymbol, IsOperandIn, IsValueIn, IsBlockIn, IsInstrIn, AreConstants}
use Rattle.ir_module.specs.WellFormed.{HasPartsBelow, HasFew, IsPartFormed, IsGlobalFormed, IsParamFormed, IsFuncFormed, IsSegAt, IsBlockFormed}
use Rattle.ir_module.specs.WellFormed.{HasResult, IsSegFormed, IsValueFormed, IsWellFormed}
use Rattle.ir_operands.specs.declared.rule.Site.TheVariants.{Initial}
use Rattle.ir_scopes.specs.declared.slot.Entry.TheVariants as entry
use Rattle.ir_segments.specs.Segments.{cut, ends, in_front, seg}
use Rattle.ir_instrs.specs.Reading.{Reading}
use Rattle.ir_instrs.specs.Uses.{behind}
use Rattle.ir_bodies.specs.Bodies.{Part, block, block_id, uses_of}
use Rattle.ir_headers.specs.Globals.{initial_of, initial_faults, behind_initial}
use Rattle.ir_headers.specs.Headers.{params_from, params_of, param_of, extra_uses}
use Rattle.ir_resolve.specs.Inputs.{Input, Setting, setting, kind, at_site}
use Rattle.ir_resolve.specs.Functions.{Before, Function, Reader, parts_in, scope, reader, func_id, instrs, func_segs, func_blocks, func, func_values, func_uses}
use Rattle.ir_resolve.specs.Functions.{func_faults, behind_func}
use Rattle.ir_resolve.specs.Entities.{nothing, declared, defined, global, globals_at, behind_entity, each_entity, entity_faults, blocks_at}
use Rattle.ir_resolve.specs.Modules.{numbers_from, module_with}
use Rattle.resolved_forms.proofs.Runs.{nil_parts, Reached, comes, none_wrong, holds_before, holds_behind, no_less}
use Rattle.resolved_forms.proofs.Types.{types_low}
use Rattle.resolved_forms.proofs.Constants.{IsSymbolThere, IsNamedThere, none_fine}
use Rattle.resolved_forms.proofs.Uses.{AreGood, IsGround, IsOperand}
use Rattle.resolved_forms.proofs.Blocks.{IsSplit, split, IsInstr, typed_parts, parts_said, Cut, parts_closed}
use Rattle.resolved_forms.proofs.Segments.{seg_home, seg_there, block_home, block_there, instrs_count, AreChained, chained_next, chained_fewer}
use Rattle.resolved_forms.proofs.Segments.{chained_func, placed}
use Rattle.resolved_forms.proofs.Segments.{start, closed_at, closed_filled}
use Rattle.resolved_forms.proofs.Grounds.{type_count, global_count, func_count, settled, const_read, ground, typed_extra, text_right, entity_behind, extra_good}
use Rattle.resolved_forms.proofs.Values.{IsResultOf, param_info, param_number, result_info}
use Rattle.resolved_forms.proofs.Members.{IsOf, from_list, in_list, behind_of, faults_of_func, funcs_on, blocks_on, segs_on, values_on, value_named}
use Rattle.resolved_forms.proofs.Members.{block_named, func_value, value_func, param_value, result_value, result_number}

-- ---- lists
count_from : (k n : ℕ) → length (numbers_from k n) ≡ n
count_from k zero = refl
count_from k (suc n) = ap suc (count_from (k + 1) n)

abbrev value_id : ℕ → ValueId
value_id n = record { 0 = n }

-- the types of parameters are there
listed_low : (r : Reading) (n : ℕ) → ((t : Ty) → (r.kind t).0 < n) → (v : ℕ) (ps : List tree_param.Param) (k : ℕ) (p : Param)
    → slice_get (params_from r v ps) k ≡ Some p → p.ty.0 < n
listed_low r n low v [] k p at = absurd (none-some p at)
listed_low r n low v (y ∷ ps) zero p at = subst (λ (z : Param). z.ty.0 < n) (same_Some (param_of r v y) p at) (low y.ty)
listed_low r n low v (y ∷ ps) (suc k) p at = listed_low r n low (v + 1) ps k p at

param_low : (r : Reading) (n : ℕ) → ((t : Ty) → (r.kind t).0 < n) → (v : ℕ) (ps : tree_params.Params) (k : ℕ) (p : Param)
    → slice_get (params_of r v ps) k ≡ Some p → p.ty.0 < n
param_low r n low v params.Empty k p at = absurd (none-some p at)
param_low r n low v (params.Dots d) k p at = absurd (none-some p at)
param_low r n low v (params.Listed ps dots) k p at = listed_low r n low v ps k p at

-- an instruction of a segment
found_in : (m : Module) (s : Spot) (sg : Seg) → slice_get m.segs s.seg.0 ≡ Some sg → instr_at m s ≡ slice_get sg.instrs s.at
unfolding instr_at
found_in m s sg at = ap (in_seg s.at) at

module _ (P : Instr → Type 0) where
  -- what holds of instructions holds of those of each segment
  front_pick : (e : Bool) (i : Instr) (run : List Instr) (runs : List (List Instr)) → P i → AllByRecursion P run → AllByRecursion (AllByRecursion P) runs
      → AllByRecursion (AllByRecursion P) (if e then (i ∷ []) ∷ run ∷ runs else (i ∷ run) ∷ runs)
  front_pick true i run runs p first rest = ((p, tt), (first, rest))
  front_pick false i run runs p first rest = ((p, first), rest)

  front_all : (i : Instr) (runs : List (List Instr)) → P i → AllByRecursion (AllByRecursion P) runs → AllByRecursion (AllByRecursion P) (in_front ends i runs)
  front_all i [] p rest = ((p, tt), tt)
  front_all i (run ∷ runs) p rest = front_pick (ends i) i run runs p rest.0 rest.1

  pub cut_all_of : (is : List Instr) → AllByRecursion P is → AllByRecursion (AllByRecursion P) (cut ends is)
  cut_all_of [] all = tt
  cut_all_of (i ∷ is) all = front_all i (cut ends is) all.0 (cut_all_of is all.1)

module _ (s : Setting) where
  -- blocks go on where those before them end
  chained_on : (b : Before) (f : Function) (rest : List Block) → AreChained (behind_func (reader s b f) f).segs (behind_func (reader s b f) f).funcs rest
      → AreChained b.segs b.funcs (func_blocks (reader s b f) f ++ rest)
  chained_on b f rest h =
      let q = reader s b f in
      let laid = behind q.context.reading b.laid (extra_uses q.context.reading f.header.tails) in
      chained_func q.context (func_id b) q.behind.counter b.blocks b.segs (parts_in f.body) (instrs q f) rest
      (instrs_count q.context q.behind.values laid f.close (parts_in f.body))
      (chained_fewer (b.segs + length (func_segs q f)) (b.funcs + 1) b.funcs rest (omega arith) h)

  chained_all : (b : Before) (es : List Entity) → AreChained b.segs b.funcs (each_entity s (blocks_at s) b es)
  chained_all b [] = tt
  chained_all b (entity_of.Declare d ∷ es) = chained_on b (declared d) _ (chained_all (behind_func (reader s b (declared d)) (declared d)) es)
  chained_all b (entity_of.Define d ∷ es) = chained_on b (defined d) _ (chained_all (behind_func (reader s b (defined d)) (defined d)) es)
  chained_all b (entity_of.GlobalVar g ∷ es) = chained_all (behind_entity s b (entity_of.GlobalVar g)) es
  chained_all b (entity_of.Opaque leaf ∷ es) = chained_all b es
  chained_all b (entity_of.SourceFilename name ∷ es) = chained_all b es
  chained_all b (entity_of.Target which text ∷ es) = chained_all b es
  chained_all b (entity_of.Named name body ∷ es) = chained_all b es
  chained_all b (entity_of.Attributes group words ∷ es) = chained_all b es

module _ (x : Input) (none : each_entity (setting x) (entity_faults (setting x)) nothing x.entities ≡ []) where
  abbrev S : Setting
  S = setting x

  abbrev M : Module
  M = module_with (setting x) x.entities

  abbrev T : ℕ
  T = type_count x

  abbrev G : ℕ
  G = global_count x

  abbrev F : ℕ
  F = func_count x

  -- ---- parts of constants
  nothing_good : AreGood T G F []
  nothing_good = (none_fine T G F, λ k w at. absurd (none-some w at))

  good_at : (b : Before) (e : Entity) → Reached S nothing x.entities b e → AreGood T G F b.laid
  good_at b e reached = holds_before S (λ (d : Before). AreGood T G F d.laid) (λ d y wrong good. (entity_behind S T G F (settled x) d y wrong good).0)
      nothing x.entities none nothing_good b e reached

  good_all : AreGood T G F M.parts
  good_all = holds_behind S (λ (d : Before). AreGood T G F d.laid) (λ d y wrong good. (entity_behind S T G F (settled x) d y wrong good).0)
      nothing x.entities none nothing_good

  laid_within : (b : Before) (e : Entity) → Reached S nothing x.entities b e → length (behind_entity S b e).laid ≤ length M.parts
  laid_within b e reached = no_less S (λ (d : Before). AreGood T G F d.laid) (λ (d : Before). length d.laid) (entity_behind S T G F (settled x))
      nothing x.entities none nothing_good b e reached

  -- ---- constants
  symbol_in : (y : Symbol) → IsSymbolThere T G F y → IsSymbol M y
  symbol_in (symbol.Global g) h = h
  symbol_in (symbol.Func f) h = h

  constant_in : (k : ℕ) (o : Operand) → k ≤ length M.parts → IsNamedThere T G F o → HasPartsBelow k o → IsConstant M o
  constant_in k (operand.Value v) l h below = absurd h
  constant_in k (operand.Int bits fits) l h below = tt
  constant_in k (operand.Truth value) l h below = tt
  constant_in k operand.Zero l h below = tt
  constant_in k operand.Null l h below = tt
  constant_in k operand.Undef l h below = tt
  constant_in k operand.Poison l h below = tt
  constant_in k (operand.Global g) l h below = h
  constant_in k (operand.Func f) l h below = h
  constant_in k (operand.Offset base bytes inbounds wrap) l h below = symbol_in base h
  constant_in k (operand.WrongOffset rule) l h below = tt
  constant_in k (operand.Parts shape.Array first count) l h below = omega (arith, l, below)
  constant_in k (operand.Parts shape.Struct first count) l h below = omega (arith, l, below)
  constant_in k (operand.Parts shape.Packed first count) l h below = omega (arith, l, below)
  constant_in k (operand.Parts shape.Bytes first count) l h below = tt
  constant_in k (operand.AnyInt first count) l h below = omega (arith, l, below)

  operand_in : (f : ℕ) (o : Operand) → IsOperand T G F (IsValueIn M f) (length M.parts) o → IsOperandIn M f o
  operand_in f (operand.Value v) h = h
  operand_in f (operand.Int bits fits) h = tt
  operand_in f (operand.Truth value) h = tt
  operand_in f operand.Zero h = tt
  operand_in f operand.Null h = tt
  operand_in f operand.Undef h = tt
  operand_in f operand.Poison h = tt
  operand_in f (operand.Global g) h = h.0
  operand_in f (operand.Func g) h = h.0
  operand_in f (operand.Offset base bytes inbounds wrap) h = symbol_in base h.0
  operand_in f (operand.WrongOffset rule) h = tt
  operand_in f (operand.Parts form first count) h = constant_in (length M.parts) (operand.Parts form first count) (omega arith) h.0 h.1
  operand_in f (operand.AnyInt first count) h = constant_in (length M.parts) (operand.AnyInt first count) (omega arith) h.0 h.1

  part_formed : (k : ℕ) (w : Written) → slice_get M.parts k ≡ Some w → IsPartFormed M k w
  part_formed k w at =
      let fine = good_all.0 k w at in
      let below = good_all.1 k w at in
      let inside = slice_get_within M.parts k w at in
      record { ty = fine.0; constant = constant_in k w.val (omega (arith, inside)) fine.1 below; below = below }

  -- ---- globals
  initial_in : (o : Option Const) (t : TypeId) (ps : List Written) → t.0 < T → initial_faults (at_site Initial S) o ≡ [] → AreGood T G F ps
      → length (behind_initial (at_site Initial S) t ps o) ≤ length M.parts → AreConstants M (optional (initial_of (at_site Initial S) t ps o))
  initial_in None t ps low right good l k w at = absurd (none-some w at)
  initial_in (Some c) t ps low right good l (suc k) w at = absurd (none-some w at)
  initial_in (Some c) t ps low right good l zero w at =
      let one = const_read S T G F (settled x) Initial c right t low ps good in
      subst (λ (z : Written). (z.ty.0 < T) × IsConstant M z.val) (same_Some _ w at) (one.fine.0, constant_in _ _ l one.fine.1 one.below)

  global_formed_at : (b : Before) (g : tree_global.GlobalVar) → Reached S nothing x.entities b (entity_of.GlobalVar g) → IsGlobalFormed M (global S b g)
  global_formed_at b g reached =
      let e = entity_of.GlobalVar g in
      let right = nil_parts (initial_faults (at_site Initial S) g.initial) _ (none_wrong S nothing x.entities none b e reached) in
      let low = (settled x).kinds g.ty in
      record {
        ty = low;
        init = initial_in g.initial (kind S.table g.ty) b.laid low right.0 (good_at b e reached) (laid_within b e reached);
      }

  global_formed : (b : Before) (e : Entity) (j : ℕ) (g : GlobalVar) → Reached S nothing x.entities b e
      → slice_get (globals_at S b e) j ≡ Some g → IsGlobalFormed M g
  global_formed b (entity_of.GlobalVar v) zero g reached at = subst (IsGlobalFormed M) (same_Some (global S b v) g at) (global_formed_at b v reached)
  global_formed b (entity_of.GlobalVar v) (suc j) g reached at = absurd (none-some g at)
  global_formed b (entity_of.Declare d) j g reached at = absurd (none-some g at)
  global_formed b (entity_of.Define d) j g reached at = absurd (none-some g at)
  global_formed b (entity_of.Opaque leaf) j g reached at = absurd (none-some g at)
  global_formed b (entity_of.SourceFilename name) j g reached at = absurd (none-some g at)
  global_formed b (entity_of.Target which text) j g reached at = absurd (none-some g at)
  global_formed b (entity_of.Named name body) j g reached at = absurd (none-some g at)
  global_formed b (entity_of.Attributes group words) j g reached at = absurd (none-some g at)

  global_at : (k : ℕ) (g : GlobalVar) → slice_get M.globals k ≡ Some g → IsGlobalFormed M g
  global_at k g at = let c = comes S (globals_at S) nothing x.entities k g at in global_formed c.0 c.1 c.2 g c.3 c.4

  -- ---- functions
  abbrev one_func : Reader → Function → List Func
  one_func q f = func q f ∷ []

  module _ (b : Before) (f : Function) (of : IsOf S x.entities b f) where
    abbrev q : Reader
    q = reader S b f

    abbrev V : ℕ → Type 0
    V = IsValueIn M b.funcs

    abbrev B : ℕ → Type 0
    B = IsBlockIn M b.funcs

    -- what of it stands in the lists of the module
    func_in : slice_get M.funcs b.funcs ≡ Some (func q f)
    func_in = in_list S x.entities one_func (λ d. d.funcs) refl (funcs_on S) b f of 0 (func q f) refl b.funcs (omega arith)

    block_in : (j : ℕ) (blk : Block) → slice_get (func_blocks q f) j ≡ Some blk → (k : ℕ) → k ≡ b.blocks + j → slice_get M.blocks k ≡ Some blk
    block_in j blk at k place = in_list S x.entities func_blocks (λ d. d.blocks) refl (blocks_on S) b f of j blk at k place

    seg_in : (j : ℕ) (sg : Seg) → slice_get (func_segs q f) j ≡ Some sg → (k : ℕ) → k ≡ b.segs + j → slice_get M.segs k ≡ Some sg
    seg_in j sg at k place = in_list S x.entities func_segs (λ d. d.segs) refl (segs_on S) b f of j sg at k place

    value_in : (j : ℕ) (info : ValueInfo) → slice_get (func_values q f) j ≡ Some info → (k : ℕ) → k ≡ b.values + j → slice_get M.values k ≡ Some info
    value_in j info at k place = in_list S x.entities func_values (λ d. d.values) refl (values_on S) b f of j info at k place

    right : func_faults S b f ≡ []
    right = faults_of_func S b of.entity f of.is ∙ none_wrong S nothing x.entities none b of.entity of.reached

    good : AreGood T G F b.laid
    good = good_at b of.entity of.reached

    within : length (behind q.context.reading b.laid (func_uses q f)) ≤ length M.parts
    within =
        let same = ap (λ (d : Before). length d.laid) (behind_of S b of.entity f of.is) in
        let l = laid_within b of.entity of.reached in
        omega (arith, same, l)

    -- ---- its blocks, by number
    block_func : (j : ℕ) (blk : Block) → slice_get (func_blocks q f) j ≡ Some blk → blk.func.0 ≡ b.funcs
    block_func j blk at =
        let h = block_home q.context (func_id b) q.behind.counter b.segs (parts_in f.body) (instrs q f) j blk at in
        ap (λ (z : Block). z.func.0) h.3

    block_own : (k : ℕ) → b.blocks ≤ k → k < b.blocks + length (func_blocks q f) → B k
    block_own k from to =
        let h = get_there (func_blocks q f) (k - b.blocks) (omega (arith, from, to)) in
        (h.0, block_in (k - b.blocks) h.0 h.1 k (omega (arith, from)), block_func (k - b.blocks) h.0 h.1)

    value_there : (id : ℕ) (v : ValueId) → scope S b f id ≡ Some (entry.Value v) → V v.0
    value_there id v is =
        let n = value_named S b f id v is in
        let h = get_there (func_values q f) n.0 n.2 in
        (h.0, value_in n.0 h.0 h.1 v.0 n.1, value_func S b f n.0 h.0 h.1)

    block_there_of : (id : ℕ) (k : BlockId) → scope S b f id ≡ Some (entry.Block k) → B k.0
    block_there_of id k is =
        let n = block_named S b f id k is in
        let place = n.1 in
        let inside = n.2 in
        block_own k.0 (omega (arith, place)) (omega (arith, place, inside))

    its_ground : IsGround T G F V B q.context.reading
    its_ground = ground S T G F (settled x) V B (scope S b f) value_there block_there_of

    its_parts : IsSplit T G F V B q.context its_ground (extra_uses q.context.reading f.header.tails) (uses_of q.context (parts_in f.body)) b.laid
        (length M.parts)
    its_parts = split T G F V B q.context its_ground (extra_uses q.context.reading f.header.tails) (uses_of q.context (parts_in f.body)) b.laid (length M.parts)
        (typed_extra S T G F (settled x) (scope S b f) f.header.tails) (typed_parts T G F V B q.context its_ground (parts_in f.body))
        (text_right S T G F (settled x) b f right) good within

    abbrev IsFine : Instr → Type 0
    IsFine i = IsInstr T G F V B q.context its_ground (length M.parts) i

    said : AllByRecursion (AllByRecursion IsFine) (instrs q f)
    said = parts_said T G F V B q.context its_ground (length M.parts) q.behind.values
        (behind q.context.reading b.laid (extra_uses q.context.reading f.header.tails)) f.close (parts_in f.body) its_parts.rest its_parts.good its_parts.all

    closed : AllByRecursion (λ (is : List Instr). Cut (cut ends is)) (instrs q f)
    closed = parts_closed q.context q.behind.values (behind q.context.reading b.laid (extra_uses q.context.reading f.header.tails)) f.close (parts_in f.body)

    many : length (instrs q f) ≡ length (parts_in f.body)
    many = instrs_count q.context q.behind.values (behind q.context.reading b.laid (extra_uses q.context.reading f.header.tails)) f.close (parts_in f.body)

    -- an instruction of its
    instr_in : (i : Instr) → IsFine i → IsInstrIn M b.funcs i
    instr_in i h = record {
      ty = h.ty;
      names = λ k w at. ((h.names k w at).0, operand_in b.funcs w.val (h.names k w at).1);
      targets = h.targets;
      arms = h.arms;
      types = h.types;
      args = h.args;
    }

    -- ---- segments
    -- where a segment of it stands: its block, with the instructions of that, and its place among these
    pub record IsHome (n : ℕ) (sg : Seg) : Type 0 where
      pub j : ℕ
      pub part : Part
      pub is : List Instr
      pub k : ℕ
      pub run : List Instr
      pub at_instrs : slice_get (instrs q f) j ≡ Some is
      pub at_run : slice_get (cut ends is) k ≡ Some run
      pub seg_is : sg ≡ seg (block_id (b.blocks + j)) run
      pub place : n ≡ start (instrs q f) j + k
      pub at_block : slice_get M.blocks (b.blocks + j) ≡ Some (block q.context (func_id b) q.behind.counter (b.segs + start (instrs q f) j) part is)

    home : (n : ℕ) (sg : Seg) → slice_get (func_segs q f) n ≡ Some sg → IsHome n sg
    home n sg at =
        let h = seg_home b.blocks (instrs q f) n sg at in
        let t = block_there q.context (func_id b) q.behind.counter b.segs (parts_in f.body) (instrs q f) h.0 h.1 many h.4 in
        record {
          j = h.0;
          part = t.0;
          is = h.1;
          k = h.2;
          run = h.3;
          at_instrs = h.4;
          at_run = h.5;
          seg_is = h.6;
          place = h.7;
          at_block = block_in h.0 _ t.1 (b.blocks + h.0) refl;
        }

    run_said : (n : ℕ) (sg : Seg) (h : IsHome n sg) → AllByRecursion IsFine h.run
    run_said n sg h = every_at (AllByRecursion IsFine) (cut ends h.is) h.k h.run
        (cut_all_of IsFine h.is (every_at (AllByRecursion IsFine) (instrs q f) h.j h.is said h.at_instrs)) h.at_run

    result_formed : (n k i : ℕ) (sg : Seg) (ins : Instr) → slice_get (func_segs q f) n ≡ Some sg → k ≡ b.segs + n → slice_get sg.instrs i ≡ Some ins
        → HasResult M k i ins
    result_formed n k i sg ins at place there v some =
        let r = result_value S b f n sg i ins v at there some in
        (result_info (func_id b) (b.segs + n) i ins, value_in r.0 _ r.1 v.0 r.2, ap (λ z. def.Instr (spot z i)) (sym place), refl)

    seg_formed_home : (n k : ℕ) (sg : Seg) → slice_get (func_segs q f) n ≡ Some sg → k ≡ b.segs + n → (h : IsHome n sg)
        → IsSegFormed M k (seg (block_id (b.blocks + h.j)) h.run)
    seg_formed_home n k sg at place h =
        let blk = block q.context (func_id b) q.behind.counter (b.segs + start (instrs q f) h.j) h.part h.is in
        let cuts = every_at (λ (is : List Instr). Cut (cut ends is)) (instrs q f) h.j h.is closed h.at_instrs in
        let last = closed_at (cut ends h.is) h.k h.run cuts.0 h.at_run in
        let inside = slice_get_within (cut ends h.is) h.k h.run h.at_run in
        let stands = h.place in
        let left = last.2 in (
          blk,
          h.at_block,
          record {
            place = (omega (arith, place, stands), omega (arith, place, stands, inside));
            nonempty = closed_filled last.0 h.run last.1;
            instrs = λ i ins there. record {
              placed = placed blk k last.0 h.run last.1 (omega (arith, place, stands, left)) i ins there;
              names = instr_in ins (every_at IsFine h.run i ins (run_said n sg h) there);
              result = result_formed n k i (seg (block_id (b.blocks + h.j)) h.run) ins (at ∙ ap Some h.seg_is) place there;
            };
          },
        )

    pub seg_formed : (n k : ℕ) (sg : Seg) → slice_get (func_segs q f) n ≡ Some sg → k ≡ b.segs + n → IsSegFormed M k sg
    seg_formed n k sg at place = let h = home n sg at in subst (IsSegFormed M k) (sym h.seg_is) (seg_formed_home n k sg at place h)

    -- ---- blocks
    seg_of_block : (j i : ℕ) (is : List Instr) (k : ℕ) → slice_get (instrs q f) j ≡ Some is → i ≡ b.blocks + j → b.segs + start (instrs q f) j ≤ k
        → k < b.segs + start (instrs q f) j + length (cut ends is) → IsSegAt M i k
    seg_of_block j i is k at_is place from to =
        let n = k - (b.segs + start (instrs q f) j) in
        let run = get_there (cut ends is) n (omega (arith, from, to)) in
        let at = seg_there b.blocks (instrs q f) j is n run.0 at_is run.1 in
        (seg (block_id (b.blocks + j)) run.0, seg_in (start (instrs q f) j + n) _ at k (omega (arith, from)), sym place)

    pub block_formed : (j i : ℕ) (blk : Block) → slice_get (func_blocks q f) j ≡ Some blk → i ≡ b.blocks + j → IsBlockFormed M i blk
    block_formed j i blk at place =
        let h = block_home q.context (func_id b) q.behind.counter b.segs (parts_in f.body) (instrs q f) j blk at in
        let own = block q.context (func_id b) q.behind.counter (b.segs + start (instrs q f) j) h.0 h.1 in
        let cuts = every_at (λ (is : List Instr). Cut (cut ends is)) (instrs q f) j h.1 closed h.2 in
        let inside = slice_get_within (func_blocks q f) j blk at in
        subst (IsBlockFormed M i) (sym h.3) (record {
          home = (func q f, func_in, (omega (arith, place), omega (arith, place, inside)));
          filled = cuts.1;
          segs = λ k of_block. seg_of_block j i h.1 k h.2 place of_block.0 of_block.1;
          next = λ after next_at. chained_next 0 0 M.blocks i (i + 1) own after (chained_all S nothing x.entities)
              (block_in j blk at i place ∙ ap Some h.3) refl next_at;
        })

    -- ---- the function itself
    param_formed : (k : ℕ) (p : Param) → slice_get (func q f).params k ≡ Some p → IsParamFormed M b.funcs k p
    param_formed k p at = (
      param_info (func_id b) p k,
      value_in k _ (param_value S b f k p at) p.value.0 (param_number q.context.reading b.values f.header.params k p at),
      refl,
      refl,
      refl,
    )

    params_few : (n : ℕ) → length (func q f).params ≡ n → length M.values < 2 ^ 31 → n < 2 ^ 31
    params_few zero is few = omega (arith, few)
    params_few (suc n) is few =
        let p = get_there (func q f).params n (omega (arith, is)) in
        let inside = slice_get_within M.values (b.values + n) (param_info (func_id b) p.0 n) (value_in n _ (param_value S b f n p.0 p.1) (b.values + n) refl) in
        omega (arith, inside, few)

    pub func_formed : HasFew M → IsFuncFormed M b.funcs (func q f)
    func_formed few = record {
      ret = (settled x).kinds f.header.result;
      extra = λ k w at.
          (let h = extra_good S T G F (settled x) b f (length M.parts) right good within k w at in
          (h.0.0, constant_in (length M.parts) w.val (omega arith) h.0.1 h.1));
      few = params_few (length (func q f).params) refl few.values;
      params = param_formed;
      blocks = λ i of_func. block_own i of_func.0 of_func.1;
    }

    -- ---- values
    param_formed_value : (j v : ℕ) (p : Param) → slice_get (func q f).params j ≡ Some p → v ≡ b.values + j → IsValueFormed M v (param_info (func_id b) p j)
    param_formed_value j v p at place = record {
      ty = param_low q.context.reading T (settled x).kinds b.values f.header.params j p at;
      made = (func q f, p, func_in, at, param_number q.context.reading b.values f.header.params j p at ∙ sym place);
    }

    block_of_seg : (sg : Seg) (n : ℕ) → IsHome n sg → (blk : Block) × (slice_get M.blocks sg.block.0 ≡ Some blk) × (blk.func.0 ≡ b.funcs)
    block_of_seg sg n h = (
      block q.context (func_id b) q.behind.counter (b.segs + start (instrs q f) h.j) h.part h.is,
      ap (λ (z : Seg). slice_get M.blocks z.block.0) h.seg_is ∙ h.at_block,
      refl,
    )

    result_formed_value : (j v n : ℕ) (info : ValueInfo) (r : IsResultOf (func_id b) b.segs (func_segs q f) n info)
        → j ≡ length (func q f).params + n → v ≡ b.values + j → IsValueFormed M v (result_info (func_id b) (b.segs + r.k) r.i r.instr)
    result_formed_value j v n info r behind_params place =
        let h = home r.k r.seg r.at_seg in
        let fine = every_at IsFine h.run r.i r.instr (run_said r.k r.seg h) (ap (λ (z : Seg). slice_get z.instrs r.i) (sym h.seg_is) ∙ r.there) in
        let blk = block_of_seg r.seg r.k h in
        let at = seg_in r.k r.seg r.at_seg (b.segs + r.k) refl in
        let number = result_number S b f n info r in
        let same : r.value.0 ≡ v = omega (arith, number, behind_params, place) in
        record {
          ty = fine.ty;
          made = (
            r.instr,
            found_in M (spot (b.segs + r.k) r.i) r.seg at ∙ r.there,
            r.gives ∙ ap (λ z. Some (value_id z)) same,
            record { seg = r.seg; block = blk.0; at_seg = at; at_block = blk.1; in_func = blk.2 },
          );
        }

    pub value_formed : (j v : ℕ) (info : ValueInfo) → slice_get (func_values q f) j ≡ Some info → v ≡ b.values + j → IsValueFormed M v info
    value_formed j v info at place = elim (func_value S b f j info at) [
      | inl p ↦ subst (IsValueFormed M v) p.2 (param_formed_value j v p.0 p.1 place)
      | inr r ↦ subst (IsValueFormed M v) r.2.said (result_formed_value j v r.0 info r.2 r.1 place)
    ]

  -- ---- all of them
  func_one : HasFew M → (b : Before) (f : Function) → IsOf S x.entities b f → (j k : ℕ) (y : Func)
      → slice_get (func (reader S b f) f ∷ []) j ≡ Some y → k ≡ b.funcs + j
      → IsFuncFormed M k y
  func_one few b f of (suc j) k y at place = absurd (none-some y at)
  func_one few b f of zero k y at place =
      let number : b.funcs ≡ k = omega (arith, place) in
      subst (λ n. IsFuncFormed M n y) number (subst (IsFuncFormed M b.funcs) (same_Some (func (reader S b f) f) y at) (func_formed b f of few))

  func_at : HasFew M → (k : ℕ) (y : Func) → slice_get M.funcs k ≡ Some y → IsFuncFormed M k y
  func_at few k y at =
      let c = from_list S x.entities one_func (λ d. d.funcs) refl (funcs_on S) k y at in func_one few c.b c.f c.of c.j k y c.at c.place

  pub well_formed : HasFew M → IsWellFormed M
  well_formed few = record {
    few = few;
    type_at = length-map (numbers_from 0 (length S.types)) (type_at S.table x.entities) ∙ count_from 0 (length S.types);
    types = λ t type at part has. types_low x t type at part has;
    parts = part_formed;
    globals = global_at;
    funcs = func_at few;
    blocks = λ i blk at.
        (let c = from_list S x.entities func_blocks (λ d. d.blocks) refl (blocks_on S) i blk at in block_formed c.b c.f c.of c.j i blk c.at c.place);
    segs = λ k sg at. (let c = from_list S x.entities func_segs (λ d. d.segs) refl (segs_on S) k sg at in seg_formed c.b c.f c.of c.j k sg c.at c.place);
    values = λ v info at.
        (let c = from_list S x.entities func_values (λ d. d.values) refl (values_on S) v info at in value_formed c.b c.f c.of c.j v info c.at c.place);
  }
