-- The functions of a module: what of it is theirs, and by which numbers.
use Rattle.std.proofs.Common.{◌≡◌, ◌⊎◌, ◌∙◌, ◌+◌, ◌-◌, ◌<◌, inl, inr, ℕ, List, length, slice_get, Some, refl, sym, ap, subst}
use Rattle.std.proofs.Common.{arith, length-append}
use Rattle.std.specs.List.{flat_map}
use Rattle.std.proofs.lemmas.Bool.{cases_lt}
use Rattle.std.proofs.lemmas.Option.{none-some}
use Rattle.shelf.proofs.Shelf.{get_kept, get_left, get_right}
use Rattle.attr_ids.specs.declared.ids.ValueId.{ValueId}
use Rattle.attr_ids.specs.declared.ids.BlockId.{BlockId}
use Rattle.ir_tree.specs.declared.entities.Entity.{Entity}
use Rattle.ir_tree.specs.declared.entities.Entity.TheVariants as entity_of
use Rattle.ir_module.specs.declared.op.Instr.{Instr}
use Rattle.ir_module.specs.declared.module.Seg.{Seg}
use Rattle.ir_module.specs.declared.module.Param.{Param}
use Rattle.ir_module.specs.declared.module.ValueInfo.{ValueInfo}
use Rattle.ir_scopes.specs.declared.slot.Entry.{Entry}
use Rattle.ir_scopes.specs.declared.slot.Entry.TheVariants as entry
use Rattle.ir_scopes.specs.declared.slot.Counts.{Counts}
use Rattle.ir_scopes.specs.Scopes.{all_counted}
use Rattle.ir_scopes.specs.Slots.{param_slots, optional_slots}
use Rattle.ir_segments.specs.Segments.{ends}
use Rattle.ir_segments.proofs.Cutting.{cut_all}
use Rattle.ir_instrs.specs.Uses.{behind}
use Rattle.ir_bodies.specs.Order.{results, AreCounted}
use Rattle.ir_bodies.proofs.Numbered.{of_parts, all_there}
use Rattle.ir_headers.specs.Headers.{extra_uses}
use Rattle.ir_headers.specs.Values.{param_values, results_of}
use Rattle.ir_resolve.specs.Inputs.{Setting, context}
use Rattle.ir_resolve.specs.Functions.{Before, Function, Reader, parts_in, counts, slots, scope, reader, func_id, instrs, func_segs, func_blocks}
use Rattle.ir_resolve.specs.Functions.{func, func_values}
use Rattle.ir_resolve.specs.Functions.{func_faults, behind_func}
use Rattle.ir_resolve.specs.Entities.{nothing, declared, defined, of_function, behind_entity, each_entity, entity_faults, funcs_at, blocks_at, segs_at}
use Rattle.ir_resolve.specs.Entities.{values_at}
use Rattle.resolved_forms.proofs.Names.{IsBetween, found_between, counted_both}
use Rattle.resolved_forms.proofs.Runs.{Reached, come, go}
use Rattle.resolved_forms.proofs.Segments.{blocks_count, instrs_count}
use Rattle.resolved_forms.proofs.Counts.{part_in, parts_counted, body_same, params_counted}
use Rattle.resolved_forms.proofs.Values.{IsResultOf, all_in, counted_to, counted_at, param_count, param_info, param_come, param_there, result_info, count_of}
use Rattle.resolved_forms.proofs.Values.{come_of, go_of}

-- ---- which function an entity writes
abbrev pub Writes : Entity → Function → Type 0
Writes (entity_of.Declare d) f = declared d ≡ f
Writes (entity_of.Define d) f = defined d ≡ f
Writes _ f = ⊥

-- what is made of a function comes from one
pub writes : {X : Type 0} (made : Function → List X) (e : Entity) (j : ℕ) (y : X) → slice_get (of_function made e) j ≡ Some y
    → (f : Function) × Writes e f × (slice_get (made f) j ≡ Some y)
writes made (entity_of.Declare d) j y at = (declared d, refl, at)
writes made (entity_of.Define d) j y at = (defined d, refl, at)
writes made (entity_of.Opaque leaf) j y at = absurd (none-some y at)
writes made (entity_of.SourceFilename name) j y at = absurd (none-some y at)
writes made (entity_of.Target which text) j y at = absurd (none-some y at)
writes made (entity_of.Named name body) j y at = absurd (none-some y at)
writes made (entity_of.Attributes group words) j y at = absurd (none-some y at)
writes made (entity_of.GlobalVar g) j y at = absurd (none-some y at)

pub made_of : {X : Type 0} (made : Function → List X) (e : Entity) (f : Function) → Writes e f → made f ≡ of_function made e
made_of made (entity_of.Declare d) f is = sym (ap made is)
made_of made (entity_of.Define d) f is = sym (ap made is)
made_of made (entity_of.Opaque leaf) f is = absurd is
made_of made (entity_of.SourceFilename name) f is = absurd is
made_of made (entity_of.Target which text) f is = absurd is
made_of made (entity_of.Named name body) f is = absurd is
made_of made (entity_of.Attributes group words) f is = absurd is
made_of made (entity_of.GlobalVar g) f is = absurd is

module _ (s : Setting) where
  pub behind_of : (b : Before) (e : Entity) (f : Function) → Writes e f → behind_func (reader s b f) f ≡ behind_entity s b e
  behind_of b (entity_of.Declare d) f is = sym (ap (λ (g : Function). behind_func (reader s b g) g) is)
  behind_of b (entity_of.Define d) f is = sym (ap (λ (g : Function). behind_func (reader s b g) g) is)
  behind_of b (entity_of.Opaque leaf) f is = absurd is
  behind_of b (entity_of.SourceFilename name) f is = absurd is
  behind_of b (entity_of.Target which text) f is = absurd is
  behind_of b (entity_of.Named name body) f is = absurd is
  behind_of b (entity_of.Attributes group words) f is = absurd is
  behind_of b (entity_of.GlobalVar g) f is = absurd is

  pub faults_of_func : (b : Before) (e : Entity) (f : Function) → Writes e f → func_faults s b f ≡ entity_faults s b e
  faults_of_func b (entity_of.Declare d) f is = sym (ap (func_faults s b) is)
  faults_of_func b (entity_of.Define d) f is = sym (ap (func_faults s b) is)
  faults_of_func b (entity_of.Opaque leaf) f is = absurd is
  faults_of_func b (entity_of.SourceFilename name) f is = absurd is
  faults_of_func b (entity_of.Target which text) f is = absurd is
  faults_of_func b (entity_of.Named name body) f is = absurd is
  faults_of_func b (entity_of.Attributes group words) f is = absurd is
  faults_of_func b (entity_of.GlobalVar g) f is = absurd is

  -- ---- numbers of a function
  params_behind : (b : Before) (f : Function) → (reader s b f).behind.values ≡ b.values + length (func (reader s b f) f).params
  params_behind b f = (params_counted s.ids (context s (scope s b f)).reading f.header.params (counts b)).0

  -- its results follow one another
  pub results_counted : (b : Before) (f : Function)
      → AreCounted (reader s b f).behind.values (behind_func (reader s b f) f).values (results (all_in (func_segs (reader s b f) f)))
  results_counted b f =
      let q = reader s b f in
      let laid = behind q.context.reading b.laid (extra_uses q.context.reading f.header.tails) in
      subst (λ (is : List Instr). AreCounted q.behind.values (behind_func q f).values (results is)) (sym (all_there (cut_all ends) b.blocks (instrs q f)))
      (of_parts q.context q.behind.values laid f.close (parts_in f.body))

  func_values_count : (b : Before) (f : Function) → (behind_func (reader s b f) f).values ≡ b.values + length (func_values (reader s b f) f)
  func_values_count b f =
      let q = reader s b f in
      let own = param_values (func_id b) 0 (func q f).params in
      let many = results_of (func_id b) b.segs (func_segs q f) in
      let first = params_behind b f in
      let last = counted_to q.behind.values (behind_func q f).values (results (all_in (func_segs q f))) (results_counted b f) in
      let left = param_count (func_id b) 0 (func q f).params in
      let right = count_of (func_id b) b.segs (func_segs q f) in
      omega (arith, first, last, left, right, length-append own many)

  -- ---- how an entity counts on
  pub funcs_on : (b : Before) (e : Entity) → (behind_entity s b e).funcs ≡ b.funcs + length (funcs_at s b e)
  funcs_on b (entity_of.Declare d) = refl
  funcs_on b (entity_of.Define d) = refl
  funcs_on b (entity_of.Opaque leaf) = omega arith
  funcs_on b (entity_of.SourceFilename name) = omega arith
  funcs_on b (entity_of.Target which text) = omega arith
  funcs_on b (entity_of.Named name body) = omega arith
  funcs_on b (entity_of.Attributes group words) = omega arith
  funcs_on b (entity_of.GlobalVar g) = omega arith

  pub blocks_on : (b : Before) (e : Entity) → (behind_entity s b e).blocks ≡ b.blocks + length (blocks_at s b e)
  blocks_on b (entity_of.Declare d) = refl
  blocks_on b (entity_of.Define d) = refl
  blocks_on b (entity_of.Opaque leaf) = omega arith
  blocks_on b (entity_of.SourceFilename name) = omega arith
  blocks_on b (entity_of.Target which text) = omega arith
  blocks_on b (entity_of.Named name body) = omega arith
  blocks_on b (entity_of.Attributes group words) = omega arith
  blocks_on b (entity_of.GlobalVar g) = omega arith

  pub segs_on : (b : Before) (e : Entity) → (behind_entity s b e).segs ≡ b.segs + length (segs_at s b e)
  segs_on b (entity_of.Declare d) = refl
  segs_on b (entity_of.Define d) = refl
  segs_on b (entity_of.Opaque leaf) = omega arith
  segs_on b (entity_of.SourceFilename name) = omega arith
  segs_on b (entity_of.Target which text) = omega arith
  segs_on b (entity_of.Named name body) = omega arith
  segs_on b (entity_of.Attributes group words) = omega arith
  segs_on b (entity_of.GlobalVar g) = omega arith

  pub values_on : (b : Before) (e : Entity) → (behind_entity s b e).values ≡ b.values + length (values_at s b e)
  values_on b (entity_of.Declare d) = func_values_count b (declared d)
  values_on b (entity_of.Define d) = func_values_count b (defined d)
  values_on b (entity_of.Opaque leaf) = omega arith
  values_on b (entity_of.SourceFilename name) = omega arith
  values_on b (entity_of.Target which text) = omega arith
  values_on b (entity_of.Named name body) = omega arith
  values_on b (entity_of.Attributes group words) = omega arith
  values_on b (entity_of.GlobalVar g) = omega arith

  -- ---- names of a function
  -- a block for each that is written
  pub blocks_many : (b : Before) (f : Function) → length (func_blocks (reader s b f) f) ≡ length (parts_in f.body)
  blocks_many b f =
      let q = reader s b f in
      let laid = behind q.context.reading b.laid (extra_uses q.context.reading f.header.tails) in
      blocks_count q.context (func_id b) q.behind.counter b.segs (parts_in f.body) (instrs q f)
      (instrs_count q.context q.behind.values laid f.close (parts_in f.body))

  named_between : (b : Before) (f : Function) (id : ℕ) (e : Entry) → scope s b f id ≡ Some e → IsBetween (counts b) (all_counted s.ids (counts b) (slots s f)) e
  named_between b f id e is = found_between s.ids (counts b) (slots s f) id e is

  all_counts : (b : Before) (f : Function) → all_counted s.ids (counts b) (slots s f)
      ≡ all_counted s.ids (reader s b f).behind (flat_map (part_in (context s (scope s b f))) (parts_in f.body))
  all_counts b f =
      let x = context s (scope s b f) in
      counted_both s.ids (counts b) (param_slots f.header.params) (optional_slots s.ids s.void f.body)
      ∙ ap (all_counted s.ids (reader s b f).behind) (sym (body_same x f.body))

  values_to : (b : Before) (f : Function) → (all_counted s.ids (counts b) (slots s f)).values ≡ (behind_func (reader s b f) f).values
  values_to b f =
      ap (λ (c : Counts). c.values) (all_counts b f)
      ∙ (parts_counted (context s (scope s b f)) (parts_in f.body) (reader s b f).behind).values_are

  blocks_to : (b : Before) (f : Function) → (all_counted s.ids (counts b) (slots s f)).blocks ≡ b.blocks + length (func_blocks (reader s b f) f)
  blocks_to b f =
      let whole = ap (λ (c : Counts). c.blocks) (all_counts b f) in
      let inner = (parts_counted (context s (scope s b f)) (parts_in f.body) (reader s b f).behind).blocks_are in
      let first = (params_counted s.ids (context s (scope s b f)).reading f.header.params (counts b)).1 in
      let many = blocks_many b f in
      omega (arith, whole, inner, first, many)

  -- a value that it names is one of its own, and so is a block
  pub value_named : (b : Before) (f : Function) (id : ℕ) (v : ValueId) → scope s b f id ≡ Some (entry.Value v)
      → (j : ℕ) × (v.0 ≡ b.values + j) × (j < length (func_values (reader s b f) f))
  value_named b f id v is =
      let h = named_between b f id (entry.Value v) is in
      let from = h.0 in
      let to = h.1 in
      let same = values_to b f in
      let count = func_values_count b f in
      (v.0 - b.values, omega (arith, from), omega (arith, from, to, same, count))

  pub block_named : (b : Before) (f : Function) (id : ℕ) (k : BlockId) → scope s b f id ≡ Some (entry.Block k)
      → (j : ℕ) × (k.0 ≡ b.blocks + j) × (j < length (func_blocks (reader s b f) f))
  block_named b f id k is =
      let h = named_between b f id (entry.Block k) is in
      let from = h.0 in
      let to = h.1 in
      let same = blocks_to b f in
      (k.0 - b.blocks, omega (arith, from), omega (arith, from, to, same))

  -- a value of it is a parameter or a result
  abbrev pub IsParamValue : Before → Function → ℕ → ValueInfo → Type 0
  IsParamValue b f j info = (p : Param) × (slice_get (func (reader s b f) f).params j ≡ Some p) × (param_info (func_id b) p j ≡ info)

  abbrev pub IsResultValue : Before → Function → ℕ → ValueInfo → Type 0
  IsResultValue b f j info = (n : ℕ) × (j ≡ length (func (reader s b f) f).params + n)
      × IsResultOf (func_id b) b.segs (func_segs (reader s b f) f) n info

  pub func_value : (b : Before) (f : Function) (j : ℕ) (info : ValueInfo) → slice_get (func_values (reader s b f) f) j ≡ Some info
      → IsParamValue b f j info ⊎ IsResultValue b f j info
  func_value b f j info at =
      let q = reader s b f in
      let own = param_values (func_id b) 0 (func q f).params in
      let many = results_of (func_id b) b.segs (func_segs q f) in
      let count = param_count (func_id b) 0 (func q f).params in
      elim (cases_lt j (length own)) [
        | inl l ↦
            (let h = param_come (func_id b) 0 (func q f).params j info (sym (get_left own many j l) ∙ at) in
            inl (h.0, h.1, ap (λ n. param_info (func_id b) h.0 n) (omega arith) ∙ h.2))
        | inr l ↦
            (let n = j - length own in
            inr (n, omega (arith, l, count), come_of (func_id b) b.segs (func_segs q f) n info (sym (get_right own many j n (omega (arith, l))) ∙ at)))
      ]

  pub value_func : (b : Before) (f : Function) (j : ℕ) (info : ValueInfo) → slice_get (func_values (reader s b f) f) j ≡ Some info → info.func.0 ≡ b.funcs
  value_func b f j info at = elim (func_value b f j info at) [
    | inl p ↦ sym (ap (λ (z : ValueInfo). z.func.0) p.2)
    | inr r ↦ sym (ap (λ (z : ValueInfo). z.func.0) r.2.said)
  ]

  -- a parameter and a result stand among the values
  pub param_value : (b : Before) (f : Function) (k : ℕ) (p : Param) → slice_get (func (reader s b f) f).params k ≡ Some p
      → slice_get (func_values (reader s b f) f) k ≡ Some (param_info (func_id b) p k)
  param_value b f k p at =
      let q = reader s b f in
      get_kept (param_values (func_id b) 0 (func q f).params) (results_of (func_id b) b.segs (func_segs q f)) k (param_info (func_id b) p k)
      (param_there (func_id b) 0 (func q f).params k p at ∙ ap (λ n. Some (param_info (func_id b) p n)) (omega arith))

  pub result_value : (b : Before) (f : Function) (k : ℕ) (g : Seg) (i : ℕ) (ins : Instr) (v : ValueId) → slice_get (func_segs (reader s b f) f) k ≡ Some g
      → slice_get g.instrs i ≡ Some ins → ins.result ≡ Some v
      → (j : ℕ) × (slice_get (func_values (reader s b f) f) j ≡ Some (result_info (func_id b) (b.segs + k) i ins)) × (v.0 ≡ b.values + j)
  result_value b f k g i ins v at there some =
      let q = reader s b f in
      let own = param_values (func_id b) 0 (func q f).params in
      let many = results_of (func_id b) b.segs (func_segs q f) in
      let h = go_of (func_id b) b.segs (func_segs q f) k g i ins v at there some in
      let j = length own + h.0 in
      let first = params_behind b f in
      let count = param_count (func_id b) 0 (func q f).params in
      let number = counted_at q.behind.values (behind_func q f).values (results (all_in (func_segs q f))) h.0 v.0 (results_counted b f) h.2 in
      (j, get_right own many j h.0 refl ∙ h.1, omega (arith, number, first, count))

  -- the number of a result
  pub result_number : (b : Before) (f : Function) (n : ℕ) (info : ValueInfo) (r : IsResultOf (func_id b) b.segs (func_segs (reader s b f) f) n info)
      → r.value.0 ≡ b.values + (length (func (reader s b f) f).params + n)
  result_number b f n info r =
      let q = reader s b f in
      let first = params_behind b f in
      let number = counted_at q.behind.values (behind_func q f).values (results (all_in (func_segs q f))) n r.value.0 (results_counted b f) r.counted in
      omega (arith, number, first)

  -- ---- in the lists of a module
  module _ (es : List Entity) where
    -- the function is one of these entities, and so much stands before it
    pub record IsOf (b : Before) (f : Function) : Type 0 where
      pub entity : Entity
      pub reached : Reached s nothing es b entity
      pub is : Writes entity f

    module _ {X : Type 0} (made : Reader → Function → List X) (n : Before → ℕ) (none : n nothing ≡ 0)
        (on : (b : Before) (e : Entity) → n (behind_entity s b e) ≡ n b + length (of_function (λ f. made (reader s b f) f) e)) where
      abbrev pub At : Before → Entity → List X
      At b e = of_function (λ f. made (reader s b f) f) e

      -- what stands in the list is one thing of a function
      pub record Comes (k : ℕ) (y : X) : Type 0 where
        pub b : Before
        pub f : Function
        pub of : IsOf b f
        pub j : ℕ
        pub at : slice_get (made (reader s b f) f) j ≡ Some y
        pub place : k ≡ n b + j

      pub from_list : (k : ℕ) (y : X) → slice_get (each_entity s At nothing es) k ≡ Some y → Comes k y
      from_list k y is =
          let c = come s At n on nothing es k y is in
          let w = writes (λ f. made (reader s c.0 f) f) c.1 c.2 y c.4 in
          let p = c.5 in
          record { b = c.0; f = w.0; of = record { entity = c.1; reached = c.3; is = w.1 }; j = c.2; at = w.2; place = omega (arith, p, none) }

      pub in_list : (b : Before) (f : Function) → IsOf b f → (j : ℕ) (y : X) → slice_get (made (reader s b f) f) j ≡ Some y → (k : ℕ) → k ≡ n b + j
          → slice_get (each_entity s At nothing es) k ≡ Some y
      in_list b f of j y at k place = go s At n on nothing es b of.entity of.reached j y
          (ap (λ ys. slice_get ys j) (sym (made_of (λ g. made (reader s b g) g) of.entity f of.is)) ∙ at) k (omega (arith, place, none))
