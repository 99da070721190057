-- What is wrong with the names of a text has nothing to do with the numbers of its types.
use Rattle.std.proofs.Common.{◌≡◌, ℕ, List, [], ◌∷◌, ◌++◌, refl, ap, ◌∙◌}
use Rattle.std.specs.Prelude.{not, Option, None, Some}
use Rattle.std.specs.List.{flat_map}
use Rattle.ir_tree.specs.declared.constants.Const.{Const}
use Rattle.ir_tree.specs.declared.entities.Entity.{Entity}
use Rattle.ir_tree.specs.declared.entities.Entity.TheVariants as entity
use Rattle.ir_tree.specs.declared.entities.GlobalVar as tree_global
use Rattle.ir_module.specs.Calls.{is_lifetime_name}
use Rattle.ir_scopes.specs.declared.faults.NameFault.{NameFault}
use Rattle.ir_scopes.specs.declared.faults.Cause.TheVariants.{Twice}
use Rattle.ir_scopes.specs.declared.slot.Counts.{Counts}
use Rattle.ir_scopes.specs.declared.slot.Entry.{Entry}
use Rattle.ir_scopes.specs.Faults.{fault_unless}
use Rattle.ir_scopes.specs.Scopes.{definitions, all_counted, find, repeats}
use Rattle.ir_scopes.specs.Slots.{param_slots}
use Rattle.ir_operands.specs.declared.rule.Site.{Site}
use Rattle.ir_operands.specs.declared.rule.Site.TheVariants.{Plain, Initial}
use Rattle.ir_consts.specs.Consts.{const_of}
use Rattle.ir_consts.specs.Faults as const_faults
use Rattle.const_numbers.proofs.Constants.{faults_same}
use Rattle.ir_bodies.specs.Context.{Context}
use Rattle.ir_bodies.specs.Groups.{group_faults}
use Rattle.ir_headers.specs.Globals.{initial_faults}
use Rattle.ir_headers.specs.Leaves.{name_of}
use Rattle.ir_resolve.specs.Inputs.{Setting, at_site, context}
use Rattle.ir_resolve.specs.Functions.{Before, Function, Reader, reader, counts, slots, scope, text_faults, func_faults, behind_func}
use Rattle.ir_resolve.specs.Entities.{declared, defined, outside, global_faults, entity_faults, behind_entity, each_entity}
use Rattle.one_module.proofs.Contexts.{Agree, text_same, behind_same}

-- the same, with these numbers of types
abbrev pub numbered : Setting → List ℕ → Setting
numbered x ns = record x { numbers = ns }

module _ (x : Setting) (a b : List ℕ) where
  -- names in constants that stand for nothing
  abbrev unknown : List ℕ → Const → List NameFault
  unknown ns = const_faults.faults_of (at_site Plain (numbered x ns))

  unknown_same : (s : Site) → const_faults.faults_of (at_site s (numbered x a)) ≡ const_faults.faults_of (at_site s (numbered x b))
  unknown_same s = faults_same (at_site s x) a b

  -- ---- functions
  -- a function with the counts of its names, and what stands before it
  abbrev reader_by : Setting → Counts → Before → Function → Reader
  reader_by x c p f = record {
    context = context x (find (definitions x.ids c (slots x f)));
    behind = all_counted x.ids c (param_slots f.header.params);
    before = p;
  }

  -- what constants are by one list of numbers, and the names in them that stand for nothing by both
  abbrev between : (Const → List NameFault) → (ℕ → Option Entry) → Context
  between faults named = record (context (numbered x b) named) { reading = record (context (numbered x b) named).reading { unknown = faults } }

  module _ (p q : Before) (agree : Agree p q) (f : Function) where
    counts_same : counts p ≡ counts q
    counts_same = λ i. record (counts q) { values = agree.values i; blocks = agree.blocks i }

    abbrev c : Counts
    c = counts p

    abbrev half : (Const → List NameFault) → Reader
    half faults = record {
      context = between faults (find (definitions x.ids c (slots x f)));
      behind = all_counted x.ids c (param_slots f.header.params);
      before = q;
    }

    half_same : half (unknown a) ≡ reader (numbered x b) q f
    half_same = (λ i. half (unknown_same Plain i)) ∙ (λ i. reader_by (numbered x b) (counts_same i) q f)

    text_is : text_faults x.types (reader (numbered x a) p f) f ≡ text_faults x.types (reader (numbered x b) q f) f
    text_is =
        text_same (between (unknown a) (scope x p f)) (const_of (at_site Plain (numbered x a))) x.types (all_counted x.ids c (param_slots f.header.params)) p q
        agree f
        ∙ ap (λ r. text_faults x.types r f) half_same

    pub function_same : func_faults (numbered x a) p f ≡ func_faults (numbered x b) q f
    function_same = λ i. repeats x.ids [] (counts_same i) (slots x f) ++ text_is i

    pub behind_is : Agree (behind_func (reader (numbered x a) p f) f) (behind_func (reader (numbered x b) q f) f)
    behind_is =
        let first = behind_same (between (unknown a) (scope x p f)) (const_of (at_site Plain (numbered x a))) x.types
        (all_counted x.ids c (param_slots f.header.params)) p q agree f in
        record {
          values = first.values ∙ ap (λ r. (behind_func r f).values) half_same;
          blocks = first.blocks ∙ ap (λ r. (behind_func r f).blocks) half_same;
        }

  -- ---- entities
  initial_same : (o : Option Const) → initial_faults (at_site Initial (numbered x a)) o ≡ initial_faults (at_site Initial (numbered x b)) o
  initial_same None = refl
  initial_same (Some c) = ap (λ f. f c) (unknown_same Initial)

  groups_same : (gs : List ℕ) → flat_map (group_faults (outside (numbered x a))) gs ≡ flat_map (group_faults (outside (numbered x b))) gs
  groups_same gs = ap (λ (f : ℕ → List NameFault). flat_map f gs) (λ i at. group_faults (outside (numbered x b)) at)

  global_same : (p q : Before) (g : tree_global.GlobalVar) → global_faults (numbered x a) p g ≡ global_faults (numbered x b) q g
  global_same p q g = λ i. initial_same g.initial i
      ++ (groups_same g.groups i ++ fault_unless (not (is_lifetime_name (name_of x.text x.toks g.name))) Twice g.name)

  entity_same : (p q : Before) → Agree p q → (e : Entity) → entity_faults (numbered x a) p e ≡ entity_faults (numbered x b) q e
  entity_same p q agree (entity.Named at body) = refl
  entity_same p q agree (entity.Opaque at) = refl
  entity_same p q agree (entity.SourceFilename at) = refl
  entity_same p q agree (entity.Target which text) = refl
  entity_same p q agree (entity.Attributes group words) = refl
  entity_same p q agree (entity.GlobalVar g) = global_same p q g
  entity_same p q agree (entity.Declare d) = function_same p q agree (declared d)
  entity_same p q agree (entity.Define d) = function_same p q agree (defined d)

  still : (p q : Before) → Agree p q → (e : Entity) → Agree (behind_entity (numbered x a) p e) (behind_entity (numbered x b) q e)
  still p q agree (entity.Named at body) = agree
  still p q agree (entity.Opaque at) = agree
  still p q agree (entity.SourceFilename at) = agree
  still p q agree (entity.Target which text) = agree
  still p q agree (entity.Attributes group words) = agree
  still p q agree (entity.GlobalVar g) = record { values = agree.values; blocks = agree.blocks }
  still p q agree (entity.Declare d) = behind_is p q agree (declared d)
  still p q agree (entity.Define d) = behind_is p q agree (defined d)

  pub all_same : (p q : Before) → Agree p q → (es : List Entity) →
      each_entity (numbered x a) (entity_faults (numbered x a)) p es ≡ each_entity (numbered x b) (entity_faults (numbered x b)) q es
  all_same p q agree [] = refl
  all_same p q agree (e ∷ es) = λ i. entity_same p q agree e i
      ++ all_same (behind_entity (numbered x a) p e) (behind_entity (numbered x b) q e) (still p q agree e) es i
