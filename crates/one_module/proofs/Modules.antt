-- The module of a text has nothing to do with the numbers of its types, where none of these is nested too deep.
use Rattle.std.proofs.Common.{◌≡◌, ℕ, List, [], ◌∷◌, ◌++◌, refl, sym, ap, subst, ◌∙◌}
use Rattle.std.specs.Prelude.{Option, None, Some}
use Rattle.ir_token.specs.declared.token.Token.{Token}
use Rattle.ir_tree.specs.declared.constants.Const.{Const}
use Rattle.ir_tree.specs.declared.entities.Entity.{Entity}
use Rattle.ir_tree.specs.declared.entities.Entity.TheVariants as entity
use Rattle.ir_tree.specs.declared.entities.GlobalVar as tree_global
use Rattle.ir_tree.specs.declared.entities.Tree.{Tree}
use Rattle.ir_type_equality.specs.Numbers.{AreCanonical}
use Rattle.ir_module.specs.declared.module.Module.{Module}
use Rattle.ir_operands.specs.declared.rule.Site.{Site}
use Rattle.ir_operands.specs.declared.rule.Site.TheVariants.{Plain, Initial}
use Rattle.ir_scopes.specs.declared.faults.NameFault.{NameFault}
use Rattle.ir_scopes.specs.declared.slot.Entry.{Entry}
use Rattle.ir_scopes.specs.Faults.{first_in}
use Rattle.ir_consts.specs.Consts.{const_of}
use Rattle.const_numbers.specs.Numbered.{AreLaidOut}
use Rattle.const_numbers.proofs.Constants.{const_same, faults_same}
use Rattle.ir_headers.specs.Globals.{initial_of, behind_initial}
use Rattle.ir_resolve.specs.Inputs.{Setting, at_site, context, names, setting_in, types}
use Rattle.ir_resolve.specs.Functions.{Before, Function, Reader, reader, scope, func, func_blocks, func_segs, func_values, behind_func}
use Rattle.ir_resolve.specs.Entities.{nothing, declared, defined, global, of_function, globals_at, funcs_at, blocks_at, segs_at, values_at}
use Rattle.ir_resolve.specs.Entities.{behind_entity, each_entity, behind_all}
use Rattle.ir_resolve.specs.Modules.{module_with, module_of, faults_of, top_faults, input, Resolved, IsFirstFault}
use Rattle.ir_type_names.specs.Unknown.{unknown_types}
use Rattle.one_module.proofs.Faults.{numbered, all_same}

module _ (x : Setting) (a b : List ℕ) (laid : AreLaidOut x.types) (one : AreCanonical x.types a) (other : AreCanonical x.types b) where
  abbrev xa : Setting
  xa = numbered x a

  abbrev xb : Setting
  xb = numbered x b

  consts_same : (s : Site) → const_of (at_site s xa) ≡ const_of (at_site s xb)
  consts_same s = const_same (at_site s x) a b laid one other

  -- ---- functions
  context_same : (named : ℕ → Option Entry) → context xa named ≡ context xb named
  context_same named = λ i. record (context xb named) {
    reading = record (context xb named).reading { const = consts_same Plain i; unknown = faults_same (at_site Plain x) a b i };
  }

  reader_same : (p : Before) (f : Function) → reader xa p f ≡ reader xb p f
  reader_same p f = λ i. record (reader xb p f) { context = context_same (scope x p f) i }

  -- what is made of the function that an entity writes
  made_same : {X : Type 0} (made : Reader → Function → List X) (p : Before) (e : Entity) →
      of_function (λ f. made (reader xa p f) f) e ≡ of_function (λ f. made (reader xb p f) f) e
  made_same made p e = ap (λ (q : Function → Reader). of_function (λ f. made (q f) f) e) (λ i f. reader_same p f i)

  -- ---- globals
  initial_same : (p : Before) (g : tree_global.GlobalVar) (o : Option Const) →
      initial_of (at_site Initial xa) ((at_site Initial x).kinds g.ty) p.laid o ≡ initial_of (at_site Initial xb) ((at_site Initial x).kinds g.ty) p.laid o
  initial_same p g None = refl
  initial_same p g (Some c) = ap (λ k. Some (k c ((at_site Initial x).kinds g.ty) p.laid).0) (consts_same Initial)

  laid_same : (p : Before) (g : tree_global.GlobalVar) (o : Option Const) →
      behind_initial (at_site Initial xa) ((at_site Initial x).kinds g.ty) p.laid o
      ≡ behind_initial (at_site Initial xb) ((at_site Initial x).kinds g.ty) p.laid o
  laid_same p g None = refl
  laid_same p g (Some c) = ap (λ k. (k c ((at_site Initial x).kinds g.ty) p.laid).1) (consts_same Initial)

  global_same : (p : Before) (g : tree_global.GlobalVar) → global xa p g ≡ global xb p g
  global_same p g = ap (λ z. record (global xb p g) { init = z }) (initial_same p g g.initial)

  globals_same : (p : Before) (e : Entity) → globals_at xa p e ≡ globals_at xb p e
  globals_same p (entity.GlobalVar g) = ap (λ z. z ∷ []) (global_same p g)
  globals_same p (entity.Named at body) = refl
  globals_same p (entity.Opaque at) = refl
  globals_same p (entity.SourceFilename at) = refl
  globals_same p (entity.Target which text) = refl
  globals_same p (entity.Attributes group words) = refl
  globals_same p (entity.Declare d) = refl
  globals_same p (entity.Define d) = refl

  -- ---- all entities
  behind_same : (p : Before) (e : Entity) → behind_entity xa p e ≡ behind_entity xb p e
  behind_same p (entity.GlobalVar g) = ap (λ ws. record p { laid = ws }) (laid_same p g g.initial)
  behind_same p (entity.Declare d) = ap (λ q. behind_func q (declared d)) (reader_same p (declared d))
  behind_same p (entity.Define d) = ap (λ q. behind_func q (defined d)) (reader_same p (defined d))
  behind_same p (entity.Named at body) = refl
  behind_same p (entity.Opaque at) = refl
  behind_same p (entity.SourceFilename at) = refl
  behind_same p (entity.Target which text) = refl
  behind_same p (entity.Attributes group words) = refl

  each_same : {X : Type 0} (made made2 : Before → Entity → List X) → ((p : Before) (e : Entity) → made p e ≡ made2 p e) → (p : Before) (es : List Entity) →
      each_entity xa made p es ≡ each_entity xb made2 p es
  each_same made made2 same p [] = refl
  each_same made made2 same p (e ∷ es) =
      (λ i. same p e i ++ each_entity xa made (behind_same p e i) es) ∙ ap (λ ys. made2 p e ++ ys) (each_same made made2 same (behind_entity xb p e) es)

  behind_all_same : (p : Before) (es : List Entity) → behind_all xa p es ≡ behind_all xb p es
  behind_all_same p [] = refl
  behind_all_same p (e ∷ es) = ap (λ k. behind_all xa k es) (behind_same p e) ∙ behind_all_same (behind_entity xb p e) es

  module_same : (es : List Entity) → module_with xa es ≡ module_with xb es
  module_same es =
      let globals = each_same (globals_at xa) (globals_at xb) globals_same nothing es in
      let funcs = each_same (funcs_at xa) (funcs_at xb) (made_same (λ q f. func q f ∷ [])) nothing es in
      let blocks = each_same (blocks_at xa) (blocks_at xb) (made_same func_blocks) nothing es in
      let segs = each_same (segs_at xa) (segs_at xb) (made_same func_segs) nothing es in
      let values = each_same (values_at xa) (values_at xb) (made_same func_values) nothing es in
      let behind = behind_all_same nothing es in
      λ i. record (module_with xb es) {
        globals = globals i;
        funcs = funcs i;
        blocks = blocks i;
        segs = segs i;
        values = values i;
        parts = (behind i).laid;
      }

module _ (text : List ℕ) (toks : List Token) (tree : Tree) where
  types_are : (ns : List ℕ) (m : Module) → m ≡ module_of (input text toks tree ns) → m.types ≡ types (input text toks tree [])
  unfolding module_of
  types_are ns m is = ap (λ m. m.types) is

  modules_are : (a b : List ℕ) → AreLaidOut (types (input text toks tree [])) → AreCanonical (types (input text toks tree [])) a →
      AreCanonical (types (input text toks tree [])) b → module_of (input text toks tree a) ≡ module_of (input text toks tree b)
  unfolding module_of
  modules_are a b laid one other = module_same (setting_in (names (input text toks tree [])) []) a b laid one other tree.entities

  faults_are : (a b : List ℕ) → faults_of (input text toks tree a) ≡ faults_of (input text toks tree b)
  unfolding faults_of
  faults_are a b =
      let x = setting_in (names (input text toks tree [])) [] in
      ap (λ fs. top_faults x.ids tree.entities ++ (unknown_types x.table.names tree.entities ++ fs))
      (all_same x a b nothing nothing (record { values = refl; blocks = refl }) tree.entities)

  -- one module
  pub one_module : (m n : Module) → AreLaidOut m.types → Resolved text toks tree m → Resolved text toks tree n → m ≡ n
  one_module m n laid a b =
      let wide : AreLaidOut (types (input text toks tree [])) = subst AreLaidOut (types_are a.numbers m a.is) laid in
      a.is ∙ modules_are a.numbers b.numbers wide a.canonical b.canonical ∙ sym b.is

  some : (f g : NameFault) → Some f ≡ Some g → f ≡ g
  some f g h = cc

  -- a module or a fault, and one of them
  pub none_amiss : (m : Module) (f : NameFault) → Resolved text toks tree m → IsFirstFault text toks tree f → ⊥
  none_amiss m f a b =
      let none : first_in None (faults_of (input text toks tree b.numbers)) ≡ None = ap (first_in None) (faults_are b.numbers a.numbers ∙ a.faultless) in
      let both : Some f ≡ None = sym b.first ∙ none in
      absurd (cc both)

  pub one_fault : (f g : NameFault) → IsFirstFault text toks tree f → IsFirstFault text toks tree g → f ≡ g
  one_fault f g a b = some f g (sym a.first ∙ ap (first_in None) (faults_are a.numbers b.numbers) ∙ b.first)
