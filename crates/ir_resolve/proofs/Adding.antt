-- Entities, put behind one another.
use Rattle.std.proofs.Common.{◌≡◌, ℕ, ◌+◌, ◌<◌, ◌≤◌, List, [], ◌∷◌, ◌++◌, length, take, take_all, get_or, refl, sym, ap, subst, ◌∙◌, append_assoc, arith}
use Rattle.std.proofs.lemmas.List.{append-nil, take_more}
use Rattle.std.specs.Prelude.{Option, zero, suc}
use Rattle.ir_tree.specs.declared.entities.Declare.{Declare}
use Rattle.ir_tree.specs.declared.entities.Define.{Define}
use Rattle.ir_tree.specs.declared.entities.Entity.{Entity}
use Rattle.ir_tree.specs.declared.entities.Entity.TheVariants as entity
use Rattle.ir_scopes.specs.declared.faults.NameFault.{NameFault}
use Rattle.ir_scopes.specs.Faults.{first_in}
use Rattle.ir_scopes.proofs.Entering.{first_in-append}
use Rattle.ir_resolve.specs.declared.state.Resolving.{Resolving}
use Rattle.ir_resolve.specs.Inputs.{Setting}
use Rattle.ir_resolve.specs.Functions.{Before}
use Rattle.ir_resolve.specs.Entities.{declared, defined, globals_at, funcs_at, blocks_at, segs_at, values_at, entity_faults, behind_entity, each_entity}
use Rattle.ir_resolve.specs.Entities.{behind_all}
use Rattle.ir_resolve.specs.Building.{before, found, IsReady, PutsFunction, Adds, AddsAll}

-- whatever stands for a number that is not there, what is there is the same
pub same_default : (xs : List ℕ) (k d e : ℕ) → k < length xs → get_or xs k d ≡ get_or xs k e
same_default [] k d e l = absurd (omega arith)
same_default (x ∷ xs) zero d e l = refl
same_default (x ∷ xs) (suc k) d e l = same_default xs k d e (omega (arith, l))

-- a declaration, and a definition, add what their functions do
pub adds_declare : (x : Setting) (d : Declare) (old new : Resolving) → PutsFunction x (declared d) old new → Adds x (entity.Declare d) old new
adds_declare x d old new puts = record {
  globals = puts.globals ∙ sym (append-nil old.globals.items);
  funcs = puts.funcs;
  blocks = puts.blocks;
  segs = puts.segs;
  values = puts.values;
  found = puts.found;
  behind = puts.behind;
  ready = puts.ready;
}

pub adds_define : (x : Setting) (d : Define) (old new : Resolving) → PutsFunction x (defined d) old new → Adds x (entity.Define d) old new
adds_define x d old new puts = record {
  globals = puts.globals ∙ sym (append-nil old.globals.items);
  funcs = puts.funcs;
  blocks = puts.blocks;
  segs = puts.segs;
  values = puts.values;
  found = puts.found;
  behind = puts.behind;
  ready = puts.ready;
}

module _ (x : Setting) where
  behind_append : (b : Before) (es fs : List Entity) → behind_all x b (es ++ fs) ≡ behind_all x (behind_all x b es) fs
  behind_append b [] fs = refl
  behind_append b (e ∷ es) fs = behind_append (behind_entity x b e) es fs

  each_append : {X : Type 0} (made : Before → Entity → List X) (b : Before) (es fs : List Entity) →
      each_entity x made b (es ++ fs) ≡ each_entity x made b es ++ each_entity x made (behind_all x b es) fs
  each_append made b [] fs = refl
  each_append made b (e ∷ es) fs =
      ap (λ ys. made b e ++ ys) (each_append made (behind_entity x b e) es fs)
      ∙ sym (append_assoc (made b e) (each_entity x made (behind_entity x b e) es) (each_entity x made (behind_all x b (e ∷ es)) fs))

  -- a list with what one more entity adds
  grown : {X : Type 0} (made : Before → Entity → List X) (start mid : Before) (es : List Entity) (e : Entity) (a b c : List X) →
      mid ≡ behind_all x start es → b ≡ a ++ each_entity x made start es → c ≡ b ++ made mid e → c ≡ a ++ each_entity x made start (es ++ e ∷ [])
  grown made start mid es e a b c at before more =
      more ∙ (λ i. before i ++ made (at i) e)
      ∙ append_assoc a (each_entity x made start es) (made (behind_all x start es) e)
      ∙ ap (λ ys. a ++ (each_entity x made start es ++ ys)) (sym (append-nil (made (behind_all x start es) e)))
      ∙ ap (λ ys. a ++ ys) (sym (each_append made start es (e ∷ [])))

  noted_more : (start mid : Before) (es : List Entity) (e : Entity) (a b c : Option NameFault) →
      mid ≡ behind_all x start es → b ≡ first_in a (each_entity x (entity_faults x) start es) → c ≡ first_in b (entity_faults x mid e) →
      c ≡ first_in a (each_entity x (entity_faults x) start (es ++ e ∷ []))
  noted_more start mid es e a b c at before more =
      more ∙ (λ i. first_in (before i) (entity_faults x (at i) e))
      ∙ sym (first_in-append a (each_entity x (entity_faults x) start es) (entity_faults x (behind_all x start es) e))
      ∙ ap (λ ys. first_in a (each_entity x (entity_faults x) start es ++ ys)) (sym (append-nil (entity_faults x (behind_all x start es) e)))
      ∙ ap (first_in a) (sym (each_append (entity_faults x) start es (e ∷ [])))

  -- no entity
  pub adds_none : (s : Resolving) → IsReady s → AddsAll x [] s s
  adds_none s ready = record {
    globals = sym (append-nil s.globals.items);
    funcs = sym (append-nil s.funcs.items);
    blocks = sym (append-nil s.builder.blocks.items);
    segs = sym (append-nil s.builder.cutter.segs.items);
    values = sym (append-nil s.values.items);
    found = refl;
    behind = refl;
    ready = ready;
  }

  -- one more entity
  adds_more : (es : List Entity) (e : Entity) (old mid new : Resolving) → AddsAll x es old mid → Adds x e mid new → AddsAll x (es ++ e ∷ []) old new
  adds_more es e old mid new a b = record {
    globals = grown (globals_at x) (before old) (before mid) es e old.globals.items mid.globals.items new.globals.items a.behind a.globals b.globals;
    funcs = grown (funcs_at x) (before old) (before mid) es e old.funcs.items mid.funcs.items new.funcs.items a.behind a.funcs b.funcs;
    blocks = grown (blocks_at x) (before old) (before mid) es e old.builder.blocks.items mid.builder.blocks.items new.builder.blocks.items
        a.behind a.blocks b.blocks;
    segs = grown (segs_at x) (before old) (before mid) es e old.builder.cutter.segs.items mid.builder.cutter.segs.items new.builder.cutter.segs.items
        a.behind a.segs b.segs;
    values = grown (values_at x) (before old) (before mid) es e old.values.items mid.values.items new.values.items a.behind a.values b.values;
    found = noted_more (before old) (before mid) es e (found old) (found mid) (found new) a.behind a.found b.found;
    behind = b.behind ∙ ap (λ k. behind_entity x k e) a.behind ∙ sym (behind_append (before old) es (e ∷ []));
    ready = b.ready;
  }

  pub adds_next : (all : List Entity) (i : ℕ) (e : Entity) (old mid new : Resolving) → i < length all → e ≡ get_or all i e →
      AddsAll x (take i all) old mid → Adds x e mid new → AddsAll x (take (i + 1) all) old new
  adds_next all i e old mid new l is a b =
      let more : take i all ++ e ∷ [] ≡ take (i + 1) all = ap (λ z. take i all ++ z ∷ []) is ∙ sym (take_more all i e l) in
      subst (λ es. AddsAll x es old new) more (adds_more (take i all) e old mid new a b)

  pub adds_whole : (all : List Entity) (i : ℕ) (old new : Resolving) → length all ≤ i → AddsAll x (take i all) old new → AddsAll x all old new
  adds_whole all i old new l a = subst (λ es. AddsAll x es old new) (take_all i all l) a
