-- At most one entity fits from a place up to another, and so at most one module fits the tokens.
use Rattle.std.proofs.Common.{◌≡◌, ℕ, ◌<◌, ◌≤◌, false, List, [], ◌∷◌, length, Option, Some, ◌⊎◌, inl, inr, ⊎_elim, refl, sym, subst, arith}
use Rattle.ir_tree.specs.declared.terminal.Terminal.{Terminal}
use Rattle.ir_tree.specs.declared.terminal.Terminal.TheVariants as k
use Rattle.ir_tree.specs.declared.types.Ty.{Ty}
use Rattle.ir_tree.specs.declared.constants.Const.{Const}
use Rattle.ir_tree.specs.declared.attributes.Gattr.{Gattr}
use Rattle.ir_tree.specs.declared.attributes.Comdat.{Comdat}
use Rattle.ir_tree.specs.declared.attributes.Attach.{Attach}
use Rattle.ir_tree.specs.declared.blocks.Body.{Body}
use Rattle.ir_tree.specs.declared.headers.Header.{Header}
use Rattle.ir_tree.specs.declared.entities.Gtail.{Gtail}
use Rattle.ir_tree.specs.declared.entities.Gtail.TheVariants as gtail_is
use Rattle.ir_tree.specs.declared.entities.TypeBody.{TypeBody}
use Rattle.ir_tree.specs.declared.entities.TypeBody.TheVariants as body_is
use Rattle.ir_tree.specs.declared.entities.GlobalVar.{GlobalVar}
use Rattle.ir_tree.specs.declared.entities.Declare.{Declare}
use Rattle.ir_tree.specs.declared.entities.Define.{Define}
use Rattle.ir_tree.specs.declared.entities.Entity.{Entity}
use Rattle.ir_tree.specs.declared.entities.Entity.TheVariants as entity_is
use Rattle.ir_tree.specs.declared.entities.Tree.{Tree}
use Rattle.ir_tree.specs.Steps.{Step, the, leaf, many, Longest, Taken}
use Rattle.ir_tree.specs.Types.{ty}
use Rattle.ir_tree.specs.Attributes.{awords, aword, gattr, comdat, attach}
use Rattle.ir_tree.specs.Entities.{gtail, names_next, global_var, declare, define, type_body, entity}
use Rattle.ir_tree.specs.Fits.{FitsTerminals}
use Rattle.ir_tree.proofs.Clear.{pair, choice, moves}
use Rattle.ir_tree.proofs.Known.{Known, leaf_of, set_of, the_of, pair_of, choice_of, optional_of, many_of, next_of, guarded_of, shape_of}
use Rattle.ir_tree.proofs.ClearTypes.{ty_of}
use Rattle.ir_tree.proofs.ClearConstants.{const_of}
use Rattle.ir_tree.proofs.ClearAttributes.{gattr_of, comdat_of, attach_of}
use Rattle.ir_tree.proofs.ClearBlocks.{body_of}
use Rattle.ir_tree.proofs.ClearHeaders.{header_of}

abbrev pub GtailShape : Type 0
GtailShape = (ℕ × ℕ) ⊎ ((ℕ × ℕ) ⊎ ((ℕ × ℕ) ⊎ ((ℕ × ℕ) ⊎ (Comdat ⊎ (Attach ⊎ ℕ)))))

abbrev pub gtail_back : GtailShape → Gtail
gtail_back (inl x) = gtail_is.Section x.0 x.1
gtail_back (inr (inl x)) = gtail_is.Partition x.0 x.1
gtail_back (inr (inr (inl x))) = gtail_is.CodeModel x.0 x.1
gtail_back (inr (inr (inr (inl x)))) = gtail_is.Align x.0 x.1
gtail_back (inr (inr (inr (inr (inl x))))) = gtail_is.Comdat x
gtail_back (inr (inr (inr (inr (inr (inl x)))))) = gtail_is.Attach x
gtail_back (inr (inr (inr (inr (inr (inr x)))))) = gtail_is.Word x

abbrev pub TypeBodyShape : Type 0
TypeBodyShape = Ty ⊎ ℕ

abbrev pub type_body_back : TypeBodyShape → TypeBody
type_body_back (inl x) = body_is.Ty x
type_body_back (inr x) = body_is.Opaque x

abbrev pub EntityShape : Type 0
EntityShape = ℕ ⊎ (((Unit {0}) ×
    ((Unit {0}) × ℕ)) ⊎ (((Unit {0}) ×
    (ℕ × ((Unit {0}) × ℕ))) ⊎ ((ℕ × ((Unit {0}) × ((Unit {0}) × TypeBody))) ⊎ (((Unit {0}) ×
    (ℕ × ((Unit {0}) × ((Unit {0}) × ((List Gattr) × ((Unit {0}))))))) ⊎ (GlobalVar ⊎ (Declare ⊎ Define))))))

abbrev pub entity_back : EntityShape → Entity
entity_back (inl x) = entity_is.Opaque x
entity_back (inr (inl x)) = entity_is.SourceFilename x.1.1
entity_back (inr (inr (inl x))) = entity_is.Target x.1.0 x.1.1.1
entity_back (inr (inr (inr (inl x)))) = entity_is.Named x.0 x.1.1.1
entity_back (inr (inr (inr (inr (inl x))))) = entity_is.Attributes x.1.0 x.1.1.1.1.0
entity_back (inr (inr (inr (inr (inr (inl x)))))) = entity_is.GlobalVar x
entity_back (inr (inr (inr (inr (inr (inr (inl x))))))) = entity_is.Declare x
entity_back (inr (inr (inr (inr (inr (inr (inr x))))))) = entity_is.Define x

module _ (toks : List Terminal) where
  abbrev pub gtail_shape : GtailShape → Step
  gtail_shape = choice (pair (leaf toks k.Section) (leaf toks k.Str)) (choice (pair (leaf toks k.Partition) (leaf toks k.Str))
      (choice (pair (leaf toks k.CodeModel) (leaf toks k.Str))
      (choice (pair (leaf toks k.Align) (leaf toks k.Int)) (choice (comdat toks) (choice (attach toks) (aword toks))))))

  pub gtail_view : (t : Gtail) (a b : ℕ) → gtail toks t a ≡ Some b → (x : GtailShape) × ((gtail_back x ≡ t) × (gtail_shape x a ≡ Some b))
  gtail_view (gtail_is.Section at name) a b e = (inl (at, name), (refl, e))
  gtail_view (gtail_is.Partition at name) a b e = (inr (inl (at, name)), (refl, e))
  gtail_view (gtail_is.CodeModel at name) a b e = (inr (inr (inl (at, name))), (refl, e))
  gtail_view (gtail_is.Align at bytes) a b e = (inr (inr (inr (inl (at, bytes)))), (refl, e))
  gtail_view (gtail_is.Comdat c) a b e = (inr (inr (inr (inr (inl c)))), (refl, e))
  gtail_view (gtail_is.Attach x) a b e = (inr (inr (inr (inr (inr (inl x))))), (refl, e))
  gtail_view (gtail_is.Word at) a b e = (inr (inr (inr (inr (inr (inr at))))), (refl, e))

  abbrev pub gtail_of : Known toks false (gtail toks)
  gtail_of = shape_of gtail_back gtail_view (choice_of (pair_of (leaf_of k.Section) (leaf_of k.Str) refl)
      (choice_of (pair_of (leaf_of k.Partition) (leaf_of k.Str) refl) (choice_of (pair_of (leaf_of k.CodeModel) (leaf_of k.Str) refl)
      (choice_of (pair_of (leaf_of k.Align) (leaf_of k.Int) refl) (choice_of (comdat_of toks) (choice_of (attach_of toks) (set_of awords) refl) refl) refl)
      refl) refl) refl)

  abbrev pub global_var_of : Known toks false (global_var toks)
  global_var_of = shape_of (λ (x : ℕ × ((Unit {0}) × ((Option ℕ) × ((List ℕ) × (ℕ × (Ty × ((Option Const) × ((List Gtail) × ((List ℕ)))))))))). record {
    name =
        x.0;
    linkage = x.1.1.0;
    words = x.1.1.1.0;
    kind = x.1.1.1.1.0;
    ty = x.1.1.1.1.1.0;
    initial = x.1.1.1.1.1.1.0;
    tails = x.1.1.1.1.1.1.1.0;
    groups =
        x.1.1.1.1.1.1.1.1;
  }) (λ t a b e. (
    (t.name, (tt, (t.linkage, (t.words, (t.kind, (t.ty, (t.initial, (t.tails, t.groups)))))))),
    (refl, e),
  )) (pair_of (leaf_of k.Global)
      (pair_of (the_of k.Equals) (pair_of (optional_of (leaf_of k.Linkage))
      (pair_of (many_of (set_of (k.Hword ∷ k.Unnamed ∷ k.ExternallyInitialized ∷ [])) refl)
      (pair_of (leaf_of k.Variable) (pair_of (ty_of toks) (pair_of (optional_of (guarded_of (names_next toks) (const_of toks)))
      (pair_of (many_of (next_of gtail_of) refl) (many_of (leaf_of k.Group) refl) refl) refl) refl) refl) refl) refl) refl) refl)

  abbrev pub declare_of : Known toks false (declare toks)
  declare_of = shape_of (λ (x : ℕ × ((List Attach) × Header)). record {
    word = x.0;
    attached = x.1.0;
    header =
        x.1.1;
  }) (λ t a b e. (
    (t.word, (t.attached, t.header)),
    (refl, e),
  )) (pair_of (leaf_of k.Declare) (pair_of (many_of (attach_of toks) refl) (header_of toks) refl) refl)

  abbrev pub define_of : Known toks false (define toks)
  define_of = shape_of (λ (x : ℕ × (Header × ((Unit {0}) × (Body × ℕ)))). record {
    word = x.0;
    header = x.1.0;
    body = x.1.1.1.0;
    close =
        x.1.1.1.1;
  }) (λ t a b e. (
    (t.word, (t.header, (tt, (t.body, t.close)))),
    (refl, e),
  )) (pair_of (leaf_of k.Define) (pair_of (header_of toks) (pair_of (the_of k.LeftBrace) (pair_of (body_of toks) (leaf_of k.RightBrace) refl) refl)
      refl) refl)

  abbrev pub type_body_shape : TypeBodyShape → Step
  type_body_shape = choice (ty toks) (leaf toks k.OpaqueWord)

  pub type_body_view : (t : TypeBody) (a b : ℕ) → type_body toks t a ≡ Some b → (x : TypeBodyShape) × ((type_body_back x ≡ t) × (type_body_shape x a ≡ Some b))
  type_body_view (body_is.Ty t) a b e = (inl t, (refl, e))
  type_body_view (body_is.Opaque at) a b e = (inr at, (refl, e))

  abbrev pub type_body_of : Known toks false (type_body toks)
  type_body_of = shape_of type_body_back type_body_view (choice_of (ty_of toks) (leaf_of k.OpaqueWord) refl)

  abbrev pub entity_shape : EntityShape → Step
  entity_shape = choice (leaf toks k.Opaque) (choice (pair (λ _. the toks k.SourceFilename) (pair (λ _. the toks k.Equals) (leaf toks k.Str)))
      (choice (pair (λ _. the toks k.Target) (pair (leaf toks k.TargetPart) (pair (λ _. the toks k.Equals) (leaf toks k.Str))))
      (choice (pair (leaf toks k.Local) (pair (λ _. the toks k.Equals) (pair (λ _. the toks k.TypeWord) (type_body toks))))
      (choice (pair (λ _. the toks k.Attributes)
      (pair (leaf toks k.Group) (pair (λ _. the toks k.Equals) (pair (λ _. the toks k.LeftBrace) (pair (many (gattr toks)) (λ _. the toks k.RightBrace))))))
      (choice (global_var toks) (choice (declare toks) (define toks)))))))

  pub entity_view : (t : Entity) (a b : ℕ) → entity toks t a ≡ Some b → (x : EntityShape) × ((entity_back x ≡ t) × (entity_shape x a ≡ Some b))
  entity_view (entity_is.Opaque at) a b e = (inl at, (refl, e))
  entity_view (entity_is.SourceFilename name) a b e = (inr (inl (tt, (tt, name))), (refl, e))
  entity_view (entity_is.Target which text) a b e = (inr (inr (inl (tt, (which, (tt, text))))), (refl, e))
  entity_view (entity_is.Named name kind) a b e = (inr (inr (inr (inl (name, (tt, (tt, kind)))))), (refl, e))
  entity_view (entity_is.Attributes group words) a b e = (inr (inr (inr (inr (inl (tt, (group, (tt, (tt, (words, tt))))))))), (refl, e))
  entity_view (entity_is.GlobalVar x) a b e = (inr (inr (inr (inr (inr (inl x))))), (refl, e))
  entity_view (entity_is.Declare x) a b e = (inr (inr (inr (inr (inr (inr (inl x)))))), (refl, e))
  entity_view (entity_is.Define x) a b e = (inr (inr (inr (inr (inr (inr (inr x)))))), (refl, e))

  abbrev pub entity_of : Known toks false (entity toks)
  entity_of = shape_of entity_back entity_view
      (choice_of (leaf_of k.Opaque) (choice_of (pair_of (the_of k.SourceFilename) (pair_of (the_of k.Equals) (leaf_of k.Str) refl) refl)
      (choice_of (pair_of (the_of k.Target) (pair_of (leaf_of k.TargetPart) (pair_of (the_of k.Equals) (leaf_of k.Str) refl) refl) refl)
      (choice_of (pair_of (leaf_of k.Local) (pair_of (the_of k.Equals) (pair_of (the_of k.TypeWord) type_body_of refl) refl) refl)
      (choice_of (pair_of (the_of k.Attributes)
      (pair_of (leaf_of k.Group) (pair_of (the_of k.Equals) (pair_of (the_of k.LeftBrace) (pair_of (many_of (gattr_of toks) refl) (the_of k.RightBrace) refl)
      refl) refl) refl) refl) (choice_of global_var_of (choice_of declare_of define_of refl) refl) refl) refl) refl) refl) refl)

  entity_moves : (t : Entity) (a b : ℕ) → entity toks t a ≡ Some b → a < b
  entity_moves t a b e = (moves toks entity_of.first a b ((entity_of.at a).opens t b e)).0

  taken_up : (ts : List Entity) (a b : ℕ) → Taken (entity toks) ts a b → a ≤ b
  taken_up [] a b h = omega (arith, h)
  taken_up (t ∷ ts) a b h = omega (arith, entity_moves t a h.0 h.1.0.0, taken_up ts h.0 b h.1.1)

  same_entity : (t u : Entity) (a b c : ℕ) → Longest (entity toks) a (Some (t, b)) → Longest (entity toks) a (Some (u, c)) → (t ≡ u) × (b ≡ c)
  same_entity t u a b c h g =
      let up : c ≤ b = h.1 u c g.0 in
      let down : b ≤ c = g.1 t b h.0 in (
        ⊎_elim (λ same. same) (λ d. ⊎_elim (λ less. let no : ⊥ = omega (arith, less.0, up) in absurd no) (λ less. let no : ⊥ = omega (arith, less.0, down) in
            absurd no) d) ((entity_of.at a).clear t u b c h.0 g.0),
        omega arith,
      )

  pub one_taken : (ts us : List Entity) (a b : ℕ) → Taken (entity toks) ts a b → Taken (entity toks) us a b → ts ≡ us
  one_taken [] [] a b h g = refl
  one_taken [] (u ∷ us) a b h g = let no : ⊥ = omega (arith, h, entity_moves u a g.0 g.1.0.0, taken_up us g.0 b g.1.1) in absurd no
  one_taken (t ∷ ts) [] a b h g = let no : ⊥ = omega (arith, g, entity_moves t a h.0 h.1.0.0, taken_up ts h.0 b h.1.1) in absurd no
  one_taken (t ∷ ts) (u ∷ us) a b h g =
      let same = same_entity t u a h.0 g.0 h.1.0 g.1.0 in
      let tail : ts ≡ us = one_taken ts us h.0 b h.1.1 (subst (λ m. Taken (entity toks) us m b) (sym same.1) g.1.1) in
      λ i. same.0 i ∷ tail i

  pub one_tree : (t u : Tree) → FitsTerminals t toks → FitsTerminals u toks → t ≡ u
  one_tree t u h g = let e : t.entities ≡ u.entities = one_taken t.entities u.entities 0 (length toks) h g in λ i. record { entities = e i }

  -- an entity ends within the tokens
  pub entity_within : (t : Entity) (a b : ℕ) → a ≤ length toks → entity toks t a ≡ Some b → b ≤ length toks
  entity_within t a b inside e = (entity_of.at a).within t b e inside
