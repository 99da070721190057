-- The longest entity, by its first token.
use Rattle.std.proofs.Common.{◌≡◌, ℕ, suc, false, List, [], ◌∷◌, Option, None, Some, ◌⊎◌, inl, inr, refl, sym, subst}
use Rattle.ir_tree.specs.declared.terminal.Terminal.{Terminal}
use Rattle.ir_tree.specs.declared.terminal.Terminal.TheVariants as k
use Rattle.ir_tree.specs.declared.types.Ty.{Ty}
use Rattle.ir_tree.specs.declared.attributes.Gattr.{Gattr}
use Rattle.ir_tree.specs.declared.attributes.Attach.{Attach}
use Rattle.ir_tree.specs.declared.blocks.Body.{Body}
use Rattle.ir_tree.specs.declared.headers.Header.{Header}
use Rattle.ir_tree.specs.declared.entities.TypeBody.{TypeBody}
use Rattle.ir_tree.specs.declared.entities.TypeBody.TheVariants as body_is
use Rattle.ir_tree.specs.declared.entities.GlobalVar.{GlobalVar}
use Rattle.ir_tree.specs.declared.entities.Declare.{Declare}
use Rattle.ir_tree.specs.declared.entities.Define.{Define}
use Rattle.ir_tree.specs.declared.entities.Entity.{Entity}
use Rattle.ir_tree.specs.declared.entities.Entity.TheVariants as entity_is
use Rattle.ir_tree.specs.Steps.{Step, the, leaf, many, Longest}
use Rattle.ir_tree.specs.Types.{ty}
use Rattle.ir_tree.specs.Attributes.{gattr, attach}
use Rattle.ir_tree.specs.Blocks.{body}
use Rattle.ir_tree.specs.Headers.{header}
use Rattle.ir_tree.specs.Entities.{global_var, declare, define, type_body, entity}
use Rattle.ir_tree.proofs.Looks.{At}
use Rattle.ir_tree.proofs.Clear.{pair, choice, split}
use Rattle.ir_tree.proofs.Known.{Known, firsts, leaf_of, the_of, pair_of, choice_of, many_of, shape_of}
use Rattle.ir_tree.proofs.ClearTypes.{ty_of}
use Rattle.ir_tree.proofs.ClearAttributes.{gattr_of, attach_of}
use Rattle.ir_tree.proofs.ClearBlocks.{body_of}
use Rattle.ir_tree.proofs.ClearHeaders.{header_of}
use Rattle.ir_tree.proofs.ClearEntities.{EntityShape, entity_back, entity_shape, entity_view, type_body_back, type_body_shape, type_body_view, type_body_of}
use Rattle.ir_tree.proofs.ClearEntities.{global_var_of, declare_of, define_of}
use Rattle.ir_parse_parts.proofs.Longest.{turned, leaf_some, leaf_none, the_some, the_none, pair_some}
use Rattle.ir_parse_parts.proofs.Longest.{pair_none, pair_stop, shape_some, shape_none, choice_none, not_begun}
use Rattle.ir_parse_body.proofs.Sequences.{shaped, pair_by, choice_left, choice_right, seen}
use Rattle.ir_parse_top.specs.Parts.{braced}

module _ (toks : List Terminal) where
  -- ---- one of the eight
  abbrev opaque_part : ℕ → Step
  opaque_part = leaf toks k.Opaque

  abbrev opaque_of : Known toks false opaque_part
  opaque_of = leaf_of k.Opaque

  abbrev filename_part : Unit {0} × (Unit {0} × ℕ) → Step
  filename_part = pair (λ _. the toks k.SourceFilename) (pair (λ _. the toks k.Equals) (leaf toks k.Str))

  abbrev filename_of : Known toks false filename_part
  filename_of = pair_of (the_of k.SourceFilename) (pair_of (the_of k.Equals) (leaf_of k.Str) refl) refl

  abbrev target_part : Unit {0} × (ℕ × (Unit {0} × ℕ)) → Step
  target_part = pair (λ _. the toks k.Target) (pair (leaf toks k.TargetPart) (pair (λ _. the toks k.Equals) (leaf toks k.Str)))

  abbrev target_of : Known toks false target_part
  target_of = pair_of (the_of k.Target) (pair_of (leaf_of k.TargetPart) (pair_of (the_of k.Equals) (leaf_of k.Str) refl) refl) refl

  abbrev named_part : ℕ × (Unit {0} × (Unit {0} × TypeBody)) → Step
  named_part = pair (leaf toks k.Local) (pair (λ _. the toks k.Equals) (pair (λ _. the toks k.TypeWord) (type_body toks)))

  abbrev named_of : Known toks false named_part
  named_of = pair_of (leaf_of k.Local) (pair_of (the_of k.Equals) (pair_of (the_of k.TypeWord) (type_body_of toks) refl) refl) refl

  abbrev group_part : Unit {0} × (ℕ × (Unit {0} × (Unit {0} × (List Gattr × Unit {0})))) → Step
  group_part = pair (λ _. the toks k.Attributes)
      (pair (leaf toks k.Group) (pair (λ _. the toks k.Equals) (pair (λ _. the toks k.LeftBrace) (pair (many (gattr toks)) (λ _. the toks k.RightBrace)))))

  abbrev group_of : Known toks false group_part
  group_of = pair_of (the_of k.Attributes)
      (pair_of (leaf_of k.Group) (pair_of (the_of k.Equals) (pair_of (the_of k.LeftBrace) (pair_of (many_of (gattr_of toks) refl) (the_of k.RightBrace) refl)
      refl) refl) refl) refl

  abbrev global_part : GlobalVar → Step
  global_part = global_var toks

  abbrev global_of : Known toks false global_part
  global_of = global_var_of toks

  abbrev declared_part : Declare → Step
  declared_part = declare toks

  abbrev declared_of : Known toks false declared_part
  declared_of = declare_of toks

  abbrev defined_part : Define → Step
  defined_part = define toks

  abbrev defined_of : Known toks false defined_part
  defined_of = define_of toks

  -- this one, or one behind it in the list
  abbrev from_declared : Declare ⊎ Define → Step
  from_declared = choice declared_part defined_part

  abbrev from_declared_of : Known toks false from_declared
  from_declared_of = choice_of declared_of defined_of refl

  abbrev from_global : GlobalVar ⊎ (Declare ⊎ Define) → Step
  from_global = choice global_part from_declared

  abbrev from_global_of : Known toks false from_global
  from_global_of = choice_of global_of from_declared_of refl

  abbrev from_group : (Unit {0} × (ℕ × (Unit {0} × (Unit {0} × (List Gattr × Unit {0}))))) ⊎ (GlobalVar ⊎ (Declare ⊎ Define)) → Step
  from_group = choice group_part from_global

  abbrev from_group_of : Known toks false from_group
  from_group_of = choice_of group_of from_global_of refl

  abbrev from_named : (ℕ × (Unit {0} × (Unit {0} × TypeBody))) ⊎ ((Unit {0} ×
      (ℕ × (Unit {0} × (Unit {0} × (List Gattr × Unit {0}))))) ⊎ (GlobalVar ⊎ (Declare ⊎ Define))) → Step
  from_named = choice named_part from_group

  abbrev from_named_of : Known toks false from_named
  from_named_of = choice_of named_of from_group_of refl

  abbrev from_target : (Unit {0} ×
      (ℕ × (Unit {0} × ℕ))) ⊎ ((ℕ × (Unit {0} × (Unit {0} × TypeBody))) ⊎ ((Unit {0} ×
      (ℕ × (Unit {0} × (Unit {0} × (List Gattr × Unit {0}))))) ⊎ (GlobalVar ⊎ (Declare ⊎ Define)))) → Step
  from_target = choice target_part from_named

  abbrev from_target_of : Known toks false from_target
  from_target_of = choice_of target_of from_named_of refl

  abbrev from_filename : (Unit {0} ×
      (Unit {0} × ℕ)) ⊎ ((Unit {0} × (ℕ × (Unit {0} × ℕ))) ⊎ ((ℕ ×
      (Unit {0} × (Unit {0} × TypeBody))) ⊎ ((Unit {0} × (ℕ × (Unit {0} × (Unit {0} × (List Gattr × Unit {0}))))) ⊎ (GlobalVar ⊎ (Declare ⊎ Define))))) → Step
  from_filename = choice filename_part from_target

  abbrev from_filename_of : Known toks false from_filename
  from_filename_of = choice_of filename_of from_target_of refl

  module _ (a : ℕ) where
    is : (x : EntityShape) → entity toks (entity_back x) a ≡ entity_shape toks x a
    is (inl x) = refl
    is (inr (inl x)) = refl
    is (inr (inr (inl x))) = refl
    is (inr (inr (inr (inl x)))) = refl
    is (inr (inr (inr (inr (inl x))))) = refl
    is (inr (inr (inr (inr (inr (inl x)))))) = refl
    is (inr (inr (inr (inr (inr (inr (inl x))))))) = refl
    is (inr (inr (inr (inr (inr (inr (inr x))))))) = refl

    by_shape : (r : Option (EntityShape × ℕ)) → Longest (entity_shape toks) a r → Longest (entity toks) a (turned entity_back r)
    by_shape r l = shaped (entity toks) (entity_shape toks) a entity_back (λ t b e. entity_view toks t a b e) is r l

    -- only an opaque one begins with its token
    opaque_shape : At toks (firsts (k.Opaque ∷ [])) a → (r : Option ((ℕ) × ℕ)) → Longest opaque_part a r → Longest (entity_shape toks) a (turned inl r)
    opaque_shape h r l = choice_left opaque_part from_filename a r l (not_begun (from_filename_of.at a) (firsts (k.Opaque ∷ [])) refl h)

    -- only a filename one begins with its token
    filename_shape : At toks (firsts (k.SourceFilename ∷ [])) a → (r : Option ((Unit {0} × (Unit {0} × ℕ)) × ℕ)) → Longest filename_part a r →
        Longest (entity_shape toks) a (turned inr (turned inl r))
    filename_shape h r l = choice_right opaque_part from_filename a (turned inl r) (not_begun (opaque_of.at a) (firsts (k.SourceFilename ∷ [])) refl h)
        (choice_left filename_part from_target a r l (not_begun (from_target_of.at a) (firsts (k.SourceFilename ∷ [])) refl h))

    -- only a target one begins with its token
    target_shape : At toks (firsts (k.Target ∷ [])) a → (r : Option ((Unit {0} × (ℕ × (Unit {0} × ℕ))) × ℕ)) → Longest target_part a r →
        Longest (entity_shape toks) a (turned inr (turned inr (turned inl r)))
    target_shape h r l = choice_right opaque_part from_filename a (turned inr (turned inl r)) (not_begun (opaque_of.at a) (firsts (k.Target ∷ [])) refl h)
        (choice_right filename_part from_target a (turned inl r) (not_begun (filename_of.at a) (firsts (k.Target ∷ [])) refl h)
        (choice_left target_part from_named a r l (not_begun (from_named_of.at a) (firsts (k.Target ∷ [])) refl h)))

    -- only a named one begins with its token
    named_shape : At toks (firsts (k.Local ∷ [])) a → (r : Option ((ℕ × (Unit {0} × (Unit {0} × TypeBody))) × ℕ)) → Longest named_part a r →
        Longest (entity_shape toks) a (turned inr (turned inr (turned inr (turned inl r))))
    named_shape h r l = choice_right opaque_part from_filename a (turned inr (turned inr (turned inl r)))
        (not_begun (opaque_of.at a) (firsts (k.Local ∷ [])) refl h) (choice_right filename_part from_target a (turned inr (turned inl r))
        (not_begun (filename_of.at a) (firsts (k.Local ∷ [])) refl h) (choice_right target_part from_named a (turned inl r)
        (not_begun (target_of.at a) (firsts (k.Local ∷ [])) refl h)
        (choice_left named_part from_group a r l (not_begun (from_group_of.at a) (firsts (k.Local ∷ [])) refl h))))

    -- only a group one begins with its token
    group_shape : At toks (firsts (k.Attributes ∷ [])) a → (r : Option ((Unit {0} × (ℕ × (Unit {0} × (Unit {0} × (List Gattr × Unit {0}))))) × ℕ)) →
        Longest group_part a r → Longest (entity_shape toks) a (turned inr (turned inr (turned inr (turned inr (turned inl r)))))
    group_shape h r l = choice_right opaque_part from_filename a (turned inr (turned inr (turned inr (turned inl r))))
        (not_begun (opaque_of.at a) (firsts (k.Attributes ∷ [])) refl h) (choice_right filename_part from_target a (turned inr (turned inr (turned inl r)))
        (not_begun (filename_of.at a) (firsts (k.Attributes ∷ [])) refl h) (choice_right target_part from_named a (turned inr (turned inl r))
        (not_begun (target_of.at a) (firsts (k.Attributes ∷ [])) refl h)
        (choice_right named_part from_group a (turned inl r) (not_begun (named_of.at a) (firsts (k.Attributes ∷ [])) refl h)
        (choice_left group_part from_global a r l (not_begun (from_global_of.at a) (firsts (k.Attributes ∷ [])) refl h)))))

    -- only a global one begins with its token
    global_shape : At toks (firsts (k.Global ∷ [])) a → (r : Option ((GlobalVar) × ℕ)) → Longest global_part a r →
        Longest (entity_shape toks) a (turned inr (turned inr (turned inr (turned inr (turned inr (turned inl r))))))
    global_shape h r l = choice_right opaque_part from_filename a (turned inr (turned inr (turned inr (turned inr (turned inl r)))))
        (not_begun (opaque_of.at a) (firsts (k.Global ∷ [])) refl h)
        (choice_right filename_part from_target a (turned inr (turned inr (turned inr (turned inl r)))) (not_begun (filename_of.at a) (firsts (k.Global ∷ []))
        refl h) (choice_right target_part from_named a (turned inr (turned inr (turned inl r))) (not_begun (target_of.at a) (firsts (k.Global ∷ [])) refl h)
        (choice_right named_part from_group a (turned inr (turned inl r)) (not_begun (named_of.at a) (firsts (k.Global ∷ [])) refl h)
        (choice_right group_part from_global a (turned inl r) (not_begun (group_of.at a) (firsts (k.Global ∷ [])) refl h)
        (choice_left global_part from_declared a r l (not_begun (from_declared_of.at a) (firsts (k.Global ∷ [])) refl h))))))

    -- only a declared one begins with its token
    declared_shape : At toks (firsts (k.Declare ∷ [])) a → (r : Option ((Declare) × ℕ)) → Longest declared_part a r →
        Longest (entity_shape toks) a (turned inr (turned inr (turned inr (turned inr (turned inr (turned inr (turned inl r)))))))
    declared_shape h r l = choice_right opaque_part from_filename a (turned inr (turned inr (turned inr (turned inr (turned inr (turned inl r))))))
        (not_begun (opaque_of.at a) (firsts (k.Declare ∷ [])) refl h)
        (choice_right filename_part from_target a (turned inr (turned inr (turned inr (turned inr (turned inl r)))))
        (not_begun (filename_of.at a) (firsts (k.Declare ∷ [])) refl h)
        (choice_right target_part from_named a (turned inr (turned inr (turned inr (turned inl r)))) (not_begun (target_of.at a) (firsts (k.Declare ∷ [])) refl
        h) (choice_right named_part from_group a (turned inr (turned inr (turned inl r))) (not_begun (named_of.at a) (firsts (k.Declare ∷ [])) refl h)
        (choice_right group_part from_global a (turned inr (turned inl r)) (not_begun (group_of.at a) (firsts (k.Declare ∷ [])) refl h)
        (choice_right global_part from_declared a (turned inl r) (not_begun (global_of.at a) (firsts (k.Declare ∷ [])) refl h)
        (choice_left declared_part defined_part a r l (not_begun (defined_of.at a) (firsts (k.Declare ∷ [])) refl h)))))))

    -- only a defined one begins with its token
    defined_shape : At toks (firsts (k.Define ∷ [])) a → (r : Option ((Define) × ℕ)) → Longest defined_part a r →
        Longest (entity_shape toks) a (turned inr (turned inr (turned inr (turned inr (turned inr (turned inr (turned inr r)))))))
    defined_shape h r l = choice_right opaque_part from_filename a (turned inr (turned inr (turned inr (turned inr (turned inr (turned inr r))))))
        (not_begun (opaque_of.at a) (firsts (k.Define ∷ [])) refl h)
        (choice_right filename_part from_target a (turned inr (turned inr (turned inr (turned inr (turned inr r)))))
        (not_begun (filename_of.at a) (firsts (k.Define ∷ [])) refl h)
        (choice_right target_part from_named a (turned inr (turned inr (turned inr (turned inr r)))) (not_begun (target_of.at a) (firsts (k.Define ∷ [])) refl
        h) (choice_right named_part from_group a (turned inr (turned inr (turned inr r))) (not_begun (named_of.at a) (firsts (k.Define ∷ [])) refl h)
        (choice_right group_part from_global a (turned inr (turned inr r)) (not_begun (group_of.at a) (firsts (k.Define ∷ [])) refl h)
        (choice_right global_part from_declared a (turned inr r) (not_begun (global_of.at a) (firsts (k.Define ∷ [])) refl h)
        (choice_right declared_part defined_part a r (not_begun (declared_of.at a) (firsts (k.Define ∷ [])) refl h) (l)))))))

  -- ---- none of the last three, without its first token
  no_global : (a : ℕ) → None ≡ the toks k.Global a → Longest (global_var toks) a None
  no_global a n = λ x c e. let s = split (leaf toks k.Global x.name a) _ c e in leaf_none toks k.Global a n x.name s.0 s.1.0

  no_declare : (a : ℕ) → None ≡ the toks k.Declare a → Longest (declare toks) a None
  no_declare a n = λ x c e. let s = split (leaf toks k.Declare x.word a) _ c e in leaf_none toks k.Declare a n x.word s.0 s.1.0

  no_define : (a : ℕ) → None ≡ the toks k.Define a → Longest (define toks) a None
  no_define a n = λ x c e. let s = split (leaf toks k.Define x.word a) _ c e in leaf_none toks k.Define a n x.word s.0 s.1.0

  -- ---- `source_filename`
  module _ (a b : ℕ) (h : Some b ≡ the toks k.SourceFilename a) where
    filename_by : (r : Option ((Unit {0} × ℕ) × ℕ)) → Longest (pair (λ _. the toks k.Equals) (leaf toks k.Str)) b r →
        Longest (entity toks) a (turned (λ x. entity_is.SourceFilename x.1) r)
    filename_by None l = by_shape a None (filename_shape a (seen toks k.SourceFilename a b h) None
        (pair_by (the_of k.SourceFilename) (pair_of (the_of k.Equals) (leaf_of k.Str) refl) refl a b tt (the_some toks k.SourceFilename a b h) None l))
    filename_by (Some x) l = by_shape a (Some (inr (inl (tt, x.0)), x.1)) (filename_shape a (seen toks k.SourceFilename a b h) (Some (
      (tt, x.0),
      x.1,
    )) (pair_by (the_of k.SourceFilename) (pair_of (the_of k.Equals) (leaf_of k.Str) refl) refl a b tt (the_some toks k.SourceFilename a b h) (Some x)
        l))

    pub filename_no_equals : None ≡ the toks k.Equals b → Longest (entity toks) a None
    filename_no_equals n = filename_by None (pair_stop (the_of k.Equals) (leaf_of k.Str) b (the_none toks k.Equals b n))

    module _ (c : ℕ) (h' : Some c ≡ the toks k.Equals b) where
      pub filename_no_name : None ≡ the toks k.Str c → Longest (entity toks) a None
      filename_no_name n = filename_by None (pair_none (the_of k.Equals) (leaf_of k.Str) refl b c tt (the_some toks k.Equals b c h') (leaf_none toks k.Str c n))

      pub filename_ends : (d : ℕ) → Some d ≡ the toks k.Str c → Longest (entity toks) a (Some (entity_is.SourceFilename c, d))
      filename_ends d h'' = filename_by (Some (
        (tt, c),
        d,
      )) (pair_some (the_of k.Equals) (leaf_of k.Str) refl b c d tt c (the_some toks k.Equals b c h') (leaf_some toks k.Str c d h''))

  -- ---- `target`
  abbrev target_text : Unit {0} × ℕ → Step
  target_text = pair (λ _. the toks k.Equals) (leaf toks k.Str)

  abbrev target_text_of : Known toks false target_text
  target_text_of = pair_of (the_of k.Equals) (leaf_of k.Str) refl

  module _ (a b : ℕ) (h : Some b ≡ the toks k.Target a) where
    target_by : (r : Option ((ℕ × (Unit {0} × ℕ)) × ℕ)) → Longest (pair (leaf toks k.TargetPart) target_text) b r →
        Longest (entity toks) a (turned (λ x. entity_is.Target x.0 x.1.1) r)
    target_by None l = by_shape a None
        (target_shape a (seen toks k.Target a b h) None (pair_by (the_of k.Target) (pair_of (leaf_of k.TargetPart) target_text_of refl) refl a b tt
        (the_some toks k.Target a b h) None l))
    target_by (Some x) l = by_shape a (Some (inr (inr (inl (tt, x.0))), x.1)) (target_shape a (seen toks k.Target a b h) (Some (
      (tt, x.0),
      x.1,
    )) (pair_by (the_of k.Target) (pair_of (leaf_of k.TargetPart) target_text_of refl) refl a b tt (the_some toks k.Target a b h) (Some x) l))

    pub target_no_part : None ≡ the toks k.TargetPart b → Longest (entity toks) a None
    target_no_part n = target_by None (pair_stop (leaf_of k.TargetPart) target_text_of b (leaf_none toks k.TargetPart b n))

    module _ (c : ℕ) (h' : Some c ≡ the toks k.TargetPart b) where
      target_rest : (r : Option ((Unit {0} × ℕ) × ℕ)) → Longest target_text c r → Longest (pair (leaf toks k.TargetPart) target_text) b (turned (λ x. (b, x)) r)
      target_rest r l = pair_by (leaf_of k.TargetPart) target_text_of refl b c b (leaf_some toks k.TargetPart b c h') r l

      pub target_no_equals : None ≡ the toks k.Equals c → Longest (entity toks) a None
      target_no_equals n = target_by None (target_rest None (pair_stop (the_of k.Equals) (leaf_of k.Str) c (the_none toks k.Equals c n)))

      module _ (d : ℕ) (h'' : Some d ≡ the toks k.Equals c) where
        pub target_no_text : None ≡ the toks k.Str d → Longest (entity toks) a None
        target_no_text n = target_by None (target_rest None (pair_none (the_of k.Equals) (leaf_of k.Str) refl c d tt (the_some toks k.Equals c d h'')
            (leaf_none toks k.Str d n)))

        pub target_ends : (e : ℕ) → Some e ≡ the toks k.Str d → Longest (entity toks) a (Some (entity_is.Target b d, e))
        target_ends e h''' = target_by (Some (
          (b, (tt, d)),
          e,
        )) (target_rest (Some (
          (tt, d),
          e,
        )) (pair_some (the_of k.Equals) (leaf_of k.Str) refl c d e tt d (the_some toks k.Equals c d h'') (leaf_some toks k.Str d e h''')))

  -- ---- types with names
  type_by : (a : ℕ) (r : Option ((Ty ⊎ ℕ) × ℕ)) → Longest (type_body_shape toks) a r → Longest (type_body toks) a (turned type_body_back r)
  type_by a r l = shaped (type_body toks) (type_body_shape toks) a type_body_back (λ t b e. type_body_view toks t a b e) same r l
    where
      same : (x : Ty ⊎ ℕ) → type_body toks (type_body_back x) a ≡ type_body_shape toks x a
      same (inl t) = refl
      same (inr at) = refl

  pub opaque_type : (a b : ℕ) → Some b ≡ the toks k.OpaqueWord a → Longest (type_body toks) a (Some (body_is.Opaque a, b))
  opaque_type a b h = type_by a (Some (inr a, b)) (choice_right (ty toks) (leaf toks k.OpaqueWord) a (Some (
    a,
    b,
  )) (not_begun ((ty_of toks).at a) (firsts (k.OpaqueWord ∷ [])) refl (seen toks k.OpaqueWord a b h)) (leaf_some toks k.OpaqueWord a b h))

  pub written_type : (a : ℕ) → None ≡ the toks k.OpaqueWord a → (r : Option (Ty × ℕ)) → Longest (ty toks) a r → Longest (type_body toks) a (turned body_is.Ty r)
  written_type a n None l = type_by a None (choice_left (ty toks) (leaf toks k.OpaqueWord) a None l (leaf_none toks k.OpaqueWord a n))
  written_type a n (Some x) l = type_by a (Some (inl x.0, x.1)) (choice_left (ty toks) (leaf toks k.OpaqueWord) a (Some x) l (leaf_none toks k.OpaqueWord a n))

  abbrev word_part : Unit {0} × TypeBody → Step
  word_part = pair (λ _. the toks k.TypeWord) (type_body toks)

  abbrev word_of : Known toks false word_part
  word_of = pair_of (the_of k.TypeWord) (type_body_of toks) refl

  module _ (a b : ℕ) (h : Some b ≡ the toks k.Local a) where
    named_by : (r : Option ((Unit {0} × (Unit {0} × TypeBody)) × ℕ)) → Longest (pair (λ _. the toks k.Equals) word_part) b r →
        Longest (entity toks) a (turned (λ x. entity_is.Named a x.1.1) r)
    named_by None l = by_shape a None (named_shape a (seen toks k.Local a b h) None (pair_by (leaf_of k.Local) (pair_of (the_of k.Equals) word_of refl) refl a b
        a (leaf_some toks k.Local a b h) None l))
    named_by (Some x) l = by_shape a (Some (inr (inr (inr (inl (a, x.0)))), x.1)) (named_shape a (seen toks k.Local a b h) (Some (
      (a, x.0),
      x.1,
    )) (pair_by (leaf_of k.Local) (pair_of (the_of k.Equals) word_of refl) refl a b a (leaf_some toks k.Local a b h) (Some x) l))

    pub named_no_equals : None ≡ the toks k.Equals b → Longest (entity toks) a None
    named_no_equals n = named_by None (pair_stop (the_of k.Equals) word_of b (the_none toks k.Equals b n))

    module _ (c : ℕ) (h' : Some c ≡ the toks k.Equals b) where
      pub named_no_word : None ≡ the toks k.TypeWord c → Longest (entity toks) a None
      named_no_word n = named_by None (pair_none (the_of k.Equals) word_of refl b c tt (the_some toks k.Equals b c h')
          (pair_stop (the_of k.TypeWord) (type_body_of toks) c (the_none toks k.TypeWord c n)))

      module _ (d : ℕ) (h'' : Some d ≡ the toks k.TypeWord c) where
        pub named_type : (r : Option (TypeBody × ℕ)) → Longest (type_body toks) d r → Longest (entity toks) a (turned (λ t. entity_is.Named a t) r)
        named_type None l = named_by None (pair_none (the_of k.Equals) word_of refl b c tt (the_some toks k.Equals b c h')
            (pair_none (the_of k.TypeWord) (type_body_of toks) refl c d tt (the_some toks k.TypeWord c d h'') l))
        named_type (Some x) l = named_by (Some ((tt, (tt, x.0)), x.1)) (pair_some (the_of k.Equals) word_of refl b c x.1 tt (
          tt,
          x.0,
        ) (the_some toks k.Equals b c h') (pair_some (the_of k.TypeWord) (type_body_of toks) refl c d x.1 tt x.0 (the_some toks k.TypeWord c d h'') l))

  -- ---- groups of attributes
  abbrev words_part : List Gattr × Unit {0} → Step
  words_part = pair (many (gattr toks)) (λ _. the toks k.RightBrace)

  abbrev words_of : Known toks false words_part
  words_of = pair_of (many_of (gattr_of toks) refl) (the_of k.RightBrace) refl

  abbrev brace_part : Unit {0} × (List Gattr × Unit {0}) → Step
  brace_part = pair (λ _. the toks k.LeftBrace) words_part

  abbrev brace_of : Known toks false brace_part
  brace_of = pair_of (the_of k.LeftBrace) words_of refl

  abbrev equals_part : Unit {0} × (Unit {0} × (List Gattr × Unit {0})) → Step
  equals_part = pair (λ _. the toks k.Equals) brace_part

  abbrev equals_of : Known toks false equals_part
  equals_of = pair_of (the_of k.Equals) brace_of refl

  module _ (a b : ℕ) (h : Some b ≡ the toks k.Attributes a) where
    group_by : (r : Option ((ℕ × (Unit {0} × (Unit {0} × (List Gattr × Unit {0})))) × ℕ)) → Longest (pair (leaf toks k.Group) equals_part) b r →
        Longest (entity toks) a (turned (λ x. entity_is.Attributes x.0 x.1.1.1.0) r)
    group_by None l = by_shape a None
        (group_shape a (seen toks k.Attributes a b h) None (pair_by (the_of k.Attributes) (pair_of (leaf_of k.Group) equals_of refl) refl a b tt
        (the_some toks k.Attributes a b h) None l))
    group_by (Some x) l = by_shape a (Some (inr (inr (inr (inr (inl (tt, x.0))))), x.1)) (group_shape a (seen toks k.Attributes a b h) (Some (
      (tt, x.0),
      x.1,
    )) (pair_by (the_of k.Attributes) (pair_of (leaf_of k.Group) equals_of refl) refl a b tt (the_some toks k.Attributes a b h) (Some x) l))

    pub group_no_number : None ≡ the toks k.Group b → Longest (entity toks) a None
    group_no_number n = group_by None (pair_stop (leaf_of k.Group) equals_of b (leaf_none toks k.Group b n))

    module _ (c : ℕ) (h' : Some c ≡ the toks k.Group b) where
      group_rest : (r : Option ((Unit {0} × (Unit {0} × (List Gattr × Unit {0}))) × ℕ)) → Longest equals_part c r →
          Longest (entity toks) a (turned (λ x. entity_is.Attributes b x.1.1.0) r)
      group_rest None l = group_by None (pair_by (leaf_of k.Group) equals_of refl b c b (leaf_some toks k.Group b c h') None l)
      group_rest (Some x) l = group_by (Some ((b, x.0), x.1)) (pair_by (leaf_of k.Group) equals_of refl b c b (leaf_some toks k.Group b c h') (Some x) l)

      pub group_no_equals : None ≡ the toks k.Equals c → Longest (entity toks) a None
      group_no_equals n = group_rest None (pair_stop (the_of k.Equals) brace_of c (the_none toks k.Equals c n))

      module _ (d : ℕ) (h'' : Some d ≡ the toks k.Equals c) where
        pub group_no_brace : None ≡ the toks k.LeftBrace d → Longest (entity toks) a None
        group_no_brace n = group_rest None (pair_none (the_of k.Equals) brace_of refl c d tt (the_some toks k.Equals c d h'')
            (pair_stop (the_of k.LeftBrace) words_of d (the_none toks k.LeftBrace d n)))

        module _ (e f : ℕ) (h''' : Some e ≡ the toks k.LeftBrace d) (all : List Gattr) (l : Longest (many (gattr toks)) e (Some (all, f))) where
          pub group_no_close : None ≡ the toks k.RightBrace f → Longest (entity toks) a None
          group_no_close n = group_rest None (pair_none (the_of k.Equals) brace_of refl c d tt (the_some toks k.Equals c d h'')
              (pair_none (the_of k.LeftBrace) words_of refl d e tt (the_some toks k.LeftBrace d e h''')
              (pair_none (many_of (gattr_of toks) refl) (the_of k.RightBrace) refl e f all l (the_none toks k.RightBrace f n))))

          pub group_ends : (g : ℕ) → Some g ≡ the toks k.RightBrace f → Longest (entity toks) a (Some (entity_is.Attributes b all, g))
          group_ends g i = group_rest (Some ((tt, (tt, (all, tt))), g)) (pair_some (the_of k.Equals) brace_of refl c d g tt (
            tt,
            (all, tt),
          ) (the_some toks k.Equals c d h'') (pair_some (the_of k.LeftBrace) words_of refl d e g tt (
            all,
            tt,
          ) (the_some toks k.LeftBrace d e h''') (pair_some (many_of (gattr_of toks) refl) (the_of k.RightBrace) refl e f g all tt l
              (the_some toks k.RightBrace f g i))))

  -- ---- global variables
  pub global_by : (a b : ℕ) → Some b ≡ the toks k.Global a → (r : Option (GlobalVar × ℕ)) → Longest (global_var toks) a r →
      Longest (entity toks) a (turned entity_is.GlobalVar r)
  global_by a b h None l = by_shape a None (global_shape a (seen toks k.Global a b h) None l)
  global_by a b h (Some x) l = by_shape a (Some (inr (inr (inr (inr (inr (inl x.0))))), x.1)) (global_shape a (seen toks k.Global a b h) (Some x) l)

  -- ---- declarations
  abbrev declare_back : ℕ × (List Attach × Header) → Declare
  declare_back x = record { word = x.0; attached = x.1.0; header = x.1.1 }

  abbrev attached_part : List Attach × Header → Step
  attached_part = pair (many (attach toks)) (header toks)

  abbrev attached_of : Known toks false attached_part
  attached_of = pair_of (many_of (attach_of toks) refl) (header_of toks) refl

  module _ (a b : ℕ) (h : Some b ≡ the toks k.Declare a) (c : ℕ) (all : List Attach) (l : Longest (many (attach toks)) b (Some (all, c))) where
    declared_by : (r : Option (Header × ℕ)) → Longest (header toks) c r → Longest (pair (leaf toks k.Declare) attached_part) a (turned (λ x. (a, (all, x))) r)
    declared_by None g = pair_by (leaf_of k.Declare) attached_of refl a b a (leaf_some toks k.Declare a b h) None
        (pair_by (many_of (attach_of toks) refl) (header_of toks) refl b c all l None g)
    declared_by (Some x) g = pair_by (leaf_of k.Declare) attached_of refl a b a (leaf_some toks k.Declare a b h) (Some (
      (all, x.0),
      x.1,
    )) (pair_by (many_of (attach_of toks) refl) (header_of toks) refl b c all l (Some x) g)

    declared_as : (r : Option ((ℕ × (List Attach × Header)) × ℕ)) → Longest (pair (leaf toks k.Declare) attached_part) a r →
        Longest (declare toks) a (turned declare_back r)
    declared_as r g = shaped (declare toks) (pair (leaf toks k.Declare) attached_part) a declare_back (λ t b e. (
      (t.word, (t.attached, t.header)),
      (refl, e),
    )) (λ x. refl) r g

    pub declare_by : (r : Option (Header × ℕ)) → Longest (header toks) c r →
        Longest (entity toks) a (turned (λ x. entity_is.Declare (record { word = a; attached = all; header = x })) r)
    declare_by None g = by_shape a None (declared_shape a (seen toks k.Declare a b h) None (declared_as None (declared_by None g)))
    declare_by (Some x) g = by_shape a (Some (
      inr (inr (inr (inr (inr (inr (inl (declare_back (a, (all, x.0))))))))),
      x.1,
    )) (declared_shape a (seen toks k.Declare a b h) (Some (
      declare_back (a, (all, x.0)),
      x.1,
    )) (declared_as (Some ((a, (all, x.0)), x.1)) (declared_by (Some x) g)))

  -- ---- the body of a definition
  abbrev closed_part : Body × ℕ → Step
  closed_part = pair (body toks) (leaf toks k.RightBrace)

  abbrev closed_of : Known toks false closed_part
  closed_of = pair_of (body_of toks) (leaf_of k.RightBrace) refl

  abbrev braced_shape : Unit {0} × (Body × ℕ) → Step
  braced_shape = pair (λ _. the toks k.LeftBrace) closed_part

  abbrev braced_back : Unit {0} × (Body × ℕ) → Body × ℕ
  braced_back x = x.1

  braced_view : (t : Body × ℕ) (a b : ℕ) → braced toks t a ≡ Some b → (x : Unit {0} × (Body × ℕ)) × ((braced_back x ≡ t) × (braced_shape x a ≡ Some b))
  braced_view t a b e = ((tt, t), (refl, e))

  abbrev braced_of : Known toks false (braced toks)
  braced_of = shape_of braced_back braced_view (pair_of (the_of k.LeftBrace) closed_of refl)

  pub braced_no_open : (a : ℕ) → None ≡ the toks k.LeftBrace a → Longest (braced toks) a None
  braced_no_open a n =
      shape_none (braced toks) braced_back braced_view (λ x a b e. e) (pair_stop (the_of k.LeftBrace) closed_of a (the_none toks k.LeftBrace a n))

  module _ (a b : ℕ) (h : Some b ≡ the toks k.LeftBrace a) where
    -- no body in braces is where none fits behind the opening brace
    closed_rest : Longest closed_part b None → Longest (braced toks) a None
    closed_rest n =
        shape_none (braced toks) braced_back braced_view (λ x a b e. e)
        (pair_none (the_of k.LeftBrace) closed_of refl a b tt (the_some toks k.LeftBrace a b h) n)

    pub braced_no_body : Longest (body toks) b None → Longest (braced toks) a None
    braced_no_body n = closed_rest (pair_stop (body_of toks) (leaf_of k.RightBrace) b n)

    module _ (c : ℕ) (inner : Body) (l : Longest (body toks) b (Some (inner, c))) where
      pub braced_no_close : None ≡ the toks k.RightBrace c → Longest (braced toks) a None
      braced_no_close n = closed_rest (pair_none (body_of toks) (leaf_of k.RightBrace) refl b c inner l (leaf_none toks k.RightBrace c n))

      pub braced_ends : (d : ℕ) → Some d ≡ the toks k.RightBrace c → Longest (braced toks) a (Some ((inner, c), d))
      braced_ends d e =
          shape_some (braced toks) braced_back braced_view (λ x a b e. e) {x = (tt, (inner, c))}
          (pair_some (the_of k.LeftBrace) closed_of refl a b d tt (inner, c) (the_some toks k.LeftBrace a b h)
          (pair_some (body_of toks) (leaf_of k.RightBrace) refl b c d inner c l (leaf_some toks k.RightBrace c d e)))

  -- ---- definitions
  abbrev define_back : ℕ × (Header × (Body × ℕ)) → Define
  define_back x = record { word = x.0; header = x.1.0; body = x.1.1.0; close = x.1.1.1 }

  abbrev headed_part : Header × (Body × ℕ) → Step
  headed_part = pair (header toks) (braced toks)

  abbrev headed_of : Known toks false headed_part
  headed_of = pair_of (header_of toks) braced_of refl

  module _ (a b : ℕ) (h : Some b ≡ the toks k.Define a) where
    defined_as : (r : Option ((ℕ × (Header × (Body × ℕ))) × ℕ)) → Longest (pair (leaf toks k.Define) headed_part) a r
        → Longest (define toks) a (turned define_back r)
    defined_as r g =
        shaped (define toks) (pair (leaf toks k.Define) headed_part) a define_back (λ t b e. ((t.word, (t.header, (t.body, t.close))), (refl, e))) (λ x. refl)
        r g

    define_by : (r : Option ((Header × (Body × ℕ)) × ℕ)) → Longest headed_part b r
        → Longest (entity toks) a (turned (λ x. entity_is.Define (define_back (a, x))) r)
    define_by None g = by_shape a None
        (defined_shape a (seen toks k.Define a b h) None
        (defined_as None (pair_by (leaf_of k.Define) headed_of refl a b a (leaf_some toks k.Define a b h) None g)))
    define_by (Some x) g = by_shape a (Some (
      inr (inr (inr (inr (inr (inr (inr (define_back (a, x.0)))))))),
      x.1,
    )) (defined_shape a (seen toks k.Define a b h) (Some (
      define_back (a, x.0),
      x.1,
    )) (defined_as (Some ((a, x.0), x.1)) (pair_by (leaf_of k.Define) headed_of refl a b a (leaf_some toks k.Define a b h) (Some x) g)))

    pub define_no_header : Longest (header toks) b None → Longest (entity toks) a None
    define_no_header n = define_by None (pair_stop (header_of toks) braced_of b n)

    module _ (c : ℕ) (top : Header) (l : Longest (header toks) b (Some (top, c))) where
      pub define_no_body : Longest (braced toks) c None → Longest (entity toks) a None
      define_no_body n = define_by None (pair_by (header_of toks) braced_of refl b c top l None n)

      pub define_ends : (inside : Body × ℕ) (d : ℕ) → Longest (braced toks) c (Some (inside, d))
          → Longest (entity toks) a (Some (entity_is.Define (record { word = a; header = top; body = inside.0; close = inside.1 }), d))
      define_ends inside d m = define_by (Some ((top, inside), d)) (pair_by (header_of toks) braced_of refl b c top l (Some (inside, d)) m)

  -- ---- a line of directives, and no entity
  pub opaque_line : (a b : ℕ) → Some b ≡ the toks k.Opaque a → Longest (entity toks) a (Some (entity_is.Opaque a, b))
  opaque_line a b h = by_shape a (Some (inl a, b)) (opaque_shape a (seen toks k.Opaque a b h) (Some (a, b)) (leaf_some toks k.Opaque a b h))

  pub no_entity : (a : ℕ) → None ≡ the toks k.Opaque a → None ≡ the toks k.SourceFilename a → None ≡ the toks k.Target a → None ≡ the toks k.Local a →
      None ≡ the toks k.Attributes a → None ≡ the toks k.Global a → None ≡ the toks k.Declare a → None ≡ the toks k.Define a → Longest (entity toks) a None
  no_entity a o s t n g v c d =
      by_shape a None (choice_none opaque_part from_filename a (leaf_none toks k.Opaque a o)
      (choice_none filename_part from_target a (pair_stop (the_of k.SourceFilename) (pair_of (the_of k.Equals) (leaf_of k.Str) refl) a
      (the_none toks k.SourceFilename a s))
      (choice_none target_part from_named a (pair_stop (the_of k.Target) (pair_of (leaf_of k.TargetPart) target_text_of refl) a (the_none toks k.Target a t))
      (choice_none named_part from_group a (pair_stop (leaf_of k.Local) (pair_of (the_of k.Equals) word_of refl) a (leaf_none toks k.Local a n))
      (choice_none group_part from_global a (pair_stop (the_of k.Attributes) (pair_of (leaf_of k.Group) equals_of refl) a (the_none toks k.Attributes a g))
      (choice_none global_part from_declared a (no_global a v)
      (choice_none declared_part defined_part a (no_declare a c) (no_define a d))))))))
