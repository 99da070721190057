-- The longest global variable from the longest of its parts.
use Rattle.std.proofs.Common.{◌≡◌, ℕ, suc, Bool, true, false, ◌&&◌, ◌||◌, List, [], ◌∷◌, Option, None, Some, ◌⊎◌, inl, inr, refl, sym, ap, ◌∙◌}
use Rattle.std.specs.Prelude.{slice_get}
use Rattle.std.proofs.lemmas.Option.{none-some}
use Rattle.ir_tree.specs.declared.terminal.Terminal.{Terminal}
use Rattle.ir_tree.specs.declared.terminal.Terminal.TheVariants as k
use Rattle.ir_tree.specs.declared.types.Ty.{Ty}
use Rattle.ir_tree.specs.declared.constants.Const.{Const}
use Rattle.ir_tree.specs.declared.attributes.Comdat.{Comdat}
use Rattle.ir_tree.specs.declared.attributes.Attach.{Attach}
use Rattle.ir_tree.specs.declared.entities.Gtail.{Gtail}
use Rattle.ir_tree.specs.declared.entities.Gtail.TheVariants as gtail_is
use Rattle.ir_tree.specs.declared.entities.GlobalVar.{GlobalVar}
use Rattle.ir_tree.specs.Steps.{Step, ◌⨾◌, is, among, seen, sees, stands, when, unless, the, leaf, many, optional, next, where_not, Longest}
use Rattle.ir_tree.specs.Types.{ty}
use Rattle.ir_tree.specs.Constants.{const}
use Rattle.ir_tree.specs.Attributes.{awords, aword, comdat, attach}
use Rattle.ir_tree.specs.Entities.{gword, gtail, names_next, initial, global_var}
use Rattle.ir_tree.proofs.Clear.{pair, choice, when_true, unless_false}
use Rattle.ir_tree.proofs.Known.{Known, leaf_of, set_of, the_of, pair_of, choice_of, optional_of, many_of, next_of, guarded_of, shape_of}
use Rattle.ir_tree.proofs.ClearTypes.{ty_of}
use Rattle.ir_tree.proofs.ClearConstants.{const_of}
use Rattle.ir_tree.proofs.ClearAttributes.{comdat_of, attach_of}
use Rattle.ir_tree.proofs.ClearEntities.{GtailShape, gtail_back, gtail_shape, gtail_view, gtail_of}
use Rattle.ir_parse_parts.specs.Parts.{any_of}
use Rattle.ir_parse_parts.proofs.Longest.{leaf_some, leaf_none, the_some, the_none, passing_some, passing_none, choice_left, choice_right}
use Rattle.ir_parse_parts.proofs.Longest.{optional_some, optional_none, pair_some, pair_none, pair_stop, shape_some, shape_none}
use Rattle.ir_parse_top.specs.declared.globals.Introduction.{Introduction}
use Rattle.ir_parse_top.specs.declared.globals.Contents.{Contents}
use Rattle.ir_parse_top.specs.Parts.{leaf_pair, introduced, typed, behind_initial}
use Rattle.ir_parse_top.proofs.Steps.{five}

-- ---- words
or_in_turn : (x y z : Bool) → (x || (y || (z || false))) ≡ (((x || false) || (y || false)) || (z || false))
or_in_turn true y z = refl
or_in_turn false true z = refl
or_in_turn false false true = refl
or_in_turn false false false = refl

pub sees_gwords : (toks : List Terminal) (a : ℕ) →
    sees toks (among (k.Hword ∷ k.Unnamed ∷ k.ExternallyInitialized ∷ [])) a ≡ ((stands toks k.Hword a || stands toks k.Unnamed a) || stands toks
    k.ExternallyInitialized a)
unfolding sees
sees_gwords toks a = go (slice_get toks a)
  where
    go : (o : Option Terminal) → seen (among (k.Hword ∷ k.Unnamed ∷ k.ExternallyInitialized ∷ [])) o ≡
        ((seen (among (k.Hword ∷ [])) o || seen (among (k.Unnamed ∷ [])) o) || seen (among (k.ExternallyInitialized ∷ [])) o)
    go None = refl
    go (Some f) = or_in_turn (is k.Hword f) (is k.Unnamed f) (is k.ExternallyInitialized f)

-- ---- a part that may not be taken everywhere
module _ {T : Type 0} (barred : ℕ → Bool) (p : T → Step) (a : ℕ) where
  pub barred_none : true ≡ barred a → Longest (λ t. where_not barred (p t)) a None
  barred_none h = λ u c e. none-some c (ap (λ z. unless z (p u a)) h ∙ e)

  pub free_by : false ≡ barred a → (r : Option (T × ℕ)) → Longest p a r → Longest (λ t. where_not barred (p t)) a r
  free_by h None l = λ u c e. l u c (unless_false (barred a) (p u a) c e).1
  free_by h (Some x) l = (sym (ap (λ z. unless z (p x.0 a)) h) ∙ l.0, λ u c e. l.1 u c (unless_false (barred a) (p u a) c e).1)

module _ (toks : List Terminal) where
  -- ---- whether the name of the next entity stands at a place
  module _ (a : ℕ) where
    pub names_behind : (b : ℕ) → Some b ≡ the toks k.Global a → stands toks k.Equals b ≡ names_next toks a
    unfolding names_next
    names_behind b h =
        let f = when_true (stands toks k.Global a) (suc a) b (sym h) in
        sym (ap (λ z. z && stands toks k.Equals (suc a)) f.0 ∙ ap (stands toks k.Equals) (sym f.1))

    not_when : (x : Bool) (b : ℕ) → None ≡ when x b → x ≡ false
    not_when true b e = cc
    not_when false b e = refl

    pub names_nothing : None ≡ the toks k.Global a → false ≡ names_next toks a
    unfolding names_next
    names_nothing h = sym (ap (λ z. z && stands toks k.Equals (suc a)) (not_when (stands toks k.Global a) (suc a) h))

  -- ---- `[const]`
  abbrev pub initial_of : Known toks false (initial toks)
  initial_of = guarded_of (names_next toks) (const_of toks)

  module _ (a : ℕ) where
    pub initial_named : true ≡ names_next toks a → Longest (optional (initial toks)) a (Some (None, a))
    initial_named h = optional_none (initial toks) a (barred_none (names_next toks) (const toks) a h)

    pub initial_none : false ≡ names_next toks a → Longest (const toks) a None → Longest (optional (initial toks)) a (Some (None, a))
    initial_none h l = optional_none (initial toks) a (free_by (names_next toks) (const toks) a h None l)

    pub initial_some : false ≡ names_next toks a → (value : Const) (n : ℕ) → Longest (const toks) a (Some (value, n)) →
        Longest (optional (initial toks)) a (Some (Some value, n))
    initial_some h value n l = optional_some initial_of a n value (free_by (names_next toks) (const toks) a h (Some (value, n)) l)

  -- ---- `gword`
  abbrev pub gword_of : Known toks false (gword toks)
  gword_of = set_of (k.Hword ∷ k.Unnamed ∷ k.ExternallyInitialized ∷ [])

  module _ (a : ℕ) where
    pub gword_some : (b : ℕ) → Some b ≡ any_of toks (k.Hword ∷ k.Unnamed ∷ k.ExternallyInitialized ∷ []) a → Longest (gword toks) a (Some (a, b))
    gword_some b h = passing_some toks (among (k.Hword ∷ k.Unnamed ∷ k.ExternallyInitialized ∷ [])) a b h

    pub gword_none : None ≡ any_of toks (k.Hword ∷ k.Unnamed ∷ k.ExternallyInitialized ∷ []) a → Longest (gword toks) a None
    gword_none h = passing_none toks (among (k.Hword ∷ k.Unnamed ∷ k.ExternallyInitialized ∷ [])) a h

  -- ---- `gtail`
  abbrev pub next_gtail_of : Known toks false (next toks (gtail toks))
  next_gtail_of = next_of (gtail_of toks)

  gtail_unview : (x : GtailShape) (a b : ℕ) → gtail_shape toks x a ≡ Some b → gtail toks (gtail_back x) a ≡ Some b
  gtail_unview (inl x) a b e = e
  gtail_unview (inr (inl x)) a b e = e
  gtail_unview (inr (inr (inl x))) a b e = e
  gtail_unview (inr (inr (inr (inl x)))) a b e = e
  gtail_unview (inr (inr (inr (inr (inl x))))) a b e = e
  gtail_unview (inr (inr (inr (inr (inr (inl x)))))) a b e = e
  gtail_unview (inr (inr (inr (inr (inr (inr x)))))) a b e = e

  abbrev section_part : Known toks false (leaf_pair toks k.Section k.Str)
  section_part = pair_of (leaf_of k.Section) (leaf_of k.Str) refl

  abbrev partition_part : Known toks false (leaf_pair toks k.Partition k.Str)
  partition_part = pair_of (leaf_of k.Partition) (leaf_of k.Str) refl

  abbrev model_part : Known toks false (leaf_pair toks k.CodeModel k.Str)
  model_part = pair_of (leaf_of k.CodeModel) (leaf_of k.Str) refl

  abbrev align_part : Known toks false (leaf_pair toks k.Align k.Int)
  align_part = pair_of (leaf_of k.Align) (leaf_of k.Int) refl

  abbrev word_part : Known toks false (aword toks)
  word_part = set_of awords

  abbrev from_attach : Known toks false (choice (attach toks) (aword toks))
  from_attach = choice_of (attach_of toks) word_part refl

  abbrev from_comdat : Known toks false (choice (comdat toks) (choice (attach toks) (aword toks)))
  from_comdat = choice_of (comdat_of toks) from_attach refl

  abbrev from_align : Known toks false (choice (leaf_pair toks k.Align k.Int) (choice (comdat toks) (choice (attach toks) (aword toks))))
  from_align = choice_of align_part from_comdat refl

  abbrev from_model : Known toks false
      (choice (leaf_pair toks k.CodeModel k.Str) (choice (leaf_pair toks k.Align k.Int) (choice (comdat toks) (choice (attach toks) (aword toks)))))
  from_model = choice_of model_part from_align refl

  abbrev from_partition : Known toks false
      (choice (leaf_pair toks k.Partition k.Str)
      (choice (leaf_pair toks k.CodeModel k.Str) (choice (leaf_pair toks k.Align k.Int) (choice (comdat toks) (choice (attach toks) (aword toks))))))
  from_partition = choice_of partition_part from_model refl

  module _ (a n : ℕ) where
    gtail_by : (x : GtailShape) → Longest (gtail_shape toks) a (Some (x, n)) → Longest (gtail toks) a (Some (gtail_back x, n))
    gtail_by x l = shape_some (gtail toks) gtail_back (gtail_view toks) gtail_unview {x = x} l

    -- one of the tails behind the section, the partition, the code model and the alignment
    later_by : (x : Comdat ⊎ (Attach ⊎ ℕ)) → Longest (choice (comdat toks) (choice (attach toks) (aword toks))) a (Some (x, n)) →
        Longest (gtail toks) a (Some (gtail_back (inr (inr (inr (inr x)))), n))
    later_by x l =
        gtail_by (inr (inr (inr (inr x))))
        (choice_right section_part from_partition refl a n (inr (inr (inr x))) (choice_right partition_part from_model refl a n (inr (inr x))
        (choice_right model_part from_align refl a n (inr x) (choice_right align_part from_comdat refl a n x l))))

    pub gtail_section : (x : ℕ × ℕ) → Longest (leaf_pair toks k.Section k.Str) a (Some (x, n)) → Longest (gtail toks) a (Some (gtail_is.Section x.0 x.1, n))
    gtail_section x l = gtail_by (inl x) (choice_left section_part from_partition refl a n x l)

    pub gtail_partition : (x : ℕ × ℕ) → Longest (leaf_pair toks k.Partition k.Str) a (Some (x, n)) →
        Longest (gtail toks) a (Some (gtail_is.Partition x.0 x.1, n))
    gtail_partition x l = gtail_by (inr (inl x)) (choice_right section_part from_partition refl a n (inl x)
        (choice_left partition_part from_model refl a n x l))

    pub gtail_model : (x : ℕ × ℕ) → Longest (leaf_pair toks k.CodeModel k.Str) a (Some (x, n)) → Longest (gtail toks) a (Some (gtail_is.CodeModel x.0 x.1, n))
    gtail_model x l = gtail_by (inr (inr (inl x))) (choice_right section_part from_partition refl a n (inr (inl x))
        (choice_right partition_part from_model refl a n (inl x) (choice_left model_part from_align refl a n x l)))

    pub gtail_align : (x : ℕ × ℕ) → Longest (leaf_pair toks k.Align k.Int) a (Some (x, n)) → Longest (gtail toks) a (Some (gtail_is.Align x.0 x.1, n))
    gtail_align x l =
        gtail_by (inr (inr (inr (inl x))))
        (choice_right section_part from_partition refl a n (inr (inr (inl x))) (choice_right partition_part from_model refl a n (inr (inl x))
        (choice_right model_part from_align refl a n (inl x) (choice_left align_part from_comdat refl a n x l))))

    pub gtail_comdat : (x : Comdat) → Longest (comdat toks) a (Some (x, n)) → Longest (gtail toks) a (Some (gtail_is.Comdat x, n))
    gtail_comdat x l = later_by (inl x) (choice_left (comdat_of toks) from_attach refl a n x l)

    pub gtail_attach : (x : Attach) → Longest (attach toks) a (Some (x, n)) → Longest (gtail toks) a (Some (gtail_is.Attach x, n))
    gtail_attach x l = later_by (inr (inl x)) (choice_right (comdat_of toks) from_attach refl a n (inl x) (choice_left (attach_of toks) word_part refl a n x l))

    pub gtail_word : Some n ≡ any_of toks awords a → Longest (gtail toks) a (Some (gtail_is.Word a, n))
    gtail_word h = later_by (inr (inr a)) (choice_right (comdat_of toks) from_attach refl a n (inr a)
        (choice_right (attach_of toks) word_part refl a n a (passing_some toks (among awords) a n h)))

  pub gtail_none : (a : ℕ) → Longest (leaf_pair toks k.Section k.Str) a None → Longest (leaf_pair toks k.Partition k.Str) a None →
      Longest (leaf_pair toks k.CodeModel k.Str) a None → Longest (leaf_pair toks k.Align k.Int) a None → Longest (comdat toks) a None →
      Longest (attach toks) a None → None ≡ any_of toks awords a → Longest (gtail toks) a None
  gtail_none a section partition model align named attached word = go
    where
      go : (u : Gtail) (c : ℕ) → gtail toks u a ≡ Some c → ⊥
      go (gtail_is.Section at name) c e = section (at, name) c e
      go (gtail_is.Partition at name) c e = partition (at, name) c e
      go (gtail_is.CodeModel at name) c e = model (at, name) c e
      go (gtail_is.Align at bytes) c e = align (at, bytes) c e
      go (gtail_is.Comdat x) c e = named x c e
      go (gtail_is.Attach x) c e = attached x c e
      go (gtail_is.Word at) c e = passing_none toks (among awords) a word at c e

  -- ---- what stands before the type
  abbrev IntroductionShape : Type 0
  IntroductionShape = ℕ × (Unit {0} × (Option ℕ × (List ℕ × ℕ)))

  abbrev introduction_shape : IntroductionShape → Step
  introduction_shape = pair (leaf toks k.Global)
      (pair (λ _. the toks k.Equals) (pair (optional (leaf toks k.Linkage)) (pair (many (gword toks)) (leaf toks k.Variable))))

  abbrev introduction_back : IntroductionShape → Introduction
  introduction_back x = record { name = x.0; linkage = x.1.1.0; words = x.1.1.1.0; kind = x.1.1.1.1 }

  introduction_view : (t : Introduction) (a b : ℕ) → introduced toks t a ≡ Some b → (x : IntroductionShape) ×
      ((introduction_back x ≡ t) × (introduction_shape x a ≡ Some b))
  introduction_view t a b e = ((t.name, (tt, (t.linkage, (t.words, t.kind)))), (refl, e))

  abbrev linkage_of : Known toks true (optional (leaf toks k.Linkage))
  linkage_of = optional_of (leaf_of k.Linkage)

  abbrev gwords_of : Known toks true (many (gword toks))
  gwords_of = many_of gword_of refl

  abbrev from_gwords : Known toks false (pair (many (gword toks)) (leaf toks k.Variable))
  from_gwords = pair_of gwords_of (leaf_of k.Variable) refl

  abbrev from_linkage : Known toks false (pair (optional (leaf toks k.Linkage)) (pair (many (gword toks)) (leaf toks k.Variable)))
  from_linkage = pair_of linkage_of from_gwords refl

  abbrev from_equals : Known toks false
      (pair (λ (_ : Unit {0}). the toks k.Equals) (pair (optional (leaf toks k.Linkage)) (pair (many (gword toks)) (leaf toks k.Variable))))
  from_equals = pair_of (the_of k.Equals) from_linkage refl

  abbrev introduction_of : Known toks false (introduced toks)
  introduction_of = shape_of introduction_back introduction_view (pair_of (leaf_of k.Global) from_equals refl)

  -- no global is introduced where the shape of it does not fit
  introduction_none : (a : ℕ) → Longest introduction_shape a None → Longest (introduced toks) a None
  introduction_none a l = shape_none (introduced toks) introduction_back introduction_view (λ x a b e. e) l

  pub introduction_no_name : (a : ℕ) → None ≡ the toks k.Global a → Longest (introduced toks) a None
  introduction_no_name a h = introduction_none a (pair_stop (leaf_of k.Global) from_equals a (leaf_none toks k.Global a h))

  module _ (a equals : ℕ) (h : Some equals ≡ the toks k.Global a) where
    pub introduction_no_equals : None ≡ the toks k.Equals equals → Longest (introduced toks) a None
    introduction_no_equals n = introduction_none a (pair_none (leaf_of k.Global) from_equals refl a equals a (leaf_some toks k.Global a equals h)
        (pair_stop (the_of k.Equals) from_linkage equals (the_none toks k.Equals equals n)))

    module _ (first : ℕ) (h' : Some first ≡ the toks k.Equals equals) (linkage : Option ℕ) (behind : ℕ)
        (l : Longest (optional (leaf toks k.Linkage)) first (Some (
          linkage,
          behind,
        ))) (words : List ℕ) (kind : ℕ) (l' : Longest (many (gword toks)) behind (Some (words, kind))) where
      pub introduction_no_kind : None ≡ the toks k.Variable kind → Longest (introduced toks) a None
      introduction_no_kind n =
          introduction_none a
          (pair_none (leaf_of k.Global) from_equals refl a equals a (leaf_some toks k.Global a equals h)
          (pair_none (the_of k.Equals) from_linkage refl equals first tt (the_some toks k.Equals equals first h')
          (pair_none linkage_of from_gwords refl first behind linkage l (pair_none gwords_of (leaf_of k.Variable) refl behind kind words l'
          (leaf_none toks k.Variable kind n)))))

      pub introduction_ends : (end : ℕ) → Some end ≡ the toks k.Variable kind →
          Longest (introduced toks) a (Some (introduction_back (a, (tt, (linkage, (words, kind)))), end))
      introduction_ends end e =
          shape_some (introduced toks) introduction_back introduction_view (λ x a b e. e) {x = (a, (tt, (linkage, (words, kind))))}
          (pair_some (leaf_of k.Global) from_equals refl a equals end a (tt, (linkage, (words, kind))) (leaf_some toks k.Global a equals h)
          (pair_some (the_of k.Equals) from_linkage refl equals first end tt (linkage, (words, kind)) (the_some toks k.Equals equals first h')
          (pair_some linkage_of from_gwords refl first behind end linkage (
            words,
            kind,
          ) l (pair_some gwords_of (leaf_of k.Variable) refl behind kind end words kind l' (leaf_some toks k.Variable kind end e)))))

  -- ---- the type and what stands behind it
  abbrev ContentsShape : Type 0
  ContentsShape = Ty × (Option Const × (List Gtail × List ℕ))

  abbrev contents_shape : ContentsShape → Step
  contents_shape = pair (ty toks) (pair (optional (initial toks)) (pair (many (next toks (gtail toks))) (many (leaf toks k.Group))))

  abbrev contents_back : ContentsShape → Contents
  contents_back x = record { ty = x.0; initial = x.1.0; tails = x.1.1.0; groups = x.1.1.1 }

  contents_view : (t : Contents) (a b : ℕ) → typed toks t a ≡ Some b → (x : ContentsShape) × ((contents_back x ≡ t) × (contents_shape x a ≡ Some b))
  contents_view t a b e = ((t.ty, (t.initial, (t.tails, t.groups))), (refl, e))

  abbrev value_of : Known toks true (optional (initial toks))
  value_of = optional_of initial_of

  abbrev tails_of : Known toks true (many (next toks (gtail toks)))
  tails_of = many_of next_gtail_of refl

  abbrev groups_of : Known toks true (many (leaf toks k.Group))
  groups_of = many_of (leaf_of k.Group) refl

  abbrev from_tails : Known toks true (pair (many (next toks (gtail toks))) (many (leaf toks k.Group)))
  from_tails = pair_of tails_of groups_of refl

  abbrev from_value : Known toks true (pair (optional (initial toks)) (pair (many (next toks (gtail toks))) (many (leaf toks k.Group))))
  from_value = pair_of value_of from_tails refl

  abbrev contents_of : Known toks false (typed toks)
  contents_of = shape_of contents_back contents_view (pair_of (ty_of toks) from_value refl)

  pub contents_no_type : (a : ℕ) → Longest (ty toks) a None → Longest (typed toks) a None
  contents_no_type a n = shape_none (typed toks) contents_back contents_view (λ x a b e. e) (pair_stop (ty_of toks) from_value a n)

  pub behind_initial_ends : (a last end : ℕ) (tails : List Gtail) (groups : List ℕ) → Longest (many (next toks (gtail toks))) a (Some (tails, last))
      → Longest (many (leaf toks k.Group)) last (Some (groups, end)) → Longest (behind_initial toks) a (Some ((tails, groups), end))
  behind_initial_ends a last end tails groups l l' = pair_some tails_of groups_of refl a last end tails groups l l'

  pub contents_ends : (a value behind end : ℕ) (kind : Ty) (first : Option Const) (ending : List Gtail × List ℕ) → Longest (ty toks) a (Some (kind, value))
      → Longest (optional (initial toks)) value (Some (first, behind)) → Longest (behind_initial toks) behind (Some (ending, end))
      → Longest (typed toks) a (Some (contents_back (kind, (first, ending)), end))
  contents_ends a value behind end kind first ending l l' l'' =
      shape_some (typed toks) contents_back contents_view (λ x a b e. e) {x = (kind, (first, ending))}
      (pair_some (ty_of toks) from_value refl a value end kind (first, ending) l (pair_some value_of from_tails refl value behind end first ending l' l''))

  -- ---- `Global '=' ..`
  abbrev GlobalShape : Type 0
  GlobalShape = Introduction × Contents

  abbrev global_back : GlobalShape → GlobalVar
  global_back x = record {
    name = x.0.name;
    linkage = x.0.linkage;
    words = x.0.words;
    kind = x.0.kind;
    ty = x.1.ty;
    initial = x.1.initial;
    tails = x.1.tails;
    groups = x.1.groups;
  }

  abbrev global_parts : GlobalVar → GlobalShape
  global_parts t = (
    record { name = t.name; linkage = t.linkage; words = t.words; kind = t.kind },
    record {
      ty = t.ty;
      initial = t.initial;
      tails = t.tails;
      groups = t.groups;
    },
  )

  abbrev global_shape : GlobalShape → Step
  global_shape = pair (introduced toks) (typed toks)

  global_grouped : (t : GlobalVar) (a : ℕ) → global_var toks t a ≡ global_shape (global_parts t) a
  global_grouped t a = ap (λ z. z a) (five (leaf toks k.Global t.name) (the toks k.Equals) (optional (leaf toks k.Linkage) t.linkage)
      (many (gword toks) t.words) (leaf toks k.Variable t.kind) (typed toks (global_parts t).1))

  global_view : (t : GlobalVar) (a b : ℕ) → global_var toks t a ≡ Some b → (x : GlobalShape) × ((global_back x ≡ t) × (global_shape x a ≡ Some b))
  global_view t a b e = (global_parts t, (refl, sym (global_grouped t a) ∙ e))

  global_unview : (x : GlobalShape) (a b : ℕ) → global_shape x a ≡ Some b → global_var toks (global_back x) a ≡ Some b
  global_unview x a b e = global_grouped (global_back x) a ∙ e

  pub global_no_introduction : (a : ℕ) → Longest (introduced toks) a None → Longest (global_var toks) a None
  global_no_introduction a n = shape_none (global_var toks) global_back global_view global_unview (pair_stop introduction_of contents_of a n)

  module _ (a first : ℕ) (introduction : Introduction) (l : Longest (introduced toks) a (Some (introduction, first))) where
    pub global_no_contents : Longest (typed toks) first None → Longest (global_var toks) a None
    global_no_contents n = shape_none (global_var toks) global_back global_view global_unview (pair_none introduction_of contents_of refl a first introduction l
        n)

    pub global_ends : (contents : Contents) (end : ℕ) → Longest (typed toks) first (Some (contents, end)) →
        Longest (global_var toks) a (Some (global_back (introduction, contents), end))
    global_ends contents end n =
        shape_some (global_var toks) global_back global_view global_unview {x = (introduction, contents)}
        (pair_some introduction_of contents_of refl a first end introduction contents l n)
