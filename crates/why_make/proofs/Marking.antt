-- Marks stand wherever something may be lost, before and after a visit.
use Rattle.std.proofs.Common.{◌≡◌, ◌≢◌, ◌^◌, ℕ, ◌+◌, ◌<◌, ◌≤◌, Bool, true, false, List, length, length-set, replicate, map, set, bit_and, bit_xor}
use Rattle.std.proofs.Common.{slice_get, slice_index, slice_index_or, Some, Contains, All, refl, ap, sym, subst, ◌∙◌, arith, inl, inr}
use Rattle.std.proofs.Common.{get_or-set_same, get_or-set_other}
use Rattle.std.proofs.Math.ListN.{length-replicate}
use Rattle.std.proofs.lemmas.Bool.{cases_Bool, cases_eq, cases_lt}
use Rattle.std.proofs.lemmas.Option.{same_Some, slice_get-get_or, slice_get_within, get_or_from_slice_get}
use Rattle.std.proofs.lemmas.List.Elements.{All-from_get_or, All-get_or, Contains-get_or}
use Rattle.shelf.proofs.Shelf.{get_replicate, get_set, get_set_same, get_set_other, get_there, map_agree}
use Rattle.attr_ids.specs.declared.ids.PosId.{PosId}
use Rattle.rule_terms.specs.System.{System, inputs_of, value_at, value_in}
use Rattle.rule_terms.proofs.Naming.{value_in-value_at}
use Rattle.dep_graph.specs.Row.{Row}
use Rattle.dep_graph.specs.Graph.{row_at, IsGraphOf}
use Rattle.why_check.specs.Removal.{after_entry}
use Rattle.why_make.specs.Sweeps.{entry_at, lost_of}
use Rattle.why_make.specs.Marked.{AreFree, AreMarked, AreWoken}
use Rattle.why_make.proofs.Lost.{lost_once}

-- what stands at a place of a list of marks, where it is not a mark
pub unmarked : (marks : List Bool) (q : ℕ) → q < length marks → slice_get marks q ≢ Some true → slice_get marks q ≡ Some false
unmarked marks q l free = let there = get_there marks q l in elim (cases_Bool there.0) [
  | inl e ↦ absurd (free (there.1 ∙ ap Some e))
  | inr e ↦ there.1 ∙ ap Some e
]

both : {X : Type 0} (xs : List Bool) (q : ℕ) → slice_get xs q ≡ Some true → slice_get xs q ≡ Some false → X
both xs q on off = let e : true ≡ false = same_Some true false (sym on ∙ off) in absurd (cc)

-- ---- waking
pub woken_none : (ds : List PosId) (marks : List Bool) → AreWoken ds 0 marks marks
woken_none ds marks = record { long = refl; marked = λ j d l. absurd (omega arith); kept = λ q e. e }

woken_more : (ds : List PosId) (k : ℕ) (d : PosId) (old marks new : List Bool) → AreWoken ds k old marks → slice_get ds k ≡ Some d → d.0 < length marks →
    new ≡ set marks d.0 true → AreWoken ds (k + 1) old new
woken_more ds k d old marks new so_far at l is = record {
  long = ap length is ∙ length-set marks d.0 true ∙ so_far.long;
  marked = λ j x b y. elim (cases_lt j k) [
    | inl before ↦ keeps x.0 (so_far.marked j x before y)
    | inr past ↦
        let here : k ≡ j = omega (arith, b, past) in
        let same : d ≡ x = same_Some d x (sym at ∙ ap (slice_get ds) here ∙ y) in
        subst (λ (z : PosId). slice_get new z.0 ≡ Some true) same (ap (λ (xs : List Bool). slice_get xs d.0) is ∙ get_set_same marks d.0 true l)
  ];
  kept = λ q e. keeps q (so_far.kept q e);
} where
  keeps : (q : ℕ) → slice_get marks q ≡ Some true → slice_get new q ≡ Some true
  keeps q e = ap (λ (xs : List Bool). slice_get xs q) is ∙ elim (cases_eq q d.0) [
    | inl here ↦ ap (slice_get (set marks d.0 true)) here ∙ get_set_same marks d.0 true l
    | inr other ↦ get_set_other marks d.0 q true other ∙ e
  ]

-- the position that is given a mark next is one
pub woken_inside : (ds seen : List PosId) (k : ℕ) (d : PosId) (old marks : List Bool) → seen ≡ ds → k < length seen →
    All (λ (x : PosId). x.0 < length old) ds → AreWoken ds k old marks → (slice_index_or seen k d).0 < length marks
woken_inside ds seen k d old marks e l within so_far =
    omega (arith, All-get_or (λ (x : PosId). x.0 < length old) seen k d l (subst (All (λ (x : PosId). x.0 < length old)) (sym e) within), so_far.long)

pub woken_next : (ds seen : List PosId) (k : ℕ) (d : PosId) (old marks new : List Bool) → seen ≡ ds → k < length seen →
    All (λ (x : PosId). x.0 < length old) ds → AreWoken ds k old marks → new ≡ set marks (slice_index_or seen k d).0 true → AreWoken ds (k + 1) old new
woken_next ds seen k d old marks new e l within so_far is =
    woken_more ds k (slice_index_or seen k d) old marks new so_far (subst (λ (xs : List PosId). slice_get xs k ≡ Some (slice_index_or seen k d)) e
    (slice_get-get_or seen k d l)) (woken_inside ds seen k d old marks e l within so_far) is

pub woken_all : (ds seen : List PosId) (k : ℕ) (old new : List Bool) → seen ≡ ds → length seen ≤ k → k ≤ length seen →
    AreWoken ds k old new → AreWoken ds (length ds) old new
woken_all ds seen k old new e l m so_far = let last : k ≡ length ds = omega (arith, ap length e) in subst (λ (n : ℕ). AreWoken ds n old new) last so_far

module _ (s : System) where
  -- at first every position has a mark
  pub marked_all : (words : List ℕ) (marks : List Bool) → marks ≡ replicate (length s.masks) true → AreMarked s words marks
  marked_all words marks is = record {
    long = ap length is ∙ length-replicate (length s.masks) true;
    quiet = λ q e. let no : true ≡ false = get_replicate (length s.masks) true q false (ap (λ (xs : List Bool). slice_get xs q) (sym is) ∙ e) in absurd (cc);
  }

  -- a position that loses nothing needs no mark
  pub marked_but : (words : List ℕ) (marks new : List Bool) (p : ℕ) → AreMarked s words marks → new ≡ set marks p false → lost_of s words p ≡ 0 →
      AreMarked s words new
  marked_but words marks new p are is none = record {
    long = ap length is ∙ length-set marks p false ∙ are.long;
    quiet = λ q e. elim (get_set marks p false q false (ap (λ (xs : List Bool). slice_get xs q) (sym is) ∙ e)) [
      | inl here ↦ subst (λ (n : ℕ). lost_of s words n ≡ 0) (sym here.0) none
      | inr other ↦ are.quiet q other.1
    ];
  }

  -- a position keeps its value where the word of a position is written that it does not name
  value_kept : (q : ℕ) (p : PosId) (words : List ℕ) (word : ℕ) → (¬ (Contains (inputs_of s q) p)) → value_in s q (set words p.0 word) ≡ value_in s q words
  value_kept q p words word unnamed =
      value_in-value_at s q (set words p.0 word)
      ∙ ap (value_at s q) (map_agree (λ (x : PosId). slice_index (set words p.0 word) x.0) (λ (x : PosId). slice_index words x.0) (inputs_of s q)
      (λ k x at. get_or-set_other words p.0 x.0 word 0 (λ e. unnamed (here k x at e))))
      ∙ sym (value_in-value_at s q words) where
        here : (k : ℕ) (x : PosId) → slice_get (inputs_of s q) k ≡ Some x → x.0 ≡ p.0 → Contains (inputs_of s q) p
        here k x at e =
            let same : x ≡ p = ap (λ (n : ℕ). record { 0 = n }) e in
            (k, slice_get_within (inputs_of s q) k x at, get_or_from_slice_get (inputs_of s q) k x p at ∙ same)

  -- what is lost at a position whose word and value stay, is lost before and after
  lost_same : (words others : List ℕ) (q : ℕ) → slice_index others q ≡ slice_index words q → value_in s q others ≡ value_in s q words →
      lost_of s others q ≡ lost_of s words q
  lost_same words others q e f = rw (e, f) refl

  -- a position whose word lost all that its value has not, loses nothing over the same value
  lost_here : (words others : List ℕ) (p : ℕ) → slice_index words p < 2 ^ 64 → slice_index others p ≡ bit_xor (slice_index words p) (lost_of s words p) →
      value_in s p others ≡ value_in s p words → lost_of s others p ≡ 0
  lost_here words others p small e f =
      ap (λ (v : ℕ). bit_xor (slice_index others p) (bit_and (slice_index others p) v)) f
      ∙ lost_once (slice_index words p) (value_in s p words) (slice_index others p) small e

  module _ (g : List Row) (of : IsGraphOf s g) where
    -- the dependents of a position are positions, of which each may have a mark
    pub dependents_within : (p : PosId) (marks : List Bool) → p.0 < length s.masks → length marks ≡ length s.masks →
        All (λ (d : PosId). d.0 < length marks) (row_at g p.0).dependents
    dependents_within p marks l long =
        let ds : List PosId = (row_at g p.0).dependents in
        All-from_get_or (λ (d : PosId). d.0 < length marks) ds p
        (λ i b. let inside = ((of.rows p l).dependents (slice_index_or ds i p)).0 (Contains-get_or ds i p b) in omega (arith, inside.0, long))

    -- after a visit that took facts away, and gave marks to the dependents of its position
    pub marked_after : (words : List ℕ) (marks new : List Bool) (p : PosId) → p.0 < length s.masks → length words ≡ length s.masks →
        slice_index words p.0 < 2 ^ 64 → AreMarked s words marks →
        AreWoken (row_at g p.0).dependents (length (row_at g p.0).dependents) (set marks p.0 false) new →
        AreMarked s (after_entry words (entry_at s words p.0)) new
    marked_after words marks new p l long small are woken = record {
      long = woken.long ∙ length-set marks p.0 false ∙ are.long;
      quiet = quiet;
    } where
      after : List ℕ
      after = after_entry words (entry_at s words p.0)

      written : ℕ
      written = bit_xor (slice_index words p.0) (lost_of s words p.0)

      unnamed : (q : ℕ) → q < length s.masks → slice_get new q ≡ Some false → ¬ (Contains (inputs_of s q) p)
      unnamed q b e has =
          let ds : List PosId = (row_at g p.0).dependents in
          let d : PosId = record { 0 = q } in
          let in_row : Contains ds d = ((of.rows p l).dependents d).1 (b, has) in
          both new q (woken.marked in_row.0 d in_row.1 (slice_get-get_or ds in_row.0 d in_row.1 ∙ ap Some in_row.2)) e

      quiet : (q : ℕ) → slice_get new q ≡ Some false → lost_of s after q ≡ 0
      quiet q e =
          let b : q < length s.masks = omega (arith, slice_get_within new q false e, woken.long, length-set marks p.0 false, are.long) in
          elim (cases_eq q p.0) [
            | inl here ↦
                let off : slice_get new p.0 ≡ Some false = subst (λ (n : ℕ). slice_get new n ≡ Some false) here e in
                subst (λ (n : ℕ). lost_of s after n ≡ 0) (sym here)
                (lost_here words after p.0 small (get_or-set_same words p.0 written 0 (omega (arith, l, long)))
                (value_kept p.0 p words written (unnamed p.0 l off)))
            | inr other ↦
                lost_same words after q (get_or-set_other words p.0 q written 0 other) (value_kept q p words written (unnamed q b e))
                ∙ are.quiet q (unmarked marks q (omega (arith, b, are.long)) (λ on. both new q (woken.kept q (get_set_other marks p.0 q false other ∙ on)) e))
          ]

  -- in a block without marks nothing is lost
  pub free_quiet : (words : List ℕ) (marks : List Bool) (from to : ℕ) → AreMarked s words marks → AreFree marks from to →
      (q : ℕ) → from ≤ q → q < to → q < length s.masks → lost_of s words q ≡ 0
  free_quiet words marks from to are free q l m b = are.quiet q (unmarked marks q (omega (arith, b, are.long)) (free q l m))
