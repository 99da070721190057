-- What is read where a list is known by its elements.
use Rattle.std.proofs.Common.{arith, ◌≡◌, ◌<◌, ◌≤◌, ◌+◌, ◌⊎◌, inl, inr, ℕ, List, Some, unwrap_or, length, slice_get, slice_index_or, refl, sym, ap, subst}
use Rattle.std.proofs.Common.{◌∙◌}
use Rattle.std.proofs.lemmas.Bool.Decides.{leb_tells}
use Rattle.std.proofs.lemmas.Option.{slice_get_read, slice_get_within, get_or_from_slice_get}
use Rattle.attr_ids.specs.declared.ids.FuncId.{FuncId}
use Rattle.facts.specs.declared.pos.Pos.{Pos}
use Rattle.facts.specs.declared.pos.Pos.TheVariants as pos
use Rattle.positions.specs.declared.tables.Tables.{Tables}
use Rattle.positions.specs.Numbering.{Numbered, IsAt, AreFound, IsEntryAt, IsEntryBefore}

-- an element read with itself as the default is there
pub is_read : {X : Type 0} (xs : List X) (i : ℕ) (x : X) → i < length xs → x ≡ slice_index_or xs i x → slice_get xs i ≡ Some x
is_read xs i x within reads = slice_get_read xs (length xs) i x refl within reads

-- the element that is there is what is read
pub read_is : {X : Type 0} (xs : List X) (i : ℕ) (x d : X) → slice_get xs i ≡ Some x → d ≡ slice_index_or xs i d → d ≡ x
read_is xs i x d there reads = reads ∙ get_or_from_slice_get xs i x d there

-- what a value shows, shown again
pub seen : (a b : Numbered) → a ≡ b → (p : Pos) (n : ℕ) → slice_get b.list n ≡ Some p → slice_get a.list n ≡ Some p
seen a b same p n there = subst (λ (s : Numbered). slice_get s.list n ≡ Some p) (sym same) there

-- one of two numbers is below the other, or is not
is_below : (a b : ℕ) → (a < b) ⊎ (b ≤ a)
is_below a b = elim (leb_tells b a) [
  | inl (t, past) ↦ inr past
  | inr (t, below) ↦ inl (omega (arith, below))
]

-- two elements that are both there are one
some_same : (p q : Pos) → Some p ≡ Some q → p ≡ q
some_same p q is = ap (λ o. unwrap_or o p) is

-- two entries of a body that are one are for one parameter
entry_same : (f : FuncId) (a b : ℕ) → Some (pos.Entry f a) ≡ Some (pos.Entry f b) → a ≡ b
entry_same f a b is = cc

module _ (t : Tables) (list : List Pos) (found : AreFound t list) where
  -- a body that has an entry has a place in the table
  pub entries_long : (f : FuncId) (at n : ℕ) → slice_get list n ≡ Some (pos.Entry f at) → f.0 < length t.entries.items
  entries_long f at n there = let w = found n (pos.Entry f at) there in slice_get_within t.entries.items f.0 w.0 w.1

  -- the entries of a body begin at the place that the table gives
  pub entry_is : (f : FuncId) (at n d : ℕ) → slice_get list n ≡ Some (pos.Entry f at) → d ≡ slice_index_or t.entries.items f.0 d → IsEntryAt list f at d n
  entry_is f at n d there reads =
      let w = found n (pos.Entry f at) there in
      subst (λ s. IsEntryAt list f at s n) (sym (read_is t.entries.items f.0 w.0 d w.1 reads)) w.2

  -- an entry for an earlier parameter stands before
  pub goes_right : (f : FuncId) (at n d k : ℕ) (q : Pos) → slice_get list n ≡ Some (pos.Entry f at) → d ≡ slice_index_or t.entries.items f.0 d →
      slice_get list k ≡ Some q → IsEntryBefore f at q → k + 1 ≤ n
  goes_right f at n d k q there reads here before = elim (is_below k n) [
    | inl below ↦ omega (arith, below)
    | inr past ↦ absurd (never (entry_is f at n d there reads) (entry_is f before.0 k d (here ∙ ap Some before.2) reads) past)
  ]
    where
      never : IsEntryAt list f at d n → IsEntryAt list f before.0 d k → n ≤ k → ⊥
      never here_is there_is past = elim (is_below n k) [
        | inl below ↦
            let w = there_is.before n here_is.from below in
            let same = entry_same f at w.2.0 (sym there ∙ w.1 ∙ ap Some w.2.2) in
            let less = w.2.1 in let lesser = before.1 in omega (arith, same, less, lesser)
        | inr over ↦
            let one : n ≡ k = omega (arith, past, over) in
            let same = entry_same f at before.0 (sym there ∙ ap (slice_get list) one ∙ here ∙ ap Some before.2) in
            let lesser = before.1 in omega (arith, same, lesser)
      ]

  -- what is no such entry stands at it or behind, where it stands behind the first
  pub goes_left : (f : FuncId) (at n d k : ℕ) (q : Pos) → slice_get list n ≡ Some (pos.Entry f at) → d ≡ slice_index_or t.entries.items f.0 d →
      slice_get list k ≡ Some q → d ≤ k → (IsEntryBefore f at q → ⊥) → n ≤ k
  goes_left f at n d k q there reads here from other = elim (is_below k n) [
    | inl below ↦
        let w = (entry_is f at n d there reads).before k from below in
        let same = some_same _ _ (sym here ∙ w.1) in
        absurd (other (w.2.0, w.2.1, same ∙ w.2.2))
    | inr past ↦ past
  ]

-- and the other way
pub shown : (a b : Numbered) → a ≡ b → (p : Pos) (n : ℕ) → slice_get a.list n ≡ Some p → slice_get b.list n ≡ Some p
shown a b same p n there = subst (λ (s : Numbered). slice_get s.list n ≡ Some p) same there

-- the same number and the same value shown
pub told : (b : Numbered) (p : Pos) (n k : ℕ) → slice_get b.list n ≡ Some p → k ≡ n → slice_get b.list k ≡ Some p
told b p n k there is = subst (λ x. slice_get b.list x ≡ Some p) (sym is) there

-- what the tables say of a position of this kind
pub at_of : (t : Tables) (list : List Pos) → AreFound t list → (p q : Pos) (n : ℕ) → p ≡ q → slice_get list n ≡ Some p → IsAt t list q n
at_of t list found p q n is there = subst (λ x. IsAt t list x n) is (found n p there)
