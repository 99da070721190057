-- What holds of each attribute in a list that is added, by the bits that are held.
use Rattle.std.proofs.Common.{arith, ◌≡◌, ◌+◌, ◌<◌, ◌&&◌, ◌||◌, not, ◌==◌, ℕ, zero, suc, Bool, true, false, if◌then◌else◌, List, slice_index, Option, None}
use Rattle.std.proofs.Common.{Some, refl, subst}
use Rattle.std.specs.List.{AllByRecursion}
use Rattle.std.proofs.lemmas.Bool.{and_parts}
use Rattle.std.proofs.lemmas.Option.{none-some, same_Some}
use Rattle.lattice_words.specs.Ladders.{align_rungs, byte_rungs}
use Rattle.lattice_words.specs.declared.value.TheConstants.{NONNULL, ALIGN_2, ALIGN_RUNGS, BYTES_1, BYTE_RUNGS, CAPTURED_BY_RETURN_ALONE}
use Rattle.lattice_words.specs.declared.value.TheConstants.{NOT_RETURNED, NOT_READ_THROUGH, NOT_WRITTEN_THROUGH}
use Rattle.ir_module.specs.declared.attrs.ParamAttrs.{ParamAttrs}
use Rattle.manifest.specs.Attrs.{Attr, Align, Dereferenceable, Nocapture, Nonnull, Readnone, Readonly, Writeonly, added, added_some, highest, with_rung}
use Rattle.manifest.specs.Attrs.{align_attrs, bytes_attrs, nonnull_attrs, nocapture_attrs, access_attr, access_attrs}
use Rattle.manifest.specs.Parameter.{or_number, lowest}

-- what bits of values lead to
pub record ValueSays (Q : Attr → Type 0) (has : ℕ → Bool) : Type 0 where
  pub nonnull : has NONNULL ≡ true → Q Nonnull
  pub align : (k : ℕ) → k < ALIGN_RUNGS → has (ALIGN_2 + k) ≡ true → Q (Align (slice_index align_rungs k))
  pub bytes : (k : ℕ) → k < BYTE_RUNGS → has (BYTES_1 + k) ≡ true → Q (Dereferenceable (slice_index byte_rungs k))

-- what bits of uses lead to
pub record UsesSay (Q : Attr → Type 0) (has : ℕ → Bool) : Type 0 where
  pub captured : has CAPTURED_BY_RETURN_ALONE ≡ true → has NOT_RETURNED ≡ true → Q Nocapture
  pub unused : has NOT_READ_THROUGH ≡ true → has NOT_WRITTEN_THROUGH ≡ true → Q Readnone
  pub unwritten : has NOT_WRITTEN_THROUGH ≡ true → Q Readonly
  pub unread : has NOT_READ_THROUGH ≡ true → Q Writeonly

-- the highest number that has it is one that has it
pub highest_has : (has : ℕ → Bool) (n k : ℕ) → highest has n ≡ Some k → (k < n) × (has k ≡ true)
highest_has has zero k e = absurd (none-some k e)
highest_has has (suc n) k e = by (has n) refl (λ rest. highest_has has n k rest) e
  where
    by : (b : Bool) → has n ≡ b → (highest has n ≡ Some k → (k < n) × (has k ≡ true)) → (if b then Some n else highest has n) ≡ Some k →
        (k < suc n) × (has k ≡ true)
    by true is rest e = let same : n ≡ k = same_Some n k e in (omega arith, subst (λ i. has i ≡ true) same is)
    by false is rest e = let found = rest e in let under : k < n = found.0 in (omega arith, found.1)

-- the lowest number that has it is one that has it
pub lowest_has : (has : ℕ → Bool) (n k : ℕ) → lowest has n ≡ Some k → (k < n) × (has k ≡ true)
lowest_has has zero k e = absurd (none-some k e)
lowest_has has (suc n) k e = by (lowest has n) refl (has n) refl (λ rest. lowest_has has n k rest) e
  where
    by : (o : Option ℕ) → lowest has n ≡ o → (b : Bool) → has n ≡ b → (lowest has n ≡ Some k → (k < n) × (has k ≡ true)) →
        or_number o (if b then Some n else None) ≡ Some k → (k < suc n) × (has k ≡ true)
    by (Some j) at b is rest e =
        let same : j ≡ k = same_Some j k e in
        let found = rest (subst (λ i. lowest has n ≡ Some i) same at) in
        let under : k < n = found.0 in (omega arith, found.1)
    by None at true is rest e = let same : n ≡ k = same_Some n k e in (omega arith, subst (λ i. has i ≡ true) same is)
    by None at false is rest e = absurd (none-some k e)

module _ (Q : Attr → Type 0) where
  -- an attribute that is deduced
  pub each_added : (written deduced : Bool) (attr : Attr) → (deduced ≡ true → Q attr) → AllByRecursion Q (added written deduced attr)
  each_added true true attr so = tt
  each_added false true attr so = (so refl, tt)
  each_added true false attr so = tt
  each_added false false attr so = tt

  -- one with the number of a rung
  each_rung : (written : Bool) (attr : ℕ → Attr) (rungs : List ℕ) (o : Option ℕ) → ((k : ℕ) → o ≡ Some k → Q (attr (slice_index rungs k))) →
      AllByRecursion Q (added_some written (with_rung attr rungs o))
  each_rung written attr rungs None so = tt
  each_rung true attr rungs (Some k) so = tt
  each_rung false attr rungs (Some k) so = (so k refl, tt)

  -- one of the three of access
  each_access : (written read write : Bool) → (read ≡ true → write ≡ true → Q Readnone) → (write ≡ true → Q Readonly) → (read ≡ true → Q Writeonly) →
      AllByRecursion Q (added_some written (access_attr read write))
  each_access true true true none only other = tt
  each_access true false true none only other = tt
  each_access true true false none only other = tt
  each_access true false false none only other = tt
  each_access false true true none only other = (none refl refl, tt)
  each_access false false true none only other = (only refl, tt)
  each_access false true false none only other = (other refl, tt)
  each_access false false false none only other = tt

  module _ (written : ParamAttrs) (has : ℕ → Bool) where
    pub each_align : ValueSays Q has → AllByRecursion Q (align_attrs written has)
    each_align says =
        each_rung (not (written.align == 0)) Align align_rungs (highest (λ k. has (ALIGN_2 + k)) ALIGN_RUNGS) (λ k at.
        let found = highest_has (λ i. has (ALIGN_2 + i)) ALIGN_RUNGS k at in says.align k found.0 found.1)

    pub each_bytes : ValueSays Q has → AllByRecursion Q (bytes_attrs written has)
    each_bytes says =
        each_rung (not (written.dereferenceable == 0)) Dereferenceable byte_rungs (highest (λ k. has (BYTES_1 + k)) BYTE_RUNGS) (λ k at.
        let found = highest_has (λ i. has (BYTES_1 + i)) BYTE_RUNGS k at in says.bytes k found.0 found.1)

    pub each_nonnull : ValueSays Q has → AllByRecursion Q (nonnull_attrs written has)
    each_nonnull says = each_added written.nonnull (has NONNULL) Nonnull says.nonnull

    pub each_nocapture : UsesSay Q has → AllByRecursion Q (nocapture_attrs written has)
    each_nocapture says =
        each_added (written.nocapture || written.captures) (has CAPTURED_BY_RETURN_ALONE && has NOT_RETURNED) Nocapture (λ both.
        let parts = and_parts (has CAPTURED_BY_RETURN_ALONE) (has NOT_RETURNED) both in says.captured parts.0 parts.1)

  pub each_accessed : (written : Bool) (has : ℕ → Bool) → UsesSay Q has → AllByRecursion Q (access_attrs written has)
  each_accessed written has says = each_access written (has NOT_READ_THROUGH) (has NOT_WRITTEN_THROUGH) says.unused says.unwritten says.unread
