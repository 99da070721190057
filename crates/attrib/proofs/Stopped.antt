-- What is answered where reading stopped before a text was whole.
use Rattle.std.proofs.Common.{◌≡◌, ℕ, Option, refl, inl, inr}
use Rattle.attr_ids.specs.declared.status.Status.{Status}
use Rattle.attr_ids.specs.declared.status.Status.TheVariants as status
use Rattle.attr_io.specs.Outside.{Rose, Stream}
use Rattle.attr_io.specs.declared.transfer.ReadStop.{ReadStop}
use Rattle.attr_io.specs.declared.transfer.ReadStop.TheVariants as stop
use Rattle.attrib.specs.Run.{EndsWith, FailsToSay, IsRunLine, ReadTooMuch, read_line, bytes_line, memory_line}

module _ (generate : Option ℕ) (old new errs told : Stream) (answered : Status) where
  -- each stop says its line
  pub record Ends (why : ReadStop) : Type 0 where
    pub failed : why ≡ stop.Failed → Rose old new
    pub large : why ≡ stop.TooLarge → ReadTooMuch generate old new
    pub of_failed : why ≡ stop.Failed → EndsWith status.ReadFault read_line answered errs told
    pub of_large : why ≡ stop.TooLarge → EndsWith status.Refused bytes_line answered errs told
    pub of_memory : why ≡ stop.NoMemory → EndsWith status.NoMemory memory_line answered errs told

  -- the line of a fault of reading, or of a text that is too long, may break off
  pub fails : (why : ReadStop) → Ends why → answered ≡ status.WriteFault → FailsToSay (IsRunLine generate old new) errs told
  fails stop.Failed ends is = elim (ends.of_failed refl) [
    | inl said ↦ absurd (let other = said.0 in cc)
    | inr broken ↦ (read_line, inl (ends.failed refl, refl), broken.1)
  ]
  fails stop.TooLarge ends is = elim (ends.of_large refl) [
    | inl said ↦ absurd (let other = said.0 in cc)
    | inr broken ↦ (bytes_line, inr (inr (ends.large refl, refl)), broken.1)
  ]
  fails stop.NoMemory ends is = elim (ends.of_memory refl) [
    | inl said ↦ absurd (let other = said.0 in cc)
    | inr broken ↦ absurd (let other = broken.0 in cc)
  ]
