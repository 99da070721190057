-- The parts of the rules of uses, one after the other.
use Rattle.std.proofs.Common.{◌≡◌, ◌<◌, ℕ, true, false, List, length, get_or, slice_get, Some, sym, ap, subst, ◌∙◌}
use Rattle.std.proofs.lemmas.Option.{slice_get-get_or}
use Rattle.ir_module.specs.declared.op.Operand.TheVariants as operand
use Rattle.ir_module.specs.declared.op.Arm.{Arm}
use Rattle.std.proofs.lemmas.Bool.{both_ways}
use Rattle.ir_module.specs.declared.op.Instr.{Instr}
use Rattle.ir_module.specs.declared.module.Module.{Module}
use Rattle.ir_module.specs.Operands.{operands}
use Rattle.facts.specs.Uses.{is_phi}
use Rattle.rule_terms.specs.System.{System}
use Rattle.positions.specs.Numbering.{Numbered}
use Rattle.rule_says.specs.Meeting.{Meets}
use Rattle.rule_says.specs.Listing.{AskAll, SpeakAny}
use Rattle.rule_says.proofs.Mets.{meets_none, meets_iff, meets_then}
use Rattle.std.specs.Option.{option_map}
use Rattle.std.proofs.lemmas.Option.{slice_get-map, slice_get_within}
use Rattle.ir_module.specs.declared.op.Op.TheVariants as op
use Rattle.ir_module.specs.declared.module.Def.TheVariants as def
use Rattle.ir_module.specs.declared.module.Block.{Block}
use Rattle.ir_module.specs.declared.module.Seg.{Seg}
use Rattle.ir_module.specs.declared.module.ValueInfo.{ValueInfo}
use Rattle.ir_module.specs.Calls.{has_blocks}
use Rattle.ir_module.specs.Places.{spot, instr_at, IsIn}
use Rattle.ir_module.specs.Formed.{sources}
use Rattle.ir_module.specs.WellFormed.{IsWellFormed, HasHome, HasResult, IsMadeAt}
use Rattle.ir_module.proofs.Spots.{at_spot, formed_at}
use Rattle.facts.specs.Bodies.{is_body}
use Rattle.facts.specs.Facts.{value}
use Rattle.positions.specs.Order.{belongs}
use Rattle.rule_says.specs.Reading.{IsNumbering}
use Rattle.aa_memory.proofs.Together.{instr_known, some_blocks}
use Rattle.aa_capture.specs.Capture.{AsksCapture, SpeaksCapture}
use Rattle.aa_capture.specs.Asked.{IsResultKnown, arms_of, AsksUse, SpeaksUse, AsksPlain, SpeaksPlain, AsksArms, SpeaksArms, AsksInstr, SpeaksInstr, AsksUses}
use Rattle.aa_capture.specs.Asked.{SpeaksUses}
use Rattle.aa_capture.specs.Arms.{AreArmsKnown}
use Rattle.aa_capture.proofs.Whole.{phi_of, asks_down, asks_up, speaks_down, speaks_up}

module _ (m : Module) (ps : Numbered) (k : ℕ) (i : Instr) where
  -- an instruction that is no phi
  pub plain_met : (s t : System) → is_phi i.op ≡ false →
      Meets m ps s t (AskAll (operands i.op) (λ n w. AsksUse m k i n w)) (SpeakAny (operands i.op) (λ n w. SpeaksUse m k i n w)) →
      Meets m ps s t (AsksPlain m k i) (SpeaksPlain m k i)
  plain_met s t plain met =
      meets_iff m ps s t (AskAll (operands i.op) (λ n w. AsksUse m k i n w)) (AsksPlain m k i) (SpeakAny (operands i.op) (λ n w. SpeaksUse m k i n w))
      (SpeaksPlain m k i) met (λ held p bit. ((λ h e. h), λ h. h plain)) (λ p y. ((λ w. (plain, w)), λ w. w.1))

  -- a phi has no plain uses
  pub phi_met : (s : System) → is_phi i.op ≡ true → Meets m ps s s (AsksPlain m k i) (SpeaksPlain m k i)
  phi_met s phi =
      meets_iff m ps s s (λ held p bit. Unit {0}) (AsksPlain m k i) (λ p y. ⊥) (SpeaksPlain m k i) (meets_none m ps s)
      (λ held p bit. ((λ h e. absurd (both_ways (is_phi i.op) e phi)), λ h. tt))
      (λ p y. ((λ w. absurd w), λ w. absurd (both_ways (is_phi i.op) w.0 phi)))

-- ---- arms

-- an arm as it is read from a list of them
abbrev pub arm_in : List Arm → ℕ → Arm
arm_in arms j = get_or arms j (record { val = record { val = operand.Value (record { 0 = 0 }); ty = record { 0 = 0 }; at = 0 }; from = record { 0 = 0 } })

pub arm_there : (arms : List Arm) (j : ℕ) → j < length arms → slice_get arms j ≡ Some (arm_in arms j)
arm_there arms j l =
    slice_get-get_or arms j (record { val = record { val = operand.Value (record { 0 = 0 }); ty = record { 0 = 0 }; at = 0 }; from = record { 0 = 0 } }) l

-- ---- all together

module _ (m : Module) (ps : Numbered) where
  pub instr_met : (k : ℕ) (i : Instr) (a b c : System) → Meets m ps a b (AsksPlain m k i) (SpeaksPlain m k i) →
      Meets m ps b c (AsksArms m k i) (SpeaksArms m k i) → Meets m ps a c (AsksInstr m k i) (SpeaksInstr m k i)
  instr_met k i a b c plain arms = meets_then m ps a b c (AsksPlain m k i) (AsksArms m k i) (SpeaksPlain m k i) (SpeaksArms m k i) plain arms

  pub all_met : (a b : System) → Meets m ps a b (AsksUses m) (SpeaksUses m) → Meets m ps a b (AsksCapture m) (SpeaksCapture m)
  all_met a b met =
      meets_iff m ps a b (AsksUses m) (AsksCapture m) (SpeaksUses m) (SpeaksCapture m) met
      (λ held p bit. (asks_down m held p bit, asks_up m held p bit)) (λ p y. (speaks_down m p y, speaks_up m p y))

-- ---- what has a position

module _ (m : Module) (ps : Numbered) (formed : IsWellFormed m) (is : IsNumbering m ps) (k : ℕ) (seg : Seg) (at : ℕ) (i :
    Instr) (at_seg : slice_get m.segs k ≡ Some
    seg) (at_place : slice_get seg.instrs at ≡ Some i) where
  at_there : instr_at m (spot k at) ≡ Some i
  at_there = at_spot m (spot k at) seg i at_seg at_place

  -- the arms of an instruction
  pub arms_known : AreArmsKnown m ps (arms_of i.op)
  arms_known j arm is_arm = (instr_known m ps formed is k seg at i at_seg at_place j arm.val operand, slice_get_within m.blocks arm.from.0 from.0 from.1)
    where
      phi : i.op ≡ op.Phi (arms_of i.op)
      phi = phi_of i.op j arm is_arm

      operand : slice_get (operands i.op) j ≡ Some arm.val
      operand = ap (λ o. slice_get (operands o) j) phi
          ∙ (slice_get-map (λ (a : Arm). a.val) (arms_of i.op) j ∙ ap (option_map (λ (a : Arm). a.val)) is_arm)

      source : slice_get (sources i.op) j ≡ Some arm.from
      source = ap (λ o. slice_get (sources o) j) phi
          ∙ (slice_get-map (λ (a : Arm). a.from) (arms_of i.op) j ∙ ap (option_map (λ (a : Arm). a.from)) is_arm)

      from : (b : Block) × (slice_get m.blocks arm.from.0 ≡ Some b)
      from = let here = formed_at m (spot k at) i formed at_there in let b = here.in_func.arms j arm.from source in (b.0, b.1)

  -- its result
  pub result_known : IsResultKnown ps i
  result_known v made = is.positions.all (value v.0) belongs_there
    where
      info : HasResult m k at i
      info = (formed_at m (spot k at) i formed at_there).result

      w : (info : ValueInfo) × (slice_get m.values v.0 ≡ Some info) × (info.def ≡ def.Instr (spot k at)) × (info.ty ≡ i.ty)
      w = info v made

      made_at : IsMadeAt m v.0 w.0 (def.Instr (spot k at))
      made_at = subst (λ d. IsMadeAt m v.0 w.0 d) w.2 (formed.values v.0 w.0 w.1).made

      within : IsIn m w.0.func.0 (spot k at)
      within = made_at.3

      home : HasHome m within.seg.block.0 within.block
      home = (formed.blocks within.seg.block.0 within.block within.at_block).home

      body : is_body m w.0.func.0 ≡ true
      body = ap (is_body m) (sym within.in_func) ∙ (ap has_blocks home.1 ∙ some_blocks home.0 home.2)

      belongs_there : belongs m (slice_get m.values v.0) ≡ true
      belongs_there = ap (belongs m) w.1 ∙ body
