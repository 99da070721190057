-- What is read of an accepted text has what the printing asks for, and what is printed is the annotated text.
use Rattle.std.proofs.Common.{◌≡◌, ◌<◌, ◌≤◌, ℕ, List, Option, Some, None, length, refl, ap, ◌∙◌, inl, arith}
use Rattle.std.specs.Option.{option_map_or}
use Rattle.std.specs.List.{slice_get, slice_index}
use Rattle.std.proofs.lemmas.List.{length-map}
use Rattle.ir_module.specs.declared.module.Func.{Func}
use Rattle.ir_module.specs.declared.module.Module.{Module}
use Rattle.facts.specs.Bodies.{param_count}
use Rattle.facts.specs.Masks.{mask_of}
use Rattle.rule_terms.specs.Greatest as rule
use Rattle.rule_says.specs.Reading.{facts_in}
use Rattle.soundness.proofs.Sound.{sound}
use Rattle.printed_soundness.proofs.Printed.{printed}
use Rattle.accept.specs.Limits.{KeepsLimits}
use Rattle.accept.specs.declared.reading.Ready.{Ready}
use Rattle.accept.specs.Ready.{IsReady}
use Rattle.command_line.specs.declared.asked.Emit.{Emit}
use Rattle.attrib.specs.Annotated.{IsAnnotated, IsShown}

-- a module within the limits has at most 255 parameters in each function
pub few_params : (m : Module) → KeepsLimits m → (f : ℕ) → param_count m f < 256
few_params m limits f = by (slice_get m.funcs f) refl
  where
    by : (func : Option Func) → slice_get m.funcs f ≡ func → option_map_or (λ (x : Func). length x.params) func 0 < 256
    by None is = omega arith
    by (Some func) is =
        let few : length func.params ≤ 255 = limits.sizes.parameters (length func.params) (inl (f, func, is, refl)) in
        omega (arith, few)

module _ (b : List ℕ) (r : Ready) (ready : IsReady b r) (words : List ℕ) (best : rule.IsGreatest r.system words) where
  pub a_word_each : length words ≡ length r.positions.list
  a_word_each = best.is_one.long ∙ (ap length ready.system.masks ∙ (ap length ready.listed.masks ∙ length-map r.positions.list (mask_of r.module)))

  -- what is shown of these words is what is printed
  pub is_annotated : (form : Emit) (out : List ℕ) → IsShown form b r.module (facts_in r.positions (slice_index words)) out → IsAnnotated form b out
  is_annotated form out shown =
      let held = facts_in r.positions (slice_index words) in
      let greatest = ready.composed words best in
      record {
        m = r.module;
        accepted = ready.accepted;
        held = held;
        greatest = greatest;
        shown = shown;
        holds = sound r.module ready.formed held greatest.is_one;
        printed = printed r.module ready.formed held greatest.is_one;
      }
