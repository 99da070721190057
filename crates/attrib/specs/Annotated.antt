-- What is printed for a text.
use Rattle.std.specs.Prelude.{◌≡◌, ℕ, Bool, List}
use Rattle.ir_module.specs.declared.module.Module.{Module}
use Rattle.facts.specs.Facts.{Fact}
use Rattle.facts.specs.Justified.{IsGreatest}
use Rattle.manifest.specs.Additions.{insertions_of}
use Rattle.attr_list.specs.Listed.{list_text}
use Rattle.attr_list.specs.Summed.{summary_text}
use Rattle.soundness.specs.Soundness.{IsSound}
use Rattle.laws_printed.specs.Printed.{ArePrintedHolding}
use Rattle.weave.specs.Woven.{Woven}
use Rattle.command_line.specs.declared.asked.Emit.{Emit}
use Rattle.command_line.specs.declared.asked.Emit.TheVariants as emit
use Rattle.accept.specs.Accepted.{Accepted}

-- the text has a module, which is accepted
abbrev pub IsAccepted : List ℕ → Type 0
IsAccepted b = (m : Module) × Accepted b m

-- what is printed of the text b of a module for a set of facts: the text with the words put in, a line for each insertion, or how often
-- each attribute is added
abbrev pub IsShown : Emit → List ℕ → Module → (Fact → Bool) → List ℕ → Type 0
IsShown emit.Module b m held out = Woven b (insertions_of m held) out
IsShown emit.List b m held out = out ≡ list_text (insertions_of m held)
IsShown emit.Summary b m held out = out ≡ summary_text m held (insertions_of m held)

-- The text out tells of the accepted text b exactly the words of the greatest self-supporting set of facts of its module, in the
-- form that is asked for; and in every honest run of the module each fact of the set holds, and so does each attribute that is added.
pub record IsAnnotated (form : Emit) (b out : List ℕ) : Type 0 where
  pub m : Module
  pub accepted : Accepted b m
  pub held : Fact → Bool
  pub greatest : IsGreatest m held
  pub shown : IsShown form b m held out
  pub holds : IsSound m held
  pub printed : ArePrintedHolding m held
