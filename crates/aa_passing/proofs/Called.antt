-- Functions that are no bodies, and what is called.
use Rattle.std.proofs.Common.{◌≡◌, ◌∙◌, ◌<◌, [], inl, inr, ℕ, Bool, true, false, length, get_or, slice_get, List, Option, None, Some, sym, ap, subst}
use Rattle.std.proofs.lemmas.Option.{same_Some, none-some, slice_get-get_or}
use Rattle.std.specs.Option.{option_map_or}
use Rattle.attr_ids.specs.declared.ids.FuncId.{FuncId}
use Rattle.ir_module.specs.declared.op.Op.{Op}
use Rattle.ir_module.specs.declared.module.Func.{Func}
use Rattle.ir_module.specs.declared.module.Param.{Param}
use Rattle.ir_module.specs.declared.module.Module.{Module}
use Rattle.ir_module.specs.Calls.{direct_callee}
use Rattle.facts.specs.declared.pos.Pos.{Pos}
use Rattle.facts.specs.Bodies.{is_body, param_of, param_in, param_count}
use Rattle.facts.specs.Facts.{Fact, entry}
use Rattle.facts.specs.Masks.{is_bit}
use Rattle.positions.specs.Numbering.{Numbered}
use Rattle.rule_terms.specs.System.{System}
use Rattle.rule_says.specs.Meeting.{Meets}
use Rattle.rule_says.proofs.Mets.{meets_iff, meets_none}
use Rattle.aa_passing.specs.Entered.{AsksStarts, SpeaksStarts, SpeaksPass, AsksPasses, SpeaksPasses, AsksCall, SpeaksCall}
use Rattle.operand_says.proofs.Groups.{clash}
use Rattle.aa_passing.proofs.Passed.{entry_body}

pub few_of : (m : Module) (f : ℕ) (func : Func) → slice_get m.funcs f ≡ Some func → ((g : ℕ) → param_count m g < 256) → length func.params < 256
few_of m f func there few = subst (λ (o : Option Func). option_map_or (λ func. length func.params) o 0 < 256) there (few f)

pub param_there : (m : Module) (f at : ℕ) (func : Func) (q : Param) → slice_get m.funcs f ≡ Some func → slice_get func.params at ≡ Some q
    → param_of m f at ≡ Some q
param_there m f at func q there is = ap (param_in at) there ∙ is

-- the parameter that a loop reads
abbrev pub item_in : List Param → ℕ → Param
item_in qs at = get_or qs at (record {
  value = record { 0 = 0 };
  ty = record { 0 = 0 };
  attrs = record {
    nonnull = false;
    nocapture = false;
    captures = false;
    readnone = false;
    readonly = false;
    writeonly = false;
    returned = false;
    sret = false;
    writable = false;
    align = 0;
    dereferenceable = 0;
    bad = false;
  };
  place = 0;
})

pub item_there : (qs rs : List Param) (at : ℕ) → qs ≡ rs → at < length rs → slice_get rs at ≡ Some (item_in qs at)
item_there qs rs at same inside = subst (λ (zs : List Param). slice_get rs at ≡ Some (item_in zs at)) (sym same) (slice_get-get_or rs at (item_in [] 0) inside)

module _ (m : Module) (ps : Numbered) (s : System) (f : ℕ) (func : Func) (other : is_body m f ≡ false) where
  no_entry : (at : ℕ) (p : Pos) (bit : ℕ) → p ≡ entry f at → is_bit m p bit ≡ true → ⊥
  no_entry at p bit same has = clash (sym (entry_body m f at bit (subst (λ r. is_bit m r bit ≡ true) same has)) ∙ other)

  pub starts_none : Meets m ps s s (AsksStarts m f func) (SpeaksStarts m f func)
  starts_none = meets_iff m ps s s (λ held p bit. Unit {0}) (AsksStarts m f func) (λ p y. ⊥) (SpeaksStarts m f func) (meets_none m ps s)
      (λ held p bit. ((λ h at q there same has ungiven. absurd (no_entry at p bit same has)), λ h. tt)) (λ p y. ((λ h. absurd h), λ h. h.3))

  pub passes_none : (k : ℕ) (o : Op) → Meets m ps s s (AsksPasses m k o f func) (SpeaksPasses m k o f func)
  passes_none k o = meets_iff m ps s s (λ held p bit. Unit {0}) (AsksPasses m k o f func) (λ p y. ⊥) (SpeaksPasses m k o f func) (meets_none m ps s)
      (λ held p bit. ((λ h at q there. ((λ same has. absurd (no_entry at p bit same has)), λ same has. absurd (no_entry at p bit same has))), λ h. tt))
      (λ p y. ((λ h. absurd h), λ h. none p y h.0 h.1 h.3))
    where
      none : (p : Pos) (y : Fact) (at : ℕ) (q : Param) → SpeaksPass m k o f at q p y → ⊥
      none p y at q (inl h) = no_entry at p h.0 h.1 h.2
      none p y at q (inr h) = no_entry at p h.0 h.1 h.2

module _ (m : Module) (ps : Numbered) (k : ℕ) (o : Op) where
  pub call_none : (s : System) → direct_callee m o ≡ None → Meets m ps s s (AsksCall m k o) (SpeaksCall m k o)
  call_none s other = meets_iff m ps s s (λ held p bit. Unit {0}) (AsksCall m k o) (λ p y. ⊥) (SpeaksCall m k o) (meets_none m ps s)
      (λ held p bit. ((λ h f func is there. absurd (none-some (record { 0 = f }) (sym other ∙ is))), λ h. tt))
      (λ p y. ((λ h. absurd h), λ h. none-some (record { 0 = h.0 }) (sym other ∙ h.2)))

  one_callee : (f : FuncId) (g : ℕ) → direct_callee m o ≡ Some f → direct_callee m o ≡ Some (record { 0 = g }) → f.0 ≡ g
  one_callee f g is there = ap (λ (x : FuncId). x.0) (same_Some f (record { 0 = g }) (sym is ∙ there))

  pub call_lost : (s : System) (f : FuncId) → direct_callee m o ≡ Some f → slice_get m.funcs f.0 ≡ None → Meets m ps s s (AsksCall m k o) (SpeaksCall m k o)
  call_lost s f is lost = meets_iff m ps s s (λ held p bit. Unit {0}) (AsksCall m k o) (λ p y. ⊥) (SpeaksCall m k o) (meets_none m ps s)
      (λ held p bit. ((λ h g func there at. absurd (no g func there at)), λ h. tt))
      (λ p y. ((λ h. absurd h), λ h. no h.0 h.1 h.2 h.3))
    where
      no : (g : ℕ) (func : Func) → direct_callee m o ≡ Some (record { 0 = g }) → slice_get m.funcs g ≡ Some func → ⊥
      no g func there at = none-some func (sym lost ∙ subst (λ n. slice_get m.funcs n ≡ Some func) (sym (one_callee f g is there)) at)

  pub call_met : (a b : System) (f : FuncId) (func : Func) → direct_callee m o ≡ Some f → slice_get m.funcs f.0 ≡ Some func
      → Meets m ps a b (AsksPasses m k o f.0 func) (SpeaksPasses m k o f.0 func) → Meets m ps a b (AsksCall m k o) (SpeaksCall m k o)
  call_met a b f func is there met =
      meets_iff m ps a b (AsksPasses m k o f.0 func) (AsksCall m k o) (SpeaksPasses m k o f.0 func) (SpeaksCall m k o) met
      (λ held p bit. ((λ h g other named at. down held p bit g other named at h), λ h. h f.0 func is there))
      (λ p y. ((λ h. (f.0, func, is, there, h)), λ h. up p y h.0 h.1 h.2 h.3 h.4))
    where
      same : (g : ℕ) (other : Func) → direct_callee m o ≡ Some (record { 0 = g }) → slice_get m.funcs g ≡ Some other → other ≡ func
      same g other named at = same_Some other func (sym at ∙ (subst (λ n. slice_get m.funcs n ≡ Some func) (one_callee f g is named) there))

      down : (held : Fact → Bool) (p : Pos) (bit g : ℕ) (other : Func) → direct_callee m o ≡ Some (record { 0 = g }) → slice_get m.funcs g ≡ Some other
          → AsksPasses m k o f.0 func held p bit → AsksPasses m k o g other held p bit
      down held p bit g other named at h =
          subst (λ (x : Func). AsksPasses m k o g x held p bit) (sym (same g other named at))
          (subst (λ n. AsksPasses m k o n func held p bit) (one_callee f g is named) h)

      up : (p : Pos) (y : Fact) (g : ℕ) (other : Func) → direct_callee m o ≡ Some (record { 0 = g }) → slice_get m.funcs g ≡ Some other
          → SpeaksPasses m k o g other p y → SpeaksPasses m k o f.0 func p y
      up p y g other named at h =
          subst (λ (x : Func). SpeaksPasses m k o f.0 x p y) (same g other named at)
          (subst (λ n. SpeaksPasses m k o n other p y) (sym (one_callee f g is named)) h)
