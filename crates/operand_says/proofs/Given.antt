-- Arguments as terms, and operands whose values have positions.
use Rattle.std.proofs.Common.{◌≡◌, ◌∙◌, ◌==◌, not, eqb-true, ℕ, suc, Bool, true, false, slice_get, Option, None, Some, refl, sym, ap, subst, arith}
use Rattle.std.specs.Option.{option_map_or}
use Rattle.std.proofs.lemmas.Option.{none-some, same_Some}
use Rattle.std.proofs.lemmas.Nat.Bits.{bit_at-zero}
use Rattle.ir_module.specs.declared.op.Operand.{Operand}
use Rattle.ir_module.specs.declared.op.Operand.TheVariants as operand
use Rattle.ir_module.specs.declared.op.Written.{Written}
use Rattle.ir_module.specs.declared.op.Op.{Op}
use Rattle.ir_module.specs.declared.op.Op.TheVariants as op
use Rattle.ir_module.specs.declared.op.Instr.{Instr}
use Rattle.ir_module.specs.declared.module.Spot.{Spot}
use Rattle.ir_module.specs.declared.module.Func.{Func}
use Rattle.ir_module.specs.declared.module.Module.{Module}
use Rattle.ir_module.specs.Places.{instr_at}
use Rattle.ir_module.specs.Operands.{operands}
use Rattle.ir_module.specs.Calls.{has_blocks}
use Rattle.ir_module.specs.Formed.{IsOperandIn, IsBlockOf}
use Rattle.ir_module.specs.WellFormed.{IsWellFormed}
use Rattle.ir_module.proofs.Spots.{formed_at}
use Rattle.facts.specs.declared.pos.Pos.TheVariants as pos
use Rattle.facts.specs.Bodies.{is_body}
use Rattle.facts.specs.Facts.{Fact}
use Rattle.facts.specs.Known.{written_has, arg_at, arg_has, OperandSpeaks}
use Rattle.positions.specs.Order.{belongs}
use Rattle.positions.specs.Numbering.{Numbered}
use Rattle.rule_terms.specs.declared.term.NewTerm.{NewTerm}
use Rattle.rule_terms.specs.declared.term.NewTerm.TheOpen.{NewTerm-F as new}
use Rattle.rule_terms.specs.declared.term.NewTerm.TheViews.{roll-NewTerm}
use Rattle.rule_says.specs.Reading.{IsNumbering}
use Rattle.rule_says.specs.Saying.{IsSet, Says}
use Rattle.rule_says.proofs.Terms.{says_bits, says_iff}
use Rattle.operand_says.specs.Asked.{AsksOperand, SpeaksOperand, AsksArgument, SpeaksArgument, IsReadable}

module _ (m : Module) (ps : Numbered) (o : Op) (at asked : ℕ) where
  -- an argument is an operand
  pub given_says : (t : NewTerm) (w : Written) → arg_at o at ≡ Some w → Says m ps asked t (AsksOperand m w) (SpeaksOperand w asked)
      → Says m ps asked t (AsksArgument m o at) (SpeaksArgument o at asked)
  given_says t w is says =
      says_iff m ps asked t (AsksOperand m w) (AsksArgument m o at) (SpeaksOperand w asked) (SpeaksArgument o at asked) says
      (λ held bit set. ((λ h. has held bit ∙ h), λ h. sym (has held bit) ∙ h))
      (λ y. ((λ h. (h.0, h.1, (w, is, h.2))), λ h. (h.0, h.1, back y h.0 h.2.0 h.2.1 h.2.2)))
    where
      has : (held : Fact → Bool) (bit : ℕ) → arg_has m held o at bit ≡ written_has m held w bit
      has held bit = ap (λ (a : Option Written). option_map_or (λ x. written_has m held x bit) a false) is

      back : (y : Fact) (bit : ℕ) (u : Written) → arg_at o at ≡ Some u → OperandSpeaks u bit y → OperandSpeaks w bit y
      back y bit u there speaks = subst (λ (z : Written). OperandSpeaks z bit y) (same_Some u w (sym there ∙ is)) speaks

  -- where there is none, nothing is known
  pub missing_says : (t : NewTerm) → arg_at o at ≡ None → t ≡ roll-NewTerm (new.Const 0)
      → Says m ps asked t (AsksArgument m o at) (SpeaksArgument o at asked)
  missing_says t none is =
      subst (λ z. Says m ps asked z (AsksArgument m o at) (SpeaksArgument o at asked)) (sym is)
      (says_iff m ps asked (roll-NewTerm (new.Const 0)) (λ held bit. IsSet 0 bit) (AsksArgument m o at) (λ y. ⊥) (SpeaksArgument o at asked)
      (says_bits m ps asked 0)
      (λ held bit set. ((λ h. absurd (let z = bit_at-zero bit in omega (arith, h, z))), λ h. absurd (not held bit h)))
      (λ y. ((λ h. absurd h), λ h. none-some h.2.0 (sym none ∙ h.2.1))))
    where
      not : (held : Fact → Bool) (bit : ℕ) → arg_has m held o at bit ≡ true → ⊥
      not held bit h = absurd (let f = ap (λ (a : Option Written). option_map_or (λ x. written_has m held x bit) a false) none in cc)

-- ---- what well formed modules have
pub with_blocks : (o : Option Func) (func : Func) (i : ℕ) → o ≡ Some func → IsBlockOf func i → has_blocks o ≡ true
with_blocks None func i is of = absurd (none-some func is)
with_blocks (Some f) func i is of = by (f.block_count == 0) refl
  where
    count : f.block_count ≡ func.block_count
    count = ap (λ (z : Func). z.block_count) (same_Some f func is)

    by : (b : Bool) → (f.block_count == 0) ≡ b → not (f.block_count == 0) ≡ true
    by false e = ap not e
    by true e = absurd (let none = eqb-true f.block_count 0 e in let from = of.0 in let to = of.1 in omega (arith, from, to, none, count))

module _ (m : Module) (ps : Numbered) (formed : IsWellFormed m) (numbering : IsNumbering m ps) where
  readable_in : (f : ℕ) (o : Operand) → is_body m f ≡ true → IsOperandIn m f o → IsReadable ps o
  readable_in f (operand.Value v) body there = numbering.positions.all (pos.Value v)
      (ap (belongs m) there.1 ∙ ap (is_body m) there.2 ∙ body)
  readable_in f (operand.Int bits fits) body there = tt
  readable_in f (operand.Truth value) body there = tt
  readable_in f operand.Zero body there = tt
  readable_in f operand.Null body there = tt
  readable_in f operand.Undef body there = tt
  readable_in f operand.Poison body there = tt
  readable_in f (operand.Global g) body there = tt
  readable_in f (operand.Func g) body there = tt
  readable_in f (operand.Offset base bytes inbounds wrap) body there = tt
  readable_in f (operand.WrongOffset rule) body there = tt
  readable_in f (operand.Parts shape first count) body there = tt
  readable_in f (operand.AnyInt first count) body there = tt

  -- the values that an instruction names have positions
  pub readable : (s : Spot) (i : Instr) (n : ℕ) (w : Written) → instr_at m s ≡ Some i → slice_get (operands i.op) n ≡ Some w → IsReadable ps w.val
  readable s i n w there at =
      let f = formed_at m s i formed there in
      let home = (formed.blocks f.stands.seg.block.0 f.block f.at_block).home in
      readable_in f.block.func.0 w.val (with_blocks (slice_get m.funcs f.block.func.0) home.0 f.stands.seg.block.0 home.1 home.2) (f.in_func.names n w at).1

  arg_operand : (o : Op) (at : ℕ) (w : Written) → arg_at o at ≡ Some w → slice_get (operands o) (suc at) ≡ Some w
  arg_operand (op.Call call) at w is = is
  arg_operand (op.Invoke call normal unwind) at w is = is
  arg_operand (op.Bin kind flagged a b) at w is = absurd (none-some w is)
  arg_operand (op.Icmp pred flagged a b) at w is = absurd (none-some w is)
  arg_operand (op.Cast kind flagged a) at w is = absurd (none-some w is)
  arg_operand (op.Select c a b) at w is = absurd (none-some w is)
  arg_operand (op.Freeze a) at w is = absurd (none-some w is)
  arg_operand (op.Phi arms) at w is = absurd (none-some w is)
  arg_operand (op.Alloca ty count align) at w is = absurd (none-some w is)
  arg_operand (op.Load ptr align volatile) at w is = absurd (none-some w is)
  arg_operand (op.Store val ptr align volatile) at w is = absurd (none-some w is)
  arg_operand (op.Gep elem base indices inbounds wrap) at w is = absurd (none-some w is)
  arg_operand (op.LandingPad catch_all clauses) at w is = absurd (none-some w is)
  arg_operand (op.Resume val) at w is = absurd (none-some w is)
  arg_operand (op.Ret val) at w is = absurd (none-some w is)
  arg_operand (op.Jump to) at w is = absurd (none-some w is)
  arg_operand (op.Branch c so otherwise) at w is = absurd (none-some w is)
  arg_operand (op.Switch on other cases) at w is = absurd (none-some w is)
  arg_operand op.Unreachable at w is = absurd (none-some w is)

  -- so have those that are passed
  pub readable_arg : (s : Spot) (i : Instr) (at : ℕ) (w : Written) → instr_at m s ≡ Some i → arg_at i.op at ≡ Some w → IsReadable ps w.val
  readable_arg s i at w there is = readable s i (suc at) w there (arg_operand i.op at w is)
