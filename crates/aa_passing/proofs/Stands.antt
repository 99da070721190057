-- Where a `ret` stands, and what it returns.
use Rattle.std.proofs.Common.{◌≡◌, ◌∙◌, ◌<◌, ℕ, Bool, true, length, slice_get, Option, None, Some, refl, sym, ap, subst}
use Rattle.std.proofs.lemmas.Option.{slice_get_within, same_Some}
use Rattle.ir_module.specs.declared.op.Op.{Op}
use Rattle.ir_module.specs.declared.op.Op.TheVariants as op
use Rattle.ir_module.specs.declared.op.Written.{Written}
use Rattle.ir_module.specs.declared.op.Instr.{Instr}
use Rattle.ir_module.specs.declared.module.Seg.{Seg}
use Rattle.ir_module.specs.declared.module.Block.{Block}
use Rattle.ir_module.specs.declared.module.Module.{Module}
use Rattle.ir_module.specs.Operands.{operands}
use Rattle.ir_module.specs.Places.{spot, instr_at, IsSegIn}
use Rattle.ir_module.specs.WellFormed.{IsWellFormed}
use Rattle.ir_module.proofs.Spots.{stands}
use Rattle.ir_module.specs.declared.module.Func.{Func}
use Rattle.ir_module.specs.Calls.{has_blocks, is_open}
use Rattle.ir_uses.specs.declared.use_lists.Uses.{Uses}
use Rattle.ir_uses.specs.Uses.{AreUsesOf}
use Rattle.facts.specs.Bodies.{is_body}
use Rattle.positions.specs.Numbering.{Numbered}
use Rattle.rule_says.specs.Reading.{IsNumbering}
use Rattle.rule_terms.specs.System.{System}
use Rattle.rule_says.specs.Meeting.{Meets}
use Rattle.rule_says.proofs.Mets.{meets_iff}
use Rattle.operand_says.specs.Asked.{IsReadable}
use Rattle.aa_passing.specs.Returned.{AsksRetOf, SpeaksRetOf, AsksRet, SpeaksRet}
use Rattle.operand_says.proofs.Given.{with_blocks, readable}

pub seg_there : (m : Module) (k : ℕ) (i : Instr) → (at : ℕ) × (instr_at m (spot k at) ≡ Some i) → k < length m.segs
seg_there m k i there = let here = stands m (spot k there.0) i there.1 in slice_get_within m.segs k here.seg here.at_seg

-- a body has the segments that stand in it
pub body_of : (m : Module) (f k : ℕ) → IsWellFormed m → IsSegIn m f k → is_body m f ≡ true
body_of m f k formed within =
    let home = (formed.blocks within.seg.block.0 within.block within.at_block).home in
    subst (λ g. is_body m g ≡ true) within.in_func (with_blocks (slice_get m.funcs within.block.func.0) home.0 within.seg.block.0 home.1 home.2)

pub ret_readable : (m : Module) (ps : Numbered) → IsWellFormed m → IsNumbering m ps → (k : ℕ) (i : Instr) (val : Option Written)
    → (at : ℕ) × (instr_at m (spot k at) ≡ Some i) → i.op ≡ op.Ret val → (w : Written) → val ≡ Some w → IsReadable ps w.val
ret_readable m ps formed numbering k i val there is w some =
    readable m ps formed numbering (spot k there.0) i 0 w there.1 (ap (λ (o : Op). slice_get (operands o) 0) (is ∙ ap op.Ret some))

-- a segment stands in one body
pub one_body : (m : Module) (k f g : ℕ) → IsSegIn m f k → IsSegIn m g k → g ≡ f
one_body m k f g first second =
    let seg : second.seg ≡ first.seg = (let a = first.at_seg in let b = second.at_seg in cc) in
    let block : second.block ≡ first.block = (let a = first.at_block in let b : slice_get m.blocks first.seg.block.0 ≡ Some second.block =
    subst (λ (s : Seg). slice_get m.blocks s.block.0 ≡ Some second.block) seg second.at_block in cc) in
    sym second.in_func ∙ (ap (λ (b : Block). b.func.0) block ∙ first.in_func)

-- ---- the body of a segment
module _ (m : Module) (ps : Numbered) (k f : ℕ) (within : IsSegIn m f k) (old new : System) where
  pub ret_met : (o : Op) → Meets m ps old new (AsksRetOf m k f o) (SpeaksRetOf m k f o) → Meets m ps old new (AsksRet m k o) (SpeaksRet m k o)
  ret_met o met =
      meets_iff m ps old new (AsksRetOf m k f o) (AsksRet m k o) (SpeaksRetOf m k f o) (SpeaksRet m k o) met
      (λ held p bit. ((λ h g there. subst (λ n. AsksRetOf m k n o held p bit) (sym (one_body m k f g within there)) h), λ h. h f within))
      (λ p y. ((λ h. (f, within, h)), λ h. subst (λ n. SpeaksRetOf m k n o p y) (one_body m k f h.0 within h.1) h.2))

  pub val_met : (o : Op) (val : Option Written) → o ≡ op.Ret val → Meets m ps old new (AsksRetOf m k f (op.Ret val)) (SpeaksRetOf m k f (op.Ret val))
      → Meets m ps old new (AsksRet m k o) (SpeaksRet m k o)
  val_met o val is met = subst (λ x. Meets m ps old new (AsksRet m k x) (SpeaksRet m k x)) (sym is) (ret_met (op.Ret val) met)

-- ---- open bodies
pub open_told : (m : Module) (u : Uses) → AreUsesOf m u → (f : ℕ) (r : Bool) → f < length m.funcs → slice_get u.bodies f ≡ Some r → is_open m f ≡ r
open_told m u uses f r there told = same_Some (is_open m f) r (sym (uses.bodies f there) ∙ told)

pub func_within : (m : Module) (f : ℕ) → is_body m f ≡ true → f < length m.funcs
func_within m f body = by (slice_get m.funcs f) refl body
  where
    by : (o : Option Func) → slice_get m.funcs f ≡ o → has_blocks o ≡ true → f < length m.funcs
    by (Some func) is e = slice_get_within m.funcs f func is
    by None is e = absurd (cc)
