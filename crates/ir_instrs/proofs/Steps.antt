-- Operands that are read one behind another, at types that were looked up.
use Rattle.std.proofs.Common.{◌≡◌, ◌-◌, ◌≤◌, List, [], ◌∷◌, length, drop, take, take_all, get_or, ap, subst, ◌∙◌, arith}
use Rattle.attr_ids.specs.declared.ids.TypeId.{TypeId}
use Rattle.ir_tree.specs.declared.values.Value.{Value}
use Rattle.ir_tree.specs.declared.values.Tvalue.{Tvalue}
use Rattle.ir_module.specs.declared.op.Written.{Written}
use Rattle.ir_consts.specs.declared.consts.Laid.{Laid}
use Rattle.ir_instrs.specs.Reading.{Reading, Parts}
use Rattle.ir_instrs.specs.Uses.{Use, behind, Takes}
use Rattle.ir_instrs.specs.Uses.Use.{Typed}
use Rattle.ir_instrs.specs.Operands.{written, tvalue_uses}
use Rattle.ir_instrs.specs.Ops.{pair_uses, second, tvalues_uses}
use Rattle.ir_instrs.proofs.Taking.{takes_both}

-- what is made behind uses
pub moved : {Y : Type 0} (r : Reading) (us : List Use) (old new : Laid) (f : Parts → Y) (y : Y) → Takes r us old new → y ≡ f new.parts.items →
    y ≡ f (behind r old.parts.items us)
moved r us old new f y takes is = is ∙ ap f takes.parts

-- two values of one type
pub pair_taken : (r : Reading) (t u : TypeId) (left right : Value) (old mid new : Laid) → t ≡ u → Takes r (Typed t left ∷ []) old mid →
    Takes r (Typed t right ∷ []) mid new → Takes r (pair_uses u left right) old new
pair_taken r t u left right old mid new same a b =
    subst (λ t. Takes r (pair_uses t left right) old new) same (takes_both r (Typed t left ∷ []) (Typed t right ∷ []) old mid new a b)

pub first_is : (r : Reading) (t u : TypeId) (left : Value) (ps : Parts) (w : Written) → t ≡ u → w ≡ written r ps t left → w ≡ written r ps u left
first_is r t u left ps w same is = is ∙ ap (λ t. written r ps t left) same

pub second_is : (r : Reading) (t u : TypeId) (left right : Value) (old mid : Laid) (w : Written) → t ≡ u → Takes r (Typed t left ∷ []) old mid →
    w ≡ written r mid.parts.items t right → w ≡ second r old.parts.items u left right
second_is r t u left right old mid w same takes is =
    moved r (Typed t left ∷ []) old mid (λ ps. written r ps t right) w takes is ∙ ap (λ t. second r old.parts.items t left right) same

-- the operand in front, and those behind it
pub front_taken : (r : Reading) (xs : List Tvalue) (x : Tvalue) (old mid new : Laid) → 1 ≤ length xs → x ≡ get_or xs 0 x →
    Takes r (tvalue_uses r x) old mid → Takes r (tvalues_uses r (take (length xs - 1) (drop 1 xs))) mid new → Takes r (tvalues_uses r xs) old new
front_taken r [] x old mid new l is a b = absurd (omega arith)
front_taken r (y ∷ ys) x old mid new l is a b =
    takes_both r (tvalue_uses r y) (tvalues_uses r ys) old mid new (subst (λ z. Takes r (tvalue_uses r z) old mid) is a)
    (subst (λ zs. Takes r (tvalues_uses r zs) mid new) (take_all (length (y ∷ ys) - 1) ys (omega arith)) b)
