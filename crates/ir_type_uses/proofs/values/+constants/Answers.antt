use Rattle.std.proofs.Common.{rules, ◌≡◌, sym, ap, ◌∙◌}
use Rattle.ir_tree.specs.declared.constants.Const.TheOpen.Const-F.{Array, Struct, Packed, GetElementPtr, Cast, Binop}
use Rattle.ir_tree.specs.declared.constants.Const.TheViews.{roll-Const, the_lemmas}
use Rattle.ir_type_uses.specs.Uses.{listed}
use Rattle.ir_type_uses.specs.Written as spec
use Rattle.ir_type_uses.proofs.Consts.{const_array, const_struct, const_packed, const_gep, const_cast, const_binop}
use Rattle.ir_type_uses.proofs.Joined.{then_call, as_said}
use Rattle.ir_type_uses.proofs.values.+constants.Goals as goal

pub push_const-returns-in-Array : goal.push_const-returns-in-Array
push_const-returns-in-Array t c =
    let is : roll-Const (Array c.in-Array.open c.as_slice.result.now) ≡ c.args.value.now = search (rules, the_lemmas) in
    as_said c.push_tconsts.result (listed c.args.uses.now.items) (listed c.push_tconsts.new.uses.items) _ _ c.push_tconsts.ensures
    (sym (const_array c.args.at c.in-Array.open c.as_slice.result.now) ∙ ap (spec.const c.args.at) is)

pub push_const-returns-in-Struct : goal.push_const-returns-in-Struct
push_const-returns-in-Struct t c =
    let is : roll-Const (Struct c.in-Struct.open c.as_slice-in-Struct.result.now) ≡ c.args.value.now = search (rules, the_lemmas) in
    as_said c.push_tconsts-in-Struct.result (listed c.args.uses.now.items) (listed c.push_tconsts-in-Struct.new.uses.items) _ _ c.push_tconsts-in-Struct.ensures
    (sym (const_struct c.args.at c.in-Struct.open c.as_slice-in-Struct.result.now) ∙ ap (spec.const c.args.at) is)

pub push_const-returns-in-Packed : goal.push_const-returns-in-Packed
push_const-returns-in-Packed t c =
    let is : roll-Const (Packed c.in-Packed.open c.as_slice-in-Packed.result.now) ≡ c.args.value.now = search (rules, the_lemmas) in
    as_said c.push_tconsts-in-Packed.result (listed c.args.uses.now.items) (listed c.push_tconsts-in-Packed.new.uses.items) _ _ c.push_tconsts-in-Packed.ensures
    (sym (const_packed c.args.at c.in-Packed.open c.as_slice-in-Packed.result.now) ∙ ap (spec.const c.args.at) is)

pub push_const-returns-in_ok-push-in-GetElementPtr : goal.push_const-returns-in_ok-push-in-GetElementPtr
push_const-returns-in_ok-push-in-GetElementPtr t c =
    let is : roll-Const (GetElementPtr c.in-GetElementPtr.op c.in-GetElementPtr.flags c.get.result.now c.as_slice-in-GetElementPtr.result.now) ≡ c.args.value.now
    = search (rules, the_lemmas) in
    as_said c.push_tconsts-in-GetElementPtr.result (listed c.args.uses.now.items) (listed c.push_tconsts-in-GetElementPtr.new.uses.items) _ _
    (then_call c.push_tconsts-in-GetElementPtr.result (listed c.args.uses.now.items) (listed c.push.new.uses.items)
    (listed c.push_tconsts-in-GetElementPtr.new.uses.items) _ _ c.in_ok-push-in-GetElementPtr.ensures c.push_tconsts-in-GetElementPtr.ensures)
    (sym (const_gep c.args.at c.in-GetElementPtr.op c.in-GetElementPtr.flags c.get.result.now c.as_slice-in-GetElementPtr.result.now)
    ∙ ap (spec.const c.args.at) is)

pub push_const-returns-in_ok-push_tconst-in-Cast : goal.push_const-returns-in_ok-push_tconst-in-Cast
push_const-returns-in_ok-push_tconst-in-Cast t c =
    let is : roll-Const (Cast c.in-Cast.op c.get-in-Cast.result.now c.get-in-Cast-2.result.now) ≡ c.args.value.now = search (rules, the_lemmas) in
    as_said c.push-in-Cast.result (listed c.args.uses.now.items) (listed c.push-in-Cast.new.uses.items) _ _
    (then_call c.push-in-Cast.result (listed c.args.uses.now.items) (listed c.push_tconst.new.uses.items) (listed c.push-in-Cast.new.uses.items) _ _
    c.in_ok-push_tconst-in-Cast.ensures c.push-in-Cast.ensures)
    (sym (const_cast c.args.at c.in-Cast.op c.get-in-Cast.result.now c.get-in-Cast-2.result.now) ∙ ap (spec.const c.args.at) is)

pub push_const-returns-in_ok-push_tconst-in-Binop : goal.push_const-returns-in_ok-push_tconst-in-Binop
push_const-returns-in_ok-push_tconst-in-Binop t c =
    let is : roll-Const (Binop c.in-Binop.op c.in-Binop.flags c.get-in-Binop.result.now c.get-in-Binop-2.result.now) ≡ c.args.value.now =
    search (rules, the_lemmas) in
    as_said c.push_tconst-in-Binop-2.result (listed c.args.uses.now.items) (listed c.push_tconst-in-Binop-2.new.uses.items) _ _
    (then_call c.push_tconst-in-Binop-2.result (listed c.args.uses.now.items) (listed c.push_tconst-in-Binop.new.uses.items)
    (listed c.push_tconst-in-Binop-2.new.uses.items) _ _ c.in_ok-push_tconst-in-Binop.ensures c.push_tconst-in-Binop-2.ensures)
    (sym (const_binop c.args.at c.in-Binop.op c.in-Binop.flags c.get-in-Binop.result.now c.get-in-Binop-2.result.now) ∙ ap (spec.const c.args.at) is)
