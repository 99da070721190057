use Rattle.std.proofs.Common.{rules, [], ◌∷◌, Some, None, length, sym, ap, ◌∙◌, subst}
use Rattle.std.proofs.lemmas.Result.{IfOk-weaker, on_ok_weaker}
use Rattle.ir_tree.specs.declared.constants.Const.TheViews.{the_lemmas}
use Rattle.ir_module.specs.declared.op.Written.{Written}
use Rattle.ir_module.specs.WellFormed.{Each, HasPartsBelow}
use Rattle.ir_operands.specs.Constants.{ArePartsBelow}
use Rattle.ir_scopes.specs.Faults.{first_in}
use Rattle.ir_consts.specs.Source.{reading}
use Rattle.ir_consts.specs.Faults.{faults_of, tconst_faults}
use Rattle.ir_consts.specs.Consts.{const_of, tconst_of, tconsts_of, laid, placed, string_of}
use Rattle.std.specs.List.{flat_map}
use Rattle.ir_consts.proofs.Equations.{const_int, const_global, const_string, const_array, const_struct, const_packed, const_gep, const_binop}
use Rattle.ir_consts.proofs.Equations.{faults_array, faults_struct, faults_packed}
use Rattle.ir_consts.proofs.Equations.{faults_gep, faults_binop}
use Rattle.ir_consts.proofs.Lists.{one_found, two_found, one_read, stays_below}
use Rattle.ir_consts.proofs.Runs.{run_read, gep_read, run_below, run_within, two_read, one_alone}
use Rattle.ir_consts.proofs.consts.+constants.Goals as goal

pub constant-tconst-requires-in-Binop : goal.constant-tconst-requires-in-Binop
constant-tconst-requires-in-Binop t c =
    let r = reading c.args.src.now in
    let below = stays_below r c.in-Binop.left c.args.out.now.parts.items c.tconst.new.out.parts.items c.in_ok-left-in-Binop.left
    (c.in_ok-left-in-Binop.ensures.value ∙ ap (λ x. tconst_of r x c.args.out.now.parts.items) c.get-in-Binop.ensures) c.requires.below in
    (search (rules, the_lemmas), (c.requires.there, below))

pub constant-returns-in_ok-val-in-Binop-clause-found : goal.constant-returns-in_ok-val-in-Binop-clause-found
constant-returns-in_ok-val-in-Binop-clause-found t c =
    let r = reading c.args.src.now in
    two_found c.args.out.now.found c.tconst.new.out.found c.tconst-in-Binop.new.out.found (tconst_faults r c.in-Binop.left) (tconst_faults r c.in-Binop.right)
    (c.in_ok-left-in-Binop.ensures.found ∙ ap (λ x. first_in c.args.out.now.found (tconst_faults r x)) c.get-in-Binop.ensures)
    (c.in_ok-right-in-Binop.ensures.found ∙ ap (λ x. first_in c.tconst.new.out.found (tconst_faults r x)) c.get-in-Binop-2.ensures)
    ∙ ap (first_in c.args.out.now.found)
    (sym (faults_binop r c.in-Binop.op c.in-Binop.flags c.in-Binop.left c.in-Binop.right) ∙ ap (faults_of r) (sym c.in-Binop.is))

pub constant-returns-in_ok-val-in-Binop-clause-value : goal.constant-returns-in_ok-val-in-Binop-clause-value
constant-returns-in_ok-val-in-Binop-clause-value t c =
    let r = reading c.args.src.now in
    run_read r c.args.ty c.in-Binop.op None (c.in-Binop.left ∷ c.in-Binop.right ∷ []) c.args.out.now.parts.items
    (c.in_ok-left-in-Binop.left ∷ c.in_ok-right-in-Binop.right ∷ []) c.tconst-in-Binop.new.out.parts.items c.lay.new.parts.items c.in_ok-val-in-Binop.val
    c.written-in-Binop.result
    (two_read r c.in-Binop.left c.in-Binop.right c.args.out.now.parts.items c.tconst.new.out.parts.items c.tconst-in-Binop.new.out.parts.items
    c.in_ok-left-in-Binop.left c.in_ok-right-in-Binop.right
    (c.in_ok-left-in-Binop.ensures.value ∙ ap (λ x. tconst_of r x c.args.out.now.parts.items) c.get-in-Binop.ensures)
    (c.in_ok-right-in-Binop.ensures.value ∙ ap (λ x. tconst_of r x c.tconst.new.out.parts.items) c.get-in-Binop-2.ensures))
    c.in_ok-val-in-Binop.ensures.laid c.written-in-Binop.ensures
    ∙ sym (const_binop r c.in-Binop.op c.in-Binop.flags c.in-Binop.left c.in-Binop.right c.args.ty c.args.out.now.parts.items)
    ∙ ap (λ k. const_of r k c.args.ty c.args.out.now.parts.items) (sym c.in-Binop.is)

pub cast-returns-clause-value : goal.cast-returns-clause-value
cast-returns-clause-value t c =
    run_read (reading c.args.src.now) c.args.ty c.args.at None (c.args.of.now ∷ []) c.args.out.now.parts.items (c.in_ok-tconst.field-0 ∷ [])
    c.tconst.new.out.parts.items c.lay.new.parts.items c.in_ok-val.val c.written.result
    (one_alone (reading c.args.src.now) c.args.of.now c.args.out.now.parts.items c.tconst.new.out.parts.items c.in_ok-tconst.field-0
    c.in_ok-tconst.ensures.value)
    c.in_ok-val.ensures.laid c.written.ensures

pub run-returns-clause-value : goal.run-returns-clause-value
run-returns-clause-value t c =
    run_read (reading c.args.src.now) c.args.ty c.args.at (Some c.args.shape) c.args.own.now c.args.out.now.parts.items c.in_ok-own.own.items
    c.tconsts.new.out.parts.items c.lay.new.parts.items c.in_ok-val.val c.written.result
    (c.in_ok-own.ensures.value ∙ ap (λ ts. tconsts_of (reading c.args.src.now) ts c.args.out.now.parts.items) c.as_slice.ensures)
    (c.in_ok-val.ensures.laid ∙ ap (λ xs. laid (Some c.args.shape) (xs, c.tconsts.new.out.parts.items)) c.deref.ensures.value) c.written.ensures

pub tconsts-loop-t-preserved : goal.tconsts-loop-t-preserved
tconsts-loop-t-preserved t c = record {
  on = one_read (reading c.args.src.now) c.args.ts.now c.loop-t.t-index c.t-item.result c.loop-t.own.items c.push.new.self.items c.loop-t.out.parts.items
      c.tconst.new.out.parts.items c.in_ok-tconst.field-0 (tconsts_of (reading c.args.src.now) c.args.ts.now c.args.out.now.parts.items) c.loop-t-test.true
      c.t-item.is c.loop-t.invariant.on c.in_ok-tconst.ensures.value c.in_ok-push.ensures.items;
  found = one_found (tconst_faults (reading c.args.src.now)) c.args.ts.now c.loop-t.t-index c.t-item.result c.args.out.now.found c.loop-t.out.found
      c.tconst.new.out.found c.loop-t-test.true c.t-item.is c.loop-t.invariant.found c.in_ok-tconst.ensures.found;
  below = stays_below (reading c.args.src.now) c.t-item.result c.loop-t.out.parts.items c.tconst.new.out.parts.items c.in_ok-tconst.field-0
      c.in_ok-tconst.ensures.value c.loop-t.invariant.below;
}

pub constant-offset_of-val-requires-clause-below : goal.constant-offset_of-val-requires-clause-below
constant-offset_of-val-requires-clause-below t c =
    subst ArePartsBelow (sym c.deref-in-GetElementPtr.ensures.value)
    (run_below (reading c.args.src.now) c.as_slice.result.now c.args.out.now.parts.items c.in_ok-own-in-GetElementPtr.own.items c.tconsts.new.out.parts.items
    c.in_ok-own-in-GetElementPtr.ensures.value c.requires.below)

pub constant-offset_of-val-requires-clause-within : goal.constant-offset_of-val-requires-clause-within
constant-offset_of-val-requires-clause-within t c =
    let own = c.in_ok-own-in-GetElementPtr.own.items in
    let behind = c.tconsts.new.out.parts.items in
    subst (λ xs. Each xs (λ k (w : Written). HasPartsBelow (length c.deref-in-GetElementPtr.result.now) w.val)) (sym c.deref.ensures.value)
    (subst (λ xs. Each own (λ k (w : Written). HasPartsBelow (length xs) w.val)) (sym c.deref-in-GetElementPtr.ensures.value)
    (run_within (reading c.args.src.now) c.as_slice.result.now c.args.out.now.parts.items own behind c.in_ok-own-in-GetElementPtr.ensures.value
    c.requires.below))

pub constant-returns-in-Int-clause-value : goal.constant-returns-in-Int-clause-value
constant-returns-in-Int-clause-value t c =
    ap (λ w. (w, c.args.out.now.parts.items)) (c.written.ensures ∙ ap (λ o. placed (reading c.args.src.now) c.args.ty c.in-Int.at o) c.int.ensures)
    ∙ sym (const_int (reading c.args.src.now) c.in-Int.at c.args.ty c.args.out.now.parts.items)
    ∙ ap (λ k. const_of (reading c.args.src.now) k c.args.ty c.args.out.now.parts.items) (sym c.in-Int.is)

pub constant-returns-in-Global-clause-value : goal.constant-returns-in-Global-clause-value
constant-returns-in-Global-clause-value t c =
    ap (λ w. (w, c.args.out.now.parts.items))
    (c.written-in-Global.ensures ∙ ap (λ o. placed (reading c.args.src.now) c.args.ty c.in-Global.at o) c.symbol.ensures.value)
    ∙ sym (const_global (reading c.args.src.now) c.in-Global.at c.args.ty c.args.out.now.parts.items)
    ∙ ap (λ k. const_of (reading c.args.src.now) k c.args.ty c.args.out.now.parts.items) (sym c.in-Global.is)

pub constant-returns-in_ok-string_of-in-CStr-clause-value : goal.constant-returns-in_ok-string_of-in-CStr-clause-value
constant-returns-in_ok-string_of-in-CStr-clause-value t c =
    ap (λ w. (w, c.args.out.now.parts.items))
    (c.written-in-CStr.ensures ∙ ap (λ o. placed (reading c.args.src.now) c.args.ty c.in-CStr.at o)
    (c.in_ok-string_of-in-CStr.ensures ∙ ap string_of c.leaf_text.ensures))
    ∙ sym (const_string (reading c.args.src.now) c.in-CStr.at c.args.ty c.args.out.now.parts.items)
    ∙ ap (λ k. const_of (reading c.args.src.now) k c.args.ty c.args.out.now.parts.items) (sym c.in-CStr.is)

pub constant-returns-in-Array-clause-value : goal.constant-returns-in-Array-clause-value
constant-returns-in-Array-clause-value t c =
    IfOk-weaker c.run.result _ _ (λ w h. h
    ∙ sym (const_array (reading c.args.src.now) c.in-Array.open c.in-Array.parts c.args.ty c.args.out.now.parts.items)
    ∙ ap (λ k. const_of (reading c.args.src.now) k c.args.ty c.args.out.now.parts.items) (sym c.in-Array.is)) c.run.ensures.value

pub constant-returns-in-Array-clause-found : goal.constant-returns-in-Array-clause-found
constant-returns-in-Array-clause-found t c =
    on_ok_weaker c.run.result (λ h. h ∙ ap (first_in c.args.out.now.found)
    (sym (faults_array (reading c.args.src.now) c.in-Array.open c.in-Array.parts) ∙ ap (faults_of (reading c.args.src.now)) (sym c.in-Array.is)))
    c.run.ensures.found

pub constant-returns-in-Struct-clause-value : goal.constant-returns-in-Struct-clause-value
constant-returns-in-Struct-clause-value t c =
    IfOk-weaker c.run-in-Struct.result _ _ (λ w h. h
    ∙ sym (const_struct (reading c.args.src.now) c.in-Struct.open c.in-Struct.parts c.args.ty c.args.out.now.parts.items)
    ∙ ap (λ k. const_of (reading c.args.src.now) k c.args.ty c.args.out.now.parts.items) (sym c.in-Struct.is)) c.run-in-Struct.ensures.value

pub constant-returns-in-Struct-clause-found : goal.constant-returns-in-Struct-clause-found
constant-returns-in-Struct-clause-found t c =
    on_ok_weaker c.run-in-Struct.result (λ h. h ∙ ap (first_in c.args.out.now.found)
    (sym (faults_struct (reading c.args.src.now) c.in-Struct.open c.in-Struct.parts) ∙ ap (faults_of (reading c.args.src.now)) (sym c.in-Struct.is)))
    c.run-in-Struct.ensures.found

pub constant-returns-in-Packed-clause-value : goal.constant-returns-in-Packed-clause-value
constant-returns-in-Packed-clause-value t c =
    IfOk-weaker c.run-in-Packed.result _ _ (λ w h. h
    ∙ sym (const_packed (reading c.args.src.now) c.in-Packed.open c.in-Packed.parts c.args.ty c.args.out.now.parts.items)
    ∙ ap (λ k. const_of (reading c.args.src.now) k c.args.ty c.args.out.now.parts.items) (sym c.in-Packed.is)) c.run-in-Packed.ensures.value

pub constant-returns-in-Packed-clause-found : goal.constant-returns-in-Packed-clause-found
constant-returns-in-Packed-clause-found t c =
    on_ok_weaker c.run-in-Packed.result (λ h. h ∙ ap (first_in c.args.out.now.found)
    (sym (faults_packed (reading c.args.src.now) c.in-Packed.open c.in-Packed.parts) ∙ ap (faults_of (reading c.args.src.now)) (sym c.in-Packed.is)))
    c.run-in-Packed.ensures.found

pub constant-returns-in_ok-elem-in-GetElementPtr-clause-value : goal.constant-returns-in_ok-elem-in-GetElementPtr-clause-value
constant-returns-in_ok-elem-in-GetElementPtr-clause-value t c =
    let r = reading c.args.src.now in
    gep_read r c.args.ty c.in-GetElementPtr.op c.in-GetElementPtr.flags c.as_slice-in-GetElementPtr.result.now (r.kinds c.in-GetElementPtr.elem)
    c.in_ok-elem-in-GetElementPtr.elem c.in-GetElementPtr.operands c.as_slice.result.now c.args.out.now.parts.items
    c.in_ok-own-in-GetElementPtr.own.items c.deref.result.now c.tconsts.new.out.parts.items c.deref-in-GetElementPtr.result.now
    c.offset_of-val.result c.written-in-GetElementPtr.result c.as_slice-in-GetElementPtr.ensures
    (c.in_ok-elem-in-GetElementPtr.ensures ∙ ap r.kinds c.get.ensures) c.as_slice.ensures c.deref.ensures.value c.deref-in-GetElementPtr.ensures.value
    c.in_ok-own-in-GetElementPtr.ensures.value c.offset_of-val.ensures c.written-in-GetElementPtr.ensures
    ∙ sym (const_gep r c.in-GetElementPtr.op c.in-GetElementPtr.flags c.in-GetElementPtr.elem c.in-GetElementPtr.operands c.args.ty c.args.out.now.parts.items)
    ∙ ap (λ k. const_of r k c.args.ty c.args.out.now.parts.items) (sym c.in-GetElementPtr.is)

pub constant-returns-in_ok-elem-in-GetElementPtr-clause-found : goal.constant-returns-in_ok-elem-in-GetElementPtr-clause-found
constant-returns-in_ok-elem-in-GetElementPtr-clause-found t c =
    let r = reading c.args.src.now in
    c.in_ok-own-in-GetElementPtr.ensures.found
    ∙ ap (λ ts. first_in c.args.out.now.found (flat_map (tconst_faults r) ts)) c.as_slice.ensures
    ∙ ap (first_in c.args.out.now.found)
    (sym (faults_gep r c.in-GetElementPtr.op c.in-GetElementPtr.flags c.in-GetElementPtr.elem c.in-GetElementPtr.operands)
    ∙ ap (faults_of r) (sym c.in-GetElementPtr.is))
