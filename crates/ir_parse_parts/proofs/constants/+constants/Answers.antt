use Rattle.std.proofs.Common.{rules, ◌≡◌, ◌+◌, ◌-◌, ◌*◌, ◌++◌, List, [], ◌∷◌, Some, length, sym, ap, ◌∙◌, subst, refl, arith}
use Rattle.std.proofs.lemmas.List.{append_assoc}
use Rattle.std.proofs.lemmas.Result.{IfOk-weaker}
use Rattle.ir_tree.specs.declared.terminal.Terminal.TheVariants as k
use Rattle.ir_tree.specs.declared.constants.Tconst.{Tconst}
use Rattle.ir_tree.specs.Steps.{Longest, many, some, next, separated}
use Rattle.ir_tree.specs.Types.{ty}
use Rattle.ir_tree.specs.Constants.{const, tconst}
use Rattle.ir_parse_parts.proofs.Longest.{reached_next, reached_all, next_longest, separated_none, some_some, some_none}
use Rattle.ir_parse_parts.proofs.LongestTypes as types
use Rattle.ir_parse_parts.proofs.LongestTypes.{the_moves}
use Rattle.ir_parse_parts.proofs.LongestConstants as constants
use Rattle.ir_parse_parts.proofs.constants.+constants.Goals as goal

pub array-tconsts-requires : goal.array-tconsts-requires
array-tconsts-requires t c =
    let m = the_moves c.args.toks.now k.LeftBracket c.args.start c.args.first c.requires.after in
    let d : 8 * (length c.args.toks.now - c.args.start) ≡ t = c.decreases in
    (omega (arith, m.0, m.1, d), c.requires.few)

pub array-returns-in_default : goal.array-returns-in_default
array-returns-in_default t c = constants.array_no_close c.args.toks.now c.args.start c.args.first (sym c.requires.after) c.in_ok-parts.parts c.in_ok-parts.close
    c.in_ok-parts.ensures c.in_default.ensures.value

pub array-returns : goal.array-returns
array-returns t c = constants.array_ends c.args.toks.now c.args.start c.args.first (sym c.requires.after) c.in_ok-parts.parts c.in_ok-parts.close
    c.in_ok-parts.ensures c.in-Some.next c.in-Some.ensures.value

pub structure-tconsts-requires : goal.structure-tconsts-requires
structure-tconsts-requires t c =
    let m = the_moves c.args.toks.now k.LeftBrace c.args.start c.args.first c.requires.after in
    let d : 8 * (length c.args.toks.now - c.args.start) ≡ t = c.decreases in
    (omega (arith, m.0, m.1, d), c.requires.few)

pub structure-returns-in_default : goal.structure-returns-in_default
structure-returns-in_default t c =
    constants.struct_no_close c.args.toks.now c.args.start c.args.first (sym c.requires.after) c.in_ok-parts.parts c.in_ok-parts.close c.in_ok-parts.ensures
    c.in_default.ensures.value

pub structure-returns : goal.structure-returns
structure-returns t c = constants.struct_ends c.args.toks.now c.args.start c.args.first (sym c.requires.after) c.in_ok-parts.parts c.in_ok-parts.close
    c.in_ok-parts.ensures c.in-Some.next c.in-Some.ensures.value

pub packed-returns-in_default : goal.packed-returns-in_default
packed-returns-in_default t c = constants.packed_no_brace c.args.toks.now c.args.start c.args.first (sym c.requires.after) c.in_default.ensures.value

pub packed-returns-in_default-the : goal.packed-returns-in_default-the
packed-returns-in_default-the t c =
    let toks = c.args.toks.now in
    constants.packed_no_close toks c.args.start c.args.first (sym c.requires.after) c.in-Some.inner c.in-Some.ensures.value c.in_ok-parts.parts
    c.in_ok-parts.close c.in_ok-parts.ensures c.in_default-the.ensures.value

pub packed-returns-in_default-the-2 : goal.packed-returns-in_default-the-2
packed-returns-in_default-the-2 t c =
    let toks = c.args.toks.now in
    constants.packed_no_greater toks c.args.start c.args.first (sym c.requires.after) c.in-Some.inner c.in-Some.ensures.value c.in_ok-parts.parts
    c.in_ok-parts.close c.in_ok-parts.ensures c.in-Some-the.greater c.in-Some-the.ensures.value c.in_default-the-2.ensures.value

pub packed-returns : goal.packed-returns
packed-returns t c =
    let toks = c.args.toks.now in
    constants.packed_ends toks c.args.start c.args.first (sym c.requires.after) c.in-Some.inner c.in-Some.ensures.value c.in_ok-parts.parts c.in_ok-parts.close
    c.in_ok-parts.ensures c.in-Some-the.greater c.in-Some-the.ensures.value c.in-Some-the-2.next c.in-Some-the-2.ensures.value

pub getelementptr-returns-in_default : goal.getelementptr-returns-in_default
getelementptr-returns-in_default t c =
    constants.gep_no_paren c.args.toks.now c.args.start c.args.first (sym c.requires.after) c.in_ok-flags.flags c.in_ok-flags.paren c.in_ok-flags.ensures
    c.in_default.ensures.value

pub getelementptr-returns-in_default-2 : goal.getelementptr-returns-in_default-2
getelementptr-returns-in_default-2 t c =
    let toks = c.args.toks.now in
    let elem_read = subst (Longest (ty toks) c.in-Some.inner) c.in_default-2.is c.in_ok-elem.ensures in
    constants.gep_no_elem toks c.args.start c.args.first (sym c.requires.after) c.in_ok-flags.flags c.in_ok-flags.paren c.in_ok-flags.ensures c.in-Some.inner
    c.in-Some.ensures.value elem_read

pub getelementptr-operands-requires : goal.getelementptr-operands-requires
getelementptr-operands-requires t c =
    let op = the_moves c.args.toks.now k.GetElementPtr c.args.start c.args.first c.requires.after in
    let flags = constants.gepflags_end c.args.toks.now c.args.first c.in_ok-flags.paren c.in_ok-flags.flags c.in_ok-flags.ensures in
    let paren = the_moves c.args.toks.now k.LeftParen c.in_ok-flags.paren c.in-Some.inner (sym c.in-Some.ensures.value) in
    let d : 8 * (length c.args.toks.now - c.args.start) ≡ t = c.decreases in
    let grows = types.ty_grows c.args.toks.now c.in-Some.inner c.in-Some-2.comma c.in-Some-2.elem (subst (Longest (ty c.args.toks.now) c.in-Some.inner)
    c.in-Some-2.is c.in_ok-elem.ensures) in
    (omega (arith, op.0, op.1, flags, paren.0, grows, d), c.requires.few)

pub getelementptr-returns-in_default-3 : goal.getelementptr-returns-in_default-3
getelementptr-returns-in_default-3 t c =
    let toks = c.args.toks.now in
    let elem_read = subst (Longest (ty toks) c.in-Some.inner) c.in-Some-2.is c.in_ok-elem.ensures in
    let operands_read = subst (Longest (some (next toks (tconst toks))) c.in-Some-2.comma) c.in_default-3.is c.in_ok-operands.ensures in
    constants.gep_no_operands toks c.args.start c.args.first (sym c.requires.after) c.in_ok-flags.flags c.in_ok-flags.paren c.in_ok-flags.ensures
    c.in-Some.inner c.in-Some.ensures.value c.in-Some-2.elem c.in-Some-2.comma elem_read operands_read

pub getelementptr-returns-in_default-the : goal.getelementptr-returns-in_default-the
getelementptr-returns-in_default-the t c =
    let toks = c.args.toks.now in
    let elem_read = subst (Longest (ty toks) c.in-Some.inner) c.in-Some-2.is c.in_ok-elem.ensures in
    let operands_read = subst (Longest (some (next toks (tconst toks))) c.in-Some-2.comma) c.in-Some-3.is c.in_ok-operands.ensures in
    constants.gep_no_close toks c.args.start c.args.first (sym c.requires.after) c.in_ok-flags.flags c.in_ok-flags.paren c.in_ok-flags.ensures c.in-Some.inner
    c.in-Some.ensures.value c.in-Some-2.elem c.in-Some-2.comma elem_read c.in-Some-3.operands c.in-Some-3.close operands_read c.in_default-the.ensures.value

pub getelementptr-returns : goal.getelementptr-returns
getelementptr-returns t c =
    let toks = c.args.toks.now in
    let elem_read = subst (Longest (ty toks) c.in-Some.inner) c.in-Some-2.is c.in_ok-elem.ensures in
    let operands_read = subst (Longest (some (next toks (tconst toks))) c.in-Some-2.comma) c.in-Some-3.is c.in_ok-operands.ensures in
    let elem_boxed = subst (λ e. Longest (ty toks) c.in-Some.inner (Some (e, c.in-Some-2.comma))) (sym c.in_ok-elem-2.ensures) elem_read in
    constants.gep_ends toks c.args.start c.args.first (sym c.requires.after) c.in_ok-flags.flags c.in_ok-flags.paren c.in_ok-flags.ensures c.in-Some.inner
    c.in-Some.ensures.value c.in_ok-elem-2.elem c.in-Some-2.comma elem_boxed c.in-Some-3.operands c.in-Some-3.close operands_read c.in-Some-the.next
    c.in-Some-the.ensures.value

pub cast-returns-in_default : goal.cast-returns-in_default
cast-returns-in_default t c = constants.cast_no_paren c.args.toks.now c.args.start c.args.first (sym c.requires.after) c.in_default.ensures.value

pub cast-returns-in_default-2 : goal.cast-returns-in_default-2
cast-returns-in_default-2 t c =
    let toks = c.args.toks.now in
    let operand_read = subst (Longest (tconst toks) c.in-Some.inner) c.in_default-2.is c.in_ok-of.ensures in
    constants.cast_no_operand toks c.args.start c.args.first (sym c.requires.after) c.in-Some.inner c.in-Some.ensures.value operand_read

pub cast-returns-in_default-the : goal.cast-returns-in_default-the
cast-returns-in_default-the t c =
    let toks = c.args.toks.now in
    let operand_read = subst (Longest (tconst toks) c.in-Some.inner) c.in-Some-2.is c.in_ok-of.ensures in
    constants.cast_no_to toks c.args.start c.args.first (sym c.requires.after) c.in-Some.inner c.in-Some.ensures.value c.in-Some-2.of c.in-Some-2.word
    operand_read c.in_default-the.ensures.value

pub cast-returns-in_default-3 : goal.cast-returns-in_default-3
cast-returns-in_default-3 t c =
    let toks = c.args.toks.now in
    let operand_read = subst (Longest (tconst toks) c.in-Some.inner) c.in-Some-2.is c.in_ok-of.ensures in
    let target_read = subst (Longest (ty toks) c.in-Some-the.target) c.in_default-3.is c.in_ok-to.ensures in
    constants.cast_no_target toks c.args.start c.args.first (sym c.requires.after) c.in-Some.inner c.in-Some.ensures.value c.in-Some-2.of c.in-Some-2.word
    operand_read c.in-Some-the.target c.in-Some-the.ensures.value target_read

pub cast-returns-in_default-the-2 : goal.cast-returns-in_default-the-2
cast-returns-in_default-the-2 t c =
    let toks = c.args.toks.now in
    let operand_read = subst (Longest (tconst toks) c.in-Some.inner) c.in-Some-2.is c.in_ok-of.ensures in
    let target_read = subst (Longest (ty toks) c.in-Some-the.target) c.in-Some-3.is c.in_ok-to.ensures in
    constants.cast_no_close toks c.args.start c.args.first (sym c.requires.after) c.in-Some.inner c.in-Some.ensures.value c.in-Some-2.of c.in-Some-2.word
    operand_read c.in-Some-the.target c.in-Some-the.ensures.value c.in-Some-3.to c.in-Some-3.close target_read c.in_default-the-2.ensures.value

pub cast-returns : goal.cast-returns
cast-returns t c =
    let toks = c.args.toks.now in
    let operand_read = subst (Longest (tconst toks) c.in-Some.inner) c.in-Some-2.is c.in_ok-of.ensures in
    let target_read = subst (Longest (ty toks) c.in-Some-the.target) c.in-Some-3.is c.in_ok-to.ensures in
    let operand_boxed = subst (λ e. Longest (tconst toks) c.in-Some.inner (Some (e, c.in-Some-2.word))) (sym c.in_ok-of-2.ensures) operand_read in
    let target_boxed = subst (λ e. Longest (ty toks) c.in-Some-the.target (Some (e, c.in-Some-3.close))) (sym c.in_ok-to-2.ensures) target_read in
    constants.cast_ends toks c.args.start c.args.first (sym c.requires.after) c.in-Some.inner c.in-Some.ensures.value c.in_ok-of-2.of c.in-Some-2.word
    operand_boxed c.in-Some-the.target c.in-Some-the.ensures.value c.in_ok-to-2.to c.in-Some-3.close target_boxed c.in-Some-the-2.next
    c.in-Some-the-2.ensures.value

pub binop-returns-in_default : goal.binop-returns-in_default
binop-returns-in_default t c = constants.binop_no_paren c.args.toks.now c.args.start c.args.first (sym c.requires.after) c.in_ok-flags.flags c.in_ok-flags.paren
    c.in_ok-flags.ensures c.in_default.ensures.value

pub binop-tconst-requires : goal.binop-tconst-requires
binop-tconst-requires t c =
    let op = the_moves c.args.toks.now k.ConstBinop c.args.start c.args.first c.requires.after in
    let flags = constants.iflags_end c.args.toks.now c.args.first c.in_ok-flags.paren c.in_ok-flags.flags c.in_ok-flags.ensures in
    let paren = the_moves c.args.toks.now k.LeftParen c.in_ok-flags.paren c.in-Some.inner (sym c.in-Some.ensures.value) in
    let d : 8 * (length c.args.toks.now - c.args.start) ≡ t = c.decreases in
    (omega (arith, op.0, op.1, flags, paren.0, d), c.requires.few)

pub binop-returns-in_default-2 : goal.binop-returns-in_default-2
binop-returns-in_default-2 t c =
    let toks = c.args.toks.now in
    let left_read = subst (Longest (tconst toks) c.in-Some.inner) c.in_default-2.is c.in_ok-left.ensures in
    constants.binop_no_left toks c.args.start c.args.first (sym c.requires.after) c.in_ok-flags.flags c.in_ok-flags.paren c.in_ok-flags.ensures c.in-Some.inner
    c.in-Some.ensures.value left_read

pub binop-returns-in_default-the : goal.binop-returns-in_default-the
binop-returns-in_default-the t c =
    let toks = c.args.toks.now in
    let left_read = subst (Longest (tconst toks) c.in-Some.inner) c.in-Some-2.is c.in_ok-left.ensures in
    constants.binop_no_comma toks c.args.start c.args.first (sym c.requires.after) c.in_ok-flags.flags c.in_ok-flags.paren c.in_ok-flags.ensures c.in-Some.inner
    c.in-Some.ensures.value c.in-Some-2.left c.in-Some-2.comma left_read c.in_default-the.ensures.value

pub binop-tconst-requires-2 : goal.binop-tconst-requires-2
binop-tconst-requires-2 t c =
    let op = the_moves c.args.toks.now k.ConstBinop c.args.start c.args.first c.requires.after in
    let flags = constants.iflags_end c.args.toks.now c.args.first c.in_ok-flags.paren c.in_ok-flags.flags c.in_ok-flags.ensures in
    let paren = the_moves c.args.toks.now k.LeftParen c.in_ok-flags.paren c.in-Some.inner (sym c.in-Some.ensures.value) in
    let d : 8 * (length c.args.toks.now - c.args.start) ≡ t = c.decreases in
    let grows = constants.tconst_grows c.args.toks.now c.in-Some.inner c.in-Some-2.comma c.in-Some-2.left
    (subst (Longest (tconst c.args.toks.now) c.in-Some.inner) c.in-Some-2.is c.in_ok-left.ensures) in
    let comma = the_moves c.args.toks.now k.Comma c.in-Some-2.comma c.in-Some-the.second (sym c.in-Some-the.ensures.value) in
    (omega (arith, op.0, op.1, flags, paren.0, grows, comma.0, d), c.requires.few)

pub binop-returns-in_default-3 : goal.binop-returns-in_default-3
binop-returns-in_default-3 t c =
    let toks = c.args.toks.now in
    let left_read = subst (Longest (tconst toks) c.in-Some.inner) c.in-Some-2.is c.in_ok-left.ensures in
    let right_read = subst (Longest (tconst toks) c.in-Some-the.second) c.in_default-3.is c.in_ok-right.ensures in
    constants.binop_no_right toks c.args.start c.args.first (sym c.requires.after) c.in_ok-flags.flags c.in_ok-flags.paren c.in_ok-flags.ensures c.in-Some.inner
    c.in-Some.ensures.value c.in-Some-2.left c.in-Some-2.comma left_read c.in-Some-the.second c.in-Some-the.ensures.value right_read

pub binop-returns-in_default-the-2 : goal.binop-returns-in_default-the-2
binop-returns-in_default-the-2 t c =
    let toks = c.args.toks.now in
    let left_read = subst (Longest (tconst toks) c.in-Some.inner) c.in-Some-2.is c.in_ok-left.ensures in
    let right_read = subst (Longest (tconst toks) c.in-Some-the.second) c.in-Some-3.is c.in_ok-right.ensures in
    constants.binop_no_close toks c.args.start c.args.first (sym c.requires.after) c.in_ok-flags.flags c.in_ok-flags.paren c.in_ok-flags.ensures c.in-Some.inner
    c.in-Some.ensures.value c.in-Some-2.left c.in-Some-2.comma left_read c.in-Some-the.second c.in-Some-the.ensures.value c.in-Some-3.right
    c.in-Some-3.close right_read c.in_default-the-2.ensures.value

pub binop-returns : goal.binop-returns
binop-returns t c =
    let toks = c.args.toks.now in
    let left_read = subst (Longest (tconst toks) c.in-Some.inner) c.in-Some-2.is c.in_ok-left.ensures in
    let right_read = subst (Longest (tconst toks) c.in-Some-the.second) c.in-Some-3.is c.in_ok-right.ensures in
    let left_boxed = subst (λ e. Longest (tconst toks) c.in-Some.inner (Some (e, c.in-Some-2.comma))) (sym c.in_ok-left-2.ensures) left_read in
    let right_boxed = subst (λ e. Longest (tconst toks) c.in-Some-the.second (Some (e, c.in-Some-3.close))) (sym c.in_ok-right-2.ensures) right_read in
    constants.binop_ends toks c.args.start c.args.first (sym c.requires.after) c.in_ok-flags.flags c.in_ok-flags.paren c.in_ok-flags.ensures c.in-Some.inner
    c.in-Some.ensures.value c.in_ok-left-2.left c.in-Some-2.comma left_boxed c.in-Some-the.second c.in-Some-the.ensures.value c.in_ok-right-2.right
    c.in-Some-3.close right_boxed c.in-Some-the-2.next c.in-Some-the-2.ensures.value

pub compound-returns : goal.compound-returns
compound-returns t c =
    let toks = c.args.toks.now in
    constants.const_none toks c.args.at c.requires.none c.in_default.ensures.value c.in_default-the.ensures.value c.in_default-the-2.ensures.value
    c.in_default-the-3.ensures.value c.in_default-the-4.ensures.value c.in_default-the-5.ensures.value

pub tconst-returns-in_default : goal.tconst-returns-in_default
tconst-returns-in_default t c =
    constants.tconst_no_ty c.args.toks.now c.args.at (subst (Longest (ty c.args.toks.now) c.args.at) c.in_default.is c.in_ok-ty.ensures)

pub tconst-constant-requires : goal.tconst-constant-requires
tconst-constant-requires t c =
    let grows = types.ty_grows c.args.toks.now c.args.at c.in-Some.after c.in-Some.ty (subst (Longest (ty c.args.toks.now) c.args.at) c.in-Some.is
    c.in_ok-ty.ensures) in
    let d : 8 * (length c.args.toks.now - c.args.at) + 5 ≡ t = c.decreases in
    (omega (arith, grows, d), c.requires.few)

pub tconst-returns-in_default-2 : goal.tconst-returns-in_default-2
tconst-returns-in_default-2 t c =
    let toks = c.args.toks.now in
    let type_read = subst (Longest (ty toks) c.args.at) c.in-Some.is c.in_ok-ty.ensures in
    let value_read = subst (Longest (const toks) c.in-Some.after) c.in_default-2.is c.in_ok-value.ensures in
    constants.tconst_no_value toks c.args.at c.in-Some.after c.in-Some.ty type_read value_read

pub tconst-returns : goal.tconst-returns
tconst-returns t c =
    let toks = c.args.toks.now in
    let type_read = subst (Longest (ty toks) c.args.at) c.in-Some.is c.in_ok-ty.ensures in
    let value_read = subst (Longest (const toks) c.in-Some.after) c.in-Some-2.is c.in_ok-value.ensures in
    constants.tconst_some toks c.args.at c.in-Some.after c.in-Some-2.next c.in-Some.ty c.in-Some-2.value type_read value_read

pub tconsts-returns-in_default : goal.tconsts-returns-in_default
tconsts-returns-in_default t c =
    let toks = c.args.toks.now in
    let first_read = subst (Longest (tconst toks) c.args.at) c.in_default.is c.in_ok-first.ensures in
    subst (λ z. Longest (separated toks (tconst toks)) c.args.at (Some (
      z,
      c.args.at,
    ))) (sym c.new-found.ensures) (separated_none toks (tconst toks) c.args.at first_read)

pub tconsts-more_tconsts-requires : goal.tconsts-more_tconsts-requires
tconsts-more_tconsts-requires t c =
    let grows = constants.tconst_grows c.args.toks.now c.args.at c.in-Some.next c.in-Some.first (subst (Longest (tconst c.args.toks.now) c.args.at) c.in-Some.is
    c.in_ok-first.ensures) in
    let d : 8 * (length c.args.toks.now - c.args.at) + 7 ≡ t = c.decreases in
    (omega (arith, grows, d), c.requires.few)

pub tconsts-returns : goal.tconsts-returns
tconsts-returns t c =
    let ts = c.args.toks.now in
    let l = subst (Longest (tconst ts) c.args.at) c.in-Some.is c.in_ok-first.ensures in
    let e : c.push.new.self ≡ c.in-Some.first ∷ [] = search rules in
    IfOk-weaker c.more_tconsts.result (λ r. (us : List Tconst) ×
    ((r.0 ≡ c.push.new.self ++ us) ×
    Longest (many (next ts (tconst ts))) c.in-Some.next (Some (us, r.1)))) (λ r. Longest (separated ts (tconst ts)) c.args.at (Some r))
    (λ r h. subst (λ z. Longest (separated ts (tconst ts)) c.args.at (Some (z, r.1))) (sym (h.1.0 ∙
    ap (λ z. z ++ h.0) e)) (constants.tconsts_listed ts c.args.at c.in-Some.next r.1 c.in-Some.first h.0 l h.1.1)) c.more_tconsts.ensures

pub operands-returns-in_default : goal.operands-returns-in_default
operands-returns-in_default t c =
    some_none (next c.args.toks.now (tconst c.args.toks.now)) c.args.at (subst (Longest (next c.args.toks.now (tconst c.args.toks.now)) c.args.at)
    c.in_default.is c.in_ok-first.ensures)

pub operands-more_tconsts-requires : goal.operands-more_tconsts-requires
operands-more_tconsts-requires t c =
    let grows = constants.next_ends c.args.toks.now c.args.at c.in-Some.next c.in-Some.first
    (subst (Longest (next c.args.toks.now (tconst c.args.toks.now)) c.args.at) c.in-Some.is c.in_ok-first.ensures) in
    let d : 8 * (length c.args.toks.now - c.args.at) + 7 ≡ t = c.decreases in
    (omega (arith, grows.0, d), c.requires.few)

pub operands-returns : goal.operands-returns
operands-returns t c =
    let ts = c.args.toks.now in
    let l = subst (Longest (next ts (tconst ts)) c.args.at) c.in-Some.is c.in_ok-first.ensures in
    let e : c.push.new.self ≡ c.in-Some.first ∷ [] = search rules in
    let rest = c.in_ok-all.ensures in
    subst (λ z. Longest (some (next ts (tconst ts))) c.args.at (Some (z, c.in_ok-all.end))) (sym (rest.1.0 ∙
    ap (λ z. z ++ rest.0) e)) (some_some (constants.next_tconst_of ts) refl c.args.at c.in-Some.next c.in_ok-all.end c.in-Some.first rest.0 l rest.1.1)

pub more_tconsts-loop-found-smaller : goal.more_tconsts-loop-found-smaller
more_tconsts-loop-found-smaller t c =
    let l = constants.next_ends c.args.toks.now c.loop-found.place c.in-Some.after c.in-Some.part
    (subst (Longest (next c.args.toks.now (tconst c.args.toks.now)) c.loop-found.place) c.in-Some.is c.in_ok-part.ensures) in
    omega (arith, l.0, l.1)

pub more_tconsts-loop-found-preserved : goal.more_tconsts-loop-found-preserved
more_tconsts-loop-found-preserved t c =
    let ts = c.args.toks.now in
    let l = subst (Longest (next ts (tconst ts)) c.loop-found.place) c.in-Some.is c.in_ok-part.ensures in
    let grows = constants.next_ends ts c.loop-found.place c.in-Some.after c.in-Some.part l in
    let i = c.loop-found.invariant.1 in
    let e : c.push.new.self ≡ c.loop-found.found ++ c.in-Some.part ∷ [] = search rules in (
      omega (arith, c.loop-found.invariant.0, grows.0),
      (
        i.0 ++ c.in-Some.part ∷ [],
        (
          e ∙ ap (λ z. z ++ c.in-Some.part ∷ []) i.1.0 ∙ append_assoc c.args.found i.0 (c.in-Some.part ∷ []),
          reached_next (constants.next_tconst_of ts) refl c.args.at c.loop-found.place c.in-Some.after i.0 c.in-Some.part i.1.1 l,
        ),
      ),
    )

pub more_tconsts-returns : goal.more_tconsts-returns
more_tconsts-returns t c =
    let i = c.loop-found.invariant.1 in (
      i.0,
      (
        i.1.0,
        reached_all (next c.args.toks.now (tconst c.args.toks.now)) c.args.at c.loop-found.place i.0 i.1.1
            (subst (Longest (next c.args.toks.now (tconst c.args.toks.now)) c.loop-found.place) c.in_default.is c.in_ok-part.ensures),
      ),
    )

pub next_tconst-returns : goal.next_tconst-returns
next_tconst-returns t c =
    let toks = c.args.toks.now in
    IfOk-weaker c.tconst.result (Longest (tconst toks) c.in-Some.first) (Longest (next toks (tconst toks)) c.args.at)
    (λ r l. next_longest toks (tconst toks) c.args.at c.in-Some.first r c.in-Some.ensures.value l) c.tconst.ensures
