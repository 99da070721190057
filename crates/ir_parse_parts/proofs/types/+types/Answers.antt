use Rattle.std.proofs.Common.{rules, ◌≡◌, ◌+◌, ◌-◌, ◌*◌, ◌++◌, List, [], ◌∷◌, Some, length, sym, ap, ◌∙◌, subst, refl, arith}
use Rattle.std.proofs.lemmas.List.{append_assoc}
use Rattle.std.proofs.lemmas.Result.{IfOk-weaker}
use Rattle.ir_tree.specs.declared.terminal.Terminal.TheVariants.{LeftBrace}
use Rattle.ir_tree.specs.declared.types.Ty.{Ty}
use Rattle.ir_tree.specs.Steps.{Longest, many, next, separated}
use Rattle.ir_tree.specs.Types.{ty}
use Rattle.ir_parse_parts.proofs.Longest.{reached_next, reached_all, next_longest, separated_none}
use Rattle.ir_parse_parts.proofs.LongestTypes as types
use Rattle.ir_parse_parts.proofs.types.+types.Goals as goal

pub array-returns-in_default : goal.array-returns-in_default
array-returns-in_default t c = types.array_no_count c.args.toks.now c.args.start c.args.count (sym c.requires.after) c.in_default.ensures.value

pub array-returns-in_default-the : goal.array-returns-in_default-the
array-returns-in_default-the t c =
    types.array_no_times c.args.toks.now c.args.start c.args.count (sym c.requires.after) c.in-Some.times c.in-Some.ensures.value c.in_default-the.ensures.value

pub array-returns-in_default-2 : goal.array-returns-in_default-2
array-returns-in_default-2 t c =
    types.array_no_elem c.args.toks.now c.args.start c.args.count (sym c.requires.after) c.in-Some.times c.in-Some.ensures.value c.in-Some-the.first
    c.in-Some-the.ensures.value (subst (Longest (ty c.args.toks.now) c.in-Some-the.first) c.in_default-2.is c.in_ok-elem.ensures)

pub array-returns-in_default-the-2 : goal.array-returns-in_default-the-2
array-returns-in_default-the-2 t c =
    types.array_no_close c.args.toks.now c.args.start c.args.count (sym c.requires.after) c.in-Some.times c.in-Some.ensures.value c.in-Some-the.first
    c.in-Some-the.ensures.value c.in-Some-2.elem c.in-Some-2.close (subst (Longest (ty c.args.toks.now) c.in-Some-the.first) c.in-Some-2.is
    c.in_ok-elem.ensures) c.in_default-the-2.ensures.value

pub array-returns : goal.array-returns
array-returns t c = types.array_ends c.args.toks.now c.args.start c.args.count (sym c.requires.after) c.in-Some.times c.in-Some.ensures.value
    c.in-Some-the.first c.in-Some-the.ensures.value c.in_ok-elem-2.elem c.in-Some-2.close
    (subst (λ e. Longest (ty c.args.toks.now) c.in-Some-the.first (Some (
      e,
      c.in-Some-2.close,
    ))) (sym c.in_ok-elem-2.ensures) (subst (Longest (ty c.args.toks.now) c.in-Some-the.first) c.in-Some-2.is c.in_ok-elem.ensures))
    c.in-Some-the-2.next c.in-Some-the-2.ensures.value

pub more_types-loop-found-smaller : goal.more_types-loop-found-smaller
more_types-loop-found-smaller t c =
    let l = types.next_ends c.args.toks.now c.loop-found.place c.in-Some.after c.in-Some.part
    (subst (Longest (next c.args.toks.now (ty c.args.toks.now)) c.loop-found.place) c.in-Some.is c.in_ok-part.ensures) in
    omega (arith, l.0, l.1)

pub more_types-loop-found-preserved : goal.more_types-loop-found-preserved
more_types-loop-found-preserved t c =
    let ts = c.args.toks.now in
    let l = subst (Longest (next ts (ty ts)) c.loop-found.place) c.in-Some.is c.in_ok-part.ensures in
    let grows = types.next_grows ts c.loop-found.place c.in-Some.after c.in-Some.part l in
    let i = c.loop-found.invariant.1 in
    let e : c.push.new.self ≡ c.loop-found.found ++ c.in-Some.part ∷ [] = search rules in (
      omega (arith, c.loop-found.invariant.0, grows),
      (
        i.0 ++ c.in-Some.part ∷ [],
        (
          e ∙ ap (λ z. z ++ c.in-Some.part ∷ []) i.1.0 ∙ append_assoc c.args.found i.0 (c.in-Some.part ∷ []),
          reached_next (types.next_ty_of ts) refl c.args.at c.loop-found.place c.in-Some.after i.0 c.in-Some.part i.1.1 l,
        ),
      ),
    )

pub more_types-returns : goal.more_types-returns
more_types-returns t c =
    let i = c.loop-found.invariant.1 in (
      i.0,
      (
        i.1.0,
        reached_all (next c.args.toks.now (ty c.args.toks.now)) c.args.at c.loop-found.place i.0 i.1.1
            (subst (Longest (next c.args.toks.now (ty c.args.toks.now)) c.loop-found.place) c.in_default.is c.in_ok-part.ensures),
      ),
    )

pub next_type-returns : goal.next_type-returns
next_type-returns t c = IfOk-weaker c.ty.result (Longest (ty c.args.toks.now) c.in-Some.first) (Longest (next c.args.toks.now (ty c.args.toks.now)) c.args.at)
    (λ r l. next_longest c.args.toks.now (ty c.args.toks.now) c.args.at c.in-Some.first r c.in-Some.ensures.value l) c.ty.ensures

pub packed-returns-in_default : goal.packed-returns-in_default
packed-returns-in_default t c = types.packed_no_brace c.args.toks.now c.args.start c.args.brace (sym c.requires.after) c.in_default.ensures.value

pub packed-returns-in_default-the : goal.packed-returns-in_default-the
packed-returns-in_default-the t c =
    types.packed_no_close c.args.toks.now c.args.start c.args.brace (sym c.requires.after) c.in-Some.first c.in-Some.ensures.value c.in_ok-parts.parts
    c.in_ok-parts.close c.in_ok-parts.ensures c.in_default-the.ensures.value

pub packed-returns-in_default-the-2 : goal.packed-returns-in_default-the-2
packed-returns-in_default-the-2 t c =
    types.packed_no_greater c.args.toks.now c.args.start c.args.brace (sym c.requires.after) c.in-Some.first c.in-Some.ensures.value c.in_ok-parts.parts
    c.in_ok-parts.close c.in_ok-parts.ensures c.in-Some-the.greater c.in-Some-the.ensures.value c.in_default-the-2.ensures.value

pub packed-returns : goal.packed-returns
packed-returns t c = types.packed_ends c.args.toks.now c.args.start c.args.brace (sym c.requires.after) c.in-Some.first c.in-Some.ensures.value
    c.in_ok-parts.parts c.in_ok-parts.close c.in_ok-parts.ensures c.in-Some-the.greater c.in-Some-the.ensures.value c.in-Some-the-2.next
    c.in-Some-the-2.ensures.value

pub structure-returns-in_default : goal.structure-returns-in_default
structure-returns-in_default t c =
    types.struct_no_close c.args.toks.now c.args.start c.args.first (sym c.requires.after) c.in_ok-parts.parts c.in_ok-parts.close c.in_ok-parts.ensures
    c.in_default.ensures.value

pub structure-returns : goal.structure-returns
structure-returns t c = types.struct_ends c.args.toks.now c.args.start c.args.first (sym c.requires.after) c.in_ok-parts.parts c.in_ok-parts.close
    c.in_ok-parts.ensures c.in-Some.next c.in-Some.ensures.value

pub ty-returns-in-Some : goal.ty-returns-in-Some
ty-returns-in-Some t c = types.ty_void c.args.toks.now c.args.at c.in-Some.next c.in-Some.ensures.value

pub structure-types-requires : goal.structure-types-requires
structure-types-requires t c =
    let m = types.the_moves c.args.toks.now LeftBrace c.args.start c.args.first c.requires.after in
    let d : 4 * (length c.args.toks.now - c.args.start) ≡ t = c.decreases in
    (omega (arith, m.0, m.1, d), c.requires.few)

pub ty-returns-in-Some-the : goal.ty-returns-in-Some-the
ty-returns-in-Some-the t c = types.ty_int c.args.toks.now c.args.at c.in-Some-the.next c.in-Some-the.ensures.value

pub ty-returns-in-Some-the-2 : goal.ty-returns-in-Some-the-2
ty-returns-in-Some-the-2 t c = types.ty_ptr c.args.toks.now c.args.at c.in-Some-the-2.next c.in-Some-the-2.ensures.value

pub ty-returns-in-Some-the-3 : goal.ty-returns-in-Some-the-3
ty-returns-in-Some-the-3 t c = types.ty_named c.args.toks.now c.args.at c.in-Some-the-3.next c.in-Some-the-3.ensures.value

pub types-returns-in_default : goal.types-returns-in_default
types-returns-in_default t c = subst (λ z. Longest (separated c.args.toks.now (ty c.args.toks.now)) c.args.at (Some (
  z,
  c.args.at,
))) (sym c.new-found.ensures) (separated_none c.args.toks.now (ty c.args.toks.now) c.args.at
    (subst (Longest (ty c.args.toks.now) c.args.at) c.in_default.is c.in_ok-first.ensures))

pub types-more_types-requires : goal.types-more_types-requires
types-more_types-requires t c =
    let grows = types.ty_grows c.args.toks.now c.args.at c.in-Some.next c.in-Some.first (subst (Longest (ty c.args.toks.now) c.args.at) c.in-Some.is
    c.in_ok-first.ensures) in
    let d : 4 * (length c.args.toks.now - c.args.at) + 3 ≡ t = c.decreases in
    (omega (arith, grows, d), c.requires.few)

pub types-returns : goal.types-returns
types-returns t c =
    let ts = c.args.toks.now in
    let l = subst (Longest (ty ts) c.args.at) c.in-Some.is c.in_ok-first.ensures in
    let e : c.push.new.self ≡ c.in-Some.first ∷ [] = search rules in
    IfOk-weaker c.more_types.result (λ r. (us : List Ty) ×
    ((r.0 ≡ c.push.new.self ++ us) ×
    Longest (many (next ts (ty ts))) c.in-Some.next (Some (us, r.1)))) (λ r. Longest (separated ts (ty ts)) c.args.at (Some r))
    (λ r h. subst (λ z. Longest (separated ts (ty ts)) c.args.at (Some (z, r.1))) (sym (h.1.0 ∙
    ap (λ z. z ++ h.0) e)) (types.types_listed ts c.args.at c.in-Some.next r.1 c.in-Some.first h.0 l h.1.1)) c.more_types.ensures
