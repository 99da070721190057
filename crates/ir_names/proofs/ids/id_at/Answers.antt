use Rattle.std.proofs.Common.{◌≤◌, length, take, sym, ◌∙◌, arith}
use Rattle.ir_names.specs.Ids.{names}
use Rattle.ir_names.proofs.Known.{known_nameless, known_number, known_bytes, id_nameless, id_number, id_bytes, names_before}
use Rattle.ir_names.proofs.ids.id_at.Goals as goal

pub returns-then-not-has_name-clause-id : goal.returns-then-not-has_name-clause-id
returns-then-not-has_name-clause-id c = id_nameless c.args.text.now c.args.toks.now c.args.at _ (sym c.has_name.ensures ∙ c.if-not-has_name.true)

pub returns-then-not-has_name-clause-known : goal.returns-then-not-has_name-clause-known
returns-then-not-has_name-clause-known c = known_nameless c.args.places.now c.args.text.now c.args.toks.now c.args.at _ c.requires.there c.requires.known
    (sym c.has_name.ensures ∙ c.if-not-has_name.true)

pub returns-then-all_digits-clause-id : goal.returns-then-all_digits-clause-id
returns-then-all_digits-clause-id c =
    id_number c.args.text.now c.args.toks.now c.args.at _ c.written-name.result.now c.number.result c.written-name.ensures.value
    (sym c.has_name.ensures ∙ c.if-not-has_name.false) (sym c.all_digits.ensures ∙ c.if-all_digits.true) c.number.ensures.value

pub returns-then-all_digits-clause-known : goal.returns-then-all_digits-clause-known
returns-then-all_digits-clause-known c = known_number c.args.places.now c.args.text.now c.args.toks.now c.args.at _ c.written-name.result.now c.requires.there
    c.requires.known c.written-name.ensures.value (sym c.has_name.ensures ∙ c.if-not-has_name.false) (sym c.all_digits.ensures ∙ c.if-all_digits.true)

pub overflow_mul-result-2 : goal.overflow_mul-result-2
overflow_mul-result-2 c =
    let many = names_before c.args.text.now c.args.toks.now c.args.at c.requires.there in
    let placed = c.in_ok-place.ensures (names c.args.text.now (take c.args.at c.args.toks.now)) c.requires.known many in
    let within : c.in_ok-place.place ≤ length (names c.args.text.now (take c.args.at c.args.toks.now)) = placed.within in
    omega arith

pub overflow_add-result : goal.overflow_add-result
overflow_add-result c =
    let many = names_before c.args.text.now c.args.toks.now c.args.at c.requires.there in
    let placed = c.in_ok-place.ensures (names c.args.text.now (take c.args.at c.args.toks.now)) c.requires.known many in
    let within : c.in_ok-place.place ≤ length (names c.args.text.now (take c.args.at c.args.toks.now)) = placed.within in
    omega arith

pub returns-clause-id : goal.returns-clause-id
returns-clause-id c =
    let many = names_before c.args.text.now c.args.toks.now c.args.at c.requires.there in
    id_bytes c.place_of.new.places c.args.text.now c.args.toks.now c.args.at _ c.written-name.result.now c.in_ok-read.read.items c.in_ok-place.place
    c.requires.there
    (c.in_ok-place.ensures (names c.args.text.now (take c.args.at c.args.toks.now)) c.requires.known many) c.in_ok-read.ensures c.written-name.ensures.value
    (sym c.has_name.ensures ∙ c.if-not-has_name.false) (sym c.all_digits.ensures ∙ c.if-all_digits.false)

pub returns-clause-known : goal.returns-clause-known
returns-clause-known c =
    let many = names_before c.args.text.now c.args.toks.now c.args.at c.requires.there in
    known_bytes c.place_of.new.places c.args.text.now c.args.toks.now c.args.at _ c.written-name.result.now c.in_ok-read.read.items c.in_ok-place.place
    c.requires.there
    (c.in_ok-place.ensures (names c.args.text.now (take c.args.at c.args.toks.now)) c.requires.known many) c.in_ok-read.ensures c.written-name.ensures.value
    (sym c.has_name.ensures ∙ c.if-not-has_name.false) (sym c.all_digits.ensures ∙ c.if-all_digits.false)
