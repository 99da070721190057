use Rattle.std.proofs.Common.{◌+◌, ◌==◌, slice_get, sym, ap, ◌∙◌}
use Rattle.std.proofs.lemmas.Bool.{eq-eqb}
use Rattle.manifest.specs.Added.{joined}
use Rattle.manifest.specs.Additions.{func_additions, header_additions, block_additions}
use Rattle.manifest.specs.Function.{is_dead_body}
use Rattle.manifest.specs.Ready.{set_of}
use Rattle.manifest.proofs.Exact.{body_is, not_zero}
use Rattle.manifest.proofs.Joining.{left_out, left_in, both, same_added}
use Rattle.manifest.proofs.printing.add_at_func.Goals as goal

pub returns-then-func-eq0 : goal.returns-then-func-eq0
returns-then-func-eq0 c =
    same_added c.args.out.now.items c.args.out.now.items _ _
    (left_out c.args.out.now.items (c.func-func.result.now.block_count == 0) _ (eq-eqb c.func-func.result.now.block_count 0 c.if-func-eq0.true))
    (ap (func_additions c.args.held.now.m.now (set_of c.args.held.now) c.args.f.0) (sym c.func-func.ensures))

pub is_dead_body-requires-clause-body : goal.is_dead_body-requires-clause-body
is_dead_body-requires-clause-body c =
    body_is c.args.held.now.m.now c.args.f.0 c.func-func.result.now c.func-func.ensures (not_zero c.func-func.result.now.block_count c.if-func-eq0.false)

pub returns-then-is_dead_body : goal.returns-then-is_dead_body
returns-then-is_dead_body c =
    let out = c.args.out.now.items in
    same_added out out _ _
    (left_in out out (c.func-func.result.now.block_count == 0) _ (not_zero c.func-func.result.now.block_count c.if-func-eq0.false)
    (left_out out (is_dead_body c.args.held.now.m.now (set_of c.args.held.now) c.args.f.0) _ (sym c.is_dead_body.ensures ∙ c.if-is_dead_body.true)))
    (ap (func_additions c.args.held.now.m.now (set_of c.args.held.now) c.args.f.0) (sym c.func-func.ensures))

pub add_at_header-requires-clause-body : goal.add_at_header-requires-clause-body
add_at_header-requires-clause-body c =
    body_is c.args.held.now.m.now c.args.f.0 c.func-func.result.now c.func-func.ensures (not_zero c.func-func.result.now.block_count c.if-func-eq0.false)

pub returns : goal.returns
returns c =
    let m = c.args.held.now.m.now in
    let set = set_of c.args.held.now in
    let f = c.args.f.0 in
    let func = c.func-func.result.now in
    let out = c.args.out.now.items in
    let new = c.add_in_blocks.new.out.items in
    same_added out new _ _
    (left_in out new (func.block_count == 0) _ (not_zero func.block_count c.if-func-eq0.false)
    (left_in out new (is_dead_body m set f) _ (sym c.is_dead_body.ensures ∙ c.if-is_dead_body.false)
    (both out c.add_at_header.new.out.items new (header_additions m set f func)
    (joined (λ i. block_additions m set (slice_get m.blocks
    (func.first_block + i))) func.block_count) c.in_ok-add_at_header.ensures c.in_ok-add_in_blocks.ensures)))
    (ap (func_additions m set f) (sym c.func-func.ensures))
