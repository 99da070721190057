use Rattle.std.proofs.Common.{arith, ◌<◌, ◌+◌, length, ap, ◌∙◌}
use Rattle.std.proofs.lemmas.Option.{slice_get_within}
use Rattle.facts.specs.declared.pos.Pos.TheVariants as pos
use Rattle.positions.proofs.Finding.{read_is, seen, told, at_of}
use Rattle.positions.proofs.positions.Positions.number.Goals as goal

pub index-requires : goal.index-requires
index-requires c =
    let t = c.self.inside.tables in
    let list = c.self.inside.list.items in
    let there = seen _ c.args.self.now c.self.view_is c.args.p c.requires.0 c.requires.1 in
    let within : c.in-Function.f.0 < length t.functions.items =
    slice_get_within t.functions.items c.in-Function.f.0 c.requires.0
    (at_of t list c.self.invariant.2 c.args.p (pos.Function c.in-Function.f) c.requires.0 c.in-Function.is there) in
    omega (arith, within)

pub index-requires-in-Value : goal.index-requires-in-Value
index-requires-in-Value c =
    let t = c.self.inside.tables in
    let list = c.self.inside.list.items in
    let there = seen _ c.args.self.now c.self.view_is c.args.p c.requires.0 c.requires.1 in
    let within : c.in-Value.v.0 < length t.values.items =
    slice_get_within t.values.items c.in-Value.v.0 c.requires.0
    (at_of t list c.self.invariant.2 c.args.p (pos.Value c.in-Value.v) c.requires.0 c.in-Value.is there) in
    omega (arith, within)

pub index-requires-in-Return : goal.index-requires-in-Return
index-requires-in-Return c =
    let t = c.self.inside.tables in
    let list = c.self.inside.list.items in
    let there = seen _ c.args.self.now c.self.view_is c.args.p c.requires.0 c.requires.1 in
    let is = at_of t list c.self.invariant.2 c.args.p (pos.Return c.in-Return.f) c.requires.0 c.in-Return.is there in
    let within : c.in-Return.f.0 < length t.functions.items = slice_get_within t.functions.items c.in-Return.f.0 is.0 is.1 in
    omega (arith, within)

pub overflow_add-result : goal.overflow_add-result
overflow_add-result c =
    let t = c.self.inside.tables in
    let list = c.self.inside.list.items in
    let there = seen _ c.args.self.now c.self.view_is c.args.p c.requires.0 c.requires.1 in
    let within = slice_get_within list c.requires.0 c.args.p there in
    let is = at_of t list c.self.invariant.2 c.args.p (pos.Return c.in-Return.f) c.requires.0 c.in-Return.is there in
    let read = read_is t.functions.items c.in-Return.f.0 is.0 c.index-in-Return.result.now is.1 c.index-in-Return.ensures in
    let far = is.2 in
    omega (arith, within, read, far, c.self.invariant.0)

pub overflow_mul-result : goal.overflow_mul-result
overflow_mul-result c =
    let t = c.self.inside.tables in
    let list = c.self.inside.list.items in
    let there = seen _ c.args.self.now c.self.view_is c.args.p c.requires.0 c.requires.1 in
    let within = slice_get_within list c.requires.0 c.args.p there in
    let is = at_of t list c.self.invariant.2 c.args.p (pos.Reach c.in-Reach.row c.in-Reach.k) c.requires.0 c.in-Reach.is there in
    omega (arith, within, is, c.self.invariant.0)

pub overflow_add-result-in-Reach : goal.overflow_add-result-in-Reach
overflow_add-result-in-Reach c =
    let t = c.self.inside.tables in
    let list = c.self.inside.list.items in
    let there = seen _ c.args.self.now c.self.view_is c.args.p c.requires.0 c.requires.1 in
    let within = slice_get_within list c.requires.0 c.args.p there in
    let is = at_of t list c.self.invariant.2 c.args.p (pos.Reach c.in-Reach.row c.in-Reach.k) c.requires.0 c.in-Reach.is there in
    omega (arith, within, is, c.self.invariant.0)

pub overflow_add-result-in-Reach-2 : goal.overflow_add-result-in-Reach-2
overflow_add-result-in-Reach-2 c =
    let t = c.self.inside.tables in
    let list = c.self.inside.list.items in
    let there = seen _ c.args.self.now c.self.view_is c.args.p c.requires.0 c.requires.1 in
    let within = slice_get_within list c.requires.0 c.args.p there in
    let is = at_of t list c.self.invariant.2 c.args.p (pos.Reach c.in-Reach.row c.in-Reach.k) c.requires.0 c.in-Reach.is there in
    omega (arith, within, is, c.self.invariant.0)

pub overflow_add-result-in-Effect : goal.overflow_add-result-in-Effect
overflow_add-result-in-Effect c =
    let t = c.self.inside.tables in
    let list = c.self.inside.list.items in
    let there = seen _ c.args.self.now c.self.view_is c.args.p c.requires.0 c.requires.1 in
    let within = slice_get_within list c.requires.0 c.args.p there in
    let is = at_of t list c.self.invariant.2 c.args.p (pos.Effect c.in-Effect.s) c.requires.0 c.in-Effect.is there in
    omega (arith, within, is, c.self.invariant.0)

pub returns-in-Segment : goal.returns-in-Segment
returns-in-Segment c =
    let t = c.self.inside.tables in
    let list = c.self.inside.list.items in
    let there = seen _ c.args.self.now c.self.view_is c.args.p c.requires.0 c.requires.1 in
    told c.args.self.now c.args.p c.requires.0 c.in-Segment.s.0 c.requires.1
    (at_of t list c.self.invariant.2 c.args.p (pos.Segment c.in-Segment.s) c.requires.0 c.in-Segment.is there)

pub returns-in-Function : goal.returns-in-Function
returns-in-Function c =
    let t = c.self.inside.tables in
    let list = c.self.inside.list.items in
    let there = seen _ c.args.self.now c.self.view_is c.args.p c.requires.0 c.requires.1 in
    told c.args.self.now c.args.p c.requires.0 c.index.result.now c.requires.1
    (read_is t.functions.items c.in-Function.f.0 c.requires.0 c.index.result.now
    (at_of t list c.self.invariant.2 c.args.p (pos.Function c.in-Function.f) c.requires.0 c.in-Function.is there) c.index.ensures)

pub returns-in-Value : goal.returns-in-Value
returns-in-Value c =
    let t = c.self.inside.tables in
    let list = c.self.inside.list.items in
    let there = seen _ c.args.self.now c.self.view_is c.args.p c.requires.0 c.requires.1 in
    told c.args.self.now c.args.p c.requires.0 c.index-in-Value.result.now c.requires.1
    (read_is t.values.items c.in-Value.v.0 c.requires.0 c.index-in-Value.result.now
    (at_of t list c.self.invariant.2 c.args.p (pos.Value c.in-Value.v) c.requires.0 c.in-Value.is there) c.index-in-Value.ensures)

pub returns-in-Return : goal.returns-in-Return
returns-in-Return c =
    let t = c.self.inside.tables in
    let list = c.self.inside.list.items in
    let there = seen _ c.args.self.now c.self.view_is c.args.p c.requires.0 c.requires.1 in
    let is = at_of t list c.self.invariant.2 c.args.p (pos.Return c.in-Return.f) c.requires.0 c.in-Return.is there in
    let read = read_is t.functions.items c.in-Return.f.0 is.0 c.index-in-Return.result.now is.1 c.index-in-Return.ensures in
    told c.args.self.now c.args.p c.requires.0 (c.index-in-Return.result.now + t.to_returns) c.requires.1 (ap (λ n. n + t.to_returns) read ∙ is.2)

pub returns-in-Reach : goal.returns-in-Reach
returns-in-Reach c =
    let t = c.self.inside.tables in
    let list = c.self.inside.list.items in
    let there = seen _ c.args.self.now c.self.view_is c.args.p c.requires.0 c.requires.1 in
    told c.args.self.now c.args.p c.requires.0 _ c.requires.1
    (at_of t list c.self.invariant.2 c.args.p (pos.Reach c.in-Reach.row c.in-Reach.k) c.requires.0 c.in-Reach.is there)

pub returns-in-Effect : goal.returns-in-Effect
returns-in-Effect c =
    let t = c.self.inside.tables in
    let list = c.self.inside.list.items in
    let there = seen _ c.args.self.now c.self.view_is c.args.p c.requires.0 c.requires.1 in
    told c.args.self.now c.args.p c.requires.0 _ c.requires.1
    (at_of t list c.self.invariant.2 c.args.p (pos.Effect c.in-Effect.s) c.requires.0 c.in-Effect.is there)
