use Rattle.std.proofs.Common.{◌+◌, refl, ap, ◌∙◌}
use Rattle.ir_type_names.specs.Tables.{table, keys_at}
use Rattle.ir_type_names.proofs.Numbering.{if_ok, put_number}
use Rattle.ir_type_names.proofs.table.TypeIds.put.Goals as goal

pub returns : goal.returns
returns c =
    let t = table c.args.self.now in
    let new = table record { source = c.args.self.now.source; first = c.args.self.now.first; keys = c.insert_full.new.self } in
    let e = c.in_ok-place.ensures in
    if_ok c.number_at.result (λ n is. put_number t new c.args.self.now.keys.keys c.args.key n refl (ap (λ ks. record t { keys = keys_at ks }) e.keys)
    (is ∙ ap (λ i. c.args.self.now.first + i) e.index)) c.number_at.ensures
