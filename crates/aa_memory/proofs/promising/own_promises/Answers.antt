use Rattle.std.proofs.Common.{Bool, false, refl, sym, ◌∙◌}
use Rattle.std.specs.Option.{option_map_or}
use Rattle.ir_module.specs.declared.attrs.CallAttrs.{CallAttrs}
use Rattle.facts.specs.Promises.{forbids_at}
use Rattle.aa_memory.specs.Accesses.{access_of, location_of}
use Rattle.aa_memory.proofs.Promised.{own_has}
use Rattle.aa_memory.proofs.promising.own_promises.Goals as goal

pub returns-in-Some : goal.returns-in-Some
returns-in-Some c =
    let has : CallAttrs → Bool = (λ x. option_map_or (forbids_at (access_of c.args.a) (location_of c.args.location)) x.func.memory false) in
    c.stands.ensures c.in-Some.call.now.attrs refl ∙ sym (own_has has c.args.op.now c.in-Some.call.now c.in-Some.ensures)
