use Rattle.std.proofs.Common.{length, sym, ap, ◌∙◌}
use Rattle.ir_headers.specs.Leaves.{name_in}
use Rattle.ir_headers.proofs.Making.{token_of, if_ok}
use Rattle.ir_headers.proofs.leaves.name_of.Goals as goal

pub name_in-requires : goal.name_in-requires
name_in-requires c =
    record { token = token_of c.args.text.now 0 (length c.args.text.now) c.args.toks.now c.args.at c.in-Some.token c.requires.tokens (sym c.in-Some.ensures) }

pub returns-in-Some : goal.returns-in-Some
returns-in-Some c = if_ok c.name_in.result (λ name is. is ∙ ap (name_in c.args.text.now) c.in-Some.ensures) c.name_in.ensures

pub returns-in-None : goal.returns-in-None
returns-in-None c = c.from_vec.ensures ∙ c.new.ensures.items ∙ ap (name_in c.args.text.now) c.in-None.ensures
