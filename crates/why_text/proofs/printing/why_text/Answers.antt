use Rattle.std.proofs.Common.{ℕ, List, ◌+◌, ◌++◌, Option, codes, decimal, get_or, ap, sym, ◌∙◌}
use Rattle.facts.specs.declared.pos.Pos.{Pos}
use Rattle.why_check.specs.declared.entry.Entry.{Entry}
use Rattle.why_text.specs.Lines.{line, position_at}
use Rattle.why_text.proofs.Numbered.{one_more}
use Rattle.why_text.proofs.printing.why_text.Goals as goal

pub loop-k-preserved : goal.loop-k-preserved
loop-k-preserved c =
    let b = c.args.text.now in
    let m = c.args.m.now in
    let k = c.loop-k.k in
    let seen = c.as_slice-entry-items.result.now in
    let none : Entry = record { p = record { 0 = 0 }; bits = 0 } in
    let position : Option Pos → List ℕ = λ p. c.loop-k.printed.items
    ++ (decimal (k + 1) ++ codes " " ++ position_at b m p ++ codes " " ++ decimal (get_or seen k none).bits ++ codes "\n") in
    one_more (line b m c.args.p.now.list) c.args.entries.now seen k none c.loop-k.printed.items c.put_line.new.text.items
    c.as_slice-entry-items.ensures c.loop-k-test.true c.loop-k.invariant (c.in_ok-put_line.ensures ∙ ap position (sym c.pos.ensures))
