use Rattle.std.proofs.Common.{◌≡◌, ℕ, ◌++◌, map, subst, arith}
use Rattle.std.specs.List.{range_with_len}
use Rattle.attr_make.specs.Made.{as_text, call_line}
use Rattle.std.specs.Prelude.{codes}
use Rattle.attr_make.proofs.Lines.{line_more}
use Rattle.attr_make.proofs.making.put_calls.Goals as goal

pub loop-name-preserved : goal.loop-name-preserved
loop-name-preserved c =
    line_more (λ name. call_line name (codes "@g")) c.args.text.now.items c.loop-name.text.items c.put_call.new.text.items c.loop-name.name
    c.loop-name.invariant c.in_ok-put_call.ensures

pub returns : goal.returns
returns c =
    let all : c.loop-name.name ≡ c.args.count = omega arith in
    subst (λ (n : ℕ). c.loop-name.text.items ≡ c.args.text.now.items ++ as_text (map (λ name. call_line name (codes "@g")) (range_with_len 0 n))) all
    c.loop-name.invariant
