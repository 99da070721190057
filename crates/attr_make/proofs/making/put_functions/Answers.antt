use Rattle.std.proofs.Common.{◌≡◌, ℕ, ◌++◌, subst, arith}
use Rattle.std.specs.List.{flat_map, range_with_len}
use Rattle.attr_make.specs.Made.{as_text, function_lines}
use Rattle.attr_make.proofs.Lines.{function_more}
use Rattle.attr_make.proofs.making.put_functions.Goals as goal

pub loop-name-preserved : goal.loop-name-preserved
loop-name-preserved c =
    function_more c.args.text.now.items c.loop-name.text.items c.put_function.new.text.items c.loop-name.name c.loop-name.invariant c.in_ok-put_function.ensures

pub returns : goal.returns
returns c =
    let all : c.loop-name.name ≡ c.args.count = omega arith in
    subst (λ (n : ℕ). c.loop-name.text.items ≡ c.args.text.now.items ++ as_text (flat_map function_lines (range_with_len 0 n))) all c.loop-name.invariant
