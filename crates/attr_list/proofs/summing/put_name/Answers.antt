use Rattle.std.proofs.Common.{List, ℕ, ◌++◌, codes, decimal, ap, ◌∙◌}
use Rattle.attr_list.specs.Summed.{times}
use Rattle.attr_list.proofs.Lines.{four}
use Rattle.attr_list.proofs.summing.put_name.Goals as goal

pub returns : goal.returns
returns c =
    let n = decimal (times c.args.insertions.now c.args.name.now) in
    c.in_ok-extend_from_slice-4.ensures.items
    ∙ ap (λ (t : List ℕ). t ++ codes "\n") (c.in_ok-extend_from_slice-3.ensures.items
    ∙ (ap (λ (w : List ℕ). c.extend_from_slice-2.new.self.items ++ w) (c.as_bytes.ensures.value ∙ (c.format.ensures.text ∙ ap decimal c.times.ensures))
    ∙ ap (λ (t : List ℕ). t ++ n) (c.in_ok-extend_from_slice-2.ensures.items
    ∙ ap (λ (t : List ℕ). t ++ codes " ") c.in_ok-extend_from_slice.ensures.items)))
    ∙ four c.args.text.now.items c.args.name.now (codes " ") n (codes "\n")
