use Rattle.std.proofs.Common.{List, ℕ, ◌++◌, codes, decimal, ap, ◌∙◌}
use Rattle.attr_list.specs.Listed.{letter}
use Rattle.attr_list.proofs.Lines.{six}
use Rattle.attr_list.proofs.listing.put_line.Goals as goal

pub returns : goal.returns
returns c =
    let i = c.args.insertion.now in
    c.in_ok-extend_from_slice-6.ensures.items
    ∙ ap (λ (t : List ℕ). t ++ codes "\n") (c.in_ok-extend_from_slice-5.ensures.items
    ∙ (ap (λ (w : List ℕ). c.extend_from_slice-4.new.self.items ++ w) c.as_slice.ensures
    ∙ ap (λ (t : List ℕ). t ++ i.words) (c.in_ok-extend_from_slice-4.ensures.items
    ∙ ap (λ (t : List ℕ). t ++ codes " ") (c.in_ok-extend_from_slice-3.ensures.items
    ∙ (ap (λ (w : List ℕ). c.extend_from_slice-2.new.self.items ++ w) c.letter.ensures
    ∙ ap (λ (t : List ℕ). t ++ letter i.place) (c.in_ok-extend_from_slice-2.ensures.items
    ∙ ap (λ (t : List ℕ). t ++ codes " ") (c.in_ok-extend_from_slice.ensures.items
    ∙ ap (λ (w : List ℕ). c.args.text.now.items ++ w) (c.as_bytes.ensures.value ∙ c.format.ensures.text))))))))
    ∙ six c.args.text.now.items (decimal i.at) (codes " ") (letter i.place) (codes " ") i.words (codes "\n")
