use Rattle.std.proofs.Common.{List, ℕ, ◌++◌, codes, decimal, length, ap, ◌∙◌}
use Rattle.facts.specs.Bodies.{is_body}
use Rattle.manifest.specs.Ready.{set_of}
use Rattle.attr_list.specs.Summed.{count_of, is_dead}
use Rattle.attr_list.proofs.Lines.{five}
use Rattle.attr_list.proofs.summing.put_head.Goals as goal

pub returns : goal.returns
returns c =
    let m = c.args.held.now.m.now in
    let all = count_of (is_body m) (length m.funcs) in
    let dead = count_of (is_dead m (set_of c.args.held.now)) (length m.funcs) in
    c.in_ok-extend_from_slice-5.ensures.items
    ∙ ap (λ (t : List ℕ). t ++ codes "\n") (c.in_ok-extend_from_slice-4.ensures.items
    ∙ (ap (λ (w : List ℕ). c.extend_from_slice-3.new.self.items ++ w) (c.as_bytes-2.ensures.value ∙ (c.format-2.ensures.text ∙ ap decimal c.count_dead.ensures))
    ∙ ap (λ (t : List ℕ). t ++ decimal dead) (c.in_ok-extend_from_slice-3.ensures.items
    ∙ ap (λ (t : List ℕ). t ++ codes " dead ") (c.in_ok-extend_from_slice-2.ensures.items
    ∙ (ap (λ (w : List ℕ). c.extend_from_slice.new.self.items ++ w) (c.as_bytes.ensures.value ∙ (c.format.ensures.text ∙ ap decimal c.count_bodies.ensures))
    ∙ ap (λ (t : List ℕ). t ++ decimal all) c.in_ok-extend_from_slice.ensures.items)))))
    ∙ five c.args.text.now.items (codes "functions ") (decimal all) (codes " dead ") (decimal dead) (codes "\n")
