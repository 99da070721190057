use Rattle.std.proofs.Common.{◌++◌, codes, ap, ◌∙◌}
use Rattle.manifest.specs.Spelling.{parted, memory_items}
use Rattle.manifest.proofs.Texts.{three}
use Rattle.manifest.proofs.spelling.put_memory.Goals as goal

pub returns : goal.returns
returns c =
    c.in_ok-extend_from_slice-2.ensures.items ∙ (ap (λ t. t ++ codes ")") (c.in_ok-put_items.ensures ∙
    ap (λ t. t ++ memory_items c.args.memory.now) (c.in_ok-extend_from_slice.ensures.items ∙ ap (λ t. t ++ codes "memory(") c.in_ok-part.ensures)) ∙
    three (parted c.args.text.now.items) (codes "memory(") (memory_items c.args.memory.now) (codes ")"))
