use Rattle.std.proofs.Common.{◌≡◌, ◌&&◌, not, Bool, sym, ap, ◌∙◌}
use Rattle.lattice_words.specs.Words.{has_bit}
use Rattle.ir_module.specs.declared.attrs.MemoryAttr.{MemoryAttr}
use Rattle.facts.specs.Kinds.{FunctionFact, function_bit}
use Rattle.manifest.specs.Attrs.{Attr, added, memory_of, permits_all, excludes_argument_writes}
use Rattle.manifest.specs.Spelling.{spelled_behind}
use Rattle.manifest.proofs.Texts.{is_added, not_added}
use Rattle.manifest.proofs.memory.put_memory_of.Goals as goal

pub returns-in_ok-put_memory : goal.returns-in_ok-put_memory
returns-in_ok-put_memory c =
    let has : FunctionFact → Bool = λ kind. has_bit c.args.word (function_bit kind) in
    let says : MemoryAttr → Bool = λ m. not (permits_all m) && not (c.args.writable && excludes_argument_writes has) in
    let is : says c.memory_of-memory.result ≡ says (memory_of has) = ap says c.memory_of-memory.ensures in
    c.in_ok-put_memory.ensures ∙
    (is_added c.args.written c.is_deduced.result c.args.text.now.items (Attr.Memory c.memory_of-memory.result) (sym c.is_added.ensures ∙ c.if-is_added.true) ∙
    (ap (λ d. spelled_behind c.args.text.now.items (added c.args.written d (Attr.Memory c.memory_of-memory.result))) (c.is_deduced.ensures ∙ is) ∙
    ap (λ m. spelled_behind c.args.text.now.items (added c.args.written (says (memory_of has)) (Attr.Memory m))) c.memory_of-memory.ensures))

pub returns-else-is_added : goal.returns-else-is_added
returns-else-is_added c =
    let has : FunctionFact → Bool = λ kind. has_bit c.args.word (function_bit kind) in
    let says : MemoryAttr → Bool = λ m. not (permits_all m) && not (c.args.writable && excludes_argument_writes has) in
    let is : says c.memory_of-memory.result ≡ says (memory_of has) = ap says c.memory_of-memory.ensures in
    not_added c.args.written (says (memory_of has)) c.args.text.now.items (Attr.Memory (memory_of has))
    (ap (λ d. d && not c.args.written) (sym (c.is_deduced.ensures ∙ is)) ∙ (sym c.is_added.ensures ∙ c.if-is_added.false))
