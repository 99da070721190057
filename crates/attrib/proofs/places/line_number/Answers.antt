use Rattle.std.proofs.Common.{ap, ◌+◌, ◌∙◌, length}
use Rattle.std.specs.List.{count_by}
use Rattle.memchr.specs.Find.{is_byte}
use Rattle.memchr.proofs.lemmas.CallerLemmas.{length-places}
use Rattle.attrib.proofs.places.line_number.Goals as goal

pub returns : goal.returns
returns c =
    let front = c.before-2.result.now in
    let counted = c.count.ensures ∙ ap length c.memchr_iter.ensures.value ∙ length-places (is_byte 10) front in
    ap (λ n. n + 1) (counted ∙ ap (count_by (is_byte 10)) c.before-2.ensures)
