use Rattle.std.proofs.Common.{rules, ◌≡◌, ◌++◌, [], ◌∷◌, sym, subst, refl, arith}
use Rattle.ir_tree.specs.Steps.{Longest, next}
use Rattle.ir_tree.specs.Attributes.{attach}
use Rattle.ir_parse_parts.proofs.Longest.{Reached, ends, reached_next, reached_all}
use Rattle.ir_parse_parts.proofs.LongestAttributes.{next_attach_of}
use Rattle.ir_parse_parts.proofs.attributes.attachments.Goals as goal

pub loop-attachment-smaller : goal.loop-attachment-smaller
loop-attachment-smaller c =
    let l = ends (next_attach_of c.args.toks.now) refl c.loop-attachment.place c.in-Some.next c.in-Some.attachment
    (subst (Longest (next c.args.toks.now (attach c.args.toks.now)) c.loop-attachment.place) c.in-Some.is c.next_attach.ensures) in
    omega (arith, l.0, l.1)

pub loop-attachment-preserved : goal.loop-attachment-preserved
loop-attachment-preserved c =
    let ts = c.args.toks.now in
    let e : c.push.new.self ≡ c.loop-attachment.found ++ c.in-Some.attachment ∷ [] = search rules in
    subst (λ z. Reached (next ts (attach ts)) c.args.at z c.in-Some.next) (sym e) (reached_next (next_attach_of ts) refl c.args.at c.loop-attachment.place
    c.in-Some.next c.loop-attachment.found c.in-Some.attachment c.loop-attachment.invariant (subst (Longest (next ts (attach ts)) c.loop-attachment.place)
    c.in-Some.is c.next_attach.ensures))

pub returns : goal.returns
returns c = reached_all (next c.args.toks.now (attach c.args.toks.now)) c.args.at c.loop-attachment.place c.loop-attachment.found c.loop-attachment.invariant
    (subst (Longest (next c.args.toks.now (attach c.args.toks.now)) c.loop-attachment.place) c.in_default.is c.next_attach.ensures)
