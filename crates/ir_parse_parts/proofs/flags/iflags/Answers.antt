use Rattle.std.proofs.Common.{rules, ◌≡◌, ◌++◌, [], ◌∷◌, sym, subst, refl}
use Rattle.ir_tree.specs.Steps.{Longest}
use Rattle.ir_tree.specs.Constants.{iflag}
use Rattle.ir_tree.proofs.ClearConstants.{iflag_of}
use Rattle.ir_parse_parts.proofs.Longest.{Reached, reached_next, reached_all}
use Rattle.ir_parse_parts.proofs.flags.iflags.Goals as goal

pub loop-flag-preserved : goal.loop-flag-preserved
loop-flag-preserved c =
    let ts = c.args.toks.now in
    let e : c.push.new.self ≡ c.loop-flag.found ++ c.in-Some.flag ∷ [] = search rules in
    subst (λ z. Reached (iflag ts) c.args.at z c.in-Some.next) (sym e) (reached_next (iflag_of ts) refl c.args.at c.loop-flag.place c.in-Some.next
    c.loop-flag.found c.in-Some.flag c.loop-flag.invariant (subst (Longest (iflag ts) c.loop-flag.place) c.in-Some.is c.iflag.ensures.fits))

pub returns : goal.returns
returns c = reached_all (iflag c.args.toks.now) c.args.at c.loop-flag.place c.loop-flag.found c.loop-flag.invariant
    (subst (Longest (iflag c.args.toks.now) c.loop-flag.place) c.in_default.is c.iflag.ensures.fits)
