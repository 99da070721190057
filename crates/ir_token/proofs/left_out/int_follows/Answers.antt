use Rattle.std.proofs.Common.{ℕ, true, false, subst, sym}
use Rattle.std.proofs.lemmas.Bool.{false≢true}
use Rattle.ir_token.specs.declared.token.Kind.TheVariants.{Int}
use Rattle.ir_token.specs.Texts.{IsToken}
use Rattle.ir_token.proofs.Unique.{not_bad}
use Rattle.ir_token.proofs.left_out.int_follows.Goals as goal

pub returns-in-Bad : goal.returns-in-Bad
returns-in-Bad c =
    let P : ℕ → Type 0 = λ n. (x : ℕ) × IsToken c.args.text.now n Int x in (
      λ h. absurd (false≢true h),
      λ found. let here = subst P (sym c.past_gap-at.ensures.value) found in
          absurd (not_bad c.args.text.now c.past_gap-at.result Int here.0 c.in-Bad.ensures here.1),
    )
