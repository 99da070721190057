use Rattle.std.proofs.Common.{◌≡◌, ℕ, ◌+◌, ◌*◌, Bool, false, length, min, ap, sym, subst, ◌∙◌, arith, inl, inr}
use Rattle.why_make.specs.declared.marks.TheConstants.{BLOCK}
use Rattle.why_make.specs.Going.{Overflows, Went}
use Rattle.why_make.proofs.Going.{carried, went_none, went_on, went_to, overflows_more}
use Rattle.why_make.proofs.looking.sweep_marked.Goals as goal
use Rattle.why_make.proofs.looking.sweep_marked.Goals.{then-branch, else-branch}

pub loop-b-init : goal.loop-b-init
loop-b-init c =
    let first : 0 ≡ min (0 * BLOCK) (length c.args.s.now.masks) = omega arith in
    record {
      went = subst (λ (n : ℕ). Went c.args.s.now c.args.course.now c.args.course.now 0 n false) first (went_none c.args.s.now c.args.course.now 0);
      marked = c.requires.marked;
    }

pub look_at_block-requires-clause-long : goal.look_at_block-requires-clause-long
look_at_block-requires-clause-long c = c.loop-b.invariant.went.long ∙ c.requires.long

pub loop-b-preserved : goal.loop-b-preserved
loop-b-preserved c =
    let s = c.args.s.now in let a = c.args.course.now in let b = c.loop-b.course in let d = c.look_at_block.new.course in
    let n = length s.masks in
    let from : ℕ = c.loop-b.b * BLOCK in
    let here : min from n ≡ from = omega arith in
    let next : min (from + BLOCK) n ≡ min ((c.loop-b.b + 1) * BLOCK) n = omega arith in
    let before : Went s a b 0 from c.loop-b.fell = subst (λ (k : ℕ). Went s a b 0 k c.loop-b.fell) here c.loop-b.invariant.went in
    let after = went_to s b d from (min (from + BLOCK) n) (min ((c.loop-b.b + 1) * BLOCK) n) _ next c.in_ok-look_at_block.ensures.went in
    record {
      went = elim c.if-branch.branch [
        | then-branch w ↦ went_on s a b d 0 from (min ((c.loop-b.b + 1) * BLOCK) n) c.loop-b.fell _ _ before after
            (inl (w.if-branch.true, w.fell-is))
        | else-branch w ↦ went_on s a b d 0 from (min ((c.loop-b.b + 1) * BLOCK) n) c.loop-b.fell _ _ before after
            (inr (w.if-branch.false, w.fell-is))
      ];
      marked = c.in_ok-look_at_block.ensures.marked;
    }

pub returns-in_err-look_at_block-clause-too_many : goal.returns-in_err-look_at_block-clause-too_many
returns-in_err-look_at_block-clause-too_many c = λ count e.
    let s = c.args.s.now in let a = c.args.course.now in let b = c.loop-b.course in
    let n = length s.masks in
    let from : ℕ = c.loop-b.b * BLOCK in
    let here : min from n ≡ from = omega arith in
    let before : Went s a b 0 from c.loop-b.fell = subst (λ (k : ℕ). Went s a b 0 k c.loop-b.fell) here c.loop-b.invariant.went in
    overflows_more s a b 0 from (min (from + BLOCK) n) n count c.loop-b.fell before (c.look_at_block.ensures.too_many count
    (carried c.from_residual.result c.look_at_block.result c.in_err-look_at_block.field-0.0 count c.in_err-look_at_block.was c.from_residual.ensures.1 e))
    (omega arith)

pub returns-clause-went : goal.returns-clause-went
returns-clause-went c =
    let last : min (c.loop-b.b * BLOCK) (length c.args.s.now.masks) ≡ length c.args.s.now.masks = omega arith in
    subst (λ (n : ℕ). Went c.args.s.now c.args.course.now c.loop-b.course 0 n c.loop-b.fell) last c.loop-b.invariant.went
