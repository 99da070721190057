use Rattle.std.proofs.Common.{sym, ◌∙◌, ap, arith}
use Rattle.std.specs.Option.{is_some}
use Rattle.std.proofs.lemmas.Option.{slice_get_within}
use Rattle.std.proofs.lemmas.Bool.{true≢false}
use Rattle.ir_types.specs.IrType.{parts}
use Rattle.ir_types.proofs.Notes.{noted_more}
use Rattle.ir_types.proofs.users.note_users.Goals as goal
use Rattle.ir_types.proofs.users.note_users.Goals.{then-is_none+in_ok-note_user, else-is_none}

pub loop-at-preserved : goal.loop-at-preserved
loop-at-preserved c =
    elim c.if-is_none.branch [
      | then-is_none+in_ok-note_user w ↦
          rw w.users-is record {
            kept = λ part t h. w.in_ok-note_user.ensures.kept part t (c.loop-at.invariant.kept part t h);
            noted = noted_more c.loop-at.users.items w.note_user.new.users.items
                (parts c.args.ty.now) c.args.standings.now c.args.user c.loop-at.at c.part_at-part.result
                w.in_ok-note_user.ensures.kept c.part_at-part.ensures c.loop-at.invariant.noted (λ out. w.in_ok-note_user.ensures.noted);
          }
      | else-is_none w ↦
          rw w.users-is record {
            kept = c.loop-at.invariant.kept;
            noted = noted_more c.loop-at.users.items c.loop-at.users.items
                (parts c.args.ty.now) c.args.standings.now c.args.user c.loop-at.at c.part_at-part.result
                (λ p t h. h) c.part_at-part.ensures c.loop-at.invariant.noted
                (λ out. absurd (true≢false (sym w.if-is_none.ensures ∙ ap is_some (c.extent_at.ensures ∙ out))));
          }
    ]

pub returns-clause-noted : goal.returns-clause-noted
returns-clause-noted c = λ part has is.
    c.loop-at.invariant.noted has.0 part (omega (
      arith,
      c.loop-at-test.false,
      c.part_count-at-end.ensures,
      slice_get_within
          (parts c.args.ty.now) has.0 part has.1,
    )) has.1 is
