use Rattle.std.proofs.Common.{◌≡◌, sym, ap, ◌∙◌}
use Rattle.std.specs.Option.{option_copied}
use Rattle.lattice_words.specs.Words.{has_bit}
use Rattle.manifest.specs.Added.{Subject}
use Rattle.manifest.specs.Argument.{arg_attrs, arg_attrs_by, of_operand, of_handed}
use Rattle.manifest.specs.Ready.{set_of}
use Rattle.manifest.specs.Spelling.{words_of}
use Rattle.manifest.proofs.Joining.{put_out, put_in}
use Rattle.manifest.proofs.Rungs.{same_tests}
use Rattle.manifest.proofs.argument.add_at_written.Goals as goal

pub returns-then-not-is_pointer : goal.returns-then-not-is_pointer
returns-then-not-is_pointer c = λ s at. put_out c.args.out.now.items _ _ (sym c.is_pointer.ensures ∙ c.if-not-is_pointer.true)

pub returns : goal.returns
returns c = λ s at.
    let m = c.args.held.now.m.now in
    let set = set_of c.args.held.now in
    let w = c.args.w.now in
    let written = c.args.written.now in
    let handed = option_copied c.args.handed in
    let operand : has_bit c.operand_word-operand.result ≡ of_operand m set w = same_tests _ (of_operand m set w) c.operand_word-operand.ensures in
    let uses : has_bit c.handed_word-uses.result ≡ of_handed set handed = same_tests _ (of_handed set handed) c.handed_word-uses.ensures in
    put_in c.args.out.now.items c.put.new.out.items _ _ (sym c.is_pointer.ensures ∙ c.if-not-is_pointer.false)
    (c.in_ok-put.ensures (Subject.OfArg s at) (arg_attrs m set handed w written)
    (c.in_ok-text.ensures ∙ (ap (λ h. words_of (arg_attrs_by written h (has_bit c.handed_word-uses.result) c.refuses_access.result)) operand ∙
    (ap (λ h. words_of (arg_attrs_by written (of_operand m set w) h c.refuses_access.result)) uses ∙
    ap (λ b. words_of (arg_attrs_by written (of_operand m set w) (of_handed set handed) b)) c.refuses_access.ensures))))
