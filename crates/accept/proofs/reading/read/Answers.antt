use Rattle.accept.specs.Accepted.{IsModuleOf, IsChecked}
use Rattle.accept.specs.Causes.{IsCause}
use Rattle.accept.proofs.Told.{handed}
use Rattle.accept.proofs.reading.read.Goals as goal

pub returns-in_err-verified-clause-refused : goal.returns-in_err-verified-clause-refused
returns-in_err-verified-clause-refused c =
    let front = c.in_ok-front.front in
    let is : IsModuleOf c.args.text.now front.module = (front.tokens, front.tree, c.in_ok-front.ensures.resolved) in
    handed c.from_residual-in_err-verified.result c.in_err-verified.field-0.0 (IsCause c.args.text.now) c.from_residual-in_err-verified.ensures.1
    (c.in_err-verified.ensures.refused c.args.text.now is)

pub returns-in_err-sized-clause-refused : goal.returns-in_err-sized-clause-refused
returns-in_err-sized-clause-refused c =
    let front = c.in_ok-front.front in
    let is : IsModuleOf c.args.text.now front.module = (front.tokens, front.tree, c.in_ok-front.ensures.resolved) in
    let checked : IsChecked c.args.text.now front.module =
    record { is_module = is; layouts = c.in_ok-verified.ensures.layouts; verified = c.in_ok-verified.ensures.verified } in
    handed c.from_residual-in_err-sized.result c.in_err-sized.field-0.0 (IsCause c.args.text.now) c.from_residual-in_err-sized.ensures.1
    (c.in_err-sized.ensures.refused c.args.text.now checked)

pub returns-in_err-back-clause-refused : goal.returns-in_err-back-clause-refused
returns-in_err-back-clause-refused c =
    let front = c.in_ok-front.front in
    let is : IsModuleOf c.args.text.now front.module = (front.tokens, front.tree, c.in_ok-front.ensures.resolved) in
    let checked : IsChecked c.args.text.now front.module =
    record { is_module = is; layouts = c.in_ok-verified.ensures.layouts; verified = c.in_ok-verified.ensures.verified } in
    handed c.from_residual-in_err-back.result c.in_err-back.field-0.0 (IsCause c.args.text.now) c.from_residual-in_err-back.ensures.1
    (c.in_err-back.ensures.refused c.args.text.now checked)
