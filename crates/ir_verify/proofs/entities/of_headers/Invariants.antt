use Rattle.ir_module.proofs.Each.{EachOf}
use Rattle.ir_verify.specs.Judging.{Judged, Keeps, Breaks}
use Rattle.ir_verify.proofs.Judged.{OneOf}
use Rattle.ir_verify.specs.Demands.{OfHeader}
use Rattle.ir_verify.proofs.entities.of_headers.Given as goal

abbrev pub invariant-loop-f : goal.invariant-loop-f
invariant-loop-f l =
    Judged (EachOf l.f l.m.funcs (λ f func. Keeps (OfHeader l.m l.numbers f func)))
    (OneOf l.f l.m.funcs (λ f func. Breaks func.at (OfHeader l.m l.numbers f func))) l.found
