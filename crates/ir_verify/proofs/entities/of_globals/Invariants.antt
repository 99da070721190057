use Rattle.ir_module.proofs.Each.{EachOf}
use Rattle.ir_verify.specs.Judging.{Judged, Keeps, Breaks}
use Rattle.ir_verify.proofs.Judged.{OneOf}
use Rattle.ir_verify.specs.Demands.{OfGlobal}
use Rattle.ir_verify.proofs.entities.of_globals.Given as goal

abbrev pub invariant-loop-global : goal.invariant-loop-global
invariant-loop-global l =
    Judged (EachOf l.global-index l.m.globals (λ g global. Keeps (OfGlobal l.m l.numbers global)))
    (OneOf l.global-index l.m.globals (λ g global. Breaks global.at (OfGlobal l.m l.numbers global))) l.found
