use Rattle.ir_token.proofs.Depth.{depth_bound, depth_reached}
use Rattle.ir_token.proofs.laws.nesting_is_greatest.Goals as goal

pub returns-clause-bound : goal.returns-clause-bound
returns-clause-bound c = λ b ts n. depth_bound b 0 ts n

pub returns-clause-reached : goal.returns-clause-reached
returns-clause-reached c = λ b ts. depth_reached b 0 ts
