-- The machine: what a step does, in each state and by each choice.
use Rattle.std.specs.Prelude.{ℕ, List, [], ◌∷◌, Option, None, Some}
use Rattle.ir_module.specs.declared.op.Op.{Op}
use Rattle.ir_module.specs.declared.op.Op.TheVariants as op
use Rattle.ir_module.specs.declared.op.Instr.{Instr}
use Rattle.ir_module.specs.declared.module.Module.{Module}
use Rattle.ir_module.specs.Places.{instr_at}
use Rattle.ir_machine.specs.declared.choice.Act.{Act}
use Rattle.ir_machine.specs.declared.choice.Choice.{Choice}
use Rattle.ir_machine.specs.Frames.{BodyFrame, OutsideFrame, Frame, Body, Outside, State}
use Rattle.ir_machine.specs.Moves.{Undefined, Over, Plan}
use Rattle.ir_machine.specs.Reading.{Here}
use Rattle.ir_machine.specs.Compute.{computes, does_icmp, does_cast}
use Rattle.ir_machine.specs.Access.{allocates, loads, stores}
use Rattle.ir_machine.specs.Edges.{branches, branches_on, switches}
use Rattle.ir_machine.specs.Calls.{does_call, does_ret, unwinds}
use Rattle.ir_machine.specs.Outside.{acts}

-- what an instruction does; no frame stands at a phi, since an edge leads behind the phis
abbrev pub performs : Module → Here → List ℕ → Op → Plan
performs m here picks (op.Bin o flagged a b) = computes m here picks (op.Bin o flagged a b)
performs m here picks (op.Icmp pred flagged a b) = does_icmp m here picks (op.Icmp pred flagged a b)
performs m here picks (op.Cast o flagged a) = does_cast m here picks o flagged a
performs m here picks (op.Select c a b) = computes m here picks (op.Select c a b)
performs m here picks (op.Freeze a) = computes m here picks (op.Freeze a)
performs m here picks (op.Phi arms) = Over
performs m here picks (op.Alloca ty count align) = allocates m here picks ty.0 count align
performs m here picks (op.Load ptr align volatile) = loads m here picks ptr align volatile
performs m here picks (op.Store val ptr align volatile) = stores m here picks val ptr align volatile
performs m here picks (op.Gep elem base indices inbounds wrap) = computes m here picks (op.Gep elem base indices inbounds wrap)
performs m here picks (op.Call call) = does_call m here picks (op.Call call) call
performs m here picks (op.Invoke call normal unwind) = does_call m here picks (op.Invoke call normal unwind) call
performs m here picks (op.LandingPad catch_all clauses) = computes m here picks (op.LandingPad catch_all clauses)
performs m here picks (op.Resume val) = unwinds m here.state here.below picks
performs m here picks (op.Ret val) = does_ret m here picks val
performs m here picks (op.Jump to) = branches m here to.0 picks
performs m here picks (op.Branch c so otherwise) = branches_on m here picks c so otherwise
performs m here picks (op.Switch on other cases) = switches m here picks on other cases
performs m here picks op.Unreachable = Undefined

-- a module frame does the instruction at which it stands
abbrev pub body_plan : Module → State → BodyFrame → List Frame → List ℕ → Option Instr → Plan
body_plan m t frame below picks None = Over
body_plan m t frame below picks (Some instr) = performs m (record { state = t; frame = frame; below = below; instr = instr }) picks instr.op

-- an outside frame does what is chosen, and nothing without an act
abbrev pub outside_plan : Module → State → OutsideFrame → List Frame → Choice → Option Act → Plan
outside_plan m t frame below choice None = Over
outside_plan m t frame below choice (Some act) = acts m t frame below choice.picks act

-- an act is for an outside frame alone
abbrev pub unless_acted : Option Act → Plan → Plan
unless_acted None plan = plan
unless_acted (Some act) plan = Over

-- the step by the frame on top
abbrev pub plan_on : Module → State → Choice → List Frame → Plan
plan_on m t choice [] = Over
plan_on m t choice (Outside frame ∷ below) = outside_plan m t frame below choice choice.act
plan_on m t choice (Body frame ∷ below) = unless_acted choice.act (body_plan m t frame below choice.picks (instr_at m frame.spot))

-- The moves of the next step, by what the frame on top does; the run is over where the choice does not fit the state.
unfoldable pub plan : Module → State → Choice → Plan
plan m t choice = plan_on m t choice t.stack
