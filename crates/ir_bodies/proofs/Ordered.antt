-- The operands of an instruction are the values that it names, in their order.
use Rattle.std.proofs.Common.{◌≡◌, List, [], ◌∷◌, ◌++◌, map, refl, sym, ap, ◌∙◌, arith}
use Rattle.std.specs.List.{flat_map}
use Rattle.ir_tree.specs.declared.instructions.Called.{Called}
use Rattle.ir_tree.specs.declared.instructions.Instr.{Instr}
use Rattle.ir_tree.specs.declared.instructions.Instr.TheVariants as instr
use Rattle.ir_tree.specs.declared.values.Tvalue.{Tvalue}
use Rattle.ir_tree.specs.declared.instructions.Term.{Term}
use Rattle.ir_tree.specs.declared.instructions.Term.TheVariants as term
use Rattle.std.specs.Prelude.{Option, None, Some}
use Rattle.ir_module.specs.declared.op.Written.{Written}
use Rattle.ir_module.specs.Operands.{operands, optional as listed}
use Rattle.ir_instrs.specs.Reading.{Reading, Parts}
use Rattle.ir_instrs.specs.Uses.{Use, behind_use, behind, each}
use Rattle.ir_instrs.specs.Uses.Use.{Typed, Label}
use Rattle.ir_instrs.specs.Operands.{tvalue, tvalue_uses, optional, optional_uses}
use Rattle.ir_instrs.specs.Ops.{arm_of, arm_uses, clause_of, clause_uses}
use Rattle.ir_bodies.specs.Context.{Context}
use Rattle.ir_bodies.specs.Calls.{call_of, call_uses, callee_uses, arg, arg_uses}
use Rattle.ir_bodies.specs.Instrs.{op_of, uses_of}
use Rattle.ir_instrs.specs.Terms.{term_of, term_uses, case_of, case_uses}
use Rattle.ir_bodies.specs.Order.{reads, HasBase}

pub reads_append : (r : Reading) (ps : Parts) (us vs : List Use) → reads r ps (us ++ vs) ≡ reads r ps us ++ reads r (behind r ps us) vs
reads_append r ps [] vs = refl
reads_append r ps (Typed t v ∷ us) vs = ap (λ ws. reads r ps (Typed t v ∷ []) ++ ws) (reads_append r (behind_use r ps (Typed t v)) us vs)
reads_append r ps (Label at ∷ us) vs = reads_append r ps us vs

-- of things with one value each, the values are those of the things that are made
pub reads_each : {X Y : Type 0} (r : Reading) (made : Parts → X → Y) (uses : X → List Use) (val : Y → Written)
    (one : (ps : Parts) (x : X) → reads r ps (uses x) ≡ val (made ps x) ∷ []) (ps : Parts) (xs : List X) →
    map val (each r made uses ps xs) ≡ reads r ps (flat_map uses xs)
reads_each r made uses val one ps [] = refl
reads_each r made uses val one ps (x ∷ xs) =
    ap (λ ws. val (made ps x) ∷ ws) (reads_each r made uses val one (behind r ps (uses x)) xs)
    ∙ ap (λ ws. ws ++ reads r (behind r ps (uses x)) (flat_map uses xs)) (sym (one ps x)) ∙ sym (reads_append r ps (uses x) (flat_map uses xs))

all_same : {X : Type 0} (xs : List X) → map (λ x. x) xs ≡ xs
all_same [] = refl
all_same (x ∷ xs) = ap (λ ys. x ∷ ys) (all_same xs)

-- things that are values
pub reads_values : {X : Type 0} (r : Reading) (made : Parts → X → Written) (uses : X → List Use)
    (one : (ps : Parts) (x : X) → reads r ps (uses x) ≡ made ps x ∷ []) (ps : Parts) (xs : List X) →
    each r made uses ps xs ≡ reads r ps (flat_map uses xs)
reads_values r made uses one ps xs = sym (all_same (each r made uses ps xs)) ∙ reads_each r made uses (λ w. w) one ps xs

pub of_call : (x : Context) (ps : Parts) (c : Called) → (call_of x ps c).callee ∷ (call_of x ps c).args ≡ reads x.reading ps (call_uses x.reading c)
of_call x ps c =
    let r = x.reading in
    ap (λ ws. (call_of x ps c).callee ∷ ws) (reads_values r (arg r) (arg_uses r) (λ ps a. refl) (behind r ps (callee_uses c)) c.arguments.args)

of_optional : (r : Reading) (ps : Parts) (x : Option Tvalue) → listed (optional r ps x) ≡ reads r ps (optional_uses r x)
of_optional r ps None = refl
of_optional r ps (Some x) = refl

pub of_instr : (x : Context) (ps : Parts) (i : Instr) → HasBase i → operands (op_of x ps i) ≡ reads x.reading ps (uses_of x.reading i)
unfolding op_of uses_of
of_instr x ps (instr.Binop w flags t left right) h = refl
of_instr x ps (instr.Icmp i) h = refl
of_instr x ps (instr.Cast w flags of to) h = refl
of_instr x ps (instr.Select i) h = refl
of_instr x ps (instr.Freeze w of) h = refl
of_instr x ps (instr.Phi w t arms) h =
    let r = x.reading in reads_each r (arm_of r (r.kind t)) (arm_uses (r.kind t)) (λ a. a.val) (λ ps a. refl) ps arms
of_instr x ps (instr.Alloca i) h = of_optional x.reading ps i.count
of_instr x ps (instr.Load w volatile t from align) h = refl
of_instr x ps (instr.Store i) h = refl
of_instr x ps (instr.GetElementPtr w flags elem []) h = absurd (omega arith)
of_instr x ps (instr.GetElementPtr w flags elem (v ∷ vs)) h = let r = x.reading in reads_values r (tvalue r) (tvalue_uses r) (λ ps v. refl) ps (v ∷ vs)
of_instr x ps (instr.Call i) h = of_call x ps i.called
of_instr x ps (instr.Cleanup w t cleanup clauses) h =
    let r = x.reading in reads_each r (clause_of r) (clause_uses r) (λ c. c.val) (λ ps c. refl) ps clauses
of_instr x ps (instr.LandingPad w t clauses) h =
    let r = x.reading in reads_each r (clause_of r) (clause_uses r) (λ c. c.val) (λ ps c. refl) ps clauses

pub of_term : (r : Reading) (ps : Parts) (x : Term) → operands (term_of r ps x) ≡ reads r ps (term_uses r x)
unfolding term_of term_uses
of_term r ps (term.RetVoid at) = refl
of_term r ps (term.Ret at of) = refl
of_term r ps (term.Jump at to) = refl
of_term r ps (term.Branch at on taken other) = refl
of_term r ps (term.Switch x) =
    ap (λ ws. tvalue r ps x.on ∷ ws) (reads_each r (case_of r) (case_uses r) (λ c. c.val) (λ ps x. refl) (behind r ps (tvalue_uses r x.on)) x.cases)
of_term r ps (term.Unreachable at) = refl
of_term r ps (term.Resume at of) = refl
