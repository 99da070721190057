-- A module that is resolved is well formed.
use Rattle.std.proofs.Common.{◌≡◌, ℕ, List, [], sym, subst}
use Rattle.ir_token.specs.declared.token.Token.{Token}
use Rattle.ir_tree.specs.declared.entities.Tree.{Tree}
use Rattle.ir_module.specs.declared.module.Module.{Module}
use Rattle.ir_module.specs.WellFormed.{HasFew, IsWellFormed}
use Rattle.ir_type_names.specs.Unknown.{unknown_types}
use Rattle.ir_resolve.specs.Inputs.{Input, setting}
use Rattle.ir_resolve.specs.Entities.{nothing, each_entity, entity_faults}
use Rattle.ir_resolve.specs.Modules.{module_of, faults_of, top_faults, input, Resolved}
use Rattle.resolved_forms.proofs.Runs.{nil_parts}
use Rattle.resolved_forms.proofs.Whole.{well_formed}

none_amiss : (x : Input) → faults_of x ≡ [] → each_entity (setting x) (entity_faults (setting x)) nothing x.entities ≡ []
unfolding faults_of
none_amiss x none =
    (nil_parts (unknown_types (setting x).table.names x.entities) _ (nil_parts (top_faults (setting x).ids x.entities) _ none).1).1

input_formed : (x : Input) → faults_of x ≡ [] → HasFew (module_of x) → IsWellFormed (module_of x)
unfolding module_of
input_formed x none few = well_formed x (none_amiss x none) few

pub resolved_formed : (b : List ℕ) (toks : List Token) (tree : Tree) (m : Module) → Resolved b toks tree m → HasFew m → IsWellFormed m
resolved_formed b toks tree m r few =
    let x = input b toks tree r.numbers in subst IsWellFormed (sym r.is) (input_formed x r.faultless (subst HasFew r.is few))
