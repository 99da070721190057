-- The longest value, by its first token.
use Rattle.std.proofs.Common.{◌≡◌, ℕ, List, None, Some, sym, ◌∙◌}
use Rattle.ir_tree.specs.declared.terminal.Terminal.{Terminal}
use Rattle.ir_tree.specs.declared.terminal.Terminal.TheVariants as k
use Rattle.ir_tree.specs.declared.types.Ty.{Ty}
use Rattle.ir_tree.specs.declared.constants.Const as constants
use Rattle.ir_tree.specs.declared.values.Value.{Value}
use Rattle.ir_tree.specs.declared.values.Value.TheVariants.{Local, Const}
use Rattle.ir_tree.specs.Steps.{the, Longest}
use Rattle.ir_tree.specs.Types.{ty}
use Rattle.ir_tree.specs.Constants.{const}
use Rattle.ir_tree.specs.Values.{value, tvalue}
use Rattle.ir_tree.proofs.ClearValues.{value_reads, tvalue_reads}
use Rattle.ir_parse_parts.proofs.Longest.{taken, leaf_is_the, leaf_none, longest_by}
use Rattle.ir_parse_parts.proofs.LongestRest.{stop, past_ty}

module _ (toks : List Terminal) where
  pub value_local : (a b : ℕ) → Some b ≡ the toks k.Local a → Longest (value toks) a (Some (Local a, b))
  value_local a b h = longest_by (value_reads toks a) (Local a) b (leaf_is_the toks k.Local a ∙ sym h) (λ h. h)

  pub value_const : (a b : ℕ) (c : constants.Const) → Longest (const toks) a (Some (c, b)) → Longest (value toks) a (Some (Const c, b))
  value_const a b c l = longest_by (value_reads toks a) (Const c) b l.0 (λ h. h)

  pub value_none : (a : ℕ) → None ≡ the toks k.Local a → Longest (const toks) a None → Longest (value toks) a None
  value_none a h none = go
    where
      go : (v : Value) (c : ℕ) → value toks v a ≡ Some c → ⊥
      go (Local name) c e = leaf_none toks k.Local a h name c e
      go (Const x) c e = none x c e

  -- ---- a type and a value
  pub tvalue_some : (a m b : ℕ) (t : Ty) (v : Value) → Longest (ty toks) a (Some (t, m)) → Longest (value toks) m (Some (v, b)) →
      Longest (tvalue toks) a (Some (record { ty = t; value = v }, b))
  tvalue_some a m b t v l l' = longest_by (tvalue_reads toks a) (record { ty = t; value = v }) b (taken _ m _ _ l.0 l'.0) (λ h. h)

  pub tvalue_no_ty : (a : ℕ) → Longest (ty toks) a None → Longest (tvalue toks) a None
  tvalue_no_ty a none = λ t c e. stop (ty toks) (value toks) a none (t.ty, t.value) c e

  pub tvalue_no_value : (a m : ℕ) (t : Ty) → Longest (ty toks) a (Some (t, m)) → Longest (value toks) m None → Longest (tvalue toks) a None
  tvalue_no_value a m t l none = λ u c e. past_ty toks (value toks) a m t l none (u.ty, u.value) c e
