-- Exact bodies, and where a body begins.
use Rattle.std.proofs.Common.{arith, ◌≡◌, ◌≢◌, ◌==◌, ◌<◌, inl, inr, not, ℕ, Bool, true, false, Option, None, Some, map, length, slice_get, unwrap_or, subst}
use Rattle.std.proofs.Common.{refl, sym, ap, ◌∙◌}
use Rattle.std.proofs.lemmas.Bool.Decides.{eqb_tells}
use Rattle.ir_module.specs.declared.module.Func.{Func}
use Rattle.facts.specs.Bodies.{is_body}
use Rattle.ir_module.specs.declared.module.Module.{Module}
use Rattle.ir_module.specs.Calls.{is_exact, is_exact_in, has_blocks, callee_in, direct_callee, inner_callee}
use Rattle.ir_module.specs.declared.op.Op.{Op}
use Rattle.attr_ids.specs.declared.ids.FuncId.{FuncId}
use Rattle.std.specs.Option.{option_and_then, option_map}
use Rattle.std.specs.Prelude.{IfSome, IfNone}
use Rattle.manifest.specs.Ready.{IsBodyIf}
use Rattle.std.proofs.lemmas.Bool.{and_parts}
use Rattle.facts.specs.Facts.{Fact}
use Rattle.manifest.specs.Added.{inserted, joined}
use Rattle.manifest.specs.Additions.{func_additions, additions_of, insertions_of}
use Rattle.ir_module.specs.Places.{entry_of, start_of, first_block_in}

pub exact_is : (m : Module) (f : ℕ) → is_exact m f ≡ is_exact_in (slice_get m.funcs f)
unfolding is_exact
exact_is m f = refl

-- a body begins where its first block does
pub entry_is : (m : Module) (f : ℕ) → entry_of m f ≡ start_of m (first_block_in (slice_get m.funcs f))
unfolding entry_of
entry_is m f = refl

-- what is put in, function by function
pub insertions_are : (m : Module) (held : Fact → Bool) →
    insertions_of m held ≡ map inserted (joined (λ f. func_additions m held f (slice_get m.funcs f)) (length m.funcs))
unfolding insertions_of additions_of
insertions_are m held = refl

-- what has blocks is a body
pub body_is : (m : Module) (f : ℕ) (func : Func) → slice_get m.funcs f ≡ Some func → (func.block_count == 0) ≡ false → is_body m f ≡ true
body_is m f func there some = ap has_blocks there ∙ ap (λ (b : Bool). not b) some

-- a number that is not 0 is told apart from it
pub not_zero : (n : ℕ) → n ≢ 0 → (n == 0) ≡ false
not_zero n some = elim (eqb_tells n 0) [
  | inl (t, same) ↦ absurd (some same)
  | inr (f, apart) ↦ f
]

-- a body has a block
pub some_blocks : (m : Module) (f : ℕ) (func : Func) → slice_get m.funcs f ≡ Some func → is_body m f ≡ true → 0 < func.block_count
some_blocks m f func there body = elim (eqb_tells func.block_count 0) [
  | inl (t, same) ↦ absurd (let e : not (func.block_count == 0) ≡ true = sym (ap has_blocks there) ∙ body in let g = ap (λ (b : Bool). not b) t in cc)
  | inr (t, apart) ↦ omega (arith, apart)
]

-- an exact function has blocks
pub exact_body : (o : Option Func) → is_exact_in o ≡ true → has_blocks o ≡ true
exact_body None is = absurd (cc)
exact_body (Some f) is = (and_parts _ _ is).0

-- what an inner call runs is a body
pub inner_body : (m : Module) (op : Op) (g : ℕ) → inner_callee m op ≡ Some g → is_body m g ≡ true
inner_body m op g is = by (direct_callee m op) is
  where
    of : (b : Bool) (h : FuncId) → is_exact_in (slice_get m.funcs h.0) ≡ b → callee_in b (Some h) ≡ Some g → is_body m g ≡ true
    of true h exact e = subst (λ n. is_body m n ≡ true) (ap (λ o. unwrap_or o g) e) (exact_body (slice_get m.funcs h.0) exact)
    of false h exact e = absurd (cc)

    none : (b : Bool) → callee_in b None ≡ Some g → is_body m g ≡ true
    none true e = absurd (cc)
    none false e = absurd (cc)

    by : (o : Option FuncId) → callee_in (is_exact_in (option_and_then (λ g. slice_get m.funcs g.0) o)) o ≡ Some g → is_body m g ≡ true
    by None e = none (is_exact_in None) e
    by (Some h) e = of (is_exact_in (slice_get m.funcs h.0)) h refl e

-- an answer that is found if it is one, as an option
pub found_is : (o : Option FuncId) (x : Option ℕ) → IfSome o (λ g. x ≡ Some g.0) → IfNone o (x ≡ None) → option_map (λ g. g.0) o ≡ x
found_is None x some none = sym none
found_is (Some g) x some none = sym some

pub found_body : (m : Module) (op : Op) (o : Option FuncId) → IfSome o (λ g. inner_callee m op ≡ Some g.0) → IsBodyIf m o
found_body m op None some = tt
found_body m op (Some g) some = inner_body m op g.0 some
