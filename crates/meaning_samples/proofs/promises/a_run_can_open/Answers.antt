use Rattle.std.proofs.Common.{◌≡◌, ◌≢◌, inl, inr, ℕ, zero, suc, ◌+◌, ◌^◌, ◌<◌, ◌==◌, ◌||◌, Bool, true, None, Some, refl}
use Rattle.std.proofs.Common.{arith}
use Rattle.std.proofs.lemmas.Bool.{ltb-true, or_cases, eqb-true}
use Rattle.ir_types.specs.Layout.{layout}
use Rattle.ir_module.specs.declared.op.Symbol.{Symbol}
use Rattle.ir_module.specs.declared.op.Symbol.TheVariants as symbol
use Rattle.ir_module.specs.declared.module.Linkage.{Linkage}
use Rattle.ir_machine.specs.Memory.{are_apart, all_below}
use Rattle.ir_machine.specs.Runs.{linkage_of, HasHome, IsOpenBlock}
use Rattle.meaning_samples.specs.Sample.{silent, opened, home}
use Rattle.meaning_samples.proofs.Lists.{below_at}
use Rattle.meaning_samples.proofs.promises.a_run_can_open.Goals as goal

abbrev global : ℕ → Symbol
global n = symbol.Global (record { 0 = n })

abbrev func : ℕ → Symbol
func n = symbol.Func (record { 0 = n })

global_home : (n : ℕ) (link : Linkage) → linkage_of silent (global n) ≡ Some link → HasHome opened.memory (global n) link (home (global n))
global_home zero link is = (ltb-true 0 5 refl, refl)
global_home (suc zero) link is = (ltb-true 1 5 refl, refl)
global_home (suc (suc n)) link is = cc

func_home : (n : ℕ) (link : Linkage) → linkage_of silent (func n) ≡ Some link → HasHome opened.memory (func n) link (home (func n))
func_home zero link is = (ltb-true 2 5 refl, refl)
func_home (suc zero) link is = (ltb-true 3 5 refl, refl)
func_home (suc (suc zero)) link is = (ltb-true 4 5 refl, refl)
func_home (suc (suc (suc n))) link is = cc

homes : (s : Symbol) (link : Linkage) → linkage_of silent s ≡ Some link → HasHome opened.memory s link (home s)
homes (symbol.Global g) link is = global_home g.0 link is
homes (symbol.Func f) link is = func_home f.0 link is

no_global : (n : ℕ) → linkage_of silent (global n) ≡ None → home (global n) ≡ None
no_global zero is = cc
no_global (suc zero) is = cc
no_global (suc (suc n)) is = refl

no_func : (n : ℕ) → linkage_of silent (func n) ≡ None → home (func n) ≡ None
no_func zero is = cc
no_func (suc zero) is = cc
no_func (suc (suc zero)) is = cc
no_func (suc (suc (suc n))) is = refl

strangers : (s : Symbol) → linkage_of silent s ≡ None → home s ≡ None
strangers (symbol.Global g) is = no_global g.0 is
strangers (symbol.Func f) is = no_func f.0 is

blocks : (n : ℕ) → n < 5 → IsOpenBlock silent opened.memory n
unfolding layout
blocks zero low = record {
  symbol = global 0;
  kind = refl;
  home = refl;
  shape = (refl, refl);
  live = refl;
  low = ltb-true 0 65536 refl;
  high = ltb-true (65536 + 8) (2 ^ 64) refl;
}
blocks (suc zero) low = record {
  symbol = global 1;
  kind = refl;
  home = refl;
  shape = (refl, refl);
  live = refl;
  low = ltb-true 0 65552 refl;
  high = ltb-true (65552 + 8) (2 ^ 64) refl;
}
blocks (suc (suc zero)) low = record {
  symbol = func 0;
  kind = refl;
  home = refl;
  shape = refl;
  live = refl;
  low = ltb-true 0 65568 refl;
  high = ltb-true (65568 + 0) (2 ^ 64) refl;
}
blocks (suc (suc (suc zero))) low = record {
  symbol = func 1;
  kind = refl;
  home = refl;
  shape = refl;
  live = refl;
  low = ltb-true 0 65584 refl;
  high = ltb-true (65584 + 0) (2 ^ 64) refl;
}
blocks (suc (suc (suc (suc zero)))) low = record {
  symbol = func 2;
  kind = refl;
  home = refl;
  shape = refl;
  live = refl;
  low = ltb-true 0 65600 refl;
  high = ltb-true (65600 + 0) (2 ^ 64) refl;
}
blocks (suc (suc (suc (suc (suc n))))) low = absurd (omega (arith, low))

-- two blocks are apart
abbrev are_two_apart : ℕ → ℕ → Bool
are_two_apart k n =
    are_apart (opened.memory.shape k).base (opened.memory.shape k).size (opened.memory.shape n).base (opened.memory.shape n).size

apart : (k n : ℕ) → k < 5 → n < 5 → k ≢ n → are_two_apart k n ≡ true
apart k n low also other =
    elim (or_cases (k == n) (are_two_apart k n)
    (below_at 5 (λ n. (k == n) || are_two_apart k n) (below_at 5 (λ k. all_below 5 (λ n. (k == n) || are_two_apart k n)) refl k low) n also)) [
      | inl same ↦ absurd (other (eqb-true k n same))
      | inr so ↦ so
    ]

pub returns : goal.returns
returns c = record {
  number = 0;
  memory = record { homes = homes; strangers = strangers; blocks = blocks; apart = apart; bytes = λ n at. ltb-true 0 256 refl };
  kept = refl;
  next_call = refl;
  born = λ n low. refl;
  stack = refl;
}
