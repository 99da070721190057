-- An opening state is valid.
use Rattle.std.proofs.Common.{◌≡◌, ℕ, ◌<◌, Option, None, Some, refl, sym, subst, ◌∙◌, arith}
use Rattle.std.specs.List.{AllByRecursion}
use Rattle.ir_module.specs.declared.op.Symbol.{Symbol}
use Rattle.ir_module.specs.declared.module.Linkage.{Linkage}
use Rattle.ir_module.specs.declared.module.Module.{Module}
use Rattle.ir_machine.specs.declared.choice.Datum.{Datum}
use Rattle.ir_machine.specs.declared.choice.Datum.TheVariants as datum
use Rattle.ir_machine.specs.declared.choice.Byte.{Byte}
use Rattle.ir_machine.specs.declared.choice.Byte.TheVariants as byte
use Rattle.ir_machine.specs.Memory.{OfSymbol, OfAlloca, Memory}
use Rattle.ir_machine.specs.Frames.{State}
use Rattle.ir_machine.specs.Runs.{linkage_of, HasHome, IsOpenDatum, IsOpenByte, IsOpenMemory, IsOpening, lowest_call}
use Rattle.ir_machine.specs.Valid.{Scope, scope_of, IsAmongFirst, IsMarkKnown, Known, IsByteOf, HasAll, AreOrdered, AreBlocks, IsValid}

open_datum : (count : ℕ) (d : Datum) → IsOpenDatum count d → IsAmongFirst count d
open_datum count (datum.Ptr block offset) is = is.0
open_datum count datum.Null is = absurd is
open_datum count datum.Undef is = absurd is
open_datum count datum.Poison is = absurd is
open_datum count (datum.Int bits) is = absurd is
open_datum count datum.Pair is = absurd is

open_byte : (s : Scope) (b : Byte) → IsOpenByte s.count b → IsByteOf (Known s) b
open_byte s (byte.Number n) is = tt
open_byte s byte.Undef is = tt
open_byte s byte.Poison is = tt
open_byte s (byte.Fragment k x) is = (open_datum s.count x.datum is.2, subst (AllByRecursion (IsMarkKnown s x.datum)) (sym is.1) tt)

module _ (m : Module) (mem : Memory) (opens : IsOpenMemory m mem) where
  home_is : (s : Symbol) (b : ℕ) → mem.home s ≡ Some b → (b < mem.count) × ((mem.shape b).kind ≡ OfSymbol s)
  home_is s b home = by (linkage_of m s) refl
    where
      by : (link : Option Linkage) → linkage_of m s ≡ link → (b < mem.count) × ((mem.shape b).kind ≡ OfSymbol s)
      by None e = absurd (none_some (sym (opens.strangers s e) ∙ home))
        where
          none_some : None ≡ Some b → ⊥
          none_some e = cc
      by (Some link) e = subst (HasHome mem s link) home (opens.homes s link e)

  no_alloca : (b call value : ℕ) → b < mem.count → (mem.shape b).kind ≡ OfAlloca call value → ⊥
  no_alloca b call value low kind = clash (opens.blocks b low).symbol (sym (opens.blocks b low).kind ∙ kind)
    where
      clash : (symbol : Symbol) → OfSymbol symbol ≡ OfAlloca call value → ⊥
      clash symbol e = cc

  open_blocks : (s : Scope) → AreBlocks mem s
  open_blocks s = record {
    placed = λ b low. ((opens.blocks b low).low, (opens.blocks b low).high);
    apart = λ a b low less alive_a alive_b. opens.apart a b low (omega (arith, low, less)) (λ e. omega (arith, less, e));
    homes = home_is;
    allocas = λ b call value low kind. absurd (no_alloca b call value low kind);
  }

pub opening_valid : (m : Module) (t : State) → IsOpening m t → IsValid t
opening_valid m t is =
    let lowest = lowest_call is.number t.memory.count in record {
      order = subst (AreOrdered t.born t.next_call t.memory.count) (sym is.stack)
          (omega (arith, is.next_call), omega arith, is.born is.number (omega (arith, is.next_call)), tt);
      begun = λ n low. let born : t.born n ≡ t.memory.count = is.born n low in omega (arith, born);
      blocks = open_blocks m t.memory is.memory (scope_of t);
      known = record {
        frames = subst (AllByRecursion (HasAll (Known (scope_of t)))) (sym is.stack) (((tt, tt), tt), tt);
        kept = subst (AllByRecursion (Known (scope_of t))) (sym is.kept) tt;
        bytes = λ b at. open_byte (scope_of t) (t.memory.bytes b at) (is.memory.bytes b at);
      };
    }
