-- Globals and functions keep their blocks.
use Rattle.std.proofs.Common.{arith, ◌≡◌, ◌+◌, ◌^◌, ◌<◌, ℕ, List, [], ◌∷◌, Option, None, Some, refl, sym, subst, ◌∙◌}
use Rattle.std.specs.List.{AllByRecursion}
use Rattle.std.proofs.lemmas.Option.{none-some}
use Rattle.shelf.proofs.Every.{every_always}
use Rattle.ir_module.specs.declared.op.Symbol.{Symbol}
use Rattle.ir_module.specs.declared.module.Linkage.{Linkage}
use Rattle.ir_module.specs.declared.module.Module.{Module}
use Rattle.ir_machine.specs.declared.choice.Choice.{Choice}
use Rattle.ir_machine.specs.Memory.{OfSymbol, Shape, Memory}
use Rattle.ir_machine.specs.Frames.{State}
use Rattle.ir_machine.specs.Moves.{Move, Outcome, Gives, Undefined, Over, moved}
use Rattle.ir_machine.specs.Steps.{plan}
use Rattle.ir_machine.specs.Runs.{linkage_of, HasHome, IsShapeOf, IsOpening, run}
use Rattle.ir_machine.specs.Valid.{IsValid, IsLater}
use Rattle.ir_machine.proofs.Basics.{OnOutcome, Along, Shown}
use Rattle.ir_machine.proofs.Valid.{Fits, later_moved}
use Rattle.ir_machine.proofs.Opening.{opening_valid}
use Rattle.ir_machine.proofs.Running.{valid_run}
use Rattle.laws_blocks.specs.Blocks.{HaveBlocks}

-- what always holds holds of what is given
pub always_given : {A : Type 0} (Q : A → Type 0) (o : Outcome A) → ((x : A) → Q x) → OnOutcome Q o
always_given Q (Gives x) all = all x
always_given Q Undefined all = tt
always_given Q Over all = tt

-- nothing is asked of moves
abbrev pub Nothing : State → Move → Type 0
Nothing t x = Unit {0}

along_nothing : (t : State) (moves : List Move) → Along Nothing t moves
along_nothing t [] = tt
along_nothing t (x ∷ moves) = (tt, along_nothing (moved t x) moves)

module _ (m : Module) where
  -- a symbol's block was made for it
  pub home_is : (mem : Memory) → HaveBlocks m mem → (s : Symbol) (b : ℕ) → mem.home s ≡ Some b → (b < mem.count) × ((mem.shape b).kind ≡ OfSymbol s)
  home_is mem have s b home = by (linkage_of m s) refl
    where
      by : (link : Option Linkage) → linkage_of m s ≡ link → (b < mem.count) × ((mem.shape b).kind ≡ OfSymbol s)
      by None e = absurd (none-some b (sym (have.strangers s e) ∙ home))
      by (Some link) e = subst (HasHome mem s link) home (have.homes s link e)

  later_home : (mem later : Memory) → IsLater mem later → (s : Symbol) (link : Linkage) (o : Option ℕ) → HasHome mem s link o → HasHome later s link o
  later_home mem later is s link None has = has
  later_home mem later is s link (Some b) has =
      (omega (arith, has.0, is.count), subst (λ (x : Shape). x.kind ≡ OfSymbol s) (sym (is.shape b has.0)) has.1)

  blocks_later : (mem later : Memory) → HaveBlocks m mem → IsLater mem later → HaveBlocks m later
  blocks_later mem later have is = record {
    homes = λ s link e. subst (HasHome later s link) (sym (is.home s)) (later_home mem later is s link (mem.home s) (have.homes s link e));
    strangers = λ s e. is.home s ∙ have.strangers s e;
    blocks = λ s b home.
        let old = sym (is.home s) ∙ home in
        let same = sym (is.shape b (home_is mem have s b old).0) in
        let block = have.blocks s b old in record {
          shape = subst (λ x. IsShapeOf m x s) same block.shape;
          low = subst (λ (x : Shape). 0 < x.base) same block.low;
          high = subst (λ (x : Shape). x.base + x.size < 2 ^ 64) same block.high;
        };
  }

  opening_blocks : (t : State) → IsOpening m t → HaveBlocks m t.memory
  opening_blocks t is = record {
    homes = is.memory.homes;
    strangers = is.memory.strangers;
    blocks = λ s b home.
        let has = made s b home in
        let block = is.memory.blocks b has.0 in
        let same : block.symbol ≡ s = same_symbol (sym block.kind ∙ has.1) in record {
          shape = subst (IsShapeOf m (t.memory.shape b)) same block.shape;
          low = block.low;
          high = block.high;
        };
  }
    where
      same_symbol : {a s : Symbol} → OfSymbol a ≡ OfSymbol s → a ≡ s
      same_symbol e = cc

      made : (s : Symbol) (b : ℕ) → t.memory.home s ≡ Some b → (b < t.memory.count) × ((t.memory.shape b).kind ≡ OfSymbol s)
      made s b home = by (linkage_of m s) refl
        where
          by : (link : Option Linkage) → linkage_of m s ≡ link → (b < t.memory.count) × ((t.memory.shape b).kind ≡ OfSymbol s)
          by None e = absurd (none-some b (sym (is.memory.strangers s e) ∙ home))
          by (Some link) e = subst (HasHome t.memory s link) home (is.memory.homes s link e)

  abbrev pub Kept : State → Type 0
  Kept t = HaveBlocks m t.memory

  pub kept_moved : (t : State) (x : Move) → IsValid t → Fits t x → Kept t → Kept (moved t x)
  kept_moved t x valid fits kept = blocks_later t.memory (moved t x).memory kept (later_moved t x fits.0)

  pub opening_kept : (t : State) → IsOpening m t → Kept t
  opening_kept = opening_blocks

  -- in every state of every run
  pub all_kept : (t : State) → IsOpening m t → (choices : List Choice) →
      AllByRecursion (Shown (λ t. IsValid t × Kept t) (λ e. Unit {0})) (run m t choices)
  all_kept t is choices =
      valid_run m Kept (λ d. Unit {0}) Nothing (λ e. Unit {0}) (record {
        move = λ t x valid after fits kept nothing. kept_moved t x valid fits kept;
        happens = λ t what valid kept nothing. tt;
      })
      (λ t choice valid kept. always_given (λ moves. Unit {0} → Along Nothing t moves) (plan m t choice) (λ moves given. along_nothing t moves))
      choices t (opening_valid m t is) (opening_blocks t is) (every_always (λ d. Unit {0}) (run m t choices) (λ d. tt))
