-- Memory: blocks, each with a size and a base address, which do not overlap while they are in use.
use Rattle.std.specs.Prelude.{ℕ, zero, suc, ◌+◌, ◌*◌, ◌/◌, ◌%◌, ◌^◌, ◌==◌, ◌&&◌, ◌||◌, not, nat_le, nat_lt, max, Bool, true, false, if◌then◌else◌, Option}
use Rattle.ir_module.specs.declared.op.Symbol.{Symbol}
use Rattle.ir_machine.specs.declared.choice.Byte.{Byte}
use Rattle.ir_machine.specs.declared.choice.Byte.TheVariants as byte

-- what made a block: it is a global's or a function's, an alloca of a call, named by its result, or of the heap
pub data Kind : Type 0 where
  OfSymbol : (symbol : Symbol) → Kind
  OfAlloca : (call value : ℕ) → Kind
  Heap : Kind

-- what a block keeps from its beginning on
pub record Shape : Type 0 where
  pub size : ℕ
  pub base : ℕ
  pub kind : Kind

-- whether a block may be accessed; a closed one, an alloca out of its lifetime, keeps its base but may not be accessed
pub data Life : Type 0 where
  Live : Life
  Closed : Life
  Dead : Life

-- Blocks have the numbers below `count`, which are never used again. `home` is the block of a global or function, none
-- where the run leaves it null.
pub record Memory : Type 0 where
  pub count : ℕ
  pub home : Symbol → Option ℕ
  pub shape : ℕ → Shape
  pub life : ℕ → Life
  pub bytes : ℕ → ℕ → Byte

-- ---- what can be asked of it

-- the block may be accessed
abbrev pub is_live : Life → Bool
is_live Live = true
is_live Closed = false
is_live Dead = false

-- the block is dead
abbrev pub is_dead : Life → Bool
is_dead Live = false
is_dead Closed = false
is_dead Dead = true

-- the address of an offset into a block
abbrev pub address : Memory → ℕ → ℕ → ℕ
address mem block offset = ((mem.shape block).base + offset) % (2 ^ 64)

-- the address is a multiple of the alignment
abbrev pub is_aligned : Memory → ℕ → ℕ → ℕ → Bool
is_aligned mem align block offset = address mem block offset % align == 0

-- the block is live and n bytes from the offset on lie in it
abbrev pub has_bytes : Memory → ℕ → ℕ → ℕ → Bool
has_bytes mem n block offset = is_live (mem.life block) && nat_le (offset + n) (mem.shape block).size

-- every number below n passes the test
abbrev pub all_below : ℕ → (ℕ → Bool) → Bool
all_below zero test = true
all_below (suc n) test = test n && all_below n test

-- two places in the address space have no byte in common; one of size 0 has none at all
abbrev pub are_apart : ℕ → ℕ → ℕ → ℕ → Bool
are_apart base size other bytes = (size == 0) || (bytes == 0) || nat_le (base + size) other || nat_le (other + bytes) base

-- the block is dead, or apart from this place
abbrev pub leaves_free : Memory → ℕ → ℕ → ℕ → Bool
leaves_free mem base size n = is_dead (mem.life n) || are_apart base size (mem.shape n).base (mem.shape n).size

-- a new block of this size may lie at this base: it lies in the address space, above 0, and no live or closed block is in its way
unfoldable pub has_room : Memory → ℕ → ℕ → Bool
has_room mem base size = not (base == 0) && nat_lt (base + size) (2 ^ 64) && all_below mem.count (leaves_free mem base size)

-- the end of the highest of the first n blocks, and at least 65,535
abbrev pub highest : (ℕ → Shape) → ℕ → ℕ
highest shape zero = 65535
highest shape (suc n) = max ((shape n).base + (shape n).size) (highest shape n)

-- The plain base: the least multiple of the alignment and of 16 that is above 65,535 and above the ends of all blocks so
-- far. Alignments are powers of two, so the greater of the two is the least multiple of both.
abbrev pub plain_base : Memory → ℕ → ℕ
plain_base mem align = let step = max align 16 in (highest mem.shape mem.count / step + 1) * step

-- ---- how it changes

-- f, but x at k
unfoldable pub put : {A : Type 0} → ℕ → A → (ℕ → A) → ℕ → A
put k x f n = if n == k then x else f n

-- a new live block of undef bytes
abbrev pub grown : Shape → Memory → Memory
grown shape mem = record {
  count = mem.count + 1;
  home = mem.home;
  shape = put mem.count shape mem.shape;
  life = put mem.count Live mem.life;
  bytes = put mem.count (λ at. byte.Undef) mem.bytes;
}

-- the block is live, closed or dead from now on
abbrev pub turned : ℕ → Life → Memory → Memory
turned block life mem = record mem { life = put block life mem.life }

-- the block has these bytes from now on
abbrev pub filled : ℕ → (ℕ → Byte) → Memory → Memory
filled block bytes mem = record mem { bytes = put block bytes mem.bytes }

-- the block is an alloca of this call
abbrev pub is_alloca_of : ℕ → Kind → Bool
is_alloca_of call (OfSymbol symbol) = false
is_alloca_of call (OfAlloca n value) = n == call
is_alloca_of call Heap = false

-- the allocas of a call are dead
abbrev pub without_allocas : ℕ → Memory → Memory
without_allocas call mem = record mem { life = λ n. if is_alloca_of call (mem.shape n).kind then Dead else mem.life n }
