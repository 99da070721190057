-- Every state of a run is valid: each move keeps it.
use Rattle.std.proofs.Common.{◌≡◌, ◌≢◌, ℕ, zero, suc, ◌+◌, ◌^◌, ◌==◌, ◌&&◌, ◌||◌, ◌<◌, ◌≤◌, not, nat_lt, Bool, true, false, if◌then◌else◌, List, [], ◌∷◌, refl}
use Rattle.std.proofs.Common.{sym, ap, subst, ◌∙◌, arith, true≢false}
use Rattle.std.specs.List.{AllByRecursion}
use Rattle.std.proofs.lemmas.Bool.{ltb-true, and_parts, eqb-true}
use Rattle.shelf.proofs.Shelf.{positive}
use Rattle.shelf.proofs.Every.{every_mapped, every_append}
use Rattle.ir_module.specs.declared.module.Spot.{Spot}
use Rattle.ir_machine.specs.declared.choice.Datum.{Datum}
use Rattle.ir_machine.specs.declared.choice.Datum.TheVariants as datum
use Rattle.ir_machine.specs.declared.choice.Mark.{Mark}
use Rattle.ir_machine.specs.declared.choice.Value.{Value}
use Rattle.ir_machine.specs.Memory.{Kind, OfSymbol, OfAlloca, Heap, Shape, Life, Live, Closed, Dead, Memory, is_dead, put, grown, turned, has_room, all_below}
use Rattle.ir_machine.specs.Memory.{leaves_free, are_apart}
use Rattle.ir_machine.specs.Frames.{Frame, Body, Outside, State, call_of}
use Rattle.ir_machine.specs.Moves.{Move, Says, Grows, Turns, Fills, Keeps, Sets, Goes, Takes, Begins, Ends, moved, after, set_on_top, gone_on_top, taken_on_top}
use Rattle.ir_machine.specs.Moves.{under_top, is_alloca_on, without_top}
use Rattle.ir_machine.specs.Valid.{Scope, scope_of, IsAmongFirst, IsMarkKnown, Known, AreOrdered, AreBlocks, IsValid, IsLater}
use Rattle.ir_machine.proofs.Basics.{other_than, put_at, Along}
use Rattle.ir_machine.proofs.Instructions.{IsNoPtr}
use Rattle.ir_machine.proofs.Carried.{IsSameBlock, IsCarried}
use Rattle.ir_machine.proofs.Brought.{with_call, IsClosed, Brought, all_moved}

-- ---- 'known' is closed under what the machine does with values

among_less : (n k : ℕ) (d : Datum) → n ≤ k → IsAmongFirst n d → IsAmongFirst k d
among_less n k (datum.Ptr block offset) l is = omega (arith, l, is)
among_less n k datum.Null l is = tt
among_less n k datum.Undef l is = tt
among_less n k datum.Poison l is = tt
among_less n k (datum.Int bits) l is = tt
among_less n k datum.Pair l is = tt

among_no_ptr : (n : ℕ) (d : Datum) → IsNoPtr d → IsAmongFirst n d
among_no_ptr n (datum.Ptr block offset) is = absurd is
among_no_ptr n datum.Null is = tt
among_no_ptr n datum.Undef is = tt
among_no_ptr n datum.Poison is = tt
among_no_ptr n (datum.Int bits) is = tt
among_no_ptr n datum.Pair is = tt

among_same : (n : ℕ) (d e : Datum) → IsSameBlock d e → IsAmongFirst n d → IsAmongFirst n e
among_same n d datum.Null same is = tt
among_same n d datum.Undef same is = tt
among_same n d datum.Poison same is = tt
among_same n d (datum.Int bits) same is = tt
among_same n d datum.Pair same is = tt
among_same n (datum.Ptr a at) (datum.Ptr b there) same is = subst (λ k. k < n) same is
among_same n datum.Null (datum.Ptr b there) same is = absurd same
among_same n datum.Undef (datum.Ptr b there) same is = absurd same
among_same n datum.Poison (datum.Ptr b there) same is = absurd same
among_same n (datum.Int bits) (datum.Ptr b there) same is = absurd same
among_same n datum.Pair (datum.Ptr b there) same is = absurd same

known_carried : (s : Scope) → IsCarried s.count (Known s)
known_carried s = record {
  bare = λ x bare. (among_no_ptr s.count x.datum bare.datum, subst (AllByRecursion (IsMarkKnown s x.datum)) (sym bare.origins) tt);
  block = λ b o low. (low, tt);
  moved = λ x d known same. (
    among_same s.count x.datum d same known.0,
    every_mapped (IsMarkKnown s x.datum) (IsMarkKnown s d) x.origins (λ k is. (is.0, among_same (s.born k.call) x.datum d same is.1)) known.1,
  );
}

-- a mark that is known stays so when a call begins
known_further : (s : Scope) (d : Datum) (k : Mark) → IsMarkKnown s d k → IsMarkKnown (with_call s) d k
known_further s d k is = (
  omega (arith, is.0),
  put_at (λ n. IsAmongFirst n d) s.next_call s.count s.born k.call (λ e. absurd (omega (arith, is.0, e))) (λ other. is.1),
)

pub known_closed : IsClosed Known
known_closed = record {
  carried = known_carried;
  wider = λ s x known. (among_less s.count (s.count + 1) x.datum (omega arith) known.0, known.1);
  further = λ s x known. (known.0, every_mapped (IsMarkKnown s x.datum) (IsMarkKnown (with_call s) x.datum) x.origins (known_further s x.datum) known.1);
  marked = λ s x j known. (
    known.0,
    every_append (IsMarkKnown (with_call s) x.datum) x.origins (record { call = s.next_call; param = j } ∷ [])
        (every_mapped (IsMarkKnown s x.datum) (IsMarkKnown (with_call s) x.datum) x.origins (known_further s x.datum) known.1)
        ((omega arith, put_at (λ n. IsAmongFirst n x.datum) s.next_call s.count s.born s.next_call (λ e. known.0) (λ other. absurd (other refl))), tt),
  );
}

-- ---- what is asked of moves

-- the kind of a new block: of a call that has begun, or of the heap
abbrev pub IsNewKind : ℕ → Kind → Type 0
IsNewKind next (OfSymbol symbol) = ⊥
IsNewKind next (OfAlloca call value) = call < next
IsNewKind next Heap = Unit {0}

-- a new block has room, none that is dead changes, and a call that begins has the next number
abbrev pub Restricts : State → Move → Type 0
Restricts t (Says what) = Unit {0}
Restricts t (Grows shape) = (has_room t.memory shape.base shape.size ≡ true) × IsNewKind t.next_call shape.kind
Restricts t (Turns block life') = is_dead (t.memory.life block) ≡ false
Restricts t (Fills block bytes) = Unit {0}
Restricts t (Keeps x) = Unit {0}
Restricts t (Sets v x) = Unit {0}
Restricts t (Goes spot) = Unit {0}
Restricts t (Takes x) = Unit {0}
Restricts t (Begins frame) = ((call_of frame).number ≡ t.next_call) × ((call_of frame).born ≡ t.memory.count)
Restricts t Ends = Unit {0}

abbrev pub Fits : State → Move → Type 0
Fits t x = Restricts t x × Brought Known known_closed t x

-- ---- order

ordered_more : (born : ℕ → ℕ) (next next' most most' : ℕ) (stack : List Frame) → next ≤ next' → most ≤ most' → AreOrdered born next most stack →
    AreOrdered born next' most' stack
ordered_more born next next' most most' [] l l' is = tt
ordered_more born next next' most most' (frame ∷ below) l l' is = (omega (arith, l, is.0), omega (arith, l', is.1), is.2, is.3)

-- a call that begins does not change what is known of those before
ordered_put : (born : ℕ → ℕ) (n k next most : ℕ) (stack : List Frame) → next ≤ n → AreOrdered born next most stack → AreOrdered (put n k born) next most stack
ordered_put born n k next most [] l is = tt
ordered_put born n k next most (frame ∷ below) l is = (
  is.0,
  is.1,
  put_at (λ b. b ≡ (call_of frame).born) n k born (call_of frame).number (λ e. absurd (omega (arith, l, is.0, e))) (λ other. is.2),
  ordered_put born n k (call_of frame).number (call_of frame).born below (omega (arith, l, is.0)) is.3,
)

set_ordered : (v : ℕ) (x : Value) (born : ℕ → ℕ) (next most : ℕ) (stack : List Frame) → AreOrdered born next most stack →
    AreOrdered born next most (set_on_top v x stack)
set_ordered v x born next most [] is = is
set_ordered v x born next most (Body f ∷ below) is = is
set_ordered v x born next most (Outside f ∷ below) is = is

gone_ordered : (spot : Spot) (born : ℕ → ℕ) (next most : ℕ) (stack : List Frame) → AreOrdered born next most stack →
    AreOrdered born next most (gone_on_top spot stack)
gone_ordered spot born next most [] is = is
gone_ordered spot born next most (Body f ∷ below) is = is
gone_ordered spot born next most (Outside f ∷ below) is = is

taken_ordered : (x : Value) (born : ℕ → ℕ) (next most : ℕ) (stack : List Frame) → AreOrdered born next most stack →
    AreOrdered born next most (taken_on_top x stack)
taken_ordered x born next most [] is = is
taken_ordered x born next most (Body f ∷ below) is = is
taken_ordered x born next most (Outside f ∷ below) is = is

under_ordered : (born : ℕ → ℕ) (next most : ℕ) (stack : List Frame) → AreOrdered born next most stack → AreOrdered born next most (under_top stack)
under_ordered born next most [] is = tt
under_ordered born next most (frame ∷ below) is =
    ordered_more born (call_of frame).number next (call_of frame).born most below (omega (arith, is.0)) is.1 is.3

order_moved : (t : State) (x : Move) → AreOrdered t.born t.next_call t.memory.count t.stack → Restricts t x →
    AreOrdered (moved t x).born (moved t x).next_call (moved t x).memory.count (moved t x).stack
order_moved t (Says what) is fits = is
order_moved t (Grows shape) is fits = ordered_more t.born t.next_call t.next_call t.memory.count (t.memory.count + 1) t.stack (omega arith) (omega arith) is
order_moved t (Turns block life') is fits = is
order_moved t (Fills block bytes) is fits = is
order_moved t (Keeps x) is fits = is
order_moved t (Sets v x) is fits = set_ordered v x t.born t.next_call t.memory.count t.stack is
order_moved t (Goes spot) is fits = gone_ordered spot t.born t.next_call t.memory.count t.stack is
order_moved t (Takes x) is fits = taken_ordered x t.born t.next_call t.memory.count t.stack is
order_moved t (Begins frame) is fits =
    let call = call_of frame in (
      omega (arith, fits.0),
      omega (arith, fits.1),
      put_at (λ b. b ≡ call.born) t.next_call t.memory.count t.born call.number (λ e. sym fits.1) (λ other. absurd (other fits.0)),
      ordered_put t.born t.next_call t.memory.count call.number call.born t.stack (omega (arith, fits.0))
          (ordered_more t.born t.next_call call.number t.memory.count call.born t.stack (omega (arith, fits.0)) (omega (arith, fits.1)) is),
    )
order_moved t Ends is fits = under_ordered t.born t.next_call t.memory.count t.stack is

begun_moved : (t : State) (x : Move) → ((n : ℕ) → n < t.next_call → t.born n ≤ t.memory.count) → (n : ℕ) → n < (moved t x).next_call →
    (moved t x).born n ≤ (moved t x).memory.count
begun_moved t (Says what) is n low = is n low
begun_moved t (Grows shape) is n low = let before : t.born n ≤ t.memory.count = is n low in omega (arith, before)
begun_moved t (Turns block life') is n low = is n low
begun_moved t (Fills block bytes) is n low = is n low
begun_moved t (Keeps x) is n low = is n low
begun_moved t (Sets v x) is n low = is n low
begun_moved t (Goes spot) is n low = is n low
begun_moved t (Takes x) is n low = is n low
begun_moved t (Begins frame) is n low =
    put_at (λ b. b ≤ t.memory.count) t.next_call t.memory.count t.born n (λ e. omega arith) (λ other. is n (omega (arith, low, other)))
begun_moved t Ends is n low = is n low

-- ---- blocks

below_passes : (n : ℕ) (test : ℕ → Bool) → all_below n test ≡ true → (k : ℕ) → k < n → test k ≡ true
below_passes zero test all k low = absurd (omega (arith, low))
below_passes (suc n) test all k low =
    let parts = and_parts (test n) (all_below n test) all in
    by (k == n) refl parts.0 (λ less. below_passes n test parts.1 k less)
  where
    by : (b : Bool) → (k == n) ≡ b → test n ≡ true → (k < n → test k ≡ true) → test k ≡ true
    by true e at_n later = subst (λ j. test j ≡ true) (sym (eqb-true k n e)) at_n
    by false e at_n later = let other : k ≢ n = other_than k n e in later (omega (arith, low, other))

-- what a new block's room is
room_is : (mem : Memory) (base size : ℕ) → has_room mem base size ≡ true →
    (0 < base) × (base + size < 2 ^ 64) × ((n : ℕ) → n < mem.count → leaves_free mem base size n ≡ true)
unfolding has_room
room_is mem base size has =
    let parts = and_parts (not (base == 0) && nat_lt (base + size) (2 ^ 64)) (all_below mem.count (leaves_free mem base size)) has in
    let ends = and_parts (not (base == 0)) (nat_lt (base + size) (2 ^ 64)) parts.0 in
    (positive base ends.0, ltb-true (base + size) (2 ^ 64) ends.1, below_passes mem.count (leaves_free mem base size) parts.1)

is_dead_of : (life' : Life) → life' ≡ Dead → is_dead life' ≡ true
is_dead_of life' e = ap is_dead e

-- a block that is not dead leaves the room of a new one free only if they are apart
apart_of : (dead apart : Bool) → (dead || apart) ≡ true → dead ≡ false → apart ≡ true
apart_of dead apart e alive = subst (λ d. (d || apart) ≡ true) alive e

not_dead : (life' : Life) → life' ≢ Dead → is_dead life' ≡ false
not_dead Live other = refl
not_dead Closed other = refl
not_dead Dead other = absurd (other refl)

blocks_grown : (t : State) (shape : Shape) → IsValid t → Restricts t (Grows shape) → AreBlocks (grown shape t.memory) (scope_of (moved t (Grows shape)))
blocks_grown t shape valid fits =
    let mem = t.memory in
    let room = room_is mem shape.base shape.size fits.0 in
    let old = valid.blocks in record {
      placed = λ b low. put_at (λ s. (0 < s.base) × (s.base + s.size < 2 ^ 64)) mem.count shape mem.shape b (λ e. (room.0, room.1))
          (λ other. old.placed b (omega (arith, low, other)));
      apart = λ a b low less. by_shape a b low less;
      homes = λ symbol b home.
          let is = old.homes symbol b home in
          (omega (arith, is.0), put_at (λ s. s.kind ≡ OfSymbol symbol) mem.count shape mem.shape b (λ e. absurd (omega (arith, is.0, e))) (λ other. is.1));
      allocas = λ b call value low. put_at (λ s. s.kind ≡ OfAlloca call value → (call < t.next_call) × (t.born call ≤ b)) mem.count shape mem.shape b
          (λ e kind. new_alloca b call value e kind) (λ other kind. old.allocas b call value (omega (arith, low, other)) kind);
    }
  where
    new_alloca : (b call value : ℕ) → b ≡ t.memory.count → shape.kind ≡ OfAlloca call value → (call < t.next_call) × (t.born call ≤ b)
    new_alloca b call value e kind =
        let begun : call < t.next_call = subst (IsNewKind t.next_call) kind fits.1 in
        let older : t.born call ≤ t.memory.count = valid.begun call begun in
        (begun, omega (arith, older, e))

    lives : (n : ℕ) → put t.memory.count Live t.memory.life n ≢ Dead → n ≢ t.memory.count → t.memory.life n ≢ Dead
    lives n alive other = put_at (λ l. l ≢ Dead → t.memory.life n ≢ Dead) t.memory.count Live t.memory.life n (λ e. absurd (other e)) (λ _ is. is) alive

    by_shape : (a b : ℕ) → a < t.memory.count + 1 → b < a → put t.memory.count Live t.memory.life a ≢ Dead → put t.memory.count Live t.memory.life b ≢ Dead →
        are_apart (put t.memory.count shape t.memory.shape a).base (put t.memory.count shape t.memory.shape a).size
        (put t.memory.count shape t.memory.shape b).base (put t.memory.count shape t.memory.shape b).size ≡ true
    by_shape a b low less alive_a alive_b =
        put_at (λ s. are_apart (put t.memory.count shape t.memory.shape a).base
        (put t.memory.count shape t.memory.shape a).size s.base s.size ≡ true) t.memory.count shape
        t.memory.shape b (λ e. absurd (omega (arith, low, less, e))) (λ b_old. put_at (λ s. are_apart s.base s.size (t.memory.shape b).base
        (t.memory.shape b).size ≡ true)
        t.memory.count shape t.memory.shape a
        (λ e. apart_of (is_dead (t.memory.life b)) _ ((room_is t.memory shape.base shape.size fits.0).2 b (omega (arith, low, less)))
        (not_dead (t.memory.life b) (lives b alive_b b_old)))
        (λ a_old. valid.blocks.apart a b (omega (arith, low, a_old)) less (lives a alive_a a_old) (lives b alive_b b_old)))

blocks_turned : (t : State) (block : ℕ) (life' : Life) → IsValid t → is_dead (t.memory.life block) ≡ false →
    AreBlocks (turned block life' t.memory) (scope_of t)
blocks_turned t block life' valid alive = record {
  placed = valid.blocks.placed;
  apart = λ a b low less alive_a alive_b. valid.blocks.apart a b low less (was a alive_a) (was b alive_b);
  homes = valid.blocks.homes;
  allocas = valid.blocks.allocas;
}
  where
    was : (n : ℕ) → put block life' t.memory.life n ≢ Dead → t.memory.life n ≢ Dead
    was n now =
        put_at (λ l. l ≢ Dead → t.memory.life n ≢ Dead) block life' t.memory.life n
        (λ e _ dead. true≢false (sym (is_dead_of (t.memory.life n) dead) ∙ subst (λ k. is_dead (t.memory.life k) ≡ false) (sym e) alive)) (λ _ is. is) now

blocks_ended : (t : State) → IsValid t → AreBlocks (without_top t.stack t.memory) (scope_of t)
blocks_ended t valid = record {
  placed = valid.blocks.placed;
  apart = λ a b low less alive_a alive_b. valid.blocks.apart a b low less (was (is_alloca_on t.stack (t.memory.shape a).kind) (t.memory.life a) alive_a)
      (was (is_alloca_on t.stack (t.memory.shape b).kind) (t.memory.life b) alive_b);
  homes = valid.blocks.homes;
  allocas = valid.blocks.allocas;
}
  where
    was : (b : Bool) (life' : Life) → (if b then Dead else life') ≢ Dead → life' ≢ Dead
    was true life' alive = absurd (alive refl)
    was false life' alive = alive

blocks_begun : (t : State) → IsValid t → AreBlocks t.memory (with_call (scope_of t))
blocks_begun t valid = record {
  placed = valid.blocks.placed;
  apart = valid.blocks.apart;
  homes = valid.blocks.homes;
  allocas = λ b call value low kind.
      let is = valid.blocks.allocas b call value low kind in
      (omega (arith, is.0), put_at (λ n. n ≤ b) t.next_call t.memory.count t.born call (λ e. absurd (omega (arith, is.0, e))) (λ other. is.1));
}

blocks_moved : (t : State) (x : Move) → IsValid t → Restricts t x → AreBlocks (moved t x).memory (scope_of (moved t x))
blocks_moved t (Says what) valid fits = valid.blocks
blocks_moved t (Grows shape) valid fits = blocks_grown t shape valid fits
blocks_moved t (Turns block life') valid fits = blocks_turned t block life' valid fits
blocks_moved t (Fills block bytes) valid fits =
    record { placed = valid.blocks.placed; apart = valid.blocks.apart; homes = valid.blocks.homes; allocas = valid.blocks.allocas }
blocks_moved t (Keeps x) valid fits = valid.blocks
blocks_moved t (Sets v x) valid fits = valid.blocks
blocks_moved t (Goes spot) valid fits = valid.blocks
blocks_moved t (Takes x) valid fits = valid.blocks
blocks_moved t (Begins frame) valid fits = blocks_begun t valid
blocks_moved t Ends valid fits = blocks_ended t valid

-- each move keeps a state valid
pub valid_moved : (t : State) (x : Move) → IsValid t → Fits t x → IsValid (moved t x)
valid_moved t x valid fits = record {
  order = order_moved t x valid.order fits.0;
  begun = begun_moved t x valid.begun;
  blocks = blocks_moved t x valid fits.0;
  known = all_moved Known known_closed t x valid.known fits.1;
}

-- ---- what a later memory keeps

later_refl : (mem : Memory) → IsLater mem mem
later_refl mem = record { count = omega arith; home = λ symbol. refl; shape = λ b low. refl; dead = λ b low dead. dead }

later_trans : (a b c : Memory) → IsLater a b → IsLater b c → IsLater a c
later_trans a b c first second = record {
  count = omega (arith, first.count, second.count);
  home = λ symbol. second.home symbol ∙ first.home symbol;
  shape = λ n low. second.shape n (omega (arith, low, first.count)) ∙ first.shape n low;
  dead = λ n low dead. second.dead n (omega (arith, low, first.count)) (first.dead n low dead);
}

-- each move leads to a later memory
pub later_moved : (t : State) (x : Move) → Restricts t x → IsLater t.memory (moved t x).memory
later_moved t (Says what) fits = later_refl t.memory
later_moved t (Grows shape) fits = record {
  count = omega arith;
  home = λ symbol. refl;
  shape = λ b low. put_at (λ s. s ≡ t.memory.shape b) t.memory.count shape t.memory.shape b (λ e. absurd (omega (arith, low, e))) (λ _. refl);
  dead = λ b low dead. put_at (λ l. l ≡ Dead) t.memory.count Live t.memory.life b (λ e. absurd (omega (arith, low, e))) (λ _. dead);
}
later_moved t (Turns block life') fits = record {
  count = omega arith;
  home = λ symbol. refl;
  shape = λ b low. refl;
  dead = λ b low dead. put_at (λ l. l ≡ Dead) block life' t.memory.life b
      (λ e. absurd (true≢false (sym (is_dead_of (t.memory.life b) dead) ∙ subst (λ k. is_dead (t.memory.life k) ≡ false) (sym e) fits))) (λ _. dead);
}
later_moved t (Fills block bytes) fits = record { count = omega arith; home = λ symbol. refl; shape = λ b low. refl; dead = λ b low dead. dead }
later_moved t (Keeps x) fits = later_refl t.memory
later_moved t (Sets v x) fits = later_refl t.memory
later_moved t (Goes spot) fits = later_refl t.memory
later_moved t (Takes x) fits = later_refl t.memory
later_moved t (Begins frame) fits = later_refl t.memory
later_moved t Ends fits = record {
  count = omega arith;
  home = λ symbol. refl;
  shape = λ b low. refl;
  dead = λ b low dead. by (is_alloca_on t.stack (t.memory.shape b).kind) (t.memory.life b) dead;
}
  where
    by : (b : Bool) (life' : Life) → life' ≡ Dead → (if b then Dead else life') ≡ Dead
    by true life' dead = refl
    by false life' dead = dead

pub later_after : (t : State) (moves : List Move) → Along Fits t moves → IsLater t.memory (after t moves).memory
later_after t [] along = later_refl t.memory
later_after t (x ∷ moves) along =
    later_trans t.memory (moved t x).memory (after (moved t x) moves).memory (later_moved t x along.0.0) (later_after (moved t x) moves along.1)
