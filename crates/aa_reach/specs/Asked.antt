-- What is asked, and what is spoken of, for one word of one row.
use Rattle.std.specs.Prelude.{◌≡◌, ◌≢◌, ◌↔◌, ◌+◌, ◌*◌, ◌⊎◌, ◌<◌, ◌≤◌, if◌then◌else◌, ℕ, Bool, true, false, List, length, slice_get, Some}
use Rattle.lattice_words.specs.declared.reach.TheConstants.{BODIES}
use Rattle.lattice_words.specs.declared.word.TheConstants.{FACTS}
use Rattle.ir_module.specs.declared.op.Op.{Op}
use Rattle.ir_module.specs.declared.op.Instr.{Instr}
use Rattle.ir_module.specs.declared.module.Module.{Module}
use Rattle.ir_module.specs.Places.{spot, instr_at, IsSegIn}
use Rattle.ir_module.specs.Calls.{is_call, is_outer, inner_callee, is_open}
use Rattle.facts.specs.declared.pos.Pos.{Pos}
use Rattle.facts.specs.declared.pos.Pos.TheVariants as pos
use Rattle.facts.specs.Facts.{Fact, dead, unreached_by}
use Rattle.facts.specs.Bodies.{is_body, rank, body_count}
use Rattle.facts.specs.Masks.{is_bit}
use Rattle.facts.specs.Reach.{PassesBy, PassingSpeaks}
use Rattle.rule_terms.specs.declared.term.NewTerm.{NewTerm}
use Rattle.rule_terms.specs.declared.term.NewTerm.TheOpen.{NewTerm-F as new}
use Rattle.rule_terms.specs.declared.term.NewTerm.TheViews.{roll-NewTerm}
use Rattle.positions.specs.Numbering.{Numbered}
use Rattle.rule_says.specs.Saying.{IsSet, IsWord}
use Rattle.rule_says.specs.Listing.{AskAll, SpeakAny}

-- the body of the bit in word k of a row
abbrev pub body_of : ℕ → ℕ → ℕ
body_of k bit = k * BODIES + bit

-- the number of each function's row, and last that of the outside
abbrev pub AreRanks : Module → List ℕ → Type 0
AreRanks m ranks = (f : ℕ) → f ≤ length m.funcs → slice_get ranks f ≡ Some (rank m f)

-- ---- terms

-- the body of the bit is not number h, and row h does not reach it
pub record IsByRow (ps : Numbered) (t : NewTerm) (h k : ℕ) : Type 0 where
  pub others : ℕ
  pub word : NewTerm
  pub apart : (bit : ℕ) → bit < BODIES → IsSet others bit ↔ (h ≢ body_of k bit)
  pub reads : IsWord ps FACTS word (pos.Reach h k)
  pub term : t ≡ roll-NewTerm (new.And (roll-NewTerm (new.Const others)) word)

-- `nocallback` is promised, or the outside does not reach the body of the bit
pub record IsByOutside (ps : Numbered) (t : NewTerm) (outside k : ℕ) (promised : Bool) : Type 0 where
  pub word : NewTerm
  pub reads : IsWord ps FACTS word (pos.Reach outside k)
  pub term : t ≡ (if promised then roll-NewTerm (new.Or (roll-NewTerm (new.Const FACTS)) word) else word)

-- some fact of this word of a row
abbrev pub IsOfWord : ℕ → ℕ → Fact → Type 0
IsOfWord row k y = (y.pos ≡ pos.Reach row k) × IsSet FACTS y.bit

-- the body of the bit is not number h, and row h does not reach it
abbrev pub AsksRow : ℕ → ℕ → (Fact → Bool) → ℕ → Type 0
AsksRow h k held bit = (h ≢ body_of k bit) × (held (unreached_by h (body_of k bit)) ≡ true)

-- a call passes by the body of the bit
abbrev pub AsksCall : Module → ℕ → Op → (Fact → Bool) → ℕ → Type 0
AsksCall m k o held bit = PassesBy m held (body_of k bit) o

-- it speaks of the row of its callee, or of that of the outside
abbrev pub SpeaksCall : Module → ℕ → Op → Fact → Type 0
SpeaksCall m k o y = ((h : ℕ) × (inner_callee m o ≡ Some h) × IsOfWord (rank m h) k y) ⊎ ((is_outer m o ≡ true) × IsOfWord (body_count m) k y)

-- ---- rows

-- the instruction of segment q passes by, if the segment is not dead
abbrev pub AsksPass : Module → ℕ → ℕ → ℕ → Op → (Fact → Bool) → Pos → ℕ → Type 0
AsksPass m row k q o held p bit = p ≡ pos.Reach row k → is_bit m p bit ≡ true → held (dead q) ≡ false → PassesBy m held (body_of k bit) o

-- what is spoken of for it
abbrev pub SpeaksPass : Module → ℕ → ℕ → ℕ → Op → Pos → Fact → Type 0
SpeaksPass m row k q o p y = (p ≡ pos.Reach row k) × (bit : ℕ) × (is_bit m p bit ≡ true) × (is_call o ≡ true) × PassingSpeaks m (body_of k bit) (spot q 0) o y

-- each instruction of segment q
abbrev pub AsksSeg : Module → ℕ → ℕ → ℕ → (Fact → Bool) → Pos → ℕ → Type 0
AsksSeg m row k q held p bit = (at : ℕ) (i : Instr) → instr_at m (spot q at) ≡ Some i → AsksPass m row k q i.op held p bit

abbrev pub SpeaksSeg : Module → ℕ → ℕ → ℕ → Pos → Fact → Type 0
SpeaksSeg m row k q p y = (at : ℕ) × (i : Instr) × (instr_at m (spot q at) ≡ Some i) × SpeaksPass m row k q i.op p y

-- each segment of body f, in word k of its row
abbrev pub AsksBody : Module → ℕ → ℕ → (Fact → Bool) → Pos → ℕ → Type 0
AsksBody m f k held p bit = AskAll m.segs (λ q seg held p bit. IsSegIn m f q → AsksSeg m (rank m f) k q held p bit) held p bit

abbrev pub SpeaksBody : Module → ℕ → ℕ → Pos → Fact → Type 0
SpeaksBody m f k p y = SpeakAny m.segs (λ q seg p y. IsSegIn m f q × SpeaksSeg m (rank m f) k q p y) p y

-- each open body is asked not to be the one of the bit, nor to reach it, in word k of the row of the outside
abbrev pub AsksOpen : Module → ℕ → ℕ → (Fact → Bool) → Pos → ℕ → Type 0
AsksOpen m k f held p bit = p ≡ pos.Reach (body_count m) k → is_bit m p bit ≡ true → is_open m f ≡ true → AsksRow (rank m f) k held bit

abbrev pub SpeaksOpen : Module → ℕ → ℕ → Pos → Fact → Type 0
SpeaksOpen m k f p y =
    (p ≡ pos.Reach (body_count m) k) × (bit : ℕ) × (is_bit m p bit ≡ true) × (is_open m f ≡ true) × (y ≡ unreached_by (rank m f) (body_of k bit))

-- ---- words of rows

-- the words below n of the row of body f
abbrev pub AsksWords : Module → ℕ → ℕ → (Fact → Bool) → Pos → ℕ → Type 0
AsksWords m f n held p bit = (k : ℕ) → k < n → AsksBody m f k held p bit

abbrev pub SpeaksWords : Module → ℕ → ℕ → Pos → Fact → Type 0
SpeaksWords m f n p y = (k : ℕ) × (k < n) × SpeaksBody m f k p y

-- each open body, in word k of the row of the outside
abbrev pub AsksOutsideWord : Module → ℕ → (Fact → Bool) → Pos → ℕ → Type 0
AsksOutsideWord m k = AskAll m.funcs (λ f func. AsksOpen m k f)

abbrev pub SpeaksOutsideWord : Module → ℕ → Pos → Fact → Type 0
SpeaksOutsideWord m k = SpeakAny m.funcs (λ f func. SpeaksOpen m k f)

-- the words below n of the row of the outside
abbrev pub AsksOutside : Module → ℕ → (Fact → Bool) → Pos → ℕ → Type 0
AsksOutside m n held p bit = (k : ℕ) → k < n → AsksOutsideWord m k held p bit

abbrev pub SpeaksOutside : Module → ℕ → Pos → Fact → Type 0
SpeaksOutside m n p y = (k : ℕ) × (k < n) × SpeaksOutsideWord m k p y

-- the row of function f, of n words, if it is a body
abbrev pub AsksFunc : Module → ℕ → ℕ → (Fact → Bool) → Pos → ℕ → Type 0
AsksFunc m n f held p bit = is_body m f ≡ true → AsksWords m f n held p bit

abbrev pub SpeaksFunc : Module → ℕ → ℕ → Pos → Fact → Type 0
SpeaksFunc m n f p y = (is_body m f ≡ true) × SpeaksWords m f n p y

-- the rows of all bodies
abbrev pub AsksRows : Module → ℕ → (Fact → Bool) → Pos → ℕ → Type 0
AsksRows m n = AskAll m.funcs (λ f func. AsksFunc m n f)

abbrev pub SpeaksRows : Module → ℕ → Pos → Fact → Type 0
SpeaksRows m n = SpeakAny m.funcs (λ f func. SpeaksFunc m n f)
