-- Chains of names: `%t = type %u` leads from %t to %u. A name that is no other name's leads to itself.
use Rattle.std.specs.Prelude.{◌≡◌, ℕ, zero, suc, ◌≤◌, List, length, slice_index_or}

-- the name that a name leads to; past the list each leads to itself
abbrev pub step : List ℕ → ℕ → ℕ
step nexts k = slice_index_or nexts k k

-- the name that is reached in n steps
unfoldable pub after : List ℕ → ℕ → ℕ → ℕ
after nexts zero k = k
after nexts (suc n) k = after nexts n (step nexts k)

-- the list leads from each name to the one that is reached in n steps
abbrev pub Jumps : List ℕ → ℕ → List ℕ → Type 0
Jumps nexts n jumps = (k : ℕ) → step jumps k ≡ after nexts n k

-- the chain of a name ends at another: that one leads to itself
abbrev pub Ends : List ℕ → ℕ → ℕ → Type 0
Ends nexts k e = ((n : ℕ) × (after nexts n k ≡ e)) × (step nexts e ≡ e)

-- the list leads from each name to one that is reached in as many steps as there are names, or more
abbrev pub AreEnds : List ℕ → List ℕ → Type 0
AreEnds nexts ends = (n : ℕ) × ((length nexts ≤ n) × Jumps nexts n ends)
