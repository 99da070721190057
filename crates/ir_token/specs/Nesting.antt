-- How many brackets are open at once.
use Rattle.std.specs.Prelude.{ℕ, ◌+◌, ◌-◌, max, ◌||◌, if◌then◌else◌, ◌==◌, List, [], ◌∷◌, slice_index}
use Rattle.std.specs.List.{fold}
use Rattle.ir_token.specs.declared.token.Kind.{Kind}
use Rattle.ir_token.specs.declared.token.Kind.TheVariants.{Punct}
use Rattle.ir_token.specs.declared.token.Token.{Token}
use Rattle.ir_token.specs.Bytes.{Bytes}

-- the byte of a Punct, and 0 for every other token
abbrev pub mark_at : Bytes → Kind → ℕ → ℕ
mark_at b Punct i = slice_index b i
mark_at b _ i = 0

-- how many brackets are open behind this mark: `( [ { <` open one, and `) ] } >` close one where one is open
abbrev pub then_open : ℕ → ℕ → ℕ
then_open depth c = if (c == 40 || c == 91) || (c == 123 || c == 60) then depth + 1 else (if (c == 41 || c == 93) || (c == 125 || c == 62) then depth - 1 else
    depth)

-- how many are open behind these tokens, where so many are open before them
abbrev pub open_after : Bytes → ℕ → List Token → ℕ
open_after b depth ts = fold (λ open_now t. then_open open_now (mark_at b t.kind t.span.from)) depth ts

-- the greatest number that is open at once
abbrev pub deepest : Bytes → ℕ → List Token → ℕ
deepest b depth [] = depth
deepest b depth (t ∷ ts) = max depth (deepest b (then_open depth (mark_at b t.kind t.span.from)) ts)

abbrev pub nesting_of : Bytes → List Token → ℕ
nesting_of b ts = deepest b 0 ts
