-- How productions are put together. A tree is read as a step: from a token to the token behind what it eats, or nowhere where it
-- does not fit. So a tree's leaves and its quoted tokens, in order, are the tokens between the two.
use Rattle.std.specs.Prelude.{◌≡◌, ℕ, suc, ◌≤◌, Bool, true, false, not, ◌&&◌, ◌==◌, List, [], ◌∷◌, slice_get, Option, None, Some}
use Rattle.std.specs.List.{list_any}
use Rattle.ir_tree.specs.declared.terminal.Terminal.{Terminal}
use Rattle.ir_tree.specs.declared.terminal.Terminal.TheVariants as k
use Rattle.ir_tree.specs.contracts.terminal.Terminal.{the_type}
use denote.Enum.Bare.{sameb}

abbrev pub Step : Type 0
Step = ℕ → Option ℕ

abbrev pub and_then : Option ℕ → Step → Option ℕ
and_then None next = None
and_then (Some b) next = next b

infixr 10 ◌⨾◌
-- one behind the other
abbrev pub ◌⨾◌ : Step → Step → Step
f ⨾ g = λ a. and_then (f a) g

-- this place, where the test holds
abbrev pub when : Bool → ℕ → Option ℕ
when true b = Some b
when false b = None

abbrev pub nowhere : Step
nowhere a = None

-- nothing where the test holds, and else the step
abbrev pub unless : Bool → Option ℕ → Option ℕ
unless true to = None
unless false to = to

abbrev pub is : Terminal → Terminal → Bool
is = sameb the_type

-- one of these terminals
abbrev pub among : List Terminal → Terminal → Bool
among set t = list_any (λ k. is k t) set

abbrev pub seen : (Terminal → Bool) → Option Terminal → Bool
seen test None = false
seen test (Some t) = test t

-- the token at this place passes the test
unfoldable pub sees : List Terminal → (Terminal → Bool) → ℕ → Bool
sees toks test a = seen test (slice_get toks a)

-- the token at this place is this terminal
abbrev pub stands : List Terminal → Terminal → ℕ → Bool
stands toks k = sees toks (among (k ∷ []))

-- a token that the tree does not keep
abbrev pub the : List Terminal → Terminal → Step
the toks k = λ a. when (stands toks k a) (suc a)

-- a leaf: the number of a token that passes the test
abbrev pub passing : List Terminal → (Terminal → Bool) → ℕ → Step
passing toks test leaf = λ a. when (leaf == a && sees toks test a) (suc a)

-- a leaf that is one of these terminals
abbrev pub one_of : List Terminal → List Terminal → ℕ → Step
one_of toks set = passing toks (among set)

-- a leaf that is none of these terminals
abbrev pub none_of : List Terminal → List Terminal → ℕ → Step
none_of toks set = passing toks (λ t. not (among set t))

abbrev pub leaf : List Terminal → Terminal → ℕ → Step
leaf toks k = one_of toks (k ∷ [])

-- `x*`
abbrev pub many : {T : Type 0} → (T → Step) → List T → Step
many p [] = Some
many p (t ∷ ts) = p t ⨾ many p ts

-- `x+`
abbrev pub some : {T : Type 0} → (T → Step) → List T → Step
some p [] = nowhere
some p (t ∷ ts) = p t ⨾ many p ts

-- `[x]`
abbrev pub optional : {T : Type 0} → (T → Step) → Option T → Step
optional p None = Some
optional p (Some t) = p t

-- `',' x`
abbrev pub next : {T : Type 0} → List Terminal → (T → Step) → T → Step
next toks p t = the toks k.Comma ⨾ p t

-- `x (',' x)*`
abbrev pub listed : {T : Type 0} → List Terminal → (T → Step) → List T → Step
listed toks p [] = nowhere
listed toks p (t ∷ ts) = p t ⨾ many (next toks p) ts

-- `x,*`
abbrev pub separated : {T : Type 0} → List Terminal → (T → Step) → List T → Step
separated toks p [] = Some
separated toks p (t ∷ ts) = p t ⨾ many (next toks p) ts

-- the step from a place from which this may be taken
abbrev pub where_not : (ℕ → Bool) → Step → Step
where_not barred step a = unless (barred a) (step a)

-- of the trees from a on, this one ends last; or none fits
abbrev pub Longest : {T : Type 0} → (T → Step) → ℕ → Option (T × ℕ) → Type 0
Longest {T} p a (Some x) = (p x.0 a ≡ Some x.1) × ((u : T) (c : ℕ) → p u a ≡ Some c → c ≤ x.1)
Longest {T} p a None = (u : T) (c : ℕ) → p u a ≡ Some c → ⊥

-- trees from a to b one behind the other, each the longest from its place
abbrev pub Taken : {T : Type 0} → (T → Step) → List T → ℕ → ℕ → Type 0
Taken p [] a b = a ≡ b
Taken p (t ∷ ts) a b = (m : ℕ) × (Longest p a (Some (t, m)) × Taken p ts m b)
