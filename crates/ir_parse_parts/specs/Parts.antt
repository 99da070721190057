-- Parts of productions that have functions of their own.
use Rattle.std.specs.Prelude.{ℕ, suc, not, List, [], ◌∷◌}
use Rattle.ir_tree.specs.declared.terminal.Terminal.{Terminal}
use Rattle.ir_tree.specs.declared.terminal.Terminal.TheVariants as k
use Rattle.ir_tree.specs.Steps.{Step, ◌⨾◌, among, sees, when, the, leaf}
use Rattle.ir_tree.specs.Attributes.{aword}

-- `'(' Comdat ')'`
abbrev pub comdat_name : List Terminal → ℕ → Step
comdat_name toks name = the toks k.LeftParen ⨾ leaf toks k.Comdat name ⨾ the toks k.RightParen

-- a token that is one of these terminals
abbrev pub any_of : List Terminal → List Terminal → Step
any_of toks set a = when (sees toks (among set) a) (suc a)

-- a token that is none of these terminals
abbrev pub none_of_these : List Terminal → List Terminal → Step
none_of_these toks set a = when (sees toks (λ t. not (among set t)) a) (suc a)

-- `'=' Str`, the value of an attribute that is written as a string
abbrev pub written_value : List Terminal → ℕ → Step
written_value toks text = the toks k.Equals ⨾ leaf toks k.Str text

-- `'(' Int ')'`, with the places of the number and of the closing parenthesis
abbrev pub bytes_in : List Terminal → ℕ × ℕ → Step
bytes_in toks x = the toks k.LeftParen ⨾ leaf toks k.Int x.0 ⨾ leaf toks k.RightParen x.1

-- `'align' '=' Int`, with the places of the word and of the number
abbrev pub align_equals : List Terminal → ℕ × ℕ → Step
align_equals toks x = leaf toks k.Align x.0 ⨾ the toks k.Equals ⨾ leaf toks k.Int x.1

-- `aword '=' Int`, with the places of the word and of the number
abbrev pub word_equals : List Terminal → ℕ × ℕ → Step
word_equals toks x = aword toks x.0 ⨾ the toks k.Equals ⨾ leaf toks k.Int x.1

-- `'inrange' '(' Int ',' Int ')'`, with the places of the two numbers
abbrev pub in_range : List Terminal → ℕ × ℕ → Step
in_range toks x = the toks k.InRange ⨾ the toks k.LeftParen ⨾ leaf toks k.Int x.0 ⨾ the toks k.Comma ⨾ leaf toks k.Int x.1 ⨾ the toks k.RightParen

-- the terminals that are a constant by themselves
abbrev pub constant_words : List Terminal
constant_words = k.Int ∷ k.True ∷ k.False ∷ k.Null ∷ k.Undef ∷ k.Poison ∷ k.Zero ∷ k.Global ∷ k.CStr ∷ []
