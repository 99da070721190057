-- The text of a made module, as a function of its number of functions, line by line.
use Rattle.std.specs.Prelude.{ℕ, ◌-◌, ◌/◌, ◌%◌, ◌==◌, if◌then◌else◌, List, [], ◌∷◌, ◌++◌, map, codes, decimal}
use Rattle.std.specs.List.{flat_map, range_with_len}

-- lines as a text, a line feed behind each
abbrev pub as_text : List (List ℕ) → List ℕ
as_text lines = flat_map (λ line. line ++ codes "\n") lines

-- the call of a function, with one argument
abbrev pub call_line : ℕ → List ℕ → List ℕ
call_line callee argument = codes "  call void @f" ++ decimal callee ++ codes "(ptr " ++ argument ++ codes ")"

-- the first line of a function
abbrev pub header_line : ℕ → List ℕ
header_line name = codes "define internal void @f" ++ decimal name ++ codes "(ptr %p) {"

-- what ends a function: it returns
abbrev pub end_lines : List (List ℕ)
end_lines = codes "  ret void" ∷ codes "}" ∷ []

-- what a function does before it returns: the first one writes through its argument; of each three that
-- follow one hands the argument on, one reads through it first, and one hands a block of its own on
abbrev pub work_lines : ℕ → List (List ℕ)
work_lines name =
    if name == 0 then codes "  store i32 0, ptr %p, align 4" ∷ []
    else if name % 3 == 0 then call_line (name - 1) (codes "%p") ∷ []
    else if name % 3 == 1 then codes "  %v = load i32, ptr %p, align 4" ∷ call_line (name / 2) (codes "%p") ∷ []
    else codes "  %a = alloca i64, align 8" ∷ call_line (name - 1) (codes "%a") ∷ []

-- a function, by its number
abbrev pub function_lines : ℕ → List (List ℕ)
function_lines name = (header_line name ∷ work_lines name) ++ end_lines

-- the module of `count` functions: a variable, the functions, and one that calls each of them
abbrev pub made_lines : ℕ → List (List ℕ)
made_lines count =
    codes "@g = global i32 0, align 4" ∷ flat_map function_lines (range_with_len 0 count)
    ++ codes "define void @main() {" ∷ map (λ name. call_line name (codes "@g")) (range_with_len 0 count)
    ++ end_lines

-- its text
abbrev pub made : ℕ → List ℕ
made count = as_text (made_lines count)
