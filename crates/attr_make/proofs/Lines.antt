-- Texts by their lines, one line more at a time.
use Rattle.std.proofs.Common.{◌≡◌, ◌≢◌, ℕ, zero, suc, ◌+◌, ◌/◌, ◌%◌, List, [], ◌∷◌, ◌++◌, map, ap, sym, refl, ◌∙◌, arith, append_assoc, append-nil, eq-eqb, Ok}
use Rattle.std.proofs.Common.{Err}
use Rattle.std.proofs.lemmas.Bool.{ne_eqb}
use Rattle.std.specs.Prelude.{codes, Result, OnOk}
use Rattle.std.specs.List.{flat_map, range_with_len}
use Rattle.std.proofs.lemmas.List.Concat.{flat_map-append}
use Rattle.attr_make.specs.Made.{as_text, call_line, function_lines, work_lines}

-- lines behind lines are text behind text
pub text_append : (xs ys : List (List ℕ)) → as_text (xs ++ ys) ≡ as_text xs ++ as_text ys
text_append xs ys = flat_map-append (λ (line : List ℕ). line ++ codes "\n") xs ys

-- numbers from `a` on, one more
range_more : (a n : ℕ) → range_with_len a (suc n) ≡ range_with_len a n ++ (a + n) ∷ []
range_more a zero = let e : a ≡ a + 0 = omega arith in ap (λ (x : ℕ). x ∷ []) e
range_more a (suc n) =
    let e : a + 1 + n ≡ a + suc n = omega arith in
    ap (λ (xs : List ℕ). a ∷ xs) (range_more (a + 1) n ∙ ap (λ (x : ℕ). range_with_len (a + 1) n ++ x ∷ []) e)

first_more : (n : ℕ) → range_with_len 0 (n + 1) ≡ range_with_len 0 n ++ n ∷ []
first_more n =
    let e : 0 + n ≡ n = omega arith in
    let s : n + 1 ≡ suc n = omega arith in
    ap (λ (k : ℕ). range_with_len 0 k) s ∙ range_more 0 n ∙ ap (λ (x : ℕ). range_with_len 0 n ++ x ∷ []) e

lines_more : (f : ℕ → List (List ℕ)) (xs : List ℕ) (x : ℕ) → flat_map f (xs ++ x ∷ []) ≡ flat_map f xs ++ f x
lines_more f xs x = flat_map-append f xs (x ∷ []) ∙ ap (λ (t : List (List ℕ)). flat_map f xs ++ t) (append-nil (f x))

-- one function more
pub function_more : (before text more : List ℕ) (n : ℕ) → text ≡ before ++ as_text (flat_map function_lines (range_with_len 0 n)) →
    more ≡ text ++ as_text (function_lines n) → more ≡ before ++ as_text (flat_map function_lines (range_with_len 0 (n + 1)))
function_more before text more n so_far here =
    let lines : flat_map function_lines (range_with_len 0 (n + 1)) ≡ flat_map function_lines (range_with_len 0 n) ++ function_lines n =
    ap (λ (xs : List ℕ). flat_map function_lines xs) (first_more n) ∙ lines_more function_lines (range_with_len 0 n) n in
    here ∙ ap (λ (t : List ℕ). t ++ as_text (function_lines n)) so_far
    ∙ append_assoc before (as_text (flat_map function_lines (range_with_len 0 n))) (as_text (function_lines n))
    ∙ ap (λ (t : List ℕ). before ++ t) (sym (text_append (flat_map function_lines (range_with_len 0 n)) (function_lines n)))
    ∙ ap (λ (t : List (List ℕ)). before ++ as_text t) (sym lines)

map_more : (f : ℕ → List ℕ) (xs : List ℕ) (x : ℕ) → map f (xs ++ x ∷ []) ≡ map f xs ++ f x ∷ []
map_more f [] x = refl
map_more f (y ∷ ys) x = ap (λ (t : List (List ℕ)). f y ∷ t) (map_more f ys x)

-- one line more, of lines by number
pub line_more : (f : ℕ → List ℕ) (before text more : List ℕ) (n : ℕ) → text ≡ before ++ as_text (map f (range_with_len 0 n)) →
    more ≡ text ++ as_text (f n ∷ []) → more ≡ before ++ as_text (map f (range_with_len 0 (n + 1)))
line_more f before text more n so_far here =
    let lines : map f (range_with_len 0 (n + 1)) ≡ map f (range_with_len 0 n) ++ f n ∷ [] =
    ap (λ (xs : List ℕ). map f xs) (first_more n) ∙ map_more f (range_with_len 0 n) n in
    here ∙ ap (λ (t : List ℕ). t ++ as_text (f n ∷ [])) so_far
    ∙ append_assoc before (as_text (map f (range_with_len 0 n))) (as_text (f n ∷ []))
    ∙ ap (λ (t : List ℕ). before ++ t) (sym (text_append (map f (range_with_len 0 n)) (f n ∷ [])))
    ∙ ap (λ (t : List (List ℕ)). before ++ as_text t) (sym lines)

-- pieces put behind a text, the last with the line feed, are one line
behind : (text line : List ℕ) → text ++ (line ++ codes "\n") ≡ text ++ as_text (line ∷ [])
behind text line = ap (λ (t : List ℕ). text ++ t) (sym (append-nil (line ++ codes "\n")))

pub short_line : (text a b c : List ℕ) → ((text ++ a) ++ b) ++ (c ++ codes "\n") ≡ text ++ as_text (((a ++ b) ++ c) ∷ [])
short_line text a b c =
    ap (λ (t : List ℕ). t ++ (c ++ codes "\n")) (append_assoc text a b)
    ∙ append_assoc text (a ++ b) (c ++ codes "\n")
    ∙ ap (λ (t : List ℕ). text ++ t) (sym (append_assoc (a ++ b) c (codes "\n")))
    ∙ behind text ((a ++ b) ++ c)

pub one_line : (text a b c d e : List ℕ) → ((((text ++ a) ++ b) ++ c) ++ d) ++ (e ++ codes "\n") ≡ text ++ as_text (((((a ++ b) ++ c) ++ d) ++ e) ∷ [])
one_line text a b c d e =
    ap (λ (t : List ℕ). ((t ++ c) ++ d) ++ (e ++ codes "\n")) (append_assoc text a b)
    ∙ ap (λ (t : List ℕ). (t ++ d) ++ (e ++ codes "\n")) (append_assoc text (a ++ b) c)
    ∙ short_line text ((a ++ b) ++ c) d e

-- what a function does whose number leaves 1 by three
pub reading_work : (text : List ℕ) (name : ℕ) → name ≢ 0 → name % 3 ≡ 1 →
    (text ++ codes "  %v = load i32, ptr %p, align 4\n") ++ as_text (call_line (name / 2) (codes "%p") ∷ []) ≡ text ++ as_text (work_lines name)
reading_work text name some is =
    let other : name % 3 ≢ 0 = omega arith in
    let work : work_lines name ≡ codes "  %v = load i32, ptr %p, align 4" ∷ call_line (name / 2) (codes "%p") ∷ [] =
    rw (ne_eqb name 0 some, ne_eqb (name % 3) 0 other, eq-eqb (name % 3) 1 is) refl in
    append_assoc text (codes "  %v = load i32, ptr %p, align 4\n") (as_text (call_line (name / 2) (codes "%p") ∷ []))
    ∙ ap (λ (t : List (List ℕ)). text ++ as_text t) (sym work)

-- what follows from a fact that holds where a call ends well
pub on_ok : {T E P Q : Type 0} (r : Result T E) → OnOk r P → (P → Q) → OnOk r Q
on_ok (Ok x) h f = f h
on_ok (Err e) h f = tt
