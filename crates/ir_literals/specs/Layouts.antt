-- The data layouts that agree with this project's.
use Rattle.std.specs.Prelude.{ℕ, ◌-◌, Bool, true, false, not, ◌&&◌, ◌||◌, if◌then◌else◌, ◌==◌, nat_lt, List, [], ◌∷◌, codes, length, slice_index, take, drop}
use Rattle.std.specs.List.{list_any, list_all}
use Rattle.std.specs.Char.{is_ascii_digit}
use Rattle.std.specs.Str.{bytes_eq}
use Rattle.memchr.specs.Find.{matches}
use Rattle.bstr.specs.Text.{split_at}
use Rattle.ir_token.specs.Bytes.{Bytes}

-- the components, between dashes
unfoldable pub components : Bytes → List Bytes
components z = split_at z 1 0 (matches z (codes "-") 0)

-- the component ends here, or a colon stands here
abbrev pub is_cut : Bytes → Bool
is_cut z = length z == 0 || slice_index z 0 == 58

-- a component is these bytes, to its end or a colon
abbrev pub says : Bytes → Bytes → Bool
says z word = bytes_eq (take (length word) z) word && is_cut (drop (length word) z)

-- `:64`, any number of times
abbrev pub are_sixty_fours : Bytes → Bool
are_sixty_fours [] = true
are_sixty_fours (a ∷ []) = false
are_sixty_fours (a ∷ (b ∷ [])) = false
are_sixty_fours (a ∷ (b ∷ (c ∷ z))) = a == 58 && (b == 54 && (c == 52 && are_sixty_fours z))

abbrev pub is_high_digit : ℕ → Bool
is_high_digit c = is_ascii_digit c && not (c == 48)

-- what stands behind a `0`, or all where none is there
abbrev pub behind_zero : Bytes → Bytes
behind_zero z = if slice_index z 0 == 48 then drop 1 z else z

-- behind `p`: an address space other than 0; or `:64` once or more, after `0` or nothing
unfoldable pub is_pointer : Bytes → Bool
is_pointer z = is_high_digit (slice_index z 0) || (nat_lt 0 (length (behind_zero z)) && are_sixty_fours (behind_zero z))

-- a width of three digits
abbrev pub is_wide : Bytes → Bool
is_wide z = is_high_digit (slice_index z 0) && (is_ascii_digit (slice_index z 1) && is_ascii_digit (slice_index z 2))

-- behind `i`: a width of three digits, or one that has its own size as its alignment
unfoldable pub is_integer : Bytes → Bool
is_integer z = is_wide z || ((says z (codes "1:8") || says z (codes "8:8")) || (says z (codes "16:16") || (says z (codes "32:32") || says z (codes "64:64"))))

-- behind `a`
abbrev pub is_aggregate : Bytes → Bool
is_aggregate z = says z (codes ":0") || says z (codes ":8")

-- a component that says nothing against this project's layout: bytes from the lowest on, pointers of 64 bits, integers aligned to their
-- sizes
unfoldable pub is_taken : Bytes → Bool
is_taken z =
    if slice_index z 0 == 69 then false else (if slice_index z 0 == 112 then is_pointer (drop 1 z) else
    (if slice_index z 0 == 105 then is_integer (drop 1 z) else (if slice_index z 0 == 97 then is_aggregate (drop 1 z) else true)))

-- the component that a layout has to have: LLVM lays a struct out otherwise where none is
abbrev pub is_aligned : Bytes → Bool
is_aligned z = says z (codes "i64:64")

-- each component is taken, and one is `i64:64`
unfoldable pub are_taken : List Bytes → Bool
are_taken parts = list_all is_taken parts && list_any is_aligned parts

-- no backslash, which would begin an escape, stands there
abbrev pub is_plain : Bytes → Bool
is_plain z = list_all (λ c. not (c == 92)) z

-- a data layout that agrees with this project's
abbrev pub is_layout : Bytes → Bool
is_layout z = is_plain z && are_taken (components z)
