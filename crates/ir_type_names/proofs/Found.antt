-- Keys in lists, and where they stand as more come behind them.
use Rattle.std.proofs.Common.{◌≡◌, ℕ, ◌+◌, Bool, true, false, cond, not, ◌||◌, List, [], ◌∷◌, ◌++◌, map, Option, Some, refl, ap, ◌∙◌, arith}
use Rattle.std.specs.List.{list_any, position_from, position_or_len}
use Rattle.std.specs.Str.{bytes_eq}
use Rattle.std.proofs.lemmas.Slice.Eq.{bytes_eq-Decides}
use Rattle.ir_type_names.specs.Numbers.{Key, joined_by}
use Rattle.ir_type_names.specs.Numbers.Form.{Keyed}

module _ {X Y : Type 0} (f : X → Y) (p : Y → Bool) where
  pub any_mapped : (xs : List X) → list_any (λ x. p (f x)) xs ≡ list_any p (map f xs)
  any_mapped [] = refl
  any_mapped (x ∷ xs) = ap (λ b. p (f x) || b) (any_mapped xs)

  pub position_mapped : (xs : List X) (i : ℕ) → position_from (λ x. p (f x)) i xs ≡ position_from p i (map f xs)
  position_mapped [] i = refl
  position_mapped (x ∷ xs) i = ap (λ r. cond (p (f x)) (Some i) r) (position_mapped xs (i + 1))

  pub place_mapped : (xs : List X) → position_or_len (λ x. p (f x)) xs ≡ position_or_len p (map f xs)
  place_mapped [] = refl
  place_mapped (x ∷ xs) = ap (λ n. cond (not (p (f x))) (1 + n) 0) (place_mapped xs)

module _ {K : Type 0} (test : K → Bool) where
  -- what was there stays where it is
  there_step : (b : Bool) (i n : ℕ) (r : Option ℕ) → (b ≡ false → r ≡ Some (i + 1 + n)) → cond b (Some i) r ≡ Some (i + cond (not b) (1 + n) 0)
  there_step true i n r rest = ap (λ k. Some k) (omega arith)
  there_step false i n r rest = rest refl ∙ ap (λ k. Some k) (omega arith)

  any_behind : (b c : Bool) → b || c ≡ true → b ≡ false → c ≡ true
  any_behind true c any off = absurd cc
  any_behind false c any off = any

  pub stays_there : (ks rest : List K) (i : ℕ) → list_any test ks ≡ true → position_from test i (ks ++ rest) ≡ Some (i + position_or_len test ks)
  stays_there [] rest i any = absurd cc
  stays_there (k ∷ ks) rest i any =
      there_step (test k) i (position_or_len test ks) (position_from test (i + 1) (ks ++ rest))
      (λ off. stays_there ks rest (i + 1) (any_behind (test k) (list_any test ks) any off))

  none_here : (b c : Bool) → b || c ≡ false → (b ≡ false) × (c ≡ false)
  none_here true c none = absurd cc
  none_here false c none = (refl, none)

  -- what is new stands behind all
  pub stands_last : (ks rest : List K) (k : K) (i : ℕ) → list_any test ks ≡ false → test k ≡ true
      → position_from test i ((ks ++ k ∷ []) ++ rest) ≡ Some (i + position_or_len test ks)
  stands_last [] rest k i none is = ap (λ b. cond b (Some i) (position_from test (i + 1) rest)) is ∙ ap (λ n. Some n) (omega arith)
  stands_last (j ∷ ks) rest k i none is =
      let off = none_here (test j) (list_any test ks) none in
      there_step (test j) i (position_or_len test ks) (position_from test (i + 1) ((ks ++ k ∷ []) ++ rest))
      (λ _. stands_last ks rest k (i + 1) off.1 is)

-- a key that is taken in stands where it was, or behind all, whatever follows
stays_by : (b : Bool) (keys rest : List Key) (key : Key) → list_any (bytes_eq key) keys ≡ b
    → position_from (bytes_eq key) 0 ((cond b keys (keys ++ key ∷ [])) ++ rest) ≡ Some (position_or_len (bytes_eq key) keys)
stays_by true keys rest key is = stays_there (bytes_eq key) keys rest 0 is ∙ ap (λ n. Some n) (omega arith)
stays_by false keys rest key is = stands_last (bytes_eq key) keys rest key 0 is ((bytes_eq-Decides key key).1 refl) ∙ ap (λ n. Some n) (omega arith)

pub key_stays : (keys rest : List Key) (key : Key)
    → position_from (bytes_eq key) 0 (joined_by keys (Keyed key) ++ rest) ≡ Some (position_or_len (bytes_eq key) keys)
key_stays keys rest key = stays_by (list_any (bytes_eq key) keys) keys rest key refl

-- a key that is taken in is there, whatever follows
any_more : (b c d : Bool) → (c ≡ true → d ≡ true) → b || c ≡ true → b || d ≡ true
any_more true c d rest any = refl
any_more false c d rest any = rest any

any_either : (b c : Bool) → c ≡ true → b || c ≡ true
any_either true c is = refl
any_either false c is = is

any_here : {K : Type 0} (test : K → Bool) (ks rest : List K) → list_any test ks ≡ true → list_any test (ks ++ rest) ≡ true
any_here test [] rest any = absurd cc
any_here test (k ∷ ks) rest any = any_more (test k) (list_any test ks) (list_any test (ks ++ rest)) (any_here test ks rest) any

any_last : {K : Type 0} (test : K → Bool) (ks : List K) (k : K) → test k ≡ true → list_any test (ks ++ k ∷ []) ≡ true
any_last test [] k is = ap (λ b. b || false) is
any_last test (j ∷ ks) k is = any_either (test j) (list_any test (ks ++ k ∷ [])) (any_last test ks k is)

any_by : (b : Bool) (keys rest : List Key) (key : Key) → list_any (bytes_eq key) keys ≡ b →
    list_any (bytes_eq key) (cond b keys (keys ++ key ∷ []) ++ rest) ≡ true
any_by true keys rest key is = any_here (bytes_eq key) keys rest is
any_by false keys rest key is = any_here (bytes_eq key) (keys ++ key ∷ []) rest (any_last (bytes_eq key) keys key ((bytes_eq-Decides key key).1 refl))

pub any_joined : (keys rest : List Key) (key : Key) → list_any (bytes_eq key) (joined_by keys (Keyed key) ++ rest) ≡ true
any_joined keys rest key = any_by (list_any (bytes_eq key) keys) keys rest key refl
