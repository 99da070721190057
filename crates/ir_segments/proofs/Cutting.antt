-- Runs, as more things come.
use Rattle.std.proofs.Common.{◌≡◌, ℕ, zero, suc, ◌<◌, Bool, true, false, cond, List, [], ◌∷◌, ◌++◌, length, get_or, map, refl, sym, ap, ◌∙◌, arith}
use Rattle.std.proofs.Common.{All, append_assoc}
use Rattle.std.proofs.lemmas.List.{append-nil, map-append}
use Rattle.std.specs.List.{flat_map}
use Rattle.ir_segments.specs.Segments.{in_front, cut, IsRun, IsEnded, AreRuns}

module _ {X : Type 0} (last : X → Bool) where
  -- what ends a run is a run of its own before what follows
  alone : (x : X) (runs : List (List X)) → last x ≡ true → in_front last x runs ≡ (x ∷ []) ∷ runs
  alone x [] is = refl
  alone x (run ∷ runs) is = ap (λ b. cond b ((x ∷ []) ∷ run ∷ runs) ((x ∷ run) ∷ runs)) is

  joined : (x : X) (run : List X) (runs : List (List X)) → last x ≡ false → in_front last x (run ∷ runs) ≡ (x ∷ run) ∷ runs
  joined x run runs is = ap (λ b. cond b ((x ∷ []) ∷ run ∷ runs) ((x ∷ run) ∷ runs)) is

  behind_first : (x : X) (xs : List X) → All (λ y. last y ≡ false) (x ∷ xs) → All (λ y. last y ≡ false) xs
  behind_first x xs all k d l = all (suc k) d (omega arith)

  -- things of which the last ends a run are the first run
  pub cut_ended : (xs : List X) (x : X) (rest : List X) → All (λ y. last y ≡ false) xs → last x ≡ true → cut last ((xs ++ x ∷ []) ++ rest) ≡ (xs ++ x ∷ [])
      ∷ cut last rest
  cut_ended [] x rest all is = alone x (cut last rest) is
  cut_ended (y ∷ xs) x rest all is =
      ap (in_front last y) (cut_ended xs x rest (behind_first y xs all) is) ∙ joined y (xs ++ x ∷ []) (cut last rest) (all 0 y (omega arith))

  -- things of which none ends a run are one
  pub cut_plain : (x : X) (xs : List X) → All (λ y. last y ≡ false) (x ∷ xs) → cut last (x ∷ xs) ≡ (x ∷ xs) ∷ []
  cut_plain x [] all = refl
  cut_plain x (y ∷ xs) all = ap (in_front last x) (cut_plain y xs (behind_first x (y ∷ xs) all)) ∙ joined x (y ∷ xs) [] (all 0 x (omega arith))

  choose : (b : Bool) (x : X) (run : List X) (runs : List (List X)) → last x ≡ b → AreRuns last (run ∷ runs) → AreRuns last
      (cond b ((x ∷ []) ∷ run ∷ runs) ((x ∷ run) ∷ runs))
  choose true x run runs is h = (tt, is, h)
  choose false x [] [] is h = absurd h
  choose false x (y ∷ run) [] is h = (is, h)
  choose false x [] (next ∷ runs) is h = absurd h.0
  choose false x (y ∷ run) (next ∷ runs) is h = ((is, h.0), h.1, h.2)

  front_runs : (x : X) (runs : List (List X)) → AreRuns last runs → AreRuns last (in_front last x runs)
  front_runs x [] h = tt
  front_runs x (run ∷ runs) h = choose (last x) x run runs refl h

  -- what is cut are runs: none is empty, what ends one stands last in it, and each but the last is ended
  pub cut_runs : (xs : List X) → AreRuns last (cut last xs)
  cut_runs [] = tt
  cut_runs (x ∷ xs) = front_runs x (cut last xs) (cut_runs xs)

  all_there : (b : Bool) (x : X) (run : List X) (runs : List (List X)) → flat_map (λ r. r) (cond b ((x ∷ []) ∷ run ∷ runs) ((x ∷ run) ∷ runs)) ≡ x ∷
      flat_map (λ r. r) (run ∷ runs)
  all_there true x run runs = refl
  all_there false x run runs = refl

  front_all : (x : X) (runs : List (List X)) → flat_map (λ r. r) (in_front last x runs) ≡ x ∷ flat_map (λ r. r) runs
  front_all x [] = refl
  front_all x (run ∷ runs) = all_there (last x) x run runs

  -- the runs one behind another are what was cut
  pub cut_all : (xs : List X) → flat_map (λ r. r) (cut last xs) ≡ xs
  cut_all [] = refl
  cut_all (x ∷ xs) = front_all x (cut last xs) ∙ ap (λ ys. x ∷ ys) (cut_all xs)
