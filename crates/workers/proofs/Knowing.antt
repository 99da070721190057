-- What a seat comes to know on its way through all words.
use Rattle.std.proofs.Common.{◌≡◌, ℕ, ◌+◌, ◌<◌, ◌≤◌, Bool, true, false, MatchBool, List, [], ◌∷◌, ◌++◌, Contains, inl, inr, ap, sym, ◌∙◌, subst, arith}
use Rattle.std.proofs.lemmas.Bool.{cases_eq}
use Rattle.std.proofs.lemmas.List.Elements.{Contains-append_left, Contains-push}
use Rattle.attr_ids.specs.declared.ids.PosId.{PosId}
use Rattle.word_rule.specs.declared.words.LatticeWords.{LatticeWords}
use Rattle.word_rule.specs.Views.{position}
use Rattle.word_rule.specs.Belongs.{core_of}
use Rattle.workers.specs.declared.worker.Worker.{Worker}
use Rattle.workers.specs.Workers.{HasTaken}
use Rattle.workers.proofs.Seating.{taken_then}

pub knows_more : (known more : List PosId) (n : ℕ) → more ≡ known ++ position n ∷ [] → ((q : ℕ) → q < n → Contains known (position q)) → (q : ℕ) → q < n + 1 →
    Contains more (position q)
knows_more known more n is all q l = subst (λ (list : List PosId). Contains list (position q)) (sym is) (elim (cases_eq q n) [
  | inl here ↦ subst (λ (p : PosId). Contains (known ++ position n ∷ []) p) (ap position (sym here)) (Contains-push known (position n))
  | inr other ↦ Contains-append_left known (position n ∷ []) (position q) (all q (omega arith))
])

-- what one visit more leaves of a way through all words
abbrev pub VisitsMore : LatticeWords → Worker → Worker → ℕ → ℕ → Type 0
VisitsMore words start new turns p = HasTaken words start new × (new.taken ≤ turns) ×
    (new.taken ≡ start.taken → (q : ℕ) → q < p + 1 → Contains (core_of new.seat).known (position q))

-- one visit more: it took the word up, which is one turn more, or the seat knows one position more
pub visits_more : (words : LatticeWords) (start old new : Worker) (turns p : ℕ) (took : Bool) → old.taken < turns → HasTaken words start old →
    HasTaken words old new →
    MatchBool took (new.taken ≡ old.taken + 1) (new.taken ≡ old.taken) →
    MatchBool took (new.taken ≡ old.taken + 1) ((core_of new.seat).known ≡ (core_of old.seat).known ++ position p ∷ []) →
    (old.taken ≡ start.taken → (q : ℕ) → q < p → Contains (core_of old.seat).known (position q)) → VisitsMore words start new turns p
visits_more words start old new turns p true left before more counted known all =
    let rose = before.rises in (
      taken_then words start old new before more,
      omega (arith, counted, left),
      λ same. absurd (omega (arith, rose, counted, same)),
    )
visits_more words start old new turns p false left before more counted known all = (
  taken_then words start old new before more,
  omega (arith, counted, left),
  λ same. knows_more (core_of old.seat).known (core_of new.seat).known p known (all (sym counted ∙ same)),
)
