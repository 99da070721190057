-- The longest landing pad from the longest of its parts.
use Rattle.std.proofs.Common.{◌≡◌, ℕ, suc, ◌<◌, ◌≤◌, true, false, List, [], ◌∷◌, length, None, Some, ◌⊎◌, inl, inr, refl, sym, ap, ◌∙◌, subst, arith}
use Rattle.std.proofs.lemmas.Option.{same_Some}
use Rattle.ir_tree.specs.declared.terminal.Terminal.{Terminal}
use Rattle.ir_tree.specs.declared.terminal.Terminal.TheVariants as k
use Rattle.ir_tree.specs.declared.types.Ty.{Ty}
use Rattle.ir_tree.specs.declared.constants.Tconst.{Tconst}
use Rattle.ir_tree.specs.declared.instructions.Clause.{Clause}
use Rattle.ir_tree.specs.declared.instructions.Instr.{Instr}
use Rattle.ir_tree.specs.declared.instructions.Instr.TheVariants as instr_is
use Rattle.ir_tree.specs.Steps.{Step, and_then, the, leaf, one_of, stands, many, some, Longest}
use Rattle.ir_tree.specs.Types.{ty}
use Rattle.ir_tree.specs.Constants.{tconst}
use Rattle.ir_tree.specs.Instructions.{clause, instr}
use Rattle.ir_tree.proofs.Looks.{apart, At, at_clash}
use Rattle.ir_tree.proofs.Looks.Test.{In}
use Rattle.ir_tree.proofs.Clear.{pair, choice, split, moves, when_true, token_reads}
use Rattle.ir_tree.proofs.Known.{Known, firsts, leaf_of, pair_of, choice_of, many_of, some_of}
use Rattle.ir_tree.proofs.ClearTypes.{ty_of}
use Rattle.ir_tree.proofs.ClearConstants.{tconst_of}
use Rattle.ir_tree.proofs.ClearInstructions.{clause_of, call_of}
use Rattle.ir_parse_parts.proofs.Longest.{leaf_some, leaf_none, the_of_leaf, pair_some, pair_none, pair_stop, shape_some, shape_none, none_by, choice_none}
use Rattle.ir_parse_parts.proofs.Longest.{not_begun}
use Rattle.ir_parse_parts.proofs.LongestTypes.{the_moves}

-- ---- one of two
module _ {T U : Type 0} (p : T → Step) (q : U → Step) (a b : ℕ) where
  choice_left : (t : T) → Longest p a (Some (t, b)) → Longest q a None → Longest (choice p q) a (Some (inl t, b))
  choice_left t l n = (l.0, go)
    where
      go : (x : T ⊎ U) (c : ℕ) → choice p q x a ≡ Some c → c ≤ b
      go (inl u) c e = l.1 u c e
      go (inr u) c e = absurd (n u c e)

  choice_right : (u : U) → Longest p a None → Longest q a (Some (u, b)) → Longest (choice p q) a (Some (inr u, b))
  choice_right u n l = (l.0, go)
    where
      go : (x : T ⊎ U) (c : ℕ) → choice p q x a ≡ Some c → c ≤ b
      go (inl t) c e = absurd (n t c e)
      go (inr t) c e = l.1 t c e

module _ (toks : List Terminal) where
  -- ---- `clause`
  abbrev clause_back : ℕ × Tconst → Clause
  clause_back x = record { word = x.0; value = x.1 }

  pub clause_view : (t : Clause) (a b : ℕ) → clause toks t a ≡ Some b → (x : ℕ × Tconst) ×
      ((clause_back x ≡ t) × (pair (leaf toks k.ClauseWord) (tconst toks) x a ≡ Some b))
  clause_view t a b e = ((t.word, t.value), (refl, e))

  module _ (a first : ℕ) (h : Some first ≡ the toks k.ClauseWord a) where
    pub clause_no_value : Longest (tconst toks) first None → Longest (clause toks) a None
    clause_no_value n = shape_none (clause toks) clause_back clause_view (λ x a b e. e) (pair_none (leaf_of k.ClauseWord) (tconst_of toks) refl a first a
        (leaf_some toks k.ClauseWord a first h) n)

    pub clause_ends : (v : Tconst) (end : ℕ) → Longest (tconst toks) first (Some (v, end)) → Longest (clause toks) a (Some (clause_back (a, v), end))
    clause_ends v end n = shape_some (clause toks) clause_back clause_view (λ x a b e. e) {x =
        (a, v)} (pair_some (leaf_of k.ClauseWord) (tconst_of toks) refl a first end a v (leaf_some toks k.ClauseWord a first h) n)

  pub clause_moves : (a n : ℕ) (t : Clause) → clause toks t a ≡ Some n → (a < n) × (a < length toks)
  clause_moves a n t e =
      let s = split (leaf toks k.ClauseWord t.word a) (tconst toks t.value) n e in
      let m = the_moves toks k.ClauseWord a s.0 (the_of_leaf toks k.ClauseWord a t.word s.0 s.1.0) in
      ((moves toks (clause_of toks).first a n (((clause_of toks).at a).opens t n e)).0, omega (arith, m.0, m.1))

  abbrev clauses_of : Known toks true (many (clause toks))
  clauses_of = many_of (clause_of toks) refl

  -- ---- `clause+`, from any number of clauses
  no_clause : (a : ℕ) → Longest (many (clause toks)) a (Some ([], a)) → Longest (some (clause toks)) a None
  no_clause a l = go
    where
      go : (us : List Clause) (c : ℕ) → some (clause toks) us a ≡ Some c → ⊥
      go [] c e = cc
      go (u ∷ us) c e =
          let s = split (clause toks u a) (many (clause toks) us) c e in
          let m = clause_moves a s.0 u s.1.0 in
          let short : s.0 ≤ a = l.1 (u ∷ []) s.0 (ap (λ o. and_then o Some) s.1.0) in
          omega (arith, m.0, short)

  pub some_empty : (a b : ℕ) (ts : List Clause) → ts ≡ [] → Longest (many (clause toks)) a (Some (ts, b)) → Longest (some (clause toks)) a None
  some_empty a b ts is l = no_clause a (subst (λ x. Longest (many (clause toks)) a (Some x)) (λ i. (is i, place i)) l)
    where
      place : b ≡ a
      place = sym (same_Some a b (ap (λ us. many (clause toks) us a) (sym is) ∙ l.0))

  pub some_full : (a b : ℕ) (ts : List Clause) → (ts ≡ [] → ⊥) → Longest (many (clause toks)) a (Some (ts, b)) → Longest (some (clause toks)) a (Some (ts, b))
  some_full a b [] full l = absurd (full refl)
  some_full a b (t ∷ ts) full l = (l.0, go)
    where
      go : (us : List Clause) (c : ℕ) → some (clause toks) us a ≡ Some c → c ≤ b
      go [] c e = cc
      go (u ∷ us) c e = l.1 (u ∷ us) c e

  -- ---- `landingpad`
  abbrev Endings : Type 0
  Endings = (ℕ × List Clause) ⊎ List Clause

  abbrev cleaning : ℕ × List Clause → Step
  cleaning = pair (leaf toks k.Cleanup) (many (clause toks))

  abbrev endings : Endings → Step
  endings = choice cleaning (some (clause toks))

  abbrev endings_of : Known toks false endings
  endings_of = choice_of (pair_of (leaf_of k.Cleanup) clauses_of refl) (some_of (clause_of toks) refl) refl

  abbrev typed_of : Known toks false (pair (ty toks) endings)
  typed_of = pair_of (ty_of toks) endings_of refl

  abbrev landing : ℕ × (Ty × Endings) → Step
  landing = pair (leaf toks k.LandingPad) (pair (ty toks) endings)

  abbrev landing_back : ℕ × (Ty × Endings) → Instr
  landing_back (op, (kind, inl x)) = instr_is.Cleanup op kind x.0 x.1
  landing_back (op, (kind, inr clauses)) = instr_is.LandingPad op kind clauses

  landing_fits : (x : ℕ × (Ty × Endings)) (a : ℕ) → instr toks (landing_back x) a ≡ landing x a
  landing_fits (op, (kind, inl x)) a = refl
  landing_fits (op, (kind, inr clauses)) a = refl

  here : (t : Terminal) (a b : ℕ) → Some b ≡ the toks t a → At toks (firsts (t ∷ [])) a
  here t a b h = inl ((when_true (stands toks t a) (suc a) b (sym h)).0, tt)

  module _ (a first : ℕ) (h : Some first ≡ the toks k.LandingPad a) where
    -- no instruction that begins with one of other terminals is here
    other : (set : List Terminal) → apart ((In set ∷ []) ∷ []) (firsts (k.LandingPad ∷ [])) ≡ true → (op b : ℕ) (rest : Step) →
        and_then (one_of toks set op a) rest ≡ Some b → ⊥
    other set told op b rest e =
        let s = split (one_of toks set op a) rest b e in
        at_clash toks ((In set ∷ []) ∷ []) (firsts (k.LandingPad ∷ [])) a told
        (moves toks ((In set ∷ []) ∷ []) a s.0 ((token_reads toks (In set) a).opens op s.0 s.1.0)).1 (here k.LandingPad a first h)

    -- from its word, an instruction is a landing pad
    begun : (t : Instr) (b : ℕ) → instr toks t a ≡ Some b → (x : ℕ × (Ty × Endings)) × ((landing_back x ≡ t) × (landing x a ≡ Some b))
    begun (instr_is.Binop op flags kind left right) b e = absurd (other (k.ConstBinop ∷ k.Binop ∷ []) refl op b _ e)
    begun (instr_is.Icmp x) b e = absurd (other (k.Icmp ∷ []) refl x.op b _ e)
    begun (instr_is.Cast op flags of to) b e = absurd (other (k.ConstCast ∷ k.Cast ∷ []) refl op b _ e)
    begun (instr_is.Select x) b e = absurd (other (k.Select ∷ []) refl x.op b _ e)
    begun (instr_is.Freeze op of) b e = absurd (other (k.Freeze ∷ []) refl op b _ e)
    begun (instr_is.Phi op kind arms) b e = absurd (other (k.Phi ∷ []) refl op b _ e)
    begun (instr_is.Alloca x) b e = absurd (other (k.Alloca ∷ []) refl x.op b _ e)
    begun (instr_is.Load op hidden kind from align) b e = absurd (other (k.Load ∷ []) refl op b _ e)
    begun (instr_is.Store x) b e = absurd (other (k.Store ∷ []) refl x.op b _ e)
    begun (instr_is.GetElementPtr op flags elem operands) b e = absurd (other (k.GetElementPtr ∷ []) refl op b _ e)
    begun (instr_is.Call x) b e = absurd (not_begun ((call_of toks).at a) (firsts (k.LandingPad ∷ [])) refl (here k.LandingPad a first h) x b e)
    begun (instr_is.Cleanup op kind cleanup clauses) b e = ((op, (kind, inl (cleanup, clauses))), (refl, e))
    begun (instr_is.LandingPad op kind clauses) b e = ((op, (kind, inr clauses)), (refl, e))

    landing_none : Longest landing a None → Longest (instr toks) a None
    landing_none l = none_by (instr toks) landing a landing_back begun l

    landing_some : (x : ℕ × (Ty × Endings)) (b : ℕ) → Longest landing a (Some (x, b)) → Longest (instr toks) a (Some (landing_back x, b))
    landing_some x b l = (landing_fits x a ∙ l.0, λ t c e. let v = begun t c e in l.1 v.0 c v.1.1)

    pub landing_no_type : Longest (ty toks) first None → Longest (instr toks) a None
    landing_no_type n = landing_none (pair_none (leaf_of k.LandingPad) typed_of refl a first a (leaf_some toks k.LandingPad a first h)
        (pair_stop (ty_of toks) endings_of first n))

    module _ (kind : Ty) (end : ℕ) (l : Longest (ty toks) first (Some (kind, end))) where
      ended : (x : Endings) (b : ℕ) → Longest endings end (Some (x, b)) → Longest (instr toks) a (Some (landing_back (a, (kind, x)), b))
      ended x b n = landing_some (a, (kind, x)) b (pair_some (leaf_of k.LandingPad) typed_of refl a first b a (
        kind,
        x,
      ) (leaf_some toks k.LandingPad a first h) (pair_some (ty_of toks) endings_of refl first end b kind x l n))

      pub landing_cleans : (behind b : ℕ) (ts : List Clause) → Some behind ≡ the toks k.Cleanup end → Longest (many (clause toks)) behind (Some (ts, b)) →
          Longest (instr toks) a (Some (instr_is.Cleanup a kind end ts, b))
      landing_cleans behind b ts h' n =
          ended (inl (end, ts)) b
          (choice_left cleaning (some (clause toks)) end b (end, ts)
          (pair_some (leaf_of k.Cleanup) clauses_of refl end behind b end ts (leaf_some toks k.Cleanup end behind h') n)
          (not_begun ((some_of (clause_of toks) refl).at end) (firsts (k.Cleanup ∷ [])) refl (here k.Cleanup end behind h')))

      module _ (b : ℕ) (ts : List Clause) (h' : None ≡ the toks k.Cleanup end) (l' : Longest (many (clause toks)) end (Some (ts, b))) where
        no_cleanup : Longest cleaning end None
        no_cleanup = pair_stop (leaf_of k.Cleanup) clauses_of end (leaf_none toks k.Cleanup end h')

        pub landing_no_clause : ts ≡ [] → Longest (instr toks) a None
        landing_no_clause is =
            landing_none
            (pair_none (leaf_of k.LandingPad) typed_of refl a first a (leaf_some toks k.LandingPad a first h)
            (pair_none (ty_of toks) endings_of refl first end kind l (choice_none cleaning (some (clause toks)) end no_cleanup (some_empty end b ts is l'))))

        pub landing_catches : (ts ≡ [] → ⊥) → Longest (instr toks) a (Some (instr_is.LandingPad a kind ts, b))
        landing_catches full = ended (inr ts) b (choice_right cleaning (some (clause toks)) end b ts no_cleanup (some_full end b ts full l'))
