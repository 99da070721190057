-- An instruction by its first token: which tree it may be, and what is left of it behind the token.
use Rattle.std.proofs.Common.{◌≡◌, ℕ, suc, true, false, List, [], ◌∷◌, Option, None, Some, ◌⊎◌, inl, inr, ⊎_elim, eqb, eq-eqb, ◌&&◌, refl, sym, ap, ◌∙◌, subst}
use Rattle.std.specs.Prelude.{slice_get}
use Rattle.std.proofs.lemmas.Bool.{and_parts, or_cases, true≢false}
use Rattle.std.proofs.lemmas.Option.{none-some}
use denote.Enum.Bare.{same_true}
use Rattle.ir_tree.specs.contracts.terminal.Terminal.{the_type}
use Rattle.ir_tree.specs.declared.terminal.Terminal.{Terminal}
use Rattle.ir_tree.specs.declared.terminal.Terminal.TheVariants as k
use Rattle.ir_tree.specs.declared.types.Ty.{Ty}
use Rattle.ir_tree.specs.declared.constants.Gepflag.{Gepflag}
use Rattle.ir_tree.specs.declared.values.Value.{Value}
use Rattle.ir_tree.specs.declared.values.Tvalue.{Tvalue}
use Rattle.ir_tree.specs.declared.instructions.Arm.{Arm}
use Rattle.ir_tree.specs.declared.instructions.Call.{Call}
use Rattle.ir_tree.specs.declared.instructions.Instr.{Instr}
use Rattle.ir_tree.specs.declared.instructions.Instr.TheVariants as instr_is
use Rattle.ir_tree.specs.Steps.{Step, is, among, seen, sees, stands, when, the, leaf, one_of, many, some, optional, next, listed, Longest}
use Rattle.ir_tree.specs.Types.{ty}
use Rattle.ir_tree.specs.Constants.{iflag, gepflag}
use Rattle.ir_tree.specs.Values.{value, tvalue}
use Rattle.ir_tree.specs.Instructions.{binop, castop, volatile, alignment, arm, clause, call, instr}
use Rattle.ir_tree.proofs.Looks.{token_seen}
use Rattle.ir_tree.proofs.Clear.{pair, split, when_true, moves}
use Rattle.ir_tree.proofs.ClearInstructions.{call_of}
use Rattle.ir_parse_parts.specs.Parts.{any_of}
use Rattle.ir_parse_parts.proofs.Longest.{taken}
use Rattle.ir_parse_body.proofs.Remains.{Remains, rest_some}

-- a tree of the production is there, and ends here
abbrev pub Fits : {T : Type 0} → (T → Step) → ℕ → ℕ → Type 0
Fits {T} p a c = (t : T) × (p t a ≡ Some c)

module _ (toks : List Terminal) where
  -- ---- what is behind the first token
  abbrev pub comma : Unit {0} → Step
  comma x = the toks k.Comma

  abbrev pub two_values : Ty × (Value × (Unit {0} × Value)) → Step
  two_values = pair (ty toks) (pair (value toks) (pair comma (value toks)))

  abbrev pub binop_parts : List ℕ × (Ty × (Value × (Unit {0} × Value))) → Step
  binop_parts = pair (many (iflag toks)) two_values

  abbrev pub icmp_parts : List ℕ × (ℕ × (Ty × (Value × (Unit {0} × Value)))) → Step
  icmp_parts = pair (many (iflag toks)) (pair (leaf toks k.Pred) two_values)

  abbrev pub cast_parts : List ℕ × (Tvalue × (Unit {0} × Ty)) → Step
  cast_parts = pair (many (iflag toks)) (pair (tvalue toks) (pair (λ _. the toks k.To) (ty toks)))

  abbrev pub select_parts : Tvalue × (Unit {0} × (Tvalue × (Unit {0} × Tvalue))) → Step
  select_parts = pair (tvalue toks) (pair comma (pair (tvalue toks) (pair comma (tvalue toks))))

  abbrev pub phi_parts : Ty × List Arm → Step
  phi_parts = pair (ty toks) (listed toks (arm toks))

  abbrev pub alloca_parts : Ty × (Option Tvalue × Option ℕ) → Step
  alloca_parts = pair (ty toks) (pair (optional (next toks (tvalue toks))) (alignment toks))

  abbrev pub load_parts : Option ℕ × (Ty × (Unit {0} × (Tvalue × Option ℕ))) → Step
  load_parts = pair (volatile toks) (pair (ty toks) (pair comma (pair (tvalue toks) (alignment toks))))

  abbrev pub store_parts : Option ℕ × (Tvalue × (Unit {0} × (Tvalue × Option ℕ))) → Step
  store_parts = pair (volatile toks) (pair (tvalue toks) (pair comma (pair (tvalue toks) (alignment toks))))

  abbrev pub gep_parts : List Gepflag × (Ty × List Tvalue) → Step
  gep_parts = pair (many (gepflag toks)) (pair (ty toks) (some (next toks (tvalue toks))))

  -- ---- which tokens begin an instruction
  -- an instruction from a to c whose first token is this one
  abbrev pub Begun : Terminal → ℕ → ℕ → Type 0
  Begun k.ConstBinop = Fits (pair (binop toks) binop_parts)
  Begun k.Binop = Fits (pair (binop toks) binop_parts)
  Begun k.Icmp = Fits (pair (leaf toks k.Icmp) icmp_parts)
  Begun k.ConstCast = Fits (pair (castop toks) cast_parts)
  Begun k.Cast = Fits (pair (castop toks) cast_parts)
  Begun k.Select = Fits (pair (leaf toks k.Select) select_parts)
  Begun k.Freeze = Fits (pair (leaf toks k.Freeze) (tvalue toks))
  Begun k.Phi = Fits (pair (leaf toks k.Phi) phi_parts)
  Begun k.Alloca = Fits (pair (leaf toks k.Alloca) alloca_parts)
  Begun k.Load = Fits (pair (leaf toks k.Load) load_parts)
  Begun k.Store = Fits (pair (leaf toks k.Store) store_parts)
  Begun k.GetElementPtr = Fits (pair (leaf toks k.GetElementPtr) gep_parts)
  Begun k.Tail = Fits (call toks)
  Begun k.Call = Fits (call toks)
  Begun k.LandingPad = λ a c. Unit {0}
  Begun other = λ a c. ⊥

  -- ---- the token that stands at a place
  same_token : (t t' : Terminal) → is t t' ≡ true → t ≡ t'
  same_token t t' e = same_true the_type tt t t' e

  -- where a terminal stands it is the token
  stands_token : (t : Terminal) (a : ℕ) → stands toks t a ≡ true → slice_get toks a ≡ Some t
  stands_token t a e =
      let s = token_seen toks (among (t ∷ [])) a e in
      s.1.0 ∙ ap Some (sym (same_token t s.0 (⊎_elim (λ h. h) (λ h. absurd (true≢false (sym h))) (or_cases (is t s.0) false s.1.1))))

  -- where one of two stands it is one of them
  either_stands : (t t' : Terminal) (a : ℕ) → sees toks (among (t ∷ t' ∷ [])) a ≡ true → (slice_get toks a ≡ Some t) ⊎ (slice_get toks a ≡ Some t')
  either_stands t t' a e =
      let s = token_seen toks (among (t ∷ t' ∷ [])) a e in
      ⊎_elim
      (λ h. inl (s.1.0 ∙ ap Some (sym (same_token t s.0 h))))
      (λ h. ⊎_elim (λ h. inr (s.1.0 ∙ ap Some (sym (same_token t' s.0 h)))) (λ h. absurd (true≢false (sym h))) (or_cases (is t' s.0) false h))
      (or_cases (is t s.0) (among (t' ∷ []) s.0) s.1.1)

  -- a leaf stands at its own place
  leaf_stands : (set : List Terminal) (x a b : ℕ) → one_of toks set x a ≡ Some b → sees toks (among set) a ≡ true
  leaf_stands set x a b e = (and_parts (eqb x a) (sees toks (among set) a) (when_true (eqb x a && sees toks (among set) a) (suc a) b e).0).1

  leaf_here : (set : List Terminal) (a : ℕ) → one_of toks set a a ≡ any_of toks set a
  leaf_here set a = ap (λ x. when (x && sees toks (among set) a) (suc a)) (eq-eqb a a refl)

  -- and ends behind the token
  leaf_ends : (set : List Terminal) (x a b first : ℕ) → one_of toks set x a ≡ Some b → Some first ≡ any_of toks set a → b ≡ first
  leaf_ends set x a b first e h =
      let f = when_true (eqb x a && sees toks (among set) a) (suc a) b e in
      f.1 ∙ sym (when_true (sees toks (among set) a) (suc a) first (sym h)).1

  -- a call begins with its tail word or with `call`
  call_token : (x : Call) (a c : ℕ) → call toks x a ≡ Some c → (slice_get toks a ≡ Some k.Tail) ⊎ (slice_get toks a ≡ Some k.Call)
  call_token x a c e =
      let h = moves toks (call_of toks).first a c (((call_of toks).at a).opens x c e) in
      ⊎_elim
      (λ l. inl (stands_token k.Tail a l.0))
      (λ l. ⊎_elim (λ l. inr (stands_token k.Call a l.0)) (λ l. absurd l) l)
      h.1

  -- what an instruction from a to c begins with
  abbrev Opening : ℕ → ℕ → Type 0
  Opening a c = (t : Terminal) × ((slice_get toks a ≡ Some t) × Begun t a c)

  -- what an instruction begins with, whose first leaf is of one kind
  opening : {T : Type 0} (t : Terminal) (q : T → Step) (x : ℕ × T) (a c : ℕ) → pair (leaf toks t) q x a ≡ Some c →
      (Fits (pair (leaf toks t) q) a c → Begun t a c) → Opening a c
  opening t q x a c e tells =
      let s = split (leaf toks t x.0 a) (q x.1) c e in
      (t, (stands_token t a (leaf_stands (t ∷ []) x.0 a s.0 s.1.0), tells (x, e)))

  -- and one whose first leaf is of two kinds
  opening_either : {T : Type 0} (t t' : Terminal) (q : T → Step) (x : ℕ × T) (a c : ℕ) → pair (one_of toks (t ∷ t' ∷ [])) q x a ≡ Some c →
      (Fits (pair (one_of toks (t ∷ t' ∷ [])) q) a c → Begun t a c × Begun t' a c) → Opening a c
  opening_either t t' q x a c e tells =
      let s = split (one_of toks (t ∷ t' ∷ []) x.0 a) (q x.1) c e in
      let b = tells (x, e) in
      ⊎_elim (λ h. (t, (h, b.0))) (λ h. (t', (h, b.1))) (either_stands t t' a (leaf_stands (t ∷ t' ∷ []) x.0 a s.0 s.1.0))

  -- each production of instructions by its first token: the only place where all of them are gone through
  begun : (u : Instr) (a c : ℕ) → instr toks u a ≡ Some c → Opening a c
  begun (instr_is.Binop op flags kind left right) a c e =
      opening_either k.ConstBinop k.Binop binop_parts (op, (flags, (kind, (left, (tt, right))))) a c e (λ b. (b, b))
  begun (instr_is.Icmp x) a c e = opening k.Icmp icmp_parts (x.op, (x.flags, (x.pred, (x.ty, (x.left, (tt, x.right)))))) a c e (λ b. b)
  begun (instr_is.Cast op flags of to) a c e = opening_either k.ConstCast k.Cast cast_parts (op, (flags, (of, (tt, to)))) a c e (λ b. (b, b))
  begun (instr_is.Select x) a c e = opening k.Select select_parts (x.op, (x.on, (tt, (x.yes, (tt, x.no))))) a c e (λ b. b)
  begun (instr_is.Freeze op of) a c e = opening k.Freeze (tvalue toks) (op, of) a c e (λ b. b)
  begun (instr_is.Phi op kind arms) a c e = opening k.Phi phi_parts (op, (kind, arms)) a c e (λ b. b)
  begun (instr_is.Alloca x) a c e = opening k.Alloca alloca_parts (x.op, (x.ty, (x.count, x.align))) a c e (λ b. b)
  begun (instr_is.Load op hidden kind from align) a c e = opening k.Load load_parts (op, (hidden, (kind, (tt, (from, align))))) a c e (λ b. b)
  begun (instr_is.Store x) a c e = opening k.Store store_parts (x.op, (x.volatile, (x.value, (tt, (x.to, x.align))))) a c e (λ b. b)
  begun (instr_is.GetElementPtr op flags elem operands) a c e = opening k.GetElementPtr gep_parts (op, (flags, (elem, operands))) a c e (λ b. b)
  begun (instr_is.Call x) a c e = ⊎_elim (λ h. (k.Tail, (h, (x, e)))) (λ h. (k.Call, (h, (x, e)))) (call_token x a c e)
  begun (instr_is.Cleanup op kind cleanup clauses) a c e = opening k.LandingPad (pair (ty toks) (pair (leaf toks k.Cleanup) (many (clause toks)))) (
    op,
    (kind, (cleanup, clauses)),
  ) a c e (λ b. tt)
  begun (instr_is.LandingPad op kind clauses) a c e = opening k.LandingPad (pair (ty toks) (some (clause toks))) (op, (kind, clauses)) a c e (λ b. tt)

  -- an instruction where this token stands
  begun_as : (t : Terminal) (u : Instr) (a c : ℕ) → slice_get toks a ≡ Some t → instr toks u a ≡ Some c → Begun t a c
  begun_as t u a c h e =
      let b = begun u a c e in
      let same : b.0 ≡ t = cc in
      subst (λ t. Begun t a c) same b.1.1

  -- ---- the rest of an instruction behind its first token
  module _ {U : Type 0} {q : U → Step} (make : ℕ × U → Instr) (a first : ℕ) where
    -- where a leaf of these terminals stands and only instructions with this rest begin so
    behind_leaf : (set : List Terminal) → Some first ≡ any_of toks set a → ((x : ℕ × U) (c : ℕ) → pair (one_of toks set) q x a ≡ Some c →
        instr toks (make x) a ≡ Some c) → ((u : Instr) (c : ℕ) → instr toks u a ≡ Some c → Fits (pair (one_of toks set) q) a c) →
        Remains (instr toks) a q first (λ u. make (a, u))
    behind_leaf set h fits only = record {
      fits = λ u c e. fits (a, u) c (taken (one_of toks set a a) first (q u) (Some c) (leaf_here set a ∙ sym h) e);
      only = λ u c e.
          let b = only u c e in
          let s = split (one_of toks set b.0.0 a) (q b.0.1) c b.1 in
          (b.0.1, subst (λ z. q b.0.1 z ≡ Some c) (leaf_ends set b.0.0 a s.0 first s.1.0 h) s.1.1);
    }

    behind_token : (t : Terminal) → Some first ≡ the toks t a → ((x : ℕ × U) (c : ℕ) → pair (leaf toks t) q x a ≡ Some c → instr toks (make x) a ≡ Some c) →
        ((c : ℕ) → Begun t a c → Fits (pair (leaf toks t) q) a c) → Remains (instr toks) a q first (λ u. make (a, u))
    behind_token t h fits only = behind_leaf (t ∷ []) h fits
        (λ u c e. only c (begun_as t u a c (stands_token t a (when_true (stands toks t a) (suc a) first (sym h)).0) e))

    behind_either : (t t' : Terminal) → Some first ≡ any_of toks (t ∷ t' ∷ []) a → ((x : ℕ × U) (c : ℕ) → pair (one_of toks (t ∷ t' ∷ [])) q x a ≡ Some c →
        instr toks (make x) a ≡ Some c) → ((c : ℕ) → Begun t a c → Fits (pair (one_of toks (t ∷ t' ∷ [])) q) a c) →
        ((c : ℕ) → Begun t' a c → Fits (pair (one_of toks (t ∷ t' ∷ [])) q) a c) → Remains (instr toks) a q first (λ u. make (a, u))
    behind_either t t' h fits only only' =
        behind_leaf (t ∷ t' ∷ []) h fits (λ u c e. ⊎_elim (λ h. only c (begun_as t u a c h e)) (λ h. only' c (begun_as t' u a c h e))
        (either_stands t t' a (when_true (sees toks (among (t ∷ t' ∷ [])) a) (suc a) first (sym h)).0))

  module _ (a first : ℕ) where
    pub binop_rest : Some first ≡ any_of toks (k.ConstBinop ∷ k.Binop ∷ []) a →
        Remains (instr toks) a binop_parts first (λ x. instr_is.Binop a x.0 x.1.0 x.1.1.0 x.1.1.1.1)
    binop_rest h = behind_either (λ x. instr_is.Binop x.0 x.1.0 x.1.1.0 x.1.1.1.0 x.1.1.1.1.1) a first k.ConstBinop k.Binop h (λ x c e. e) (λ c b. b) (λ c b. b)

    pub icmp_rest : Some first ≡ the toks k.Icmp a →
        Remains (instr toks) a icmp_parts first (λ x. instr_is.Icmp (record {
          op = a;
          flags = x.0;
          pred = x.1.0;
          ty = x.1.1.0;
          left = x.1.1.1.0;
          right =
              x.1.1.1.1.1;
        }))
    icmp_rest h = behind_token (λ x. instr_is.Icmp (record {
      op = x.0;
      flags = x.1.0;
      pred = x.1.1.0;
      ty = x.1.1.1.0;
      left = x.1.1.1.1.0;
      right =
          x.1.1.1.1.1.1;
    })) a first k.Icmp h (λ x c e. e) (λ c b. b)

    pub cast_rest : Some first ≡ any_of toks (k.ConstCast ∷ k.Cast ∷ []) a → Remains (instr toks) a cast_parts first (λ x. instr_is.Cast a x.0 x.1.0 x.1.1.1)
    cast_rest h = behind_either (λ x. instr_is.Cast x.0 x.1.0 x.1.1.0 x.1.1.1.1) a first k.ConstCast k.Cast h (λ x c e. e) (λ c b. b) (λ c b. b)

    pub select_rest : Some first ≡ the toks k.Select a →
        Remains (instr toks) a select_parts first (λ x. instr_is.Select (record { op = a; on = x.0; yes = x.1.1.0; no = x.1.1.1.1 }))
    select_rest h = behind_token (λ x. instr_is.Select (record {
      op = x.0;
      on = x.1.0;
      yes = x.1.1.1.0;
      no =
          x.1.1.1.1.1;
    })) a first k.Select h (λ x c e. e) (λ c b. b)

    pub freeze_rest : Some first ≡ the toks k.Freeze a → Remains (instr toks) a (tvalue toks) first (λ of. instr_is.Freeze a of)
    freeze_rest h = behind_token (λ x. instr_is.Freeze x.0 x.1) a first k.Freeze h (λ x c e. e) (λ c b. b)

    pub phi_rest : Some first ≡ the toks k.Phi a → Remains (instr toks) a phi_parts first (λ x. instr_is.Phi a x.0 x.1)
    phi_rest h = behind_token (λ x. instr_is.Phi x.0 x.1.0 x.1.1) a first k.Phi h (λ x c e. e) (λ c b. b)

    pub alloca_rest : Some first ≡ the toks k.Alloca a →
        Remains (instr toks) a alloca_parts first (λ x. instr_is.Alloca (record { op = a; ty = x.0; count = x.1.0; align = x.1.1 }))
    alloca_rest h = behind_token (λ x. instr_is.Alloca (record {
      op = x.0;
      ty = x.1.0;
      count = x.1.1.0;
      align =
          x.1.1.1;
    })) a first k.Alloca h (λ x c e. e) (λ c b. b)

    pub load_rest : Some first ≡ the toks k.Load a → Remains (instr toks) a load_parts first (λ x. instr_is.Load a x.0 x.1.0 x.1.1.1.0 x.1.1.1.1)
    load_rest h = behind_token (λ x. instr_is.Load x.0 x.1.0 x.1.1.0 x.1.1.1.1.0 x.1.1.1.1.1) a first k.Load h (λ x c e. e) (λ c b. b)

    pub store_rest : Some first ≡ the toks k.Store a →
        Remains (instr toks) a store_parts first (λ x. instr_is.Store (record { op = a; volatile = x.0; value = x.1.0; to = x.1.1.1.0; align = x.1.1.1.1 }))
    store_rest h = behind_token (λ x. instr_is.Store (record {
      op = x.0;
      volatile = x.1.0;
      value = x.1.1.0;
      to = x.1.1.1.1.0;
      align =
          x.1.1.1.1.1;
    })) a first k.Store h (λ x c e. e) (λ c b. b)

    pub gep_rest : Some first ≡ the toks k.GetElementPtr a → Remains (instr toks) a gep_parts first (λ x. instr_is.GetElementPtr a x.0 x.1.0 x.1.1)
    gep_rest h = behind_token (λ x. instr_is.GetElementPtr x.0 x.1.0 x.1.1.0 x.1.1.1) a first k.GetElementPtr h (λ x c e. e) (λ c b. b)

  -- ---- a call, where no other instruction begins
  -- what is seen of a token is what the test says of it
  sees_at : (set : List Terminal) (t : Terminal) (a : ℕ) → slice_get toks a ≡ Some t → sees toks (among set) a ≡ among set t
  unfolding sees
  sees_at set t a h = ap (λ o. seen (among set) o) h

  -- a token that is none of these is not one of them
  absent : (set : List Terminal) (t : Terminal) (a : ℕ) → None ≡ any_of toks set a → among set t ≡ true → slice_get toks a ≡ Some t → ⊥
  absent set t a n one' h = none-some (suc a) (n ∙ ap (λ x. when x (suc a)) (sees_at set t a h ∙ one'))

  module _ (a : ℕ)
      (no_binop : None ≡ any_of toks (k.ConstBinop ∷ k.Binop ∷ []) a) (no_icmp : None ≡ the toks k.Icmp a)
      (no_cast : None ≡ any_of toks (k.ConstCast ∷ k.Cast ∷ []) a) (no_select : None ≡ the toks k.Select a)
      (no_freeze : None ≡ the toks k.Freeze a) (no_phi : None ≡ the toks k.Phi a)
      (no_alloca : None ≡ the toks k.Alloca a) (no_load : None ≡ the toks k.Load a)
      (no_store : None ≡ the toks k.Store a) (no_gep : None ≡ the toks k.GetElementPtr a)
      (no_landing : None ≡ the toks k.LandingPad a) where
    -- of what may begin an instruction, a call is left
    only_call : (c : ℕ) (t : Terminal) → slice_get toks a ≡ Some t → Begun t a c → Fits (call toks) a c
    only_call c k.ConstBinop h b = absurd (absent (k.ConstBinop ∷ k.Binop ∷ []) k.ConstBinop a no_binop refl h)
    only_call c k.Binop h b = absurd (absent (k.ConstBinop ∷ k.Binop ∷ []) k.Binop a no_binop refl h)
    only_call c k.Icmp h b = absurd (absent (k.Icmp ∷ []) k.Icmp a no_icmp refl h)
    only_call c k.ConstCast h b = absurd (absent (k.ConstCast ∷ k.Cast ∷ []) k.ConstCast a no_cast refl h)
    only_call c k.Cast h b = absurd (absent (k.ConstCast ∷ k.Cast ∷ []) k.Cast a no_cast refl h)
    only_call c k.Select h b = absurd (absent (k.Select ∷ []) k.Select a no_select refl h)
    only_call c k.Freeze h b = absurd (absent (k.Freeze ∷ []) k.Freeze a no_freeze refl h)
    only_call c k.Phi h b = absurd (absent (k.Phi ∷ []) k.Phi a no_phi refl h)
    only_call c k.Alloca h b = absurd (absent (k.Alloca ∷ []) k.Alloca a no_alloca refl h)
    only_call c k.Load h b = absurd (absent (k.Load ∷ []) k.Load a no_load refl h)
    only_call c k.Store h b = absurd (absent (k.Store ∷ []) k.Store a no_store refl h)
    only_call c k.GetElementPtr h b = absurd (absent (k.GetElementPtr ∷ []) k.GetElementPtr a no_gep refl h)
    only_call c k.LandingPad h b = absurd (absent (k.LandingPad ∷ []) k.LandingPad a no_landing refl h)
    only_call c k.Tail h b = b
    only_call c k.Call h b = b
    only_call c other h b = absurd b

    call_rest : Remains (instr toks) a (call toks) a (λ x. instr_is.Call x)
    call_rest = record { fits = λ x c e. e; only = λ u c e. let b = begun u a c e in only_call c b.0 b.1.0 b.1.1 }

    pub instr_call : (x : Call) (end : ℕ) → Longest (call toks) a (Some (x, end)) → Longest (instr toks) a (Some (instr_is.Call x, end))
    instr_call x end l = rest_some call_rest l
