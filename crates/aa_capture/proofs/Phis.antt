-- What is met in for one arm of a phi.
use Rattle.std.proofs.Common.{◌≡◌, ◌==◌, ◌||◌, ◌⊎◌, not, ℕ, zero, suc, Bool, true, false, slice_get, Option, None}
use Rattle.std.proofs.Common.{Some, eq-eqb, eqb-true, refl, sym, ap, subst, ◌∙◌, inl, inr}
use Rattle.std.specs.List.{list_any}
use Rattle.std.specs.Option.{option_map}
use Rattle.std.proofs.lemmas.Bool.{both_ways, and_parts, and_from, or_right}
use Rattle.std.proofs.lemmas.Option.{slice_get-map}
use Rattle.lattice_words.specs.declared.value.TheConstants.{ALL_USES}
use Rattle.ir_module.specs.declared.op.Written.{Written}
use Rattle.ir_module.specs.declared.op.Case.{Case}
use Rattle.ir_module.specs.declared.op.Op.{Op}
use Rattle.ir_module.specs.declared.op.Op.TheVariants as op
use Rattle.ir_module.specs.declared.op.Instr.{Instr}
use Rattle.ir_module.specs.declared.edge.Way.{Way}
use Rattle.ir_module.specs.declared.edge.Way.TheVariants as way
use Rattle.ir_module.specs.declared.edge.Edge.{Edge}
use Rattle.ir_module.specs.declared.module.Module.{Module}
use Rattle.ir_module.specs.Edges.{edges, case_edge}
use Rattle.facts.specs.declared.pos.Pos.{Pos}
use Rattle.facts.specs.Kinds.{UseFact, NotReturned, use_bit}
use Rattle.facts.specs.Facts.{Fact, dead}
use Rattle.facts.specs.DeadEdges.{takes_other, is_unused, is_never, WaySpeaks}
use Rattle.facts.specs.Uses.{ResultUsed, ResultUseSpeaks}
use Rattle.rule_terms.specs.declared.term.NewTerm.{NewTerm}
use Rattle.rule_terms.specs.declared.term.NewTerm.TheOpen.{NewTerm-F as new}
use Rattle.rule_terms.specs.declared.term.NewTerm.TheViews.{roll-NewTerm}
use Rattle.rule_terms.specs.System.{System}
use Rattle.positions.specs.Numbering.{Numbered}
use Rattle.rule_says.specs.Reading.{IsNumbering}
use Rattle.rule_says.specs.Saying.{IsSet, Says}
use Rattle.rule_says.specs.Meeting.{Meets}
use Rattle.rule_says.proofs.Terms.{says_bits, says_or}
use Rattle.rule_says.proofs.Mets.{meets_none, meets_iff}
use Rattle.aa_capture.specs.Asked.{AsksEach, SpeaksEach}
use Rattle.aa_capture.specs.Arms.{is_invoke, is_to, is_open_to, AsksUnused, IsOver, AsksEdge, SpeaksEdge, AsksEdges, SpeaksEdges}
use Rattle.aa_capture.proofs.Words.{kind_set, one_kind, each_by, each_iff}
use Rattle.aa_capture.proofs.Used.{AsksOf, SpeaksOf}
use Rattle.aa_capture.proofs.Found.{any_at, any_there}

crash : {A : Type 0} → false ≡ true → A
crash e = absurd (cc)

clash : {A : Type 0} → true ≡ false → A
clash e = absurd (cc)

or_false : (a b : Bool) → a ≡ false → b ≡ false → (a || b) ≡ false
or_false false false e f = refl
or_false true b e f = clash e
or_false false true e f = clash f

first_false : (a b : Bool) → (a || b) ≡ false → a ≡ false
first_false false b e = refl
first_false true b e = clash e

-- ---- ways

-- no literal keeps an edge of an `invoke` from being taken
invoke_takes : (m : Module) (o : Op) (w : Way) → is_invoke o ≡ true → takes_other m o w ≡ false
invoke_takes m (op.Invoke call normal unwind) way.Jump e = refl
invoke_takes m (op.Invoke call normal unwind) way.Yes e = refl
invoke_takes m (op.Invoke call normal unwind) way.No e = refl
invoke_takes m (op.Invoke call normal unwind) way.Other e = refl
invoke_takes m (op.Invoke call normal unwind) (way.Case c) e = refl
invoke_takes m (op.Invoke call normal unwind) way.Normal e = refl
invoke_takes m (op.Invoke call normal unwind) way.Unwind e = refl
invoke_takes m _ w e = crash e

-- the edge is not one of an `invoke`
IsPlain : Way → Type 0
IsPlain way.Normal = ⊥
IsPlain way.Unwind = ⊥
IsPlain _ = Unit {0}

plain_way : (o : Op) (n : ℕ) (e : Edge) → is_invoke o ≡ false → slice_get (edges o) n ≡ Some e → IsPlain e.way
unfolding IsPlain
plain_way (op.Invoke call normal unwind) n e f at = clash f
plain_way (op.Jump to) zero e f at = subst (λ (x : Edge). IsPlain x.way) (let same : record { way = way.Jump; to = to } ≡ e = cc in same) tt
plain_way (op.Jump to) (suc n) e f at = absurd (cc)
plain_way (op.Branch c so otherwise) zero e f at = subst (λ (x : Edge). IsPlain x.way) (let same : record { way = way.Yes; to = so } ≡ e = cc in same) tt
plain_way (op.Branch c so otherwise) (suc zero) e f at = subst (λ (x : Edge). IsPlain x.way) (let same : record { way = way.No; to = otherwise } ≡ e = cc in
    same) tt
plain_way (op.Branch c so otherwise) (suc (suc n)) e f at = absurd (cc)
plain_way (op.Switch on other cases) zero e f at = subst (λ (x : Edge). IsPlain x.way) (let same : record { way = way.Other; to = other } ≡ e = cc in same) tt
plain_way (op.Switch on other cases) (suc n) e f at = by (slice_get cases n) (sym (slice_get-map case_edge cases n) ∙ at)
  where
    by : (c : Option Case) → option_map case_edge c ≡ Some e → IsPlain e.way
    by None h = absurd (cc)
    by (Some c) h = subst (λ (x : Edge). IsPlain x.way) (let same : case_edge c ≡ e = cc in same) tt
plain_way _ n e f at = absurd (cc)

plain_used : (m : Module) (held : Fact → Bool) (o : Op) (w : Way) → IsPlain w → is_unused m held o w ≡ false
unfolding IsPlain
plain_used m held o way.Jump p = refl
plain_used m held o way.Yes p = refl
plain_used m held o way.No p = refl
plain_used m held o way.Other p = refl
plain_used m held o (way.Case c) p = refl
plain_used m held o way.Normal p = absurd p
plain_used m held o way.Unwind p = absurd p

plain_silent : (m : Module) (w : Way) (t : Instr) (y : Fact) → IsPlain w → WaySpeaks m w (Some t) y → ⊥
unfolding IsPlain
plain_silent m way.Jump t y p h = h
plain_silent m way.Yes t y p h = h
plain_silent m way.No t y p h = h
plain_silent m way.Other t y p h = h
plain_silent m (way.Case c) t y p h = h
plain_silent m way.Normal t y p h = p
plain_silent m way.Unwind t y p h = p

module _ (m : Module) (ps : Numbered) (is : IsNumbering m ps) (q : ℕ) (t : Instr) (block : ℕ) (i : Instr) (w : Written) where
  -- ---- an edge of an `invoke`

  module _ (e : Edge) where
    abbrev pub EdgeAsks : UseFact → (Fact → Bool) → Type 0
    EdgeAsks kind held = (is_unused m held t.op e.way ≡ true) ⊎ ResultUsed held kind i

    abbrev pub EdgeSpeaks : UseFact → Fact → Type 0
    EdgeSpeaks kind y = WaySpeaks m e.way (Some t) y ⊎ ResultUseSpeaks kind i y

    pub edge_says : (unused of term : NewTerm) → Says m ps ALL_USES unused (AsksUnused m t e.way) (WaySpeaks m e.way (Some t)) →
        Says m ps ALL_USES of (AsksEach (λ kind held. ResultUsed held kind i)) (SpeaksEach (λ kind. ResultUseSpeaks kind i)) →
        term ≡ roll-NewTerm (new.Or unused of) → Says m ps ALL_USES term (AsksEach EdgeAsks) (SpeaksEach EdgeSpeaks)
    edge_says unused of term first second same = subst (λ u. Says m ps ALL_USES u (AsksEach EdgeAsks) (SpeaksEach EdgeSpeaks)) (sym same)
        (each_by m ps (roll-NewTerm (new.Or unused of)) Either EdgeAsks EitherSpeaks (SpeaksEach EdgeSpeaks)
        (says_or m ps ALL_USES unused of (AsksUnused m t e.way) (AsksEach (λ kind held. ResultUsed held kind i)) (WaySpeaks m e.way (Some t))
        (SpeaksEach (λ kind. ResultUseSpeaks kind i)) first second)
        (λ held kind. (down held kind, up held kind)) (λ y. (spoken y, λ s. named y s.0 s.1)))
      where
        Either : (Fact → Bool) → ℕ → Type 0
        Either held b = AsksUnused m t e.way held b ⊎ AsksEach (λ kind held. ResultUsed held kind i) held b

        EitherSpeaks : Fact → Type 0
        EitherSpeaks y = WaySpeaks m e.way (Some t) y ⊎ SpeaksEach (λ kind. ResultUseSpeaks kind i) y

        down : (held : Fact → Bool) (kind : UseFact) → Either held (use_bit kind) → EdgeAsks kind held
        down held kind (inl u) = inl u
        down held kind (inr f) = inr (f kind refl)

        up : (held : Fact → Bool) (kind : UseFact) → EdgeAsks kind held → Either held (use_bit kind)
        up held kind (inl u) = inl u
        up held kind (inr h) = inr (λ other f. subst (λ k. ResultUsed held k i) (one_kind kind other f) h)

        spoken : (y : Fact) → EitherSpeaks y → SpeaksEach EdgeSpeaks y
        spoken y (inl h) = (NotReturned, inl h)
        spoken y (inr s) = (s.0, inr s.1)

        named : (y : Fact) (kind : UseFact) → EdgeSpeaks kind y → EitherSpeaks y
        named y kind (inl h) = inl h
        named y kind (inr s) = inr (kind, s)

    pub edge_met : (a b : System) → is_invoke t.op ≡ true → e.to.0 ≡ block →
        Meets m ps a b (AsksOf m ps is q EdgeAsks EdgeSpeaks w.val) (SpeaksOf m ps is q EdgeAsks EdgeSpeaks w.val) →
        Meets m ps a b (AsksEdge m q t block i w e) (SpeaksEdge m q t block i w e)
    edge_met a b invoke to met =
        meets_iff m ps a b (AsksOf m ps is q EdgeAsks EdgeSpeaks w.val) (AsksEdge m q t block i w e) (SpeaksOf m ps is q EdgeAsks EdgeSpeaks w.val)
        (SpeaksEdge m q t block i w e) met
        (λ held p bit. (
          (λ h to kind v named here at has live never. used held kind (h kind v named here at has live) never),
          λ h kind v named here at has live. decided held kind (is_unused m held t.op e.way) refl (h to kind v named here at has live),
        ))
        (λ p y. ((λ s. (to, s.0, s.1, s.2, s.3, s.4, s.5)), λ s. (s.1, s.2, s.3, s.4, s.5, s.6)))
      where
        used : (held : Fact → Bool) (kind : UseFact) → EdgeAsks kind held → is_never m held e.way (Some t) ≡ false → ResultUsed held kind i
        used held kind (inl u) never =
            absurd (both_ways (is_never m held e.way (Some t)) never (or_right (takes_other m t.op e.way) (is_unused m held t.op e.way) u))
        used held kind (inr h) never = h

        decided : (held : Fact → Bool) (kind : UseFact) (test : Bool) → is_unused m held t.op e.way ≡ test →
            (is_never m held e.way (Some t) ≡ false → ResultUsed held kind i) → EdgeAsks kind held
        decided held kind true u h = inl u
        decided held kind false u h =
            inr (h (or_false (takes_other m t.op e.way) (is_unused m held t.op e.way) (invoke_takes m t.op e.way invoke) u))

  -- ---- the edges of another terminator

  abbrev pub taken : Bool
  taken = list_any (is_open_to m t.op block) (edges t.op)

  abbrev pub OverAsks : UseFact → (Fact → Bool) → Type 0
  OverAsks kind held = taken ≡ true → ResultUsed held kind i

  abbrev pub OverSpeaks : UseFact → Fact → Type 0
  OverSpeaks kind y = ResultUseSpeaks kind i y

  pub over_says : (of term : NewTerm) (b : Bool) → b ≡ taken → IsOver term b of →
      Says m ps ALL_USES of (AsksEach (λ kind held. ResultUsed held kind i)) (SpeaksEach (λ kind. ResultUseSpeaks kind i)) →
      Says m ps ALL_USES term (AsksEach OverAsks) (SpeaksEach OverSpeaks)
  over_says of term true same e says = subst (λ u. Says m ps ALL_USES u (AsksEach OverAsks) (SpeaksEach OverSpeaks)) (sym e)
      (each_iff m ps of (λ kind held. ResultUsed held kind i) OverAsks (SpeaksEach OverSpeaks) (SpeaksEach OverSpeaks) says
      (λ held kind. ((λ h yes. h), λ h. h (sym same))) (λ y. ((λ s. s), λ s. s)))
  over_says of term false same e says = subst (λ u. Says m ps ALL_USES u (AsksEach OverAsks) (SpeaksEach OverSpeaks)) (sym e)
      (each_by m ps (roll-NewTerm (new.Or (roll-NewTerm (new.Const ALL_USES)) of))
      (λ held b. IsSet ALL_USES b ⊎ AsksEach (λ kind held. ResultUsed held kind i) held b) OverAsks
      (λ y. ⊥ ⊎ SpeaksEach OverSpeaks y) (SpeaksEach OverSpeaks)
      (says_or m ps ALL_USES (roll-NewTerm (new.Const ALL_USES)) of (λ held b. IsSet ALL_USES b) (AsksEach (λ kind held. ResultUsed held kind i))
      (λ y. ⊥) (SpeaksEach OverSpeaks) (says_bits m ps ALL_USES ALL_USES) says)
      (λ held kind. ((λ h yes. absurd (both_ways taken (sym same) yes)), λ h. inl (kind_set kind)))
      (λ y. (right y, λ s. inr s)))
    where
      right : (y : Fact) → ⊥ ⊎ SpeaksEach OverSpeaks y → SpeaksEach OverSpeaks y
      right y (inl none) = absurd none
      right y (inr s) = s

  module _ (other : is_invoke t.op ≡ false) where
    never_is : (held : Fact → Bool) (n : ℕ) (e : Edge) → slice_get (edges t.op) n ≡ Some e → takes_other m t.op e.way ≡ false →
        is_never m held e.way (Some t) ≡ false
    never_is held n e at free =
        or_false (takes_other m t.op e.way) (is_unused m held t.op e.way) free (plain_used m held t.op e.way (plain_way t.op n e other at))

    pub branch_met : (a b : System) → list_any (is_to block) (edges t.op) ≡ true →
        Meets m ps a b (AsksOf m ps is q OverAsks OverSpeaks w.val) (SpeaksOf m ps is q OverAsks OverSpeaks w.val) →
        Meets m ps a b (AsksEdges m q t block i w) (SpeaksEdges m q t block i w)
    branch_met a b leads met =
        meets_iff m ps a b (AsksOf m ps is q OverAsks OverSpeaks w.val) (AsksEdges m q t block i w) (SpeaksOf m ps is q OverAsks OverSpeaks w.val)
        (SpeaksEdges m q t block i w) met (λ held p bit. (down held p bit, up held p bit)) (λ p y. (spoken p y, λ s. named p y s.0 s.1 s.2 s.3))
      where
        down : (held : Fact → Bool) (p : Pos) (bit : ℕ) → AsksOf m ps is q OverAsks OverSpeaks w.val held p bit → AsksEdges m q t block i w held p bit
        down held p bit h n e at to kind v is_value here of has live never =
            let free = first_false (takes_other m t.op e.way) (is_unused m held t.op e.way) never in
            h kind v is_value here of has live (any_at (is_open_to m t.op block) (edges t.op) n e at
            (and_from (e.to.0 == block) (not (takes_other m t.op e.way)) (eq-eqb e.to.0 block to) (ap not free)))

        up : (held : Fact → Bool) (p : Pos) (bit : ℕ) → AsksEdges m q t block i w held p bit → AsksOf m ps is q OverAsks OverSpeaks w.val held p bit
        up held p bit h kind v is_value here of has live some =
            let found = any_there (is_open_to m t.op block) (edges t.op) some in
            let parts = and_parts (found.1.to.0 == block) (not (takes_other m t.op found.1.way)) found.3 in
            h found.0 found.1 found.2 (eqb-true found.1.to.0 block parts.0) kind v is_value here of has live
            (never_is held found.0 found.1 found.2 (not_true (takes_other m t.op found.1.way) parts.1))
          where
            not_true : (b : Bool) → not b ≡ true → b ≡ false
            not_true true e = crash e
            not_true false e = refl

        spoken : (p : Pos) (y : Fact) → SpeaksOf m ps is q OverAsks OverSpeaks w.val p y → SpeaksEdges m q t block i w p y
        spoken p y s =
            let found = any_there (is_to block) (edges t.op) leads in
            (found.0, found.1, found.2, (eqb-true found.1.to.0 block found.3, s.0, s.1, s.2, s.3, s.4, by found.1 s.0 s.5))
          where
            by : (e : Edge) (kind : UseFact) → (y ≡ dead q) ⊎ ResultUseSpeaks kind i y → (y ≡ dead q) ⊎ (WaySpeaks m e.way (Some t) y ⊎
                ResultUseSpeaks kind i y)
            by e kind (inl h) = inl h
            by e kind (inr h) = inr (inr h)

        named : (p : Pos) (y : Fact) (k : ℕ) (e : Edge) → slice_get (edges t.op) k ≡ Some e → SpeaksEdge m q t block i w e p y →
            SpeaksOf m ps is q OverAsks OverSpeaks w.val p y
        named p y k e at s = (s.1, s.2, s.3, s.4, s.5, by s.6)
          where
            by : (y ≡ dead q) ⊎ (WaySpeaks m e.way (Some t) y ⊎ ResultUseSpeaks s.1 i y) → (y ≡ dead q) ⊎ ResultUseSpeaks s.1 i y
            by (inl h) = inl h
            by (inr (inl h)) = absurd (plain_silent m e.way t y (plain_way t.op k e other at) h)
            by (inr (inr h)) = inr h

  -- no edge leads to the block
  pub not_led : (s : System) → list_any (is_to block) (edges t.op) ≡ false → Meets m ps s s (AsksEdges m q t block i w) (SpeaksEdges m q t block i w)
  not_led s none =
      meets_iff m ps s s (λ held p bit. Unit {0}) (AsksEdges m q t block i w) (λ p y. ⊥) (SpeaksEdges m q t block i w) (meets_none m ps s)
      (λ held p bit. ((λ h n e at to. absurd (away n e at to)), λ h. tt)) (λ p y. ((λ v. absurd v), λ v. absurd (away v.0 v.1 v.2 v.3.0)))
    where
      away : (n : ℕ) (e : Edge) → slice_get (edges t.op) n ≡ Some e → e.to.0 ≡ block → ⊥
      away n e at to = both_ways (list_any (is_to block) (edges t.op)) none (any_at (is_to block) (edges t.op) n e at (eq-eqb e.to.0 block to))
