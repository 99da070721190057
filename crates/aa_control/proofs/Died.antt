-- What is met in at the segments to which control goes from one place.
use Rattle.std.proofs.Common.{arith, ◌≡◌, ◌+◌, ◌<◌, ◌^◌, ◌==◌, ◌||◌, ◌⊎◌, ◌↔◌, not, nat_lt, if◌then◌else◌, ℕ, Bool, true, false, length, slice_get, Option}
use Rattle.std.proofs.Common.{None, Some, refl, sym, ap, subst, ◌∙◌, inl, inr, eqb-true}
use Rattle.std.proofs.lemmas.Bool.{and_parts, both_ways}
use Rattle.std.proofs.lemmas.Nat.Bits.{bit_at-zero}
use Rattle.lattice_words.specs.declared.segment.TheConstants.{DEAD}
use Rattle.attr_ids.specs.declared.ids.FuncId.{FuncId}
use Rattle.ir_module.specs.declared.op.Op.{Op}
use Rattle.ir_module.specs.declared.op.Op.TheVariants as op
use Rattle.ir_module.specs.declared.op.Instr.{Instr}
use Rattle.ir_module.specs.declared.edge.Way.{Way}
use Rattle.ir_module.specs.declared.edge.Way.TheVariants as way
use Rattle.ir_module.specs.declared.edge.Edge.{Edge}
use Rattle.ir_module.specs.declared.module.Block.{Block}
use Rattle.ir_module.specs.declared.module.Func.{Func}
use Rattle.ir_module.specs.declared.module.Module.{Module}
use Rattle.ir_module.specs.Places.{entry_of, IsSegInBlock}
use Rattle.ir_module.specs.Calls.{is_call, direct_callee, is_open, is_open_in, is_taken, is_visible, has_blocks}
use Rattle.ir_uses.specs.declared.use_lists.Uses.{Uses}
use Rattle.ir_uses.specs.Uses.{AreUsesOf}
use Rattle.facts.specs.declared.pos.Pos.{Pos}
use Rattle.facts.specs.Kinds.{NoUnwind, NoReturn}
use Rattle.facts.specs.Bodies.{is_body}
use Rattle.facts.specs.Facts.{Fact, fact, segment, dead}
use Rattle.facts.specs.Masks.{is_built, has_bit_of, is_bit}
use Rattle.facts.specs.Promises.{call_has, CallSpeaks}
use Rattle.facts.specs.DeadEdges.{takes_other, is_unused, is_never, WaySpeaks}
use Rattle.facts.specs.Dead.{IsEntry, IsStart}
use Rattle.rule_terms.specs.declared.term.NewTerm.{NewTerm}
use Rattle.rule_terms.specs.declared.term.NewTerm.TheOpen.{NewTerm-F as new'}
use Rattle.rule_terms.specs.declared.term.NewTerm.TheViews.{roll-NewTerm}
use Rattle.rule_terms.specs.System.{System}
use Rattle.positions.specs.Numbering.{Numbered}
use Rattle.rule_says.specs.Reading.{IsNumbering}
use Rattle.rule_says.specs.Saying.{IsSet, Has, Says, IsWord, IsUnless}
use Rattle.rule_says.specs.Meeting.{Meets, IsMet}
use Rattle.rule_says.proofs.Terms.{says_bits, says_iff, says_word, says_unless, says_spread}
use Rattle.rule_says.proofs.Mets.{meets_none, meets_then, meets_iff, meets_term, AskAt, SpeakAt}
use Rattle.aa_control.specs.Asked.{AsksCall}
use Rattle.aa_control.specs.Coming.{AsksOpen, SpeaksOpen, AsksCalled, SpeaksCalled, AsksEdge, SpeaksEdge, AsksEdges, SpeaksEdges, AsksBehind, SpeaksBehind}
use Rattle.aa_control.specs.Coming.{AsksFrom, SpeaksFrom, AsksNever, is_normal, is_unwind}
use Rattle.aa_control.proofs.Kept.{one_bit}

clash : {A : Type 0} → true ≡ false → A
clash e = absurd (cc)

crash : {A : Type 0} → false ≡ true → A
crash e = absurd (cc)

one_func : (a b : FuncId) → Some a ≡ Some b → a.0 ≡ b.0
one_func a b e = let same : a ≡ b = cc in ap (λ (x : FuncId). x.0) same

-- an open body is a body
pub open_is_body : (m : Module) (f : ℕ) → is_open m f ≡ true → is_body m f ≡ true
unfolding is_open
open_is_body m f e = by (slice_get m.funcs f) e
  where
    by : (o : Option Func) → is_open_in (is_taken m f) o ≡ true → has_blocks o ≡ true
    by (Some func) e = (and_parts (not (func.block_count == 0)) (is_visible func.linkage || is_taken m f) e).0
    by None e = crash e

-- what the use lists tell of a function
pub open_told : (m : Module) (u : Uses) → AreUsesOf m u → (f : ℕ) (r : Bool) → f < length m.funcs → slice_get u.bodies f ≡ Some r → r ≡ is_open m f
open_told m u are f r l e = let here = are.bodies f l in cc

-- a segment has one bit
pub dead_bit : (m : Module) (k bit : ℕ) → is_bit m (segment k) bit ≡ true → bit ≡ DEAD
dead_bit m k bit e =
    eqb-true bit 0 (and_parts (nat_lt k (length m.segs)) (bit == 0) (and_parts (is_built (segment k) bit) (has_bit_of m (segment k) bit) e).1).1

module _ (m : Module) (ps : Numbered) where
  -- what is asked where the segment has its bit
  abbrev pub AskDead : ℕ → ((Fact → Bool) → Type 0) → (Fact → Bool) → Pos → ℕ → Type 0
  AskDead k A held p bit = p ≡ segment k → is_bit m p bit ≡ true → A held

  abbrev pub SpeakDead : ℕ → (Fact → Type 0) → Pos → Fact → Type 0
  SpeakDead k S p y = (p ≡ segment k) × (is_bit m p DEAD ≡ true) × S y

  module _ (is : IsNumbering m ps) where
    pub dead_met : (k : ℕ) (old new : System) (t : NewTerm) (A : (Fact → Bool) → Type 0) (S : Fact → Type 0) → length old.masks ≡ length ps.list →
        IsMet ps old new (segment k) (2 ^ 0) t → Says m ps (2 ^ 0) t (λ held b. A held) S → Meets m ps old new (AskDead k A) (SpeakDead k S)
    dead_met k old new t A S long met says =
        meets_iff m ps old new (AskAt m ps (segment k) (2 ^ 0) (λ held b. A held)) (AskDead k A) (SpeakAt m ps (segment k) (2 ^ 0) S) (SpeakDead k S)
        (meets_term m ps is old new (segment k) (2 ^ 0) t (λ held b. A held) S long met says)
        (λ held q b. (
          (λ h here has.
              let at : is_bit m (segment k) b ≡ true = subst (λ p. is_bit m p b ≡ true) here has in h here ((one_bit 0 b).1 (dead_bit m k b at)) at),
          λ h here set has. h here (subst (λ p. is_bit m p b ≡ true) (sym here) has),
        ))
        (λ q y. (
          (λ w. (w.0, subst (λ b. is_bit m q b ≡ true) ((one_bit 0 w.1.0).0 w.1.1) (subst (λ p. is_bit m p w.1.0 ≡ true) (sym w.0) w.1.2), w.2)),
          λ w. (w.0, (0, (one_bit 0 0).1 refl, subst (λ p. is_bit m p DEAD ≡ true) w.0 w.1), w.2),
        ))

    -- a segment that is dead where segment q is, or where the term gives it
    pub followed : (q k : ℕ) (old new : System) (t term : NewTerm) (A : (Fact → Bool) → Type 0) (S : Fact → Type 0) → length old.masks ≡ length ps.list →
        IsUnless ps t (segment q) DEAD term → IsMet ps old new (segment k) (2 ^ 0) t → Says m ps (2 ^ 0) term (λ held b. A held) S →
        Meets m ps old new (AskDead k (λ held. held (dead q) ≡ false → A held)) (SpeakDead k (λ y. (y ≡ dead q) ⊎ S y))
    followed q k old new t term A S long tested met says =
        dead_met k old new t (λ held. held (dead q) ≡ false → A held) (λ y. (y ≡ dead q) ⊎ S y) long met
        (says_iff m ps (2 ^ 0) t (λ held b. Has held (segment q) DEAD ⊎ A held) (λ held b. held (dead q) ≡ false → A held) (λ y. (y ≡ dead q) ⊎ S y)
        (λ y. (y ≡ dead q) ⊎ S y)
        (says_unless m ps is (2 ^ 0) t (segment q) DEAD term (λ held b. A held) S (omega arith) tested says)
        (λ held b set. ((λ h live. alive held h live), λ h. decided held (held (dead q)) refl h))
        (λ y. ((λ v. v), λ v. v)))
      where
        alive : (held : Fact → Bool) → Has held (segment q) DEAD ⊎ A held → held (dead q) ≡ false → A held
        alive held (inl h) live = absurd (both_ways (held (dead q)) live h)
        alive held (inr h) live = h

        decided : (held : Fact → Bool) (test : Bool) → held (dead q) ≡ test → (held (dead q) ≡ false → A held) → Has held (segment q) DEAD ⊎ A held
        decided held true e h = inl e
        decided held false e h = inr (h e)

    -- ---- from the outside

    pub open_met : (f k : ℕ) (old new : System) (t : NewTerm) → is_open m f ≡ true → (entry_of m f).seg.0 ≡ k → length old.masks ≡ length ps.list →
        t ≡ roll-NewTerm (new'.Const 0) → IsMet ps old new (segment k) (2 ^ 0) t → Meets m ps old new (AsksOpen m f) (SpeaksOpen m f)
    open_met f k old new t opened entry long e met =
        meets_iff m ps old new (AskDead k (λ held. ⊥)) (AsksOpen m f) (SpeakDead k (λ y. ⊥)) (SpeaksOpen m f)
        (dead_met k old new t (λ held. ⊥) (λ y. ⊥) long met
        (subst (λ u. Says m ps (2 ^ 0) u (λ held b. ⊥) (λ y. ⊥)) (sym e)
        (says_iff m ps (2 ^ 0) (roll-NewTerm (new'.Const 0)) (λ held b. IsSet 0 b) (λ held b. ⊥) (λ y. ⊥) (λ y. ⊥) (says_bits m ps (2 ^ 0) 0)
        (λ held b set. ((λ h. let none = bit_at-zero b in omega (arith, h, none)), λ h. absurd h))
        (λ y. ((λ v. v), λ v. v)))))
        (λ held p bit. (
          (λ h j is_entry here has. absurd (h (here ∙ ap segment (sym is_entry.1 ∙ entry)) has)),
          λ h here has. both_ways (is_open m f) (h k (open_is_body m f opened, entry) here has) opened,
        ))
        (λ p y. ((λ w. w.2), λ w. absurd w))

    -- ---- from a call

    pub called_met : (q f k : ℕ) (o : Op) (old new : System) (t : NewTerm) → direct_callee m o ≡ Some (record { 0 = f }) → is_body m f ≡ true →
        (entry_of m f).seg.0 ≡ k → length old.masks ≡ length ps.list → IsWord ps (2 ^ 0) t (segment q) → IsMet ps old new (segment k) (2 ^ 0) t →
        Meets m ps old new (AsksCalled m q o) (SpeaksCalled m q o)
    called_met q f k o old new t calls body entry long reads met =
        meets_iff m ps old new (AskDead k (λ held. held (dead q) ≡ true)) (AsksCalled m q o) (SpeakDead k (λ y. y ≡ dead q)) (SpeaksCalled m q o)
        (dead_met k old new t (λ held. held (dead q) ≡ true) (λ y. y ≡ dead q) long met
        (says_iff m ps (2 ^ 0) t (λ held b. Has held (segment q) b) (λ held b. held (dead q) ≡ true) (λ y. (y.pos ≡ segment q) × IsSet (2 ^ 0) y.bit)
        (λ y. y ≡ dead q)
        (says_word m ps is (2 ^ 0) t (segment q) reads)
        (λ held b set. let at : b ≡ DEAD = (one_bit 0 b).0 set in (
          (λ h. subst (λ n. Has held (segment q) n) at h),
          λ h. subst (λ n. Has held (segment q) n) (sym at) h,
        ))
        (λ y. (
          (λ v. ap (λ p. fact p y.bit) v.0 ∙ ap (λ n. fact (segment q) n) ((one_bit 0 y.bit).0 v.1)),
          λ v. (ap (λ (z : Fact). z.pos) v, (one_bit 0 y.bit).1 (ap (λ (z : Fact). z.bit) v)),
        ))))
        (λ held p bit. (
          (λ h g j names is_entry here has. h (here ∙ ap segment (same g j names is_entry)) has),
          λ h here has. h f k calls (body, entry) here has,
        ))
        (λ p y. (
          (λ w. (f, k, calls, (body, entry), w.0, w.1, w.2)),
          λ w. (w.4 ∙ ap segment (same w.0 w.1 w.2 w.3), w.5, w.6),
        ))
      where
        same : (g j : ℕ) → direct_callee m o ≡ Some (record { 0 = g }) → IsEntry m g j → j ≡ k
        same g j names is_entry =
            let callee : g ≡ f = one_func (record { 0 = g }) (record { 0 = f }) (sym names ∙ calls) in
            sym is_entry.1 ∙ (ap (λ n. (entry_of m n).seg.0) callee ∙ entry)

    -- ---- by an edge

    pub edge_met : (q k : ℕ) (i : Instr) (e : Edge) (old new : System) (t term : NewTerm) → IsStart m e.to.0 k → length old.masks ≡ length ps.list →
        IsUnless ps t (segment q) DEAD term → IsMet ps old new (segment k) (2 ^ 0) t →
        Says m ps (2 ^ 0) term (AsksNever m i e.way) (WaySpeaks m e.way (Some i)) →
        Meets m ps old new (AsksEdge m q i e) (SpeaksEdge m q i e)
    edge_met q k i e old new t term start long tested met says =
        meets_iff m ps old new (AskDead k (λ held. held (dead q) ≡ false → is_never m held e.way (Some i) ≡ true)) (AsksEdge m q i e)
        (SpeakDead k (λ y. (y ≡ dead q) ⊎ WaySpeaks m e.way (Some i) y)) (SpeaksEdge m q i e)
        (followed q k old new t term (λ held. is_never m held e.way (Some i) ≡ true) (WaySpeaks m e.way (Some i)) long tested met says)
        (λ held p bit. (
          (λ h j other here has live. h (here ∙ ap segment (same j other)) has live),
          λ h here has live. h k start here has live,
        ))
        (λ p y. (
          (λ w. (k, start, w.0, w.1, w.2)),
          λ w. (w.2 ∙ ap segment (same w.0 w.1), w.3, w.4),
        ))
      where
        same : (j : ℕ) → IsStart m e.to.0 j → j ≡ k
        same j other =
            let block : other.block ≡ start.block = (let a = other.at_block in let b = start.at_block in cc) in
            sym other.first ∙ (ap (λ (b : Block). b.first_seg) block ∙ start.first)

    -- ---- behind a call

    pub behind_met : (q k b : ℕ) (o : Op) (old new : System) (t term : NewTerm) → is_call o ≡ true → k ≡ q + 1 → IsSegInBlock m b q → IsSegInBlock m b (q + 1) →
        length old.masks ≡ length ps.list → IsUnless ps t (segment q) DEAD term → IsMet ps old new (segment k) (2 ^ 0) t →
        Says m ps (2 ^ 0) term (AsksCall m NoReturn o) (CallSpeaks m NoReturn o) → Meets m ps old new (AsksBehind m q o) (SpeaksBehind m q o)
    behind_met q k b o old new t term call next here there long tested met says =
        meets_iff m ps old new (AskDead k (λ held. held (dead q) ≡ false → call_has m held NoReturn o ≡ true)) (AsksBehind m q o)
        (SpeakDead k (λ y. (y ≡ dead q) ⊎ CallSpeaks m NoReturn o y)) (SpeaksBehind m q o)
        (followed q k old new t term (λ held. call_has m held NoReturn o ≡ true) (CallSpeaks m NoReturn o) long tested met says)
        (λ held p bit. (
          (λ h c first second calls at has live. h (at ∙ ap segment (sym next)) has live),
          λ h at has live. h b here there call (at ∙ ap segment next) has live,
        ))
        (λ p y. (
          (λ w. (b, here, there, call, w.0 ∙ ap segment next, w.1, w.2)),
          λ w. (w.4 ∙ ap segment (sym next), w.5, w.6),
        ))

  -- ---- nothing is asked

  pub closed_met : (f : ℕ) (s : System) → is_open m f ≡ false → Meets m ps s s (AsksOpen m f) (SpeaksOpen m f)
  closed_met f s closed =
      meets_iff m ps s s (λ held p bit. Unit {0}) (AsksOpen m f) (λ p y. ⊥) (SpeaksOpen m f) (meets_none m ps s)
      (λ held p bit. ((λ h k entry here has. closed), λ h. tt)) (λ p y. ((λ w. w), λ w. w))

  pub uncalled_met : (q : ℕ) (o : Op) (s : System) → ((f : ℕ) → direct_callee m o ≡ Some (record { 0 = f }) → is_body m f ≡ true → ⊥) →
      Meets m ps s s (AsksCalled m q o) (SpeaksCalled m q o)
  uncalled_met q o s none =
      meets_iff m ps s s (λ held p bit. Unit {0}) (AsksCalled m q o) (λ p y. ⊥) (SpeaksCalled m q o) (meets_none m ps s)
      (λ held p bit. ((λ h f k calls entry here has. absurd (none f calls entry.0)), λ h. tt)) (λ p y. ((λ w. absurd w), λ w. none w.0 w.2 w.3.0))

  pub no_start_met : (q : ℕ) (i : Instr) (e : Edge) (s : System) → ((k : ℕ) → IsStart m e.to.0 k → ⊥) → Meets m ps s s (AsksEdge m q i e) (SpeaksEdge m q i e)
  no_start_met q i e s none =
      meets_iff m ps s s (λ held p bit. Unit {0}) (AsksEdge m q i e) (λ p y. ⊥) (SpeaksEdge m q i e) (meets_none m ps s)
      (λ held p bit. ((λ h k start here has live. absurd (none k start)), λ h. tt)) (λ p y. ((λ w. absurd w), λ w. none w.0 w.1))

  pub no_call_met : (q : ℕ) (o : Op) (s : System) → is_call o ≡ false → Meets m ps s s (AsksBehind m q o) (SpeaksBehind m q o)
  no_call_met q o s none =
      meets_iff m ps s s (λ held p bit. Unit {0}) (AsksBehind m q o) (λ p y. ⊥) (SpeaksBehind m q o) (meets_none m ps s)
      (λ held p bit. ((λ h b here there call at has live. absurd (both_ways (is_call o) none call)), λ h. tt))
      (λ p y. ((λ w. absurd w), λ w. both_ways (is_call o) none w.3))

  pub no_next_met : (q : ℕ) (o : Op) (s : System) → ((b : ℕ) → IsSegInBlock m b q → IsSegInBlock m b (q + 1) → ⊥) →
      Meets m ps s s (AsksBehind m q o) (SpeaksBehind m q o)
  no_next_met q o s none =
      meets_iff m ps s s (λ held p bit. Unit {0}) (AsksBehind m q o) (λ p y. ⊥) (SpeaksBehind m q o) (meets_none m ps s)
      (λ held p bit. ((λ h b here there call at has live. absurd (none b here there)), λ h. tt)) (λ p y. ((λ w. absurd w), λ w. none w.0 w.1 w.2))

  -- one instruction
  pub from_met : (q : ℕ) (i : Instr) (a b c d : System) → Meets m ps a b (AsksCalled m q i.op) (SpeaksCalled m q i.op) →
      Meets m ps b c (AsksEdges m q i) (SpeaksEdges m q i) → Meets m ps c d (AsksBehind m q i.op) (SpeaksBehind m q i.op) →
      Meets m ps a d (AsksFrom m q i) (SpeaksFrom m q i)
  from_met q i a b c d calls edges behind =
      meets_then m ps a b d (AsksCalled m q i.op) (λ held p bit. AsksEdges m q i held p bit × AsksBehind m q i.op held p bit)
      (SpeaksCalled m q i.op) (λ p y. SpeaksEdges m q i p y ⊎ SpeaksBehind m q i.op p y) calls
      (meets_then m ps b c d (AsksEdges m q i) (AsksBehind m q i.op) (SpeaksEdges m q i) (SpeaksBehind m q i.op) edges behind)

  -- ---- edges that are never taken

  module _ (i : Instr) where
    -- no `br` or `switch` has the edges of an `invoke`
    normal_other : (o : Op) → takes_other m o way.Normal ≡ false
    normal_other (op.Branch c so otherwise) = refl
    normal_other (op.Switch on other cases) = refl
    normal_other _ = refl

    unwind_other : (o : Op) → takes_other m o way.Unwind ≡ false
    unwind_other (op.Branch c so otherwise) = refl
    unwind_other (op.Switch on other cases) = refl
    unwind_other _ = refl

    second : (a b : Bool) → a ≡ false → (a || b) ≡ b
    second false b e = refl
    second true b e = clash e

    first : (a b : Bool) → b ≡ false → (a || b) ≡ a
    first true b e = refl
    first false false e = refl
    first false true e = clash e

    -- the edge for a return
    pub never_normal : (e : Way) (t : NewTerm) → is_normal e ≡ true → Says m ps (2 ^ 0) t (AsksCall m NoReturn i.op) (CallSpeaks m NoReturn i.op) →
        Says m ps (2 ^ 0) t (AsksNever m i e) (WaySpeaks m e (Some i))
    never_normal way.Normal t is says =
        says_iff m ps (2 ^ 0) t (AsksCall m NoReturn i.op) (AsksNever m i way.Normal) (CallSpeaks m NoReturn i.op) (WaySpeaks m way.Normal (Some i)) says
        (λ held b set. let one : is_never m held way.Normal (Some i) ≡ call_has m held NoReturn i.op =
        second (takes_other m i.op way.Normal) (call_has m held NoReturn i.op) (normal_other i.op) in ((λ h. one ∙ h), λ h. sym one ∙ h))
        (λ y. ((λ v. v), λ v. v))
    never_normal _ t is says = crash is

    -- the edge for an unwinding
    pub never_unwind : (e : Way) (t : NewTerm) → is_unwind e ≡ true → Says m ps (2 ^ 0) t (AsksCall m NoUnwind i.op) (CallSpeaks m NoUnwind i.op) →
        Says m ps (2 ^ 0) t (AsksNever m i e) (WaySpeaks m e (Some i))
    never_unwind way.Unwind t is says =
        says_iff m ps (2 ^ 0) t (AsksCall m NoUnwind i.op) (AsksNever m i way.Unwind) (CallSpeaks m NoUnwind i.op) (WaySpeaks m way.Unwind (Some i)) says
        (λ held b set. let one : is_never m held way.Unwind (Some i) ≡ call_has m held NoUnwind i.op =
        second (takes_other m i.op way.Unwind) (call_has m held NoUnwind i.op) (unwind_other i.op) in ((λ h. one ∙ h), λ h. sym one ∙ h))
        (λ y. ((λ v. v), λ v. v))
    never_unwind _ t is says = crash is

    unused : (held : Fact → Bool) (e : Way) → is_normal e ≡ false → is_unwind e ≡ false → is_unused m held i.op e ≡ false
    unused held way.Normal a b = clash a
    unused held way.Unwind a b = clash b
    unused held _ a b = refl

    silent : (e : Way) (y : Fact) → is_normal e ≡ false → is_unwind e ≡ false → WaySpeaks m e (Some i) y → ⊥
    silent way.Normal y a b v = clash a
    silent way.Unwind y a b v = clash b
    silent _ y a b v = v

    -- other edges
    pub never_other : (e : Way) (t : NewTerm) (test : Bool) → is_normal e ≡ false → is_unwind e ≡ false → test ≡ takes_other m i.op e →
        t ≡ roll-NewTerm (new'.Const (if test then 2 ^ 0 else 0)) → Says m ps (2 ^ 0) t (AsksNever m i e) (WaySpeaks m e (Some i))
    never_other e t test not_normal not_unwind same is =
        subst (λ u. Says m ps (2 ^ 0) u (AsksNever m i e) (WaySpeaks m e (Some i))) (sym is)
        (says_iff m ps (2 ^ 0) (roll-NewTerm (new'.Const (if test then 2 ^ 0 else 0))) (λ held b. IsSet (if test then 2 ^ 0 else 0) b) (AsksNever m i e)
        (λ y. ⊥) (WaySpeaks m e (Some i)) (says_bits m ps (2 ^ 0) (if test then 2 ^ 0 else 0))
        (λ held b set. subst (λ v. IsSet (if test then 2 ^ 0 else 0) b ↔ (v ≡ true)) (same ∙ sym (told held)) (given b set test))
        (λ y. ((λ none. absurd none), λ v. silent e y not_normal not_unwind v)))
      where
        told : (held : Fact → Bool) → is_never m held e (Some i) ≡ takes_other m i.op e
        told held = first (takes_other m i.op e) (is_unused m held i.op e) (unused held e not_normal not_unwind)

        given : (b : ℕ) → IsSet (2 ^ 0) b → (v : Bool) → IsSet (if v then 2 ^ 0 else 0) b ↔ (v ≡ true)
        given b set true = ((λ h. refl), λ h. set)
        given b set false = ((λ h. absurd (let none = bit_at-zero b in omega (arith, h, none))), λ h. absurd (cc))

  -- that a call does not return, as the bit of a segment
  pub returning : (o : Op) (t of : NewTerm) → t ≡ roll-NewTerm (new'.Spread 1 1 of) → Says m ps (2 ^ 1) of (AsksCall m NoReturn o) (CallSpeaks m NoReturn o) →
      Says m ps (2 ^ 0) t (AsksCall m NoReturn o) (CallSpeaks m NoReturn o)
  returning o t of e says = subst (λ u. Says m ps (2 ^ 0) u (AsksCall m NoReturn o) (CallSpeaks m NoReturn o)) (sym e)
      (says_iff m ps (2 ^ 0) (roll-NewTerm (new'.Spread 1 1 of)) (λ held b. AsksCall m NoReturn o held 1 × IsSet 1 b) (AsksCall m NoReturn o)
      (CallSpeaks m NoReturn o) (CallSpeaks m NoReturn o)
      (says_spread m ps (2 ^ 0) (2 ^ 1) 1 1 of (AsksCall m NoReturn o) (CallSpeaks m NoReturn o) (omega arith) ((one_bit 1 1).1 refl) says)
      (λ held b set. ((λ w. w.0), λ h. (h, set)))
      (λ y. ((λ v. v), λ v. v)))
