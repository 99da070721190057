-- What is asked of segments from all places together is what their rule asks.
use Rattle.std.proofs.Common.{◌≡◌, ◌+◌, ◌||◌, ◌⊎◌, ℕ, Bool, true, false, slice_get, Option, None, Some, refl, sym, ap, subst, inl, inr}
use Rattle.std.proofs.lemmas.Bool.{or_left, or_right}
use Rattle.lattice_words.specs.declared.segment.TheConstants.{DEAD}
use Rattle.ir_module.specs.declared.op.Instr.{Instr}
use Rattle.ir_module.specs.declared.edge.Edge.{Edge}
use Rattle.ir_module.specs.declared.module.Func.{Func}
use Rattle.ir_module.specs.declared.module.Spot.{Spot}
use Rattle.ir_module.specs.declared.module.Module.{Module}
use Rattle.ir_module.specs.Places.{spot, instr_at, IsSegInBlock}
use Rattle.ir_module.specs.Calls.{has_blocks}
use Rattle.ir_module.proofs.Spots.{stands, at_spot}
use Rattle.facts.specs.declared.pos.Pos.{Pos}
use Rattle.facts.specs.Bodies.{is_body}
use Rattle.facts.specs.Facts.{Fact, segment, dead, dead_at}
use Rattle.facts.specs.Masks.{is_bit}
use Rattle.facts.specs.DeadEdges.{is_never, is_dead_edge, WaySpeaks, EdgeSpeaks}
use Rattle.facts.specs.Dead.{IsEntry, IsStart, IsUncalled, IsUnreached, IsBehindNoReturn, IsDead, DeadSpeaks}
use Rattle.facts.specs.Justified.{JustifiedAt}
use Rattle.aa_control.specs.Control.{AsksControl, SpeaksControl}
use Rattle.aa_control.specs.Coming.{AsksFrom, SpeaksFrom, AsksDeads, SpeaksDeads}
use Rattle.aa_control.proofs.Died.{dead_bit}

crash : {A : Type 0} → false ≡ true → A
crash e = absurd (cc)

body_there : (m : Module) (f : ℕ) → is_body m f ≡ true → (func : Func) × (slice_get m.funcs f ≡ Some func)
body_there m f e = by (slice_get m.funcs f) refl e
  where
    by : (o : Option Func) → slice_get m.funcs f ≡ o → has_blocks o ≡ true → (func : Func) × (slice_get m.funcs f ≡ Some func)
    by (Some func) is e = (func, is)
    by None is e = crash e

rest : (a b : Bool) → a ≡ false → (a || b) ≡ true → b ≡ true
rest false b e h = h
rest true b e h = absurd (cc)

module _ (m : Module) (held : Fact → Bool) where
  -- the rule of a segment, from what is asked of it
  pub dead_down : (k bit : ℕ) → AsksDeads m held (segment k) bit → is_bit m (segment k) bit ≡ true → JustifiedAt m held (segment k) bit
  dead_down k bit w has = (dead_bit m k bit has, record { entry = entry; start = start; later = later })
    where
      from : (s : Spot) (i : Instr) → instr_at m s ≡ Some i → AsksFrom m s.seg.0 i held (segment k) bit
      from s i there = let here = stands m s i there in w.1 s.seg.0 here.seg here.at_seg s.at i here.at_place

      entry : (f : ℕ) → IsEntry m f k → IsUncalled m held f
      entry f is = record {
        closed = (let func = body_there m f is.0 in w.0 f func.0 func.1 k is refl has);
        callers = λ s i there calls. (from s i there).0 f k calls is refl has;
      }

      start : (i : ℕ) → IsStart m i k → IsUnreached m held i
      start j is t n e at to = by (held (dead_at t)) refl
        where
          never : held (dead_at t) ≡ false → is_never m held e.way (instr_at m t) ≡ true
          never live = subst (λ o. is_never m held e.way o ≡ true) (sym at.at_spot)
              ((from t at.instr at.at_spot).1.0 n e at.is_edge k (subst (λ b. IsStart m b k) (sym to) is) refl has live)

          by : (b : Bool) → held (dead_at t) ≡ b → is_dead_edge m held t e ≡ true
          by true is = or_left (held (dead_at t)) (is_never m held e.way (instr_at m t)) is
          by false is = or_right (held (dead_at t)) (is_never m held e.way (instr_at m t)) (never is)

      later : IsBehindNoReturn m held k
      later s i before there call live =
          (from s i there).1.1 before.block before.here (subst (IsSegInBlock m before.block) (sym before.next) before.there) call
          (ap segment (sym before.next)) has live

  -- and the other way round
  pub dead_up : (p : Pos) (bit : ℕ) → AsksControl m held p bit → AsksDeads m held p bit
  dead_up p bit h = (
    λ f func at_func k is here has. ((rule k here has).entry f is).closed,
    λ q seg at_seg at i at_place. from q at i (at_spot m (spot q at) seg i at_seg at_place),
  )
    where
      rule : (k : ℕ) → p ≡ segment k → is_bit m p bit ≡ true → IsDead m held k
      rule k here has = (subst (λ r. AsksControl m held r bit) here h refl (subst (λ r. is_bit m r bit ≡ true) here has)).1

      from : (q at : ℕ) (i : Instr) → instr_at m (spot q at) ≡ Some i → AsksFrom m q i held p bit
      from q at i there = (
        λ f k calls is here has. ((rule k here has).entry f is).callers (spot q at) i there calls,
        (
          λ n e is_edge k is here has live. subst (λ o. is_never m held e.way o ≡ true) there
              (rest (held (dead q)) (is_never m held e.way (instr_at m (spot q at))) live
              ((rule k here has).start e.to.0 is (spot q at) n e (record { instr = i; at_spot = there; is_edge = is_edge }) refl)),
          λ b first second call here has live.
              (rule (q + 1) here has).later (spot q at) i (record { block = b; next = refl; here = first; there = second }) there call live,
        ),
      )

-- ---- what is spoken of

module _ (m : Module) where
  -- what one place speaks of is a part of the rule
  told : (p : Pos) (k : ℕ) (y : Fact) → p ≡ segment k → is_bit m p DEAD ≡ true → DeadSpeaks m k y → SpeaksControl m p y
  told p k y here has speaks = subst (λ r. SpeaksControl m r y) (sym here) (DEAD, refl, subst (λ r. is_bit m r DEAD ≡ true) here has, speaks)

  module _ (q at : ℕ) (i : Instr) (there : instr_at m (spot q at) ≡ Some i) (p : Pos) (y : Fact) where
    edge_told : (e : Edge) → (y ≡ dead q) ⊎ WaySpeaks m e.way (Some i) y → EdgeSpeaks m (spot q at) e y
    edge_told e (inl same) = inl same
    edge_told e (inr v) = inr (subst (λ o. WaySpeaks m e.way o y) (sym there) v)

    from_told : SpeaksFrom m q i p y → SpeaksControl m p y
    from_told (inl v) = told p v.1 y v.4 v.5 (inl (v.0, v.3, (spot q at, i, there, v.2, v.6)))
    from_told (inr (inl v)) =
        let w = v.3 in
        told p w.0 y w.2 w.3 (inr (inl ((v.1).to.0, w.1, (spot q at, v.0, v.1, record { instr = i; at_spot = there; is_edge = v.2 }, refl, edge_told v.1 w.4))))
    from_told (inr (inr v)) =
        told p (q + 1) y v.4 v.5 (inr (inr (spot q at, i, record { block = v.0; next = refl; here = v.1; there = v.2 }, there, v.3, v.6)))

  pub deads_down : (p : Pos) (y : Fact) → SpeaksDeads m p y → SpeaksControl m p y
  deads_down p y (inl w) = absurd w.3
  deads_down p y (inr w) = let v = w.3 in from_told w.0 v.0 v.1 (at_spot m (spot w.0 v.0) w.1 v.1 w.2 v.2) p y v.3

  module _ (k : ℕ) (y : Fact) where
    placed : (s : Spot) (i : Instr) → instr_at m s ≡ Some i → SpeaksFrom m s.seg.0 i (segment k) y → SpeaksDeads m (segment k) y
    placed s i there v = let here = stands m s i there in inr (s.seg.0, here.seg, here.at_seg, (s.at, i, here.at_place, v))

    edge_back : (t : Spot) (i : Instr) (e : Edge) → instr_at m t ≡ Some i → EdgeSpeaks m t e y → (y ≡ dead_at t) ⊎ WaySpeaks m e.way (Some i) y
    edge_back t i e there (inl same) = inl same
    edge_back t i e there (inr v) = inr (subst (λ o. WaySpeaks m e.way o y) there v)

    pub deads_up : is_bit m (segment k) DEAD ≡ true → DeadSpeaks m k y → SpeaksDeads m (segment k) y
    deads_up has (inl v) =
        let c = v.2 in
        placed c.0 c.1 c.2 (inl (v.0, k, c.3, v.1, refl, has, c.4))
    deads_up has (inr (inl v)) =
        let c = v.2 in
        let at = c.3 in
        placed c.0 at.instr at.at_spot (inr (inl (
          c.1,
          c.2,
          at.is_edge,
          (k, subst (λ b. IsStart m b k) (sym c.4) v.1, refl, has, edge_back c.0 at.instr c.2 at.at_spot c.5),
        )))
    deads_up has (inr (inr c)) =
        let before = c.2 in
        placed c.0 c.1 c.3 (inr (inr (
          before.block,
          before.here,
          subst (IsSegInBlock m before.block) (sym before.next) before.there,
          c.4,
          ap segment (sym before.next),
          has,
          c.5,
        )))
