-- From single steps to whole runs: what the facts of uses say holds in every honest run.
use Rattle.std.proofs.Common.{◌≡◌, ℕ, zero, suc, ◌++◌, ◌||◌, Bool, true, false, List, [], ◌∷◌, slice_get, map, All, Option, None, Some, refl, sym, ap, subst}
use Rattle.std.proofs.Common.{◌∙◌, inl, inr}
use Rattle.std.proofs.lemmas.Bool.{or_cases}
use Rattle.shelf.proofs.Every.{every_mapped}
use Rattle.std.specs.List.{AllByRecursion}
use Rattle.std.proofs.lemmas.List.Elements.{recursion_from_All, All-from_recursion}
use Rattle.ir_module.specs.declared.module.Param.{Param}
use Rattle.ir_module.specs.declared.module.Module.{Module}
use Rattle.ir_module.specs.WellFormed.{IsWellFormed}
use Rattle.facts.specs.Kinds.{Access, Read as Reads, Write as Writes, CapturedByReturnAlone, NotThrough}
use Rattle.facts.specs.Bodies.{param_of}
use Rattle.facts.specs.Facts.{Fact}
use Rattle.ir_machine.specs.declared.choice.Byte.{Byte}
use Rattle.ir_machine.specs.declared.choice.Byte.TheVariants as byte
use Rattle.ir_machine.specs.declared.choice.Value.{Value}
use Rattle.ir_machine.specs.declared.choice.Mark.{Mark}
use Rattle.ir_machine.specs.declared.choice.Choice.{Choice}
use Rattle.ir_machine.specs.Frames.{Active, active, BodyFrame, OutsideFrame, Frame, Body, Outside, State, What, Capture, Read, Write, Return, Event, event}
use Rattle.ir_machine.specs.Runs.{Done, IsOpening, run, events_of}
use Rattle.ir_machine.specs.Meanings.{IsBy, IsDuring}
use Rattle.ir_machine.specs.Honest.{IsFair, IsHonest}
use Rattle.ir_machine.specs.Valid.{IsValid, IsByteOf}
use Rattle.ir_machine.proofs.Basics.{Shown, of_events, of_steps}
use Rattle.ir_machine.proofs.Linked.{Linked, RunTheirCallees, all_linked}
use Rattle.ir_machine.proofs.Arguments.{Passed, all_passed}
use Rattle.ir_machine.proofs.Opening.{opening_valid}
use Rattle.ir_machine.proofs.Running.{ValidLaw, valid_run}
use Rattle.fact_meanings.specs.Runs.{has_use, is_unstored, UsesHold, IsCleanByte, IsClean as StaysCleanIn, Stands, StaysClean, IsParamOf, ParamUsesHold}
use Rattle.law_premises.specs.Premises.{JustifiesItself, IsControlled, KeepsTypes}
use Rattle.laws_uses.proofs.Marks.{Marked, Has}
use Rattle.laws_uses.proofs.Levels.{Level}
use Rattle.laws_uses.proofs.Sealed.{IsSecret, OwnsWell, ForSecrets, for_top, KeptOf, Inv, IsClean, IsClear, ReturnsClear, HappensClear, C, inv_moved}
use Rattle.laws_uses.proofs.Acting.{Given}
use Rattle.laws_uses.proofs.Outer.{uses_step}

both_of : {A : Type 0} (P Q R : A → Type 0) (xs : List A) → ((x : A) → P x → Q x → R x) → AllByRecursion P xs → AllByRecursion Q xs → AllByRecursion R xs
both_of P Q R [] leads p q = tt
both_of P Q R (x ∷ xs) leads p q = (leads x p.0 q.0, both_of P Q R xs leads p.1 q.1)

-- a call of a body that stands has a frame
find_frame : (stack : List Frame) (i : ℕ) (a : Active) (f : ℕ) → slice_get (map active stack) i ≡ Some a → a.body ≡ Some f →
    (above : List Frame) × (low : BodyFrame) × (below : List Frame) × (stack ≡ above ++ (Body low ∷ below)) × (active (Body low) ≡ a)
find_frame [] i a f at body = absurd (cc)
find_frame (Body low ∷ below) zero a f at body = ([], low, below, refl, cc)
find_frame (Outside frame ∷ below) zero a f at body =
    let same : active (Outside frame) ≡ a = cc in
    let none : None ≡ Some f = ap (λ (a : Active). a.body) same ∙ body in absurd (cc)
find_frame (top ∷ below) (suc i) a f at body =
    let later = find_frame below i a f at body in
    (top ∷ later.0, later.1, later.2, ap (λ l. top ∷ l) later.3, later.4)

module _ (m : Module) (held : Fact → Bool) (access : Option Access) where
  -- what is shown of each event
  pub record IsWell (e : Event) : Type 0 where
    pub clear : (i : ℕ) (a : Active) (f j : ℕ) (p : Param) → slice_get e.calls i ≡ Some a → a.body ≡ Some f → param_of m f j ≡ Some p →
        Level held access false p.value.0 → IsClear m held access a.call.number j e.what
    pub returned : (a : Active) (f j : ℕ) (p : Param) (x : Value) → IsBy a e → a.body ≡ Some f → param_of m f j ≡ Some p → Level held access true p.value.0 →
        e.what ≡ Return (Some x) → Has a.call.number j x → ⊥

  secret_of : (low : BodyFrame) (a : Active) (f j : ℕ) (p : Param) (u : Bool) → active (Body low) ≡ a → a.body ≡ Some f → param_of m f j ≡ Some p →
      Level held access u p.value.0 → IsSecret m held access low j u
  secret_of low a f j p u same body at level =
      let func : Some low.func ≡ Some f = ap (λ (a : Active). a.body) same ∙ body in
      let number : low.func ≡ f = cc in
      (p, subst (λ f. param_of m f j ≡ Some p) (sym number) at, level)

  happens_well : (t : State) (what : What) → HappensClear m held access t.stack what → IsWell (event t.stack what)
  happens_well t what happens = record {
    clear = λ i a f j p at body param level.
        let found = find_frame t.stack i a f at body in
        subst (λ (a : Active). IsClear m held access a.call.number j what) found.4
        (happens.0 found.0 found.1 found.2 found.3 j (secret_of found.1 a f j p false found.4 body param level));
    returned = λ a f j p x by body param level returns has.
        on_top x t.stack (subst (λ what. ReturnsClear m held access t.stack what) returns happens.1) a f j p by.0 by.1 body param level has;
  }
    where
      on_top : (x : Value) (stack : List Frame) → ReturnsClear m held access stack (Return (Some x)) →
          (a : Active) (f j : ℕ) (p : Param) (below : List Active) →
          map active stack ≡ a ∷ below → a.body ≡ Some f → param_of m f j ≡ Some p → Level held access true p.value.0 → Has a.call.number j x → ⊥
      on_top x [] clear a f j p below e body param level has = absurd (cc)
      on_top x (Outside frame ∷ rest) clear a f j p below e body param level has =
          let same : active (Outside frame) ≡ a = cc in
          let none : None ≡ Some f = ap (λ (a : Active). a.body) same ∙ body in absurd (cc)
      on_top x (Body low ∷ rest) clear a f j p below e body param level has =
          let same : active (Body low) ≡ a = cc in
          clear j (secret_of low a f j p true same body param level) (subst (λ (a : Active). Has a.call.number j x) (sym same) has)

  uses_law : ValidLaw (Inv m held access) (C m held access) IsWell
  uses_law = record {
    move = λ t x valid valid_next fits inv c. inv_moved m held access t x inv c;
    happens = λ t what valid inv c. happens_well t what c;
  }

  -- a stack of the lowest frame alone has no secrets
  no_secrets : (Q : List Frame → BodyFrame → ℕ → Type 0) (frame : OutsideFrame) → ForSecrets m held access (Outside frame ∷ []) Q
  no_secrets Q frame = for_top m held access Q (Outside frame) [] (λ low e j secret. absurd (cc)) empty
    where
      empty : ForSecrets m held access [] (λ above low j. Q (Outside frame ∷ above) low j)
      empty [] low below e j secret = absurd (cc)
      empty (top ∷ above) low below e j secret = absurd (cc)

-- ---- runs

module _ (m : Module) (formed : IsWellFormed m) (held : Fact → Bool) (is : JustifiesItself m held) (opening : State) (opens : IsOpening m opening)
    (choices : List Choice) (honest : IsHonest m (run m opening choices)) (controlled : All (IsControlled m held) (run m opening choices))
    (types : All (KeepsTypes m) (run m opening choices)) where
  abbrev steps : List Done
  steps = run m opening choices

  given_all : AllByRecursion (Given m held) steps
  given_all =
      both_of (λ d. IsControlled m held d × KeepsTypes m d) (λ d. Shown (Linked m formed) (RunTheirCallees m formed) d ×
      (Shown (Passed m) (λ e. Unit {0}) d × AllByRecursion (IsFair m) d.events)) (Given m held) steps
      (λ d two three. record { linked = three.0.before; passed = three.1.0.before; fair = three.1.1; controlled = two.0; types = two.1 })
      (both_of (IsControlled m held) (KeepsTypes m) (λ d. IsControlled m held d × KeepsTypes m d) steps (λ d c t. (c, t))
      (recursion_from_All (IsControlled m held) steps controlled) (recursion_from_All (KeepsTypes m) steps types))
      (both_of (Shown (Linked m formed) (RunTheirCallees m formed)) (λ d. Shown (Passed m) (λ e. Unit {0}) d × AllByRecursion (IsFair m) d.events)
      (λ d. Shown (Linked m formed) (RunTheirCallees m formed) d × (Shown (Passed m) (λ e. Unit {0}) d × AllByRecursion (IsFair m) d.events)) steps
      (λ d l r. (l, r)) (all_linked m formed opening opens choices)
      (both_of (Shown (Passed m) (λ e. Unit {0})) (λ d. AllByRecursion (IsFair m) d.events)
      (λ d. Shown (Passed m) (λ e. Unit {0}) d × AllByRecursion (IsFair m) d.events) steps (λ d p f. (p, f)) (all_passed m opening opens choices)
      (of_steps (IsFair m) steps (recursion_from_All (IsFair m) (events_of steps) honest))))

  all_uses : (access : Option Access) → AllByRecursion (Shown (λ t. IsValid t × Inv m held access t) (IsWell m held access)) steps
  all_uses access =
      valid_run m (Inv m held access) (Given m held) (C m held access) (IsWell m held access) (uses_law m held access)
      (λ t choice valid inv. uses_step m formed held is access t valid inv choice) choices opening (opening_valid m opening opens)
      (record {
        own = subst (AllByRecursion (OwnsWell m held access)) (sym opens.stack) (tt, tt);
        kept = subst (λ s. ForSecrets m held access s (KeptOf m held access opening)) (sym opens.stack) (no_secrets m held access (KeptOf m held access opening)
            _);
      })
      given_all

  all_events : (access : Option Access) → AllByRecursion (IsWell m held access) (events_of steps)
  all_events access =
      of_events (IsWell m held access) steps (every_mapped (Shown (λ t. IsValid t × Inv m held access t) (IsWell m held access))
      (λ (d : Done). AllByRecursion (IsWell m held access) d.events) steps (λ d shown. shown.events) (all_uses access))

  module _ (f at v : ℕ) (param : IsParamOf m f at v) (a : Active) (body : a.body ≡ Some f) where
    -- the parameter has the fact where the value has
    level_of : (access : Option Access) (u : Bool) → Level held access u v → Level held access u param.0.value.0
    level_of access u level = subst (λ v. Level held access u v) (sym param.2) level

    captured : (e : Event) → IsWell m held None e → has_use held v CapturedByReturnAlone ≡ true → IsDuring a e → (origins : List Mark) →
        e.what ≡ Capture origins →
        Marked a.call.number at origins → ⊥
    captured e well has during origins what =
        subst (λ what. IsClear m held None a.call.number at what) what (well.clear during.0 a f at param.0 during.1 body param.1 (level_of None false has))

    read : (e : Event) → IsWell m held (Some Reads) e → has_use held v (NotThrough Reads) ≡ true → IsDuring a e → (block : ℕ) (origins : List Mark) →
        e.what ≡ Read block origins → Marked a.call.number at origins → ⊥
    read e well has during block origins what =
        subst (λ what. IsClear m held (Some Reads) a.call.number at what) what
        (well.clear during.0 a f at param.0 during.1 body param.1 (level_of (Some Reads) false has))

    written : (e : Event) → IsWell m held (Some Writes) e → has_use held v (NotThrough Writes) ≡ true → IsDuring a e → (block : ℕ) (origins : List Mark) →
        e.what ≡ Write block origins → Marked a.call.number at origins → ⊥
    written e well has during block origins what =
        subst (λ what. IsClear m held (Some Writes) a.call.number at what) what
        (well.clear during.0 a f at param.0 during.1 body param.1 (level_of (Some Writes) false has))

    returned : (access : Option Access) (e : Event) → IsWell m held access e → Level held access true v → IsBy a e → (x : Value) → e.what ≡ Return (Some x) →
        Marked a.call.number at x.origins → ⊥
    returned access e well level by x what has = well.returned a f at param.0 x by body param.1 (level_of access true level) what has

    -- one of the three facts that refuse a store
    some_use : (P : Type 0) → is_unstored held v ≡ true → (has_use held v CapturedByReturnAlone ≡ true → P) → (has_use held v (NotThrough Reads) ≡ true → P) →
        (has_use held v (NotThrough Writes) ≡ true → P) → P
    some_use P e captured read written =
        elim (or_cases (has_use held v CapturedByReturnAlone || has_use held v (NotThrough Reads)) (has_use held v (NotThrough Writes)) e) [
          | inl first ↦ elim (or_cases (has_use held v CapturedByReturnAlone) (has_use held v (NotThrough Reads)) first) [
            | inl n ↦ captured n
            | inr r ↦ read r
          ]
          | inr w ↦ written w
        ]

    event_holds : (e : Event) → IsWell m held None e → IsWell m held (Some Reads) e → IsWell m held (Some Writes) e → UsesHold held v a at e
    event_holds e none reads writes = record {
      captured = λ has during origins what marked. captured e none has during origins what marked;
      returned = λ has unstored by x what marked. some_use ⊥ unstored (λ n. returned None e none (n, has) by x what marked)
          (λ r. returned (Some Reads) e reads (r, has) by x what marked) (λ w. returned (Some Writes) e writes (w, has) by x what marked);
      read = λ has during block origins what marked. read e reads has during block origins what marked;
      written = λ has during block origins what marked. written e writes has during block origins what marked;
    }

    clean_byte : (b : Byte) → IsByteOf (λ x. Has a.call.number at x → ⊥) b → IsCleanByte a at b
    clean_byte (byte.Number n) is = tt
    clean_byte byte.Undef is = tt
    clean_byte byte.Poison is = tt
    clean_byte (byte.Fragment k x) is = is

    clean_in : (access : Option Access) (t : State) → Inv m held access t → Level held access false v → Stands a t.stack → StaysCleanIn a at t
    clean_in access t inv level stands =
        let found = find_frame t.stack stands.0 a f (mapped_at t.stack stands.0 stands.1 stands.2 stands.3) body in
        let kept = (inv.kept found.0 found.1 found.2 found.3 at
        (secret_of m held access found.1 a f at param.0 false found.4 body param.1 (level_of access false level))).1 in
        let clean : IsClean m held access t a.call.number at = subst (λ (a : Active). IsClean m held access t a.call.number at) found.4 kept in record {
          bytes = λ b offset. clean_byte (t.memory.bytes b offset) (clean.bytes b offset);
          kept = clean.kept;
        }
      where
        mapped_at : (stack : List Frame) (k : ℕ) (frame : Frame) → slice_get stack k ≡ Some frame → active frame ≡ a → slice_get (map active stack) k ≡ Some a
        mapped_at [] k frame e same = absurd (cc)
        mapped_at (top ∷ stack) zero frame e same = let one : top ≡ frame = cc in ap Some (ap active one ∙ same)
        mapped_at (top ∷ stack) (suc k) frame e same = mapped_at stack k frame e same

  pub uses_of : (f at v : ℕ) → IsParamOf m f at v → ParamUsesHold m held f at v steps
  uses_of f at v param = record {
    events = λ a body.
        All-from_recursion (UsesHold held v a at) (events_of steps)
        (both_of (IsWell m held None) (λ e. IsWell m held (Some Reads) e × IsWell m held (Some Writes) e) (UsesHold held v a at) (events_of steps)
        (λ e none two. event_holds f at v param a body e none two.0 two.1) (all_events None)
        (both_of (IsWell m held (Some Reads)) (IsWell m held (Some Writes)) (λ e. IsWell m held (Some Reads) e × IsWell m held (Some Writes) e)
        (events_of steps) (λ e r w. (r, w)) (all_events (Some Reads)) (all_events (Some Writes))));
    clean = λ a body.
        All-from_recursion (StaysClean held v a at) steps
        (both_of (λ d. Inv m held None d.next) (λ d. Inv m held (Some Reads) d.next × Inv m held (Some Writes) d.next) (StaysClean held v a at) steps
        (λ d none two unstored stands. some_use f at v param a body (StaysCleanIn a at d.next) unstored
        (λ n. clean_in f at v param a body None d.next none n stands) (λ r. clean_in f at v param a body (Some Reads) d.next two.0 r stands)
        (λ w. clean_in f at v param a body (Some Writes) d.next two.1 w stands))
        (next_of None)
        (both_of (λ d. Inv m held (Some Reads) d.next) (λ d. Inv m held (Some Writes) d.next)
        (λ d. Inv m held (Some Reads) d.next × Inv m held (Some Writes) d.next) steps (λ d r w. (r, w)) (next_of (Some Reads)) (next_of (Some Writes))));
  }
    where
      next_of : (access : Option Access) → AllByRecursion (λ (d : Done). Inv m held access d.next) steps
      next_of access =
          every_mapped (Shown (λ t. IsValid t × Inv m held access t) (IsWell m held access)) (λ (d : Done). Inv m held access d.next) steps
          (λ d shown. shown.next.1) (all_uses access)
