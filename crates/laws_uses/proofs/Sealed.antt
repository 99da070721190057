-- The invariant, of all secrets at once. A secret is what came into a call that stands, and whose parameter has the fact, as that
-- parameter. In the frame of that call only values with the fact have its mark. Each frame above it knows of it what its
-- arguments brought: each of them was passed to a parameter with the fact, or to an outer call that promises the like, or
-- has the mark of such a promise further down. And nothing of it lies in memory or is kept.
use Rattle.std.proofs.Common.{◌≡◌, ℕ, ◌++◌, Bool, true, false, List, [], ◌∷◌, slice_get, Option, Some, refl, sym, ap, subst, ◌⊎◌}
use Rattle.shelf.proofs.Every.{every_append}
use Rattle.std.specs.List.{AllByRecursion}
use Rattle.ir_module.specs.declared.op.Instr.{Instr}
use Rattle.ir_module.specs.declared.module.Param.{Param}
use Rattle.ir_module.specs.declared.module.Spot.{Spot}
use Rattle.ir_module.specs.declared.module.Module.{Module}
use Rattle.ir_module.specs.Places.{instr_at}
use Rattle.facts.specs.Kinds.{Access}
use Rattle.facts.specs.Bodies.{param_of}
use Rattle.facts.specs.Facts.{Fact}
use Rattle.facts.specs.Uses.{ArgUsed}
use Rattle.ir_machine.specs.declared.choice.Byte.TheVariants as byte
use Rattle.ir_machine.specs.declared.choice.Value.{Value}
use Rattle.ir_machine.specs.Memory.{put}
use Rattle.ir_machine.specs.Frames.{At, Begun, BodyFrame, Frame, Body, Outside, call_of as call_in, State, What, Read, Write, Capture, Return}
use Rattle.ir_machine.specs.Moves.{Move, Says, Grows, Turns, Fills, Keeps, Sets, Goes, Takes, Begins, Ends, moved, with_value, at_spot, with_hand, set_on_top}
use Rattle.ir_machine.specs.Moves.{gone_on_top, taken_on_top, under_top}
use Rattle.ir_machine.specs.Valid.{IsByteOf}
use Rattle.ir_machine.proofs.Basics.{put_has}
use Rattle.laws_uses.proofs.Marks.{Marked, Has, IsFrom}
use Rattle.laws_uses.proofs.Levels.{kind_of, Level, OnCapture, OnRead, OnWrite}

module _ (m : Module) (held : Fact → Bool) (access : Option Access) where
  -- ---- secrets and what guards them

  -- parameter j of the frame's body has the fact at this level
  abbrev pub IsSecret : BodyFrame → ℕ → Bool → Type 0
  IsSecret frame j u = (p : Param) × (param_of m frame.func j ≡ Some p) × Level held access u p.value.0

  -- the call was made at an instruction that promises of argument k what the fact asks of an outer call
  abbrev pub Promises : Begun → ℕ → Type 0
  Promises call k = (s : Spot) × (instr : Instr) × (call.made ≡ At s) × (instr_at m s ≡ Some instr) × ArgUsed m (kind_of access) k instr.op

  -- an outer call that promises so has a mark of the value
  abbrev pub Guards : Frame → Value → Type 0
  Guards (Outside frame) x = (k : ℕ) × Promises frame.call k × Has frame.call.number k x
  Guards (Body frame) x = ⊥

  -- one of these frames does
  abbrev pub Guarded : List Frame → Value → Type 0
  Guarded [] x = ⊥
  Guarded (frame ∷ frames) x = Guards frame x ⊎ Guarded frames x

  -- argument k goes to a parameter that has the fact, or is promised so
  abbrev pub IsSafe : Frame → ℕ → Type 0
  IsSafe (Body frame) k = IsSecret frame k false
  IsSafe (Outside frame) k = Promises frame.call k

  -- ---- what a frame knows of a secret of a call under it

  -- each value that it has came in as an argument
  abbrev pub ValuesCame : Frame → ℕ → ℕ → Type 0
  ValuesCame (Body frame) c j = (v : ℕ) (y : Value) → frame.values v ≡ Some y → Has c j y → IsFrom frame.call c j y
  ValuesCame (Outside frame) c j = AllByRecursion (λ y. Has c j y → IsFrom frame.call c j y) frame.hand

  -- each argument came in to the frame under it, where that one is above the secret's call too
  abbrev pub ArgumentsCame : List Frame → Begun → ℕ → ℕ → Type 0
  ArgumentsCame [] call c j = Unit {0}
  ArgumentsCame (under ∷ frames) call c j = (k : ℕ) (x : Value) → slice_get call.passed k ≡ Some x → Has c j x → IsFrom (call_in under) c j x

  pub record IsSealedIn (frames : List Frame) (frame : Frame) (c j : ℕ) : Type 0 where
    pub arguments : (k : ℕ) (x : Value) → slice_get (call_in frame).passed k ≡ Some x → Has c j x → IsSafe frame k ⊎ Guarded frames x
    pub passed : ArgumentsCame frames (call_in frame) c j
    pub values : ValuesCame frame c j

  -- so in each of these frames
  abbrev pub IsSealed : List Frame → ℕ → ℕ → Type 0
  IsSealed [] c j = Unit {0}
  IsSealed (frame ∷ frames) c j = IsSealedIn frames frame c j × IsSealed frames c j

  -- ---- in the frame of the secret's call

  -- a value with a mark of the frame's own call has the fact, at the level of the parameter
  abbrev pub Owns : BodyFrame → (ℕ → Option Value) → Type 0
  Owns frame values = (j : ℕ) (u : Bool) → IsSecret frame j u → (v : ℕ) (y : Value) → values v ≡ Some y → Has frame.call.number j y → Level held access u v

  abbrev pub OwnsWell : Frame → Type 0
  OwnsWell (Body frame) = Owns frame frame.values
  OwnsWell (Outside frame) = Unit {0}

  -- ---- in memory
  pub record IsClean (t : State) (c j : ℕ) : Type 0 where
    pub bytes : (b at : ℕ) → IsByteOf (λ x. Has c j x → ⊥) (t.memory.bytes b at)
    pub kept : AllByRecursion (λ x. Has c j x → ⊥) t.kept

  -- ---- all secrets of a stack

  -- Q of each secret of a frame of the stack, by the frames above that one
  abbrev pub ForSecrets : List Frame → (List Frame → BodyFrame → ℕ → Type 0) → Type 0
  ForSecrets stack Q = (above : List Frame) (frame : BodyFrame) (below : List Frame) → stack ≡ above ++ (Body frame ∷ below) → (j : ℕ) →
      IsSecret frame j false → Q above frame j

  -- of the frame on top, and of those under it
  pub for_top : (Q : List Frame → BodyFrame → ℕ → Type 0) (top : Frame) (rest : List Frame) →
      ((frame : BodyFrame) → top ≡ Body frame → (j : ℕ) → IsSecret frame j false → Q [] frame j) →
      ForSecrets rest (λ above frame j. Q (top ∷ above) frame j) → ForSecrets (top ∷ rest) Q
  for_top Q top rest on_top on_rest [] frame below e j secret = let is : top ≡ Body frame = cc in on_top frame is j secret
  for_top Q top rest on_top on_rest (f ∷ above) frame below e j secret =
      let first : top ≡ f = cc in
      let later : rest ≡ above ++ (Body frame ∷ below) = cc in
      subst (λ f. Q (f ∷ above) frame j) first (on_rest above frame below later j secret)

  pub under_top_of : (Q : List Frame → BodyFrame → ℕ → Type 0) (top : Frame) (rest : List Frame) → ForSecrets (top ∷ rest) Q →
      ForSecrets rest (λ above frame j. Q (top ∷ above) frame j)
  under_top_of Q top rest all above frame below e j secret = all (top ∷ above) frame below (ap (λ l. top ∷ l) e) j secret

  pub top_of : (Q : List Frame → BodyFrame → ℕ → Type 0) (frame : BodyFrame) (rest : List Frame) → ForSecrets (Body frame ∷ rest) Q →
      (j : ℕ) → IsSecret frame j false → Q [] frame j
  top_of Q frame rest all j secret = all [] frame rest refl j secret

  abbrev pub KeptOf : State → List Frame → BodyFrame → ℕ → Type 0
  KeptOf t above frame j = IsSealed above frame.call.number j × IsClean t frame.call.number j

  -- the invariant
  pub record Inv (t : State) : Type 0 where
    pub own : AllByRecursion OwnsWell t.stack
    pub kept : ForSecrets t.stack (KeptOf t)

  -- ---- what is asked of what happens

  -- nothing with the mark is captured, read through or written through, by the kind of the fact
  abbrev pub IsClear : ℕ → ℕ → What → Type 0
  IsClear c j (Capture origins) = OnCapture access (Marked c j origins → ⊥)
  IsClear c j (Read block origins) = OnRead access (Marked c j origins → ⊥)
  IsClear c j (Write block origins) = OnWrite access (Marked c j origins → ⊥)
  IsClear c j _ = Unit {0}

  -- the frame on top returns no secret of its own that is not returned
  abbrev pub ReturnsClear : List Frame → What → Type 0
  ReturnsClear (Body frame ∷ rest) (Return (Some x)) = (j : ℕ) → IsSecret frame j true → Has frame.call.number j x → ⊥
  ReturnsClear _ _ = Unit {0}

  abbrev pub HappensClear : List Frame → What → Type 0
  HappensClear stack what = ForSecrets stack (λ above frame j. IsClear frame.call.number j what) × ReturnsClear stack what

  -- ---- what is asked of each move

  -- a value that the module frame on top makes
  abbrev pub SetsWell : List Frame → ℕ → Value → Type 0
  SetsWell (Body frame ∷ rest) v x =
      ((j : ℕ) (u : Bool) → IsSecret frame j u → Has frame.call.number j x → Level held access u v) ×
      ForSecrets rest (λ above low j. Has low.call.number j x → IsFrom frame.call low.call.number j x)
  SetsWell _ v x = Unit {0}

  -- a value that comes into the hand of the outside frame on top
  abbrev pub TakesWell : List Frame → Value → Type 0
  TakesWell (Outside frame ∷ rest) x = ForSecrets rest (λ above low j. Has low.call.number j x → IsFrom frame.call low.call.number j x)
  TakesWell _ x = Unit {0}

  -- nothing of a call that begins is anywhere yet
  abbrev pub IsNew : State → Frame → Type 0
  IsNew t (Body frame) = (j : ℕ) → IsClean t frame.call.number j
  IsNew t (Outside frame) = Unit {0}

  pub record BeginsWell (t : State) (frame : Frame) : Type 0 where
    pub own : OwnsWell frame
    pub new : IsNew t frame
    pub seals : ForSecrets t.stack (λ above low j. IsSealedIn above frame low.call.number j)

  abbrev pub C : State → Move → Type 0
  C t (Says what) = HappensClear t.stack what
  C t (Grows shape) = Unit {0}
  C t (Turns block life') = Unit {0}
  C t (Fills block bytes) = ForSecrets t.stack (λ above frame j. (at : ℕ) → IsByteOf (λ x. Has frame.call.number j x → ⊥) (bytes at))
  C t (Keeps x) = ForSecrets t.stack (λ above frame j. Has frame.call.number j x → ⊥)
  C t (Sets v x) = SetsWell t.stack v x
  C t (Goes spot) = Unit {0}
  C t (Takes x) = TakesWell t.stack x
  C t (Begins frame) = BeginsWell t frame
  C t Ends = Unit {0}

  -- ---- each move keeps the invariant

  pub set_owns : (frame : BodyFrame) (v : ℕ) (x : Value) → Owns frame frame.values →
      ((j : ℕ) (u : Bool) → IsSecret frame j u → Has frame.call.number j x → Level held access u v) → Owns frame (put v (Some x) frame.values)
  set_owns frame v x owns new j u secret w y is has =
      put_has (λ n o. (y : Value) → o ≡ Some y → Has frame.call.number j y → Level held access u n) v (Some x) frame.values w
      (λ y e has. new j u secret (let same : y ≡ x = cc in subst (Has frame.call.number j) same has)) (λ y e has. owns j u secret w y e has) y is has

  pub set_came : (frame : BodyFrame) (v : ℕ) (x : Value) (c j : ℕ) → ValuesCame (Body frame) c j → (Has c j x → IsFrom frame.call c j x) →
      ValuesCame (Body (with_value v x frame)) c j
  set_came frame v x c j came new w y is has =
      put_has (λ n o. (y : Value) → o ≡ Some y → Has c j y → IsFrom frame.call c j y) v (Some x) frame.values w
      (λ y e has. let same : x ≡ y = cc in subst (IsFrom frame.call c j) same (new (subst (Has c j) (sym same) has))) (λ y e has. came w y e has) y is has

  set_inv : (t : State) (stack : List Frame) (v : ℕ) (x : Value) → SetsWell stack v x → AllByRecursion OwnsWell stack → ForSecrets stack (KeptOf t) →
      AllByRecursion OwnsWell (set_on_top v x stack) × ForSecrets (set_on_top v x stack) (KeptOf t)
  set_inv t [] v x well own kept = (own, kept)
  set_inv t (Outside frame ∷ rest) v x well own kept = (own, kept)
  set_inv t (Body frame ∷ rest) v x well own kept = (
    (set_owns frame v x own.0 well.0, own.1),
    for_top (KeptOf t) (Body (with_value v x frame)) rest
        (λ low e j secret.
        let number : with_value v x frame ≡ low = cc in
        let old : IsSecret frame j false = subst (λ (f : BodyFrame). IsSecret (record frame { func = f.func }) j false) (sym number) secret in
        (tt, subst (λ (f : BodyFrame). IsClean t f.call.number j) number (top_of (KeptOf t) frame rest kept j old).1))
        (λ above low below e j secret.
        let old = under_top_of (KeptOf t) (Body frame) rest kept above low below e j secret in (
          (
            record {
              arguments = old.0.0.arguments;
              passed = old.0.0.passed;
              values = set_came frame v x low.call.number j old.0.0.values (well.1 above low below e j secret);
            },
            old.0.1,
          ),
          old.1,
        )),
  )

  gone_inv : (t : State) (stack : List Frame) (s : Spot) → AllByRecursion OwnsWell stack → ForSecrets stack (KeptOf t) →
      AllByRecursion OwnsWell (gone_on_top s stack) × ForSecrets (gone_on_top s stack) (KeptOf t)
  gone_inv t [] s own kept = (own, kept)
  gone_inv t (Outside frame ∷ rest) s own kept = (own, kept)
  gone_inv t (Body frame ∷ rest) s own kept = (
    (own.0, own.1),
    for_top (KeptOf t) (Body (at_spot s frame)) rest
        (λ low e j secret.
        let number : at_spot s frame ≡ low = cc in
        let old : IsSecret frame j false = subst (λ (f : BodyFrame). IsSecret (record frame { func = f.func }) j false) (sym number) secret in
        (tt, subst (λ (f : BodyFrame). IsClean t f.call.number j) number (top_of (KeptOf t) frame rest kept j old).1))
        (λ above low below e j secret.
        let old = under_top_of (KeptOf t) (Body frame) rest kept above low below e j secret in
        ((record { arguments = old.0.0.arguments; passed = old.0.0.passed; values = old.0.0.values }, old.0.1), old.1)),
  )

  taken_inv : (t : State) (stack : List Frame) (x : Value) → TakesWell stack x → AllByRecursion OwnsWell stack → ForSecrets stack (KeptOf t) →
      AllByRecursion OwnsWell (taken_on_top x stack) × ForSecrets (taken_on_top x stack) (KeptOf t)
  taken_inv t [] x well own kept = (own, kept)
  taken_inv t (Body frame ∷ rest) x well own kept = (own, kept)
  taken_inv t (Outside frame ∷ rest) x well own kept = (
    (tt, own.1),
    for_top (KeptOf t) (Outside (with_hand x frame)) rest (λ low e j secret. absurd (cc))
        (λ above low below e j secret.
        let old = under_top_of (KeptOf t) (Outside frame) rest kept above low below e j secret in (
          (
            record {
              arguments = old.0.0.arguments;
              passed = old.0.0.passed;
              values = every_append (λ y. Has low.call.number j y → IsFrom frame.call low.call.number j y) frame.hand (x ∷ []) old.0.0.values
                  (well above low below e j secret, tt);
            },
            old.0.1,
          ),
          old.1,
        )),
  )

  ended_inv : (t : State) (stack : List Frame) → AllByRecursion OwnsWell stack → ForSecrets stack (KeptOf t) →
      AllByRecursion OwnsWell (under_top stack) × ForSecrets (under_top stack) (KeptOf t)
  ended_inv t [] own kept = (own, kept)
  ended_inv t (top ∷ rest) own kept = (
    own.1,
    λ above low below e j secret.
        let old = under_top_of (KeptOf t) top rest kept above low below e j secret in (old.0.1, old.1),
  )

  begun_inv : (t : State) (frame : Frame) → BeginsWell t frame → AllByRecursion OwnsWell t.stack → ForSecrets t.stack (KeptOf t) →
      ForSecrets (frame ∷ t.stack) (KeptOf t)
  begun_inv t frame well own kept =
      for_top (KeptOf t) frame t.stack
      (λ low e j secret. (tt, (subst (IsNew t) e well.new) j))
      (λ above low below e j secret.
      let old = kept above low below e j secret in ((well.seals above low below e j secret, old.0), old.1))

  -- memory and what is kept stay clean in a state with the same of them
  clean_as : (t u : State) (c j : ℕ) → ((b at : ℕ) → IsByteOf (λ x. Has c j x → ⊥) (u.memory.bytes b at)) → AllByRecursion (λ x. Has c j x → ⊥) u.kept →
      IsClean u c j
  clean_as t u c j bytes kept = record { bytes = bytes; kept = kept }

  kept_as : (t u : State) (stack : List Frame) → ((c j : ℕ) → IsClean t c j → IsClean u c j) → ForSecrets stack (KeptOf t) → ForSecrets stack (KeptOf u)
  kept_as t u stack leads kept above low below e j secret =
      let old = kept above low below e j secret in (old.0, leads low.call.number j old.1)

  pub inv_moved : (t : State) (x : Move) → Inv t → C t x → Inv (moved t x)
  inv_moved t (Says what) inv c = inv
  inv_moved t (Grows shape) inv c = record {
    own = inv.own;
    kept = kept_as t (moved t (Grows shape)) t.stack
        (λ c j clean. record {
          bytes = λ b at. put_has (λ n bytes. IsByteOf (λ x. Has c j x →
              ⊥) (bytes at)) t.memory.count (λ at. byte.Undef) t.memory.bytes b tt (clean.bytes b at);
          kept = clean.kept;
        }) inv.kept;
  }
  inv_moved t (Turns block life') inv c = record {
    own = inv.own;
    kept = kept_as t (moved t (Turns block life')) t.stack (λ c j clean. record { bytes = clean.bytes; kept = clean.kept }) inv.kept;
  }
  inv_moved t (Fills block bytes) inv c = record {
    own = inv.own;
    kept = λ above low below e j secret.
        let old = inv.kept above low below e j secret in (
          old.0,
          record {
            bytes = λ b at. put_has (λ n bytes. IsByteOf (λ x. Has low.call.number j x → ⊥) (bytes at)) block bytes t.memory.bytes b
                (c above low below e j secret at) (old.1.bytes b at);
            kept = old.1.kept;
          },
        );
  }
  inv_moved t (Keeps x) inv c = record {
    own = inv.own;
    kept = λ above low below e j secret.
        let old = inv.kept above low below e j secret in (
          old.0,
          record {
            bytes = old.1.bytes;
            kept = every_append (λ x. Has low.call.number j x → ⊥) t.kept (x ∷ []) old.1.kept (c above low below e j secret, tt);
          },
        );
  }
  inv_moved t (Sets v x) inv c =
      let both = set_inv t t.stack v x c inv.own inv.kept in record {
        own = both.0;
        kept = kept_as t (moved t (Sets v x)) (set_on_top v x t.stack) (λ c j clean. record { bytes = clean.bytes; kept = clean.kept }) both.1;
      }
  inv_moved t (Goes s) inv c =
      let both = gone_inv t t.stack s inv.own inv.kept in record {
        own = both.0;
        kept = kept_as t (moved t (Goes s)) (gone_on_top s t.stack) (λ c j clean. record { bytes = clean.bytes; kept = clean.kept }) both.1;
      }
  inv_moved t (Takes x) inv c =
      let both = taken_inv t t.stack x c inv.own inv.kept in record {
        own = both.0;
        kept = kept_as t (moved t (Takes x)) (taken_on_top x t.stack) (λ c j clean. record { bytes = clean.bytes; kept = clean.kept }) both.1;
      }
  inv_moved t (Begins frame) inv c = record {
    own = (c.own, inv.own);
    kept = kept_as t (moved t (Begins frame)) (frame ∷ t.stack) (λ c j clean. record { bytes = clean.bytes; kept = clean.kept })
        (begun_inv t frame c inv.own inv.kept);
  }
  inv_moved t Ends inv c =
      let both = ended_inv t t.stack inv.own inv.kept in record {
        own = both.0;
        kept = kept_as t (moved t Ends) (under_top t.stack) (λ c j clean. record { bytes = clean.bytes; kept = clean.kept }) both.1;
      }
