-- What is asked of entries by the outside and by calls, and of returns, is what their rules ask.
use Rattle.std.proofs.Common.{◌≡◌, ◌∙◌, ◌⊎◌, ◌+◌, ◌<◌, ◌&&◌, inl, inr, ℕ, zero, suc, Bool, true, false, slice_get, Option, None, Some, MatchOption}
use Rattle.std.proofs.Common.{refl, sym, ap, subst, arith}
use Rattle.std.specs.Option.{option_map_or}
use Rattle.std.proofs.lemmas.Bool.{and_parts, cases_lt}
use Rattle.std.proofs.lemmas.Option.{none-some, same_Some}
use Rattle.lattice_words.specs.Ladders.{is_byte_bit, align_rungs}
use Rattle.lattice_words.specs.declared.value.TheConstants.{ALIGN_2}
use Rattle.ir_module.specs.declared.op.Op.{Op}
use Rattle.ir_module.specs.declared.op.Op.TheVariants as op
use Rattle.ir_module.specs.declared.op.Instr.{Instr}
use Rattle.ir_module.specs.declared.op.Written.{Written}
use Rattle.ir_module.specs.declared.module.Func.{Func}
use Rattle.ir_module.specs.declared.module.Param.{Param}
use Rattle.ir_module.specs.declared.module.Seg.{Seg}
use Rattle.ir_module.specs.declared.module.Spot.{Spot}
use Rattle.ir_module.specs.declared.module.Module.{Module}
use Rattle.ir_module.specs.Places.{spot, IsIn, IsSegIn}
use Rattle.ir_module.specs.Calls.{direct_callee}
use Rattle.ir_module.proofs.Spots.{stands, at_spot}
use Rattle.facts.specs.declared.pos.Pos.{Pos}
use Rattle.facts.specs.declared.pos.Pos.TheVariants as pos
use Rattle.facts.specs.Kinds.{ValueFact, SameAs, NonNull, AlignedTo, HasBytes, NotTo, UsedSo, OwnAlloca, Unknown, class_bit, value_fact}
use Rattle.facts.specs.Bodies.{param_of, param_in}
use Rattle.facts.specs.Facts.{Fact, fact, entry, returned, dead}
use Rattle.facts.specs.Masks.{is_bit, is_pointer_param}
use Rattle.facts.specs.Known.{arg_has, written_has, ArgSpeaks, OperandSpeaks}
use Rattle.facts.specs.Entry.{gives, IsLiveCall, ArePassedAligned, LastsAt, ArePassed, EntryHas, AlignSpeaks, EntrySpeaks}
use Rattle.facts.specs.Return.{Outlasts, RetHas, ReturnHas, OutlastSpeaks, RetSpeaks, ReturnSpeaks}
use Rattle.positions.specs.Numbering.{Numbered}
use Rattle.rule_terms.specs.System.{System}
use Rattle.rule_says.specs.Reading.{IsNumbering}
use Rattle.rule_says.specs.Meeting.{Meets}
use Rattle.rule_says.proofs.Mets.{meets_then, meets_within}
use Rattle.operand_says.proofs.Groups.{by_bool, clash}
use Rattle.aa_passing.specs.Entered.{is_given, AsksPass, AsksOutside, SpeaksOutside, SpeaksAligned, SpeaksPass, AsksInside, SpeaksInside}
use Rattle.aa_passing.specs.Returned.{AsksRetOf, SpeaksRetOf, AsksReturned, SpeaksReturned}
use Rattle.aa_passing.specs.Passing.{AsksPassing, SpeaksPassing}
use Rattle.aa_passing.proofs.Passed.{entry_low, entry_pointer}
use Rattle.aa_passing.proofs.Back.{return_low}

-- ---- what bits say

abbrev is_bytes : ValueFact → Bool
is_bytes (SameAs i) = false
is_bytes NonNull = false
is_bytes (AlignedTo n) = false
is_bytes (HasBytes n) = true
is_bytes (NotTo class) = false
is_bytes (UsedSo kind) = false

abbrev same_test : Bool → Bool → Bool
same_test true true = true
same_test true false = false
same_test false true = false
same_test false false = true

abbrev told_so : Bool → Option ValueFact → Bool
told_so byte None = false
told_so byte (Some kind) = same_test byte (is_bytes kind)

abbrev all_to : (ℕ → Bool) → ℕ → Bool
all_to test zero = true
all_to test (suc n) = test n && all_to test n

each_to : (test : ℕ → Bool) (n : ℕ) → all_to test n ≡ true → (bit : ℕ) → bit < n → test bit ≡ true
each_to test zero h bit l = absurd (omega (arith, l))
each_to test (suc n) h bit l =
    let both = and_parts (test n) (all_to test n) h in
    elim (cases_lt bit n) [
      | inl below ↦ each_to test n both.1 bit below
      | inr above ↦ subst (λ k. test k ≡ true) (let e : n ≡ bit = omega (arith, above, l) in e) both.0
    ]

abbrev is_told : ℕ → Bool
is_told bit = told_so (is_byte_bit bit) (value_fact bit)

all_told : all_to is_told 43 ≡ true
all_told = refl

abbrev Told : ℕ → Type 0
Told bit = (kind : ValueFact) × (value_fact bit ≡ Some kind) × (is_byte_bit bit ≡ is_bytes kind)

same_tests : (a b : Bool) → same_test a b ≡ true → a ≡ b
same_tests true true e = refl
same_tests true false e = clash (sym e)
same_tests false true e = clash (sym e)
same_tests false false e = refl

kind_told : (bit : ℕ) → bit < 43 → Told bit
kind_told bit l = by (value_fact bit) refl (each_to is_told 43 all_told bit l)
  where
    by : (o : Option ValueFact) → value_fact bit ≡ o → told_so (is_byte_bit bit) o ≡ true → Told bit
    by None is e = clash (sym e)
    by (Some kind) is e = (kind, is, same_tests (is_byte_bit bit) (is_bytes kind) e)

-- ---- places

param_func : (m : Module) (f at : ℕ) (q : Param) → param_of m f at ≡ Some q
    → (func : Func) × (slice_get m.funcs f ≡ Some func) × (slice_get func.params at ≡ Some q)
param_func m f at q param = by (slice_get m.funcs f) refl param
  where
    by : (o : Option Func) → slice_get m.funcs f ≡ o → param_in at o ≡ Some q
        → (func : Func) × (slice_get m.funcs f ≡ Some func) × (slice_get func.params at ≡ Some q)
    by None is e = absurd (none-some q e)
    by (Some func) is e = (func, is, e)

func_param : (m : Module) (f at : ℕ) (func : Func) (q : Param) → slice_get m.funcs f ≡ Some func → slice_get func.params at ≡ Some q → param_of m f at ≡ Some q
func_param m f at func q there is = ap (param_in at) there ∙ is

some_param : (m : Module) (o : Option Param) → is_pointer_param m o ≡ true → (q : Param) × (o ≡ Some q)
some_param m None e = clash (sym e)
some_param m (Some q) e = (q, refl)

seg_in : (m : Module) (f : ℕ) (s : Spot) → IsIn m f s → IsSegIn m f s.seg.0
seg_in m f s w = record { seg = w.seg; block = w.block; at_seg = w.at_seg; at_block = w.at_block; in_func = w.in_func }

spot_in : (m : Module) (f k at : ℕ) → IsSegIn m f k → IsIn m f (spot k at)
spot_in m f k at w = record { seg = w.seg; block = w.block; at_seg = w.at_seg; at_block = w.at_block; in_func = w.in_func }

-- ---- what is asked
module _ (m : Module) (held : Fact → Bool) where
  lasts_of : (f at align bit : ℕ) (kind : ValueFact) → (is_bytes kind ≡ true → ArePassedAligned m held f at align) → LastsAt m held f at align kind
  lasts_of f at align bit (SameAs i) h = tt
  lasts_of f at align bit NonNull h = tt
  lasts_of f at align bit (AlignedTo n) h = tt
  lasts_of f at align bit (HasBytes n) h = h refl
  lasts_of f at align bit (NotTo class) h = tt
  lasts_of f at align bit (UsedSo kind) h = tt

  lasts_out : (f at align : ℕ) (kind : ValueFact) → is_bytes kind ≡ true → LastsAt m held f at align kind → ArePassedAligned m held f at align
  lasts_out f at align (SameAs i) e h = clash (sym e)
  lasts_out f at align NonNull e h = clash (sym e)
  lasts_out f at align (AlignedTo n) e h = clash (sym e)
  lasts_out f at align (HasBytes n) e h = h
  lasts_out f at align (NotTo class) e h = clash (sym e)
  lasts_out f at align (UsedSo kind) e h = clash (sym e)

  -- of an entry
  given_is : (bit : ℕ) (q : Param) (kind : ValueFact) → value_fact bit ≡ Some kind → is_given q.attrs bit ≡ gives q.attrs kind
  given_is bit q kind told = ap (λ (o : Option ValueFact). option_map_or (gives q.attrs) o false) told

  pub entry_down : (f at bit : ℕ) → AsksOutside m held (entry f at) bit → AsksInside m held (entry f at) bit → is_bit m (entry f at) bit ≡ true
      → MatchOption (value_fact bit) ⊥ (EntryHas m held f at bit)
  entry_down f at bit outer inner has =
      let t = kind_told bit (entry_low m f at bit has) in
      subst (λ (o : Option ValueFact). MatchOption o ⊥ (EntryHas m held f at bit)) (sym t.1) (λ q param. by_bool (gives q.attrs t.0) (λ so. inl so)
      (λ none. inr (passed t.0 t.1 t.2 q param (given_is bit q t.0 t.1 ∙ none))))
    where
      at_call : (q : Param) → param_of m f at ≡ Some q → (s : Spot) (i : Instr) → IsLiveCall m held f s i → AsksPass m s.seg.0 i.op f at q held (entry f at) bit
      at_call q param s i live =
          let here = stands m s i live.at_spot in
          let func = param_func m f at q param in
          inner s.seg.0 here.seg here.at_seg s.at i here.at_place f func.0 live.is_call func.1 at q func.2

      passed : (kind : ValueFact) → value_fact bit ≡ Some kind → is_byte_bit bit ≡ is_bytes kind → (q : Param) → param_of m f at ≡ Some q
          → is_given q.attrs bit ≡ false → ArePassed m held f at bit q kind
      passed kind told byte q param none =
          let func = param_func m f at q param in
          let out = outer f func.0 func.1 at q func.2 refl has none in
          record {
            closed = out.0;
            each = λ s i live. by_bool (is_byte_bit bit) (λ so. ((at_call q param s i live).1 refl has so none live.live).0)
                (λ no. (at_call q param s i live).0 refl has no none live.live);
            lasts = lasts_of f at q.attrs.align bit kind (λ so. record {
              known = out.1 (byte ∙ so);
              each = λ r rung s i live. ((at_call q param s i live).1 refl has (byte ∙ so) none live.live).1 r rung;
            });
          }

  -- the rule, for a parameter where nothing is given
  rule_passed : (p : Pos) (bit f at : ℕ) (q : Param) → AsksPassing m held p bit → p ≡ entry f at → is_bit m p bit ≡ true → param_of m f at ≡ Some q
      → is_given q.attrs bit ≡ false → (t : Told bit) → ArePassed m held f at bit q t.0
  rule_passed p bit f at q asks same has param none t = by (rule q param)
    where
      rule : EntryHas m held f at bit t.0
      rule = subst (λ (o : Option ValueFact). MatchOption o ⊥ (EntryHas m held f at bit)) t.1
          ((subst (λ (r : Pos). AsksPassing m held r bit) same asks) refl (subst (λ (r : Pos). is_bit m r bit ≡ true) same has))

      by : (gives q.attrs t.0 ≡ true) ⊎ ArePassed m held f at bit q t.0 → ArePassed m held f at bit q t.0
      by (inl has_it) = clash (sym has_it ∙ (sym (given_is bit q t.0 t.1) ∙ none))
      by (inr w) = w

  told_at : (p : Pos) (bit f at : ℕ) → p ≡ entry f at → is_bit m p bit ≡ true → Told bit
  told_at p bit f at same has = kind_told bit (entry_low m f at bit (subst (λ (r : Pos). is_bit m r bit ≡ true) same has))

  pub outside_up : (p : Pos) (bit : ℕ) → AsksPassing m held p bit → AsksOutside m held p bit
  outside_up p bit asks f func at_func at q at_param same has none =
      let t = told_at p bit f at same has in
      let w = rule_passed p bit f at q asks same has (func_param m f at func q at_func at_param) none t in
      (w.closed, λ byte. (lasts_out f at q.attrs.align t.0 (sym t.2 ∙ byte) w.lasts).known)

  pub inside_up : (p : Pos) (bit : ℕ) → AsksPassing m held p bit → AsksInside m held p bit
  inside_up p bit asks k seg at_seg n i at_place f func called at_func at q at_param = (handed, rungs)
    where
      passed : (same : p ≡ entry f at) → (has : is_bit m p bit ≡ true) → is_given q.attrs bit ≡ false
          → ArePassed m held f at bit q (told_at p bit f at same has).0
      passed same has none = rule_passed p bit f at q asks same has (func_param m f at func q at_func at_param) none (told_at p bit f at same has)

      live_call : held (dead k) ≡ false → IsLiveCall m held f (spot k n) i
      live_call live = record { at_spot = at_spot m (spot k n) seg i at_seg at_place; is_call = called; live = live }

      handed : p ≡ entry f at → is_bit m p bit ≡ true → is_byte_bit bit ≡ false → is_given q.attrs bit ≡ false → held (dead k) ≡ false
          → arg_has m held i.op at bit ≡ true
      handed same has plain none live = (passed same has none).each (spot k n) i (live_call live)

      rungs : p ≡ entry f at → is_bit m p bit ≡ true → is_byte_bit bit ≡ true → is_given q.attrs bit ≡ false → held (dead k) ≡ false
          → (arg_has m held i.op at bit ≡ true) × ((r : ℕ) → slice_get align_rungs r ≡ Some q.attrs.align → arg_has m held i.op at (ALIGN_2 + r) ≡ true)
      rungs same has byte none live = (
        (passed same has none).each (spot k n) i (live_call live),
        λ r rung. (lasts_out f at q.attrs.align (told_at p bit f at same has).0 (sym (told_at p bit f at same has).2 ∙ byte)
            (passed same has none).lasts).each r rung
            (spot k n) i (live_call live),
      )

  -- of a return
  outlasts_of : (w : Written) (kind : ValueFact) → (is_bytes kind ≡ true → (written_has m held w (class_bit OwnAlloca) ≡ true) × (written_has m held w
      (class_bit Unknown) ≡ true))
      → Outlasts m held w kind
  outlasts_of w (SameAs i) h = tt
  outlasts_of w NonNull h = tt
  outlasts_of w (AlignedTo n) h = tt
  outlasts_of w (HasBytes n) h = h refl
  outlasts_of w (NotTo class) h = tt
  outlasts_of w (UsedSo kind) h = tt

  outlasts_out : (w : Written) (kind : ValueFact) → is_bytes kind ≡ true → Outlasts m held w kind
      → (written_has m held w (class_bit OwnAlloca) ≡ true) × (written_has m held w (class_bit Unknown) ≡ true)
  outlasts_out w (SameAs i) e h = clash (sym e)
  outlasts_out w NonNull e h = clash (sym e)
  outlasts_out w (AlignedTo n) e h = clash (sym e)
  outlasts_out w (HasBytes n) e h = h
  outlasts_out w (NotTo class) e h = clash (sym e)
  outlasts_out w (UsedSo kind) e h = clash (sym e)

  pub return_down : (f bit : ℕ) → AsksReturned m held (returned f) bit → is_bit m (returned f) bit ≡ true
      → MatchOption (value_fact bit) ⊥ (ReturnHas m held f bit)
  return_down f bit asks has =
      let t = kind_told bit (return_low m f bit has) in
      subst (λ (o : Option ValueFact). MatchOption o ⊥ (ReturnHas m held f bit)) (sym t.1)
      (λ s i within there live. let here = stands m s i there in
      of s.seg.0 t i.op (asks s.seg.0 here.seg here.at_seg s.at i here.at_place f (seg_in m f s within)) live)
    where
      of : (k : ℕ) (t : Told bit) (o : Op) → AsksRetOf m k f o held (returned f) bit → held (dead k) ≡ false → RetHas m held o bit t.0
      of k t (op.Ret None) h live = clash (sym (h refl has) ∙ live)
      of k t (op.Ret (Some w)) h live =
          by_bool (is_byte_bit bit) (λ so. ((h.1 refl has so live).0, outlasts_of w t.0 (λ bytes. (h.1 refl has so live).1)))
          (λ no. (h.0 refl has no live, outlasts_of w t.0 (λ bytes. clash (sym (t.2 ∙ bytes) ∙ no))))
      of k t (op.Call call) h live = tt
      of k t (op.Invoke call normal unwind) h live = tt
      of k t (op.Bin kind flagged a b) h live = tt
      of k t (op.Icmp pred flagged a b) h live = tt
      of k t (op.Cast kind flagged a) h live = tt
      of k t (op.Select c a b) h live = tt
      of k t (op.Freeze a) h live = tt
      of k t (op.Phi arms) h live = tt
      of k t (op.Alloca ty count align) h live = tt
      of k t (op.Load ptr align volatile) h live = tt
      of k t (op.Store val ptr align volatile) h live = tt
      of k t (op.Gep elem base indices inbounds wrap) h live = tt
      of k t (op.LandingPad catch_all clauses) h live = tt
      of k t (op.Resume val) h live = tt
      of k t (op.Jump to) h live = tt
      of k t (op.Branch c so otherwise) h live = tt
      of k t (op.Switch on other cases) h live = tt
      of k t op.Unreachable h live = tt

  pub return_up : (p : Pos) (bit : ℕ) → AsksPassing m held p bit → AsksReturned m held p bit
  return_up p bit asks k seg at_seg n i at_place f within = of i.op (λ same has t live. rule same has t (spot k n) i (spot_in m f k n within)
      (at_spot m (spot k n) seg i at_seg at_place) live)
    where
      rule : p ≡ returned f → is_bit m p bit ≡ true → (t : Told bit) → ReturnHas m held f bit t.0
      rule same has t = subst (λ (o : Option ValueFact). MatchOption o ⊥ (ReturnHas m held f bit)) t.1
          ((subst (λ (r : Pos). AsksPassing m held r bit) same asks) refl (subst (λ (r : Pos). is_bit m r bit ≡ true) same has))

      told : p ≡ returned f → is_bit m p bit ≡ true → Told bit
      told same has = kind_told bit (return_low m f bit (subst (λ (r : Pos). is_bit m r bit ≡ true) same has))

      of : (o : Op) → (p ≡ returned f → is_bit m p bit ≡ true → (t : Told bit) → held (dead k) ≡ false → RetHas m held o bit t.0) → AsksRetOf m k f o held p bit
      of (op.Ret None) h = λ same has. by_bool (held (dead k)) (λ so. so) (λ no. absurd (h same has (told same has) no))
      of (op.Ret (Some w)) h = (
        λ same has plain live. (h same has (told same has) live).0,
        λ same has byte live. (
          (h same has (told same has) live).0,
          outlasts_out w (told same has).0 (sym (told same has).2 ∙ byte) (h same has (told same has) live).1,
        ),
      )
      of (op.Call call) h = tt
      of (op.Invoke call normal unwind) h = tt
      of (op.Bin kind flagged a b) h = tt
      of (op.Icmp pred flagged a b) h = tt
      of (op.Cast kind flagged a) h = tt
      of (op.Select c a b) h = tt
      of (op.Freeze a) h = tt
      of (op.Phi arms) h = tt
      of (op.Alloca ty count align) h = tt
      of (op.Load ptr align volatile) h = tt
      of (op.Store val ptr align volatile) h = tt
      of (op.Gep elem base indices inbounds wrap) h = tt
      of (op.LandingPad catch_all clauses) h = tt
      of (op.Resume val) h = tt
      of (op.Jump to) h = tt
      of (op.Branch c so otherwise) h = tt
      of (op.Switch on other cases) h = tt
      of op.Unreachable h = tt

  pub asks_down : (p : Pos) (bit : ℕ) → AsksOutside m held p bit × (AsksInside m held p bit × AsksReturned m held p bit) → AsksPassing m held p bit
  asks_down (pos.Segment k) bit w is has = clash (sym is)
  asks_down (pos.Function f) bit w is has = clash (sym is)
  asks_down (pos.Value v) bit w is has = clash (sym is)
  asks_down (pos.Entry f at) bit w is has = entry_down f.0 at bit w.0 w.1.0 has
  asks_down (pos.Return f) bit w is has = return_down f.0 bit w.1.1 has
  asks_down (pos.Reach row k) bit w is has = clash (sym is)
  asks_down (pos.Effect k) bit w is has = clash (sym is)

-- ---- what is spoken of
module _ (m : Module) where
  align_of : (f at : ℕ) (i : Instr) (y : Fact) (kind : ValueFact) → is_bytes kind ≡ true → (q : Param) → param_of m f at ≡ Some q
      → SpeaksAligned i.op at q.attrs.align y
      → AlignSpeaks m f at i kind y
  align_of f at i y (SameAs n) e q param h = clash (sym e)
  align_of f at i y NonNull e q param h = clash (sym e)
  align_of f at i y (AlignedTo n) e q param h = clash (sym e)
  align_of f at i y (HasBytes n) e q param h = (q, h.0, param, h.1, h.2)
  align_of f at i y (NotTo class) e q param h = clash (sym e)
  align_of f at i y (UsedSo kind) e q param h = clash (sym e)

  align_out : (f at : ℕ) (i : Instr) (y : Fact) (kind : ValueFact) (q : Param) → param_of m f at ≡ Some q → AlignSpeaks m f at i kind y
      → (is_bytes kind ≡ true) × SpeaksAligned i.op at q.attrs.align y
  align_out f at i y (SameAs n) q param h = absurd h
  align_out f at i y NonNull q param h = absurd h
  align_out f at i y (AlignedTo n) q param h = absurd h
  align_out f at i y (HasBytes n) q param h =
      (refl, (h.1, h.3 ∙ ap (λ (x : Param). Some x.attrs.align) (same_Some h.0 q (sym h.2 ∙ param)), h.4))
  align_out f at i y (NotTo class) q param h = absurd h
  align_out f at i y (UsedSo kind) q param h = absurd h

  inside_one : (p : Pos) (y : Fact) (k : ℕ) (seg : Seg) (n : ℕ) (i : Instr) (f : ℕ) (func : Func) (at : ℕ) (q : Param) → slice_get m.segs k ≡ Some seg
      → slice_get seg.instrs n ≡ Some i → direct_callee m i.op ≡ Some (record { 0 = f }) → slice_get m.funcs f ≡ Some func → slice_get func.params at ≡ Some q
      → SpeaksPass m k i.op f at q p y → SpeaksPassing m p y
  inside_one p y k seg n i f func at q at_seg at_place called at_func at_param w = by w
    where
      param : param_of m f at ≡ Some q
      param = func_param m f at func q at_func at_param

      made : (bit : ℕ) → p ≡ entry f at → is_bit m p bit ≡ true → ((t : Told bit) → (y ≡ dead k) ⊎ (ArgSpeaks i.op at bit y ⊎ AlignSpeaks m f at i t.0 y))
          → SpeaksPassing m p y
      made bit same has what =
          let there = subst (λ (r : Pos). is_bit m r bit ≡ true) same has in
          let t = kind_told bit (entry_low m f at bit there) in
          subst (λ (r : Pos). SpeaksPassing m r y) (sym same) (
            bit,
            refl,
            there,
            subst (λ (o : Option ValueFact). MatchOption o ⊥ (λ kind. EntrySpeaks m f at bit kind y)) (sym t.1)
                (spot k n, i, at_spot m (spot k n) seg i at_seg at_place, called, what t),
          )

      by : SpeaksPass m k i.op f at q p y → SpeaksPassing m p y
      by (inl (bit, same, has, plain, inl gone)) = made bit same has (λ t. inl gone)
      by (inl (bit, same, has, plain, inr arg)) = made bit same has (λ t. inr (inl arg))
      by (inr (bit, same, has, byte, inl gone)) = made bit same has (λ t. inl gone)
      by (inr (bit, same, has, byte, inr (inl arg))) = made bit same has (λ t. inr (inl arg))
      by (inr (bit, same, has, byte, inr (inr aligned))) = made bit same has (λ t. inr (inr (align_of f at i y t.0 (sym t.2 ∙ byte) q param aligned)))

  pub inside_down : (p : Pos) (y : Fact) → SpeaksInside m p y → SpeaksPassing m p y
  inside_down p y w =
      let c = w.3.3 in
      let l = c.4 in
      inside_one p y w.0 w.1 w.3.0 w.3.1 c.0 c.1 l.0 l.1 w.2 w.3.2 c.2 c.3 l.2 l.3

  pub entry_speaks : (f at bit : ℕ) (y : Fact) → is_bit m (entry f at) bit ≡ true → MatchOption (value_fact bit) ⊥ (λ kind. EntrySpeaks m f at bit kind y)
      → SpeaksInside m (entry f at) y
  entry_speaks f at bit y has says =
      let t = kind_told bit (entry_low m f at bit has) in
      of t (subst (λ (o : Option ValueFact). MatchOption o ⊥ (λ kind. EntrySpeaks m f at bit kind y)) t.1 says)
    where
      of : (t : Told bit) → EntrySpeaks m f at bit t.0 y → SpeaksInside m (entry f at) y
      of t w =
          let here = stands m w.0 w.1 w.2 in
          let q = some_param m (param_of m f at) (entry_pointer m f at bit has) in
          let func = param_func m f at q.0 q.1 in
          (w.0.seg.0, here.seg, here.at_seg, (w.0.at, w.1, here.at_place, (f, func.0, w.3, func.1, (at, q.0, func.2, by q.0 q.1 w.4))))
        where
          by : (q : Param) → param_of m f at ≡ Some q → (y ≡ dead w.0.seg.0) ⊎ (ArgSpeaks w.1.op at bit y ⊎ AlignSpeaks m f at w.1 t.0 y)
              → SpeaksPass m w.0.seg.0 w.1.op f at q (entry f at) y
          by q param (inl gone) = by_bool (is_byte_bit bit) (λ so. inr (bit, refl, has, so, inl gone)) (λ no. inl (bit, refl, has, no, inl gone))
          by q param (inr (inl arg)) = by_bool (is_byte_bit bit) (λ so. inr (bit, refl, has, so, inr (inl arg))) (λ no. inl (bit, refl, has, no, inr arg))
          by q param (inr (inr aligned)) =
              let out = align_out f at w.1 y t.0 q param aligned in
              inr (bit, refl, has, t.2 ∙ out.0, inr (inr out.1))

  -- of a return
  outlast_of : (w : Written) (y : Fact) (kind : ValueFact) → is_bytes kind ≡ true
      → OperandSpeaks w (class_bit OwnAlloca) y ⊎ OperandSpeaks w (class_bit Unknown) y
      → OutlastSpeaks w kind y
  outlast_of w y (SameAs n) e h = clash (sym e)
  outlast_of w y NonNull e h = clash (sym e)
  outlast_of w y (AlignedTo n) e h = clash (sym e)
  outlast_of w y (HasBytes n) e h = h
  outlast_of w y (NotTo class) e h = clash (sym e)
  outlast_of w y (UsedSo kind) e h = clash (sym e)

  outlast_out : (w : Written) (y : Fact) (kind : ValueFact) → OutlastSpeaks w kind y
      → (is_bytes kind ≡ true) × (OperandSpeaks w (class_bit OwnAlloca) y ⊎ OperandSpeaks w (class_bit Unknown) y)
  outlast_out w y (SameAs n) h = absurd h
  outlast_out w y NonNull h = absurd h
  outlast_out w y (AlignedTo n) h = absurd h
  outlast_out w y (HasBytes n) h = (refl, h)
  outlast_out w y (NotTo class) h = absurd h
  outlast_out w y (UsedSo kind) h = absurd h

  returned_one : (p : Pos) (y : Fact) (k : ℕ) (seg : Seg) (n : ℕ) (i : Instr) (f : ℕ) → slice_get m.segs k ≡ Some seg → slice_get seg.instrs n ≡ Some i
      → IsSegIn m f k → SpeaksRetOf m k f i.op p y → SpeaksPassing m p y
  returned_one p y k seg n i f at_seg at_place within w = by i.op w (λ bit same has what. made bit same has what)
    where
      made : (bit : ℕ) → p ≡ returned f → is_bit m p bit ≡ true → ((t : Told bit) → RetSpeaks (spot k n) i.op bit t.0 y) → SpeaksPassing m p y
      made bit same has what =
          let there = subst (λ (r : Pos). is_bit m r bit ≡ true) same has in
          let t = kind_told bit (return_low m f bit there) in
          subst (λ (r : Pos). SpeaksPassing m r y) (sym same) (
            bit,
            refl,
            there,
            subst (λ (o : Option ValueFact). MatchOption o ⊥ (λ kind. ReturnSpeaks m f bit kind y)) (sym t.1)
                (spot k n, i, spot_in m f k n within, at_spot m (spot k n) seg i at_seg at_place, what t),
          )

      by : (o : Op) → SpeaksRetOf m k f o p y
          → ((bit : ℕ) → p ≡ returned f → is_bit m p bit ≡ true → ((t : Told bit) → RetSpeaks (spot k n) o bit t.0 y) → SpeaksPassing m p y)
          → SpeaksPassing m p y
      by (op.Ret None) (bit, same, has, gone) into = into bit same has (λ t. gone)
      by (op.Ret (Some v)) (inl (bit, same, has, plain, inl gone)) into = into bit same has (λ t. inl gone)
      by (op.Ret (Some v)) (inl (bit, same, has, plain, inr arg)) into = into bit same has (λ t. inr (inl arg))
      by (op.Ret (Some v)) (inr (bit, same, has, byte, inl gone)) into = into bit same has (λ t. inl gone)
      by (op.Ret (Some v)) (inr (bit, same, has, byte, inr (inl arg))) into = into bit same has (λ t. inr (inl arg))
      by (op.Ret (Some v)) (inr (bit, same, has, byte, inr (inr classes))) into =
          into bit same has (λ t. inr (inr (outlast_of v y t.0 (sym t.2 ∙ byte) classes)))
      by (op.Call call) h into = absurd h
      by (op.Invoke call normal unwind) h into = absurd h
      by (op.Bin kind flagged a b) h into = absurd h
      by (op.Icmp pred flagged a b) h into = absurd h
      by (op.Cast kind flagged a) h into = absurd h
      by (op.Select c a b) h into = absurd h
      by (op.Freeze a) h into = absurd h
      by (op.Phi arms) h into = absurd h
      by (op.Alloca ty count align) h into = absurd h
      by (op.Load ptr align volatile) h into = absurd h
      by (op.Store val ptr align volatile) h into = absurd h
      by (op.Gep elem base indices inbounds wrap) h into = absurd h
      by (op.LandingPad catch_all clauses) h into = absurd h
      by (op.Resume val) h into = absurd h
      by (op.Jump to) h into = absurd h
      by (op.Branch c so otherwise) h into = absurd h
      by (op.Switch on other cases) h into = absurd h
      by op.Unreachable h into = absurd h

  pub returned_down : (p : Pos) (y : Fact) → SpeaksReturned m p y → SpeaksPassing m p y
  returned_down p y w = let c = w.3.3 in returned_one p y w.0 w.1 w.3.0 w.3.1 c.0 w.2 w.3.2 c.1 c.2

  pub return_speaks : (f bit : ℕ) (y : Fact) → is_bit m (returned f) bit ≡ true → MatchOption (value_fact bit) ⊥ (λ kind. ReturnSpeaks m f bit kind y)
      → SpeaksReturned m (returned f) y
  return_speaks f bit y has says =
      let t = kind_told bit (return_low m f bit has) in
      of t (subst (λ (o : Option ValueFact). MatchOption o ⊥ (λ kind. ReturnSpeaks m f bit kind y)) t.1 says)
    where
      by : (t : Told bit) (s : Spot) (o : Op) → RetSpeaks s o bit t.0 y → SpeaksRetOf m s.seg.0 f o (returned f) y
      by t s (op.Ret None) gone = (bit, refl, has, gone)
      by t s (op.Ret (Some v)) (inl gone) = by_bool (is_byte_bit bit) (λ so. inr (bit, refl, has, so, inl gone)) (λ no. inl (bit, refl, has, no, inl gone))
      by t s (op.Ret (Some v)) (inr (inl arg)) =
          by_bool (is_byte_bit bit) (λ so. inr (bit, refl, has, so, inr (inl arg))) (λ no. inl (bit, refl, has, no, inr arg))
      by t s (op.Ret (Some v)) (inr (inr classes)) = let out = outlast_out v y t.0 classes in inr (bit, refl, has, t.2 ∙ out.0, inr (inr out.1))
      by t s (op.Call call) h = absurd h
      by t s (op.Invoke call normal unwind) h = absurd h
      by t s (op.Bin kind flagged a b) h = absurd h
      by t s (op.Icmp pred flagged a b) h = absurd h
      by t s (op.Cast kind flagged a) h = absurd h
      by t s (op.Select c a b) h = absurd h
      by t s (op.Freeze a) h = absurd h
      by t s (op.Phi arms) h = absurd h
      by t s (op.Alloca ty count align) h = absurd h
      by t s (op.Load ptr align volatile) h = absurd h
      by t s (op.Store val ptr align volatile) h = absurd h
      by t s (op.Gep elem base indices inbounds wrap) h = absurd h
      by t s (op.LandingPad catch_all clauses) h = absurd h
      by t s (op.Resume val) h = absurd h
      by t s (op.Jump to) h = absurd h
      by t s (op.Branch c so otherwise) h = absurd h
      by t s (op.Switch on other cases) h = absurd h
      by t s op.Unreachable h = absurd h

      of : (t : Told bit) → ReturnSpeaks m f bit t.0 y → SpeaksReturned m (returned f) y
      of t w =
          let here = stands m w.0 w.1 w.3 in
          (w.0.seg.0, here.seg, here.at_seg, (w.0.at, w.1, here.at_place, (f, seg_in m f w.0 w.2, by t w.0 w.1.op w.4)))

  pub speaks_down : (p : Pos) (y : Fact) → SpeaksOutside m p y ⊎ (SpeaksInside m p y ⊎ SpeaksReturned m p y) → SpeaksPassing m p y
  speaks_down p y (inl w) = absurd w.3.3
  speaks_down p y (inr (inl w)) = inside_down p y w
  speaks_down p y (inr (inr w)) = returned_down p y w

  pub speaks_up : (p : Pos) (y : Fact) → SpeaksPassing m p y → SpeaksOutside m p y ⊎ (SpeaksInside m p y ⊎ SpeaksReturned m p y)
  speaks_up (pos.Segment k) y w = clash (sym w.1)
  speaks_up (pos.Function f) y w = clash (sym w.1)
  speaks_up (pos.Value v) y w = clash (sym w.1)
  speaks_up (pos.Entry f at) y w = inr (inl (entry_speaks f.0 at w.0 y w.2 w.3))
  speaks_up (pos.Return f) y w = inr (inr (return_speaks f.0 w.0 y w.2 w.3))
  speaks_up (pos.Reach row k) y w = clash (sym w.1)
  speaks_up (pos.Effect k) y w = clash (sym w.1)

  -- ---- from the outside, by calls, and by each `ret`
  pub all_met : (ps : Numbered) → IsNumbering m ps → (a b c d : System) → Meets m ps a b (AsksOutside m) (SpeaksOutside m)
      → Meets m ps b c (AsksInside m) (SpeaksInside m) → Meets m ps c d (AsksReturned m) (SpeaksReturned m) → Meets m ps a d (AsksPassing m) (SpeaksPassing m)
  all_met ps numbering a b c d outer inner returns =
      meets_within m ps numbering a d (λ held p bit. AsksOutside m held p bit × (AsksInside m held p bit × AsksReturned m held p bit)) (AsksPassing m)
      (λ p y. SpeaksOutside m p y ⊎ (SpeaksInside m p y ⊎ SpeaksReturned m p y)) (SpeaksPassing m)
      (meets_then m ps a b d (AsksOutside m) (λ held p bit. AsksInside m held p bit × AsksReturned m held p bit) (SpeaksOutside m)
      (λ p y. SpeaksInside m p y ⊎ SpeaksReturned m p y) outer
      (meets_then m ps b c d (AsksInside m) (AsksReturned m) (SpeaksInside m) (SpeaksReturned m) inner returns))
      (λ held p bit bits. (asks_down m held p bit, λ h. (outside_up m held p bit h, (inside_up m held p bit h, return_up m held p bit h))))
      (λ p q bit has. (speaks_down p (fact q bit), speaks_up p (fact q bit)))
