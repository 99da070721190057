-- A segment's call stands last, so what is met in for the last instruction is met in for each.
use Rattle.std.proofs.Common.{arith, ◌≡◌, ◌+◌, ◌<◌, ◌≤◌, ◌↔◌, ℕ, Bool, true, false, length, slice_get, Some, refl, sym, ap, subst, ◌∙◌}
use Rattle.std.proofs.lemmas.Bool.{both_ways, MatchBool-at_true}
use Rattle.ir_module.specs.declared.op.Op.{Op}
use Rattle.ir_module.specs.declared.op.Op.TheVariants as op
use Rattle.ir_module.specs.declared.op.Instr.{Instr}
use Rattle.ir_module.specs.declared.module.Seg.{Seg}
use Rattle.ir_module.specs.declared.module.Module.{Module}
use Rattle.ir_module.specs.Places.{spot, instr_at, IsSegIn}
use Rattle.ir_module.specs.Formed.{ends_seg, Ends}
use Rattle.ir_module.specs.WellFormed.{IsWellFormed}
use Rattle.ir_module.specs.Calls.{is_call, inner_callee}
use Rattle.ir_module.proofs.Spots.{formed_at, at_spot}
use Rattle.facts.specs.declared.pos.Pos.{Pos}
use Rattle.facts.specs.Facts.{Fact}
use Rattle.facts.specs.Bodies.{is_body, rank}
use Rattle.rule_terms.specs.System.{System}
use Rattle.positions.specs.Numbering.{Numbered}
use Rattle.rule_says.specs.Meeting.{Meets}
use Rattle.rule_says.specs.Listing.{AskFirst, SpeakFirst}
use Rattle.rule_says.proofs.Mets.{meets_none, meets_iff}
use Rattle.aa_reach.specs.Asked.{AsksPass, SpeaksPass, AsksSeg, SpeaksSeg, AsksBody, SpeaksBody, AsksWords, SpeaksWords, AsksFunc, SpeaksFunc}
use Rattle.aa_reach.proofs.Calls.{no_call_outer}

crash : {A : Type 0} → false ≡ true → A
crash e = absurd (cc)

-- what is no call calls no body
pub no_callee : (m : Module) (o : Op) → is_call o ≡ false → (h : ℕ) → inner_callee m o ≡ Some h → ⊥
no_callee m (op.Call call) e h is = absurd (cc)
no_callee m (op.Invoke call normal unwind) e h is = absurd (cc)
no_callee m (op.Bin binary flagged a b) e h is = absurd (cc)
no_callee m (op.Icmp pred flagged a b) e h is = absurd (cc)
no_callee m (op.Cast conversion flagged a) e h is = absurd (cc)
no_callee m (op.Select c a b) e h is = absurd (cc)
no_callee m (op.Freeze a) e h is = absurd (cc)
no_callee m (op.Phi arms) e h is = absurd (cc)
no_callee m (op.Alloca ty count align) e h is = absurd (cc)
no_callee m (op.Load ptr align volatile) e h is = absurd (cc)
no_callee m (op.Store val ptr align volatile) e h is = absurd (cc)
no_callee m (op.Gep elem base indices inbounds wrap) e h is = absurd (cc)
no_callee m (op.LandingPad catch_all clauses) e h is = absurd (cc)
no_callee m (op.Resume val) e h is = absurd (cc)
no_callee m (op.Ret val) e h is = absurd (cc)
no_callee m (op.Jump to) e h is = absurd (cc)
no_callee m (op.Branch c so otherwise) e h is = absurd (cc)
no_callee m (op.Switch on other cases) e h is = absurd (cc)
no_callee m op.Unreachable e h is = absurd (cc)

-- a call ends its segment
call_ends : (o : Op) → is_call o ≡ true → ends_seg o ≡ true
call_ends (op.Call call) e = refl
call_ends (op.Invoke call normal unwind) e = refl
call_ends _ e = crash e

module _ (m : Module) (formed : IsWellFormed m) (q : ℕ) (seg : Seg) (at_seg : slice_get m.segs q ≡ Some seg) where
  -- a call stands last
  call_last : (at : ℕ) (i : Instr) → instr_at m (spot q at) ≡ Some i → is_call i.op ≡ true → (at + 1 ≡ length seg.instrs) × (slice_get seg.instrs at ≡ Some i)
  call_last at i there call =
      let w = formed_at m (spot q at) i formed there in
      let same : w.stands.seg ≡ seg = (let here = w.stands.at_seg in cc) in
      let placed = (MatchBool-at_true ((at + 1 ≡ length w.stands.seg.instrs) × Ends w.block q i.op) (at + 1 < length w.stands.seg.instrs) (call_ends
      i.op call) w.placed).0 in
      (placed ∙ ap (λ (s : Seg). length s.instrs) same, subst (λ (s : Seg). slice_get s.instrs at ≡ Some i) same w.stands.at_place)

  module _ (row k : ℕ) (last : ℕ) (i : Instr) (end : last + 1 ≡ length seg.instrs) (at_last : slice_get seg.instrs last ≡ Some i) where
    -- the instruction that calls is the last one
    is_last : (at : ℕ) (j : Instr) → instr_at m (spot q at) ≡ Some j → is_call j.op ≡ true → j ≡ i
    is_last at j there call =
        let w = call_last at j there call in
        let same : at ≡ last = (let e = w.0 in omega (arith, e, end)) in
        let here : slice_get seg.instrs last ≡ Some j = subst (λ n. slice_get seg.instrs n ≡ Some j) same w.1 in
        cc

    pub seg_met : (ps : Numbered) (a b : System) → Meets m ps a b (AsksPass m row k q i.op) (SpeaksPass m row k q i.op) → Meets m ps a b (AsksSeg m
        row k q) (SpeaksSeg m row k q)
    seg_met ps a b met =
        meets_iff m ps a b (AsksPass m row k q i.op) (AsksSeg m row k q) (SpeaksPass m row k q i.op) (SpeaksSeg m row k q) met
        (λ held p bit. ((λ h at j there. each held p bit h at j there (is_call j.op) refl), λ h. h last i here))
        (λ p y. (
          (λ w. (last, i, here, w)),
          λ w. (let same = is_last w.0 w.1 w.2 (called p y w.1 w.3) in subst (λ (j : Instr). SpeaksPass m row k q
              j.op p y) same w.3),
        ))
      where
        here : instr_at m (spot q last) ≡ Some i
        here = at_spot m (spot q last) seg i at_seg at_last

        called : (p : Pos) (y : Fact) (j : Instr) → SpeaksPass m row k q j.op p y → is_call j.op ≡ true
        called p y j w = w.3

        each : (held : Fact → Bool) (p : Pos) (bit : ℕ) → AsksPass m row k q i.op held p bit → (at : ℕ) (j : Instr) → instr_at m (spot q at) ≡ Some j →
            (b : Bool) → is_call j.op ≡ b → AsksPass m row k q j.op held p bit
        each held p bit h at j there true call = let same = is_last at j there call in subst (λ (x : Instr). AsksPass m row k q x.op held p bit) (sym same) h
        each held p bit h at j there false none = λ e has live. record {
          inner = λ g is. absurd (no_callee m j.op none g is);
          outer = λ is. absurd (no_call_outer m j.op none is);
        }

-- ---- the segments of a body

module _ (m : Module) (ps : Numbered) (f k start end : ℕ) (runs : (q : ℕ) → IsSegIn m f q ↔ ((start ≤ q) × (q < end))) where
  abbrev pub AsksOne : ℕ → Seg → (Fact → Bool) → Pos → ℕ → Type 0
  AsksOne q seg held p bit = IsSegIn m f q → AsksSeg m (rank m f) k q held p bit

  abbrev pub SpeaksOne : ℕ → Seg → Pos → Fact → Type 0
  SpeaksOne q seg p y = IsSegIn m f q × SpeaksSeg m (rank m f) k q p y

  -- no segment stands before the first
  pub run_none : (s : System) → Meets m ps s s (AskFirst start m.segs AsksOne) (SpeakFirst start m.segs SpeaksOne)
  run_none s = meets_iff m ps s s (λ held p bit. Unit {0}) (AskFirst start m.segs AsksOne) (λ p y. ⊥) (SpeakFirst start m.segs SpeaksOne) (meets_none m ps s)
      (λ held p bit. ((λ h j seg l at within. absurd (let w = ((runs j).0 within).0 in omega (arith, w, l))), λ h. tt))
      (λ p y. ((λ h. absurd h), λ w. absurd (let l = ((runs w.0).0 w.4.0).0 in let j = w.2 in omega (arith, l, j))))

  -- what is met in for one segment of the body
  pub run_one : (a b : System) (q row : ℕ) (seg : Seg) → start ≤ q → q < end → row ≡ rank m f → Meets m ps a b (AsksSeg m row k q) (SpeaksSeg m row k q) →
      Meets m ps a b (AsksOne q seg) (SpeaksOne q seg)
  run_one a b q row seg low high same met =
      let one : Meets m ps a b (AsksSeg m (rank m f) k q) (SpeaksSeg m (rank m f) k q) = subst (λ r. Meets m ps a b (AsksSeg m r k q) (SpeaksSeg m r
      k q)) same met in
      meets_iff m ps a b (AsksSeg m (rank m f) k q) (AsksOne q seg) (SpeaksSeg m (rank m f) k q) (SpeaksOne q seg) one
      (λ held p bit. ((λ h within. h), λ h. h ((runs q).1 (low, high))))
      (λ p y. ((λ w. ((runs q).1 (low, high), w)), λ w. w.1))

  -- none stands behind the last
  pub run_all : (a b : System) (n : ℕ) → end ≤ n → Meets m ps a b (AskFirst n m.segs AsksOne) (SpeakFirst n m.segs SpeaksOne) → Meets m ps a b
      (AsksBody m f k) (SpeaksBody m f k)
  run_all a b n past met =
      meets_iff m ps a b (AskFirst n m.segs AsksOne) (AsksBody m f k) (SpeakFirst n m.segs SpeaksOne) (SpeaksBody m f k) met
      (λ held p bit. ((λ h q seg at within. h q seg (below q within) at within), λ h q seg l at within. h q seg at within))
      (λ p y. ((λ w. (w.0, w.1, w.3, w.4)), λ w. (w.0, w.1, below w.0 w.3.0, w.2, w.3)))
    where
      below : (q : ℕ) → IsSegIn m f q → q < n
      below q within = let l = ((runs q).0 within).1 in omega (arith, l, past)

-- ---- a function that may be a body

module _ (m : Module) (ps : Numbered) (n f : ℕ) where
  pub func_body : (a b : System) → is_body m f ≡ true → Meets m ps a b (AsksWords m f n) (SpeaksWords m f n) → Meets m ps a b (AsksFunc m n f)
      (SpeaksFunc m n f)
  func_body a b body met =
      meets_iff m ps a b (AsksWords m f n) (AsksFunc m n f) (SpeaksWords m f n) (SpeaksFunc m n f) met
      (λ held p bit. ((λ h is. h), λ h. h body)) (λ p y. ((λ w. (body, w)), λ w. w.1))

  pub func_none : (s : System) → is_body m f ≡ false → Meets m ps s s (AsksFunc m n f) (SpeaksFunc m n f)
  func_none s none =
      meets_iff m ps s s (λ held p bit. Unit {0}) (AsksFunc m n f) (λ p y. ⊥) (SpeaksFunc m n f) (meets_none m ps s)
      (λ held p bit. ((λ h is. absurd (both_ways (is_body m f) none is)), λ h. tt)) (λ p y. ((λ w. absurd w), λ w. absurd (both_ways (is_body m f) none w.0)))
