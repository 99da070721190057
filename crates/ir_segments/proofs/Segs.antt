-- Segments, instruction by instruction.
use Rattle.std.proofs.Common.{◌≡◌, ℕ, zero, suc, ◌<◌, Bool, true, false, eqb, List, [], ◌∷◌, ◌++◌, length, map, refl, sym, ap, subst, ◌∙◌, arith, All}
use Rattle.std.proofs.Common.{append_assoc}
use Rattle.std.proofs.lemmas.List.{append-nil}
use Rattle.std.proofs.lemmas.List.Elements.{All-push}
use borrow.Author.Tests.{eqb-true}
use Rattle.attr_ids.specs.declared.ids.BlockId.{BlockId}
use Rattle.ir_module.specs.declared.module.Seg.{Seg}
use Rattle.ir_module.specs.declared.op.Instr.{Instr}
use Rattle.ir_segments.specs.Segments.{ends, cut, seg, IsCut}
use Rattle.ir_segments.proofs.Cutting.{cut_ended, cut_plain}

-- an instruction that is no call goes into the open segment
pub cut_more : (b : BlockId) (old : List Seg) (taken : List Instr) (segs : List Seg) (run : List Instr) (i : Instr) → ends i ≡ false → IsCut b old taken
    segs run →
    IsCut b old (taken ++ i ∷ []) segs (run ++ i ∷ [])
cut_more b old taken segs run i plain done = record {
  plain = All-push (λ x. ends x ≡ false) run i done.plain plain;
  goes_on = λ rest. ap (λ xs. old ++ map (seg b) (cut ends xs)) (append_assoc taken (i ∷ []) rest) ∙ done.goes_on (i ∷ rest)
      ∙ ap (λ xs. segs ++ map (seg b) (cut ends xs)) (sym (append_assoc run (i ∷ []) rest));
}

none_plain : All (λ i. ends i ≡ false) []
none_plain k d l = absurd (omega arith)

-- a call ends the open segment
pub cut_here : (b : BlockId) (old : List Seg) (taken : List Instr) (segs : List Seg) (run : List Instr) (i : Instr) → ends i ≡ true → IsCut b old taken segs
    run →
    IsCut b old (taken ++ i ∷ []) (segs ++ seg b (run ++ i ∷ []) ∷ []) []
cut_here b old taken segs run i is done = record {
  plain = none_plain;
  goes_on = λ rest. ap (λ xs. old ++ map (seg b) (cut ends xs)) (append_assoc taken (i ∷ []) rest) ∙ done.goes_on (i ∷ rest)
      ∙ ap (λ xs. segs ++ map (seg b) (cut ends xs)) (sym (append_assoc run (i ∷ []) rest))
      ∙ ap (λ runs. segs ++ map (seg b) runs) (cut_ended ends run i rest done.plain is)
      ∙ sym (append_assoc segs (seg b (run ++ i ∷ []) ∷ []) (map (seg b) (cut ends rest)));
}

at_end : (b : BlockId) (old : List Seg) (taken : List Instr) (segs : List Seg) (run : List Instr) → IsCut b old taken segs run →
    old ++ map (seg b) (cut ends taken) ≡ segs ++ map (seg b) (cut ends run)
at_end b old taken segs run done =
    ap (λ xs. old ++ map (seg b) (cut ends xs)) (sym (append-nil taken)) ∙ done.goes_on [] ∙ ap (λ xs. segs ++ map (seg b) (cut ends xs)) (append-nil run)

-- at the end of a block nothing is open
pub finished_empty : (b : BlockId) (old : List Seg) (taken : List Instr) (segs : List Seg) (run : List Instr) → run ≡ [] → IsCut b old taken segs run →
    segs ≡ old ++ map (seg b) (cut ends taken)
finished_empty b old taken segs run empty done =
    sym (at_end b old taken segs run done ∙ ap (λ xs. segs ++ map (seg b) (cut ends xs)) empty ∙ append-nil segs)

-- or the open segment is the last
pub finished_open : (b : BlockId) (old : List Seg) (taken : List Instr) (segs : List Seg) (run : List Instr) → 0 < length run → IsCut b old taken segs run →
    segs ++ seg b run ∷ [] ≡ old ++ map (seg b) (cut ends taken)
finished_open b old taken segs [] more done = absurd (omega arith)
finished_open b old taken segs (i ∷ run) more done =
    sym (at_end b old taken segs (i ∷ run) done ∙ ap (λ runs. segs ++ map (seg b) runs) (cut_plain ends i run done.plain))

-- the same, where the segment was pushed with what it has
pub cut_pushed : (b : BlockId) (old : List Seg) (taken : List Instr) (segs : List Seg) (run : List Instr) (i : Instr) → ends i ≡ true → IsCut b old taken
    segs run →
    (mid : List Instr) (more : List Seg) (left : List Instr) → mid ≡ run ++ i ∷ [] → more ≡ segs ++ seg b mid ∷ [] → left ≡ [] → IsCut b old
    (taken ++ i ∷ []) more left
cut_pushed b old taken segs run i is done mid more left whole pushed none =
    let here = cut_here b old taken segs run i is done in
    subst (λ rest. IsCut b old (taken ++ i ∷ []) more rest) (sym none)
    (subst (λ all. IsCut b old (taken ++ i ∷ []) all []) (sym (pushed ∙ ap (λ xs. segs ++ seg b xs ∷ []) whole)) here)

no_items : (xs : List Instr) → length xs ≡ 0 → xs ≡ []
no_items [] h = refl
no_items (x ∷ xs) h = absurd (omega arith)

pub was_empty : (n : ℕ) (xs : List Instr) (b : Bool) → b ≡ eqb n 0 → b ≡ true → n ≡ length xs → xs ≡ []
was_empty n xs b told is same = no_items xs (let none = eqb-true n 0 (sym told ∙ is) in omega arith)

above : (n : ℕ) (b : Bool) → eqb n 0 ≡ b → b ≡ false → 0 < n
above zero b told is = absurd (cc)
above (suc n) b told is = omega arith

pub was_open : (n : ℕ) (xs : List Instr) (b : Bool) → b ≡ eqb n 0 → b ≡ false → n ≡ length xs → 0 < length xs
was_open n xs b told is same = let more = above n b (sym told) is in omega arith
