-- Inner and outer calls, and what their terms say.
use Rattle.std.proofs.Common.{◌≡◌, ◌≢◌, ◌⊎◌, ◌&&◌, ◌==◌, not, ℕ, Bool, true, false, slice_get, Option, None, Some, refl, sym, ap, subst, ◌∙◌, inl, inr}
use Rattle.std.specs.Option.{option_and_then}
use Rattle.std.proofs.lemmas.Bool.{and_parts}
use Rattle.lattice_words.specs.declared.word.TheConstants.{FACTS}
use Rattle.attr_ids.specs.declared.ids.FuncId.{FuncId}
use Rattle.ir_module.specs.declared.op.Op.{Op}
use Rattle.ir_module.specs.declared.module.Func.{Func}
use Rattle.ir_module.specs.declared.module.Module.{Module}
use Rattle.ir_module.specs.Calls.{Nocallback, has_blocks, is_replaceable, is_call, is_inner, is_outer, is_exact_in, callee_of, callee_in}
use Rattle.ir_module.specs.Calls.{direct_callee, inner_callee, is_promised}
use Rattle.facts.specs.declared.pos.Pos.TheVariants as pos
use Rattle.facts.specs.Bodies.{is_body, rank, body_count}
use Rattle.facts.specs.Facts.{Fact, fact, unreached_by}
use Rattle.rule_terms.specs.declared.term.NewTerm.{NewTerm}
use Rattle.rule_terms.specs.declared.term.NewTerm.TheOpen.{NewTerm-F as new}
use Rattle.rule_terms.specs.declared.term.NewTerm.TheViews.{roll-NewTerm}
use Rattle.positions.specs.Numbering.{Numbered}
use Rattle.rule_says.specs.Reading.{IsNumbering}
use Rattle.rule_says.specs.Saying.{IsSet, Has, Says}
use Rattle.rule_says.proofs.Terms.{says_bits, says_and, says_or, says_iff, says_word}
use Rattle.aa_reach.specs.Asked.{IsByRow, IsByOutside, IsOfWord, AsksRow, AsksCall, SpeaksCall, body_of}
use Rattle.aa_reach.proofs.Below.{facts_low, unreached_is}

-- ---- inner and outer

crash : {A : Type 0} → false ≡ true → A
crash e = absurd (cc)

-- a call that runs a body of the module is inner
inner_is : (m : Module) (o : Op) (h : ℕ) → inner_callee m o ≡ Some h → is_inner m o ≡ true
inner_is m o h e = by (is_inner m o) refl (direct_callee m o) e
  where
    by : (b : Bool) → is_inner m o ≡ b → (d : Option FuncId) → callee_in b d ≡ Some h → b ≡ true
    by true b d e = refl
    by false b (Some g) e = absurd (cc)
    by false b None e = absurd (cc)

pub inner_not_outer : (m : Module) (o : Op) (h : ℕ) → inner_callee m o ≡ Some h → is_outer m o ≡ true → ⊥
inner_not_outer m o h e outer =
    let none = (and_parts (is_call o) (not (is_inner m o)) outer).1 in
    clash (ap not (sym (inner_is m o h e)) ∙ none)
  where
    clash : false ≡ true → ⊥
    clash e = absurd (cc)

-- a call that runs none is outer
pub none_outer : (m : Module) (o : Op) → is_call o ≡ true → inner_callee m o ≡ None → is_outer m o ≡ true
none_outer m o call e = by (is_inner m o) refl (direct_callee m o) refl e
  where
    clash : {A : Type 0} → false ≡ true → A
    clash e = absurd (cc)

    outer : (b : Bool) → is_inner m o ≡ b → b ≡ false → (is_call o && not (is_inner m o)) ≡ true
    outer b e f = ap (λ c. is_call o && not c) (e ∙ f) ∙ ap (λ c. c && true) call

    by : (b : Bool) → is_inner m o ≡ b → (d : Option FuncId) → direct_callee m o ≡ d → callee_in b d ≡ None → is_outer m o ≡ true
    by false b d f e = outer false b refl
    by true b (Some g) f e = absurd (cc)
    by true b None f e = clash (ap is_exact_in (ap (option_and_then (λ (g : FuncId). slice_get m.funcs g.0)) (sym f)) ∙ b)

pub no_call_outer : (m : Module) (o : Op) → is_call o ≡ false → is_outer m o ≡ true → ⊥
no_call_outer m o none outer = clash (sym none ∙ (and_parts (is_call o) (not (is_inner m o)) outer).0)
  where
    clash : false ≡ true → ⊥
    clash e = absurd (cc)

-- what an inner call runs is a body
pub inner_is_body : (m : Module) (o : Op) (g : ℕ) → inner_callee m o ≡ Some g → is_body m g ≡ true
inner_is_body m o g e = by (direct_callee m o) refl (is_inner m o) refl (sym inner_is ∙ e)
  where
    inner_is : inner_callee m o ≡ callee_in (is_inner m o) (direct_callee m o)
    inner_is = refl

    exact : (func : Option Func) → is_exact_in func ≡ true → has_blocks func ≡ true
    exact None h = crash h
    exact (Some func) h = (and_parts (not (func.block_count == 0)) (not (is_replaceable func.linkage)) h).0

    by : (d : Option FuncId) → direct_callee m o ≡ d → (b : Bool) → is_inner m o ≡ b → callee_in b d ≡ Some g → is_body m g ≡ true
    by (Some f) d true b h =
        let same : f.0 ≡ g = cc in
        let callee : callee_of m o ≡ slice_get m.funcs f.0 = ap (option_and_then (λ (x : FuncId). slice_get m.funcs x.0)) d in
        subst (λ n. is_body m n ≡ true) same (exact (slice_get m.funcs f.0) (ap is_exact_in (sym callee) ∙ b))
    by (Some f) d false b h = absurd (cc)
    by None d true b h = absurd (cc)
    by None d false b h = absurd (cc)

module _ (m : Module) (ps : Numbered) (is : IsNumbering m ps) where
  -- ---- what terms say

  -- the row of a callee, or of an open body
  pub says_row : (t : NewTerm) (h k : ℕ) → IsByRow ps t h k → Says m ps FACTS t (AsksRow h k) (IsOfWord h k)
  says_row t h k w = subst (λ u. Says m ps FACTS u (AsksRow h k) (IsOfWord h k)) (sym w.term)
      (says_iff m ps FACTS (roll-NewTerm (new.And (roll-NewTerm (new.Const w.others)) w.word))
      (λ held bit. IsSet w.others bit × Has held (pos.Reach h k) bit) (AsksRow h k) (λ y. ⊥ ⊎ IsOfWord h k y) (IsOfWord h k)
      (says_and m ps FACTS (roll-NewTerm (new.Const w.others)) w.word (λ held bit. IsSet w.others bit) (λ held bit. Has held (pos.Reach h k) bit) (λ
      y. ⊥) (IsOfWord h k)
      (says_bits m ps FACTS w.others) (says_word m ps is FACTS w.word (pos.Reach h k) w.reads))
      (λ held bit set.
      let low = facts_low bit set in
      let same = unreached_is h k bit low in
      ((λ v. ((w.apart bit low).0 v.0, ap held same ∙ v.1)), λ v. ((w.apart bit low).1 v.0, sym (ap held same) ∙ v.1)))
      (λ y. ((λ v. right y v), λ v. inr v)))
    where
      right : (y : Fact) → ⊥ ⊎ IsOfWord h k y → IsOfWord h k y
      right y (inl none) = absurd none
      right y (inr v) = v

  -- the row of the outside
  pub says_outside : (t : NewTerm) (outside k : ℕ) (promised : Bool) → IsByOutside ps t outside k promised →
      Says m ps FACTS t (λ held bit. (promised ≡ true) ⊎ (held (unreached_by outside (body_of k bit)) ≡ true)) (IsOfWord outside k)
  says_outside t outside k true w = subst (λ u. Says m ps FACTS u (λ held bit. (true ≡ true) ⊎ (held (unreached_by outside (body_of k bit)) ≡ true))
      (IsOfWord outside k)) (sym w.term)
      (says_iff m ps FACTS (roll-NewTerm (new.Or (roll-NewTerm (new.Const FACTS)) w.word))
      (λ held bit. IsSet FACTS bit ⊎ Has held (pos.Reach outside k) bit) (λ held bit. (true ≡ true) ⊎ (held (unreached_by outside (body_of k bit)) ≡
      true)) (λ y. ⊥ ⊎ IsOfWord outside k y) (IsOfWord outside k)
      (says_or m ps FACTS (roll-NewTerm (new.Const FACTS)) w.word (λ held bit. IsSet FACTS bit) (λ held bit. Has held (pos.Reach outside k) bit) (λ
      y. ⊥) (IsOfWord outside k)
      (says_bits m ps FACTS FACTS) (says_word m ps is FACTS w.word (pos.Reach outside k) w.reads))
      (λ held bit set. ((λ v. inl refl), λ v. inl set))
      (λ y. ((λ v. right y v), λ v. inr v)))
    where
      right : (y : Fact) → ⊥ ⊎ IsOfWord outside k y → IsOfWord outside k y
      right y (inl none) = absurd none
      right y (inr v) = v
  says_outside t outside k false w = subst (λ u. Says m ps FACTS u (λ held bit. (false ≡ true) ⊎ (held (unreached_by outside (body_of k bit)) ≡
      true)) (IsOfWord outside k)) (sym w.term)
      (says_iff m ps FACTS w.word (λ held bit. Has held (pos.Reach outside k) bit) (λ held bit. (false ≡ true) ⊎ (held (unreached_by outside (body_of
      k bit)) ≡ true))
      (IsOfWord outside k) (IsOfWord outside k) (says_word m ps is FACTS w.word (pos.Reach outside k) w.reads)
      (λ held bit set.
      let same = unreached_is outside k bit (facts_low bit set) in
      ((λ v. inr (ap held same ∙ v)), λ v. back held bit same v))
      (λ y. ((λ v. v), λ v. v)))
    where
      back : (held : Fact → Bool) (bit : ℕ) → unreached_by outside (body_of k bit) ≡ fact (pos.Reach outside k) bit →
          (false ≡ true) ⊎ (held (unreached_by outside (body_of k bit)) ≡ true) → Has held (pos.Reach outside k) bit
      back held bit same (inl never) = crash never
      back held bit same (inr v) = sym (ap held same) ∙ v

  -- a call
  module _ (k : ℕ) (o : Op) where
    pub says_inner : (t : NewTerm) (h : ℕ) → inner_callee m o ≡ Some h → IsByRow ps t (rank m h) k → Says m ps FACTS t (AsksCall m k o) (SpeaksCall m k o)
    says_inner t h inner w =
        says_iff m ps FACTS t (AsksRow (rank m h) k) (AsksCall m k o) (IsOfWord (rank m h) k) (SpeaksCall m k o) (says_row t (rank m h) k w)
        (λ held bit set. (passes held bit, λ v. v.inner h inner))
        (λ y. ((λ v. inl (h, inner, v)), λ v. speaks y v))
      where
        passes : (held : Fact → Bool) (bit : ℕ) → AsksRow (rank m h) k held bit → AsksCall m k o held bit
        passes held bit v = record {
          inner = λ g e.
              let same : h ≡ g = cc in
              subst (λ n. (rank m n ≢ body_of k bit) × (held (unreached_by (rank m n) (body_of k bit)) ≡ true)) same v;
          outer = λ e. absurd (inner_not_outer m o h inner e);
        }

        speaks : (y : Fact) → SpeaksCall m k o y → IsOfWord (rank m h) k y
        speaks y (inl v) = let found = v.1 in let same : v.0 ≡ h = cc in subst (λ n. IsOfWord (rank m n) k y) same v.2
        speaks y (inr v) = absurd (inner_not_outer m o h inner v.0)

    pub says_outer : (t : NewTerm) (promised : Bool) → is_call o ≡ true → inner_callee m o ≡ None → promised ≡ is_promised m Nocallback o →
        IsByOutside ps t (body_count m) k promised → Says m ps FACTS t (AsksCall m k o) (SpeaksCall m k o)
    says_outer t promised call none same w =
        says_iff m ps FACTS t (λ held bit. (promised ≡ true) ⊎ (held (unreached_by (body_count m) (body_of k bit)) ≡ true)) (AsksCall m k o)
        (IsOfWord (body_count m) k) (SpeaksCall m k o) (says_outside t (body_count m) k promised w)
        (λ held bit set. (passes held bit, λ v. back held bit (v.outer (none_outer m o call none))))
        (λ y. ((λ v. inr (none_outer m o call none, v)), λ v. speaks y v))
      where
        either : (held : Fact → Bool) (bit : ℕ) → (promised ≡ true) ⊎ (held (unreached_by (body_count m) (body_of k bit)) ≡ true) →
            (is_promised m Nocallback o ≡ true) ⊎ (held (unreached_by (body_count m) (body_of k bit)) ≡ true)
        either held bit (inl v) = inl (sym same ∙ v)
        either held bit (inr v) = inr v

        back : (held : Fact → Bool) (bit : ℕ) → (is_promised m Nocallback o ≡ true) ⊎ (held (unreached_by (body_count m) (body_of k bit)) ≡ true) →
            (promised ≡ true) ⊎ (held (unreached_by (body_count m) (body_of k bit)) ≡ true)
        back held bit (inl v) = inl (same ∙ v)
        back held bit (inr v) = inr v

        passes : (held : Fact → Bool) (bit : ℕ) → (promised ≡ true) ⊎ (held (unreached_by (body_count m) (body_of k bit)) ≡ true) → AsksCall m k o held bit
        passes held bit v = record {
          inner = λ g e. absurd (let clash : None ≡ Some g = sym none ∙ e in cc);
          outer = λ e. either held bit v;
        }

        speaks : (y : Fact) → SpeaksCall m k o y → IsOfWord (body_count m) k y
        speaks y (inl v) = absurd (let clash : None ≡ Some v.0 = sym none ∙ v.1 in cc)
        speaks y (inr v) = v.1
