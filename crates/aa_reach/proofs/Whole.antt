-- What is asked of the rows of bodies and of the outside together is what the rules of reach ask.
use Rattle.std.proofs.Common.{arith, ◌≡◌, ◌+◌, ◌*◌, ◌<◌, ◌&&◌, ◌||◌, ◌==◌, ◌⊎◌, not, nat_le, nat_lt, ℕ, Bool, true, false, slice_get, Option, None}
use Rattle.std.proofs.Common.{Some, refl, sym, ap, subst, inl, inr}
use Rattle.std.proofs.lemmas.Bool.{and_parts, ltb-true, both_ways}
use Rattle.ir_module.specs.declared.module.Func.{Func}
use Rattle.ir_module.specs.declared.module.Spot.{Spot}
use Rattle.ir_module.specs.declared.module.Module.{Module}
use Rattle.ir_module.specs.Places.{spot, IsIn}
use Rattle.ir_module.specs.Calls.{is_open, is_open_in, is_taken, is_visible, has_blocks}
use Rattle.facts.specs.declared.pos.Pos.{Pos}
use Rattle.facts.specs.declared.pos.Pos.TheVariants as pos
use Rattle.facts.specs.Bodies.{is_body, rank, body_count, IsBodyNumber}
use Rattle.facts.specs.Facts.{Fact}
use Rattle.facts.specs.Masks.{is_built, has_bit_of, is_bit}
use Rattle.facts.specs.Reach.{IsPassedBy}
use Rattle.facts.specs.Names.{Speaks}
use Rattle.aa_reach.specs.Reached.{AsksReach, SpeaksReach}
use Rattle.aa_reach.specs.Asked.{AsksRows, SpeaksRows, AsksOutside, SpeaksOutside, body_of}

crash : {A : Type 0} → false ≡ true → A
crash e = absurd (cc)

-- a body is there
pub body_there : (m : Module) (f : ℕ) → is_body m f ≡ true → (func : Func) × (slice_get m.funcs f ≡ Some func)
body_there m f e = by (slice_get m.funcs f) refl e
  where
    by : (o : Option Func) → slice_get m.funcs f ≡ o → has_blocks o ≡ true → (func : Func) × (slice_get m.funcs f ≡ Some func)
    by (Some func) is e = (func, is)
    by None is e = crash e

-- an open one is a body
open_body : (m : Module) (f : ℕ) → is_open m f ≡ true → is_body m f ≡ true
unfolding is_open
open_body m f e = by (slice_get m.funcs f) e
  where
    by : (o : Option Func) → is_open_in (is_taken m f) o ≡ true → has_blocks o ≡ true
    by (Some func) e = (and_parts (not (func.block_count == 0)) (is_visible func.linkage || is_taken m f) e).0
    by None e = crash e

-- another spot of the same segment
shifted : (m : Module) (f : ℕ) (s : Spot) (at : ℕ) → IsIn m f s → IsIn m f (spot s.seg.0 at)
shifted m f s at within = record {
  seg = within.seg;
  block = within.block;
  at_seg = within.at_seg;
  at_block = within.at_block;
  in_func = within.in_func;
}

module _ (m : Module) (n : ℕ) (enough : (k : ℕ) → k * 47 < body_count m → k < n) where
  -- a word that has a bit is one of the words
  word_below : (row k bit : ℕ) → is_bit m (pos.Reach row k) bit ≡ true → k < n
  word_below row k bit has =
      let parts = and_parts (is_built (pos.Reach row k) bit) (has_bit_of m (pos.Reach row k) bit) has in
      let rest = (and_parts (nat_le row (body_count m)) (nat_lt bit 47 && nat_lt (k * 47 + bit) (body_count m)) parts.1).1 in
      let within = ltb-true (k * 47 + bit) (body_count m) (and_parts (nat_lt bit 47) (nat_lt (k * 47 + bit) (body_count m)) rest).1 in
      enough k (omega (arith, within))

  module _ (held : Fact → Bool) where
    pub asks_down : (p : Pos) (bit : ℕ) → AsksRows m n held p bit × AsksOutside m n held p bit → AsksReach m held p bit
    asks_down (pos.Reach row k) bit w reach has = record {
      body = λ f number s instr within at live.
          let func = body_there m f number.0 in
          w.0 f func.0 func.1 number.0 k (word_below row k bit has) s.seg.0 within.seg within.at_seg (shifted m f s 0 within) s.at instr at
          (ap (λ r. pos.Reach r k) (sym number.1)) has live;
      outside = λ e. record {
        closed = λ g number. by_open g number e (is_open m g) refl;
        others = λ f opened.
            let func = body_there m f (open_body m f opened) in
            (w.1 k (word_below row k bit has) f func.0 func.1 (ap (λ r. pos.Reach r k) e) has opened).1;
      };
    }
      where
        by_open : (g : ℕ) → IsBodyNumber m (body_of k bit) g → row ≡ body_count m → (b : Bool) → is_open m g ≡ b → b ≡ false
        by_open g number e false opened = refl
        by_open g number e true opened =
            let func = body_there m g number.0 in
            absurd ((w.1 k (word_below row k bit has) g func.0 func.1 (ap (λ r. pos.Reach r k) e) has opened).0 number.1)
    asks_down (pos.Segment k) bit w reach has = crash reach
    asks_down (pos.Function f) bit w reach has = crash reach
    asks_down (pos.Value v) bit w reach has = crash reach
    asks_down (pos.Entry f at) bit w reach has = crash reach
    asks_down (pos.Return f) bit w reach has = crash reach
    asks_down (pos.Effect k) bit w reach has = crash reach

    -- the rule of a word, where the position is that word
    rule_at : (p : Pos) (bit row k : ℕ) → AsksReach m held p bit → p ≡ pos.Reach row k → is_bit m p bit ≡ true → IsPassedBy m held row (body_of k bit)
    rule_at p bit row k h here has = subst (λ r. AsksReach m held r bit) here h refl (subst (λ r. is_bit m r bit ≡ true) here has)

    pub asks_up : (p : Pos) (bit : ℕ) → AsksReach m held p bit → AsksRows m n held p bit × AsksOutside m n held p bit
    asks_up p bit h = (
      λ f func at_func body k l q seg at_seg within at i there here has live.
          (rule_at p bit (rank m f) k h here has).body f (body, refl) (spot q at) i (shifted m f (spot q 0) at within) there live,
      λ k l f func at_func here has opened.
          let rule = (rule_at p bit (body_count m) k h here has).outside refl in (
            λ e. both_ways (is_open m f) (rule.closed f (open_body m f opened, e)) opened,
            rule.others f opened,
          ),
    )

  -- ---- what is spoken of

  rows_speak : (p : Pos) (y : Fact) → SpeaksRows m n p y → SpeaksReach m p y
  rows_speak p y w =
      -- body w.0, word v.0, segment u.0, instruction x.1
      let v = w.3.1 in
      let u = v.2 in
      let within = u.3.0 in
      let x = u.3.1 in
      let z = x.3 in
      subst (λ r. SpeaksReach m r y) (sym z.0) (
        z.1,
        refl,
        subst (λ r. is_bit m r z.1 ≡ true) z.0 z.2,
        inl (w.0, (w.3.0, refl), (spot u.0 x.0, x.1, shifted m w.0 (spot u.0 0) x.0 within, x.2, z.3, z.4)),
      )

  outside_speaks : (p : Pos) (y : Fact) → SpeaksOutside m n p y → SpeaksReach m p y
  outside_speaks p y w =
      let z = w.2.3 in
      subst (λ r. SpeaksReach m r y) (sym z.0) (
        z.1,
        refl,
        subst (λ r. is_bit m r z.1 ≡ true) z.0 z.2,
        inr (refl, w.2.0, z.3, z.4),
      )

  pub speaks_down : (p : Pos) (y : Fact) → SpeaksRows m n p y ⊎ SpeaksOutside m n p y → SpeaksReach m p y
  speaks_down p y (inl w) = rows_speak p y w
  speaks_down p y (inr w) = outside_speaks p y w

  pub speaks_up : (p : Pos) (y : Fact) → SpeaksReach m p y → SpeaksRows m n p y ⊎ SpeaksOutside m n p y
  speaks_up (pos.Reach row k) y w = by w.3
    where
      below : k < n
      below = word_below row k w.0 w.2

      by : Speaks m (pos.Reach row k) w.0 y → SpeaksRows m n (pos.Reach row k) y ⊎ SpeaksOutside m n (pos.Reach row k) y
      by (inl v) =
          let func = body_there m v.0 v.1.0 in
          let b = v.2 in
          inl (
            v.0,
            func.0,
            func.1,
            (
              v.1.0,
              (
                k,
                below,
                (
                  b.0.seg.0,
                  b.2.seg,
                  b.2.at_seg,
                  (
                    shifted m v.0 b.0 0 b.2,
                    (b.0.at, b.1, b.3, (ap (λ r. pos.Reach r k) (sym v.1.1), w.0, w.2, b.4, b.5)),
                  ),
                ),
              ),
            ),
          )
      by (inr v) =
          let func = body_there m v.1 (open_body m v.1 v.2) in
          inr (k, below, (v.1, func.0, func.1, (ap (λ r. pos.Reach r k) v.0, w.0, w.2, v.2, v.3)))
  speaks_up (pos.Segment k) y w = crash w.1
  speaks_up (pos.Function f) y w = crash w.1
  speaks_up (pos.Value v) y w = crash w.1
  speaks_up (pos.Entry f at) y w = crash w.1
  speaks_up (pos.Return f) y w = crash w.1
  speaks_up (pos.Effect k) y w = crash w.1
