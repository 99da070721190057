-- The offsets of what is added rise with the places of the text: they are some of these, in their order.
use Rattle.std.proofs.Common.{arith, ◌≡◌, ◌+◌, ◌≤◌, ◌<◌, ◌==◌, ◌⊎◌, inl, inr, if◌then◌else◌, ℕ, zero, suc, Bool, true, false, List, [], ◌∷◌, ◌++◌}
use Rattle.std.proofs.Common.{length, map, get_or, slice_get, All}
use Rattle.std.proofs.Common.{Option, None, Some, refl, sym, ap, subst, ◌∙◌}
use Rattle.std.specs.Option.{option_map_or}
use Rattle.std.specs.List.Sorted.{IsNonDecreasingBy}
use Rattle.std.proofs.lemmas.List.{map-append, get_or-map, length-map}
use Rattle.attr_ids.specs.declared.insertion.Insertion.{Insertion}
use Rattle.attr_ids.specs.declared.insertion.Place.{Place}
use Rattle.ir_module.specs.declared.attrs.ParamAttrs.{ParamAttrs}
use Rattle.ir_module.specs.declared.op.Call.{Call}
use Rattle.ir_module.specs.declared.op.Written.{Written}
use Rattle.ir_module.specs.declared.op.Instr.{Instr}
use Rattle.ir_module.specs.declared.module.Seg.{Seg}
use Rattle.ir_module.specs.declared.module.Block.{Block}
use Rattle.ir_module.specs.declared.module.Param.{Param}
use Rattle.ir_module.specs.declared.module.Func.{Func}
use Rattle.ir_module.specs.declared.module.Spot.{Spot}
use Rattle.ir_module.specs.declared.module.Module.{Module}
use Rattle.ir_module.specs.Calls.{call_of, inner_callee, is_exact}
use Rattle.ir_module.specs.Places.{spot}
use Rattle.facts.specs.Facts.{Fact, dead, noreturn_of}
use Rattle.facts.specs.Bodies.{is_pointer}
use Rattle.manifest.specs.Attrs.{Attr}
use Rattle.manifest.specs.Added.{Added, Subject, put, inserted, joined}
use Rattle.manifest.specs.Function.{at_function, is_dead_body}
use Rattle.manifest.specs.Call.{at_call}
use Rattle.manifest.specs.Return.{at_return, at_call_return}
use Rattle.manifest.specs.Parameter.{at_param, returned_param}
use Rattle.manifest.specs.Argument.{at_parts, at_arg, param_for}
use Rattle.manifest.specs.Additions.{call_additions, instr_additions, seg_additions, block_additions, header_additions}
use Rattle.manifest.specs.Additions.{func_additions, additions_of, insertions_of}
use Rattle.manifest.specs.Places.{place_if, call_places, instr_places, seg_places, block_places, param_place, header_places, func_places, places_of}
use Rattle.manifest.specs.Places.{RiseWithin, PlacesRise}

-- ---- some numbers of a list, in their order

abbrev Sub : List ℕ → List ℕ → Type 0
Sub xs [] = xs ≡ []
Sub xs (y ∷ ys) = Sub xs ys ⊎ ((rest : List ℕ) × (xs ≡ y ∷ rest) × Sub rest ys)

sub_none : (ys : List ℕ) → Sub [] ys
sub_none [] = refl
sub_none (y ∷ ys) = inl (sub_none ys)

sub_append : (xs us ys vs : List ℕ) → Sub xs ys → Sub us vs → Sub (xs ++ us) (ys ++ vs)
sub_append xs us [] vs s t = subst (λ z. Sub (z ++ us) vs) (sym s) t
sub_append xs us (y ∷ ys) vs s t = elim s [
  | inl skip ↦ inl (sub_append xs us ys vs skip t)
  | inr same ↦ inr (same.0 ++ us, ap (λ z. z ++ us) same.1, sub_append same.0 us ys vs same.2 t)
]

rise_lower : (low less n : ℕ) (xs : List ℕ) → less ≤ low → RiseWithin low n xs → RiseWithin less n xs
rise_lower low less n [] l r = tt
rise_lower low less n (x ∷ xs) l r = (omega (arith, r.0, l), r.1, r.2)

sub_rise : (low n : ℕ) (xs ys : List ℕ) → Sub xs ys → RiseWithin low n ys → RiseWithin low n xs
sub_rise low n xs [] s r = subst (RiseWithin low n) (sym s) tt
sub_rise low n xs (y ∷ ys) s r = elim s [
  | inl skip ↦ rise_lower y low n xs r.0 (sub_rise y n xs ys skip r.2)
  | inr same ↦ subst (RiseWithin low n) (sym same.1) (r.0, r.1, sub_rise y n same.0 ys same.2 r.2)
]

-- ---- the offsets of what is added

abbrev ats : List Added → List ℕ
ats list = map (λ (a : Added). a.at) list

-- added within these places
abbrev Within : List Added → List ℕ → Type 0
Within list places = Sub (ats list) places

both : (xs ys : List Added) (ps qs : List ℕ) → Within xs ps → Within ys qs → Within (xs ++ ys) (ps ++ qs)
both xs ys ps qs x y = subst (λ zs. Sub zs (ps ++ qs)) (sym (map-append (λ (a : Added). a.at) xs ys)) (sub_append (ats xs) (ats ys) ps qs x y)

all_joined : (part : ℕ → List Added) (places : ℕ → List ℕ) → ((k : ℕ) → Within (part k) (places k)) → (n : ℕ) → Within (joined part n) (joined places n)
unfolding joined
all_joined part places each zero = refl
all_joined part places each (suc n) = both (joined part n) (part n) (joined places n) (places n) (all_joined part places each n) (each n)

at_one : (at : ℕ) (place : Place) (subject : Subject) (attrs : List Attr) → Within (put at place subject attrs) (at ∷ [])
at_one at place subject [] = inl refl
at_one at place subject (attr ∷ attrs) = inr ([], refl, refl)

out : (b : Bool) (list : List Added) (places : List ℕ) → Within list places → Within (if b then [] else list) places
out true list places in_places = sub_none places
out false list places in_places = in_places

only : (b : Bool) (list : List Added) (places : List ℕ) → Within list places → Within (if b then list else []) places
only true list places in_places = in_places
only false list places in_places = sub_none places

module _ (m : Module) (held : Fact → Bool) where
  parts_within : (s : Spot) (handed : Option Param) (at : ℕ) (w : Option Written) (written : Option ParamAttrs) (offset : Option ℕ) →
      Within (at_parts m held s handed at w written offset) (place_if offset)
  parts_within s handed at (Some w) (Some written) (Some offset) = only (is_pointer m w.ty) _ (offset ∷ []) (at_one offset _ _ _)
  parts_within s handed at None written offset = sub_none (place_if offset)
  parts_within s handed at (Some w) None offset = sub_none (place_if offset)
  parts_within s handed at (Some w) (Some written) None = refl

  call_return_within : (s : Spot) (call : Call) (callee : Option ℕ) → Within (at_call_return held s call callee) (call.places.ret ∷ [])
  call_return_within s call None = inl refl
  call_return_within s call (Some g) = out (held (noreturn_of g)) _ (call.places.ret ∷ []) (at_one call.places.ret _ _ _)

  at_call_within : (s : Spot) (call : Call) (callee : Option ℕ) → Within (at_call held s call callee) (call.places.after ∷ [])
  at_call_within s call None = inl refl
  at_call_within s call (Some g) = at_one call.places.after _ _ _

  call_within : (s : Spot) (callee : Option ℕ) (call : Call) → Within (call_additions m held s callee call) (call_places call)
  call_within s callee call =
      let args = joined (at_arg m held s call callee) (length call.args) in
      let places = joined (λ at. place_if (slice_get call.places.args at)) (length call.args) in
      both (at_call_return held s call callee ++ args) (at_call held s call callee) (call.places.ret ∷ places) (call.places.after ∷ [])
      (both (at_call_return held s call callee) args (call.places.ret ∷ []) places (call_return_within s call callee)
      (all_joined (at_arg m held s call callee) (λ at. place_if (slice_get call.places.args at))
      (λ at. parts_within s (param_for m callee at) at (slice_get call.args at) (slice_get call.attrs.args at) (slice_get call.places.args at))
      (length call.args)))
      (at_call_within s call callee)

  instr_within : (s : Spot) (o : Option Instr) → Within (instr_additions m held s o) (instr_places o)
  instr_within s None = refl
  instr_within s (Some instr) = by (call_of instr.op)
    where
      by : (o : Option Call) → Within (option_map_or (call_additions m held s (inner_callee m instr.op)) o []) (option_map_or call_places o [])
      by None = refl
      by (Some call) = call_within s (inner_callee m instr.op) call

  seg_within : (k : ℕ) (o : Option Seg) → Within (seg_additions m held k o) (seg_places o)
  seg_within k None = refl
  seg_within k (Some seg) = out (held (dead k)) _ (seg_places (Some seg))
      (all_joined _ (λ at. instr_places (slice_get seg.instrs at)) (λ at. instr_within (spot k at) (slice_get seg.instrs at)) (length seg.instrs))

  block_within : (o : Option Block) → Within (block_additions m held o) (block_places m o)
  block_within None = refl
  block_within (Some b) = all_joined _ (λ i. seg_places (slice_get m.segs (b.first_seg + i)))
      (λ i. seg_within (b.first_seg + i) (slice_get m.segs (b.first_seg + i))) b.seg_count

  param_within : (f : ℕ) (returned : Option ℕ) (at : ℕ) (o : Option Param) → Within (at_param held f returned at o) (param_place o)
  param_within f returned at None = refl
  param_within f returned at (Some p) = at_one p.place _ _ _

  header_within : (f : ℕ) (func : Func) → Within (header_additions m held f func) (header_places func)
  header_within f func =
      let params = joined (λ at. at_param held f (returned_param m held f func) at (slice_get func.params at)) (length func.params) in
      let places = joined (λ at. param_place (slice_get func.params at)) (length func.params) in
      only (is_exact m f) (at_return held f func ++ params ++ at_function m held f func) (header_places func)
      (both (at_return held f func ++ params) (at_function m held f func) (func.places.ret ∷ places) (func.places.after ∷ [])
      (both (at_return held f func) params (func.places.ret ∷ []) places
      (out (held (noreturn_of f)) _ (func.places.ret ∷ []) (at_one func.places.ret _ _ _))
      (all_joined _ (λ at. param_place (slice_get func.params at))
      (λ at. param_within f (returned_param m held f func) at (slice_get func.params at)) (length func.params)))
      (at_one func.places.after _ _ _))

  defined : (b : Bool) (list : List Added) (places : List ℕ) → Within list places → Within (if b then [] else list) (if b then [] else places)
  defined true list places in_places = refl
  defined false list places in_places = in_places

  func_within : (f : ℕ) (o : Option Func) → Within (func_additions m held f o) (func_places m o)
  func_within f None = refl
  func_within f (Some func) =
      let blocks = λ (i : ℕ). block_places m (slice_get m.blocks (func.first_block + i)) in
      defined (func.block_count == 0) _ (header_places func ++ joined blocks func.block_count)
      (out (is_dead_body m held f) _ (header_places func ++ joined blocks func.block_count)
      (both (header_additions m held f func) _ (header_places func) (joined blocks func.block_count) (header_within f func)
      (all_joined _ blocks (λ i. block_within (slice_get m.blocks (func.first_block + i))) func.block_count)))

  all_within : Within (additions_of m held) (places_of m)
  unfolding additions_of places_of
  all_within = all_joined _ (λ f. func_places m (slice_get m.funcs f)) (λ f. func_within f (slice_get m.funcs f)) (length m.funcs)

-- ---- the offsets of insertions

abbrev offsets : List Insertion → List ℕ
offsets list = map (λ (i : Insertion). i.at) list

same_offsets : (list : List Added) → offsets (map inserted list) ≡ ats list
same_offsets [] = refl
same_offsets (a ∷ list) = ap (λ xs. a.at ∷ xs) (same_offsets list)

insertions_are : (m : Module) (held : Fact → Bool) → insertions_of m held ≡ map inserted (additions_of m held)
unfolding insertions_of
insertions_are m held = refl

rise : (n : ℕ) (m : Module) (held : Fact → Bool) → PlacesRise n m → RiseWithin 0 n (offsets (insertions_of m held))
rise n m held places =
    subst (RiseWithin 0 n) (sym (ap offsets (insertions_are m held) ∙ same_offsets (additions_of m held)))
    (sub_rise 0 n (ats (additions_of m held)) (places_of m) (all_within m held) places)

rise_from : (low n : ℕ) (xs : List ℕ) (j d : ℕ) → RiseWithin low n xs → j < length xs → low ≤ get_or xs j d
rise_from low n [] j d r l = absurd (omega (arith, l))
rise_from low n (x ∷ xs) zero d r l = r.0
rise_from low n (x ∷ xs) (suc j) d r l = let rest = rise_from x n xs j d r.2 (omega (arith, l)) in omega (arith, r.0, rest)

rise_order : (low n : ℕ) (xs : List ℕ) (i j d : ℕ) → RiseWithin low n xs → i ≤ j → j < length xs → get_or xs i d ≤ get_or xs j d
rise_order low n [] i j d r le l = absurd (omega (arith, l))
rise_order low n (x ∷ xs) zero zero d r le l = omega arith
rise_order low n (x ∷ xs) zero (suc j) d r le l = rise_from x n xs j d r.2 (omega (arith, l))
rise_order low n (x ∷ xs) (suc i) zero d r le l = absurd (omega (arith, le))
rise_order low n (x ∷ xs) (suc i) (suc j) d r le l = rise_order x n xs i j d r.2 (omega (arith, le)) (omega (arith, l))

rise_within : (low n : ℕ) (xs : List ℕ) (j d : ℕ) → RiseWithin low n xs → j < length xs → get_or xs j d ≤ n
rise_within low n [] j d r l = absurd (omega (arith, l))
rise_within low n (x ∷ xs) zero d r l = r.1
rise_within low n (x ∷ xs) (suc j) d r l = rise_within x n xs j d r.2 (omega (arith, l))

pub in_order : (n : ℕ) (m : Module) (held : Fact → Bool) → PlacesRise n m → IsNonDecreasingBy (λ x. x.at) (insertions_of m held)
in_order n m held r i j d le l =
    let xs = insertions_of m held in
    let long : j < length (offsets xs) = (let e = length-map xs (λ x. x.at) in omega (arith, l, e)) in
    let order = rise_order 0 n (offsets xs) i j 0 (rise n m held r) le long in
    let first = get_or-map (λ x. x.at) xs i d 0 (omega (arith, le, l)) in
    let second = get_or-map (λ x. x.at) xs j d 0 l in
    omega (arith, order, first, second)

pub within : (n : ℕ) (m : Module) (held : Fact → Bool) → PlacesRise n m → All (λ x. x.at ≤ n) (insertions_of m held)
within n m held r j d l =
    let xs = insertions_of m held in
    let long : j < length (offsets xs) = (let e = length-map xs (λ x. x.at) in omega (arith, l, e)) in
    let below = rise_within 0 n (offsets xs) j 0 (rise n m held r) long in
    let here = get_or-map (λ x. x.at) xs j d 0 l in
    omega (arith, below, here)
