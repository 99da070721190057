-- Things that are made of lists, one list behind another.
use Rattle.std.proofs.Common.{◌≡◌, ℕ, ◌+◌, ◌<◌, ◌≤◌, List, [], ◌∷◌, ◌++◌, length, take, drop, take_all, get_or, refl, sym, ap, subst, ◌∙◌, append_assoc, arith}
use Rattle.std.specs.List.{flat_map}
use Rattle.ir_scopes.proofs.Entering.{flat_more}
use Rattle.ir_consts.specs.declared.consts.Laid.{Laid}
use Rattle.ir_instrs.specs.Reading.{Reading, Parts}
use Rattle.ir_instrs.specs.Uses.{Use, behind, each, Takes}
use Rattle.ir_instrs.proofs.Taking.{takes_both}
use Rattle.ir_instrs.proofs.Making.{Makes, each_append}
use Rattle.std.specs.Prelude.{zero, suc, slice_get, Result, Ok, Err, IfOk, Some, ◌-◌}
use Rattle.std.proofs.lemmas.Option.{none-some, same_Some}
use Rattle.ir_token.specs.declared.token.Token.{Token}
use Rattle.ir_token.specs.Lists.{Reaches}
use Rattle.ir_names.specs.Ids.{IsTokenOf}
use Rattle.ir_tree.specs.declared.headers.Param as tree_param
use Rattle.ir_module.specs.declared.module.Param.{Param}
use Rattle.ir_headers.specs.Headers.{param_of, params_from}

pub flat_append : {X Y : Type 0} (f : X → List Y) (xs ys : List X) → flat_map f (xs ++ ys) ≡ flat_map f xs ++ flat_map f ys
flat_append f [] ys = refl
flat_append f (x ∷ xs) ys = ap (λ zs. f x ++ zs) (flat_append f xs ys) ∙ sym (append_assoc (f x) (flat_map f xs) (flat_map f ys))

-- a list of things behind those that were made
pub makes_list : {X Y : Type 0} (r : Reading) (made : Parts → X → Y) (uses : X → List Use) (xs ws : List X) (old mid new : Laid) (ys zs : List Y) →
    Makes r made uses xs old ys mid → zs ≡ ys ++ each r made uses mid.parts.items ws → Takes r (flat_map uses ws) mid new →
    Makes r made uses (xs ++ ws) old zs new
makes_list r made uses xs ws old mid new ys zs before more takes = record {
  are = more ∙ ap (λ ys. ys ++ each r made uses mid.parts.items ws) before.are
      ∙ ap (λ k. each r made uses old.parts.items xs ++ each r made uses k ws) before.takes.parts
      ∙ sym (each_append r made uses old.parts.items xs ws);
  takes = subst (λ us. Takes r us old new) (sym (flat_append uses xs ws))
      (takes_both r (flat_map uses xs) (flat_map uses ws) old mid new before.takes takes);
}

-- what one more thing has is made behind what those before it have
pub makes_next : {W X Y : Type 0} (r : Reading) (made : Parts → X → Y) (uses : X → List Use) (f : W → List X) (ws : List W) (i : ℕ) (w : W)
    (old mid new : Laid) (ys zs : List Y) → i < length ws → w ≡ get_or ws i w → Makes r made uses (flat_map f (take i ws)) old ys mid →
    zs ≡ ys ++ each r made uses mid.parts.items (f w) → Takes r (flat_map uses (f w)) mid new →
    Makes r made uses (flat_map f (take (i + 1) ws)) old zs new
makes_next r made uses f ws i w old mid new ys zs l is before more takes =
    subst (λ xs. Makes r made uses xs old zs new) (ap (λ z. flat_map f (take i ws) ++ f z) is ∙ sym (flat_more f ws i w l))
    (makes_list r made uses (flat_map f (take i ws)) (f w) old mid new ys zs before more takes)

-- once all of them are made
pub makes_whole : {W X Y : Type 0} (r : Reading) (made : Parts → X → Y) (uses : X → List Use) (f : W → List X) (ws : List W) (i : ℕ) (old new : Laid)
    (ys : List Y) → length ws ≤ i → Makes r made uses (flat_map f (take i ws)) old ys new → Makes r made uses (flat_map f ws) old ys new
makes_whole r made uses f ws i old new ys l done = subst (λ ws. Makes r made uses (flat_map f ws) old ys new) (take_all i ws l) done

-- each of the tokens of a text is one
pub token_of : (b : List ℕ) (at to : ℕ) (ts : List Token) (k : ℕ) (t : Token) → Reaches b at ts to → slice_get ts k ≡ Some t → IsTokenOf b t
token_of b at to [] k t r e = absurd (none-some t e)
token_of b at to (u ∷ ts) zero t r e = subst (IsTokenOf b) (same_Some u t e) r.1
token_of b at to (u ∷ ts) (suc k) t r e = token_of b u.span.to to ts k t r.3 e

-- one more parameter: those that are made, and those of what is left
pub params_next : (r : Reading) (v w : ℕ) (rest : List tree_param.Param) (x : tree_param.Param) (acc new whole : List Param) (made : Param) →
    1 ≤ length rest → x ≡ get_or rest 0 x → acc ++ params_from r v rest ≡ whole → made ≡ param_of r v x → new ≡ acc ++ made ∷ [] → w ≡ v + 1 →
    new ++ params_from r w (take (length rest - 1) (drop 1 rest)) ≡ whole
params_next r v w [] x acc new whole made l is before m pushed up = absurd (omega arith)
params_next r v w (y ∷ ys) x acc new whole made l is before m pushed up =
    ap (λ zs. new ++ params_from r w zs) (take_all (length (y ∷ ys) - 1) ys (omega arith)) ∙ ap (λ n. new ++ params_from r n ys) up
    ∙ ap (λ a. a ++ params_from r (v + 1) ys) pushed ∙ append_assoc acc (made ∷ []) (params_from r (v + 1) ys)
    ∙ ap (λ p. acc ++ p ∷ params_from r (v + 1) ys) (m ∙ ap (param_of r v) is) ∙ before

-- what is said of an answer that is no want of memory
pub if_ok : {T E : Type 0} {P Q : T → Type 0} (r : Result T E) → ((x : T) → P x → Q x) → IfOk r P → IfOk r Q
if_ok (Ok x) f h = f x h
if_ok (Err e) f h = tt
