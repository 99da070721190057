-- Things that are made one behind another.
use Rattle.std.proofs.Common.{◌≡◌, ℕ, ◌+◌, ◌<◌, ◌≤◌, List, [], ◌∷◌, ◌++◌, length, take, take_all, get_or, refl, sym, ap, subst, ◌∙◌}
use Rattle.std.specs.List.{flat_map}
use Rattle.std.proofs.lemmas.List.{take_more}
use Rattle.ir_operands.specs.Constants.{ArePartsBelow}
use Rattle.ir_scopes.proofs.Entering.{flat_more}
use Rattle.ir_consts.specs.declared.consts.Laid.{Laid}
use Rattle.ir_instrs.specs.Reading.{Reading, Parts}
use Rattle.ir_instrs.specs.Uses.{Use, behind, each, Takes}
use Rattle.ir_instrs.proofs.Taking.{behind_append, takes_none, takes_both}

-- what is made of two lists: of the second behind what the first lays
pub each_append : {X Y : Type 0} (r : Reading) (made : Parts → X → Y) (uses : X → List Use) (ps : Parts) (xs ys : List X) →
    each r made uses ps (xs ++ ys) ≡ each r made uses ps xs ++ each r made uses (behind r ps (flat_map uses xs)) ys
each_append r made uses ps [] ys = refl
each_append r made uses ps (x ∷ xs) ys =
    ap (λ zs. made ps x ∷ zs) (each_append r made uses (behind r ps (uses x)) xs ys
    ∙ ap (λ k. each r made uses (behind r ps (uses x)) xs ++ each r made uses k ys) (sym (behind_append r ps (uses x) (flat_map uses xs))))

-- of these things those were made, and what they name was taken in
pub record Makes {X Y : Type 0} (r : Reading) (made : Parts → X → Y) (uses : X → List Use) (xs : List X) (old : Laid) (ys : List Y) (new : Laid) : Type 0
  where
    pub are : ys ≡ each r made uses old.parts.items xs
    pub takes : Takes r (flat_map uses xs) old new

pub makes_none : {X Y : Type 0} (r : Reading) (made : Parts → X → Y) (uses : X → List Use) (s : Laid) (ys : List Y) → ys ≡ [] → ArePartsBelow s.parts.items →
    Makes r made uses [] s ys s
makes_none r made uses s ys empty below = record { are = empty; takes = takes_none r s below }

-- once all of them are made
pub makes_all : {X Y : Type 0} (r : Reading) (made : Parts → X → Y) (uses : X → List Use) (xs : List X) (i : ℕ) (old new : Laid) (ys : List Y) →
    length xs ≤ i → Makes r made uses (take i xs) old ys new → Makes r made uses xs old ys new
makes_all r made uses xs i old new ys l done = subst (λ xs. Makes r made uses xs old ys new) (take_all i xs l) done

-- one more thing
pub makes_more : {X Y : Type 0} (r : Reading) (made : Parts → X → Y) (uses : X → List Use) (xs : List X) (i : ℕ) (x : X) (old mid new : Laid)
    (ys zs : List Y) (y : Y) → i < length xs → x ≡ get_or xs i x → Makes r made uses (take i xs) old ys mid → y ≡ made mid.parts.items x →
    Takes r (uses x) mid new → zs ≡ ys ++ y ∷ [] → Makes r made uses (take (i + 1) xs) old zs new
makes_more r made uses xs i x old mid new ys zs y l is before here takes pushed =
    let all : take (i + 1) xs ≡ take i xs ++ x ∷ [] = take_more xs i x l ∙ ap (λ z. take i xs ++ z ∷ []) (sym is) in
    let ps = old.parts.items in
    let us = flat_map uses (take i xs) in
    record {
      are = pushed ∙ ap (λ zs. zs ++ y ∷ []) before.are
          ∙ ap (λ z. each r made uses ps (take i xs) ++ z ∷ []) (here ∙ ap (λ k. made k x) before.takes.parts)
          ∙ sym (each_append r made uses ps (take i xs) (x ∷ []))
          ∙ ap (each r made uses ps) (sym all);
      takes = subst (λ us. Takes r us old new) (ap (λ z. us ++ uses z) is ∙ sym (flat_more uses xs i x l))
          (takes_both r us (uses x) old mid new before.takes takes);
    }
