-- Lists over the named types, one more element at a time.
use Rattle.std.proofs.Common.{◌≡◌, ℕ, zero, suc, ◌+◌, ◌<◌, List, [], ◌∷◌, ◌++◌, length, get_or, map, take, refl, sym, ap, ◌∙◌, arith}
use Rattle.std.proofs.Common.{append_assoc, add-one}
use Rattle.std.specs.Borrow.{Bor}
use Rattle.std.proofs.lemmas.List.{take_more, map_push}
use Rattle.ir_types.specs.declared.ir_type.IrType.{IrType}
use Rattle.ir_tree.specs.declared.types.Ty.{Ty}
use Rattle.ir_tree.specs.declared.types.Ty.TheOpen.{Ty-F}
use Rattle.ir_tree.specs.declared.types.Ty.TheViews.{roll-Ty, out-roll-Ty}
use Rattle.ir_tree.specs.declared.types.Ty.TheFolds.{map-Ty}
use Rattle.ir_tree.specs.declared.entities.TypeBody.{TypeBody}
use Rattle.ir_type_names.specs.Bodies.{bodies_at}
use Rattle.ir_type_names.specs.Reading.{Reading}
use Rattle.ir_type_names.specs.Numbers.{Table, type_id}
use Rattle.ir_type_names.specs.Contents.{next_of, nexts_from, named_content, named_contents, content, content_of}

pub nexts_push : (r : Reading) (k : ℕ) (bs : List TypeBody) (b : TypeBody) →
    nexts_from r k (bs ++ b ∷ []) ≡ nexts_from r k bs ++ next_of r (k + length bs) b ∷ []
nexts_push r k [] b = ap (λ n. next_of r n b ∷ []) (omega arith)
nexts_push r k (x ∷ bs) b = ap (λ ns. next_of r k x ∷ ns) (nexts_push r (k + 1) bs b
    ∙ ap (λ n. nexts_from r (k + 1) bs ++ next_of r n b ∷ []) (omega arith))

pub nexts_long : (r : Reading) (k : ℕ) (bs : List TypeBody) → length (nexts_from r k bs) ≡ length bs
nexts_long r k [] = refl
nexts_long r k (b ∷ bs) = ap suc (nexts_long r (k + 1) bs)

pub named_push : (t : Table) (bs : List TypeBody) (nexts : List ℕ) (k n : ℕ) →
    named_contents t bs nexts k (suc n) ≡ named_contents t bs nexts k n ++ named_content t bs nexts (k + n) ∷ []
named_push t bs nexts k zero = ap (λ i. named_content t bs nexts i ∷ []) (omega arith)
named_push t bs nexts k (suc n) = ap (λ cs. named_content t bs nexts k ∷ cs) (named_push t bs nexts (k + 1) n
    ∙ ap (λ i. named_contents t bs nexts (k + 1) n ++ named_content t bs nexts i ∷ []) (omega arith))

pub content_roll : (t : Table) (x : Ty-F Ty) → content_of t (roll-Ty x) ≡ content t.names (map-Ty Ty ℕ (type_id t) x)
content_roll t x = ap (λ y. content t.names (map-Ty Ty ℕ (type_id t) y)) (out-roll-Ty x)

long_taken : {X Y : Type 0} (f : X → Y) (xs : List X) (i : ℕ) → i < length xs → length (map f (take i xs)) ≡ i
long_taken f [] i within = absurd (omega arith)
long_taken f (x ∷ xs) zero within = refl
long_taken f (x ∷ xs) (suc i) within = ap suc (long_taken f xs i (omega (arith, within)))

-- one named type more
pub nexts_more : (r : Reading) (bs : List (Bor TypeBody)) (i : ℕ) (b : Bor TypeBody) (k n : ℕ) (old new : List ℕ) → i < length bs → b ≡ get_or bs i b
    → old ≡ nexts_from r 0 (bodies_at (take i bs)) → k ≡ i → n ≡ next_of r k b.now → new ≡ old ++ n ∷ []
    → new ≡ nexts_from r 0 (bodies_at (take (i + 1) bs))
nexts_more r bs i b k n old new within here before same one push =
    let long : 0 + length (bodies_at (take i bs)) ≡ k = omega (arith, long_taken (λ (b : Bor TypeBody). b.now) bs i within, same) in
    push ∙ ap (λ ns. ns ++ n ∷ []) before
    ∙ ap (λ m. nexts_from r 0 (bodies_at (take i bs)) ++ m ∷ []) (one ∙ ap (λ j. next_of r j b.now) (sym long))
    ∙ sym (nexts_push r 0 (bodies_at (take i bs)) b.now)
    ∙ ap (nexts_from r 0) (sym (map_push (λ (b : Bor TypeBody). b.now) (take i bs) b)
    ∙ ap bodies_at (ap (λ z. take i bs ++ z ∷ []) here ∙ sym (take_more bs i b within)))

pub named_more : (t : Table) (bs : List TypeBody) (nexts : List ℕ) (k : ℕ) (old mid new : List IrType) (ty : IrType)
    → mid ≡ old ++ named_contents t bs nexts 0 k → ty ≡ named_content t bs nexts k → new ≡ mid ++ ty ∷ [] → new ≡ old ++ named_contents t bs nexts 0 (k + 1)
named_more t bs nexts k old mid new ty before one push =
    let same : k ≡ 0 + k = omega arith in
    push ∙ ap (λ xs. xs ++ ty ∷ []) before ∙ ap (λ x. (old ++ named_contents t bs nexts 0 k) ++ x ∷ []) (one ∙ ap (named_content t bs nexts) same)
    ∙ append_assoc old (named_contents t bs nexts 0 k) (named_content t bs nexts (0 + k) ∷ [])
    ∙ ap (λ xs. old ++ xs) (sym (named_push t bs nexts 0 k) ∙ ap (named_contents t bs nexts 0) (sym (add-one k)))
