-- Faults that are noted one behind another.
use Rattle.std.proofs.Common.{◌≡◌, ℕ, ◌+◌, ◌<◌, ◌≤◌, List, [], ◌∷◌, ◌++◌, length, map, get_or, take, take_all, refl, sym, ap, ◌∙◌}
use Rattle.std.proofs.lemmas.List.{map_more}
use Rattle.std.specs.Prelude.{Option, Result, Ok, Err, IfOk}
use Rattle.ir_tree.specs.declared.instructions.Call.{Call}
use Rattle.ir_tree.specs.declared.instructions.Instr.TheVariants as instr
use Rattle.ir_module.specs.declared.attrs.FuncAttrs.{FuncAttrs}
use Rattle.ir_module.specs.declared.attrs.ParamAttrs.{ParamAttrs}
use Rattle.ir_module.specs.declared.attrs.CallAttrs.{CallAttrs}
use Rattle.ir_module.specs.declared.op.Op.TheVariants as op
use Rattle.ir_instrs.specs.Reading.{Parts}
use Rattle.ir_bodies.specs.Context.{Context}
use Rattle.ir_bodies.specs.Calls.{call_of}
use Rattle.ir_bodies.specs.Instrs.{op_of}
use Rattle.std.specs.List.{flat_map}
use Rattle.ir_scopes.specs.declared.faults.NameFault.{NameFault}
use Rattle.ir_scopes.specs.Faults.{first_in}
use Rattle.ir_scopes.proofs.Entering.{first_in-append, flat_more}

abbrev all_attrs : FuncAttrs → ParamAttrs → List ParamAttrs → CallAttrs
all_attrs f p xs = record { func = f; ret = p; args = xs }

-- what was found at one more thing
pub one_found : {X : Type 0} (g : X → List NameFault) (xs : List X) (i : ℕ) (x : X) (first old new : Option NameFault) → i < length xs → x ≡ get_or xs i x →
    old ≡ first_in first (flat_map g (take i xs)) → new ≡ first_in old (g x) → new ≡ first_in first (flat_map g (take (i + 1) xs))
one_found g xs i x first old new l is before made =
    made ∙ ap (λ f. first_in f (g x)) before ∙ ap (λ y. first_in (first_in first (flat_map g (take i xs))) (g y)) is
    ∙ sym (first_in-append first (flat_map g (take i xs)) (g (get_or xs i x))) ∙ ap (first_in first) (sym (flat_more g xs i x l))

-- what was found at two places, one behind the other
pub two_found : (first mid last : Option NameFault) (xs ys : List NameFault) → mid ≡ first_in first xs → last ≡ first_in mid ys →
    last ≡ first_in first (xs ++ ys)
two_found first mid last xs ys a b = b ∙ ap (λ f. first_in f ys) a ∙ sym (first_in-append first xs ys)

-- what is found at things that are seen as others
pub mapped : {X Y Z : Type 0} (g : Y → List Z) (f : X → Y) (xs : List X) → flat_map (λ x. g (f x)) xs ≡ flat_map g (map f xs)
mapped g f [] = refl
mapped g f (x ∷ xs) = ap (λ zs. g (f x) ++ zs) (mapped g f xs)

-- one more thing of a list that is mapped
pub one_more : {X Y : Type 0} (f : X → Y) (xs : List X) (i : ℕ) (x : X) (ys zs : List Y) (y : Y) → i < length xs → x ≡ get_or xs i x →
    ys ≡ map f (take i xs) → y ≡ f x → zs ≡ ys ++ y ∷ [] → zs ≡ map f (take (i + 1) xs)
one_more f xs i x ys zs y l is before made pushed =
    pushed ∙ ap (λ a. a ++ y ∷ []) before ∙ ap (λ b. map f (take i xs) ++ b ∷ []) (made ∙ ap f is) ∙ sym (map_more f xs i x l)

-- all of them
pub all_mapped : {X Y : Type 0} (f : X → Y) (xs : List X) (i : ℕ) (ys : List Y) → length xs ≤ i → ys ≡ map f (take i xs) → ys ≡ map f xs
all_mapped f xs i ys l done = done ∙ ap (map f) (take_all i xs l)

-- what is said of an answer that is no want of memory
pub if_ok : {T E : Type 0} {P Q : T → Type 0} (r : Result T E) → ((x : T) → P x → Q x) → IfOk r P → IfOk r Q
if_ok (Ok x) f h = f x h
if_ok (Err e) f h = tt

-- the attributes of a call by their parts
pub attrs_are : (f g : FuncAttrs) (p q : ParamAttrs) (xs ys : List ParamAttrs) → f ≡ g → p ≡ q → xs ≡ ys → all_attrs f p xs ≡ all_attrs g q ys
attrs_are f g p q xs ys a b c = ap (λ f. all_attrs f p xs) a ∙ ap (λ p. all_attrs g p xs) b ∙ ap (all_attrs g q) c

-- a call among the instructions
pub call_is : (x : Context) (ps : Parts) (i : Call) → op.Call (call_of x ps i.called) ≡ op_of x ps (instr.Call i)
unfolding op_of
call_is x ps i = refl
