-- What attributes say together, one after another.
use Rattle.std.proofs.Common.{◌≡◌, ℕ, ◌+◌, ◌<◌, Bool, true, false, ◌||◌, List, [], ◌∷◌, ◌++◌, codes, length, get_or, take, Option, None, Some, refl, sym, ap}
use Rattle.std.proofs.Common.{◌∙◌}
use Rattle.std.specs.List.{list_any, flat_map}
use Rattle.std.proofs.lemmas.List.{take_more}
use Rattle.std.proofs.lemmas.List.Folds.{list_any-append}
use Rattle.ir_token.specs.Bytes.{Bytes}
use Rattle.ir_token.specs.declared.token.Token.{Token}
use Rattle.ir_tree.specs.declared.attributes.Fattr.{Fattr}
use Rattle.ir_tree.specs.declared.attributes.Word.{Word}
use Rattle.ir_attrs.specs.declared.functions.Gathered.{Gathered}
use Rattle.ir_attrs.specs.Latest.{later, latest}
use Rattle.ir_attrs.specs.Attributes.{is_attr, own_attrs}
use Rattle.ir_attrs.specs.Functions.{memory_says, is_former, gathered, with_attr, merged, settled, or_nothing, named_attrs, func_attrs}
use Rattle.ir_attrs.specs.Groups.{said_of}
use Rattle.ir_attrs.proofs.Steps.{latest_append, latest_after, flat_more}

or_none : (x : Bool) → (x || false) ≡ x
or_none true = refl
or_none false = refl

-- one element more passes, or one before it
pub any_more : {X : Type 0} → (p : X → Bool) (xs : List X) (x : X) → list_any p (xs ++ x ∷ []) ≡ (list_any p xs || p x)
any_more p xs x = list_any-append p xs (x ∷ []) ∙ ap (λ y. list_any p xs || y) (or_none (p x))

-- attributes with one more behind them
pub gathered_more : (b : Bytes) (toks : List Token) (fs : List Fattr) (f : Fattr) → gathered b toks (fs ++ f ∷ []) ≡ with_attr b toks (gathered b toks fs) f
gathered_more b toks fs f = λ i. record {
  attrs = record {
    nounwind = any_more (is_attr b toks (codes "nounwind")) fs f i;
    noreturn = any_more (is_attr b toks (codes "noreturn")) fs f i;
    nofree = any_more (is_attr b toks (codes "nofree")) fs f i;
    norecurse = any_more (is_attr b toks (codes "norecurse")) fs f i;
    nocallback = any_more (is_attr b toks (codes "nocallback")) fs f i;
    memory = latest_append (memory_says b toks) None fs (f ∷ []) i;
  };
  former = any_more (is_former b toks) fs f i;
}

-- attributes with more behind them
pub gathered_both : (b : Bytes) (toks : List Token) (fs gs : List Fattr) → gathered b toks (fs ++ gs) ≡ merged (gathered b toks fs) (gathered b toks gs)
gathered_both b toks fs gs =
    let memory = latest_append (memory_says b toks) None fs gs ∙ latest_after (memory_says b toks) (latest (memory_says b toks) None fs) gs in
    λ i. record {
      attrs = record {
        nounwind = list_any-append (is_attr b toks (codes "nounwind")) fs gs i;
        noreturn = list_any-append (is_attr b toks (codes "noreturn")) fs gs i;
        nofree = list_any-append (is_attr b toks (codes "nofree")) fs gs i;
        norecurse = list_any-append (is_attr b toks (codes "norecurse")) fs gs i;
        nocallback = list_any-append (is_attr b toks (codes "nocallback")) fs gs i;
        memory = memory i;
      };
      former = list_any-append (is_former b toks) fs gs i;
    }

-- the same, of what was gathered
pub attr_more : (b : Bytes) (toks : List Token) (old said : Gathered) (f : Fattr) (before : List Fattr) → said ≡ with_attr b toks old f
    → old ≡ gathered b toks before → said ≡ gathered b toks (before ++ f ∷ [])
attr_more b toks old said f before is was = is ∙ ap (λ x. with_attr b toks x f) was ∙ sym (gathered_more b toks before f)

some_is : {A : Type 0} → (x y : A) → Some x ≡ Some y → x ≡ y
some_is x y is = cc

-- a group that is known says this
pub group_says : (b : Bytes) (toks : List Token) (o : Option (List Fattr)) (said : Gathered) → said_of b toks o ≡ Some said
    → said ≡ gathered b toks (or_nothing o)
group_says b toks None said is = absurd cc
group_says b toks (Some fs) said is = sym (some_is (gathered b toks fs) said is)

pub group_says_none : (b : Bytes) (toks : List Token) (o : Option (List Fattr)) → said_of b toks o ≡ None → or_nothing o ≡ []
group_says_none b toks None is = refl
group_says_none b toks (Some fs) is = absurd cc

-- what is said with those of a group behind it
pub group_more : (b : Bytes) (toks : List Token) (old said new : Gathered) (before : List Fattr) (o : Option (List Fattr)) → new ≡ merged old said
    → old ≡ gathered b toks before → said_of b toks o ≡ Some said → new ≡ gathered b toks (before ++ or_nothing o)
group_more b toks old said new before o is was known =
    is ∙ ap (λ x. merged x said) was ∙ ap (merged (gathered b toks before)) (group_says b toks o said known) ∙ sym (gathered_both b toks before (or_nothing o))

-- the attributes of a place, settled
pub func_is : (b : Bytes) (toks : List Token) (ids : List ℕ) (groups : ℕ → Option (List Fattr)) (ws : List Word) (x : Gathered)
    → x ≡ gathered b toks (own_attrs ws ++ flat_map (named_attrs ids groups) ws) → settled x ≡ func_attrs b toks ids groups ws
unfolding func_attrs
func_is b toks ids groups ws x is = ap settled is

-- a list of lists with one element more of those that are passed
pub taken_more : {X A : Type 0} → (f : X → List A) (ys : List X) (i : ℕ) (x : X) → i < length ys → x ≡ get_or ys i x
    → flat_map f (take i ys) ++ f x ≡ flat_map f (take (i + 1) ys)
taken_more f ys i x inside at =
    sym (flat_more f (take i ys) x) ∙ ap (λ y. flat_map f (take i ys ++ y ∷ [])) at ∙ sym (ap (flat_map f) (take_more ys i x inside))
