-- What the attributes of a parameter say together, one after another.
use Rattle.std.proofs.Common.{◌≡◌, ℕ, Bool, List, [], ◌∷◌, ◌++◌, codes, Option, None, Some, refl, sym, ap, ◌∙◌}
use Rattle.ir_token.specs.Bytes.{Bytes}
use Rattle.ir_token.specs.declared.token.Token.{Token}
use Rattle.ir_tree.specs.declared.attributes.Rattr.{Rattr}
use Rattle.ir_tree.specs.declared.entities.Gtail.{Gtail}
use Rattle.ir_attrs.specs.Latest.{later, latest}
use Rattle.ir_attrs.specs.Params.{is_rattr, capture_says, align_says, deref_says, is_bad, or_zero, or_false, flag_or, bytes_or, param_attrs, with_attr}
use Rattle.ir_attrs.proofs.Steps.{latest_append}
use Rattle.ir_attrs.proofs.Gathering.{any_more}

flag_later : (x y : Option Bool) → or_false (later x y) ≡ flag_or (or_false x) y
flag_later x None = refl
flag_later x (Some y) = refl

bytes_later : (x y : Option (Option ℕ)) → or_zero (later x y) ≡ bytes_or (or_zero x) y
bytes_later x None = refl
bytes_later x (Some y) = refl

-- attributes with one more behind them
pub params_more : (b : Bytes) (toks : List Token) (rs : List Rattr) (r : Rattr) → param_attrs b toks (rs ++ r ∷ []) ≡ with_attr b toks (param_attrs b toks rs) r
params_more b toks rs r =
    let capture = ap or_false (latest_append (capture_says b toks) None rs (r ∷ []))
    ∙ flag_later (latest (capture_says b toks) None rs) (capture_says b toks r) in
    let align = ap or_zero (latest_append (align_says b toks) None rs (r ∷ [])) ∙ bytes_later (latest (align_says b toks) None rs) (align_says b toks r) in
    let deref = ap or_zero (latest_append (deref_says b toks) None rs (r ∷ [])) ∙ bytes_later (latest (deref_says b toks) None rs) (deref_says b toks r) in
    λ i. record {
      nonnull = any_more (is_rattr b toks (codes "nonnull")) rs r i;
      nocapture = capture i;
      captures = any_more (is_rattr b toks (codes "captures")) rs r i;
      readnone = any_more (is_rattr b toks (codes "readnone")) rs r i;
      readonly = any_more (is_rattr b toks (codes "readonly")) rs r i;
      writeonly = any_more (is_rattr b toks (codes "writeonly")) rs r i;
      returned = any_more (is_rattr b toks (codes "returned")) rs r i;
      sret = any_more (is_rattr b toks (codes "sret")) rs r i;
      writable = any_more (is_rattr b toks (codes "writable")) rs r i;
      align = align i;
      dereferenceable = deref i;
      bad = any_more (is_bad b toks) rs r i;
    }
