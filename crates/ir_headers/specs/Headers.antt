-- Functions by their headers (LangRef, "Functions").
use Rattle.std.specs.Prelude.{ℕ, ◌+◌, Bool, true, false, List, [], ◌∷◌, codes, Option, None, Some}
use Rattle.std.specs.List.{list_any, flat_map}
use Rattle.std.specs.Option.{is_some}
use Rattle.std.specs.Str.{bytes_eq}
use Rattle.ir_token.specs.declared.token.Token.{Token}
use Rattle.ir_tree.specs.declared.constants.Tconst.{Tconst}
use Rattle.ir_tree.specs.declared.headers.Ftail.{Ftail}
use Rattle.ir_tree.specs.declared.headers.Ftail.TheVariants as ftail
use Rattle.ir_tree.specs.declared.headers.Header.{Header}
use Rattle.ir_tree.specs.declared.headers.Param as tree_param
use Rattle.ir_tree.specs.declared.headers.Params as tree_params
use Rattle.ir_tree.specs.declared.headers.Params.TheVariants as params
use Rattle.ir_module.specs.declared.attrs.FuncAttrs.{FuncAttrs}
use Rattle.ir_module.specs.declared.op.Written.{Written}
use Rattle.ir_module.specs.declared.module.Param.{Param}
use Rattle.ir_module.specs.declared.module.Func.{Func}
use Rattle.ir_attrs.specs.Leaves.{leaf_text, leaf_from}
use Rattle.ir_attrs.specs.Functions.{func_attrs}
use Rattle.ir_attrs.specs.Params.{param_attrs}
use Rattle.ir_attrs.specs.Places.{param_place, func_places}
use Rattle.ir_instrs.specs.Reading.{Reading, Parts}
use Rattle.ir_instrs.specs.Uses.{Use, each}
use Rattle.ir_instrs.specs.Operands.{tconst, tconst_uses}
use Rattle.ir_bodies.specs.Context.{Context}
use Rattle.ir_headers.specs.Leaves.{name_of, linkage_of, span_of}

-- a parameter that is the value of this number
abbrev pub param_of : Reading → ℕ → tree_param.Param → Param
param_of r v p = record { value = record { 0 = v }; ty = r.kind p.ty; attrs = param_attrs r.text r.toks p.words; place = param_place r.toks p }

-- one more
abbrev pub one_more : ℕ → ℕ
one_more n = n + 1

-- parameters, of which the first is the value of this number
abbrev pub params_from : Reading → ℕ → List tree_param.Param → List Param
params_from r v [] = []
params_from r v (p ∷ ps) = param_of r v p ∷ params_from r (one_more v) ps

abbrev pub params_of : Reading → ℕ → tree_params.Params → List Param
params_of r v params.Empty = []
params_of r v (params.Dots at) = []
params_of r v (params.Listed ps dots) = params_from r v ps

-- `...` is written
abbrev pub is_variadic : tree_params.Params → Bool
is_variadic params.Empty = false
is_variadic (params.Dots at) = true
is_variadic (params.Listed ps dots) = is_some dots

-- the constant behind `prefix`, `prologue` or `personality`
abbrev pub extra_in : Ftail → List Tconst
extra_in (ftail.Extra word value) = value ∷ []
extra_in _ = []

abbrev pub extras : List Ftail → List Tconst
extras tails = flat_map extra_in tails

-- the constants that a header names
abbrev pub extra_uses : Reading → List Ftail → List Use
extra_uses r tails = flat_map (tconst_uses r) (extras tails)

-- the constants themselves, behind these parts
abbrev pub extras_of : Reading → Parts → List Ftail → List Written
extras_of r ps tails = each r (tconst r) (tconst_uses r) ps (extras tails)

abbrev pub is_personality : List ℕ → List Token → Ftail → Bool
is_personality b toks (ftail.Extra word value) = bytes_eq (leaf_text b toks word) (codes "personality")
is_personality b toks _ = false

-- where a function stands: the first token of its entity, the number of its first parameter, and its blocks
pub record Stand : Type 0 where
  pub at : ℕ
  pub value : ℕ
  pub block : ℕ
  pub count : ℕ

-- its attributes, those of its groups among them
abbrev pub attrs_of : Context → Header → FuncAttrs
attrs_of x h = func_attrs x.reading.text x.reading.toks x.reading.ids x.groups h.attributes

-- a function by its header, with the constants of its tails
abbrev pub func_with : Context → Stand → Header → List Written → Func
func_with x s h extra = let r = x.reading in record {
  name = name_of r.text r.toks h.name;
  linkage = linkage_of r.text r.toks h.linkage;
  ret = r.kind h.result;
  ret_attrs = param_attrs r.text r.toks h.result_words;
  params = params_of r s.value h.params;
  variadic = is_variadic h.params;
  attrs = attrs_of x h;
  places = func_places r.toks h;
  personality = list_any (is_personality r.text r.toks) h.tails;
  extra = extra;
  token = span_of r.toks h.name;
  at = leaf_from r.toks s.at;
  first_block = s.block;
  block_count = s.count;
}

-- a function by its header, whose constants are laid behind these parts
abbrev pub func_of : Context → Parts → Stand → Header → Func
func_of x ps s h = func_with x s h (extras_of x.reading ps h.tails)
