-- Calls, of a `call` and of an `invoke` alike (LangRef, "'call' Instruction").
use Rattle.std.specs.Prelude.{Bool, true, false, List, [], ◌∷◌, ◌++◌, map, Option, None, Some}
use Rattle.std.specs.List.{flat_map}
use Rattle.std.specs.Option.{is_some}
use Rattle.attr_ids.specs.declared.ids.TypeId.{TypeId}
use Rattle.ir_tree.specs.declared.types.Ftype.{Ftype}
use Rattle.ir_tree.specs.declared.types.Ftype.TheVariants as ftype
use Rattle.ir_tree.specs.declared.instructions.Arg.{Arg}
use Rattle.ir_tree.specs.declared.instructions.Called.{Called}
use Rattle.ir_module.specs.declared.attrs.CallAttrs.{CallAttrs}
use Rattle.ir_module.specs.declared.op.Call.{Call}
use Rattle.ir_module.specs.declared.op.FuncType.{FuncType}
use Rattle.ir_module.specs.declared.op.Written.{Written}
use Rattle.ir_attrs.specs.Functions.{func_attrs}
use Rattle.ir_attrs.specs.Params.{param_attrs}
use Rattle.ir_attrs.specs.Places.{call_places}
use Rattle.ir_instrs.specs.Reading.{Reading, Parts, pointer_type}
use Rattle.ir_instrs.specs.Uses.{Use, behind, each}
use Rattle.ir_instrs.specs.Uses.Use.{Typed}
use Rattle.ir_instrs.specs.Operands.{written}
use Rattle.ir_bodies.specs.Context.{Context}

-- the types of the parameters: those that are written, or else those of the arguments
abbrev pub param_types : Reading → Option Ftype → List Arg → List TypeId
param_types r None args = map (λ a. r.kind a.ty) args
param_types r (Some ftype.Empty) args = []
param_types r (Some (ftype.Dots at)) args = []
param_types r (Some (ftype.Listed types dots)) args = map r.kind types

-- `...` is written
abbrev pub is_variadic : Option Ftype → Bool
is_variadic None = false
is_variadic (Some ftype.Empty) = false
is_variadic (Some (ftype.Dots at)) = true
is_variadic (Some (ftype.Listed types dots)) = is_some dots

-- the function type that a call writes
abbrev pub func_type : Reading → Called → FuncType
func_type r c = record {
  ret = r.kind c.callee.result;
  params = param_types r c.callee.params c.arguments.args;
  variadic = is_variadic c.callee.params;
}

abbrev pub callee_uses : Called → List Use
callee_uses c = Typed pointer_type c.callee.value ∷ []

abbrev pub arg_uses : Reading → Arg → List Use
arg_uses r a = Typed (r.kind a.ty) a.value ∷ []

abbrev pub arg : Reading → Parts → Arg → Written
arg r ps a = written r ps (r.kind a.ty) a.value

abbrev pub args_of : Reading → Parts → List Arg → List Written
args_of r ps args = each r (arg r) (arg_uses r) ps args

abbrev pub args_uses : Reading → List Arg → List Use
args_uses r args = flat_map (arg_uses r) args

abbrev pub call_uses : Reading → Called → List Use
call_uses r c = callee_uses c ++ args_uses r c.arguments.args

abbrev pub call_attrs : Context → Called → CallAttrs
call_attrs x c = record {
  func = func_attrs x.reading.text x.reading.toks x.reading.ids x.groups c.arguments.attributes;
  ret = param_attrs x.reading.text x.reading.toks c.callee.result_words;
  args = map (λ a. param_attrs x.reading.text x.reading.toks a.words) c.arguments.args;
}

-- a call, behind these parts of constants; a callee has the type `ptr`
abbrev pub call_of : Context → Parts → Called → Call
call_of x ps c = record {
  func_ty = func_type x.reading c;
  callee = written x.reading ps pointer_type c.callee.value;
  args = args_of x.reading (behind x.reading ps (callee_uses c)) c.arguments.args;
  attrs = call_attrs x c;
  places = call_places x.reading.toks c;
}
