-- Global variables (LangRef, "Global Variables").
use Rattle.std.specs.Prelude.{List, [], Option, None, Some}
use Rattle.attr_ids.specs.declared.ids.TypeId.{TypeId}
use Rattle.ir_tree.specs.declared.constants.Const.{Const}
use Rattle.ir_tree.specs.declared.entities.GlobalVar as tree_global
use Rattle.ir_module.specs.declared.op.Written.{Written}
use Rattle.ir_module.specs.declared.module.GlobalVar.{GlobalVar}
use Rattle.ir_attrs.specs.Leaves.{leaf_from}
use Rattle.ir_attrs.specs.Params.{global_align}
use Rattle.ir_scopes.specs.declared.faults.NameFault.{NameFault}
use Rattle.ir_consts.specs.Reading.{Reading}
use Rattle.ir_consts.specs.Consts.{const_of}
use Rattle.ir_consts.specs.Faults.{faults_of}
use Rattle.ir_headers.specs.Leaves.{name_of, linkage_of}

-- an initial value at a type, behind these parts
abbrev pub initial_of : Reading → TypeId → List Written → Option Const → Option Written
initial_of r t ps None = None
initial_of r t ps (Some c) = Some (const_of r c t ps).0

-- the parts behind it
abbrev pub behind_initial : Reading → TypeId → List Written → Option Const → List Written
behind_initial r t ps None = ps
behind_initial r t ps (Some c) = (const_of r c t ps).1

-- the names in it that stand for no function and no global
abbrev pub initial_faults : Reading → Option Const → List NameFault
initial_faults r None = []
initial_faults r (Some c) = faults_of r c

-- a global variable, whose initial value is laid behind these parts
abbrev pub global_of : Reading → List Written → tree_global.GlobalVar → GlobalVar
global_of r ps g = record {
  name = name_of r.text r.toks g.name;
  linkage = linkage_of r.text r.toks g.linkage;
  ty = r.kinds g.ty;
  init = initial_of r (r.kinds g.ty) ps g.initial;
  align = global_align r.text r.toks g.tails;
  at = leaf_from r.toks g.name;
}

-- the parts behind a global variable
abbrev pub behind_global : Reading → List Written → tree_global.GlobalVar → List Written
behind_global r ps g = behind_initial r (r.kinds g.ty) ps g.initial
