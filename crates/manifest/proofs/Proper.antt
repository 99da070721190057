-- Each attribute that is added is proper: its accesses are two bits each, its number fits 64.
use Rattle.std.proofs.Common.{arith, ◌+◌, ◌^◌, ◌<◌, ◌==◌, ◌&&◌, ◌||◌, not, if◌then◌else◌, ℕ, zero, suc, Bool, true, false, List, [], ◌∷◌, ◌++◌, length}
use Rattle.std.proofs.Common.{slice_get, slice_index, Option, None, Some, IfSome}
use Rattle.std.specs.List.{AllByRecursion}
use Rattle.std.specs.Option.{option_map_or, is_some}
use Rattle.attr_ids.specs.declared.insertion.Place.{Place}
use Rattle.attr_ids.specs.declared.insertion.Place.TheVariants as place
use Rattle.lattice_words.specs.Ladders.{align_rungs, byte_rungs}
use Rattle.lattice_words.specs.declared.value.TheConstants.{NONNULL, ALIGN_2, ALIGN_RUNGS, BYTES_1, BYTE_RUNGS, CAPTURED_BY_RETURN_ALONE}
use Rattle.lattice_words.specs.declared.value.TheConstants.{NOT_RETURNED, NOT_READ_THROUGH, NOT_WRITTEN_THROUGH}
use Rattle.ir_module.specs.declared.attrs.ParamAttrs.{ParamAttrs}
use Rattle.ir_module.specs.declared.op.Call.{Call}
use Rattle.ir_module.specs.declared.op.Written.{Written}
use Rattle.ir_module.specs.declared.op.Instr.{Instr}
use Rattle.ir_module.specs.declared.module.Seg.{Seg}
use Rattle.ir_module.specs.declared.module.Block.{Block}
use Rattle.ir_module.specs.declared.module.Param.{Param}
use Rattle.ir_module.specs.declared.module.Func.{Func}
use Rattle.ir_module.specs.declared.module.Spot.{Spot}
use Rattle.ir_module.specs.declared.module.Module.{Module}
use Rattle.ir_module.specs.Calls.{call_of, inner_callee, is_exact}
use Rattle.ir_module.specs.Places.{spot}
use Rattle.facts.specs.Kinds.{FunctionFact, NoAccess, Read, Write, Default, Argmem, Inaccessible}
use Rattle.facts.specs.Facts.{Fact, dead, nofree_of, noreturn_of, nounwind_of, unreached}
use Rattle.facts.specs.Bodies.{is_pointer}
use Rattle.shelf.proofs.Every.{every_append}
use Rattle.manifest.specs.Attrs.{Attr, added, added_some, with_rung, highest, align_attrs, bytes_attrs, nonnull_attrs, nocapture_attrs, access_attr}
use Rattle.manifest.specs.Attrs.{access_attrs, memory_attrs, memory_of, permits_all, excludes_argument_writes, has_access}
use Rattle.manifest.specs.Spelling.{IsProper}
use Rattle.manifest.specs.Added.{Added, Subject, OfBody, OfParam, OfCall, OfArg, put, joined}
use Rattle.manifest.specs.Function.{function_attrs, at_function, is_dead_body, has_writable, of_body}
use Rattle.manifest.specs.Call.{call_attrs, at_call, has_writable_arg}
use Rattle.manifest.specs.Return.{return_attrs, of_returned, at_return, at_call_return}
use Rattle.manifest.specs.Parameter.{param_attrs_by, param_attrs, at_param, returned_param, of_entry, of_param, is_number}
use Rattle.manifest.specs.Argument.{arg_attrs_by, of_operand, of_handed, refuses_access, at_parts, at_arg, param_for}
use Rattle.manifest.specs.Additions.{call_additions, instr_additions, seg_additions, block_additions, header_additions, body_additions}
use Rattle.manifest.specs.Additions.{func_additions, additions_of}

abbrev AreProper : List Attr → Type 0
AreProper attrs = AllByRecursion IsProper attrs

abbrev pub EachProper : List Added → Type 0
EachProper list = AllByRecursion (λ (a : Added). AllByRecursion IsProper a.attrs) list

-- ---- attributes

one_or_none : (b : Bool) (attr : Attr) → IsProper attr → AreProper (if b then attr ∷ [] else [])
one_or_none true attr proper = (proper, tt)
one_or_none false attr proper = tt

none_or_one : (b : Bool) (attr : Attr) → IsProper attr → AreProper (if b then [] else attr ∷ [])
none_or_one true attr proper = tt
none_or_one false attr proper = (proper, tt)

added_proper : (written deduced : Bool) (attr : Attr) → IsProper attr → AreProper (added written deduced attr)
added_proper written deduced attr proper = one_or_none (deduced && not written) attr proper

added_some_proper : (written : Bool) (o : Option Attr) → IfSome o IsProper → AreProper (added_some written o)
added_some_proper written None proper = tt
added_some_proper written (Some attr) proper = none_or_one written attr proper

index_small : (xs : List ℕ) (k : ℕ) → AllByRecursion (λ x. x < 2 ^ 64) xs → slice_index xs k < 2 ^ 64
index_small [] k small = let e : 0 < 2 ^ 64 = omega arith in e
index_small (x ∷ xs) zero small = small.0
index_small (x ∷ xs) (suc k) small = index_small xs k small.1

rung_proper : (attr : ℕ → Attr) (rungs : List ℕ) (o : Option ℕ) → ((n : ℕ) → n < 2 ^ 64 → IsProper (attr n)) → AllByRecursion (λ x. x < 2 ^ 64) rungs →
    IfSome (with_rung attr rungs o) IsProper
rung_proper attr rungs None proper small = tt
rung_proper attr rungs (Some k) proper small = proper (slice_index rungs k) (index_small rungs k small)

align_small : AllByRecursion (λ x. x < 2 ^ 64) align_rungs
align_small = (omega arith, (omega arith, (omega arith, (omega arith, (omega arith, (omega arith, tt))))))

bytes_small : AllByRecursion (λ x. x < 2 ^ 64) byte_rungs
bytes_small = (
  omega arith,
  (
    omega arith,
    (
      omega arith,
      (
        omega arith,
        (
          omega arith,
          (
            omega arith,
            (
              omega arith,
              (
                omega arith,
                (omega arith, (omega arith, (omega arith, (omega arith, (omega arith, (omega arith, (omega arith, (omega arith, tt)))))))),
              ),
            ),
          ),
        ),
      ),
    ),
  ),
)

align_proper : (written : ParamAttrs) (has : ℕ → Bool) → AreProper (align_attrs written has)
align_proper written has =
    let rung = highest (λ k. has (ALIGN_2 + k)) ALIGN_RUNGS in
    added_some_proper (not (written.align == 0)) (with_rung Attr.Align align_rungs rung)
    (rung_proper Attr.Align align_rungs rung (λ n small. small) align_small)

bytes_proper : (written : ParamAttrs) (has : ℕ → Bool) → AreProper (bytes_attrs written has)
bytes_proper written has =
    let rung = highest (λ k. has (BYTES_1 + k)) BYTE_RUNGS in
    added_some_proper (not (written.dereferenceable == 0)) (with_rung Attr.Dereferenceable byte_rungs rung)
    (rung_proper Attr.Dereferenceable byte_rungs rung (λ n small. small) bytes_small)

nonnull_proper : (written : ParamAttrs) (has : ℕ → Bool) → AreProper (nonnull_attrs written has)
nonnull_proper written has = added_proper written.nonnull (has NONNULL) Attr.Nonnull tt

nocapture_proper : (written : ParamAttrs) (has : ℕ → Bool) → AreProper (nocapture_attrs written has)
nocapture_proper written has =
    added_proper (written.nocapture || written.captures) (has CAPTURED_BY_RETURN_ALONE && has NOT_RETURNED) Attr.Nocapture tt

access_proper : (unread unwritten : Bool) → IfSome (access_attr unread unwritten) IsProper
access_proper true true = tt
access_proper false true = tt
access_proper true false = tt
access_proper false false = tt

accesses_proper : (written : Bool) (has : ℕ → Bool) → AreProper (access_attrs written has)
accesses_proper written has =
    added_some_proper written (access_attr (has NOT_READ_THROUGH) (has NOT_WRITTEN_THROUGH)) (access_proper (has NOT_READ_THROUGH) (has NOT_WRITTEN_THROUGH))

two_bits : (a b : Bool) → (if a then 0 else 1) + (if b then 0 else 2) < 4
two_bits true true = omega arith
two_bits true false = omega arith
two_bits false true = omega arith
two_bits false false = omega arith

memory_proper : (written writable : Bool) (has : FunctionFact → Bool) → AreProper (memory_attrs written writable has)
memory_proper written writable has =
    added_proper written (not (permits_all (memory_of has)) && not (writable && excludes_argument_writes has)) (Attr.Memory (memory_of has)) (
      two_bits (has (NoAccess Read Default)) (has (NoAccess Write Default)),
      two_bits (has (NoAccess Read Argmem)) (has (NoAccess Write Argmem)),
      two_bits (has (NoAccess Read Inaccessible)) (has (NoAccess Write Inaccessible)),
    )

-- one list behind another
then_proper : (xs ys : List Attr) → AreProper xs → AreProper ys → AreProper (xs ++ ys)
then_proper xs ys x y = every_append IsProper xs ys x y

function_proper : (m : Module) (held : Fact → Bool) (f : ℕ) (func : Func) → AreProper (function_attrs m held f func)
function_proper m held f func =
    let nofree = added func.attrs.nofree (held (nofree_of f)) Attr.Nofree in
    let norecurse = added func.attrs.norecurse (held (unreached m f f)) Attr.Norecurse in
    let noreturn = added func.attrs.noreturn (held (noreturn_of f)) Attr.Noreturn in
    let nounwind = added func.attrs.nounwind (held (nounwind_of f)) Attr.Nounwind in
    let access = memory_attrs (is_some func.attrs.memory) (has_writable func.params) (of_body held f) in
    then_proper (nofree ++ norecurse ++ noreturn ++ nounwind) access
    (then_proper (nofree ++ norecurse ++ noreturn) nounwind
    (then_proper (nofree ++ norecurse) noreturn
    (then_proper nofree norecurse (added_proper func.attrs.nofree (held (nofree_of f)) Attr.Nofree tt)
    (added_proper func.attrs.norecurse (held (unreached m f f)) Attr.Norecurse tt))
    (added_proper func.attrs.noreturn (held (noreturn_of f)) Attr.Noreturn tt))
    (added_proper func.attrs.nounwind (held (nounwind_of f)) Attr.Nounwind tt))
    (memory_proper (is_some func.attrs.memory) (has_writable func.params) (of_body held f))

call_proper : (held : Fact → Bool) (g : ℕ) (call : Call) → AreProper (call_attrs held g call)
call_proper held g call =
    let written = call.attrs.func in
    let nofree = added written.nofree (held (nofree_of g)) Attr.Nofree in
    let noreturn = added written.noreturn (held (noreturn_of g)) Attr.Noreturn in
    let nounwind = added written.nounwind (held (nounwind_of g)) Attr.Nounwind in
    let access = memory_attrs (is_some written.memory) (has_writable_arg call.attrs.args) (of_body held g) in
    then_proper (nofree ++ noreturn ++ nounwind) access
    (then_proper (nofree ++ noreturn) nounwind
    (then_proper nofree noreturn (added_proper written.nofree (held (nofree_of g)) Attr.Nofree tt)
    (added_proper written.noreturn (held (noreturn_of g)) Attr.Noreturn tt))
    (added_proper written.nounwind (held (nounwind_of g)) Attr.Nounwind tt))
    (memory_proper (is_some written.memory) (has_writable_arg call.attrs.args) (of_body held g))

return_proper : (written : ParamAttrs) (has : ℕ → Bool) → AreProper (return_attrs written has)
return_proper written has =
    then_proper (align_attrs written has ++ bytes_attrs written has) (nonnull_attrs written has)
    (then_proper (align_attrs written has) (bytes_attrs written has) (align_proper written has) (bytes_proper written has)) (nonnull_proper written has)

-- what is added to a pointer, by what is known of it and of its uses
pointer_proper : (written : ParamAttrs) (known uses : ℕ → Bool) (is_written : Bool) → AreProper
    (align_attrs written known ++ bytes_attrs written known ++ nocapture_attrs written uses ++ nonnull_attrs written known ++ access_attrs is_written uses)
pointer_proper written known uses is_written =
    let align = align_attrs written known in
    let bytes = bytes_attrs written known in
    let nocapture = nocapture_attrs written uses in
    let nonnull = nonnull_attrs written known in
    then_proper (align ++ bytes ++ nocapture ++ nonnull) (access_attrs is_written uses)
    (then_proper (align ++ bytes ++ nocapture) nonnull
    (then_proper (align ++ bytes) nocapture
    (then_proper align bytes (align_proper written known) (bytes_proper written known)) (nocapture_proper written uses))
    (nonnull_proper written known))
    (accesses_proper is_written uses)

param_proper : (p : Param) (entry uses : ℕ → Bool) (returned : Bool) → AreProper (param_attrs_by p entry uses returned)
param_proper p entry uses returned =
    then_proper _ (added (p.attrs.sret || p.attrs.writable) returned Attr.Returned) (pointer_proper p.attrs entry uses (has_access p.attrs))
    (added_proper (p.attrs.sret || p.attrs.writable) returned Attr.Returned tt)

arg_proper : (written : ParamAttrs) (operand uses : ℕ → Bool) (refuses : Bool) → AreProper (arg_attrs_by written operand uses refuses)
arg_proper written operand uses refuses = pointer_proper written operand uses (has_access written || refuses)

-- ---- what is added

put_proper : (at : ℕ) (place : Place) (subject : Subject) (attrs : List Attr) → AreProper attrs → EachProper (put at place subject attrs)
put_proper at place subject [] proper = tt
put_proper at place subject (attr ∷ attrs) proper = (proper, tt)

out : (b : Bool) (list : List Added) → EachProper list → EachProper (if b then [] else list)
out true list proper = tt
out false list proper = proper

only : (b : Bool) (list : List Added) → EachProper list → EachProper (if b then list else [])
only true list proper = proper
only false list proper = tt

and_then : (xs ys : List Added) → EachProper xs → EachProper ys → EachProper (xs ++ ys)
and_then xs ys x y = every_append (λ (a : Added). AllByRecursion IsProper a.attrs) xs ys x y

all_joined : (part : ℕ → List Added) → ((k : ℕ) → EachProper (part k)) → (n : ℕ) → EachProper (joined part n)
unfolding joined
all_joined part each zero = tt
all_joined part each (suc n) = and_then (joined part n) (part n) (all_joined part each n) (each n)

module _ (m : Module) (held : Fact → Bool) where
  written_proper : (s : Spot) (handed : Option Param) (at : ℕ) (w : Option Written) (written : Option ParamAttrs) (offset : Option ℕ) →
      EachProper (at_parts m held s handed at w written offset)
  written_proper s handed at (Some w) (Some written) (Some offset) =
      let attrs = arg_attrs_by written (of_operand m held w) (of_handed held handed) (refuses_access handed) in
      only (is_pointer m w.ty) (put offset place.Argument (OfArg s at) attrs)
      (put_proper offset place.Argument (OfArg s at) attrs (arg_proper written (of_operand m held w) (of_handed held handed) (refuses_access handed)))
  written_proper s handed at None written offset = tt
  written_proper s handed at (Some w) None offset = tt
  written_proper s handed at (Some w) (Some written) None = tt

  call_return_proper : (s : Spot) (call : Call) (callee : Option ℕ) → EachProper (at_call_return held s call callee)
  call_return_proper s call None = tt
  call_return_proper s call (Some g) =
      let attrs = return_attrs call.attrs.ret (of_returned held g) in
      out (held (noreturn_of g)) (put call.places.ret place.CallReturn (OfCall s) attrs)
      (put_proper call.places.ret place.CallReturn (OfCall s) attrs (return_proper call.attrs.ret (of_returned held g)))

  of_call : (s : Spot) (call : Call) (callee : Option ℕ) → EachProper (at_call held s call callee)
  of_call s call None = tt
  of_call s call (Some g) = put_proper call.places.after place.Call (OfCall s) (call_attrs held g call) (call_proper held g call)

  calls_proper : (s : Spot) (callee : Option ℕ) (call : Call) → EachProper (call_additions m held s callee call)
  calls_proper s callee call =
      and_then (at_call_return held s call callee ++ joined (at_arg m held s call callee) (length call.args)) (at_call held s call callee)
      (and_then (at_call_return held s call callee) (joined (at_arg m held s call callee) (length call.args)) (call_return_proper s call callee)
      (all_joined (at_arg m held s call callee) (λ at. written_proper s (param_for m callee at) at (slice_get call.args at) (slice_get call.attrs.args at)
      (slice_get call.places.args at)) (length call.args)))
      (of_call s call callee)

  instr_proper : (s : Spot) (o : Option Instr) → EachProper (instr_additions m held s o)
  instr_proper s None = tt
  instr_proper s (Some instr) = by (call_of instr.op)
    where
      by : (o : Option Call) → EachProper (option_map_or (call_additions m held s (inner_callee m instr.op)) o [])
      by None = tt
      by (Some call) = calls_proper s (inner_callee m instr.op) call

  seg_proper : (k : ℕ) (o : Option Seg) → EachProper (seg_additions m held k o)
  seg_proper k None = tt
  seg_proper k (Some seg) =
      let part = λ (at : ℕ). instr_additions m held (spot k at) (slice_get seg.instrs at) in
      out (held (dead k)) (joined part (length seg.instrs)) (all_joined part (λ at. instr_proper (spot k at) (slice_get seg.instrs at)) (length seg.instrs))

  block_proper : (o : Option Block) → EachProper (block_additions m held o)
  block_proper None = tt
  block_proper (Some b) = all_joined (λ i. seg_additions m held (b.first_seg + i) (slice_get m.segs (b.first_seg + i)))
      (λ i. seg_proper (b.first_seg + i) (slice_get m.segs (b.first_seg + i))) b.seg_count

  at_params_proper : (f : ℕ) (returned : Option ℕ) (at : ℕ) (o : Option Param) → EachProper (at_param held f returned at o)
  at_params_proper f returned at None = tt
  at_params_proper f returned at (Some p) = put_proper p.place place.Parameter (OfParam f at) (param_attrs held f returned at p)
      (param_proper p (of_entry held f at) (of_param held p) (is_number at returned))

  header_proper : (f : ℕ) (func : Func) → EachProper (header_additions m held f func)
  header_proper f func =
      let part = λ (at : ℕ). at_param held f (returned_param m held f func) at (slice_get func.params at) in
      let params = joined part (length func.params) in
      let attrs = return_attrs func.ret_attrs (of_returned held f) in
      only (is_exact m f) (at_return held f func ++ params ++ at_function m held f func)
      (and_then (at_return held f func ++ params) (at_function m held f func)
      (and_then (at_return held f func) params
      (out (held (noreturn_of f)) (put func.places.ret place.Return (OfBody f) attrs)
      (put_proper func.places.ret place.Return (OfBody f) attrs (return_proper func.ret_attrs (of_returned held f))))
      (all_joined part (λ at. at_params_proper f (returned_param m held f func) at (slice_get func.params at)) (length func.params)))
      (put_proper func.places.after place.Function (OfBody f) (function_attrs m held f func) (function_proper m held f func)))

  func_proper : (f : ℕ) (o : Option Func) → EachProper (func_additions m held f o)
  func_proper f None = tt
  func_proper f (Some func) =
      let part = λ (i : ℕ). block_additions m held (slice_get m.blocks (func.first_block + i)) in
      out (func.block_count == 0) (body_additions m held f func)
      (out (is_dead_body m held f) (header_additions m held f func ++ joined part func.block_count)
      (and_then (header_additions m held f func) (joined part func.block_count) (header_proper f func)
      (all_joined part (λ i. block_proper (slice_get m.blocks (func.first_block + i))) func.block_count)))

  -- each attribute that is added
  pub all_proper : EachProper (additions_of m held)
  unfolding additions_of
  all_proper = all_joined (λ f. func_additions m held f (slice_get m.funcs f)) (λ f. func_proper f (slice_get m.funcs f)) (length m.funcs)
