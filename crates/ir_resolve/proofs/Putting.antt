-- A function, put behind those before it.
use Rattle.std.proofs.Common.{◌≡◌, ℕ, ◌+◌, ◌-◌, List, [], ◌∷◌, ◌++◌, length, drop, refl, sym, ap, subst, ◌∙◌, length-append, arith}
use Rattle.std.specs.Prelude.{Option, not}
use Rattle.attr_ids.specs.declared.ids.FuncId.{FuncId}
use Rattle.ir_types.specs.declared.ir_type.IrType.{IrType}
use Rattle.ir_module.specs.declared.op.Written.{Written}
use Rattle.ir_scopes.specs.declared.faults.Cause.TheVariants.{Twice}
use Rattle.ir_scopes.specs.declared.faults.NameFault.{NameFault}
use Rattle.ir_scopes.specs.Faults.{first_in, fault_unless}
use Rattle.ir_scopes.specs.Markers.{is_wrong_marker}
use Rattle.ir_scopes.proofs.Entering.{first_in-append}
use Rattle.ir_instrs.specs.Uses.{faults_of}
use Rattle.ir_bodies.specs.declared.builder.Builder.{Builder}
use Rattle.ir_headers.specs.declared.headers.Standing.{Standing}
use Rattle.ir_headers.specs.Headers.{func_with, extras_of}
use Rattle.ir_headers.specs.Stand.{stand}
use Rattle.ir_headers.specs.Values.{param_values, results_of}
use Rattle.ir_operands.specs.Constants.{ArePartsBelow}
use Rattle.ir_scopes.specs.declared.slot.Counts.{Counts}
use Rattle.ir_tree.specs.declared.headers.Ftail.{Ftail}
use Rattle.ir_consts.specs.declared.consts.Laid.{Laid}
use Rattle.ir_instrs.specs.Uses.{Takes}
use Rattle.ir_instrs.proofs.Taking.{takes_both}
use Rattle.ir_bodies.specs.Context.{Context}
use Rattle.ir_bodies.specs.Bodies.{Part, instrs_of, uses_of, segs_of, blocks_of}
use Rattle.ir_bodies.specs.Building.{Builds}
use Rattle.ir_headers.specs.Headers.{extra_uses}
use Rattle.ir_resolve.specs.declared.state.Resolving.{Resolving}
use Rattle.ir_resolve.specs.declared.state.Mark.{Mark}
use Rattle.ir_resolve.specs.Functions.{Function, Reader, parts_in, func_id, stand_of, func, func_blocks, func_segs, func_values, func_uses}
use Rattle.ir_resolve.specs.Functions.{groups_faults}
use Rattle.ir_resolve.specs.Functions.{text_faults}
use Rattle.ir_resolve.specs.Building.{before, found, IsMark, Reads, Stores, Puts}

-- behind a list stands what was put there
drop_front : {X : Type 0} (xs ys : List X) → drop (length xs) (xs ++ ys) ≡ ys
drop_front [] ys = refl
drop_front (x ∷ xs) ys = drop_front xs ys

-- three lists of faults, noted one behind another
pub noted : (a b c d : Option NameFault) (xs ys zs : List NameFault) → b ≡ first_in a xs → c ≡ first_in b ys → d ≡ first_in c zs →
    d ≡ first_in a (xs ++ (ys ++ zs))
noted a b c d xs ys zs e f g =
    g ∙ ap (λ k. first_in k zs) (f ∙ ap (λ k. first_in k ys) e)
    ∙ sym (first_in-append (first_in a xs) ys zs) ∙ sym (first_in-append a xs (ys ++ zs))

-- a module being built, whose bodies were read into b and the first fault is f
abbrev pub with_text : Resolving → Builder → Option NameFault → Resolving
with_text s b f = record s { builder = record b { notes = record b.notes { found = f } } }

module _ (types : List IrType) (x : Context) (c : Counts) (f : Function) (m : Mark) (s : Standing) (extras : List Written) (old new : Resolving) (b : Builder)
    (fault : Option NameFault) where
  abbrev q : Reader
  q = record { context = x; behind = c; before = before old }

  stand_is : IsMark (before old) m → b.blocks.items ≡ old.builder.blocks.items ++ func_blocks q f → s.at ≡ f.at → s.value ≡ m.value → s.block ≡ m.block →
      s.count ≡ length b.blocks.items - m.block → stand s ≡ stand_of q f
  stand_is mark blocks at value block count =
      let grown : length b.blocks.items ≡ length old.builder.blocks.items + length (func_blocks q f) =
      ap length blocks ∙ length-append old.builder.blocks.items (func_blocks q f) in
      let first : m.block ≡ length old.builder.blocks.items = mark.blocks in
      let many : s.count ≡ length (func_blocks q f) = omega (arith, grown, first, count) in
      let v = value ∙ mark.values in
      let z = block ∙ mark.blocks in
      λ i. record { at = at i; value = v i; block = z i; count = many i }

  -- a function whose text was read and that was put in
  pub text_done : IsMark (before old) m → extras ≡ extras_of x.reading old.builder.notes.parts.items f.header.tails →
      Reads x m.func c f.header.tails f.close (parts_in f.body) old.builder b → fault ≡ first_in b.notes.found (groups_faults q f) →
      s.at ≡ f.at → s.value ≡ m.value → s.block ≡ m.block → s.count ≡ length b.blocks.items - m.block →
      Stores types m (func_with x (stand s) f.header extras) f.header.name (with_text old b fault) new → Puts types q [] f old new
  text_done mark constants raw groups at value block count stored =
      let id : m.func ≡ func_id (before old) = λ i. record { 0 = mark.funcs i } in
      let read = subst (λ g. Reads x g c f.header.tails f.close (parts_in f.body) old.builder b) id raw in
      let blocks : b.blocks.items ≡ old.builder.blocks.items ++ func_blocks q f = read.blocks in
      let segs : b.cutter.segs.items ≡ old.builder.cutter.segs.items ++ func_segs q f = read.segs in
      let place = stand_is mark blocks at value block count in
      let made : func_with x (stand s) f.header extras ≡ func q f = λ i. func_with x (place i) f.header (constants i) in
      let own : drop m.seg b.cutter.segs.items ≡ func_segs q f =
      (λ i. drop (mark.segs i) (segs i)) ∙ drop_front old.builder.cutter.segs.items (func_segs q f) in
      let values : param_values m.func 0 (func_with x (stand s) f.header extras).params ++ results_of m.func m.seg (drop m.seg b.cutter.segs.items)
      ≡ func_values q f =
      λ i. param_values (id i) 0 (made i).params ++ results_of (id i) (mark.segs i) (own i) in
      let funcs = stored.funcs ∙ ap (λ z. old.funcs.items ++ z ∷ []) made in
      let all_blocks = stored.blocks ∙ blocks in
      let all_segs = stored.segs ∙ segs in
      let one_more : length new.funcs.items ≡ length old.funcs.items + 1 = ap length funcs ∙ length-append old.funcs.items (func q f ∷ []) in
      let more_blocks = ap length all_blocks ∙ length-append old.builder.blocks.items (func_blocks q f) in
      let more_segs = ap length all_segs ∙ length-append old.builder.cutter.segs.items (func_segs q f) in
      let more_values = stored.count ∙ read.values in
      let more_parts = stored.parts ∙ read.takes.parts in
      record {
        globals = stored.globals;
        funcs = funcs;
        blocks = all_blocks;
        segs = all_segs;
        values = stored.values ∙ ap (λ vs. old.values.items ++ vs) values;
        found = noted (found old) b.notes.found fault (found new) (faults_of x.reading (func_uses q f)) (groups_faults q f)
            (fault_unless (not (is_wrong_marker types (func q f))) Twice f.header.name) read.takes.found groups
            (stored.found ∙ ap (λ z. first_in fault (fault_unless (not (is_wrong_marker types z)) Twice f.header.name)) made);
        behind = λ i. record { funcs = one_more i; blocks = more_blocks i; segs = more_segs i; values = more_values i; laid = more_parts i };
        ready = record { run = stored.run ∙ read.run; below = subst ArePartsBelow (sym stored.parts) read.takes.below };
      }

-- the constants of a header, and then a body
pub read_both : (x : Context) (g : FuncId) (c : Counts) (tails : List Ftail) (close : ℕ) (ps : List Part) (old new : Builder) (notes : Laid) →
    Takes x.reading (extra_uses x.reading tails) old.notes notes →
    Builds x g c.counter close ps (record old { values = c.values; notes = notes }) new → Reads x g c tails close ps old new
read_both x g c tails close ps old new notes first then =
    let at = ap (λ laid. instrs_of x c.values laid close ps) first.parts in
    record {
      segs = then.segs ∙ ap (λ is. old.cutter.segs.items ++ segs_of (length old.blocks.items) is) at;
      run = then.run;
      blocks = then.blocks ∙ ap (λ is. old.blocks.items ++ blocks_of x g c.counter (length old.cutter.segs.items) ps is) at;
      values = then.values;
      takes = takes_both x.reading (extra_uses x.reading tails) (uses_of x ps) old.notes notes new.notes first then.takes;
    }

-- a function whose names were noted before its text
pub function_done : (types : List IrType) (q : Reader) (faults : List NameFault) (f : Function) (old new : Resolving) (fault : Option NameFault) →
    fault ≡ first_in (found old) faults → Puts types q [] f (with_text old old.builder fault) new → Puts types q faults f old new
function_done types q faults f old new fault named puts = record {
  globals = puts.globals;
  funcs = puts.funcs;
  blocks = puts.blocks;
  segs = puts.segs;
  values = puts.values;
  found = puts.found ∙ ap (λ k. first_in k (text_faults types q f)) named ∙ sym (first_in-append (found old) faults (text_faults types q f));
  behind = puts.behind;
  ready = puts.ready;
}
