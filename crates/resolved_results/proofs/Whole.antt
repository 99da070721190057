-- Each instruction of a module that is resolved has the type that its operation writes.
use Rattle.std.proofs.Common.{◌≡◌, ℕ, List, slice_get, Option, None, Some, refl, sym, subst}
use Rattle.std.specs.List.{AllByRecursion}
use Rattle.std.proofs.lemmas.Option.{none-some}
use Rattle.shelf.proofs.Every.{every_at}
use Rattle.ir_token.specs.declared.token.Token.{Token}
use Rattle.ir_tree.specs.declared.entities.Tree.{Tree}
use Rattle.ir_module.specs.declared.op.Instr.{Instr}
use Rattle.ir_module.specs.declared.module.Seg.{Seg}
use Rattle.ir_module.specs.declared.module.Spot.{Spot}
use Rattle.ir_module.specs.declared.module.Module.{Module}
use Rattle.ir_module.specs.Places.{in_seg, instr_at}
use Rattle.ir_operands.specs.declared.rule.Site.TheVariants.{Plain}
use Rattle.ir_segments.specs.Segments.{cut, ends}
use Rattle.ir_instrs.specs.Uses.{behind}
use Rattle.ir_headers.specs.Headers.{extra_uses}
use Rattle.ir_resolve.specs.Inputs.{Input, setting, at_site}
use Rattle.ir_resolve.specs.Functions.{Before, Function, parts_in, reader, instrs, func_segs}
use Rattle.ir_resolve.specs.Modules.{module_with, module_of, input, Resolved}
use Rattle.resolved_forms.proofs.Segments.{seg_home}
use Rattle.resolved_forms.proofs.Members.{from_list, segs_on}
use Rattle.resolved_forms.proofs.Whole.{cut_all_of}
use Rattle.verified_types.specs.Results.{AreResultsWritten}
use Rattle.resolved_results.proofs.Consts.{const_type}
use Rattle.resolved_results.proofs.Bits.{bit_is_bit}
use Rattle.resolved_results.proofs.Instrs.{IsWritten, parts_written}

-- the segment of an instruction
found_in : (o : Option Seg) (at : ℕ) (i : Instr) → in_seg at o ≡ Some i → (sg : Seg) × (o ≡ Some sg) × (slice_get sg.instrs at ≡ Some i)
found_in None at i is = absurd (none-some i is)
found_in (Some sg) at i is = (sg, refl, is)

seg_of : (m : Module) (s : Spot) (i : Instr) → instr_at m s ≡ Some i → (sg : Seg) × (slice_get m.segs s.seg.0 ≡ Some sg) × (slice_get sg.instrs s.at ≡ Some i)
unfolding instr_at
seg_of m s i is = found_in (slice_get m.segs s.seg.0) s.at i is

module _ (x : Input) where
  abbrev M : Module
  M = module_with (setting x) x.entities

  func_written : (b : Before) (f : Function) → AllByRecursion (AllByRecursion (IsWritten M)) (instrs (reader (setting x) b f) f)
  func_written b f =
      let q = reader (setting x) b f in
      parts_written M q.context (bit_is_bit x) tt (const_type (at_site Plain (setting x))) q.behind.values
      (behind q.context.reading b.laid (extra_uses q.context.reading f.header.tails)) f.close (parts_in f.body)

  seg_written : (b : Before) (f : Function) (n : ℕ) (sg : Seg) → slice_get (func_segs (reader (setting x) b f) f) n ≡ Some sg
      → AllByRecursion (IsWritten M) sg.instrs
  seg_written b f n sg at =
      let all = instrs (reader (setting x) b f) f in
      let h = seg_home b.blocks all n sg at in
      let is = every_at (AllByRecursion (IsWritten M)) all h.0 h.1 (func_written b f) h.4 in
      subst (λ (z : Seg). AllByRecursion (IsWritten M) z.instrs) (sym h.6)
      (every_at (AllByRecursion (IsWritten M)) (cut ends h.1) h.2 h.3 (cut_all_of (IsWritten M) h.1 is) h.5)

  all_written : AreResultsWritten M
  all_written s i is =
      let h = seg_of M s i is in
      let c = from_list (setting x) x.entities func_segs (λ d. d.segs) refl (segs_on (setting x)) s.seg.0 h.0 h.1 in
      every_at (IsWritten M) h.0.instrs s.at i (seg_written c.b c.f c.j h.0 c.at) h.2

input_written : (x : Input) → AreResultsWritten (module_of x)
unfolding module_of
input_written x = all_written x

pub results_written : (b : List ℕ) (toks : List Token) (tree : Tree) (m : Module) → Resolved b toks tree m → AreResultsWritten m
results_written b toks tree m r = subst AreResultsWritten (sym r.is) (input_written (input b toks tree r.numbers))
