use Rattle.std.proofs.Common.{◌≡◌, ◌||◌, ◌∙◌, slice_get, List, Bool, false, Option, Some, sym, ap}
use Rattle.std.specs.Option.{option_map}
use Rattle.shelf.proofs.Shelf.{get_there}
use Rattle.ir_module.specs.declared.module.Func.{Func}
use Rattle.ir_module.specs.Calls.{is_open, is_open_in, is_taken}
use Rattle.ir_uses.proofs.bodies.mark_open.Goals as goal

pub returns : goal.returns
unfolding is_open
returns c f l =
    let m = c.args.m.now in
    let q = get_there m.funcs f l in
    let low : slice_get c.args.flags.now f ≡ Some false = c.requires.lowered f l in
    let raised = c.mark_taken.ensures f ∙ ap (λ (o : Option Bool). option_map (λ b. b || is_taken m f) o) low in
    let e = c.settle.ensures f q.0 (is_taken m f) (ap (λ (xs : List Func). slice_get xs f) c.as_slice.ensures ∙ q.1) raised in
    e ∙ ap (λ (o : Option Func). Some (is_open_in (is_taken m f) o)) (sym q.1)
