-- The table of landing pads tells which unwind edges are caught.
use Rattle.std.proofs.Common.{◌≡◌, ℕ, Bool, false, List, slice_get, Option, None, Some, refl, ap, ◌∙◌}
use Rattle.std.specs.Option.{option_map, option_map_or}
use Rattle.std.proofs.lemmas.Option.{slice_get-map}
use Rattle.ir_module.specs.declared.module.Seg.{Seg}
use Rattle.ir_module.specs.declared.module.Module.{Module}
use Rattle.ir_module.specs.Places.{first_seg_of}
use Rattle.ir_module.specs.Edges.{catches_in, catches_all}
use Rattle.aa_control.specs.Asked.{has_pad, pads_of}

pub caught_by : (m : Module) (block n : ℕ) (pads : List Bool) → pads ≡ pads_of m → n ≡ first_seg_of m block →
    option_map_or (λ b. b) (slice_get pads n) false ≡ catches_all m block
unfolding catches_all
caught_by m block n pads are is =
    ap (λ (bs : List Bool). option_map_or (λ b. b) (slice_get bs n) false) are
    ∙ (ap (λ o. option_map_or (λ (b : Bool). b) o false) (slice_get-map has_pad m.segs n)
    ∙ (told (slice_get m.segs n) ∙ ap (λ k. catches_in (slice_get m.segs k)) is))
  where
    told : (o : Option Seg) → option_map_or (λ b. b) (option_map has_pad o) false ≡ catches_in o
    told None = refl
    told (Some seg) = refl
