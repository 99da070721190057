-- Types that are not there have no size.
use Rattle.std.proofs.Common.{◌≡◌, ◌≤◌, ℕ, List, length, None, Err, ap}
use Rattle.std.specs.Option.{option_and_then}
use Rattle.std.proofs.lemmas.Option.{slice_get_past}
use Rattle.ir_types.specs.declared.ir_type.IrType.{IrType}
use Rattle.ir_types.specs.declared.refusal.TypeRefusal.TheVariants as refusal
use Rattle.ir_types.specs.Layout.{Layout, layout, laid_out as laid_out_by}
use Rattle.ir_types.specs.TypeTable.{checked, size, alignment}

no_layout : (types : List IrType) (t : ℕ) → length types ≤ t → layout types 64 t ≡ None
unfolding layout
no_layout types t past = ap (λ o. option_and_then (laid_out_by (layout types 63)) o) (slice_get_past types t past)

pub no_size : (types : List IrType) (t : ℕ) → length types ≤ t → size types t ≡ Err refusal.Deep
no_size types t past = ap (checked (λ (l : Layout). l.size)) (no_layout types t past)

pub no_alignment : (types : List IrType) (t : ℕ) → length types ≤ t → alignment types t ≡ Err refusal.Deep
no_alignment types t past = ap (checked (λ (l : Layout). l.align)) (no_layout types t past)
