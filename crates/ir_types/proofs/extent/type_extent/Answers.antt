use Rattle.std.proofs.Common.{refl, zero}
use Rattle.ir_types.specs.Layout.{array_of}
use Rattle.ir_types.proofs.extent.type_extent.Goals as goal

pub returns-in_err-elem-in-Array-clause-none : goal.returns-in_err-elem-in-Array-clause-none
returns-in_err-elem-in-Array-clause-none c = λ h.
    rw c.in-Array.is record {
      part = c.in-Array.elem.0;
      is_part = (zero, refl);
      deep = c.in_err-elem-in-Array.ensures.none refl;
    }

pub returns-in_ok-elem-in-Array-clause-some : goal.returns-in_ok-elem-in-Array-clause-some
returns-in_ok-elem-in-Array-clause-some c = λ of h.
    let part = h c.in-Array.elem.0 c.in_ok-elem-in-Array.elem c.in_ok-elem-in-Array.ensures.some.0 in
    (array_of c.in-Array.count part.0, rw (c.in-Array.is, part.1), c.array_extent.ensures part.0 part.2)
