-- One step more of a whole text that is read or written.
use Rattle.std.proofs.Common.{◌≡◌, ℕ, ◌+◌, ◌≤◌, List, ◌++◌, length, take, drop, arith, length-append, subst, sym}
use Rattle.std.proofs.lemmas.List.{take-append-le}
use Rattle.std.proofs.Math.Seq.{take-add}
use Rattle.std.proofs.KnownBytes.{Appends-trans, Consumes-trans}
use Rattle.attr_io.specs.Outside.{Gave, HasRead, Stream, Wrote, taken}
use Rattle.attr_io.specs.declared.outside.ReadGot.{ReadGot}
use Rattle.attr_io.specs.declared.outside.ReadGot.TheVariants as got

-- a text written up to a place, and then n bytes more
pub written_more : (a b c : Stream) (text rest : List ℕ) (at n : ℕ) → rest ≡ drop at text
    → Wrote a b (take at text) → Wrote b c (take n rest) → Wrote a c (take (at + n) text)
written_more a b c text rest at n is first second =
    subst (Wrote a c) (sym (take-add at n text))
    (Appends-trans a.bytes b.bytes c.bytes (take at text) (take n (drop at text)) first
    (subst (λ (r : List ℕ). Wrote b c (take n r)) is second))

-- bytes read, and then others
pub read_more : (a b c : Stream) (bytes more whole : List ℕ) → whole ≡ bytes ++ more
    → Gave a b bytes → Gave b c more → Gave a c whole
read_more a b c bytes more whole is first second =
    subst (Gave a c) (sym is) (Consumes-trans a.bytes b.bytes c.bytes bytes more first second)

-- a read into the front of a buffer is a read into the buffer
pub HasRead-append : (old new : Stream) (r : ReadGot) (front rest : List ℕ)
    → HasRead old new r front → HasRead old new r (front ++ rest)
HasRead-append old new (got.Took n) front rest h =
    (h.0, omega (arith, h.1, length-append front rest), subst (Gave old new) (sym (take-append-le n front rest h.1)) h.2)
HasRead-append old new got.End front rest h = h
HasRead-append old new got.Failed front rest h = h

-- a read takes at most what the buffer has room for
pub taken-le : (old new : Stream) (r : ReadGot) (buf : List ℕ) → HasRead old new r buf → taken r ≤ length buf
taken-le old new (got.Took n) buf h = h.1
taken-le old new got.End buf h = omega arith
taken-le old new got.Failed buf h = omega arith
