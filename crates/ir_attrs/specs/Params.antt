-- The attributes of a parameter, an argument or a return, and alignments.
use Rattle.std.specs.Prelude.{ℕ, ◌^◌, Bool, true, false, not, ◌&&◌, ◌||◌, if◌then◌else◌, nat_le, List, [], ◌∷◌, codes, Option, None, Some}
use Rattle.std.specs.List.{list_any}
use Rattle.std.specs.Str.{bytes_eq}
use Rattle.std.specs.Int.{is_power_of_two}
use Rattle.ir_token.specs.Bytes.{Bytes}
use Rattle.ir_token.specs.declared.token.Token.{Token}
use Rattle.ir_tree.specs.declared.attributes.Rattr.{Rattr}
use Rattle.ir_tree.specs.declared.attributes.Rattr.TheVariants as rattr_of
use Rattle.ir_tree.specs.declared.entities.Gtail.{Gtail}
use Rattle.ir_tree.specs.declared.entities.Gtail.TheVariants as gtail_of
use Rattle.ir_module.specs.declared.attrs.ParamAttrs.{ParamAttrs}
use Rattle.ir_literals.specs.Integers.{number_of, or_number}
use Rattle.ir_attrs.specs.Leaves.{leaf_text}
use Rattle.ir_attrs.specs.Latest.{later, latest}
use Rattle.ir_attrs.specs.Attributes.{is_attr, only_text}

-- the attribute is this word, with or without parentheses
abbrev pub is_rattr : Bytes → List Token → Bytes → Rattr → Bool
is_rattr b toks name (rattr_of.Align word bytes) = false
is_rattr b toks name (rattr_of.AlignIn word bytes close) = false
is_rattr b toks name (rattr_of.Fattr f) = is_attr b toks name f

abbrev pub rattr_only_text : Bytes → List Token → Rattr → Bytes
rattr_only_text b toks (rattr_of.Align word bytes) = []
rattr_only_text b toks (rattr_of.AlignIn word bytes close) = []
rattr_only_text b toks (rattr_of.Fattr f) = only_text b toks f

-- whether it keeps that nothing is captured: `nocapture` and `captures` are of one kind, and only `captures(none)` keeps it
abbrev pub capture_says : Bytes → List Token → Rattr → Option Bool
capture_says b toks r =
    if is_rattr b toks (codes "nocapture") r then Some true else
    (if is_rattr b toks (codes "captures") r then Some (bytes_eq (rattr_only_text b toks r) (codes "none")) else None)

-- the number of bytes of an alignment
abbrev pub align_says : Bytes → List Token → Rattr → Option (Option ℕ)
align_says b toks (rattr_of.Align word bytes) = Some (number_of (leaf_text b toks bytes))
align_says b toks (rattr_of.AlignIn word bytes close) = Some (number_of (leaf_text b toks bytes))
align_says b toks (rattr_of.Fattr f) = None

-- the number of bytes of a `dereferenceable`; none where not one integer stands between its parentheses
abbrev pub deref_says : Bytes → List Token → Rattr → Option (Option ℕ)
deref_says b toks r = if is_rattr b toks (codes "dereferenceable") r then Some (number_of (rattr_only_text b toks r)) else None

-- a power of two up to 2^32
abbrev pub is_alignment : Option ℕ → Bool
is_alignment None = false
is_alignment (Some n) = is_power_of_two n && nat_le n (2 ^ 32)

-- at least 1 and at most 2^40
abbrev pub is_size : Option ℕ → Bool
is_size None = false
is_size (Some n) = nat_le 1 n && nat_le n (2 ^ 40)

abbrev pub breaks : (Option ℕ → Bool) → Option (Option ℕ) → Bool
breaks holds None = false
breaks holds (Some n) = not (holds n)

-- an alignment or a number of bytes is not as it should be
abbrev pub is_bad : Bytes → List Token → Rattr → Bool
is_bad b toks r = breaks is_alignment (align_says b toks r) || breaks is_size (deref_says b toks r)

abbrev pub has_rattr : Bytes → List Token → Bytes → List Rattr → Bool
has_rattr b toks name rs = list_any (is_rattr b toks name) rs

-- no number, and one that is no u64, count as 0
abbrev pub or_zero : Option (Option ℕ) → ℕ
or_zero None = 0
or_zero (Some n) = or_number 0 n

abbrev pub or_false : Option Bool → Bool
or_false None = false
or_false (Some x) = x

-- the attributes of a parameter, an argument or a return: of several of one kind the last counts
abbrev pub param_attrs : Bytes → List Token → List Rattr → ParamAttrs
param_attrs b toks rs = record {
  nonnull = has_rattr b toks (codes "nonnull") rs;
  nocapture = or_false (latest (capture_says b toks) None rs);
  captures = has_rattr b toks (codes "captures") rs;
  readnone = has_rattr b toks (codes "readnone") rs;
  readonly = has_rattr b toks (codes "readonly") rs;
  writeonly = has_rattr b toks (codes "writeonly") rs;
  returned = has_rattr b toks (codes "returned") rs;
  sret = has_rattr b toks (codes "sret") rs;
  writable = has_rattr b toks (codes "writable") rs;
  align = or_zero (latest (align_says b toks) None rs);
  dereferenceable = or_zero (latest (deref_says b toks) None rs);
  bad = list_any (is_bad b toks) rs;
}

-- what an attribute more says of capture, or what was said before
abbrev pub flag_or : Bool → Option Bool → Bool
flag_or old None = old
flag_or old (Some x) = x

-- the bytes that an attribute more names, or those before
abbrev pub bytes_or : ℕ → Option (Option ℕ) → ℕ
bytes_or old None = old
bytes_or old (Some n) = or_number 0 n

-- what attributes say with one more behind them
abbrev pub with_attr : Bytes → List Token → ParamAttrs → Rattr → ParamAttrs
with_attr b toks old r = record {
  nonnull = old.nonnull || is_rattr b toks (codes "nonnull") r;
  nocapture = flag_or old.nocapture (capture_says b toks r);
  captures = old.captures || is_rattr b toks (codes "captures") r;
  readnone = old.readnone || is_rattr b toks (codes "readnone") r;
  readonly = old.readonly || is_rattr b toks (codes "readonly") r;
  writeonly = old.writeonly || is_rattr b toks (codes "writeonly") r;
  returned = old.returned || is_rattr b toks (codes "returned") r;
  sret = old.sret || is_rattr b toks (codes "sret") r;
  writable = old.writable || is_rattr b toks (codes "writable") r;
  align = bytes_or old.align (align_says b toks r);
  dereferenceable = bytes_or old.dereferenceable (deref_says b toks r);
  bad = old.bad || is_bad b toks r;
}

abbrev pub tail_says : Bytes → List Token → Gtail → Option (Option ℕ)
tail_says b toks (gtail_of.Align word bytes) = Some (number_of (leaf_text b toks bytes))
tail_says b toks _ = None

-- an alignment of a global that breaks the rule
abbrev pub bad_says : Bytes → List Token → Gtail → Option (Option ℕ)
bad_says b toks g = if breaks is_alignment (tail_says b toks g) then tail_says b toks g else None

-- what the first of these says
abbrev pub first_says : {X A : Type 0} → (X → Option A) → List X → Option A
first_says says [] = None
first_says says (x ∷ xs) = later (first_says says xs) (says x)

abbrev pub as_align : Option (Option ℕ) → Option ℕ
as_align None = None
as_align (Some n) = Some (or_number 0 n)

-- the alignment of a global: the first that breaks the rule, and else the last; one that is no u64 counts as 0
abbrev pub global_align : Bytes → List Token → List Gtail → Option ℕ
global_align b toks gs = as_align (later (latest (tail_says b toks) None gs) (first_says (bad_says b toks) gs))

-- the alignment of an instruction; one that is no u64 counts as 0
abbrev pub align_field : Bytes → List Token → Option ℕ → Option ℕ
align_field b toks None = None
align_field b toks (Some leaf) = Some (or_number 0 (number_of (leaf_text b toks leaf)))
