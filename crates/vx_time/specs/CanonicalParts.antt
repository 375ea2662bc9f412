-- Which parts are the split of a timestamp of 64 signed bits, and their order. d is the number of units in a second.
use Rattle.std.specs.Prelude.{ℤ, pos, Bool, ◌&&◌, ◌||◌, nat_lt, int_le, int_lt, unsigned_abs}
use Rattle.std.specs.Ordering.{int_cmp, ordering_then}
use Rattle.std.specs.declared.cmp.Ordering.{Ordering}
use Rattle.vx_base.specs.declared.ptype.PType.TheVariants.{I64}
use Rattle.vx_base.specs.Integers.{lies_in}
use Rattle.vx_time.specs.declared.parts.TimestampParts.{TimestampParts}
use Rattle.vx_time.specs.PartsOf.{sum_of}

-- no part is negative
abbrev pub none_negative : TimestampParts → Bool
none_negative p = int_le (pos 0) p.days && int_le (pos 0) p.seconds && int_le (pos 0) p.subseconds

-- no part is positive
abbrev pub none_positive : TimestampParts → Bool
none_positive p = int_le p.days (pos 0) && int_le p.seconds (pos 0) && int_le p.subseconds (pos 0)

-- no two parts have opposite signs
abbrev pub share_sign : TimestampParts → Bool
share_sign p = none_negative p || none_positive p

-- the parts share a sign, |seconds| < 86,400 and |subseconds| < d, and the sum has 64 signed bits
abbrev pub is_canonical : ℤ → TimestampParts → Bool
is_canonical d p = share_sign p && nat_lt (unsigned_abs p.seconds) 86_400 && int_lt (pos (unsigned_abs p.subseconds)) d && lies_in I64 (sum_of d p)

-- the lexicographic order: by days, then by seconds, then by subseconds
abbrev pub parts_cmp : TimestampParts → TimestampParts → Ordering
parts_cmp p q = ordering_then (int_cmp p.days q.days) (ordering_then (int_cmp p.seconds q.seconds) (int_cmp p.subseconds q.subseconds))
