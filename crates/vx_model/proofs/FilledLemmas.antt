-- One value in every row, with the default of its type in place of null.
use Rattle.std.proofs.Common.{◌≡◌, ℕ, zero, suc, ◌∷◌, map, true, refl}
use Rattle.std.specs.Prelude.{replicate}
use Rattle.vx_base.specs.declared.ptype.PType.{PType}
use Rattle.vx_base.specs.declared.ptype.PType.TheVariants.{I64}
use Rattle.vx_base.specs.declared.dtype.Nullability.{Nullability}
use Rattle.vx_base.specs.Defaults.{default_of, or_default}
use Rattle.vx_base.specs.Integers.{lies_in}
use Rattle.vx_base.specs.PlainScalar.{fits}
use Rattle.vx_base.specs.PlainType.{boolean, primitive, utf8, binary, timestamp}
use Rattle.vx_base.specs.PlainValue.{PlainValue, null, truth, int, bytes, truth_or_false, whole_or_zero, bytes_or_empty}
use Rattle.vx_base.specs.Timestamps.{PlainTimestamp}
use Rattle.vx_base.proofs.FitLemmas.{lies_in-zero}

-- ---- the item that stands for a value

truth-default : (n : Nullability) (v : PlainValue) → fits (boolean n) v ≡ true → truth (truth_or_false v) ≡ or_default (default_of (boolean n)) v
truth-default n null h = refl
truth-default n (truth b) h = refl
truth-default n v h = absurd cc

whole-default : (p : PType) (n : Nullability) (v : PlainValue) → fits (primitive p n) v ≡ true → int (whole_or_zero v) ≡ or_default (default_of (primitive p n)) v
whole-default p n null h = refl
whole-default p n (int z) h = refl
whole-default p n v h = absurd cc

stamp-default : (k : PlainTimestamp) (n : Nullability) (v : PlainValue) → fits (timestamp k n) v ≡ true → int (whole_or_zero v) ≡ or_default (default_of (timestamp k n)) v
stamp-default k n null h = refl
stamp-default k n (int z) h = refl
stamp-default k n v h = absurd cc

text-default : (n : Nullability) (v : PlainValue) → fits (utf8 n) v ≡ true → bytes (bytes_or_empty v) ≡ or_default (default_of (utf8 n)) v
text-default n null h = refl
text-default n (bytes bs) h = refl
text-default n v h = absurd cc

binary-default : (n : Nullability) (v : PlainValue) → fits (binary n) v ≡ true → bytes (bytes_or_empty v) ≡ or_default (default_of (binary n)) v
binary-default n null h = refl
binary-default n (bytes bs) h = refl
binary-default n v h = absurd cc

-- ---- in every row

copies : {A : Type 0} (value : A → PlainValue) (f : PlainValue → PlainValue) (x : A) (v : PlainValue) → value x ≡ f v → (len : ℕ) → map value (replicate len x) ≡ map f (replicate len v)
copies value f x v e zero = refl
copies value f x v e (suc len) = λ i. e i ∷ copies value f x v e len i

pub filled-truths : (n : Nullability) (v : PlainValue) (len : ℕ) → fits (boolean n) v ≡ true → map truth (replicate len (truth_or_false v)) ≡ map (or_default (default_of (boolean n))) (replicate len v)
filled-truths n v len h = copies truth (or_default (default_of (boolean n))) (truth_or_false v) v (truth-default n v h) len

pub filled-wholes : (p : PType) (n : Nullability) (v : PlainValue) (len : ℕ) → fits (primitive p n) v ≡ true → map int (replicate len (whole_or_zero v)) ≡ map (or_default (default_of (primitive p n))) (replicate len v)
filled-wholes p n v len h = copies int (or_default (default_of (primitive p n))) (whole_or_zero v) v (whole-default p n v h) len

pub filled-stamps : (k : PlainTimestamp) (n : Nullability) (v : PlainValue) (len : ℕ) → fits (timestamp k n) v ≡ true → map int (replicate len (whole_or_zero v)) ≡ map (or_default (default_of (timestamp k n))) (replicate len v)
filled-stamps k n v len h = copies int (or_default (default_of (timestamp k n))) (whole_or_zero v) v (stamp-default k n v h) len

pub filled-texts : (n : Nullability) (v : PlainValue) (len : ℕ) → fits (utf8 n) v ≡ true → map bytes (replicate len (bytes_or_empty v)) ≡ map (or_default (default_of (utf8 n))) (replicate len v)
filled-texts n v len h = copies bytes (or_default (default_of (utf8 n))) (bytes_or_empty v) v (text-default n v h) len

pub filled-binaries : (n : Nullability) (v : PlainValue) (len : ℕ) → fits (binary n) v ≡ true → map bytes (replicate len (bytes_or_empty v)) ≡ map (or_default (default_of (binary n))) (replicate len v)
filled-binaries n v len h = copies bytes (or_default (default_of (binary n))) (bytes_or_empty v) v (binary-default n v h) len

-- ---- it is in the range of the type

pub whole-held : (p : PType) (n : Nullability) (v : PlainValue) → fits (primitive p n) v ≡ true → lies_in p (whole_or_zero v) ≡ true
whole-held p n (int z) h = h
whole-held p n v h = lies_in-zero p

pub stamp-held : (k : PlainTimestamp) (n : Nullability) (v : PlainValue) → fits (timestamp k n) v ≡ true → lies_in I64 (whole_or_zero v) ≡ true
stamp-held k n (int z) h = h
stamp-held k n v h = refl

pub ruleset held = (whole-held, stamp-held)
