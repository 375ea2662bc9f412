-- Timestamps in parts: their rows, and that a constructor's tree is well formed.
use Rattle.std.proofs.Common.{◌≡◌, ◌<◌, ℕ, ℤ, pos, List, length, map, refl, subst, Bool, true, false, None}
use Rattle.std.specs.Prelude.{◌||◌, ◌&&◌, nat_lt, int_lt, unsigned_abs}
use Rattle.std.specs.List.{list_any}
use Rattle.std.proofs.lemmas.Bool.{and_parts, eqb-true}
use Rattle.vx_base.specs.declared.dtype.Nullability.{Nullability}
use Rattle.vx_base.specs.declared.ptype.PType.TheVariants.{I64}
use Rattle.vx_base.specs.Integers.{lies_in}
use Rattle.vx_base.specs.PlainScalar.{fits}
use Rattle.vx_base.specs.PlainType.{PlainType, integer_of, stored_type}
use Rattle.vx_base.specs.PlainType as types
use Rattle.vx_base.specs.PlainValue.{PlainValue, null, int, is_null, whole_or_zero}
use Rattle.vx_base.specs.Storable.{same_path}
use Rattle.vx_base.specs.Timestamps.{PlainTimestamp}
use Rattle.vx_model.specs.Decoded.{zeroed_by}
use Rattle.vx_model.specs.Plain.{validity}
use Rattle.vx_model.specs.Refusals.{datetime_parts_refusal}
use Rattle.vx_model.specs.Rows.{rows, row_at, below, each_int, combined_at}
use Rattle.vx_model.specs.Tree.{Tree, datetime_parts}
use Rattle.vx_model.specs.TreeType.{tree_type}
use Rattle.vx_model.specs.WellFormed.{WellFormed, is_canonical_at}
use Rattle.vx_time.specs.CanonicalParts.{is_canonical, share_sign}
use Rattle.vx_time.specs.PartsOf.{parts, sum_of, units_per_second}
use Rattle.vx_model.proofs.FrameOfReferenceLemmas.{row_fits}
use Rattle.vx_model.proofs.NumberedLemmas.{below_passes, length-each_row, row_at-each_row, any_null-each_row, validity-each_row, wholes-each_row}
use Rattle.vx_model.proofs.PackedLemmas.{below-passes, passed}

-- the sum of a row's parts, from its days
abbrev pub combined : ℤ → List PlainValue → List PlainValue → ℕ → ℤ → ℤ
combined d seconds subseconds i day = sum_of d (parts day (whole_or_zero (row_at seconds i)) (whole_or_zero (row_at subseconds i)))

module _ (k : PlainTimestamp) (n : Nullability) (days seconds subseconds : Tree) where
  abbrev d : ℤ
  d = units_per_second k.unit

  pub length-datetime_parts : length (rows (datetime_parts k n days seconds subseconds)) ≡ length (rows days)
  length-datetime_parts = length-each_row (combined d (rows seconds) (rows subseconds)) (rows days)

  pub row_at-datetime_parts : (i : ℕ) → i < length (rows days) → row_at (rows (datetime_parts k n days seconds subseconds)) i ≡ combined_at (units_per_second k.unit) (rows days) (rows seconds) (rows subseconds) i
  row_at-datetime_parts i l = row_at-each_row (combined d (rows seconds) (rows subseconds)) (rows days) i l

  pub any_null-datetime_parts : list_any is_null (rows (datetime_parts k n days seconds subseconds)) ≡ list_any is_null (rows days)
  any_null-datetime_parts = any_null-each_row (combined d (rows seconds) (rows subseconds)) (rows days)

  pub validity-datetime_parts : validity (rows (datetime_parts k n days seconds subseconds)) ≡ validity (rows days)
  validity-datetime_parts = validity-each_row (combined d (rows seconds) (rows subseconds)) (rows days)

  pub wholes-datetime_parts : map whole_or_zero (rows (datetime_parts k n days seconds subseconds))
      ≡ zeroed_by (pos 0) (validity (rows days)) (below (λ i. combined (units_per_second k.unit) (rows seconds) (rows subseconds) i (whole_or_zero (row_at (rows days) i))) (length (rows days)))
  wholes-datetime_parts = wholes-each_row (combined d (rows seconds) (rows subseconds)) (rows days)

pub ruleset datetime_parts_reads = (length-datetime_parts, row_at-datetime_parts)

-- ---- canonical parts make timestamps

either : (b c : Bool) → (b || c) ≡ true → b ≡ false → c ≡ true
either true c h e = absurd cc
either false c h e = h

sum_held : (e : ℤ) (day second subsecond : ℤ) → is_canonical e (parts day second subsecond) ≡ true → lies_in I64 (sum_of e (parts day second subsecond)) ≡ true
sum_held e day second subsecond h =
    let p = parts day second subsecond in
    (and_parts (share_sign p && nat_lt (unsigned_abs second) 86_400 && int_lt (pos (unsigned_abs subsecond)) e) (lies_in I64 (sum_of e p)) h).1

-- a row of the days' nullability is one of the timestamps'
stamp_fits : (k : PlainTimestamp) (n : Nullability) (t : PlainType) (f : ℤ → ℤ) (v : PlainValue) → t ≡ types.primitive (integer_of t) n → fits t v ≡ true → (is_null v ≡ false → lies_in I64 (f (whole_or_zero v)) ≡ true)
    → fits (types.timestamp k n) (each_int f v) ≡ true
stamp_fits k n t f null e h held = subst (λ u. fits u null ≡ true) e h
stamp_fits k n t f (int z) e h held = held refl
stamp_fits k n t f v e h held = let none = subst (λ u. fits u v ≡ true) e h in absurd cc

pub datetime_parts_accepted : (k : PlainTimestamp) (n : Nullability) (days seconds subseconds : Tree) → datetime_parts_refusal k n days seconds subseconds ≡ None → WellFormed days → WellFormed seconds → WellFormed subseconds
    → WellFormed (datetime_parts k n days seconds subseconds)
datetime_parts_accepted k n days seconds subseconds h w u v =
    let typed = passed _ _ _ h in
    let lengths = passed _ _ _ typed.1 in
    let canonical = passed _ _ _ lengths.1 in
    let own = and_parts _ _ typed.0 in
    let others = and_parts _ _ own.1 in
    let both = and_parts _ _ lengths.0 in
    let days_type = same_path stored_type _ _ own.0 in
    let e = units_per_second k.unit in (
      w,
      u,
      v,
      record {
        days_type = days_type;
        seconds_type = others.0;
        subseconds_type = others.1;
        seconds_length = eqb-true _ _ both.0;
        subseconds_length = eqb-true _ _ both.1;
        canonical = canonical.0;
      },
      below-passes (fits (types.timestamp k n)) (combined_at e (rows days) (rows seconds) (rows subseconds)) (length (rows days)) (λ i l.
          stamp_fits k n (tree_type days) (combined e (rows seconds) (rows subseconds) i) (row_at (rows days) i) days_type (row_fits days i w l) (λ some.
          sum_held e _ _ _ (either _ _ (below_passes (is_canonical_at e (rows days) (rows seconds) (rows subseconds)) (length (rows days)) i canonical.0 l) some))),
    )
