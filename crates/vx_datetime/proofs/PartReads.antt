-- Parts that are decoded and read: their types, their lengths, and the column of what is found by them.
use Rattle.std.proofs.Common.{◌≡◌, ◌∙◌, true, List, length, map, sym, ap, refl, Bool, None}
use Rattle.std.proofs.lemmas.Bool.{and_parts}
use Rattle.std.proofs.lemmas.List.{length-map}
use Rattle.vx_base.specs.declared.dtype.Nullability.{Nullability}
use Rattle.vx_base.specs.PlainType.{is_integer, or_nullable}
use Rattle.vx_base.specs.PlainType as types
use Rattle.vx_base.specs.PlainValue.{PlainValue, null, truth, int, whole_or_zero}
use Rattle.vx_base.specs.Timestamps.{PlainTimestamp}
use Rattle.vx_datetime.specs.declared.kernels.part_rows.PartRows.{PartRows}
use Rattle.vx_datetime.specs.Moments.{ArePartRows, row_parts}
use Rattle.vx_model.specs.Column.{column, column_of}
use Rattle.vx_model.specs.Refusals.{kept, primitive_refusal}
use Rattle.vx_model.specs.Rows.{rows, below}
use Rattle.vx_model.specs.Tree.{Tree, Validity, bool, datetime_parts}
use Rattle.vx_model.specs.TreeType.{tree_type}
use Rattle.vx_model.specs.WellFormed.{WellFormed}
use Rattle.vx_time.specs.CanonicalParts.{is_canonical}
use Rattle.vx_time.specs.declared.parts.TimestampParts.{TimestampParts}
use Rattle.vx_time.specs.PartsOf.{sum_of, units_per_second}
use Rattle.vx_values.specs.IntsOf.{wholes_of}
use Rattle.vx_datetime.proofs.AnswersColumn.{answers-admitted, answers-column}

-- ---- the parts of an array are of integer types

module _ (k : PlainTimestamp) (n : Nullability) (days seconds subseconds : Tree) (w : WellFormed (datetime_parts k n days seconds subseconds)) where
  pub days-integer : is_integer (tree_type days) ≡ true
  days-integer = ap is_integer w.3.days_type

  pub seconds-integer : is_integer (tree_type seconds) ≡ true
  seconds-integer = (and_parts (is_integer (tree_type seconds)) _ w.3.seconds_type).0

  pub subseconds-integer : is_integer (tree_type subseconds) ≡ true
  subseconds-integer = (and_parts (is_integer (tree_type subseconds)) _ w.3.subseconds_type).0

-- and so are those of a tree with the same column
pub same-integer : (tree read : Tree) → column_of read ≡ column_of tree → is_integer (tree_type tree) ≡ true → is_integer (tree_type read) ≡ true
same-integer tree read e h = ap (λ c. is_integer c.dtype) e ∙ h

-- ---- what is found by the rows

module _ (k : PlainTimestamp) (n m : Nullability) (days seconds subseconds : Tree) (w : WellFormed (datetime_parts k n days seconds subseconds)) (r : PartRows) (own : ArePartRows days seconds subseconds r) where
  days-long : length (wholes_of r.days.now) ≡ length (rows days)
  days-long = ap length own.days ∙ length-map (rows days) whole_or_zero

  pub seconds-long : length (wholes_of r.seconds.now) ≡ length (wholes_of r.days.now)
  seconds-long = ap length own.seconds ∙ length-map (rows seconds) whole_or_zero ∙ w.3.seconds_length ∙ sym days-long

  pub subseconds-long : length (wholes_of r.subseconds.now) ≡ length (wholes_of r.days.now)
  subseconds-long = ap length own.subseconds ∙ length-map (rows subseconds) whole_or_zero ∙ w.3.subseconds_length ∙ sym days-long

  module _ (found : TimestampParts → Bool) (g : PlainValue → PlainValue) (of_null : g null ≡ null) (of_parts : (p : TimestampParts) → is_canonical (units_per_second k.unit) p ≡ true → truth (found p) ≡ g (int (sum_of (units_per_second k.unit) p)))
      (bits : List Bool) (is_bits : bits ≡ below (λ i. found (row_parts r i)) (length (wholes_of r.days.now))) (valid : Validity) (is_valid : valid ≡ r.valid.now) where
    pub found-admitted : primitive_refusal (length bits) valid (or_nullable n m) ≡ None
    found-admitted =
        answers-admitted k n m days seconds subseconds w found g of_null of_parts days seconds subseconds refl refl refl
        (wholes_of r.days.now) (wholes_of r.seconds.now) (wholes_of r.subseconds.now) valid own.days (is_valid ∙ own.valid) own.seconds own.subseconds bits is_bits

    pub found-column : column_of (bool bits (kept valid) (or_nullable n m)) ≡ column (types.boolean (or_nullable n m)) (map g (rows (datetime_parts k n days seconds subseconds)))
    found-column =
        answers-column k n m days seconds subseconds w found g of_null of_parts days seconds subseconds refl refl refl
        (wholes_of r.days.now) (wholes_of r.seconds.now) (wholes_of r.subseconds.now) valid own.days (is_valid ∙ own.valid) own.seconds own.subseconds bits is_bits
