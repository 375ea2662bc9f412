-- Rows of parts that were read, by the array's parts: their lengths beside another array's, and truth values with their validity.
use Rattle.std.proofs.Common.{◌≡◌, ◌∙◌, true, List, length, map, sym, ap, Bool, None}
use Rattle.std.specs.List.{list_all}
use Rattle.std.proofs.lemmas.List.{length-map}
use Rattle.vx_base.specs.declared.dtype.Nullability.{Nullability}
use Rattle.vx_base.specs.PlainScalar.{fits}
use Rattle.vx_base.specs.PlainType.{integer_of, or_nullable}
use Rattle.vx_base.specs.PlainType as types
use Rattle.vx_base.specs.PlainValue.{truth, whole_or_zero}
use Rattle.vx_base.specs.Timestamps.{PlainTimestamp}
use Rattle.vx_datetime.specs.declared.kernels.part_rows.PartRows.{PartRows}
use Rattle.vx_datetime.specs.Moments.{ArePartRows}
use Rattle.vx_model.specs.Plain.{validity}
use Rattle.vx_model.specs.Refusals.{kept, primitive_refusal, validity_length}
use Rattle.vx_model.specs.Rows.{rows, valid_rows}
use Rattle.vx_model.specs.Tree.{Tree, Validity, bool, datetime_parts}
use Rattle.vx_model.specs.TreeType.{tree_type}
use Rattle.vx_model.specs.WellFormed.{WellFormed}
use Rattle.vx_model.proofs.MadeLemmas.{rows_fit}
use Rattle.vx_rows.proofs.TruthLemmas.{kept-rows}
use Rattle.vx_values.specs.IntsOf.{wholes_of}
use Rattle.vx_datetime.proofs.AnswersColumn.{bits-admitted, bits_long}

-- the rows that were read of one array, and of one with as many rows
module _ (days seconds subseconds : Tree) (r : PartRows) (own : ArePartRows days seconds subseconds r) where
  pub days-read : length (wholes_of r.days.now) ≡ length (rows days)
  days-read = ap length own.days ∙ length-map (rows days) whole_or_zero

  pub seconds-read : length (rows seconds) ≡ length (rows days) → length (wholes_of r.seconds.now) ≡ length (rows days)
  seconds-read l = ap length own.seconds ∙ length-map (rows seconds) whole_or_zero ∙ l

  pub subseconds-read : length (rows subseconds) ≡ length (rows days) → length (wholes_of r.subseconds.now) ≡ length (rows days)
  subseconds-read l = ap length own.subseconds ∙ length-map (rows subseconds) whole_or_zero ∙ l

-- a truth value for each row that was read, null where the day is
module _ (k : PlainTimestamp) (n : Nullability) (days seconds subseconds : Tree) (w : WellFormed (datetime_parts k n days seconds subseconds)) (r : PartRows) (own : ArePartRows days seconds subseconds r)
    (bits : List Bool) (size : length bits ≡ length (wholes_of r.days.now)) (valid : Validity) (is_valid : valid ≡ r.valid.now) where
  pub bits-as-days : length bits ≡ length (rows days)
  bits-as-days = size ∙ ap length own.days ∙ length-map (rows days) whole_or_zero

  pub valid-of-days : valid ≡ validity (rows days)
  valid-of-days = is_valid ∙ own.valid

  pub bits-accepted : (m : Nullability) → primitive_refusal (length bits) valid (or_nullable n m) ≡ None
  bits-accepted m =
      let fitting : list_all (fits (types.primitive (integer_of (tree_type days)) n)) (rows days) ≡ true = ap (λ t. list_all (fits t) (rows days)) (sym w.3.days_type) ∙ rows_fit days w.0 in
      ap (λ x. primitive_refusal (length bits) x (or_nullable n m)) valid-of-days ∙ bits-admitted (integer_of (tree_type days)) n m (rows days) (length bits) bits-as-days fitting

  pub bits-rows : (m : Nullability) → rows (bool bits (kept valid) m) ≡ valid_rows (validity (rows days)) (map truth bits)
  bits-rows m =
      let long : validity_length valid (length (map truth bits)) ≡ true = (λ i. validity_length (valid-of-days i) (length-map bits truth i)) ∙ bits_long (rows days) (length bits) bits-as-days in
      kept-rows valid (map truth bits) long ∙ ap (λ x. valid_rows x (map truth bits)) valid-of-days
