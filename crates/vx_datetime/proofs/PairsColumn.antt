-- The truth values that a comparison of two arrays in parts finds, as a column.
use Rattle.std.proofs.Common.{◌≡◌, ◌∙◌, true, List, length, sym, ap, Bool, None}
use Rattle.std.specs.Prelude.{IfSome}
use Rattle.std.proofs.lemmas.List.FromFn.{length-map-range_with_len}
use Rattle.vx_base.specs.declared.dtype.Nullability.{Nullability}
use Rattle.vx_base.specs.PlainType.{or_nullable, same_base}
use Rattle.vx_base.specs.PlainType as types
use Rattle.vx_base.specs.Timestamps.{PlainTimestamp}
use Rattle.vx_model.specs.Column.{column, column_of}
use Rattle.vx_model.specs.Refusals.{kept, primitive_refusal}
use Rattle.vx_model.specs.Rows.{rows, below, combined_at, valid_rows}
use Rattle.vx_model.specs.Tree.{Tree, Validity, bool, datetime_parts}
use Rattle.vx_model.specs.TreeType.{tree_type}
use Rattle.vx_model.specs.WellFormed.{WellFormed, are_canonical}
use Rattle.vx_rows.specs.Pairs.{each_pair}
use Rattle.vx_rules.specs.declared.options.CompareOperator.{CompareOperator}
use Rattle.vx_rules.specs.Comparisons.{compared, comparison, holds}
use Rattle.vx_time.specs.CanonicalParts.{parts_cmp}
use Rattle.vx_time.specs.PartsOf.{units_per_second}
use Rattle.vx_values.specs.IntsOf.{wholes_of}
use Rattle.vx_datetime.specs.declared.kernels.part_rows.PartRows.{PartRows}
use Rattle.vx_datetime.specs.Moments.{ArePartRows, parts_at, row_parts}
use Rattle.vx_datetime.proofs.ChosenParts.{days_long}
use Rattle.vx_datetime.proofs.FurtherNulls.{further-long}
use Rattle.vx_datetime.proofs.ReadRows.{bits-accepted, bits-as-days, bits-rows, days-read, valid-of-days}
use Rattle.vx_datetime.proofs.RowPairs.{pairs-answered}
use Rattle.vx_datetime.proofs.StampTypes.{same-stamp}

module _ (k j : PlainTimestamp) (n m : Nullability) (days seconds subseconds other_days other_seconds other_subseconds : Tree)
    (w : WellFormed (datetime_parts k n days seconds subseconds)) (v : WellFormed (datetime_parts j m other_days other_seconds other_subseconds))
    (units : j.unit ≡ k.unit) (lengths : length (rows other_days) ≡ length (rows days))
    (r o : PartRows) (own : ArePartRows days seconds subseconds r) (others : ArePartRows other_days other_seconds other_subseconds o)
    (op : CompareOperator) (bits : List Bool) (is_bits : bits ≡ below (λ i. holds op (parts_cmp (row_parts r i) (row_parts o i))) (length (wholes_of r.days.now))) (valid : Validity) (is_valid : valid ≡ r.valid.now) where
  size : length bits ≡ length (wholes_of r.days.now)
  size = ap length is_bits ∙ length-map-range_with_len _ 0 (length (wholes_of r.days.now))

  pub pairs-admitted : primitive_refusal (length bits) valid (or_nullable n m) ≡ None
  pairs-admitted = bits-accepted k n days seconds subseconds w r own bits size valid is_valid m

  pub pairs-long : IfSome o.valid.now (λ more. length more ≡ length (rows (bool bits (kept valid) (or_nullable n m))))
  pairs-long =
      further-long days other_days bits valid o.valid.now (or_nullable n m) (bits-as-days k n days seconds subseconds w r own bits size valid is_valid) (valid-of-days k n days seconds subseconds w r own bits size valid is_valid) others.valid lengths

  pub pairs-rows : valid_rows o.valid.now (rows (bool bits (kept valid) (or_nullable n m)))
      ≡ each_pair (compared op) (rows (datetime_parts k n days seconds subseconds)) (rows (datetime_parts j m other_days other_seconds other_subseconds))
  pairs-rows =
      let e = units_per_second k.unit in
      let same : units_per_second j.unit ≡ e = ap units_per_second units in
      let first = w.3 in
      let second = v.3 in
      let canonical = ap (λ d. are_canonical d (rows other_days) (rows other_seconds) (rows other_subseconds)) (sym same) ∙ second.canonical in
      let found = is_bits ∙ (λ x. below (λ i. holds op (parts_cmp (parts_at (own.days x) (own.seconds x) (own.subseconds x) i) (parts_at (others.days x) (others.seconds x) (others.subseconds x) i))) (days-read days seconds subseconds r own x)) in
      (λ x. valid_rows (others.valid x) (bits-rows k n days seconds subseconds w r own bits size valid is_valid (or_nullable n m) x))
      ∙ pairs-answered op e (rows days) (rows seconds) (rows subseconds) (rows other_days) (rows other_seconds) (rows other_subseconds) first.seconds_length first.subseconds_length lengths second.seconds_length second.subseconds_length first.canonical canonical bits found
      ∙ ap (λ d. each_pair (compared op) (rows (datetime_parts k n days seconds subseconds)) (below (combined_at d (rows other_days) (rows other_seconds) (rows other_subseconds)) (length (rows other_days)))) (sym same)

one_kind : (k j : PlainTimestamp) (n m : Nullability) → types.timestamp j m ≡ types.timestamp k n → j ≡ k
one_kind k j n m e = cc

-- what a comparison of two columns in parts asks for, and what it answers
module _ (k j : PlainTimestamp) (n m : Nullability) (days seconds subseconds other_days other_seconds other_subseconds tree other : Tree)
    (is : tree ≡ datetime_parts k n days seconds subseconds) (other_is : other ≡ datetime_parts j m other_days other_seconds other_subseconds) where
  pub same-kind : same_base (tree_type tree) (tree_type other) ≡ true → j ≡ k
  same-kind base =
      let typed : same_base (types.timestamp k n) (types.timestamp j m) ≡ true = (λ i. same_base (sym (ap tree_type is) i) (sym (ap tree_type other_is) i)) ∙ base in
      one_kind k j m m (same-stamp k n (types.timestamp j m) typed)

  pub as-many : length (rows tree) ≡ length (rows other) → length (rows other_days) ≡ length (rows days)
  as-many l = sym (days_long j m other_days other_seconds other_subseconds other other_is) ∙ sym l ∙ days_long k n days seconds subseconds tree is

  pub pairs-comparison : (op : CompareOperator)
      → column (types.boolean (or_nullable n m)) (each_pair (compared op) (rows (datetime_parts k n days seconds subseconds)) (rows (datetime_parts j m other_days other_seconds other_subseconds)))
      ≡ comparison op (column_of tree) (column_of other)
  pairs-comparison op = sym (λ i. comparison op (column_of (is i)) (column_of (other_is i)))
