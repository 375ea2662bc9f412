-- The truth values that a range between two columns of bounds finds, all three in parts, as a column.
use Rattle.std.proofs.Common.{◌≡◌, ◌∙◌, List, length, sym, ap, Bool, None}
use Rattle.std.specs.Prelude.{IfSome}
use Rattle.std.proofs.lemmas.List.FromFn.{length-map-range_with_len}
use Rattle.vx_base.specs.declared.dtype.Nullability.{Nullability}
use Rattle.vx_base.specs.PlainType.{or_nullable}
use Rattle.vx_base.specs.PlainType as types
use Rattle.vx_base.specs.Timestamps.{PlainTimestamp}
use Rattle.vx_model.specs.Column.{column, column_of}
use Rattle.vx_model.specs.Refusals.{kept, primitive_refusal}
use Rattle.vx_model.specs.Rows.{rows, below, combined_at, valid_rows}
use Rattle.vx_model.specs.Tree.{Tree, Validity, bool, datetime_parts}
use Rattle.vx_model.specs.WellFormed.{WellFormed, are_canonical}
use Rattle.vx_rows.specs.Pairs.{rows_within}
use Rattle.vx_rules.specs.declared.options.BetweenOptions.{BetweenOptions}
use Rattle.vx_rules.specs.Comparisons.{between}
use Rattle.vx_time.specs.PartsOf.{units_per_second}
use Rattle.vx_values.specs.IntsOf.{wholes_of}
use Rattle.vx_datetime.specs.declared.kernels.part_rows.PartRows.{PartRows}
use Rattle.vx_datetime.specs.Moments.{ArePartRows, lie_within, parts_at, row_parts}
use Rattle.vx_datetime.proofs.FurtherNulls.{further-long}
use Rattle.vx_datetime.proofs.ReadRows.{bits-accepted, bits-as-days, bits-rows, days-read, valid-of-days}
use Rattle.vx_datetime.proofs.RowTriples.{triples-answered}

module _ (k a b : PlainTimestamp) (n l h : Nullability) (days seconds subseconds low_days low_seconds low_subseconds high_days high_seconds high_subseconds : Tree)
    (w : WellFormed (datetime_parts k n days seconds subseconds)) (low : WellFormed (datetime_parts a l low_days low_seconds low_subseconds)) (high : WellFormed (datetime_parts b h high_days high_seconds high_subseconds))
    (low_unit : a.unit ≡ k.unit) (high_unit : b.unit ≡ k.unit) (low_length : length (rows low_days) ≡ length (rows days)) (high_length : length (rows high_days) ≡ length (rows days))
    (r f c : PartRows) (own : ArePartRows days seconds subseconds r) (lows : ArePartRows low_days low_seconds low_subseconds f) (highs : ArePartRows high_days high_seconds high_subseconds c)
    (options : BetweenOptions) (bits : List Bool) (is_bits : bits ≡ below (λ i. lie_within options (row_parts r i) (row_parts f i) (row_parts c i)) (length (wholes_of r.days.now))) (valid : Validity) (is_valid : valid ≡ r.valid.now) where
  size : length bits ≡ length (wholes_of r.days.now)
  size = ap length is_bits ∙ length-map-range_with_len _ 0 (length (wholes_of r.days.now))

  pub ranges-admitted : primitive_refusal (length bits) valid (or_nullable n (or_nullable l h)) ≡ None
  ranges-admitted = bits-accepted k n days seconds subseconds w r own bits size valid is_valid (or_nullable l h)

  pub lows-long : IfSome f.valid.now (λ more. length more ≡ length (rows (bool bits (kept valid) (or_nullable n (or_nullable l h)))))
  lows-long =
      further-long days low_days bits valid f.valid.now (or_nullable n (or_nullable l h)) (bits-as-days k n days seconds subseconds w r own bits size valid is_valid) (valid-of-days k n days seconds subseconds w r own bits size valid is_valid) lows.valid low_length

  pub highs-long : IfSome c.valid.now (λ more. length more ≡ length (rows (bool bits (kept valid) (or_nullable n (or_nullable l h)))))
  highs-long =
      further-long days high_days bits valid c.valid.now (or_nullable n (or_nullable l h)) (bits-as-days k n days seconds subseconds w r own bits size valid is_valid) (valid-of-days k n days seconds subseconds w r own bits size valid is_valid) highs.valid high_length

  pub ranges-rows : valid_rows c.valid.now (valid_rows f.valid.now (rows (bool bits (kept valid) (or_nullable n (or_nullable l h)))))
      ≡ rows_within options (rows (datetime_parts k n days seconds subseconds)) (rows (datetime_parts a l low_days low_seconds low_subseconds)) (rows (datetime_parts b h high_days high_seconds high_subseconds))
  ranges-rows =
      let e = units_per_second k.unit in
      let low_same : units_per_second a.unit ≡ e = ap units_per_second low_unit in
      let high_same : units_per_second b.unit ≡ e = ap units_per_second high_unit in
      let first = w.3 in
      let second = low.3 in
      let third = high.3 in
      let low_canonical = ap (λ d. are_canonical d (rows low_days) (rows low_seconds) (rows low_subseconds)) (sym low_same) ∙ second.canonical in
      let high_canonical = ap (λ d. are_canonical d (rows high_days) (rows high_seconds) (rows high_subseconds)) (sym high_same) ∙ third.canonical in
      let found = is_bits ∙ (λ x. below (λ i. lie_within options (parts_at (own.days x) (own.seconds x) (own.subseconds x) i) (parts_at (lows.days x) (lows.seconds x) (lows.subseconds x) i) (parts_at (highs.days x) (highs.seconds x) (highs.subseconds x) i)) (days-read days seconds subseconds r own x)) in
      (λ x. valid_rows (highs.valid x) (valid_rows (lows.valid x) (bits-rows k n days seconds subseconds w r own bits size valid is_valid (or_nullable n (or_nullable l h)) x)))
      ∙ triples-answered options e (rows days) (rows seconds) (rows subseconds) (rows low_days) (rows low_seconds) (rows low_subseconds) (rows high_days) (rows high_seconds) (rows high_subseconds)
      first.seconds_length first.subseconds_length low_length second.seconds_length second.subseconds_length high_length third.seconds_length third.subseconds_length first.canonical low_canonical high_canonical bits found
      ∙ (λ x. rows_within options (rows (datetime_parts k n days seconds subseconds)) (below (combined_at (sym low_same x) (rows low_days) (rows low_seconds) (rows low_subseconds)) (length (rows low_days))) (below (combined_at (sym high_same x) (rows high_days) (rows high_seconds) (rows high_subseconds)) (length (rows high_days))))

-- what `between` answers of three trees in parts
pub ranges-between : (k a b : PlainTimestamp) (n l h : Nullability) (days seconds subseconds low_days low_seconds low_subseconds high_days high_seconds high_subseconds tree lower upper : Tree)
    → tree ≡ datetime_parts k n days seconds subseconds → lower ≡ datetime_parts a l low_days low_seconds low_subseconds → upper ≡ datetime_parts b h high_days high_seconds high_subseconds → (options : BetweenOptions)
    → column (types.boolean (or_nullable n (or_nullable l h))) (rows_within options (rows (datetime_parts k n days seconds subseconds)) (rows (datetime_parts a l low_days low_seconds low_subseconds)) (rows (datetime_parts b h high_days high_seconds high_subseconds)))
    ≡ between options (column_of tree) (column_of lower) (column_of upper)
ranges-between k a b n l h days seconds subseconds low_days low_seconds low_subseconds high_days high_seconds high_subseconds tree lower upper is low high options =
    sym (λ i. between options (column_of (is i)) (column_of (low i)) (column_of (high i)))
