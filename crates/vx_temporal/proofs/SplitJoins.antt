-- Trees with the rows of a column's parts are accepted, and join to its rows; so are the parts that it is split into.
use Rattle.std.proofs.Common.{◌≡◌, ◌∙◌, ◌<◌, ◌≤◌, ℕ, ℤ, pos, negsuc, ◌<ℤ◌, ◌≤ℤ◌, Bool, true, false, List, [], ◌∷◌, length, map, replicate, refl, sym, ap, arith, Option, None, if◌then◌else◌}
use Rattle.std.specs.Prelude.{◌||◌, ◌==◌, int_lt}
use Rattle.std.specs.List.{list_all, range_with_len}
use Rattle.std.proofs.lemmas.Bool.{and_from, eq-eqb}
use Rattle.std.proofs.lemmas.Int.{ints, rem_below}
use Rattle.std.proofs.lemmas.List.{get_or-map, length-map}
use Rattle.std.proofs.lemmas.List.FromFn.{fill_by_all}
use Rattle.vx_base.specs.Answers.{unless}
use Rattle.vx_base.specs.declared.dtype.Nullability.{Nullability}
use Rattle.vx_base.specs.declared.dtype.Nullability.TheVariants.{NonNullable}
use Rattle.vx_base.specs.declared.error.VortexError.{VortexError}
use Rattle.vx_base.specs.declared.ptype.PType.TheVariants.{I32}
use Rattle.vx_base.specs.PlainScalar.{fits, scalar}
use Rattle.vx_base.specs.PlainType.{integer_of, stored_type}
use Rattle.vx_base.specs.PlainType as types
use Rattle.vx_base.specs.PlainValue.{PlainValue, null, int, is_null, whole_or_zero}
use Rattle.vx_base.specs.Storable.{same_refl}
use Rattle.vx_base.specs.Timestamps.{PlainTimestamp}
use Rattle.vx_model.specs.Plain.{plain}
use Rattle.vx_model.specs.Refusals.{datetime_parts_refusal}
use Rattle.vx_model.specs.Rows.{rows, row_at, each_int, combined_at}
use Rattle.vx_model.specs.Tree.{Tree, constant}
use Rattle.vx_model.specs.TreeType.{tree_type}
use Rattle.vx_model.specs.WellFormed.{is_canonical_at, is_whole_type}
use Rattle.vx_model.proofs.EachIntLemmas.{row_at-each_int}
use Rattle.vx_model.proofs.FrameOfReferenceLemmas.{row_passes}
use Rattle.vx_model.proofs.PlainLemmas.{rows-plain_of}
use Rattle.vx_flat.proofs.PartRows.{range_passes}
use Rattle.vx_time.specs.CanonicalParts.{is_canonical}
use Rattle.vx_time.specs.PartsOf.{parts, sum_of, units_per_second}
use Rattle.vx_time.proofs.Held.{lies_in-I32}
use Rattle.vx_time.proofs.Rounding.{parts_by_rem}
use Rattle.vx_temporal.specs.Joined.{joined}
use Rattle.vx_temporal.specs.Split.{day_fits, days_of, others_of, or_zero, subseconds_tree}
use Rattle.vx_temporal.specs.SplitRows.{day_in, second_in, subsecond_in}
use Rattle.vx_temporal.proofs.PartColumns.{days-fit, others-fit, row-joined, row-canonical}
use Rattle.vx_temporal.proofs.SmallParts.{second-small, subsecond-small}

pass : (b : Bool) (e : VortexError) (o : Option VortexError) → b ≡ true → o ≡ None → unless b e o ≡ None
pass true e o h n = n
pass false e o h n = absurd cc

-- a part that is 0 in every row
zeros : (f : ℤ → ℤ) → ((z : ℤ) → f z ≡ pos 0) → (vs : List PlainValue) → replicate (length vs) (int (pos 0)) ≡ map (or_zero f) vs
zeros f none [] = refl
zeros f none (null ∷ vs) = ap (λ rs. int (pos 0) ∷ rs) (zeros f none vs)
zeros f none (v ∷ vs) = let here = sym (none (whole_or_zero v)) in λ i. int (here i) ∷ zeros f none vs i

-- no subseconds where a unit is a second
whole-unit : (d z : ℤ) → pos 0 <ℤ d → int_lt (pos 1) d ≡ false → subsecond_in d z ≡ pos 0
whole-unit (pos k) z some is =
    let one : k ≤ 1 = grind (arith, ints, is) in
    let lt = rem_below z (pos k) (omega (arith, ints)) in
    ap (λ p. p.subseconds) (parts_by_rem z k) ∙ omega (arith, ints)
whole-unit (negsuc k) z some is = absurd some.lt

-- ---- trees with the rows of the parts

module _ (k : PlainTimestamp) (n : Nullability) (some : pos 0 <ℤ units_per_second k.unit) (vs : List PlainValue) (fit : list_all (fits (types.timestamp k n)) vs ≡ true) (days seconds subseconds : Tree)
    (a : rows days ≡ map (each_int (day_in (units_per_second k.unit))) vs) (b : rows seconds ≡ map (or_zero (second_in (units_per_second k.unit))) vs) (e : rows subseconds ≡ map (or_zero (subsecond_in (units_per_second k.unit))) vs) where
  abbrev d : ℤ
  d = units_per_second k.unit

  long : length (rows days) ≡ length vs
  long = ap length a ∙ length-map vs (each_int (day_in d))

  at-others : (f : ℤ → ℤ) (i : ℕ) → i < length vs → row_at (map (or_zero f) vs) i ≡ or_zero f (row_at vs i)
  at-others f i l = get_or-map (or_zero f) vs i null null l

  fits-at : (i : ℕ) → i < length vs → fits (types.timestamp k n) (row_at vs i) ≡ true
  fits-at i l = row_passes (fits (types.timestamp k n)) vs i l fit

  joined-row : (i : ℕ) → i < length vs → combined_at (units_per_second k.unit) (rows days) (rows seconds) (rows subseconds) i ≡ row_at vs i
  joined-row i l =
      let at = row_at-each_int (day_in d) vs i l in
      let second = at-others (second_in d) i l in
      let subsecond = at-others (subsecond_in d) i l in
      (λ j. combined_at d (a j) (b j) (e j) i)
      ∙ (λ j. each_int (λ day. sum_of d (parts day (whole_or_zero (second j)) (whole_or_zero (subsecond j)))) (at j))
      ∙ row-joined k n some (row_at vs i) (fits-at i l)

  canonical-row : (i : ℕ) → i < length vs → is_canonical_at (units_per_second k.unit) (rows days) (rows seconds) (rows subseconds) i ≡ true
  canonical-row i l =
      let at = row_at-each_int (day_in d) vs i l in
      let second = at-others (second_in d) i l in
      let subsecond = at-others (subsecond_in d) i l in
      (λ j. is_canonical_at d (a j) (b j) (e j) i)
      ∙ (λ j. is_null (at j) || is_canonical d (parts (whole_or_zero (at j)) (whole_or_zero (second j)) (whole_or_zero (subsecond j))))
      ∙ row-canonical k n some (row_at vs i) (fits-at i l)

  pub parts-join : joined (units_per_second k.unit) days seconds subseconds ≡ vs
  parts-join =
      let f = combined_at d (rows days) (rows seconds) (rows subseconds) in
      ap (λ m. map f (range_with_len 0 m)) long ∙ sym (fill_by_all f vs (length vs) null refl (λ i l. sym (joined-row i l)))

  same-length : (t : Tree) (f : ℤ → ℤ) → rows t ≡ map (or_zero f) vs → (length (rows t) == length (rows days)) ≡ true
  same-length t f is = eq-eqb _ _ (ap length is ∙ length-map vs (or_zero f) ∙ sym long)

  pub parts-accepted : tree_type days ≡ types.primitive (integer_of (tree_type days)) n → is_whole_type (tree_type seconds) ≡ true → is_whole_type (tree_type subseconds) ≡ true → datetime_parts_refusal k n days seconds subseconds ≡ None
  parts-accepted typed second subsecond =
      pass _ _ _ (and_from _ _ (same_refl stored_type (tree_type days) (types.primitive (integer_of (tree_type days)) n) typed) (and_from _ _ second subsecond))
      (pass _ _ _ (and_from _ _ (same-length seconds (second_in d) b) (same-length subseconds (subsecond_in d) e))
      (pass _ _ _ (range_passes (is_canonical_at d (rows days) (rows seconds) (rows subseconds)) 0 (length (rows days)) (λ i l. canonical-row i (omega (arith, long)))) refl))

-- ---- the parts that a column is split into

module _ (k : PlainTimestamp) (n : Nullability) (some : pos 0 <ℤ units_per_second k.unit) (few : units_per_second k.unit ≤ℤ pos 1_000_000_000) (vs : List PlainValue)
    (fit : list_all (fits (types.timestamp k n)) vs ≡ true) (held : list_all (day_fits (units_per_second k.unit)) vs ≡ true) (days seconds subseconds : Tree)
    (a : days ≡ plain (days_of (units_per_second k.unit) n vs)) (b : seconds ≡ plain (others_of (second_in (units_per_second k.unit)) vs)) (e : subseconds ≡ subseconds_tree (units_per_second k.unit) vs) where
  abbrev units : ℤ
  units = units_per_second k.unit

  pub rows-days : rows days ≡ map (each_int (day_in (units_per_second k.unit))) vs
  rows-days = ap rows a ∙ rows-plain_of (types.primitive I32 n) (map (each_int (day_in units)) vs) (days-fit k n some vs fit held)

  pub rows-seconds : rows seconds ≡ map (or_zero (second_in (units_per_second k.unit))) vs
  rows-seconds = ap rows b ∙ rows-plain_of (types.primitive I32 NonNullable) (map (or_zero (second_in units)) vs) (others-fit k n some (second_in units) (λ z. lies_in-I32 (second_in units z) (second-small units z some)) vs)

  pub rows-subseconds : rows subseconds ≡ map (or_zero (subsecond_in (units_per_second k.unit))) vs
  rows-subseconds = ap rows e ∙ by_test (int_lt (pos 1) units) refl
    where
      by_test : (c : Bool) → int_lt (pos 1) (units_per_second k.unit) ≡ c
          → rows (if c then plain (others_of (subsecond_in (units_per_second k.unit)) vs) else constant (scalar (types.primitive I32 NonNullable) (int (pos 0))) (length vs)) ≡ map (or_zero (subsecond_in (units_per_second k.unit))) vs
      by_test true is = rows-plain_of (types.primitive I32 NonNullable) (map (or_zero (subsecond_in units)) vs) (others-fit k n some (subsecond_in units) (λ z. lies_in-I32 (subsecond_in units z) (subsecond-small units z some few)) vs)
      by_test false is = zeros (subsecond_in units) (λ z. whole-unit units z some is) vs

  pub type-subseconds : tree_type subseconds ≡ types.primitive I32 NonNullable
  type-subseconds = ap tree_type e ∙ by_test (int_lt (pos 1) units)
    where
      by_test : (c : Bool) → tree_type (if c then plain (others_of (subsecond_in (units_per_second k.unit)) vs) else constant (scalar (types.primitive I32 NonNullable) (int (pos 0))) (length vs)) ≡ types.primitive I32 NonNullable
      by_test true = refl
      by_test false = refl

  pub split-joins : joined (units_per_second k.unit) days seconds subseconds ≡ vs
  split-joins = parts-join k n some vs fit days seconds subseconds rows-days rows-seconds rows-subseconds

  pub split-accepted : datetime_parts_refusal k n days seconds subseconds ≡ None
  split-accepted =
      let typed : tree_type days ≡ types.primitive I32 n = ap tree_type a in
      parts-accepted k n some vs fit days seconds subseconds rows-days rows-seconds rows-subseconds (typed ∙ ap (λ t. types.primitive (integer_of t) n) (sym typed)) (ap (λ t. is_whole_type (tree_type t)) b) (ap is_whole_type type-subseconds)
