-- Statistics of rows: counts, the first valid row, and the order of the extremes.
use Rattle.std.proofs.Common.{◌≡◌, ℕ, suc, ◌+◌, ◌<◌, ◌≤◌, ℤ, pos, negsuc, Bool, true, false, cond, List, [], ◌∷◌, length, map, get_or, refl, sym, ap, subst, ◌∙◌, arith, Option, Some, None}
use Rattle.std.specs.Prelude.{◌==◌, fold, position, nat_lt, ◌≤ℤ◌, ◌&&◌, ◌^◌}
use Rattle.std.specs.List.{All, position_or_len}
use Rattle.std.specs.Int.{int_min, int_max}
use Rattle.std.proofs.lemmas.Bool.Decides.{nat_tests}
use Rattle.std.proofs.lemmas.Int.{ints, fold-int_min_bounds, fold-int_max_bounds}
use Rattle.std.proofs.lemmas.List.{length-map}
use Rattle.vx_base.specs.declared.ptype.PType.{PType}
use Rattle.vx_base.specs.Integers.{lies_in, least, greatest, is_signed, natural_bits, least_where}
use Rattle.vx_base.specs.PlainValue.{PlainValue, null, int, is_null}
use Rattle.vx_model.specs.Refusals.{validity_length}
use Rattle.vx_model.specs.Rows.{masked_rows, valid_rows}
use Rattle.vx_stats.specs.Stats.{valid_wholes, value_count, null_count, least_in, greatest_in, runs_after, run_count, distinct_counts, distinct_info}
use Rattle.vx_stats.specs.declared.options.GenerateStatsOptions.{GenerateStatsOptions}
use Rattle.vx_stats.specs.Tables.{LiesBetween}
use Rattle.vx_stats.specs.Tally.{IsTallyAfter, IsTally, tally_of}
use Rattle.vx_stats.specs.declared.integer.tally.Tally.{Tally}
use Rattle.vx_base.specs.Masks.{true_count}
use Rattle.vx_model.proofs.RowLemmas.{length-cells}
use Rattle.std.proofs.lemmas.Bool.{cond_both, cond-true, and_from, lt-ltb, ltb-true, ltb-false, eqb-false}
use Rattle.std.proofs.lemmas.List.Sums.{sum_by-cons, count_by-le-length}
use Rattle.vx_stats.proofs.TallyLemmas.{same-eq, left}

-- ---- counts

null_count-next : (v : PlainValue) (vs : List PlainValue) → null_count (v ∷ vs) ≡ cond (is_null v) 1 0 + null_count vs
null_count-next v vs = sum_by-cons (λ w. cond (is_null w) 1 0) v vs

true_count-next : (bit : Bool) (bits : List Bool) → true_count (bit ∷ bits) ≡ cond bit 1 0 + true_count bits
true_count-next bit bits = sum_by-cons (λ b. cond b 1 0) bit bits

pub valid_wholes-map-int : (zs : List ℤ) → valid_wholes (map int zs) ≡ zs
valid_wholes-map-int [] = refl
valid_wholes-map-int (z ∷ zs) = ap (λ r. z ∷ r) (valid_wholes-map-int zs)

pub count-none : (zs : List ℤ) → null_count (map int zs) ≡ 0
count-none [] = refl
count-none (z ∷ zs) = omega (arith, null_count-next (int z) (map int zs), count-none zs)

pub count-values : (bits : List Bool) (zs : List ℤ) → length bits ≡ length zs → value_count (masked_rows bits (map int zs)) ≡ true_count bits
count-values [] zs e = refl
count-values (bit ∷ bits) [] e = absurd (omega arith)
count-values (true ∷ bits) (z ∷ zs) e = omega (arith, true_count-next true bits, count-values bits zs (omega arith))
count-values (false ∷ bits) (z ∷ zs) e = omega (arith, true_count-next false bits, count-values bits zs (omega arith))

pub few-values : (bits : List Bool) (zs : List ℤ) → length bits ≡ length zs → value_count (masked_rows bits (map int zs)) ≤ length zs
few-values bits zs e = omega (arith, count-values bits zs e, count_by-le-length (λ bit. bit) bits)

pub count-nulls : (bits : List Bool) (zs : List ℤ) → length bits ≡ length zs → null_count (masked_rows bits (map int zs)) + true_count bits ≡ length bits
count-nulls [] zs e = refl
count-nulls (bit ∷ bits) [] e = absurd (omega arith)
count-nulls (true ∷ bits) (z ∷ zs) e = omega (arith, null_count-next (int z) (masked_rows bits (map int zs)), true_count-next true bits, count-nulls bits zs (omega arith))
count-nulls (false ∷ bits) (z ∷ zs) e = omega (arith, null_count-next null (masked_rows bits (map int zs)), true_count-next false bits, count-nulls bits zs (omega arith))

-- ---- the first valid row

abbrev first_bit : List Bool → ℕ
first_bit [] = 0
first_bit (true ∷ bits) = 0
first_bit (false ∷ bits) = suc (first_bit bits)

first_bit-is : (bits : List Bool) → position_or_len (λ bit. bit) bits ≡ first_bit bits
first_bit-is [] = refl
first_bit-is (true ∷ bits) = refl
first_bit-is (false ∷ bits) = ap (λ n. 1 + n) (first_bit-is bits) ∙ omega arith

-- the numbers begin with this one
pub record BeginsWith (z : ℤ) (zs : List ℤ) : Type 0 where
  pub rest : List ℤ
  pub is : zs ≡ z ∷ rest

found-at : (row at len : ℕ) → cond (nat_lt at len) (Some at) None ≡ Some row → (row ≡ at) × (at < len)
found-at row at len f = cond_both (nat_lt at len) (Some at) None (λ o. o ≡ Some row → (row ≡ at) × (at < len)) (λ lt same. (cc, ltb-true at len lt)) (λ ge same. absurd cc) f

not-found : (at len : ℕ) → cond (nat_lt at len) (Some at) None ≡ None → len ≤ at
not-found at len f = cond_both (nat_lt at len) (Some at) None (λ o. o ≡ None → len ≤ at) (λ lt same. absurd cc) (λ ge same. ltb-false at len ge) f

module _ {T : Type 0} (whole : T → ℤ) where
  begins-at : (bits : List Bool) (items : List T) (d : T) → length bits ≡ length items → first_bit bits < length bits → BeginsWith (whole (get_or items (first_bit bits) d)) (left whole items bits 0)
  begins-at [] items d e h = absurd (omega arith)
  begins-at (bit ∷ bits) [] d e h = absurd (omega arith)
  begins-at (true ∷ bits) (x ∷ items) d e h = record { rest = left whole items bits 0; is = refl }
  begins-at (false ∷ bits) (x ∷ items) d e h = let r = begins-at bits items d (omega arith) (omega arith) in record { rest = r.rest; is = r.is }

  ends-before : (bits : List Bool) (items : List T) → length bits ≡ length items → length bits ≤ first_bit bits → left whole items bits 0 ≡ []
  ends-before [] items e h = refl
  ends-before (bit ∷ bits) [] e h = refl
  ends-before (true ∷ bits) (x ∷ items) e h = absurd (omega arith)
  ends-before (false ∷ bits) (x ∷ items) e h = ends-before bits items (omega arith) (omega arith)

  pub begins : (bits : List Bool) (items : List T) (row : ℕ) (x : T) → length bits ≡ length items → position (λ bit. bit) bits ≡ Some row → x ≡ get_or items row x → BeginsWith (whole x) (left whole items bits 0)
  begins bits items row x e found is =
      let at : (row ≡ position_or_len (λ bit. bit) bits) × (position_or_len (λ bit. bit) bits < length bits) = found-at row _ _ found in
      let place : row ≡ first_bit bits = at.0 ∙ first_bit-is bits in
      let r = begins-at bits items x e (omega (arith, at.1, first_bit-is bits)) in
      subst (λ y. BeginsWith (whole y) (left whole items bits 0)) (sym (is ∙ ap (λ n. get_or items n x) place)) r

  pub nothing : (bits : List Bool) (items : List T) → length bits ≡ length items → position (λ bit. bit) bits ≡ None → left whole items bits 0 ≡ []
  nothing bits items e missing = ends-before bits items e (omega (arith, first_bit-is bits, not-found _ _ missing))

-- ---- from a first number to all

pub greatest-above : (p : PType) (z : ℤ) → lies_in p z ≡ true → int_min (greatest p) z ≡ z
greatest-above p (pos n) e = grind (arith, nat_tests, ints)
greatest-above p (negsuc n) e = refl

least-where-below : (signed : Bool) (b : ℕ) (n : ℕ) → (signed && nat_lt n (2 ^ b)) ≡ true → int_max (least_where signed b) (negsuc n) ≡ negsuc n
least-where-below true b n e = grind (arith, nat_tests, ints)
least-where-below false b n e = absurd cc

least-below : (p : PType) (z : ℤ) → lies_in p z ≡ true → int_max (least p) z ≡ z
least-below p (pos n) e = from (is_signed p) (natural_bits p)
  where
    from : (signed : Bool) (b : ℕ) → int_max (least_where signed b) (pos n) ≡ pos n
    from true b = refl
    from false b = grind (arith, nat_tests, ints)
least-below p (negsuc n) e = least-where-below (is_signed p) (natural_bits p) n e

once-min : (z : ℤ) → int_min z z ≡ z
once-min z = grind (arith, ints)

once-max : (z : ℤ) → int_max z z ≡ z
once-max z = grind (arith, ints)

pub all-tallied : {T : Type 0} (whole : T → ℤ) (p : PType) (x : T) (zs : List ℤ) (t : Tally T) → lies_in p (whole x) ≡ true → BeginsWith (whole x) zs → IsTallyAfter whole (tally_of x) zs t → IsTally whole p zs t
all-tallied whole p x zs t held begin after =
    let first = whole x in
    let runs : runs_after first zs ≡ runs_after first begin.rest = ap (runs_after first) begin.is ∙ ap (λ b. cond b 0 1 + runs_after first begin.rest) (same-eq first) ∙ omega arith in
    let low : fold int_min first zs ≡ fold int_min (greatest p) zs = rw (begin.is, once-min first, greatest-above p first held) refl in
    let high : fold int_max first zs ≡ fold int_max (least p) zs = rw (begin.is, once-max first, least-below p first held) refl in
    record {
      runs = ap suc (omega (arith, after.changes, runs)) ∙ sym (ap run_count begin.is);
      least = after.least ∙ low;
      greatest = after.greatest ∙ high;
    }

-- ---- the least is at most the greatest

pub ordered : (p : PType) (vs : List PlainValue) → 0 < value_count vs → least_in p vs ≤ℤ greatest_in p vs
ordered p vs some =
    let low = (fold-int_min_bounds (greatest p) (valid_wholes vs) _ refl).1 0 (pos 0) some in
    let high = (fold-int_max_bounds (least p) (valid_wholes vs) _ refl).1 0 (pos 0) some in
    omega (arith, ints, low, high)

pub all-between : (p : PType) (vs : List PlainValue) → All (LiesBetween (least_in p vs) (greatest_in p vs)) (valid_wholes vs)
all-between p vs = λ k d h. ((fold-int_min_bounds (greatest p) (valid_wholes vs) _ refl).1 k d h, (fold-int_max_bounds (least p) (valid_wholes vs) _ refl).1 k d h)

-- ---- distinct values are counted where they are requested and there is a row

pub distinct-told : (options : GenerateStatsOptions) (vs : List PlainValue) → options.count_distinct_values ≡ true → 0 < length vs → distinct_info options vs ≡ Some (distinct_counts vs)
distinct-told options vs asked some = cond-true _ _ _ (and_from _ _ asked (lt-ltb 0 (length vs) some))

pub counts-told : {T : Type 0} (whole : T → ℤ) (items : List T) (valid : Option (List Bool)) (options : GenerateStatsOptions) → validity_length valid (length items) ≡ true → (length items == 0) ≡ false → options.count_distinct_values ≡ true
    → distinct_info options (valid_rows valid (map int (map whole items))) ≡ Some (distinct_counts (valid_rows valid (map int (map whole items))))
counts-told whole items valid options fits some asked =
    let zs = map whole items in
    let long : length (valid_rows valid (map int zs)) ≡ length zs = length-cells valid zs (subst (λ n. validity_length valid n ≡ true) (sym (length-map items whole)) fits) in
    distinct-told options (valid_rows valid (map int zs)) asked (omega (arith, long, length-map items whole, eqb-false (length items) 0 some))
