-- Timestamps in parts, each column in a line: between two canonical rows that keep a sign, each row is canonical.
use Rattle.std.proofs.Common.{◌≡◌, ◌∙◌, inl, inr, ◌<◌, ◌≤◌, ◌*◌, ◌^◌, ℕ, ℤ, pos, negsuc, List, length, Bool, true, false, refl, sym, ap, arith, unsigned_abs}
use Rattle.std.specs.Prelude.{◌+ℤ◌, ◌*ℤ◌, ◌≤ℤ◌, ◌&&◌, ◌||◌, ◌⊎◌, int_le, int_lt, nat_lt}
use Rattle.std.specs.List.{list_all, range_with_len}
use Rattle.std.proofs.lemmas.Bool.{and_parts, and_from, or_cases, or_left, or_right, ltb-true, lt-ltb, false≢true}
use Rattle.std.proofs.lemmas.Int.{ints}
use Rattle.vx_base.specs.declared.ptype.PType.{PType}
use Rattle.vx_base.specs.declared.ptype.PType.TheVariants.{I64}
use Rattle.vx_base.specs.Integers.{is_signed, lies_in, natural_bits}
use Rattle.vx_base.specs.PlainValue.{PlainValue, is_null}
use Rattle.vx_model.specs.Rows.{row_at}
use Rattle.vx_model.specs.WellFormed.{are_canonical, is_canonical_at}
use Rattle.vx_time.specs.declared.parts.TimestampParts.{TimestampParts}
use Rattle.vx_time.specs.CanonicalParts.{is_canonical, none_negative, none_positive, share_sign}
use Rattle.vx_time.specs.PartsOf.{parts, sum_of}
use Rattle.vx_time.proofs.Canonicals.{canonical_out, canonical_positive}
use Rattle.vx_flat.proofs.PartRows.{range_passes, range_fails}
use Rattle.vx_array.specs.Linear.{IsLinear, are_canonical_between, are_down, are_up, are_zero, keep_sign, parts_at}
use Rattle.vx_array.proofs.LinearRows.{line-linear, whole_at}
use Rattle.vx_array.proofs.Lines.{IsLine, Convex, line-front, line-passes_from, line-sum, line-times}
use Rattle.vx_array.proofs.Ranges.{all-pass_between}

convex-lies_in : (p : PType) → Convex (lies_in p)
convex-lies_in p a (pos n) (pos m) h k l r = lt-ltb n (2 ^ natural_bits p) (let most = ltb-true m (2 ^ natural_bits p) k in omega (arith, ints))
convex-lies_in p a (pos n) (negsuc m) h k l r = absurd (omega (arith, ints))
convex-lies_in p (negsuc m) (negsuc n) b h k l r =
    let c = and_parts (is_signed p) (nat_lt m (2 ^ natural_bits p)) h in
    and_from _ _ c.0 (lt-ltb n (2 ^ natural_bits p) (let most = ltb-true m (2 ^ natural_bits p) c.1 in omega (arith, ints)))
convex-lies_in p (pos m) (negsuc n) b h k l r = absurd (omega (arith, ints))

abbrev small : ℕ → ℤ → Bool
small n z = nat_lt (unsigned_abs z) n

convex-small : (n : ℕ) → Convex (small n)
convex-small n a z b h k l r =
    let low = ltb-true (unsigned_abs a) n h in
    let high = ltb-true (unsigned_abs b) n k in
    lt-ltb (unsigned_abs z) n (within a z b low high l r)
  where
    within : (a z b : ℤ) → unsigned_abs a < n → unsigned_abs b < n → a ≤ℤ z → z ≤ℤ b → unsigned_abs z < n
    within (pos a) (pos z) (pos b) low high l r = omega (arith, ints)
    within (pos a) (negsuc z) b low high l r = absurd (omega (arith, ints))
    within (negsuc a) (pos z) (pos b) low high l r = omega (arith, ints)
    within (negsuc a) (pos z) (negsuc b) low high l r = absurd (omega (arith, ints))
    within (pos a) (pos z) (negsuc b) low high l r = absurd (omega (arith, ints))
    within (negsuc a) (negsuc z) b low high l r = omega (arith, ints)

convex-up : Convex (λ z. int_le (pos 0) z)
convex-up a z b h k l r = grind (arith, ints)

convex-down : Convex (λ z. int_le z (pos 0))
convex-down a z b h k l r = grind (arith, ints)

-- no number is negative and positive
either : (z : ℤ) → (int_le (pos 0) z ≡ true) ⊎ (int_le z (pos 0) ≡ true)
either (pos n) = inl (grind (arith, ints))
either (negsuc n) = inr refl

-- what a canonical timestamp's clock and sum are
parts_of_canonical : (d : ℤ) (p : TimestampParts) → is_canonical d p ≡ true
    → (nat_lt (unsigned_abs p.seconds) 86_400 ≡ true) × (int_lt (pos (unsigned_abs p.subseconds)) d ≡ true) × (lies_in I64 (sum_of d p) ≡ true)
parts_of_canonical d p e =
    let all = and_parts (share_sign p && nat_lt (unsigned_abs p.seconds) 86_400 && int_lt (pos (unsigned_abs p.subseconds)) d) (lies_in I64 (sum_of d p)) e in
    let three = and_parts (share_sign p && nat_lt (unsigned_abs p.seconds) 86_400) (int_lt (pos (unsigned_abs p.subseconds)) d) all.0 in
    let two = and_parts (share_sign p) (nat_lt (unsigned_abs p.seconds) 86_400) three.0 in
    (two.1, three.1, all.1)

module _ (f g h : ℕ → ℤ) (n first i last : ℕ) (days : IsLine f n) (seconds : IsLine g n) (subseconds : IsLine h n) (o : first ≤ i) (l : i ≤ last) (m : last < n) where
  abbrev at : ℕ → TimestampParts
  at k = parts (f k) (g k) (h k)

  up-line : (e : ℕ → ℤ) → IsLine e n → are_up (e first) (e last) ≡ true → int_le (pos 0) (e i) ≡ true
  up-line e line a = let b = and_parts (int_le (pos 0) (e first)) (int_le (pos 0) (e last)) a in line-passes_from (λ z. int_le (pos 0) z) convex-up e n first i last line o l m b.0 b.1

  down-line : (e : ℕ → ℤ) → IsLine e n → are_down (e first) (e last) ≡ true → int_le (e i) (pos 0) ≡ true
  down-line e line a = let b = and_parts (int_le (e first) (pos 0)) (int_le (e last) (pos 0)) a in line-passes_from (λ z. int_le z (pos 0)) convex-down e n first i last line o l m b.0 b.1

  both : (e : ℕ → ℤ) → IsLine e n → are_zero (e first) (e last) ≡ true → (int_le (pos 0) (e i) ≡ true) × (int_le (e i) (pos 0) ≡ true)
  both e line a = let b = and_parts (are_up (e first) (e last)) (are_down (e first) (e last)) a in (up-line e line b.0, down-line e line b.1)

  all_up : int_le (pos 0) (f i) ≡ true → int_le (pos 0) (g i) ≡ true → int_le (pos 0) (h i) ≡ true → share_sign (at i) ≡ true
  all_up a b c = or_left (none_negative (at i)) (none_positive (at i)) (and_from _ _ (and_from _ _ a b) c)

  all_down : int_le (f i) (pos 0) ≡ true → int_le (g i) (pos 0) ≡ true → int_le (h i) (pos 0) ≡ true → share_sign (at i) ≡ true
  all_down a b c = or_right (none_negative (at i)) (none_positive (at i)) (and_from _ _ (and_from _ _ a b) c)

  abbrev ups : Bool
  ups = are_up (f first) (f last) && are_up (g first) (g last) && are_up (h first) (h last)

  abbrev downs : Bool
  downs = are_down (f first) (f last) && are_down (g first) (g last) && are_down (h first) (h last)

  abbrev first_two : Bool
  first_two = are_zero (f first) (f last) && are_zero (g first) (g last)

  abbrev outer_two : Bool
  outer_two = are_zero (f first) (f last) && are_zero (h first) (h last)

  abbrev last_two : Bool
  last_two = are_zero (g first) (g last) && are_zero (h first) (h last)

  of_ups : ups ≡ true → share_sign (at i) ≡ true
  of_ups e =
      let r = and_parts (are_up (f first) (f last) && are_up (g first) (g last)) (are_up (h first) (h last)) e in
      let s = and_parts (are_up (f first) (f last)) (are_up (g first) (g last)) r.0 in
      all_up (up-line f days s.0) (up-line g seconds s.1) (up-line h subseconds r.1)

  of_downs : downs ≡ true → share_sign (at i) ≡ true
  of_downs e =
      let r = and_parts (are_down (f first) (f last) && are_down (g first) (g last)) (are_down (h first) (h last)) e in
      let s = and_parts (are_down (f first) (f last)) (are_down (g first) (g last)) r.0 in
      all_down (down-line f days s.0) (down-line g seconds s.1) (down-line h subseconds r.1)

  of_first : first_two ≡ true → share_sign (at i) ≡ true
  of_first e =
      let r = and_parts (are_zero (f first) (f last)) (are_zero (g first) (g last)) e in
      let a = both f days r.0 in
      let b = both g seconds r.1 in
      elim (either (h i)) [ inl c ↦ all_up a.0 b.0 c | inr c ↦ all_down a.1 b.1 c ]

  of_outer : outer_two ≡ true → share_sign (at i) ≡ true
  of_outer e =
      let r = and_parts (are_zero (f first) (f last)) (are_zero (h first) (h last)) e in
      let a = both f days r.0 in
      let b = both h subseconds r.1 in
      elim (either (g i)) [ inl c ↦ all_up a.0 c b.0 | inr c ↦ all_down a.1 c b.1 ]

  of_last : last_two ≡ true → share_sign (at i) ≡ true
  of_last e =
      let r = and_parts (are_zero (g first) (g last)) (are_zero (h first) (h last)) e in
      let a = both g seconds r.0 in
      let b = both h subseconds r.1 in
      elim (either (f i)) [ inl c ↦ all_up c a.0 b.0 | inr c ↦ all_down c a.1 b.1 ]

  sign-line : keep_sign (at first) (at last) ≡ true → share_sign (at i) ≡ true
  sign-line e =
      elim (or_cases (ups || downs || first_two || outer_two) last_two e) [
        | inr v ↦ of_last v
        | inl w ↦ elim (or_cases (ups || downs || first_two) outer_two w) [
          | inr v ↦ of_outer v
          | inl x ↦ elim (or_cases (ups || downs) first_two x) [
            | inr v ↦ of_first v
            | inl y ↦ elim (or_cases ups downs y) [ inl v ↦ of_ups v | inr v ↦ of_downs v ]
          ]
        ]
      ]

  sums_line : (k : ℕ) → IsLine (λ j. sum_of (pos k) (at j)) n
  sums_line k =
      line-sum (λ j. f j *ℤ (pos 86_400 *ℤ pos k) +ℤ g j *ℤ pos k) h n (line-sum (λ j. f j *ℤ (pos 86_400 *ℤ pos k)) (λ j. g j *ℤ pos k) n (line-times f n (86_400 * k) days) (line-times g n k seconds)) subseconds

  canonical-whole : (k : ℕ) → is_canonical (pos k) (at first) ≡ true → is_canonical (pos k) (at last) ≡ true → keep_sign (at first) (at last) ≡ true → is_canonical (pos k) (at i) ≡ true
  canonical-whole k begin end keep =
      let a = parts_of_canonical (pos k) (at first) begin in
      let b = parts_of_canonical (pos k) (at last) end in
      and_from _ _
      (and_from _ _ (and_from _ _ (sign-line keep) (line-passes_from (small 86_400) (convex-small 86_400) g n first i last seconds o l m a.0 b.0)) (line-passes_from (small k) (convex-small k) h n first i last subseconds o l m a.1 b.1))
      (line-passes_from (lies_in I64) (convex-lies_in I64) (λ j. sum_of (pos k) (at j)) n first i last (sums_line k) o l m a.2 b.2)

  pub canonical-line : (d : ℤ) → is_canonical d (at first) ≡ true → is_canonical d (at last) ≡ true → keep_sign (at first) (at last) ≡ true → is_canonical d (at i) ≡ true
  canonical-line (pos k) begin end keep = canonical-whole k begin end keep
  canonical-line (negsuc k) begin end keep = absurd (canonical_positive (negsuc k) (at first) (canonical_out (negsuc k) (at first) begin)).lt

-- ---- three linear columns

module _ (d : ℤ) (ds ss us : List PlainValue) (days : IsLinear ds) (seconds : IsLinear ss) (subseconds : IsLinear us) (same_seconds : length ss ≡ length ds) (same_subseconds : length us ≡ length ds) where
  -- a day that is there
  is_day : (i : ℕ) → is_null (row_at ds i) ≡ false → is_canonical_at d ds ss us i ≡ true → is_canonical d (parts_at ds ss us i) ≡ true
  is_day i some h = ap (λ b. b || is_canonical d (parts_at ds ss us i)) (sym some) ∙ h

  pub canonical-between : (first i last : ℕ) → first ≤ i → i ≤ last → last < length ds → is_canonical_at d ds ss us first ≡ true → is_canonical_at d ds ss us last ≡ true → keep_sign (parts_at ds ss us first) (parts_at ds ss us last) ≡ true → is_canonical_at d ds ss us i ≡ true
  canonical-between first i last o l m begin end keep = pick (is_null (row_at ds i)) refl
    where
      few : i < length ds
      few = omega arith

      pick : (b : Bool) → is_null (row_at ds i) ≡ b → is_canonical_at d ds ss us i ≡ true
      pick true e = or_left _ (is_canonical d (parts_at ds ss us i)) e
      pick false e =
          or_right (is_null (row_at ds i)) _
          (canonical-line (whole_at ds) (whole_at ss) (whole_at us) (length ds) first i last (line-linear ds days) (line-front (whole_at ss) (length ss) (length ds) (line-linear ss seconds) (omega (arith, same_seconds)))
          (line-front (whole_at us) (length us) (length ds) (line-linear us subseconds) (omega (arith, same_subseconds))) o l m d (is_day first (alike first (omega arith)) begin) (is_day last (alike last m) end) keep)
        where
          alike : (k : ℕ) → k < length ds → is_null (row_at ds k) ≡ false
          alike k w = by_form days
            where
              by_form : IsLinear ds → is_null (row_at ds k) ≡ false
              by_form (inl same) = ap is_null (same k w ∙ sym (same i few)) ∙ e
              by_form (inr steps) = ap is_null (steps.each k w)

  pub between-keeps : (first last : ℕ) → first ≤ last → last < length ds → is_canonical_at d ds ss us first ≡ true → is_canonical_at d ds ss us last ≡ true → keep_sign (parts_at ds ss us first) (parts_at ds ss us last) ≡ true → are_canonical_between d ds ss us first last ≡ true
  between-keeps first last k m begin end keep = all-pass_between (is_canonical_at d ds ss us) first last k (λ i o l. canonical-between first i last o l m begin end keep)

  -- where the first day is null, each is
  pub canonical-nulls : 0 < length ds → is_null (row_at ds 0) ≡ true → are_canonical d ds ss us ≡ true
  canonical-nulls some none = range_passes (is_canonical_at d ds ss us) 0 (length ds) (λ i l. or_left (is_null (row_at ds i)) _ (by_form i (omega arith) days))
    where
      by_form : (i : ℕ) → i < length ds → IsLinear ds → is_null (row_at ds i) ≡ true
      by_form i l (inl same) = ap is_null (same i l) ∙ none
      by_form i l (inr steps) = absurd (false≢true (sym (ap is_null (steps.each 0 some)) ∙ none))

pub canonical-fails : (d : ℤ) (ds ss us : List PlainValue) (i : ℕ) → i < length ds → is_canonical_at d ds ss us i ≡ false → are_canonical d ds ss us ≡ false
canonical-fails d ds ss us i l fails = range_fails (is_canonical_at d ds ss us) (length ds) i l fails

pub canonical-none : (d : ℤ) (ds ss us : List PlainValue) → length ds ≡ 0 → are_canonical d ds ss us ≡ true
canonical-none d ds ss us none = ap (λ n. list_all (is_canonical_at d ds ss us) (range_with_len 0 n)) none
