-- Whether all timestamps are equal, by their parts: canonical parts of different timestamps differ.
use Rattle.std.proofs.Common.{◌≡◌, ◌<◌, ◌∙◌, ℤ, true, false, List, [], ◌∷◌, length, refl, sym, ap, arith, Bool}
use Rattle.std.specs.Prelude.{◌&&◌, ◌||◌}
use Rattle.std.specs.List.{list_all}
use Rattle.std.proofs.lemmas.Bool.{and_from, and_parts}
use Rattle.vx_base.specs.declared.dtype.Nullability.{Nullability}
use Rattle.vx_base.specs.declared.dtype.Nullability.TheVariants.{NonNullable, Nullable}
use Rattle.vx_base.specs.declared.ptype.PType.{PType}
use Rattle.vx_base.specs.Integers.{lies_in}
use Rattle.vx_base.specs.PlainScalar.{fits}
use Rattle.vx_base.specs.PlainType.{PlainType, integer_of}
use Rattle.vx_base.specs.PlainType as types
use Rattle.vx_base.specs.PlainValue.{PlainValue, null, int, is_null, same_value, stored_value, whole_or_zero}
use Rattle.vx_base.specs.Storable.{same_path, same_refl}
use Rattle.vx_base.specs.Timestamps.{PlainTimestamp}
use Rattle.vx_model.specs.Rows.{row_at, rows}
use Rattle.vx_model.specs.Tree.{Tree, datetime_parts}
use Rattle.vx_model.specs.TreeType.{tree_type}
use Rattle.vx_model.specs.WellFormed.{WellFormed, is_whole_type}
use Rattle.vx_model.proofs.MadeLemmas.{rows_fit}
use Rattle.vx_rules.specs.Aggregates.{all_equal}
use Rattle.vx_time.specs.CanonicalParts.{is_canonical}
use Rattle.vx_time.specs.PartsOf.{parts, sum_of, units_per_second}
use Rattle.vx_time.proofs.Canonicals.{canonical_out, same_where_sum}
use Rattle.vx_datetime.proofs.ChosenParts.{all_pass, canonical, combined, same-test}
use Rattle.vx_datetime.proofs.EachPart.{each3, numbered}

-- whether a value is null or an integer, and whether it is an integer
abbrev pub is_day : PlainValue → Bool
is_day null = true
is_day (int z) = true
is_day _ = false

abbrev pub is_whole : PlainValue → Bool
is_whole (int z) = true
is_whole _ = false

both_ways : (b c : Bool) → (b ≡ true → c ≡ true) → (c ≡ true → b ≡ true) → b ≡ c
both_ways true c f g = sym (f refl)
both_ways false true f g = g refl
both_ways false false f g = refl

-- ---- one row beside another

-- equal sums of canonical parts are equal parts, and the other way round
same-sums : (d : ℤ) (a b e x y z : ℤ) → is_canonical d (parts a b e) ≡ true → is_canonical d (parts x y z) ≡ true
    → same_value (int (sum_of d (parts a b e))) (int (sum_of d (parts x y z))) ≡ (same_value (int a) (int x) && (same_value (int b) (int y) && same_value (int e) (int z)))
same-sums d a b e x y z p q =
    both_ways _ _
    (λ h.
    let sums : sum_of d (parts a b e) ≡ sum_of d (parts x y z) = ap whole_or_zero (same_path stored_value (int (sum_of d (parts a b e))) (int (sum_of d (parts x y z))) h) in
    let one = same_where_sum d (parts a b e) (parts x y z) (canonical_out d _ p) (canonical_out d _ q) sums in
    and_from _ _ (same_refl stored_value (int a) (int x) (ap (λ r. int r.days) one))
    (and_from _ _ (same_refl stored_value (int b) (int y) (ap (λ r. int r.seconds) one)) (same_refl stored_value (int e) (int z) (ap (λ r. int r.subseconds) one))))
    (λ h.
    let days = and_parts _ _ h in
    let others = and_parts _ _ days.1 in
    let day : a ≡ x = ap whole_or_zero (same_path stored_value (int a) (int x) days.0) in
    let second : b ≡ y = ap whole_or_zero (same_path stored_value (int b) (int y) others.0) in
    let subsecond : e ≡ z = ap whole_or_zero (same_path stored_value (int e) (int z) others.1) in
    same_refl stored_value (int (sum_of d (parts a b e))) (int (sum_of d (parts x y z))) (λ i. int (sum_of d (parts (day i) (second i) (subsecond i)))))

-- a row equals another where their days are, and, unless these are null, their other parts
same-row : (d : ℤ) (v s u w t r : PlainValue) → is_day v ≡ true → is_day w ≡ true → is_whole s ≡ true → is_whole u ≡ true → is_whole t ≡ true → is_whole r ≡ true → canonical d v s u ≡ true → canonical d w t r ≡ true
    → same_value (combined d v s u) (combined d w t r) ≡ (same_value v w && (is_null v || (same_value s t && same_value u r)))
same-row d null s u null t r a b e f g h p q = refl
same-row d null s u (int x) t r a b e f g h p q = refl
same-row d (int z) s u null t r a b e f g h p q = refl
same-row d (int z) (int s) (int u) (int x) (int t) (int r) a b e f g h p q = same-sums d z s u x t r p q
same-row d v s u w t r a b e f g h p q = absurd cc

-- ---- all rows

mixed : (a b n s t u v : Bool) → ((a && (n || (s && u))) && (b && (n || (t && v)))) ≡ ((a && b) && (n || ((s && t) && (u && v))))
mixed false b n s t u v = refl
mixed true false true s t u v = refl
mixed true false false true t true v = refl
mixed true false false true t false v = refl
mixed true false false false t u v = refl
mixed true true true s t u v = refl
mixed true true false false t u v = refl
mixed true true false true false true v = refl
mixed true true false true false false v = refl
mixed true true false true true true v = refl
mixed true true false true true false v = refl

absorbed : (a n : Bool) → (true && (n || (true && true))) ≡ true
absorbed a true = refl
absorbed a false = refl

module _ (d : ℤ) (v s u : PlainValue) (day : is_day v ≡ true) (second : is_whole s ≡ true) (subsecond : is_whole u ≡ true) (own : canonical d v s u ≡ true) where
  later : (ds ss us : List PlainValue) → length ss ≡ length ds → length us ≡ length ds → list_all is_day ds ≡ true → list_all is_whole ss ≡ true → list_all is_whole us ≡ true → all_pass d ds ss us ≡ true
      → list_all (same_value (combined d v s u)) (each3 (combined d) ds ss us)
      ≡ (list_all (same_value v) ds && (is_null v || (list_all (same_value s) ss && list_all (same_value u) us)))
  later [] [] [] l m a b e h = sym (absorbed true (is_null v))
  later [] (t ∷ ss) us l m a b e h = absurd (omega (arith, l))
  later [] [] (r ∷ us) l m a b e h = absurd (omega (arith, m))
  later (w ∷ ds) [] us l m a b e h = absurd (omega (arith, l))
  later (w ∷ ds) (t ∷ ss) [] l m a b e h = absurd (omega (arith, m))
  later (w ∷ ds) (t ∷ ss) (r ∷ us) l m a b e h =
      let days = and_parts (is_day w) (list_all is_day ds) a in
      let seconds = and_parts (is_whole t) (list_all is_whole ss) b in
      let subseconds = and_parts (is_whole r) (list_all is_whole us) e in
      let tests = and_parts (canonical d w t r) (all_pass d ds ss us) h in
      (λ i. same-row d v s u w t r day days.0 second subsecond seconds.0 subseconds.0 own tests.0 i
      && later ds ss us (omega (arith, l)) (omega (arith, m)) days.1 seconds.1 subseconds.1 tests.1 i)
      ∙ mixed (same_value v w) (list_all (same_value v) ds) (is_null v) (same_value s t) (list_all (same_value s) ss) (same_value u r) (list_all (same_value u) us)

-- all rows are equal where all days are, and, unless these are null, all other parts
pub all-equal : (d : ℤ) (ds ss us : List PlainValue) → length ss ≡ length ds → length us ≡ length ds → list_all is_day ds ≡ true → list_all is_whole ss ≡ true → list_all is_whole us ≡ true → all_pass d ds ss us ≡ true
    → all_equal (each3 (combined d) ds ss us) ≡ (all_equal ds && (is_null (row_at ds 0) || (all_equal ss && all_equal us)))
all-equal d [] ss us l m a b e h = refl
all-equal d (v ∷ ds) [] us l m a b e h = absurd (omega (arith, l))
all-equal d (v ∷ ds) (s ∷ ss) [] l m a b e h = absurd (omega (arith, m))
all-equal d (v ∷ ds) (s ∷ ss) (u ∷ us) l m a b e h =
    let days = and_parts (is_day v) (list_all is_day ds) a in
    let seconds = and_parts (is_whole s) (list_all is_whole ss) b in
    let subseconds = and_parts (is_whole u) (list_all is_whole us) e in
    let tests = and_parts (canonical d v s u) (all_pass d ds ss us) h in
    later d v s u days.0 seconds.0 subseconds.0 tests.0 ds ss us (omega (arith, l)) (omega (arith, m)) days.1 seconds.1 subseconds.1 tests.1

-- ---- what is of an integer type

pub days-whole : (p : PType) (n : Nullability) (vs : List PlainValue) → list_all (fits (types.primitive p n)) vs ≡ true → list_all is_day vs ≡ true
days-whole p n [] h = refl
days-whole p n (null ∷ vs) h = days-whole p n vs (and_parts (fits (types.primitive p n) null) (list_all (fits (types.primitive p n)) vs) h).1
days-whole p n (int z ∷ vs) h = days-whole p n vs (and_parts (lies_in p z) (list_all (fits (types.primitive p n)) vs) h).1
days-whole p n (v ∷ vs) h = absurd cc

pub others-whole : (p : PType) (vs : List PlainValue) → list_all (fits (types.primitive p NonNullable)) vs ≡ true → list_all is_whole vs ≡ true
others-whole p [] h = refl
others-whole p (int z ∷ vs) h = others-whole p vs (and_parts (lies_in p z) (list_all (fits (types.primitive p NonNullable)) vs) h).1
others-whole p (v ∷ vs) h = absurd cc

others-strict : (t : PlainType) → is_whole_type t ≡ true → t ≡ types.primitive (integer_of t) NonNullable
others-strict (types.primitive p NonNullable) h = refl
others-strict (types.primitive p Nullable) h = absurd cc
others-strict t h = absurd cc

-- ---- an array

-- where all rows are equal there is one
pub some-rows : (vs : List PlainValue) → all_equal vs ≡ true → 0 < length vs
some-rows [] h = absurd cc
some-rows (v ∷ vs) h = omega arith

pub constant-parts : (k : PlainTimestamp) (n : Nullability) (days seconds subseconds : Tree) → WellFormed (datetime_parts k n days seconds subseconds)
    → all_equal (rows (datetime_parts k n days seconds subseconds)) ≡ (all_equal (rows days) && (is_null (row_at (rows days) 0) || (all_equal (rows seconds) && all_equal (rows subseconds))))
constant-parts k n days seconds subseconds w =
    let own = w.3 in
    let e = units_per_second k.unit in
    let l = own.seconds_length in
    let m = own.subseconds_length in
    let pass : all_pass e (rows days) (rows seconds) (rows subseconds) ≡ true = sym (same-test e (rows days) (rows seconds) (rows subseconds) l m) ∙ own.canonical in
    let day = days-whole (integer_of (tree_type days)) n (rows days) (ap (λ t. list_all (fits t) (rows days)) (sym own.days_type) ∙ rows_fit days w.0) in
    let second = others-whole (integer_of (tree_type seconds)) (rows seconds) (ap (λ t. list_all (fits t) (rows seconds)) (sym (others-strict (tree_type seconds) own.seconds_type)) ∙ rows_fit seconds w.1) in
    let subsecond = others-whole (integer_of (tree_type subseconds)) (rows subseconds) (ap (λ t. list_all (fits t) (rows subseconds)) (sym (others-strict (tree_type subseconds) own.subseconds_type)) ∙ rows_fit subseconds w.2) in
    ap all_equal (numbered (combined e) (rows days) (rows seconds) (rows subseconds) l m) ∙ all-equal e (rows days) (rows seconds) (rows subseconds) l m day second subsecond pass
