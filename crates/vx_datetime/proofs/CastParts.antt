-- Parts whose days were cast to another nullability: refused where the timestamps are, and else the same rows.
use Rattle.std.proofs.Common.{◌≡◌, ◌∙◌, ℤ, true, false, List, [], ◌∷◌, length, refl, sym, ap, subst, arith, Option, Some, None, Result, Ok, Err}
use Rattle.std.specs.Prelude.{◌&&◌}
use Rattle.std.specs.List.{list_all}
use Rattle.std.proofs.lemmas.Bool.{and_from, and_parts, eq-eqb}
use Rattle.vx_base.specs.declared.dtype.Nullability.{Nullability}
use Rattle.vx_base.specs.declared.error.VortexError.{VortexError}
use Rattle.vx_base.specs.declared.error.VortexError.TheVariants.{CastRefused, MismatchedTypes}
use Rattle.vx_base.specs.declared.ptype.PType.{PType}
use Rattle.vx_base.specs.Answers.{OrMemory, unless}
use Rattle.vx_base.specs.Casts.{is_cast}
use Rattle.vx_base.specs.PlainScalar.{fits}
use Rattle.vx_base.specs.PlainType.{PlainType, integer_of, nullability_of, same_base, stored_type}
use Rattle.vx_base.specs.PlainType as types
use Rattle.vx_base.specs.PlainValue.{PlainValue, null, int, whole_or_zero}
use Rattle.vx_base.specs.Storable.{same_refl}
use Rattle.vx_base.specs.Timestamps.{PlainTimestamp}
use Rattle.vx_model.specs.Column.{Column, column, column_of}
use Rattle.vx_model.specs.Refusals.{datetime_parts_refusal}
use Rattle.vx_model.specs.Rows.{rows}
use Rattle.vx_model.specs.Tree.{Tree, datetime_parts}
use Rattle.vx_model.specs.TreeType.{tree_type}
use Rattle.vx_model.specs.WellFormed.{WellFormed, are_canonical}
use Rattle.vx_model.proofs.MadeLemmas.{rows_fit}
use Rattle.vx_rules.specs.Conversions.{cast_refusal, casted}
use Rattle.vx_rules.specs.Outcomes.{Follows, outcome}
use Rattle.vx_selections.proofs.Leaves.{Stands}
use Rattle.vx_time.specs.PartsOf.{parts, units_per_second}
use Rattle.vx_time.proofs.Canonicals.{canonical_out}
use Rattle.vx_datetime.proofs.ChosenParts.{accepted-by, all_pass, canonical, combined, same-test}
use Rattle.vx_datetime.proofs.EachPart.{each3, numbered}
use Rattle.vx_datetime.proofs.StampTypes.{same-stamp}

-- a timestamp is of a nullability where its day is
one-fits : (k : PlainTimestamp) (p : PType) (n m : Nullability) (d : ℤ) (v s u : PlainValue) → fits (types.primitive p n) v ≡ true → canonical d v s u ≡ true → fits (types.primitive p m) v ≡ fits (types.timestamp k m) (combined d v s u)
one-fits k p n m d null s u h e = refl
one-fits k p n m d (int z) s u h e = h ∙ sym (canonical_out d (parts z (whole_or_zero s) (whole_or_zero u)) e).held
one-fits k p n m d v s u h e = absurd cc

pub all-fit : (k : PlainTimestamp) (p : PType) (n m : Nullability) (d : ℤ) (ds ss us : List PlainValue) → length ss ≡ length ds → length us ≡ length ds → list_all (fits (types.primitive p n)) ds ≡ true → all_pass d ds ss us ≡ true
    → list_all (fits (types.primitive p m)) ds ≡ list_all (fits (types.timestamp k m)) (each3 (combined d) ds ss us)
all-fit k p n m d [] ss us l o h e = refl
all-fit k p n m d (v ∷ ds) [] us l o h e = absurd (omega (arith, l))
all-fit k p n m d (v ∷ ds) (s ∷ ss) [] l o h e = absurd (omega (arith, o))
all-fit k p n m d (v ∷ ds) (s ∷ ss) (u ∷ us) l o h e =
    let a = and_parts (fits (types.primitive p n) v) (list_all (fits (types.primitive p n)) ds) h in
    let b = and_parts (canonical d v s u) (all_pass d ds ss us) e in
    λ i. one-fits k p n m d v s u a.0 b.0 i && all-fit k p n m d ds ss us (omega (arith, l)) (omega (arith, o)) a.1 b.1 i

module _ (k : PlainTimestamp) (n m : Nullability) (days seconds subseconds : Tree) (w : WellFormed (datetime_parts k n days seconds subseconds)) where
  -- the days are of the other nullability where the timestamps are
  pub days-fit : list_all (fits (types.primitive (integer_of (tree_type days)) m)) (rows days) ≡ list_all (fits (types.timestamp k m)) (rows (datetime_parts k n days seconds subseconds))
  days-fit =
      let own = w.3 in
      let e = units_per_second k.unit in
      let before : all_pass e (rows days) (rows seconds) (rows subseconds) ≡ true = sym (same-test e (rows days) (rows seconds) (rows subseconds) own.seconds_length own.subseconds_length) ∙ own.canonical in
      let fitting = ap (λ t. list_all (fits t) (rows days)) (sym own.days_type) ∙ rows_fit days w.0 in
      all-fit k (integer_of (tree_type days)) n m e (rows days) (rows seconds) (rows subseconds) own.seconds_length own.subseconds_length fitting before
      ∙ ap (list_all (fits (types.timestamp k m))) (sym (numbered (combined e) (rows days) (rows seconds) (rows subseconds) own.seconds_length own.subseconds_length))

  over_cast : (d : Tree) → column_of d ≡ column (types.primitive (integer_of (tree_type days)) m) (rows days)
      → Stands (column (types.timestamp k m) (rows (datetime_parts k n days seconds subseconds))) (datetime_parts_refusal k m d seconds subseconds) (datetime_parts k m d seconds subseconds)
  over_cast d ed =
      let own = w.3 in
      let e = units_per_second k.unit in
      let rows_d : rows d ≡ rows days = ap (λ c. c.values) ed in
      let typed : tree_type d ≡ types.primitive (integer_of (tree_type days)) m = ap (λ c. c.dtype) ed in
      let long : length (rows seconds) ≡ length (rows d) = own.seconds_length ∙ sym (ap length rows_d) in
      let longer : length (rows subseconds) ≡ length (rows d) = own.subseconds_length ∙ sym (ap length rows_d) in
      record {
        accepted = accepted-by _ _ _
            (and_from _ _ (same_refl stored_type _ _ (typed ∙ ap (λ t. types.primitive (integer_of t) m) (sym typed))) (and_from _ _ own.seconds_type own.subseconds_type))
            (and_from _ _ (eq-eqb _ _ long) (eq-eqb _ _ longer)) (ap (λ vs. are_canonical e vs (rows seconds) (rows subseconds)) rows_d ∙ own.canonical);
        column = ap (column (types.timestamp k m)) (
            numbered (combined e) (rows d) (rows seconds) (rows subseconds) long longer ∙ ap (λ vs. each3 (combined e) vs (rows seconds) (rows subseconds)) rows_d
            ∙ sym (numbered (combined e) (rows days) (rows seconds) (rows subseconds) own.seconds_length own.subseconds_length));
      }

  -- over copies of the other parts
  pub parts_cast : (d s u : Tree) → s ≡ seconds → u ≡ subseconds → column_of d ≡ column (types.primitive (integer_of (tree_type days)) m) (rows days)
      → Stands (column (types.timestamp k m) (rows (datetime_parts k n days seconds subseconds))) (datetime_parts_refusal k m d s u) (datetime_parts k m d s u)
  parts_cast d s u es eu ed = rw (es, eu) (over_cast d ed)

-- ---- what a cast answers

-- an answer is there only where nothing is refused
pub follows-ok : (r : Option VortexError) (c : Column) (out : Tree) → Follows (outcome r c) (λ t k. column_of t ≡ k) (Ok out) → (r ≡ None) × (column_of out ≡ c)
follows-ok None c out h = (refl, h)
follows-ok (Some e) c out h = absurd h

pub or-follows : (r : Option VortexError) (c : Column) (result : Result Tree VortexError) → r ≡ None → OrMemory result (λ out. column_of out ≡ c) → Follows (outcome r c) (λ t k. column_of t ≡ k) result
or-follows None c (Ok out) n h = h
or-follows None c (Err e) n h = h
or-follows (Some f) c result n h = absurd cc

-- an error, whatever was to be answered
pub follows-err : (r s : Option VortexError) (c d : Column) (e : VortexError) → r ≡ s → Follows (outcome r c) (λ t k. column_of t ≡ k) (Err e) → Follows (outcome s d) (λ t k. column_of t ≡ k) (Err e)
follows-err r s c d e same h = subst (λ x. Follows (outcome x d) (λ t k. column_of t ≡ k) (Err e)) same (by r h)
  where
    by : (x : Option VortexError) → Follows (outcome x c) (λ t k. column_of t ≡ k) (Err e) → Follows (outcome x d) (λ t k. column_of t ≡ k) (Err e)
    by None g = g
    by (Some f) g = g

-- days are refused exactly where the timestamps are
pub days-refused : (k : PlainTimestamp) (n m : Nullability) (days seconds subseconds : Tree) → WellFormed (datetime_parts k n days seconds subseconds)
    → cast_refusal (column_of days) (types.primitive (integer_of (tree_type days)) m) ≡ unless (list_all (fits (types.timestamp k m)) (rows (datetime_parts k n days seconds subseconds))) CastRefused None
days-refused k n m days seconds subseconds w =
    let to = types.primitive (integer_of (tree_type days)) m in
    let is : is_cast (tree_type days) to ≡ true = ap (λ t. is_cast t to) w.3.days_type in
    ap (λ b. unless b MismatchedTypes (unless (list_all (fits to) (rows days)) CastRefused None)) is ∙ ap (λ b. unless b CastRefused None) (days-fit k n m days seconds subseconds w)

-- a cast to a type of the same timestamps, by the nullability
pub recast : (k : PlainTimestamp) (n m : Nullability) (vs : List PlainValue) (t : PlainType) (result : Result Tree VortexError) → same_base (types.timestamp k n) t ≡ true → m ≡ nullability_of t
    → Follows (outcome (unless (list_all (fits (types.timestamp k m)) vs) CastRefused None) (column (types.timestamp k m) vs)) (λ out c. column_of out ≡ c) result
    → Follows (outcome (cast_refusal (column (types.timestamp k n) vs) t) (casted (column (types.timestamp k n) vs) t)) (λ out c. column_of out ≡ c) result
recast k n m vs t result h e f =
    let same : types.timestamp k m ≡ t = ap (types.timestamp k) e ∙ sym (same-stamp k n t h) in
    let refusal : unless (list_all (fits t) vs) CastRefused None ≡ cast_refusal (column (types.timestamp k n) vs) t = sym (ap (λ b. unless b MismatchedTypes (unless (list_all (fits t) vs) CastRefused None)) h) in
    subst (λ r. Follows (outcome r (column t vs)) (λ out c. column_of out ≡ c) result) refusal
    (subst (λ s. Follows (outcome (unless (list_all (fits s) vs) CastRefused None) (column s vs)) (λ out c. column_of out ≡ c) result) same f)

-- no other type is one of the same timestamps
pub other-type : (tree : Tree) (k : PlainTimestamp) (n : Nullability) (days seconds subseconds : Tree) (t : PlainType) → tree ≡ datetime_parts k n days seconds subseconds → same_base (tree_type tree) t ≡ false → is_cast (tree_type tree) t ≡ false
other-type tree k n days seconds subseconds t e h = ap (λ x. is_cast (tree_type x) t) e ∙ sym (ap (λ x. same_base (tree_type x) t) e) ∙ h
