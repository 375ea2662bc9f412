-- Parts of which the days are masked: the node's constructor accepts them, and its rows are masked.
use Rattle.std.proofs.Common.{◌≡◌, ◌∙◌, ℤ, Bool, true, false, List, [], ◌∷◌, length, refl, sym, ap, arith}
use Rattle.std.proofs.lemmas.Bool.{and_parts, and_from, eq-eqb}
use Rattle.vx_base.specs.declared.dtype.Nullability.{Nullability}
use Rattle.vx_base.specs.declared.dtype.Nullability.TheVariants.{Nullable}
use Rattle.vx_base.specs.PlainType.{integer_of, stored_type, with_nullability}
use Rattle.vx_base.specs.PlainType as types
use Rattle.vx_base.specs.PlainValue.{PlainValue, null}
use Rattle.vx_base.specs.Storable.{same_refl}
use Rattle.vx_base.specs.Timestamps.{PlainTimestamp}
use Rattle.vx_model.specs.Column.{column, column_of}
use Rattle.vx_model.specs.Refusals.{datetime_parts_refusal}
use Rattle.vx_model.specs.Rows.{rows, masked_rows}
use Rattle.vx_model.specs.Tree.{Tree, datetime_parts}
use Rattle.vx_model.specs.TreeType.{tree_type}
use Rattle.vx_model.specs.WellFormed.{WellFormed, are_canonical}
use Rattle.vx_model.proofs.RowLemmas.{length-masked_rows}
use Rattle.vx_rules.specs.Selections.{masked}
use Rattle.vx_time.specs.PartsOf.{units_per_second}
use Rattle.vx_selections.proofs.Leaves.{Stands}
use Rattle.vx_datetime.proofs.ChosenParts.{accepted-by, all_pass, canonical, combined, same-test}
use Rattle.vx_datetime.proofs.EachPart.{each3, numbered}

-- of f that is null where the first is
masked-each3 : (f : PlainValue → PlainValue → PlainValue → PlainValue) → ((s u : PlainValue) → f null s u ≡ null) → (keep : List Bool) (ds ss us : List PlainValue) → length ss ≡ length ds → length us ≡ length ds
    → masked_rows keep (each3 f ds ss us) ≡ each3 f (masked_rows keep ds) ss us
masked-each3 f h [] ds ss us l m = refl
masked-each3 f h (b ∷ keep) [] ss us l m = refl
masked-each3 f h (b ∷ keep) (d ∷ ds) [] us l m = absurd (omega (arith, l))
masked-each3 f h (b ∷ keep) (d ∷ ds) (s ∷ ss) [] l m = absurd (omega (arith, m))
masked-each3 f h (true ∷ keep) (d ∷ ds) (s ∷ ss) (u ∷ us) l m = ap (λ xs. f d s u ∷ xs) (masked-each3 f h keep ds ss us (omega (arith, l)) (omega (arith, m)))
masked-each3 f h (false ∷ keep) (d ∷ ds) (s ∷ ss) (u ∷ us) l m = λ i. sym (h s u) i ∷ masked-each3 f h keep ds ss us (omega (arith, l)) (omega (arith, m)) i

-- a null day has no parts to be canonical
masked-pass : (e : ℤ) (keep : List Bool) (ds ss us : List PlainValue) → length ss ≡ length ds → length us ≡ length ds → all_pass e ds ss us ≡ true → all_pass e (masked_rows keep ds) ss us ≡ true
masked-pass e [] ds ss us l m h = refl
masked-pass e (b ∷ keep) [] ss us l m h = refl
masked-pass e (b ∷ keep) (d ∷ ds) [] us l m h = absurd (omega (arith, l))
masked-pass e (b ∷ keep) (d ∷ ds) (s ∷ ss) [] l m h = absurd (omega (arith, m))
masked-pass e (true ∷ keep) (d ∷ ds) (s ∷ ss) (u ∷ us) l m h =
    let a = and_parts (canonical e d s u) (all_pass e ds ss us) h in
    and_from _ _ a.0 (masked-pass e keep ds ss us (omega (arith, l)) (omega (arith, m)) a.1)
masked-pass e (false ∷ keep) (d ∷ ds) (s ∷ ss) (u ∷ us) l m h =
    masked-pass e keep ds ss us (omega (arith, l)) (omega (arith, m)) (and_parts (canonical e d s u) (all_pass e ds ss us) h).1

module _ (k : PlainTimestamp) (n : Nullability) (days seconds subseconds : Tree) (w : WellFormed (datetime_parts k n days seconds subseconds)) (keep : List Bool) (bits : length keep ≡ length (rows days)) where
  over_masked : (d : Tree) → column_of d ≡ masked (column_of days) keep
      → Stands (masked (column_of (datetime_parts k n days seconds subseconds)) keep) (datetime_parts_refusal k Nullable d seconds subseconds) (datetime_parts k Nullable d seconds subseconds)
  over_masked d ed =
      let own = w.3 in
      let e = units_per_second k.unit in
      let rows_d : rows d ≡ masked_rows keep (rows days) = ap (λ c. c.values) ed in
      let type_d : tree_type d ≡ with_nullability (tree_type days) Nullable = ap (λ c. c.dtype) ed in
      let typed : tree_type d ≡ types.primitive (integer_of (tree_type days)) Nullable = type_d ∙ ap (λ t. with_nullability t Nullable) own.days_type in
      let long : length (rows d) ≡ length (rows days) = ap length rows_d ∙ length-masked_rows keep (rows days) bits in
      let seconds_long : length (rows seconds) ≡ length (rows d) = own.seconds_length ∙ sym long in
      let subseconds_long : length (rows subseconds) ≡ length (rows d) = own.subseconds_length ∙ sym long in
      let before : all_pass e (rows days) (rows seconds) (rows subseconds) ≡ true = sym (same-test e (rows days) (rows seconds) (rows subseconds) own.seconds_length own.subseconds_length) ∙ own.canonical in
      let tests : are_canonical e (rows d) (rows seconds) (rows subseconds) ≡ true =
      same-test e (rows d) (rows seconds) (rows subseconds) seconds_long subseconds_long ∙ ap (λ xs. all_pass e xs (rows seconds) (rows subseconds)) rows_d
      ∙ masked-pass e keep (rows days) (rows seconds) (rows subseconds) own.seconds_length own.subseconds_length before in
      record {
        accepted = accepted-by _ _ _
            (and_from _ _ (same_refl stored_type _ _ (typed ∙ ap (λ t. types.primitive (integer_of t) Nullable) (sym typed))) (and_from _ _ own.seconds_type own.subseconds_type))
            (and_from _ _ (eq-eqb _ _ seconds_long) (eq-eqb _ _ subseconds_long)) tests;
        column = ap (column (types.timestamp k Nullable)) (
            numbered (combined e) (rows d) (rows seconds) (rows subseconds) seconds_long subseconds_long
            ∙ ap (λ xs. each3 (combined e) xs (rows seconds) (rows subseconds)) rows_d
            ∙ sym (masked-each3 (combined e) (λ s u. refl) keep (rows days) (rows seconds) (rows subseconds) own.seconds_length own.subseconds_length)
            ∙ sym (ap (masked_rows keep) (numbered (combined e) (rows days) (rows seconds) (rows subseconds) own.seconds_length own.subseconds_length)));
      }

  -- over copies of the other parts
  pub parts_masked : (d s u : Tree) → s ≡ seconds → u ≡ subseconds → column_of d ≡ masked (column_of days) keep
      → Stands (masked (column_of (datetime_parts k n days seconds subseconds)) keep) (datetime_parts_refusal k Nullable d s u) (datetime_parts k Nullable d s u)
  parts_masked d s u es eu ed = rw (es, eu) (over_masked d ed)
