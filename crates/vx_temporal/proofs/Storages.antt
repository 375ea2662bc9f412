-- Plain trees of timestamps and of integers, by what they store; and what a column is split into.
use Rattle.std.proofs.Common.{◌≡◌, ◌∙◌, ◌<ℤ◌, ℤ, pos, Bool, true, false, List, map, refl, sym, ap, subst, Option, Some, None, Result, Ok, Err, inl}
use Rattle.std.specs.Prelude.{IfOk, IsTrue, is_some, slice_get}
use Rattle.std.specs.List.{list_all}
use Rattle.vx_base.specs.Answers.{OrMemory, unless}
use Rattle.vx_base.specs.declared.dtype.Nullability.{Nullability}
use Rattle.vx_base.specs.declared.error.VortexError.{VortexError}
use Rattle.vx_base.specs.declared.error.VortexError.TheVariants.{DaysOutOfRange, MismatchedTypes}
use Rattle.vx_base.specs.declared.ptype.PType.{PType}
use Rattle.vx_base.specs.declared.ptype.PType.TheVariants.{I64}
use Rattle.vx_base.specs.declared.timestamp.TimeUnit.{TimeUnit}
use Rattle.vx_base.specs.PlainScalar.{fits}
use Rattle.vx_base.specs.PlainType.{PlainType, nullability_of}
use Rattle.vx_base.specs.PlainType as types
use Rattle.vx_base.specs.PlainValue.{PlainValue, whole_or_zero}
use Rattle.vx_base.specs.Timestamps.{divides}
use Rattle.vx_model.specs.Column.{Column, column_of}
use Rattle.vx_model.specs.Nodes.{children}
use Rattle.vx_model.specs.Plain.{IsPlain, plain, plain_of, validity}
use Rattle.vx_model.specs.Rows.{rows}
use Rattle.vx_model.specs.Tree.{Tree, Validity, primitive, timestamp}
use Rattle.vx_model.specs.TreeType.{tree_type}
use Rattle.vx_model.proofs.DecodeLemmas.{plain-integers}
use Rattle.vx_time.specs.PartsOf.{units_per_second}
use Rattle.vx_temporal.specs.Joined.{joined, parts_refusal}
use Rattle.vx_temporal.specs.Settled.{Settled}
use Rattle.vx_temporal.specs.Split.{day_fits, days_of, divisor_in, others_of, split_refusal, subseconds_tree, type_refusal, unit_in}
use Rattle.vx_temporal.specs.SplitRows.{days_refusal, has_day, second_in}
use Rattle.vx_temporal.proofs.PartColumns.{fits-stored, unit-positive, unit-small}
use Rattle.vx_temporal.proofs.SplitJoins.{split-accepted, split-joins}

-- ---- storage

-- the storage of plain timestamps
pub record IsStorage (t s : Tree) : Type 0 where
  pub own : IsPlain s
  pub integers : tree_type s ≡ types.primitive I64 (nullability_of (tree_type s))
  pub same : rows s ≡ rows t
  pub nulls : nullability_of (tree_type s) ≡ nullability_of (tree_type t)

module _ (t : Tree) (u : TimeUnit) (typed : unit_in (tree_type t) ≡ Some u) (own : IsPlain t) where
  pub storage-of : (s : Tree) → Some s ≡ slice_get (children t) 0 → IsStorage t s
  storage-of s child = by_type (tree_type t) refl typed own
    where
      by_type : (w : PlainType) → tree_type t ≡ w → unit_in w ≡ Some u → t ≡ plain_of w (rows t) → IsStorage t s
      by_type (types.timestamp k n) e f p =
          let stored : Tree = primitive I64 (map whole_or_zero (rows t)) (validity (rows t)) n in
          let root : t ≡ timestamp stored k = p in
          let some : Some s ≡ Some stored = child ∙ ap (λ x. slice_get (children x) 0) root in
          let is : s ≡ stored = cc in
          let same : rows stored ≡ rows t = sym (ap rows root) in
          record {
            own = is ∙ ap (λ vs. primitive I64 (map whole_or_zero vs) (validity vs) n) (sym same) ∙ sym (ap (λ x. plain (column_of x)) is);
            integers = subst (λ x. tree_type x ≡ types.primitive I64 (nullability_of (tree_type x))) (sym is) refl;
            same = ap rows is ∙ same;
            nulls = ap (λ x. nullability_of (tree_type x)) is ∙ sym (ap nullability_of e);
          }
      by_type w e f p = absurd cc

-- what a plain tree of integers stores
pub stored : (t : Tree) (p q : PType) (m n : Nullability) (xs : List ℤ) (valid : Validity) → tree_type t ≡ types.primitive p n → IsPlain t → primitive q xs valid m ≡ t → (q ≡ p) × (xs ≡ map whole_or_zero (rows t)) × (valid ≡ validity (rows t))
stored t p q m n xs valid typed own is =
    let same : primitive q xs valid m ≡ primitive p (map whole_or_zero (rows t)) (validity (rows t)) n = is ∙ own ∙ plain-integers t p n typed in
    (cc, cc, cc)

-- ---- types of timestamps

pub stamps-divisor : (t : PlainType) (u : TimeUnit) → unit_in t ≡ Some u → units_per_second u ≡ divisor_in t
stamps-divisor (types.timestamp k n) u e = let same : k.unit ≡ u = cc in ap units_per_second (sym same)
stamps-divisor t u e = absurd cc

-- of a column of timestamps the days alone are left to test, as the kernel tests them
pub type-passed : (c : Column) (u : TimeUnit) → unit_in c.dtype ≡ Some u → type_refusal c.dtype ≡ None
type-passed c u e = ap (λ o. unless (is_some o) MismatchedTypes None) e

pub days-left : (c : Column) (u : TimeUnit) → unit_in c.dtype ≡ Some u → IsTrue (divides u) → split_refusal c ≡ days_refusal (units_per_second u) (map whole_or_zero c.values)
days-left c u e h =
    let d = sym (stamps-divisor c.dtype u e) in
    (λ i. unless (is_some (e i)) MismatchedTypes (unless (list_all (day_fits (d i)) c.values) DaysOutOfRange None))
    ∙ sym (ap (λ b. unless b DaysOutOfRange None) (fits-stored (units_per_second u) (unit-positive u h) c.values))

pub type-refused : (c : Column) → unit_in c.dtype ≡ None → type_refusal c.dtype ≡ Some MismatchedTypes
type-refused c e = ap (λ o. unless (is_some o) MismatchedTypes None) e

-- ---- answers

-- a test that passed
pub passed-test : (b : Bool) (e : VortexError) → unless b e None ≡ None → b ≡ true
passed-test true e h = refl
passed-test false e h = absurd cc

-- what is made once nothing is refused any more
pub settled-of : {A : Type 0} (later : Option VortexError) (P : A → Type 0) (r : Result A VortexError) → later ≡ None → OrMemory r P → Settled None later P r
settled-of later P (Ok a) none h = (none, h)
settled-of later P (Err e) none h = inl h

-- what holds of each answer that is Ok
pub of-ok : {A : Type 0} (later : Option VortexError) (P Q : A → Type 0) (r : Result A VortexError) → Settled None later P r → ((a : A) → later ≡ None → P a → Q a) → IfOk r Q
of-ok later P Q (Ok a) h f = f a h.0 h.1
of-ok later P Q (Err e) h f = tt

-- ---- the parts of a column are accepted, and join to it

pub split-kept : (t : PlainType) (u : TimeUnit) (vs : List PlainValue) (days seconds subseconds : Tree) → unit_in t ≡ Some u → IsTrue (divides u) → list_all (fits t) vs ≡ true → list_all (has_day (units_per_second u)) (map whole_or_zero vs) ≡ true
    → days ≡ plain (days_of (units_per_second u) (nullability_of t) vs) → seconds ≡ plain (others_of (second_in (units_per_second u)) vs) → subseconds ≡ subseconds_tree (units_per_second u) vs
    → (parts_refusal t days seconds subseconds ≡ None) × (joined (divisor_in t) days seconds subseconds ≡ vs)
split-kept (types.timestamp k n) u vs days seconds subseconds e h fit held a b c =
    let same : u ≡ k.unit = cc in
    let some : pos 0 <ℤ units_per_second k.unit = subst (λ w. pos 0 <ℤ units_per_second w) same (unit-positive u h) in
    let own = sym (fits-stored (units_per_second u) (unit-positive u h) vs) ∙ held in
    let test = subst (λ w. list_all (day_fits (units_per_second w)) vs ≡ true) same own in
    let first = a ∙ ap (λ w. plain (days_of (units_per_second w) n vs)) same in
    let second = b ∙ ap (λ w. plain (others_of (second_in (units_per_second w)) vs)) same in
    let third = c ∙ ap (λ w. subseconds_tree (units_per_second w) vs) same in (
      split-accepted k n some (unit-small k.unit) vs fit test days seconds subseconds first second third,
      split-joins k n some (unit-small k.unit) vs fit test days seconds subseconds first second third,
    )
split-kept t u vs days seconds subseconds e h fit held a b c = absurd cc
