-- Every site of which the tree of a column may come is bounded.
use Rattle.std.proofs.Common.{◌≡◌, ◌<◌, ℕ, Bool, true, false, cond, not, ◌||◌, List, [], ◌∷◌, ◌++◌, map, filter, All, refl, sym, ◌∙◌, ap, subst, arith, length-append}
use Rattle.std.specs.Prelude.{Contains, slice_index_or}
use Rattle.std.specs.List.{AllByRecursion, list_any}
use Rattle.std.proofs.lemmas.Bool.{and_parts, and_from}
use Rattle.std.proofs.lemmas.List.{map-append}
use Rattle.std.proofs.lemmas.List.Elements.{All-from_recursion}
use Rattle.std.proofs.lemmas.List.Folds.{list_any-append}
use Rattle.vx_base.specs.PlainType.{PlainType}
use Rattle.vx_model.specs.Cascade.{beginnings}
use Rattle.vx_model.specs.Column.{Column, IsColumn}
use Rattle.vx_model.specs.Site.{Site, down}
use Rattle.vx_model.proofs.BeginningLemmas.{beginnings-all}
use Rattle.vx_scheme.specs.Asked.{IsAsked}
use Rattle.vx_scheme.specs.Excluded.{History, excluded}
use Rattle.vx_scheme.specs.Lawful.{Lawful, IsPart}
use Rattle.vx_scheme.specs.Meaning.{Meaning}
use Rattle.vx_scheme.specs.Names.{same_name}
use Rattle.vx_compressor.specs.Cascade.{Setting, is_eligible, eligible}
use Rattle.vx_compressor.specs.CascadeLaws.{IsLawful, IsWithin}
use Rattle.vx_compressor.specs.Distinct.{are_distinct}
use Rattle.vx_compressor.specs.Reached.{IsReached, begun, by_sample, by_part, IsBounded, SitesAreBounded}
use Rattle.vx_compressor.proofs.EligibleLemmas.{all_both, all_filter}
use Rattle.vx_compressor.proofs.SampleSizes.{sample-column, sample-fewer}

-- ---- one more name

-- a name that none of these is stands behind them
distinct-last : (names : List (List ℕ)) (name : List ℕ) → are_distinct names ≡ true → list_any (λ n. same_name n name) names ≡ false → are_distinct (names ++ name ∷ []) ≡ true
distinct-last [] name own other = refl
distinct-last (n ∷ ns) name own other =
    let both = and_parts (not (list_any (same_name n) ns)) (are_distinct ns) own in
    let apart = neither (same_name n name) (list_any (λ n. same_name n name) ns) other in
    and_from _ _ (ap not (list_any-append (same_name n) ns (name ∷ [])) ∙ none (list_any (same_name n) ns) (same_name n name) both.0 apart.0) (distinct-last ns name both.1 apart.1)
  where
    neither : (a b : Bool) → (a || b) ≡ false → (a ≡ false) × (b ≡ false)
    neither true b e = absurd cc
    neither false b e = (refl, e)

    none : (a b : Bool) → not a ≡ true → b ≡ false → not (a || (b || false)) ≡ true
    none true b e f = absurd cc
    none false true e f = absurd cc
    none false false e f = refl

any-names : (history : History) (name : List ℕ) → list_any (λ e. same_name e.0 name) history ≡ list_any (λ n. same_name n name) (map (λ e. e.0) history)
any-names [] name = refl
any-names (e ∷ es) name = ap (λ b. same_name e.0 name || b) (any-names es name)

-- ---- a scheme that may stand at a site

record MayStand (t : PlainType) (history : History) (m : Meaning) : Type 0 where
  lawful : Lawful m
  taken : m.takes t ≡ true
  new : list_any (λ e. same_name e.0 m.name) history ≡ false

all_kept : {X : Type 0} (p : X → Bool) (xs : List X) → AllByRecursion (λ x. p x ≡ true) (filter p xs)
all_kept p [] = tt
all_kept p (x ∷ xs) = of_test (p x) refl (all_kept p xs)
  where
    of_test : (b : Bool) → p x ≡ b → AllByRecursion (λ x. p x ≡ true) (filter p xs) → AllByRecursion (λ x. p x ≡ true) (cond b (x ∷ filter p xs) (filter p xs))
    of_test true e rest = (e, rest)
    of_test false e rest = rest

may_stand : (schemes : List Meaning) (t : PlainType) (history : History) (m : Meaning) → Lawful m → is_eligible schemes t history m ≡ true → MayStand t history m
may_stand schemes t history m lawful e =
    let both = and_parts (m.takes t) (not (excluded schemes m.name history)) e in
    record { lawful = lawful; taken = both.0; new = first (list_any (λ e. same_name e.0 m.name) history) _ _ _ both.1 }
  where
    first : (a b c d : Bool) → not (a || b || c || d) ≡ true → a ≡ false
    first true b c d h = absurd cc
    first false b c d h = refl

all_may_stand : (schemes : List Meaning) (t : PlainType) (history : History) → AllByRecursion Lawful schemes → All (MayStand t history) (eligible schemes t history)
all_may_stand schemes t history lawful =
    All-from_recursion (MayStand t history) (eligible schemes t history)
    (all_both Lawful (λ m. is_eligible schemes t history m ≡ true) (MayStand t history) (may_stand schemes t history) (eligible schemes t history)
    (all_filter Lawful (is_eligible schemes t history) schemes lawful) (all_kept (is_eligible schemes t history) schemes))

one_of : {X : Type 0} (P : X → Type 0) (xs : List X) (x : X) → All P xs → Contains xs x → P x
one_of P xs x all has = subst P has.2 (all has.0 x has.1)

-- ---- by what reaches a site

record IsSound (d : Column) (site : Site) : Type 0 where
  column : IsColumn d
  bounded : IsBounded d site

of_part : (m : Meaning) (d part : Column) (site : Site) (number : ℕ) → MayStand d.dtype site.history m → IsBounded d site → 0 < site.budget → IsPart d part → IsSound part (down site m.name number)
of_part m d part site number may bounded some is =
    let rows = bounded.rows in
    let levels = bounded.levels in
    let more = is.rows in
    record {
      column = is.column;
      bounded = record {
        rows = omega (arith, rows, levels, more, some);
        names =
            ap are_distinct (map-append (λ e. e.0) site.history ((m.name, number) ∷ []))
            ∙ distinct-last (map (λ e. e.0) site.history) m.name bounded.names (sym (any-names site.history m.name) ∙ may.new);
        levels = omega (arith, length-append site.history ((m.name, number) ∷ []), levels, some);
      };
    }

module _ (set : Setting) (lawful : IsLawful set) (c : Column) (within : IsWithin c) where
  -- where columns begin, at most the root stands above
  begin_sound : All (λ b. IsSound b.0 b.1) (beginnings c.dtype c.values)
  begin_sound =
      All-from_recursion (λ b. IsSound b.0 b.1) (beginnings c.dtype c.values)
      (beginnings-all (λ b. IsSound b.0 b.1)
      (λ d flat fit few. record { column = fit; bounded = record { rows = omega (arith, few); names = refl; levels = refl } })
      (λ d integers fit few. record { column = fit; bounded = record { rows = omega (arith, few); names = refl; levels = refl } })
      c within.column within.counts_fit)

  sound : (d : Column) (site : Site) → IsReached set c d site → IsSound d site
  sound d site (begun e at one) = one_of (λ b. IsSound b.0 b.1) (beginnings c.dtype c.values) (e, at) begin_sound one
  sound d site (by_sample e at reached) =
      let own = sound e at reached in
      let fewer = sample-fewer at.sampled set.words e in
      let rows = own.bounded.rows in
      record { column = sample-column at.sampled set.words e own.column; bounded = record { rows = omega (arith, fewer, rows); names = own.bounded.names; levels = own.bounded.levels } }
  sound d site (by_part e at m columns number reached rows some stands made one) =
      let own = sound e at reached in
      let may = one_of (MayStand e.dtype at.history) (eligible set.schemes e.dtype at.history) m (all_may_stand set.schemes e.dtype at.history lawful) stands in
      let most = own.bounded.rows in
      let levels = own.bounded.levels in
      let asked : IsAsked m e = record { column = own.column; taken = may.taken; some = rows; few = omega (arith, most, levels) } in
      of_part m e (slice_index_or columns number e) at number may own.bounded some (may.lawful.small_parts e at columns asked made number e one)

pub sites_are_bounded : (set : Setting) → IsLawful set → SitesAreBounded set
sites_are_bounded set lawful c within d site reached = (sound set lawful c within d site reached).bounded
