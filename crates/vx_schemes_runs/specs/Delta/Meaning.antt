-- What the delta scheme means.
use Rattle.std.specs.Prelude.{◌≡◌, ◌≤◌, ℕ, ℤ, ◌+◌, ◌*◌, ◌==◌, nat_lt, ◌-ℤ◌, unsigned_abs, ◌||◌, false, if◌then◌else◌, List, [], ◌∷◌, length, fold, Option, None, Some, All, codes}
use Rattle.std.specs.Int.{int_min, int_max}
use Rattle.std.proofs.Common.{arith, subst, sym, ◌∙◌, zero-lt-suc}
use Rattle.vx_base.specs.declared.array_id.ArrayId.TheVariants.{Delta}
use Rattle.vx_base.specs.declared.fraction.Fraction.{Fraction}
use Rattle.vx_base.specs.Digits.{digits}
use Rattle.vx_base.specs.IdNumber.{same_id}
use Rattle.vx_base.specs.Integers.{bits_of}
use Rattle.vx_base.specs.Packed.{block_count}
use Rattle.vx_base.specs.PlainType.{is_integer, integer_of}
use Rattle.vx_model.specs.Column.{Column}
use Rattle.vx_model.specs.Tree.{Tree}
use Rattle.vx_scheme.specs.Lawful.{Lawful, IsPart}
use Rattle.vx_scheme.specs.Meaning.{Meaning, finished, parts}
use Rattle.vx_scheme.specs.Rules.{Rule}
use Rattle.vx_scheme.specs.Scores.{ratio_of}
use Rattle.vx_scheme.specs.declared.estimate.CompressionEstimate.TheVariants.{Verdict, Deferred}
use Rattle.vx_scheme.specs.declared.estimate.DeferredEstimate.TheVariants.{Callback}
use Rattle.vx_scheme.specs.declared.estimate.EstimateVerdict.{EstimateVerdict}
use Rattle.vx_scheme.specs.declared.estimate.EstimateVerdict.TheVariants.{Skip}
use Rattle.vx_scheme.specs.declared.selection.ChildSelection.TheVariants as selections
use Rattle.vx_schemes_common.specs.Exclusions.{not_in_codes}
use Rattle.vx_schemes_common.specs.Pairs.{pair_of}
use Rattle.vx_schemes_runs.specs.Delta.Laws.{delta-small, delta-joined}
use Rattle.vx_schemes_runs.specs.Delta.Tree.{differences_of, delta_bases, delta_differences, delta_or_plain}
use Rattle.vx_schemes_runs.specs.Thresholds.{above}
use Rattle.vx_schemes_runs.specs.declared.integer.delta.DeltaScheme.{DeltaScheme}

-- the greatest ratio that is skipped
abbrev pub least_ratio : DeltaScheme → Fraction
least_ratio s = s.min_ratio

-- the scheme that skips ratios up to 5/4
abbrev pub default_delta : DeltaScheme
default_delta = record { min_ratio = record { num = 5; den = 4; positive = zero-lt-suc 3 } }

-- no delta below a delta
abbrev pub not_twice : List Rule
not_twice = record { scheme = codes "vortex.int.delta"; children = selections.All } ∷ []

-- the greatest of some numbers less the least, 0 where there is none
abbrev pub spread : List ℤ → ℕ
spread [] = 0
spread (z ∷ zs) = unsigned_abs (fold int_max z zs -ℤ fold int_min z zs)

-- the spread; None where it is above the bound
abbrev pub spread_within : ℕ → List ℤ → Option ℕ
spread_within most zs = if nat_lt most (spread zs) then None else Some (spread zs)

-- the rows padded to whole blocks of 1,024
abbrev pub padded : ℕ → ℕ
padded len = 1024 * block_count len

-- 0.95 * bits(rows) / bits(padded differences), with width + 1 bits a difference: 5 % off for the prefix sums that decoding takes
abbrev pub delta_ratio : ℕ → ℕ → ℕ → EstimateVerdict
delta_ratio len bits width = ratio_of (95 * len * bits) (100 * padded len * (width + 1))

-- the ratio by the spread of the differences, where it is above the least; Skip where all differences are equal
abbrev pub delta_verdict : Fraction → ℕ → ℕ → ℕ → EstimateVerdict
delta_verdict least len bits span = if span == 0 then Skip else above (Some least) (delta_ratio len bits (digits span))

-- the verdict on a column
abbrev pub delta_resolved : Fraction → Column → EstimateVerdict
delta_resolved least c = delta_verdict least (length c.values) (bits_of (integer_of c.dtype)) (spread (differences_of c))

-- the bases are part 0, and the differences part 1; Skip at budget 0 and for a column shorter than a block, while the estimate of any other is deferred
abbrev pub delta_meaning : DeltaScheme → Meaning
delta_meaning s = record {
  name = codes "vortex.int.delta";
  takes = is_integer;
  children = 2;
  options = record { count_distinct_values = false };
  produces = λ id. same_id id Delta;
  descendants = not_twice;
  ancestors = not_in_codes;
  estimate = λ c site. if site.budget == 0 || nat_lt (length c.values) 1024 then Verdict Skip else Deferred Callback;
  resolve = λ c site. delta_resolved (least_ratio s) c;
  splits = λ c site. parts (delta_bases c ∷ delta_differences c ∷ []);
  joined = λ c site trees. delta_or_plain c (pair_of trees);
}

parts-are : (made columns : List Column) → parts made ≡ parts columns → made ≡ columns
parts-are made columns e = cc

pub unfinished : (made : List Column) (tree : Tree) → parts made ≡ finished tree → ⊥
unfinished made tree e = cc

pub delta_lawful : (s : DeltaScheme) → Lawful (delta_meaning s)
delta_lawful s = record {
  finished_well = λ c site tree asked e. absurd (unfinished (delta_bases c ∷ delta_differences c ∷ []) tree e);
  joined_well = λ c site columns trees asked e well fit. delta-joined c trees asked.taken asked.column well (fit ∙ sym (parts-are (delta_bases c ∷ delta_differences c ∷ []) columns e));
  few_parts = λ c site columns asked e. subst (λ cs. length cs ≤ 2) (parts-are (delta_bases c ∷ delta_differences c ∷ []) columns e) (omega arith);
  small_parts = λ c site columns asked e. subst (All (IsPart c)) (parts-are (delta_bases c ∷ delta_differences c ∷ []) columns e) (delta-small c asked.taken asked.column);
}
