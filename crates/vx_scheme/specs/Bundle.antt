-- A plain array with its cached statistics, as contracts see it.
use Rattle.std.specs.Prelude.{◌≡◌, Bool, true, false, Option, None, Result, refl}
use Rattle.std.specs.Coded.{Coded, code_by, coded×, coded_bool}
use Rattle.vx_base.specs.Answers.{Decided, SurelyDecided}
use Rattle.vx_base.specs.declared.error.VortexError.{VortexError}
use Rattle.vx_model.specs.Tree.{Tree}
use Rattle.vx_model.specs.TreeCode.{tree_code}
use Rattle.vx_stats.specs.declared.options.GenerateStatsOptions.{GenerateStatsOptions}

-- a plain array, the options of its statistics, and which statistics are kept
pub record Bundle : Type 0 where
  pub array : Tree
  pub options : GenerateStatsOptions
  pub summary_kept : Bool
  pub integers_kept : Bool
  pub bools_kept : Bool
  pub strings_kept : Bool

-- a bundle is coded by its fields
abbrev pub bundle_code : Coded Bundle
bundle_code =
    code_by ((Tree × Bool) × ((Bool × Bool) × (Bool × Bool))) (coded× (coded× tree_code coded_bool) (coded× (coded× coded_bool coded_bool) (coded× coded_bool coded_bool)))
    (λ b. ((b.array, b.options.count_distinct_values), ((b.summary_kept, b.integers_kept), (b.bools_kept, b.strings_kept))))
    (λ p. record { array = p.0.0; options = record { count_distinct_values = p.0.1 }; summary_kept = p.1.0.0; integers_kept = p.1.0.1; bools_kept = p.1.1.0; strings_kept = p.1.1.1 })
    (λ _. refl)

-- the array and the options are unchanged; more statistics may be kept
pub record SameArray (old new : Bundle) : Type 0 where
  pub array : new.array ≡ old.array
  pub options : new.options ≡ old.options

-- what was kept stays kept
pub record StaysKept (old new : Bundle) : Type 0 where
  pub summary : old.summary_kept ≡ true → new.summary_kept ≡ true
  pub integers : old.integers_kept ≡ true → new.integers_kept ≡ true
  pub bools : old.bools_kept ≡ true → new.bools_kept ≡ true
  pub strings : old.strings_kept ≡ true → new.strings_kept ≡ true

-- a kept statistic is returned without fail; one that is not yet kept may be refused, or run out of memory
abbrev pub KeptOrDecided : {A : Type 0} → Bool → Option VortexError → (A → Type 0) → Result A VortexError → Type 0
KeptOrDecided true refusal P result = SurelyDecided None P result
KeptOrDecided false refusal P result = Decided refusal P result
