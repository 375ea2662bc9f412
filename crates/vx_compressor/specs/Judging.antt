-- What the two passes over the schemes of a site find: first the immediate verdicts, then the deferred ones.
use Rattle.std.specs.Prelude.{◌≡◌, ◌<◌, ◌≤◌, ℕ, true, List, [], ◌∷◌, map, length, Option, Some, None, option_map}
use Rattle.vx_base.specs.declared.fraction.Fraction.{Fraction}
use Rattle.vx_base.specs.PlainType.{is_flat}
use Rattle.vx_model.specs.Cascade.{Leaves}
use Rattle.vx_model.specs.Column.{Column, IsColumn}
use Rattle.vx_model.specs.Plain.{plain}
use Rattle.vx_model.specs.Site.{Site}
use Rattle.vx_scheme.specs.Asked.{most_rows}
use Rattle.vx_scheme.specs.Bundle.{Bundle}
use Rattle.vx_scheme.specs.Meaning.{Meaning}
use Rattle.vx_stats.specs.Options.{includes}
use Rattle.vx_scheme.specs.declared.estimate.CompressionEstimate.{CompressionEstimate}
use Rattle.vx_scheme.specs.declared.estimate.CompressionEstimate.TheVariants.{Verdict, Deferred}
use Rattle.vx_scheme.specs.declared.estimate.DeferredEstimate.{DeferredEstimate}
use Rattle.vx_stats.specs.declared.options.GenerateStatsOptions.{GenerateStatsOptions}
use Rattle.vx_compressor.specs.declared.choice.Score.{Score}
use Rattle.vx_compressor.specs.declared.choice.Score.TheVariants.{Always, Finite}
use Rattle.vx_compressor.specs.Cascade.{verdict_score, deferred_score}
use Rattle.vx_compressor.specs.Choice.{better}

-- a bundle holds the plain tree of a column whose values fit its type, and these options
pub record Holds (b : Bundle) (c : Column) (opts : GenerateStatsOptions) : Type 0 where
  pub column : IsColumn c
  pub array : b.array ≡ plain c
  pub options : b.options ≡ opts

-- a column that schemes may be asked about: of a leaf type or timestamps, its values fit the type, with 1 to `most_rows` rows
pub record IsAskable (c : Column) : Type 0 where
  pub column : IsColumn c
  pub flat : is_flat c.dtype ≡ true
  pub some : 0 < length c.values
  pub few : length c.values ≤ most_rows

-- a scheme that may be asked about the column: it takes the type, and its options are among these
pub record IsReady (c : Column) (opts : GenerateStatsOptions) (m : Meaning) : Type 0 where
  pub taken : m.takes c.dtype ≡ true
  pub included : includes opts m.options ≡ true

-- the scheme defers its verdict, to be found in this way
abbrev pub WasPutOff : Column → Site → Meaning → DeferredEstimate → Type 0
WasPutOff c site m how = m.estimate c site ≡ Deferred how

-- ---- the first pass

-- a scheme with its score in front of others, where its verdict is immediate
abbrev pub told_by : {A : Type 0} → A → CompressionEstimate → List (A × Option Score) → List (A × Option Score)
told_by x (Verdict v) rest = (x, verdict_score v) ∷ rest
told_by x (Deferred d) rest = rest

-- the schemes with an immediate verdict, and their scores
abbrev pub told : Column → Site → List Meaning → List (Meaning × Option Score)
told c site [] = []
told c site (m ∷ ms) = told_by m (m.estimate c site) (told c site ms)

-- a scheme in front of others, with how its verdict is found, where it defers
abbrev pub put_off_by : {A : Type 0} → A → CompressionEstimate → List (A × DeferredEstimate) → List (A × DeferredEstimate)
put_off_by x (Verdict v) rest = rest
put_off_by x (Deferred d) rest = (x, d) ∷ rest

-- the schemes that defer, each with how its verdict is found
abbrev pub put_off : Column → Site → List Meaning → List (Meaning × DeferredEstimate)
put_off c site [] = []
put_off c site (m ∷ ms) = put_off_by m (m.estimate c site) (put_off c site ms)

-- ---- the second pass

-- the scores of the deferred verdicts
abbrev pub found : Leaves → List ℕ → Column → Site → List (Meaning × DeferredEstimate) → List (Meaning × Option Score)
found child words c site ps = map (λ p. (p.0, deferred_score child words p.0 c site p.1)) ps

-- the ratio that a later scheme has to exceed; none where there is no best yet, or it is an always-use
abbrev pub threshold_of : {A : Type 0} → Option (A × Score) → Option Fraction
threshold_of (Some (x, Finite f)) = Some f
threshold_of (Some (x, Always)) = None
threshold_of None = None

-- given this best so far, what a scheme answers leaves the same best as its score would
abbrev pub DoesFor : {A : Type 0} → Option (A × Score) → A → Option Score → Option Score → Type 0
DoesFor best x score told = better best x told ≡ better best x score

-- ---- schemes by what they mean

-- a pair with a scheme, with the scheme's meaning in its place
abbrev pub meant_pair : {S A : Type 0} → (S → Meaning) → S × A → Meaning × A
meant_pair meaning p = (meaning p.0, p.1)

-- the best so far, with the scheme's meaning in its place
abbrev pub meant : {S : Type 0} → (S → Meaning) → Option (S × Score) → Option (Meaning × Score)
meant meaning best = option_map (meant_pair meaning) best
