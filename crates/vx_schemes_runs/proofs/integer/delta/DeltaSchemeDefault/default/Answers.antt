use Rattle.std.proofs.Common.{◌∙◌, ap}
use Rattle.vx_base.specs.declared.fraction.Fraction.{Fraction}
use Rattle.vx_scheme.proofs.RatioLemmas.{same_parts}
use Rattle.vx_schemes_runs.specs.Delta.Meaning.{least_ratio, default_delta}
use Rattle.vx_schemes_runs.specs.declared.integer.delta.DeltaScheme.{DeltaScheme}
use Rattle.vx_schemes_runs.proofs.integer.delta.DeltaSchemeDefault.default.Goals as goal

-- the scheme of a least ratio
abbrev over : Fraction → DeltaScheme
over x = record { min_ratio = x }

pub returns : goal.returns
returns c = ap over (c.new-2.ensures.least ∙ same_parts c.new.result (least_ratio default_delta) c.new.ensures.num c.new.ensures.den)
