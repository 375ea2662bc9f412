-- The meaning of the scheme that takes no type.
use Rattle.std.specs.Prelude.{◌≡◌, true, false, [], codes}
use Rattle.vx_model.specs.Plain.{plain}
use Rattle.vx_scheme.specs.Lawful.{Lawful}
use Rattle.vx_scheme.specs.Meaning.{Meaning, kept}
use Rattle.vx_scheme.specs.declared.estimate.CompressionEstimate.TheVariants.{Verdict}
use Rattle.vx_scheme.specs.declared.estimate.EstimateVerdict.TheVariants.{Skip}
use Rattle.vx_scheme.specs.declared.no_scheme.NoScheme.{NoScheme}

-- takes no type, makes no node, has no rule
abbrev pub no_meaning : NoScheme → Meaning
no_meaning s = record {
  name = codes "vortex.none";
  takes = λ dtype. false;
  children = 0;
  options = record { count_distinct_values = false };
  produces = λ id. false;
  descendants = [];
  ancestors = [];
  estimate = λ c site. Verdict Skip;
  resolve = λ c site. Skip;
  splits = λ c site. kept;
  joined = λ c site trees. plain c;
}

-- lawful, since it takes no column
pub no_lawful : (s : NoScheme) → Lawful (no_meaning s)
no_lawful s = record {
  finished_well = λ c site tree asked e. absurd (never asked.taken);
  joined_well = λ c site columns trees asked e well fit. absurd (never asked.taken);
  few_parts = λ c site columns asked e. absurd (never asked.taken);
  small_parts = λ c site columns asked e. absurd (never asked.taken);
}
  where
    never : false ≡ true → ⊥
    never e = cc
