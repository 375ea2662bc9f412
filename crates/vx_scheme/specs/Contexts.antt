-- What a context stands for: a site of the cascade, and options.
use Rattle.std.specs.Prelude.{ℕ, true, List, map, take}
use Rattle.vx_model.specs.Site.{Site}
use Rattle.vx_scheme.specs.Names.{name_of}
use Rattle.vx_scheme.specs.declared.scheme_id.SchemeId.{SchemeId}
use Rattle.vx_stats.specs.declared.options.GenerateStatsOptions.{GenerateStatsOptions}
use Rattle.vx_scheme.specs.declared.context.CompressorContext.{CompressorContext}

-- a history with names in place of ids
abbrev pub entries_of : List (SchemeId × ℕ) → List (List ℕ × ℕ)
entries_of entries = map (λ e. (name_of e.0, e.1)) entries

-- the site of a context: the history has the first `depth` entries
abbrev pub site_of : CompressorContext → Site
site_of c = record { budget = c.budget; sampled = c.sampled; history = entries_of (take c.depth c.history) }

-- the statistics that the schemes of the site request together
abbrev pub options_of : CompressorContext → GenerateStatsOptions
options_of c = c.options

-- a site with budget 0, where no scheme may follow
abbrev pub leaf_site : Site → Site
leaf_site site = record site { budget = 0 }

-- a site for a sample of its column
abbrev pub sample_site : Site → Site
sample_site site = record site { sampled = true }
