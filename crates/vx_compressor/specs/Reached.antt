-- The sites that a column comes to while it is compressed, and their bounds.
use Rattle.std.specs.Prelude.{◌≡◌, ◌<◌, ◌≤◌, ℕ, ◌+◌, true, List, length, map, Contains, slice_index_or}
use Rattle.vx_model.specs.Cascade.{beginnings}
use Rattle.vx_model.specs.Column.{Column}
use Rattle.vx_model.specs.Site.{Site, down, max_cascade}
use Rattle.vx_scheme.specs.Contexts.{sample_site}
use Rattle.vx_scheme.specs.Meaning.{Meaning, parts}
use Rattle.vx_compressor.specs.Cascade.{Setting, eligible}
use Rattle.vx_compressor.specs.CascadeLaws.{IsWithin}
use Rattle.vx_compressor.specs.Distinct.{are_distinct}
use Rattle.vx_compressor.specs.Reach.{most_site_rows}
use Rattle.vx_compressor.specs.Sampling.{sample}

-- Each leaf column within the column, where it begins; a sample, at the site of the column that it is taken of; and, while budget is
-- left, each part that an eligible scheme makes of a column with rows.
pub data IsReached (set : Setting) (c : Column) : Column → Site → Type 0 where
  begun : (d : Column) (site : Site) → Contains (beginnings c.dtype c.values) (d, site) → IsReached set c d site
  by_sample : (d : Column) (site : Site) → IsReached set c d site → IsReached set c (sample site.sampled set.words d) (sample_site site)
  by_part : (d : Column) (site : Site) (m : Meaning) (columns : List Column) (number : ℕ) → IsReached set c d site → 0 < length d.values → 0 < site.budget
      → Contains (eligible set.schemes d.dtype site.history) m → m.splits d site ≡ parts columns → number < length columns
      → IsReached set c (slice_index_or columns number d) (down site m.name number)

-- the column is within its site's row limit, no scheme stands above it twice, and each scheme above took one of the budget
pub record IsBounded (d : Column) (site : Site) : Type 0 where
  pub rows : length d.values ≤ most_site_rows site.budget
  pub names : are_distinct (map (λ e. e.0) site.history) ≡ true
  pub levels : length site.history + site.budget ≡ max_cascade

-- every site that a column within the row limit comes to is bounded so
abbrev pub SitesAreBounded : Setting → Type 0
SitesAreBounded set = (c : Column) → IsWithin c → (d : Column) (site : Site) → IsReached set c d site → IsBounded d site
