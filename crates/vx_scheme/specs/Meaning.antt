-- What a scheme means, as plain data, so that the clauses above are over any schemes and name no scheme's type.
use Rattle.std.specs.Prelude.{ℕ, Bool, List, [], map}
use Rattle.vx_base.specs.PlainType.{PlainType}
use Rattle.vx_base.specs.declared.array_id.ArrayId.{ArrayId}
use Rattle.vx_model.specs.Column.{Column}
use Rattle.vx_model.specs.Plain.{plain}
use Rattle.vx_model.specs.Site.{Site}
use Rattle.vx_model.specs.Tree.{Tree}
use Rattle.vx_scheme.specs.Rules.{Rule}
use Rattle.vx_scheme.specs.declared.estimate.CompressionEstimate.{CompressionEstimate}
use Rattle.vx_scheme.specs.declared.estimate.EstimateVerdict.{EstimateVerdict}
use Rattle.vx_stats.specs.declared.options.GenerateStatsOptions.{GenerateStatsOptions}
use Rattle.vx_scheme.specs.declared.split.Split.{Split}
use Rattle.vx_scheme.specs.declared.split.Split.TheVariants as splits

-- how a scheme splits a column: not at all (the column stays plain), into a finished tree, or into parts to be compressed
pub data PlainSplit : Type 0 where
  kept : PlainSplit
  finished : Tree → PlainSplit
  parts : List Column → PlainSplit

-- the meaning of a scheme: its name, the types it takes, its rules, its estimate of a column at a site, how it splits the column, and the tree it joins from the trees of the parts
pub record Meaning : Type 0 where
  pub name : List ℕ
  pub takes : PlainType → Bool
  pub children : ℕ
  pub options : GenerateStatsOptions
  pub produces : ArrayId → Bool
  pub descendants : List Rule
  pub ancestors : List Rule
  pub estimate : Column → Site → CompressionEstimate
  pub resolve : Column → Site → EstimateVerdict
  pub splits : Column → Site → PlainSplit
  pub joined : Column → Site → List Tree → Tree

-- the split with its parts as plain trees
abbrev pub split_of : PlainSplit → Split
split_of kept = splits.Kept
split_of (finished tree) = splits.Finished tree
split_of (parts columns) = splits.Parts (map plain columns)

-- the parts of a split; none unless it made parts
abbrev pub parts_of : PlainSplit → List Column
parts_of kept = []
parts_of (finished tree) = []
parts_of (parts columns) = columns
