-- A scheme that finishes its trees is lawful where they stand for their columns.
use Rattle.std.proofs.Common.{◌≡◌, ap, arith, sym, ◌∙◌, List, Option, None, Some}
use Rattle.vx_model.specs.Column.{Column}
use Rattle.vx_model.specs.Site.{Site}
use Rattle.vx_model.specs.Tree.{Tree}
use Rattle.vx_scheme.specs.Lawful.{Lawful}
use Rattle.vx_scheme.specs.Meaning.{Meaning, finished, parts}
use Rattle.vx_schemes_common.specs.Finishing.{finished_or_kept}
use Rattle.vx_schemes_common.specs.StandsFor.{AllStandFor}

is_made : (made : Option Tree) (tree : Tree) → finished_or_kept made ≡ finished tree → made ≡ Some tree
is_made None tree e = absurd cc
is_made (Some made) tree e = let same : made ≡ tree = cc in ap Some same

no_parts : (made : Option Tree) (columns : List Column) → finished_or_kept made ≡ parts columns → ⊥
no_parts None columns e = cc
no_parts (Some made) columns e = cc

pub finishing-lawful : (m : Meaning) (made : Column → Option Tree) → ((c : Column) (site : Site) → m.splits c site ≡ finished_or_kept (made c)) → AllStandFor m.takes made → Lawful m
finishing-lawful m made splits keeps = record {
  finished_well = λ c site tree asked e. keeps c tree asked.taken asked.column (omega (arith, asked.few)) (is_made (made c) tree (sym (splits c site) ∙ e));
  joined_well = λ c site columns trees asked e well fit. absurd (no_parts (made c) columns (sym (splits c site) ∙ e));
  few_parts = λ c site columns asked e. absurd (no_parts (made c) columns (sym (splits c site) ∙ e));
  small_parts = λ c site columns asked e. absurd (no_parts (made c) columns (sym (splits c site) ∙ e));
}
