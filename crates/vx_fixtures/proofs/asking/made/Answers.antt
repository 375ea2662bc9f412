-- The parts are the plain trees of the columns that the scheme means.
use Rattle.std.proofs.Common.{◌≡◌, List, ◌∙◌, sym, subst}
use Rattle.vx_model.specs.Column.{column_of}
use Rattle.vx_model.specs.Site.{Site}
use Rattle.vx_model.specs.Tree.{Tree}
use Rattle.vx_model.specs.WellFormed.{WellFormed}
use Rattle.vx_model.proofs.MadeLemmas.{rows_fit}
use Rattle.vx_scheme.specs.Asked.{IsAsked, FitParts}
use Rattle.vx_scheme.specs.Contexts.{site_of}
use Rattle.vx_scheme.specs.Lawful.{Lawful}
use Rattle.vx_scheme.specs.Meaning.{Meaning, split_of}
use Rattle.vx_scheme.specs.declared.split.Split.{Split}
use Rattle.vx_scheme.specs.declared.split.Split.TheVariants.{Parts}
use Rattle.vx_scheme.proofs.PartLemmas.{parts_fit}
use Rattle.vx_fixtures.proofs.asking.made.Goals as goal

-- of the parts of an array's column, where the array is the one that was split
held_fit : (m : Meaning) → Lawful m → (site : Site) (trees : List Tree) (answer : Split) (old new : Tree) → IsAsked m (column_of old) → answer ≡ Parts trees → answer ≡ split_of (m.splits (column_of old) site) → new ≡ old
    → FitParts (m.splits (column_of new) site) trees
held_fit m lawful site trees answer old new asked is made same = subst (λ array. FitParts (m.splits (column_of array) site) trees) (sym same) (parts_fit m lawful (column_of old) site trees asked (sym is ∙ made))

pub join-requires-in-Parts-clause-trees : goal.join-requires-in-Parts-clause-trees
join-requires-in-Parts-clause-trees g c =
    let old = c.args.column.now.array in
    let asked : IsAsked (g.S.Scheme.meaning c.args.scheme.now) (column_of old) =
    record { column = rows_fit old (subst WellFormed c.array.ensures.array c.known.ensures); taken = c.requires.takes; some = c.requires.column.some; few = c.requires.column.few }
    in
    held_fit (g.S.Scheme.meaning c.args.scheme.now) (g.met.S.Scheme.lawful c.args.scheme.now) (site_of c.new-site.result) c.in-Parts.parts _ old _ asked c.in-Parts.is (c.in_ok-split.ensures.answer c.requires.takes) c.split.ensures.column.array
