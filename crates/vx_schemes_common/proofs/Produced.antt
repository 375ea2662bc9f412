-- What schemes make has an encoding that they produce.
use Rattle.std.proofs.Common.{◌≡◌, ◌∙◌, Bool, true, false, List, [], ◌∷◌, Option, Some, None, refl, sym, ap, subst, inl, inr}
use Rattle.vx_model.specs.Column.{Column}
use Rattle.vx_model.specs.Nodes.{encoding}
use Rattle.vx_model.specs.Plain.{plain}
use Rattle.vx_model.specs.Site.{Site}
use Rattle.vx_model.specs.Tree.{Tree}
use Rattle.vx_scheme.specs.Meaning.{Meaning, finished}
use Rattle.vx_schemes_common.specs.Finishing.{finished_or_kept}
use Rattle.vx_schemes_common.specs.OnePart.{part_where, over_part}
use Rattle.vx_schemes_common.specs.Produced.{IsProduced, MakesProduced}

is_made : (made : Option Tree) (tree : Tree) → finished_or_kept made ≡ finished tree → made ≡ Some tree
is_made None tree e = absurd cc
is_made (Some made) tree e = let same : made ≡ tree = cc in ap Some same

-- one that finishes its trees, and joins none
pub finishing-produced : (m : Meaning) (made : Column → Option Tree) → ((c : Column) (site : Site) → m.splits c site ≡ finished_or_kept (made c)) → ((c : Column) (tree : Tree) → made c ≡ Some tree → m.produces (encoding tree) ≡ true)
    → ((c : Column) (site : Site) (trees : List Tree) → m.joined c site trees ≡ plain c) → MakesProduced m
finishing-produced m made splits encoded joins = record {
  by_finishing = λ c site tree e. encoded c tree (is_made (made c) tree (sym (splits c site) ∙ e));
  by_joining = λ c site trees. inl (joins c site trees);
}

-- one that makes one part, and wraps its tree
pub one_part-produced : (m : Meaning) (test : Column → Bool) (part : Column → Column) (wrap : Column → Tree → Tree) → ((c : Column) (site : Site) → m.splits c site ≡ part_where (test c) (part c))
    → ((c : Column) (site : Site) (trees : List Tree) → m.joined c site trees ≡ over_part wrap c trees) → ((c : Column) (tree : Tree) → m.produces (encoding (wrap c tree)) ≡ true) → MakesProduced m
one_part-produced m test part wrap splits joins encoded = record {
  by_finishing = λ c site tree e. absurd (unfinished (test c) (part c) tree (sym (splits c site) ∙ e));
  by_joining = λ c site trees. subst (IsProduced m c) (sym (joins c site trees)) (by_trees c trees);
}
  where
    unfinished : (b : Bool) (of : Column) (tree : Tree) → part_where b of ≡ finished tree → ⊥
    unfinished true of tree e = cc
    unfinished false of tree e = cc

    by_trees : (c : Column) (trees : List Tree) → IsProduced m c (over_part wrap c trees)
    by_trees c [] = inl refl
    by_trees c (tree ∷ trees) = inr (encoded c tree)
