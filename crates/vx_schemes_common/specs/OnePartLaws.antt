-- A scheme with one part is lawful where its wrapper stands for the column.
use Rattle.std.proofs.Common.{◌≡◌, ◌≤◌, ◌∙◌, Bool, true, false, List, [], ◌∷◌, length, map, refl, sym, subst, arith}
use Rattle.std.specs.Prelude.{All}
use Rattle.std.proofs.lemmas.List.Elements.{All-from_recursion, recursion_from_All}
use Rattle.vx_model.specs.Column.{Column, IsColumn, column_of}
use Rattle.vx_model.specs.Site.{Site}
use Rattle.vx_model.specs.Tree.{Tree}
use Rattle.vx_model.specs.WellFormed.{WellFormed}
use Rattle.vx_scheme.specs.Lawful.{Lawful, IsPart}
use Rattle.vx_scheme.specs.Meaning.{Meaning, finished, parts}
use Rattle.vx_schemes_common.specs.OnePart.{part_where, PartStands}
use Rattle.vx_schemes_common.specs.StandsFor.{StandsFor}

never_finished : (test : Bool) (part : Column) (tree : Tree) → part_where test part ≡ finished tree → ⊥
never_finished true part tree e = cc
never_finished false part tree e = cc

part_is : (test : Bool) (part : Column) (columns : List Column) → part_where test part ≡ parts columns → (test ≡ true) × (part ∷ [] ≡ columns)
part_is true part columns e = (refl, cc)
part_is false part columns e = absurd cc

module _ (m : Meaning) (test : Column → Bool) (part : Column → Column) (wrap : Column → Tree → Tree)
    (splits : (c : Column) (site : Site) → m.splits c site ≡ part_where (test c) (part c)) (joins : (c : Column) (site : Site) (tree : Tree) → m.joined c site (tree ∷ []) ≡ wrap c tree)
    (room : 1 ≤ m.children) (law : PartStands m.takes test part wrap)
  where
    made : (c : Column) (site : Site) (columns : List Column) → m.splits c site ≡ parts columns → (test c ≡ true) × (part c ∷ [] ≡ columns)
    made c site columns e = part_is (test c) (part c) columns (sym (splits c site) ∙ e)

    wrapped : (c : Column) (site : Site) (trees : List Tree) → m.takes c.dtype ≡ true → IsColumn c → test c ≡ true → All WellFormed trees → map column_of trees ≡ part c ∷ [] → StandsFor (m.joined c site trees) c
    wrapped c site [] taken h passes well fit = absurd cc
    wrapped c site (t ∷ []) taken h passes well fit =
        subst (λ u. StandsFor u c) (sym (joins c site t)) (law.stands c t taken h passes (recursion_from_All WellFormed (t ∷ []) well).0 cc)
    wrapped c site (t ∷ u ∷ ts) taken h passes well fit = absurd cc

    pub one_part-lawful : Lawful m
    one_part-lawful = record {
      finished_well = λ c site tree asked e. absurd (never_finished (test c) (part c) tree (sym (splits c site) ∙ e));
      joined_well = λ c site columns trees asked e well fit. wrapped c site trees asked.taken asked.column (made c site columns e).0 well (fit ∙ sym (made c site columns e).1);
      few_parts = λ c site columns asked e. subst (λ cs. length cs ≤ m.children) (made c site columns e).1 (omega (arith, room));
      small_parts = λ c site columns asked e.
          subst (All (IsPart c)) (made c site columns e).1 (All-from_recursion (IsPart c) (part c ∷ []) (law.is_part c asked.taken asked.column asked.few (made c site columns e).0, tt));
    }
