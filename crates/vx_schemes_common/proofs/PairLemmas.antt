-- The two trees of two parts.
use Rattle.std.proofs.Common.{◌≡◌, ◌∙◌, List, [], ◌∷◌, map, Some, ap}
use Rattle.vx_model.specs.Column.{Column, column_of}
use Rattle.vx_model.specs.Tree.{Tree}
use Rattle.vx_schemes_common.specs.Pairs.{pair_of}

some_same : {A : Type 0} (a b : A) → Some a ≡ Some b → a ≡ b
some_same a b e = cc

heads : {A : Type 0} (a b c d : A) → a ∷ b ∷ [] ≡ c ∷ d ∷ [] → (a ≡ c) × (b ≡ d)
heads a b c d e = (cc, cc)

pub pair-fits : (trees : List Tree) (x y : Tree) (first second : Column) → Some (x, y) ≡ pair_of trees → map column_of trees ≡ first ∷ second ∷ [] → (column_of x ≡ first) × (column_of y ≡ second)
pair-fits [] x y first second e fit = absurd cc
pair-fits (s ∷ []) x y first second e fit = absurd cc
pair-fits (s ∷ t ∷ []) x y first second e fit =
    let pair : (x, y) ≡ (s, t) = some_same (x, y) (s, t) e in
    let columns = heads (column_of s) (column_of t) first second fit in
    (ap (λ p. column_of p.0) pair ∙ columns.0, ap (λ p. column_of p.1) pair ∙ columns.1)
pair-fits (s ∷ t ∷ u ∷ us) x y first second e fit = absurd cc

pub no_pair : (trees : List Tree) (x y : Tree) → Some (x, y) ≡ pair_of trees → map column_of trees ≡ [] → ⊥
no_pair [] x y e fit = cc
no_pair (t ∷ ts) x y e fit = cc
