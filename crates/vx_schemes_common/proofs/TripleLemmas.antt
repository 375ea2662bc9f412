-- Three trees of three parts.
use Rattle.std.proofs.Common.{◌≡◌, ◌∙◌, List, [], ◌∷◌, map, Some, ap}
use Rattle.vx_model.specs.Column.{Column, column_of}
use Rattle.vx_model.specs.Tree.{Tree}
use Rattle.vx_schemes_common.specs.Triples.{triple_of}

some_same : {A : Type 0} (a b : A) → Some a ≡ Some b → a ≡ b
some_same a b e = cc

heads : {A : Type 0} (a b c d e f : A) → a ∷ b ∷ c ∷ [] ≡ d ∷ e ∷ f ∷ [] → (a ≡ d) × ((b ≡ e) × (c ≡ f))
heads a b c d e f h = (cc, (cc, cc))

pub triple-fits : (trees : List Tree) (x y z : Tree) (first second third : Column) → Some (x, y, z) ≡ triple_of trees → map column_of trees ≡ first ∷ second ∷ third ∷ []
    → (column_of x ≡ first) × ((column_of y ≡ second) × (column_of z ≡ third))
triple-fits [] x y z first second third e fit = absurd cc
triple-fits (s ∷ []) x y z first second third e fit = absurd cc
triple-fits (s ∷ t ∷ []) x y z first second third e fit = absurd cc
triple-fits (s ∷ t ∷ u ∷ []) x y z first second third e fit =
    let same : (x, y, z) ≡ (s, t, u) = some_same (x, y, z) (s, t, u) e in
    let columns = heads (column_of s) (column_of t) (column_of u) first second third fit in
    (ap (λ p. column_of p.0) same ∙ columns.0, (ap (λ p. column_of p.1) same ∙ columns.1.0, ap (λ p. column_of p.2) same ∙ columns.1.1))
triple-fits (s ∷ t ∷ u ∷ v ∷ vs) x y z first second third e fit = absurd cc
