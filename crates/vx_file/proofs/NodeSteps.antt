-- Steps of the writer of nodes: what is known where a match has shown a node's root, and fields one after another.
use Rattle.std.proofs.Common.{◌≡◌, ◌<◌, ◌+◌, ◌++◌, ◌∷◌, ◌&&◌, ℕ, true, List, length, get_or, drop, sym, ap, subst, ◌∙◌, Result}
use Rattle.std.specs.Prelude.{OnOk}
use Rattle.std.proofs.lemmas.Bool.{and_parts}
use Rattle.std.proofs.lemmas.List.{at_drop_more}
use Rattle.vx_array.specs.declared.array.Node.{Node}
use Rattle.vx_array.specs.TreeOf.{tree_of}
use Rattle.vx_model.specs.Tree.{Tree, of_list}
use Rattle.vx_model.specs.WellFormed.{WellFormed}
use Rattle.vx_spelling.specs.Fields.{name}
use Rattle.vx_spelling.specs.Storable.{all_within, are_within, is_within, is_within_below}
use Rattle.vx_spelling.specs.TreeSpelling.{body, fields_body, tree_text}

-- ---- roots

pub record IsRoot (tree shape : Tree) : Type 0 where
  pub is : tree ≡ shape
  pub well_formed : WellFormed shape

pub root_is : {n m : Node} {tree : Tree} → tree_of n ≡ tree → WellFormed tree → n ≡ m → IsRoot tree (tree_of m)
root_is v w e = record { is = sym v ∙ ap tree_of e; well_formed = subst WellFormed (sym v ∙ ap tree_of e) w }

-- what is put is the body of the root
pub put_at : {E : Type 0} {tree shape : Tree} (r : Result (Unit {0}) E) (old new text : List ℕ) → tree ≡ shape → body shape ≡ text → OnOk r (new ≡ old ++ text) → OnOk r (new ≡ old ++ body tree)
put_at {tree = tree} r old new text is b put =
    let same : text ≡ body tree = sym (ap body is ∙ b) in
    subst (λ (x : List ℕ). OnOk r (new ≡ old ++ x)) same put

-- the nodes below a root are within the limits, and so is the root
pub below_at : {tree shape : Tree} → tree ≡ shape → all_within tree ≡ true → is_within_below shape ≡ true
below_at {tree} {shape} is h = ap is_within_below (sym is) ∙ (and_parts (is_within tree) (is_within_below tree) h).1

pub within_at : {tree shape : Tree} → tree ≡ shape → all_within tree ≡ true → is_within shape ≡ true
within_at {tree} {shape} is h = ap is_within (sym is) ∙ (and_parts (is_within tree) (is_within_below tree) h).0

-- ---- fields

pub fields_within : (ts : List Tree) (i : ℕ) (t : Tree) → i < length ts → t ≡ get_or ts i t → are_within (of_list (drop i ts)) ≡ true → (all_within t ≡ true) × (are_within (of_list (drop (i + 1) ts)) ≡ true)
fields_within ts i t h e w =
    let more = at_drop_more (λ us. are_within (of_list us)) ts i t h ∙ ap (λ (u : Tree). all_within u && are_within (of_list (drop (i + 1) ts))) (sym e) in
    and_parts (all_within t) (are_within (of_list (drop (i + 1) ts))) (sym more ∙ w)

pub fields_body_more : (names : List (List ℕ)) (ts : List Tree) (i : ℕ) (n : List ℕ) (t : Tree) → i < length names → i < length ts → n ≡ get_or names i n → t ≡ get_or ts i t
    → fields_body (drop i names) (of_list (drop i ts)) ≡ (name.spell n ++ tree_text t) ++ fields_body (drop (i + 1) names) (of_list (drop (i + 1) ts))
fields_body_more names ts i n t h k e w =
    at_drop_more (λ ms. fields_body ms (of_list (drop i ts))) names i n h
    ∙ at_drop_more (λ us. fields_body (get_or names i n ∷ drop (i + 1) names) (of_list us)) ts i t k
    ∙ (λ j. (name.spell (sym e j) ++ tree_text (sym w j)) ++ fields_body (drop (i + 1) names) (of_list (drop (i + 1) ts)))
