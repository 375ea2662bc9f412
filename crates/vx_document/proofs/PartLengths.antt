-- A list of rows is at least as long as text as it has rows: each but the first has a comma, and the list has brackets.
use Rattle.std.proofs.Common.{◌≡◌, ◌∙◌, ◌≤◌, ◌+◌, ◌-◌, ◌++◌, ◌∷◌, [], ℕ, List, length, drop, ap, arith, length-append}
use Rattle.std.specs.Prelude.{codes}
use Rattle.std.proofs.lemmas.List.{length-drop, length-take}
use Rattle.vx_base.specs.Masks.{rows_between}
use Rattle.vx_base.specs.PlainType.{PlainType}
use Rattle.vx_base.specs.PlainValue.{PlainValue, of_list}
use Rattle.vx_base.specs.TypeText.{value_text, items_text, list_text}
use Rattle.vx_model.specs.Rows.{rows}
use Rattle.vx_model.specs.Tree.{Tree}
use Rattle.vx_model.specs.TreeType.{tree_type}
use Rattle.vx_document.specs.RowText.{part_text}

-- an item with what precedes it, and the rest
one_more : (before value rest : List ℕ) → length (before ++ value ++ rest) ≡ length before + length value + length rest
one_more before value rest = length-append (before ++ value) rest ∙ ap (λ n. n + length rest) (length-append before value)

items-least : (t : PlainType) (vs : List PlainValue) → length vs ≤ length (items_text (codes ",") t (of_list vs))
items-least t [] = omega arith
items-least t (v ∷ vs) =
    let rest = items-least t vs in
    omega (arith, one_more (codes ",") (value_text t v) (items_text (codes ",") t (of_list vs)), rest)

inside-least : (t : PlainType) (vs : List PlainValue) → length vs ≤ length (items_text [] t (of_list vs)) + 1
inside-least t [] = omega arith
inside-least t (v ∷ vs) =
    let rest = items-least t vs in
    omega (arith, one_more [] (value_text t v) (items_text (codes ",") t (of_list vs)), rest)

pub list-least : (t : PlainType) (vs : List PlainValue) → length vs ≤ length (list_text t vs)
list-least t vs =
    let inside = inside-least t vs in
    omega (arith, length-append (items_text [] t (of_list vs)) (codes "]"), inside)

pub part-least : (tree : Tree) (start end : ℕ) → end ≤ length (rows tree) → end - start ≤ length (part_text tree start end)
part-least tree start end within =
    let xs = rows tree in
    let all = length-drop start xs in
    let some = length-take (end - start) (drop start xs) in
    let least = list-least (tree_type tree) (rows_between xs start end) in
    omega (arith, all, some, least, within)
