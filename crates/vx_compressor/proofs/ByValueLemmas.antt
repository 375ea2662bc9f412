-- What the values of a plain tree decide.
use Rattle.std.proofs.Common.{◌≡◌, ◌≢◌, ◌<◌, ◌≤◌, ◌^◌, ◌∙◌, true, false, length, Option, Some, None, sym, ap, subst, arith}
use Rattle.std.proofs.lemmas.Bool.{cond-false, le-ltb}
use Rattle.vx_base.specs.PlainScalar.{scalar}
use Rattle.vx_base.specs.PlainType.{is_flat}
use Rattle.vx_base.specs.PlainValue.{PlainValue, null}
use Rattle.vx_model.specs.Column.{Column, column_of}
use Rattle.vx_model.specs.Leaf.{first_valid, each_null_or, one_value_tree, smaller_or_plain}
use Rattle.vx_model.specs.Plain.{plain, IsPlain}
use Rattle.vx_model.specs.Rows.{rows}
use Rattle.vx_model.specs.Site.{Site}
use Rattle.vx_model.specs.Size.{size, nbytes}
use Rattle.vx_model.specs.Tree.{Tree, constant}
use Rattle.vx_model.specs.TreeType.{tree_type}
use Rattle.vx_model.specs.WellFormed.{WellFormed}
use Rattle.vx_model.proofs.MadeLemmas.{rows_fit}
use Rattle.vx_model.proofs.SizeLemmas.{small_plain}
use Rattle.vx_model.proofs.OneValueLemmas.{first_valid-some}
use Rattle.vx_compressor.specs.ByValue.{IsByValue, IsOpen}
use Rattle.vx_compressor.proofs.LeafCases.{length-first_valid, leaf-empty, leaf-nulls, leaf-sampled, leaf-one, leaf-many}

module _ (t : Tree) (site : Site) where
  pub decided-empty : (u : Tree) → IsPlain t → length (rows t) ≡ 0 → u ≡ t → IsByValue (column_of t) site (Some u)
  decided-empty u p e is = λ chooses. is ∙ p ∙ sym (leaf-empty chooses (column_of t) site e)

  pub decided-nulls : (u : Tree) → length (rows t) ≢ 0 → first_valid (rows t) ≡ None → u ≡ constant (scalar (tree_type t) null) (length (rows t)) → IsByValue (column_of t) site (Some u)
  decided-nulls u full e is = λ chooses. is ∙ sym (leaf-nulls chooses (column_of t) site full e)

  module _ (v : PlainValue) (e : first_valid (rows t) ≡ Some v) where
    pub decided-one : (u : Tree) → site.sampled ≡ false → each_null_or v (rows t) ≡ true → u ≡ smaller_or_plain (column_of t) (one_value_tree (column_of t) v) → IsByValue (column_of t) site (Some u)
    decided-one u whole each is = λ chooses. is ∙ sym (leaf-one chooses (column_of t) site v e whole each)

    pub open-sampled : site.sampled ≡ true → IsByValue (column_of t) site None
    open-sampled sampled = record {
      value = first_valid-some (rows t) v e;
      some = let full = length-first_valid (rows t) v e in omega arith;
      chosen = λ chooses. sym (leaf-sampled chooses (column_of t) site v e sampled);
    }

    pub open-many : each_null_or v (rows t) ≡ false → IsByValue (column_of t) site None
    open-many each = record {
      value = first_valid-some (rows t) v e;
      some = let full = length-first_valid (rows t) v e in omega arith;
      chosen = λ chooses. sym (leaf-many chooses (column_of t) site v e each);
    }

-- ---- by the result

pub decided-here : (v : Option Tree) (tree : Tree) (c : Column) (site : Site) → IsByValue c site v → v ≡ Some tree → IsByValue c site (Some tree)
decided-here v tree c site h is = subst (IsByValue c site) is h

pub open-here : (v : Option Tree) (c : Column) (site : Site) → IsByValue c site v → v ≡ None → IsOpen c site
open-here v c site h is = subst (IsByValue c site) is h

-- ---- by the bytes

-- a tree that has no fewer bytes than the plain one doesn't stand
pub not_smaller : (t tree : Tree) → WellFormed t → is_flat (tree_type t) ≡ true → length (rows t) < 2 ^ 64 → IsPlain t → nbytes t ≤ nbytes tree → t ≡ smaller_or_plain (column_of t) tree
not_smaller t tree w flat few p more =
    let own : size t ≡ size (plain (column_of t)) = ap size p in
    let small = small_plain (column_of t) flat (rows_fit t w) few in
    let least : size (plain (column_of t)) ≤ size tree = omega (arith, own, small, more) in
    p ∙ sym (cond-false _ _ _ (le-ltb (size tree) (size (plain (column_of t))) least))
