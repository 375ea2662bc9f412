-- Zigzags, as a plain tree has them.
use Rattle.std.proofs.Common.{◌≡◌, ◌∙◌, ℤ, List, length, map, refl, sym, ap, subst}
use Rattle.vx_base.specs.declared.ptype.PType.{PType}
use Rattle.vx_base.specs.declared.dtype.Nullability.{Nullability}
use Rattle.vx_base.specs.Integers.{unsigned_of}
use Rattle.vx_base.specs.PlainType.{integer_of, nullability_of}
use Rattle.vx_base.specs.PlainValue.{whole_or_zero}
use Rattle.vx_model.specs.Column.{column_of}
use Rattle.vx_model.specs.Plain.{plain, validity, IsPlain}
use Rattle.vx_model.specs.Rows.{rows}
use Rattle.vx_model.specs.Tree.{Tree, Validity, primitive}
use Rattle.vx_model.specs.TreeType.{tree_type}
use Rattle.vx_model.specs.WellFormed.{WellFormed}
use Rattle.vx_model.proofs.EachIntLemmas.{wholes-each_int-zero}
use Rattle.vx_schemes.specs.ZigZag.Tree.{zigzag_whole, zigzagged, zigzags}
use Rattle.vx_schemes_common.proofs.ColumnLemmas.{wholes_are, each_int-long, each_int-plain}

module _ (t : Tree) (p : PType) (xs : List ℤ) (valid : Validity) (n : Nullability) (at : primitive p xs valid n ≡ t) (w : WellFormed (primitive p xs valid n)) (is_plain : IsPlain t) (ys : List ℤ) (are : ys ≡ map zigzag_whole xs) where
  wholes : ys ≡ map whole_or_zero (map zigzagged (rows t))
  wholes = are ∙ ap (map zigzag_whole) (wholes_are t p xs valid n (subst WellFormed at w) (sym at) is_plain) ∙ sym (wholes-each_int-zero zigzag_whole refl (rows t))

  pub zigzags_long : length ys ≡ length (rows t)
  zigzags_long = each_int-long t p zigzag_whole p ys wholes

  pub zigzags_tree : (q : PType) → q ≡ unsigned_of p → primitive q ys (validity (rows t)) (nullability_of (tree_type t)) ≡ plain (zigzags (column_of t))
  zigzags_tree q e = each_int-plain t (unsigned_of (integer_of (tree_type t))) zigzag_whole q ys wholes (e ∙ ap (λ s. unsigned_of (integer_of (tree_type s))) at)
