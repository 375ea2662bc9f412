-- Differences from a reference, as a plain tree has them.
use Rattle.std.proofs.Common.{◌≡◌, ℤ, pos, List, ◌∙◌, length, map, sym, ap, subst}
use Rattle.vx_base.specs.declared.ptype.PType.{PType}
use Rattle.vx_base.specs.declared.dtype.Nullability.{Nullability}
use Rattle.vx_base.specs.Integers.{unsigned_of}
use Rattle.vx_base.specs.PlainType.{integer_of, nullability_of}
use Rattle.vx_base.specs.PlainValue.{whole_or_zero}
use Rattle.vx_model.specs.Column.{column_of}
use Rattle.vx_model.specs.Decoded.{zeroed_by}
use Rattle.vx_model.specs.Plain.{plain, validity, IsPlain}
use Rattle.vx_model.specs.Rows.{rows}
use Rattle.vx_model.specs.Tree.{Tree, Validity, primitive}
use Rattle.vx_model.specs.TreeType.{tree_type}
use Rattle.vx_model.specs.WellFormed.{WellFormed}
use Rattle.vx_model.proofs.EachIntLemmas.{wholes-each_int}
use Rattle.vx_schemes.specs.FrameOfReference.Tree.{less, difference, differences}
use Rattle.vx_schemes_common.proofs.ColumnLemmas.{wholes_are, validity_is, each_int-long, each_int-plain}

module _ (t : Tree) (p : PType) (xs : List ℤ) (valid : Validity) (n : Nullability) (at : primitive p xs valid n ≡ t) (w : WellFormed (primitive p xs valid n)) (is_plain : IsPlain t) (reference : ℤ) where
  well : WellFormed t
  well = subst WellFormed at w

  typed : p ≡ integer_of (tree_type t)
  typed = ap (λ s. integer_of (tree_type s)) at

  module _ (ys : List ℤ) (are : ys ≡ zeroed_by (pos 0) valid (map (less p reference) xs)) where
    wholes : ys ≡ map whole_or_zero (map (difference (integer_of (tree_type t)) reference) (rows t))
    wholes =
        let numbers = wholes_are t p xs valid n well (sym at) is_plain in
        let bits = validity_is t p xs valid n well (sym at) is_plain in
        are ∙ (λ i. zeroed_by (pos 0) (bits i) (map (less (typed i) reference) (numbers i))) ∙ sym (wholes-each_int (less (integer_of (tree_type t)) reference) (rows t))

    pub moved_long : length ys ≡ length (rows t)
    moved_long = each_int-long t (unsigned_of p) (less (integer_of (tree_type t)) reference) p ys wholes

    pub moved_tree : (q : PType) → q ≡ unsigned_of p → primitive q ys (validity (rows t)) (nullability_of (tree_type t)) ≡ plain (differences (column_of t) reference)
    moved_tree q e = each_int-plain t (unsigned_of (integer_of (tree_type t))) (less (integer_of (tree_type t)) reference) q ys wholes (e ∙ ap unsigned_of typed)
