-- What a frame of reference owes its calls: the least value lies in the type, and the differences are a column without a
-- negative value.
use Rattle.std.proofs.Common.{◌≡◌, ◌≤◌, ◌^◌, ◌∙◌, ℤ, pos, negsuc, Bool, true, false, List, [], ◌∷◌, length, map, Some, refl, sym, ap, subst, arith}
use Rattle.std.specs.Prelude.{not}
use Rattle.std.specs.List.{list_all, list_any}
use Rattle.std.proofs.lemmas.Bool.{and_parts}
use Rattle.std.proofs.lemmas.List.{length-map}
use Rattle.vx_base.specs.declared.dtype.Nullability.TheVariants.{NonNullable}
use Rattle.vx_base.specs.declared.ptype.PType.{PType}
use Rattle.vx_base.specs.Integers.{is_signed, lies_in, unsigned_of}
use Rattle.vx_base.specs.PlainScalar.{fits}
use Rattle.vx_base.proofs.IntegerLemmas.{by_integer}
use Rattle.vx_base.specs.PlainType.{is_integer, integer_of}
use Rattle.vx_base.specs.PlainType as types
use Rattle.vx_base.specs.PlainValue.{whole_or_zero}
use Rattle.vx_model.specs.Column.{Column, IsColumn, column, column_of}
use Rattle.vx_model.specs.Plain.{plain}
use Rattle.vx_model.specs.Rows.{rows}
use Rattle.vx_model.specs.Tree.{Tree}
use Rattle.vx_model.specs.TreeType.{tree_type}
use Rattle.vx_model.specs.WellFormed.{WellFormed, differences_type}
use Rattle.vx_model.proofs.MadeLemmas.{rows_fit}
use Rattle.vx_model.proofs.PlainLemmas.{column_of-plain, wholes_lie_in}
use Rattle.vx_schemes.specs.FrameOfReference.Tree.{least_value, difference, differences, packed_or_plain}
use Rattle.vx_schemes.specs.BitPacking.Tree.{is_negative, has_negative}
use Rattle.vx_schemes.specs.FrameOfReference.Laws.{differences_fit, packed_or_plain-well, least-held}
use Rattle.vx_schemes.specs.ZigZag.Laws.{unsigned-not_signed}
use Rattle.vx_schemes.proofs.BitPacking.Negative.{not_negative}

least-of_type : (c : Column) (z : ℤ) → is_integer c.dtype ≡ true → IsColumn c → least_value c.values ≡ Some z → lies_in (integer_of c.dtype) z ≡ true
least-of_type c z i h e = by_integer (λ s. list_all (fits s) c.values ≡ true → lies_in (integer_of s) z ≡ true) (λ p n k. least-held p n c.values z k e) c.dtype i h

differences-column : (c : Column) (z : ℤ) → is_integer c.dtype ≡ true → IsColumn c → IsColumn (differences c z)
differences-column c z i h = by_integer (λ s. list_all (fits s) c.values ≡ true → IsColumn (differences (column s c.values) z)) (λ p n k. differences_fit p z n c.values k) c.dtype i h

-- ---- no difference is negative

not_both : (b : Bool) → not b ≡ true → b ≡ true → ⊥
not_both true h k = cc
not_both false h k = cc

natural-whole : (p : PType) (z : ℤ) → lies_in (unsigned_of p) z ≡ true → is_negative z ≡ false
natural-whole p (pos n) h = not_negative n
natural-whole p (negsuc n) h = absurd (not_both (is_signed (unsigned_of p)) (unsigned-not_signed p) (and_parts (is_signed (unsigned_of p)) _ h).0)

naturals : (p : PType) (zs : List ℤ) → list_all (lies_in (unsigned_of p)) zs ≡ true → list_any is_negative zs ≡ false
naturals p [] h = refl
naturals p (z ∷ zs) h = let b = and_parts (lies_in (unsigned_of p) z) _ h in rw (natural-whole p z b.0) (naturals p zs b.1)

differences-natural : (c : Column) (z : ℤ) → is_integer c.dtype ≡ true → IsColumn c → has_negative (differences c z) ≡ false
differences-natural c z i h =
    by_integer (λ s. list_all (fits s) c.values ≡ true → has_negative (differences (column s c.values) z) ≡ false)
    (λ p n k. naturals p _ (wholes_lie_in (unsigned_of p) n (map (difference p z) c.values) (differences_fit p z n c.values k))) c.dtype i h

-- ---- the tree of the differences

pub encoded-is : (c : Column) (z : ℤ) (d e : Tree) → is_integer c.dtype ≡ true → IsColumn c → d ≡ plain (differences c z) → e ≡ packed_or_plain (column_of d) → e ≡ packed_or_plain (differences c z)
encoded-is c z d e i f h k = k ∙ ap (λ u. packed_or_plain (column_of u)) h ∙ ap packed_or_plain (column_of-plain (differences c z) (differences-column c z i f))

module _ (t : Tree) (z : ℤ) (i : is_integer (tree_type t) ≡ true) (w : WellFormed t) where
  pub least-in : least_value (rows t) ≡ Some z → lies_in (integer_of (tree_type t)) z ≡ true
  least-in e = least-of_type (column_of t) z i (rows_fit t w) e

  abbrev less : Column
  less = differences (column_of t) z

  pub less-column : IsColumn less
  less-column = differences-column (column_of t) z i (rows_fit t w)

  pub less-natural : list_any is_negative (map whole_or_zero less.values) ≡ false
  less-natural = differences-natural (column_of t) z i (rows_fit t w)

  pub less-held : list_all (lies_in (unsigned_of (integer_of (tree_type t)))) (map whole_or_zero less.values) ≡ true
  less-held =
      by_integer (λ s. list_all (fits s) (rows t) ≡ true → list_all (lies_in (unsigned_of (integer_of s))) (map whole_or_zero (map (difference (integer_of s) z) (rows t))) ≡ true)
      (λ p n k. wholes_lie_in (unsigned_of p) n (map (difference p z) (rows t)) (differences_fit p z n (rows t) k)) (tree_type t) i (rows_fit t w)

  pub plain-natural : has_negative (column_of (plain less)) ≡ false
  plain-natural = ap has_negative (column_of-plain less less-column) ∙ differences-natural (column_of t) z i (rows_fit t w)

  module _ (few : length (rows t) ≤ 2 ^ 32) where
    less-few : length less.values ≤ 2 ^ 32
    less-few = omega (arith, length-map (rows t) (difference (integer_of (tree_type t)) z), few)

    pub plain-few : length (rows (plain less)) ≤ 2 ^ 32
    plain-few = subst (λ d. length d.values ≤ 2 ^ 32) (sym (column_of-plain less less-column)) less-few

    pub less-typed : tree_type (packed_or_plain less) ≡ differences_type (types.primitive (integer_of (tree_type t)) NonNullable) (tree_type (packed_or_plain less))
    less-typed =
        let inner = packed_or_plain-well less refl less-column less-few in
        let typed : tree_type (packed_or_plain less) ≡ less.dtype = ap (λ d. d.dtype) inner.1 in
        typed ∙ sym (ap (differences_type (types.primitive (integer_of (tree_type t)) NonNullable)) typed)
