-- What a frame of reference makes is well formed, and stands for the column: the least value is one of the type, and the
-- differences from it give the rows back.
use Rattle.std.proofs.Common.{◌≡◌, ℤ, true, List, [], ◌∷◌, Some, refl, subst, map, ap, ◌≤◌, ◌^◌, ◌∙◌, length, Option, None, sym, arith}
use Rattle.std.specs.Prelude.{fold, int_lt, ◌-ℤ◌, unwrap_or, option_map}
use Rattle.std.specs.Int.{int_min}
use Rattle.std.specs.List.{list_all, reduce}
use Rattle.std.proofs.lemmas.Bool.{and_parts, cond_both}
use Rattle.vx_base.specs.declared.ptype.PType.{PType}
use Rattle.vx_base.specs.declared.dtype.Nullability.{Nullability}
use Rattle.vx_base.specs.declared.ptype.PType.TheVariants.{U8, U16, U32, U64, I8, I16, I32, I64}
use Rattle.vx_base.specs.Integers.{lies_in, greatest, unsigned_of}
use Rattle.vx_base.specs.PlainScalar.{fits, scalar}
use Rattle.vx_base.specs.PlainType as types
use Rattle.vx_base.specs.PlainValue.{PlainValue, int}
use Rattle.vx_base.proofs.IntegerLemmas.{by_integer, integers-lie_in}
use Rattle.vx_stats.specs.Stats.{valid_wholes, least_in}
use Rattle.vx_schemes.specs.FrameOfReference.Tree.{least_value, less, difference, differences, packed_or_plain, framed}
use Rattle.vx_base.specs.declared.dtype.Nullability.TheVariants.{NonNullable}
use Rattle.vx_base.proofs.WrapLemmas.{wrap-held}
use Rattle.vx_base.proofs.WrapSumLemmas.{wrap-back}
use Rattle.vx_model.specs.Rows.{moved, rows, summed}
use Rattle.std.proofs.lemmas.List.{length-map}
use Rattle.vx_base.specs.PlainType.{is_integer, integer_of, nullability_of}
use Rattle.vx_model.specs.Column.{Column, IsColumn, column, column_of}
use Rattle.vx_model.specs.Plain.{plain}
use Rattle.vx_model.specs.Tree.{Tree, frame_of_reference}
use Rattle.vx_model.specs.TreeType.{tree_type}
use Rattle.vx_model.specs.WellFormed.{WellFormed, differences_type}
use Rattle.vx_scheme.specs.Lawful.{IsPart}
use Rattle.vx_model.proofs.EachIntLemmas.{all_fit-each_int, each_int-back}
use Rattle.vx_model.proofs.PackedLemmas.{for_made}
use Rattle.vx_model.proofs.FewLemmas.{few-flat}
use Rattle.vx_model.proofs.FlatTypeLemmas.{integer-flat}
use Rattle.vx_model.proofs.PlainLemmas.{column_of-plain, plain_well_formed}
use Rattle.vx_schemes.specs.BitPacking.Tree.{bit_packing_made}
use Rattle.vx_schemes.specs.FrameOfReference.Tree as made
use Rattle.vx_schemes_common.specs.StandsFor.{StandsFor, AllStandFor}
use Rattle.vx_schemes.specs.BitPacking.Laws.{bit_packing-lawful}

pub fold-held : (p : PType) (z : ℤ) (zs : List ℤ) → lies_in p z ≡ true → list_all (lies_in p) zs ≡ true → lies_in p (fold int_min z zs) ≡ true
fold-held p z [] h k = h
fold-held p z (x ∷ zs) h k =
    let b = and_parts (lies_in p x) (list_all (lies_in p) zs) k in
    fold-held p (int_min z x) zs (cond_both (int_lt x z) x z (λ y. lies_in p y ≡ true) (λ e. b.0) (λ e. h)) b.1

reduce-held : (p : PType) (zs : List ℤ) (z : ℤ) → list_all (lies_in p) zs ≡ true → reduce int_min zs ≡ Some z → lies_in p z ≡ true
reduce-held p [] z h e = absurd cc
reduce-held p (x ∷ zs) z h e =
    let b = and_parts (lies_in p x) (list_all (lies_in p) zs) h in
    let same : fold int_min x zs ≡ z = cc in
    subst (λ y. lies_in p y ≡ true) same (fold-held p x zs b.0 b.1)

greatest-held : (p : PType) → lies_in p (greatest p) ≡ true
greatest-held U8 = refl
greatest-held U16 = refl
greatest-held U32 = refl
greatest-held U64 = refl
greatest-held I8 = refl
greatest-held I16 = refl
greatest-held I32 = refl
greatest-held I64 = refl

-- the least value of statistics, which is the type's greatest where every row is null
pub least_in-held : (c : Column) → is_integer c.dtype ≡ true → IsColumn c → lies_in (integer_of c.dtype) (least_in (integer_of c.dtype) c.values) ≡ true
least_in-held c i h =
    by_integer (λ s. list_all (fits s) c.values ≡ true → lies_in (integer_of s) (least_in (integer_of s) c.values) ≡ true)
    (λ p n k. fold-held p (greatest p) (valid_wholes c.values) (greatest-held p) (integers-lie_in p n c.values k)) c.dtype i h

pub least-held : (p : PType) (n : Nullability) (vs : List PlainValue) (z : ℤ) → list_all (fits (types.primitive p n)) vs ≡ true → least_value vs ≡ Some z → lies_in p z ≡ true
least-held p n vs z h e = reduce-held p (valid_wholes vs) z (integers-lie_in p n vs h) e

module _ (p : PType) (reference : ℤ) where
  pub differences_fit : (n : Nullability) (vs : List PlainValue) → list_all (fits (types.primitive p n)) vs ≡ true → list_all (fits (types.primitive (unsigned_of p) n)) (map (difference p reference) vs) ≡ true
  differences_fit n vs h = all_fit-each_int (less p reference) p (unsigned_of p) n (λ z l. wrap-held (unsigned_of p) (z -ℤ reference)) vs h

  -- a difference and the reference give the row
  pub moved_back : (n : Nullability) (vs : List PlainValue) → list_all (fits (types.primitive p n)) vs ≡ true → map (moved (scalar (types.primitive p NonNullable) (int reference))) (map (difference p reference) vs) ≡ vs
  moved_back n vs h = each_int-back (less p reference) (summed (scalar (types.primitive p NonNullable) (int reference))) p n (λ z l. wrap-back p reference z l) vs h

pub packed_or_plain-well : (c : Column) → is_integer c.dtype ≡ true → IsColumn c → length c.values ≤ 2 ^ 32 → StandsFor (packed_or_plain c) c
packed_or_plain-well c i h few = by_made (bit_packing_made c) refl
  where
    by_made : (o : Option Tree) → bit_packing_made c ≡ o → StandsFor (unwrap_or o (plain c)) c
    by_made None e = (plain_well_formed c h (few-flat c.dtype c.values (integer-flat c.dtype i)), column_of-plain c h)
    by_made (Some t) e = bit_packing-lawful c t i h few e

-- under its reference, any well-formed tree of the differences
over-typed : (p : PType) (n : Nullability) (vs : List PlainValue) (reference : ℤ) (t : Tree) → list_all (fits (types.primitive p n)) vs ≡ true → lies_in p reference ≡ true → WellFormed t
    → column_of t ≡ differences (column (types.primitive p n) vs) reference → StandsFor (frame_of_reference t (scalar (types.primitive p NonNullable) (int reference))) (column (types.primitive p n) vs)
over-typed p n vs reference t h held w same =
    let least = scalar (types.primitive p NonNullable) (int reference) in
    let typed : tree_type t ≡ types.primitive (unsigned_of p) n = ap (λ d. d.dtype) same in
    let values : rows t ≡ map (difference p reference) vs = ap (λ d. d.values) same in
    let of_type : tree_type t ≡ differences_type least.dtype (tree_type t) = typed ∙ sym (ap (differences_type least.dtype) typed) in
    let back : map (moved least) (rows t) ≡ vs = ap (map (moved least)) values ∙ moved_back p reference n vs h in
    (for_made t least refl refl held of_type w, λ i. column (types.primitive p (nullability_of (typed i))) (back i))

module _ (c : Column) (reference : ℤ) (i : is_integer c.dtype ≡ true) (h : IsColumn c) where
  -- the differences from any reference are a part
  pub differences-part : IsPart c (differences c reference)
  differences-part = by_integer (λ s. list_all (fits s) c.values ≡ true → IsPart (column s c.values) (differences (column s c.values) reference)) of_type c.dtype i h
    where
      of_type : (p : PType) (n : Nullability) → list_all (fits (types.primitive p n)) c.values ≡ true → IsPart (column (types.primitive p n) c.values) (differences (column (types.primitive p n) c.values) reference)
      of_type p n k = record { column = differences_fit p reference n c.values k; leaf = refl; rows = omega (arith, length-map c.values (difference p reference)) }

  pub framed-stands : (t : Tree) → lies_in (integer_of c.dtype) reference ≡ true → WellFormed t → column_of t ≡ differences c reference
      → StandsFor (frame_of_reference t (scalar (types.primitive (integer_of c.dtype) NonNullable) (int reference))) c
  framed-stands t held w same =
      by_integer (λ s. list_all (fits s) c.values ≡ true → lies_in (integer_of s) reference ≡ true → column_of t ≡ differences (column s c.values) reference
      → StandsFor (frame_of_reference t (scalar (types.primitive (integer_of s) NonNullable) (int reference))) (column s c.values))
      (λ p n k l e. over-typed p n c.values reference t k l w e) c.dtype i h held same

frame-typed : (p : PType) (n : Nullability) (vs : List PlainValue) (reference : ℤ) → length vs ≤ 2 ^ 32 → list_all (fits (types.primitive p n)) vs ≡ true → lies_in p reference ≡ true
    → StandsFor (framed (column (types.primitive p n) vs) reference) (column (types.primitive p n) vs)
frame-typed p n vs reference few h held =
    let c = differences (column (types.primitive p n) vs) reference in
    let long : length c.values ≤ 2 ^ 32 = omega (arith, length-map vs (difference p reference)) in
    let inner = packed_or_plain-well c refl (differences_fit p reference n vs h) long in
    over-typed p n vs reference (packed_or_plain c) h held inner.0 inner.1

for-typed : (p : PType) (n : Nullability) (vs : List PlainValue) (t : Tree) → length vs ≤ 2 ^ 32 → list_all (fits (types.primitive p n)) vs ≡ true → made.for_made (column (types.primitive p n) vs) ≡ Some t → StandsFor t (column (types.primitive p n) vs)
for-typed p n vs t few h e = by_least (least_value vs) refl e
  where
    by_least : (o : Option ℤ) → least_value vs ≡ o → option_map (framed (column (types.primitive p n) vs)) o ≡ Some t
        → StandsFor t (column (types.primitive p n) vs)
    by_least None l s = absurd cc
    by_least (Some z) l s = let is : framed (column (types.primitive p n) vs) z ≡ t = cc in subst (λ u. StandsFor u (column (types.primitive p n) vs)) is (frame-typed p n vs z few h (least-held p n vs z h l))

pub for-lawful : AllStandFor is_integer made.for_made
for-lawful c t i h few e =
    by_integer (λ s. list_all (fits s) c.values ≡ true → made.for_made (column s c.values) ≡ Some t → StandsFor t (column s c.values)) (λ p n k q. for-typed p n c.values t few k q) c.dtype i h e
