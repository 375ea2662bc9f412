-- When trees of lists are plain: their elements are, offsets are the plain ones, and a null list has no elements or, of one size, defaults.
use Rattle.std.proofs.Common.{◌≡◌, ◌∙◌, ◌<◌, ◌≤◌, ◌+◌, ◌-◌, ℕ, zero, suc, pos, List, [], ◌∷◌, length, map, get_or, refl, sym, ap, arith, true, false, Some, None}
use Rattle.std.specs.Prelude.{IsTrue, ◌↔◌, ◌==◌}
use Rattle.std.specs.List.{list_all, range_with_len}
use Rattle.std.proofs.lemmas.Bool.{and_parts, eqb-true, leb-true}
use Rattle.std.proofs.lemmas.List.{length-take-le, length-drop}
use Rattle.std.proofs.lemmas.List.FromFn.{fill_by_all}
use Rattle.std.proofs.lemmas.Simd.{map-map}
use Rattle.vx_base.specs.declared.dtype.Nullability.{Nullability}
use Rattle.vx_base.specs.declared.dtype.Nullability.TheVariants.{NonNullable, Nullable}
use Rattle.vx_base.specs.declared.ptype.PType.{PType}
use Rattle.vx_base.specs.declared.ptype.PType.TheVariants.{U64}
use Rattle.vx_base.specs.PlainScalar.{fits}
use Rattle.vx_base.specs.PlainType.{is_nullable, allows_null}
use Rattle.vx_base.specs.PlainValue.{PlainValue, null, int}
use Rattle.vx_model.specs.Column.{column_of}
use Rattle.vx_model.specs.Decoded.{zeroed_by}
use Rattle.vx_model.specs.Nested.{concatenated}
use Rattle.vx_model.specs.Offsets.{offsets_from, offsets_of, offset_values}
use Rattle.vx_model.specs.Plain.{IsPlain, plain, plain_of, plain_offsets}
use Rattle.vx_model.specs.Rows.{rows, offset_at, cut_at}
use Rattle.vx_model.specs.Tree.{Tree, Validity, primitive, list}
use Rattle.vx_model.specs.TreeType.{tree_type}
use Rattle.vx_model.specs.WellFormed.{WellFormed, IsValidityOf, lies_between, are_offsets}
use Rattle.vx_model.proofs.DecodeLemmas.{wholes-map-int}
use Rattle.vx_model.proofs.FlatLemmas.{same_beneath}
use Rattle.vx_model.proofs.JoinedLemmas.{cut_joined}
use Rattle.vx_model.proofs.ListLemmas.{validity-list, items-list}
use Rattle.vx_model.proofs.MadeLemmas.{rows_fit}
use Rattle.vx_model.proofs.NestedLemmas.{elements-fit}
use Rattle.vx_model.proofs.OffsetLemmas.{offset_step, ends_of, all_between}
use Rattle.vx_model.proofs.PartLemmas.{concatenated-cut_at}
use Rattle.vx_model.proofs.PlainLemmas.{rows-plain_of}
use Rattle.vx_model.proofs.VarBinLemmas.{piece}
use Rattle.vx_array.specs.Beneath.{empty_beneath, is_u64, has_words}

-- ---- offsets into items are those of the parts that they cut

module _ {A : Type 0} (os : List PlainValue) (all : List A) (h : are_offsets (length all) os ≡ true) where
  long : (i : ℕ) → i + 1 < length os → offset_at os i + length (piece os all i) ≡ offset_at os (i + 1)
  long i l =
      let one = offset_step (length all) os i h l in
      let left = length-drop (offset_at os i) all in
      let own = length-take-le (offset_at os (i + 1) - offset_at os i) (Rattle.std.proofs.Common.drop (offset_at os i) all) (omega (arith, one.rising, one.within)) in
      omega (arith, one.rising)

  cut_from : (start n : ℕ) → start + n < length os → offsets_from (offset_at os start) (map (piece os all) (range_with_len start n)) ≡ map (offset_at os) (range_with_len start (suc n))
  cut_from start zero l = refl
  cut_from start (suc n) l =
      ap (λ here. offset_at os start ∷ offsets_from here (map (piece os all) (range_with_len (start + 1) n))) (long start (omega arith))
      ∙ ap (λ rest. offset_at os start ∷ rest) (cut_from (start + 1) n (omega arith))

  -- each is a whole number that isn't negative
  whole : (len : ℕ) (vs : List PlainValue) (i : ℕ) → list_all (lies_between 0 len) vs ≡ true → i < length vs → get_or vs i null ≡ int (pos (offset_at vs i))
  whole len [] i k l = absurd (omega arith)
  whole len (int (pos m) ∷ vs) zero k l = refl
  whole len (v ∷ vs) zero k l = absurd cc
  whole len (v ∷ vs) (suc i) k l = whole len vs i (and_parts (lies_between 0 len v) (list_all (lies_between 0 len) vs) k).1 (omega arith)

  pub cut-back : 1 ≤ length os → offset_values (cut_at os all) ≡ os
  cut-back some =
      let first = (ends_of (length all) os h).0 in
      let count : suc (length os - 1) ≡ length os = omega arith in
      let places : offsets_of (cut_at os all) ≡ map (offset_at os) (range_with_len 0 (length os)) =
      ap (λ here. offsets_from here (cut_at os all)) (sym first) ∙ cut_from 0 (length os - 1) (omega arith) ∙ ap (λ n. map (offset_at os) (range_with_len 0 n)) count in
      let values : map int (map pos (map (offset_at os) (range_with_len 0 (length os)))) ≡ map (λ i. int (pos (offset_at os i))) (range_with_len 0 (length os)) =
      ap (map int) (map-map pos (offset_at os) (range_with_len 0 (length os))) ∙ map-map int (λ i. pos (offset_at os i)) (range_with_len 0 (length os)) in
      ap (λ ns. map int (map pos ns)) places ∙ values
      ∙ sym (fill_by_all (λ i. int (pos (offset_at os i))) os (length os) null refl (λ i l. whole (length all + 1) os i (all_between (length all) os h) l))

-- ---- offsets that are plain

u64_is : (p : PType) → is_u64 p ≡ true → p ≡ U64
u64_is U64 e = refl
u64_is p e = absurd cc

never_null : (n : Nullability) → allows_null n ≡ false → n ≡ NonNullable
never_null NonNullable e = refl
never_null Nullable e = absurd cc

all_valid : (valid : Validity) (len : ℕ) (n : Nullability) → IsValidityOf valid len n → n ≡ NonNullable → valid ≡ None
all_valid None len n h e = refl
all_valid (Some bits) len n h e = let both : NonNullable ≡ Nullable = sym e ∙ h.1 in absurd cc

-- integers of the widest unsigned type that aren't null
pub words_are : (t : Tree) → WellFormed t → has_words t ≡ true → is_nullable (tree_type t) ≡ false → (ns : List ℕ) → rows t ≡ map int (map pos ns) → t ≡ primitive U64 (map pos ns) None NonNullable
words_are (primitive p xs valid n) w e k ns q =
    let kind = u64_is p e in
    let never = never_null n k in
    let none = all_valid valid (length xs) n w.0.validity never in
    let own : map int xs ≡ map int (map pos ns) = ap (λ v. Rattle.vx_model.specs.Rows.valid_rows v (map int xs)) (sym none) ∙ q in
    let wholes : xs ≡ map pos ns = sym (wholes-map-int xs) ∙ ap (map Rattle.vx_base.specs.PlainValue.whole_or_zero) own ∙ wholes-map-int (map pos ns) in
    λ i. primitive (kind i) (wholes i) (none i) (never i)
words_are t w e k ns q = absurd cc

-- ---- lists

no_items : (part : List PlainValue) → length part == 0 ≡ true → part ≡ []
no_items [] e = refl
no_items (v ∷ part) e = let none = eqb-true (length (v ∷ part)) 0 e in absurd (omega arith)

module _ (inside offsets : Tree) (valid : Validity) (n : Nullability) (w : WellFormed (list inside offsets valid n)) where
  abbrev pub parts : List (List PlainValue)
  parts = cut_at (rows offsets) (rows inside)

  abbrev pub own_lists : List (List PlainValue)
  own_lists = zeroed_by [] valid parts

  unchanged : (IsTrue (empty_beneath valid parts)) ↔ (own_lists ≡ parts)
  unchanged = same_beneath [] (λ part. length part == 0) no_items refl valid parts

  plain_by : plain (column_of (list inside offsets valid n)) ≡ list (plain_of (tree_type inside) (concatenated own_lists)) (plain_offsets own_lists) valid n
  plain_by =
      let lists = items-list inside offsets valid n w in
      λ i. list (plain_of (tree_type inside) (concatenated (lists i))) (plain_offsets (lists i)) (validity-list inside offsets valid n w i) n

  some : 1 ≤ length (rows offsets)
  some = leb-true 1 (length (rows offsets)) w.2.some

  pub list-plain : IsPlain inside → has_words offsets ≡ true → IsTrue (empty_beneath valid parts) → IsPlain (list inside offsets valid n)
  list-plain p words e =
      let back = unchanged.0 e in
      let elements : concatenated own_lists ≡ rows inside = ap concatenated back ∙ concatenated-cut_at (rows offsets) (rows inside) w.2.ends some in
      let places : rows offsets ≡ offset_values own_lists = sym (cut-back (rows offsets) (rows inside) w.2.ends some) ∙ ap offset_values (sym back) in
      let words = words_are offsets w.1 words w.2.not_null (offsets_of own_lists) places in
      (λ i. list ((p ∙ ap (plain_of (tree_type inside)) (sym elements)) i) (words i) valid n) ∙ sym plain_by

  pub plain-list : IsPlain (list inside offsets valid n) → IsPlain inside × (has_words offsets ≡ true) × IsTrue (empty_beneath valid parts)
  plain-list q =
      let same : list inside offsets valid n ≡ list (plain_of (tree_type inside) (concatenated own_lists)) (plain_offsets own_lists) valid n = q ∙ plain_by in
      let first : inside ≡ plain_of (tree_type inside) (concatenated own_lists) = cc in
      let second : offsets ≡ plain_offsets own_lists = cc in
      let fit : list_all (fits (tree_type inside)) (concatenated own_lists) ≡ true =
      ap (λ ls. list_all (fits (tree_type inside)) (concatenated ls)) (sym (items-list inside offsets valid n w))
      ∙ elements-fit (tree_type inside) n (rows (list inside offsets valid n)) (rows_fit (list inside offsets valid n) w) in
      let values : rows inside ≡ concatenated own_lists = ap rows first ∙ rows-plain_of (tree_type inside) (concatenated own_lists) fit in
      let cut : parts ≡ own_lists = (λ i. cut_at (rows (second i)) (values i)) ∙ cut_joined own_lists in
      (first ∙ ap (plain_of (tree_type inside)) (sym values), ap has_words second, unchanged.1 (sym cut))
