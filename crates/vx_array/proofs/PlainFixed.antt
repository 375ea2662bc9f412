-- When trees of lists of one size are plain: their elements are, and those of a null list are the defaults.
use Rattle.std.proofs.Common.{◌≡◌, ◌∙◌, ℕ, zero, suc, List, [], ◌∷◌, length, refl, sym, ap, arith, Bool, true, Some, None}
use Rattle.std.specs.Prelude.{IsTrue, ◌↔◌, ◌==◌, ◌&&◌, ◌||◌, replicate}
use Rattle.std.specs.List.{list_all}
use Rattle.std.proofs.lemmas.Bool.{and_parts, and_from, eqb-true, eq-eqb}
use Rattle.std.proofs.lemmas.List.{length-replicate}
use Rattle.vx_base.specs.declared.dtype.Nullability.{Nullability}
use Rattle.vx_base.specs.declared.dtype.Nullability.TheVariants.{NonNullable}
use Rattle.vx_base.specs.Defaults.{default_of, null_or_default}
use Rattle.vx_base.specs.PlainScalar.{fits}
use Rattle.vx_base.specs.PlainType.{PlainType}
use Rattle.vx_base.specs.PlainType as types
use Rattle.vx_base.specs.PlainValue.{PlainValue, items_or_empty}
use Rattle.vx_base.proofs.WithinLemmas.{list_of-of_list}
use Rattle.vx_model.specs.Column.{column_of}
use Rattle.vx_model.specs.Decoded.{zeroed_by, zero_beneath, zero_beneath_by}
use Rattle.vx_model.specs.Nested.{concatenated}
use Rattle.vx_model.specs.Plain.{IsPlain, plain, plain_of}
use Rattle.vx_model.specs.Rows.{rows, parts_of}
use Rattle.vx_model.specs.Tree.{Tree, Validity, fixed_size_list}
use Rattle.vx_model.specs.TreeType.{tree_type}
use Rattle.vx_model.specs.WellFormed.{WellFormed}
use Rattle.vx_model.proofs.FixedSizeListLemmas.{length-fixed_size_list, validity-fixed_size_list, items-fixed_size_list}
use Rattle.vx_model.proofs.FlatLemmas.{same_beneath}
use Rattle.vx_model.proofs.MadeLemmas.{rows_fit}
use Rattle.vx_model.proofs.NestedLemmas.{fixed_elements-fit, fixed_rows-sized, length-fixed_rows, parts_of-concatenated}
use Rattle.vx_model.proofs.PartLemmas.{concatenated-parts_of, parts_of-sized}
use Rattle.vx_model.proofs.PlainLemmas.{rows-plain_of}
use Rattle.vx_array.specs.Beneath.{is_default, defaults_within}
use Rattle.vx_array.proofs.PlainNested.{default_found, default_is}

module _ (t : PlainType) (size : ℕ) where
  -- the items of a null list
  abbrev pub default : List PlainValue
  default = items_or_empty (default_of (types.fixed_size_list t size NonNullable))

  copies : default ≡ replicate size (null_or_default t)
  copies = list_of-of_list (replicate size (null_or_default t))

  -- as many defaults as the list size
  abbrev pub are_defaults : List PlainValue → Bool
  are_defaults part = length part == size && list_all (is_default t) part

  each_default : (part : List PlainValue) (count : ℕ) → length part ≡ count → list_all (is_default t) part ≡ true → part ≡ replicate count (null_or_default t)
  each_default [] zero l h = refl
  each_default [] (suc count) l h = absurd (omega arith)
  each_default (v ∷ part) zero l h = absurd (omega arith)
  each_default (v ∷ part) (suc count) l h =
      let b = and_parts (is_default t v) (list_all (is_default t) part) h in λ i. default_found t v b.0 i ∷ each_default part count (omega arith) b.1 i

  defaults_found : (part : List PlainValue) → are_defaults part ≡ true → part ≡ default
  defaults_found part h = let b = and_parts (length part == size) (list_all (is_default t) part) h in each_default part size (eqb-true (length part) size b.0) b.1 ∙ sym copies

  all_copies : (count : ℕ) → list_all (is_default t) (replicate count (null_or_default t)) ≡ true
  all_copies zero = refl
  all_copies (suc count) = and_from _ _ (default_is t) (all_copies count)

  defaults_are : are_defaults default ≡ true
  defaults_are = ap are_defaults copies ∙ and_from _ _ (eq-eqb _ _ (length-replicate size (null_or_default t))) (all_copies size)

  -- of parts of the size the one test says what the other does
  same_test : (bits : List Bool) (parts : List (List PlainValue)) → list_all (λ part. length part == size) parts ≡ true → zero_beneath (λ part. list_all (is_default t) part) bits parts ≡ zero_beneath are_defaults bits parts
  same_test [] parts h = refl
  same_test (b ∷ bits) [] h = refl
  same_test (b ∷ bits) (part ∷ parts) h =
      let s = and_parts (length part == size) (list_all (λ p. length p == size) parts) h in
      λ i. (b || (sym s.0 i && list_all (is_default t) part)) && same_test bits parts s.1 i

  pub same_test_by : (valid : Validity) (parts : List (List PlainValue)) → list_all (λ part. length part == size) parts ≡ true → defaults_within t valid parts ≡ zero_beneath_by are_defaults valid parts
  same_test_by None parts h = refl
  same_test_by (Some bits) parts h = same_test bits parts h

module _ (inside : Tree) (size len : ℕ) (valid : Validity) (n : Nullability) (w : WellFormed (fixed_size_list inside size len valid n)) where
  abbrev pub t : PlainType
  t = tree_type inside

  abbrev pub parts : List (List PlainValue)
  parts = parts_of size len (rows inside)

  abbrev pub own_lists : List (List PlainValue)
  own_lists = zeroed_by (default t size) valid parts

  unchanged : (IsTrue (zero_beneath_by (are_defaults t size) valid parts)) ↔ (own_lists ≡ parts)
  unchanged = same_beneath (default t size) (are_defaults t size) (defaults_found t size) (defaults_are t size) valid parts

  test : defaults_within t valid parts ≡ zero_beneath_by (are_defaults t size) valid parts
  test = same_test_by t size valid parts (parts_of-sized size len (rows inside) w.1.lengths)

  plain_by : plain (column_of (fixed_size_list inside size len valid n)) ≡ fixed_size_list (plain_of t (concatenated own_lists)) size len valid n
  plain_by =
      λ i. fixed_size_list (plain_of t (concatenated (items-fixed_size_list inside size len valid n w t i))) size (length-fixed_size_list inside size len valid n w i) (validity-fixed_size_list inside size len valid n w i) n

  pub fixed-plain : IsPlain inside → IsTrue (defaults_within t valid parts) → IsPlain (fixed_size_list inside size len valid n)
  fixed-plain p e =
      let elements : concatenated own_lists ≡ rows inside = ap concatenated (unchanged.0 (sym test ∙ e)) ∙ concatenated-parts_of size len (rows inside) w.1.lengths in
      ap (λ es. fixed_size_list es size len valid n) (p ∙ ap (plain_of t) (sym elements)) ∙ sym plain_by

  pub plain-fixed : IsPlain (fixed_size_list inside size len valid n) → IsPlain inside × IsTrue (defaults_within t valid parts)
  plain-fixed q =
      let tree = fixed_size_list inside size len valid n in
      let same : tree ≡ fixed_size_list (plain_of t (concatenated own_lists)) size len valid n = q ∙ plain_by in
      let first : inside ≡ plain_of t (concatenated own_lists) = cc in
      let lists = items-fixed_size_list inside size len valid n w t in
      let fit : list_all (fits t) (concatenated own_lists) ≡ true = ap (λ ls. list_all (fits t) (concatenated ls)) (sym lists) ∙ fixed_elements-fit t size n (rows tree) (rows_fit tree w) in
      let values : rows inside ≡ concatenated own_lists = ap rows first ∙ rows-plain_of t (concatenated own_lists) fit in
      let sized = ap (list_all (λ part. length part == size)) (sym lists) ∙ fixed_rows-sized t size n (rows tree) (rows_fit tree w) in
      let count : length own_lists ≡ len = ap length (sym lists) ∙ length-fixed_rows t size (rows tree) ∙ length-fixed_size_list inside size len valid n w in
      let cut : parts ≡ own_lists = ap (parts_of size len) values ∙ ap (λ k. parts_of size k (concatenated own_lists)) (sym count) ∙ parts_of-concatenated size own_lists sized in
      (first ∙ ap (plain_of t) (sym values), test ∙ unchanged.1 (sym cut))
