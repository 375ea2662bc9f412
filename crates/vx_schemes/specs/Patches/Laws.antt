-- Compressed patches have the rows, values and chunk offsets of those that they were made of, and are well formed.
use Rattle.std.proofs.Common.{◌≡◌, ◌<◌, ◌≤◌, ◌+◌, ◌^◌, ◌∙◌, ℕ, zero, suc, ℤ, pos, Bool, true, false, List, [], ◌∷◌, length, map, Option, Some, None, cond, refl, sym, ap, subst, arith}
use Rattle.std.specs.Prelude.{nat_lt, slice_index_or, replicate, option_map}
use Rattle.std.specs.List.{list_all}
use Rattle.std.proofs.lemmas.Bool.{and_from, and_parts, ltb-true, lt-ltb}
use Rattle.vx_base.specs.declared.ptype.PType.{PType}
use Rattle.vx_base.specs.declared.ptype.PType.TheVariants.{U64}
use Rattle.vx_base.specs.declared.dtype.Nullability.TheVariants.{NonNullable}
use Rattle.vx_base.specs.Integers.{lies_in}
use Rattle.vx_base.specs.PlainScalar.{fits, scalar}
use Rattle.vx_base.specs.PlainType.{PlainType, is_flat}
use Rattle.vx_base.specs.PlainValue.{PlainValue, int, whole_or_zero, same_value, stored_value}
use Rattle.vx_base.specs.Storable.{same_path}
use Rattle.vx_model.specs.Column.{Column, IsColumn, column, column_of}
use Rattle.vx_model.specs.Rows.{rows}
use Rattle.vx_model.specs.Tree.{Tree, PlainPatches}
use Rattle.vx_model.specs.TreeType.{tree_type}
use Rattle.vx_model.specs.WellFormed.{WellFormed, IsPatches, ascend, are_chunk_offsets, WellFormedChunks, WellFormedPatches}
use Rattle.vx_model.proofs.FewLemmas.{few-flat}
use Rattle.vx_model.proofs.MadeLemmas.{rows_fit, primitive_made, constant_made}
use Rattle.vx_schemes_common.specs.Narrowed.{index_type}
use Rattle.vx_schemes_common.specs.NarrowedLaws.{index_type-holds}
use Rattle.vx_schemes_common.specs.Rising.{rows_below, ascend-whole, fit_all}
use Rattle.vx_schemes.specs.Patches.Compressed.{shared_value, narrowed, shared_or_plain, constant_or_plain, compressed_patches, PatchAlike}
use Rattle.vx_schemes.specs.Patches.Words.{words-whole, indices-rising, chunks-rising}
use Rattle.vx_model.proofs.PackedLemmas.{patches_accepted}
use Rattle.vx_model.proofs.PlainLemmas.{rows-plain_of, plain_well_formed, wholes_lie_in}
use Rattle.vx_schemes.specs.BitPacking.Tree.{patches_at}
use Rattle.vx_schemes.specs.BitPacking.Admitted.{patches_admitted, type-constant_or_plain}

-- ---- the indices and the shared value fit

-- a value that every row has fits their type
pub shared-fits : (t : PlainType) (vs : List PlainValue) (v : PlainValue) → list_all (fits t) vs ≡ true → shared_value vs ≡ Some v → fits t v ≡ true
shared-fits t [] v h e = absurd cc
shared-fits t (w ∷ vs) v h e = by_test (list_all (λ u. same_value u w) vs) e
  where
    by_test : (b : Bool) → cond b (Some w) None ≡ Some v → fits t v ≡ true
    by_test true q = let same : w ≡ v = cc in subst (λ u. fits t u ≡ true) same (and_parts (fits t w) (list_all (fits t) vs) h).0
    by_test false q = absurd cc

-- ---- the same rows

pub rows-narrowed : (t : Tree) (low high : ℕ) → ascend low high (rows t) ≡ true → rows (narrowed t) ≡ rows t
rows-narrowed t low high a = ascend-whole low high (rows t) a

copies : (v : PlainValue) (vs : List PlainValue) → list_all (λ w. same_value w v) vs ≡ true → replicate (length vs) v ≡ vs
copies v [] h = refl
copies v (w ∷ vs) h =
    let b = and_parts (same_value w v) (list_all (λ u. same_value u v) vs) h in
    let first = sym (same_path stored_value w v b.0) in
    let rest = copies v vs b.1 in
    λ i. first i ∷ rest i

shared-copies : (vs : List PlainValue) (v : PlainValue) → shared_value vs ≡ Some v → replicate (length vs) v ≡ vs
shared-copies [] v e = absurd cc
shared-copies (w ∷ vs) v e = by_test (list_all (λ u. same_value u w) vs) refl e
  where
    by_test : (b : Bool) → list_all (λ u. same_value u w) vs ≡ b → cond b (Some w) None ≡ Some v → replicate (length (w ∷ vs)) v ≡ w ∷ vs
    by_test true all q = let same : w ≡ v = cc in subst (λ u. replicate (length (w ∷ vs)) u ≡ w ∷ vs) same (ap (λ us. w ∷ us) (copies w vs all))
    by_test false all q = absurd cc

pub rows-constant_or_plain : (c : Column) → IsColumn c → rows (constant_or_plain c) ≡ c.values
rows-constant_or_plain c h = by_value (shared_value c.values) refl
  where
    by_value : (o : Option PlainValue) → shared_value c.values ≡ o → rows (shared_or_plain c o) ≡ c.values
    by_value None e = rows-plain_of c.dtype c.values h
    by_value (Some v) e = shared-copies c.values v e

pub short_alike : (p : PlainPatches) → WellFormedPatches p → PatchAlike p (compressed_patches p)
short_alike p h =
    record {
      array_len = refl;
      offset = refl;
      indices = rows-narrowed p.indices p.offset (p.offset + p.array_len) h.2.ascending;
      values = λ i. column (type-constant_or_plain (column_of p.values) i) (rows-constant_or_plain (column_of p.values) (rows_fit p.values h.1) i);
      chunks = by_chunks p.chunks refl;
    }
  where
    by_chunks : (o : Option Tree) → p.chunks ≡ o → option_map rows (option_map narrowed o) ≡ option_map rows o
    by_chunks None e = refl
    by_chunks (Some chunks) e = let rising = chunks-rising p chunks e h in ap Some (words-whole (rows chunks) rising.words)

-- ---- well formed

constant_or_plain-well : (c : Column) → is_flat c.dtype ≡ true → IsColumn c → WellFormed (constant_or_plain c)
constant_or_plain-well c flat h = by_value (shared_value c.values) refl
  where
    by_value : (o : Option PlainValue) → shared_value c.values ≡ o → WellFormed (shared_or_plain c o)
    by_value None e = plain_well_formed c h (few-flat c.dtype c.values flat)
    by_value (Some v) e = constant_made (scalar c.dtype v) (length c.values) (shared-fits c.dtype c.values v h e)

narrowed-well : (t : Tree) → fit_all U64 (rows t) ≡ true → WellFormed (narrowed t)
narrowed-well t words =
    primitive_made (index_type (rows t)) (map whole_or_zero (rows t)) None NonNullable refl refl (wholes_lie_in (index_type (rows t)) NonNullable (rows t) (index_type-holds (rows t) words))

pub short_patches : (p : PlainPatches) → WellFormedPatches p → IsPatches p.array_len p.offset (narrowed p.indices) (constant_or_plain (column_of p.values))
short_patches p h =
    let low = p.offset in
    let high = p.offset + p.array_len in
    let is = rows-narrowed p.indices low high h.2.ascending in
    let vs = rows-constant_or_plain (column_of p.values) (rows_fit p.values h.1) in
    record {
      indices_type = refl;
      not_null = refl;
      lengths = ap length is ∙ h.2.lengths ∙ sym (ap length vs);
      ascending = ap (ascend low high) is ∙ h.2.ascending;
    }

pub short_chunks : (p : PlainPatches) → WellFormedPatches p → WellFormedChunks p.array_len p.offset (narrowed p.indices) (option_map narrowed p.chunks)
short_chunks p h = by_chunks p.chunks refl h.3
  where
    by_chunks : (o : Option Tree) → p.chunks ≡ o → WellFormedChunks p.array_len p.offset p.indices o → WellFormedChunks p.array_len p.offset (narrowed p.indices) (option_map narrowed o)
    by_chunks None e w = tt
    by_chunks (Some chunks) e w =
        let rising = chunks-rising p chunks e h in
        let is = rows-narrowed p.indices p.offset (p.offset + p.array_len) h.2.ascending in
        let os = words-whole (rows chunks) rising.words in
        let own = w.1 in
        (narrowed-well chunks rising.words, record { chunks_type = refl; lengths = ap length os ∙ own.lengths; counted = (λ i. are_chunk_offsets (is i) (os i)) ∙ own.counted })

-- where the values are flat
pub short_well : (p : PlainPatches) → is_flat (tree_type p.values) ≡ true → WellFormedPatches p → WellFormedPatches (compressed_patches p)
short_well p flat h =
    (narrowed-well p.indices (indices-rising p h).words, constant_or_plain-well (column_of p.values) flat (rows_fit p.values h.1), short_patches p h, short_chunks p h)

-- ---- the patches at some rows

row_words : (n : ℕ) (chosen : List ℕ) → n ≤ 2 ^ 64 → list_all (λ row. nat_lt row n) chosen ≡ true → list_all (lies_in U64) (map pos chosen) ≡ true
row_words n [] l h = refl
row_words n (row ∷ chosen) l h =
    let b = and_parts (nat_lt row n) (list_all (λ r. nat_lt r n) chosen) h in
    and_from _ _ (lt-ltb _ _ (omega (arith, ltb-true row n b.0))) (row_words n chosen l b.1)

each_at : (q : ℤ → Bool) (xs : List ℤ) (i : ℕ) → i < length xs → list_all q xs ≡ true → q (slice_index_or xs i (pos 0)) ≡ true
each_at q [] i l h = absurd (omega arith)
each_at q (x ∷ xs) zero l h = (and_parts (q x) (list_all q xs) h).0
each_at q (x ∷ xs) (suc i) l h = each_at q xs i (omega arith) (and_parts (q x) (list_all q xs) h).1

gathered_held : (q : ℤ → Bool) (xs : List ℤ) (chosen : List ℕ) → list_all q xs ≡ true → list_all (λ row. nat_lt row (length xs)) chosen ≡ true → list_all q (map (λ row. slice_index_or xs row (pos 0)) chosen) ≡ true
gathered_held q xs [] h l = refl
gathered_held q xs (row ∷ chosen) h l =
    let b = and_parts (nat_lt row (length xs)) (list_all (λ r. nat_lt r (length xs)) chosen) l in
    and_from _ _ (each_at q xs row (ltb-true row (length xs) b.0) h) (gathered_held q xs chosen h b.1)

gathered-well : (p : PType) (xs : List ℤ) (chosen : List ℕ) → list_all (lies_in p) xs ≡ true → ascend 0 (length xs) (map int (map pos chosen)) ≡ true → WellFormed (patches_at p xs chosen).values
gathered-well p xs chosen held a =
    primitive_made p (map (λ row. slice_index_or xs row (pos 0)) chosen) None NonNullable refl refl (gathered_held (lies_in p) xs chosen held (rows_below 0 (length xs) chosen a))

-- their values fit the type
pub values-column : (p : PType) (xs : List ℤ) (chosen : List ℕ) → list_all (lies_in p) xs ≡ true → ascend 0 (length xs) (map int (map pos chosen)) ≡ true → IsColumn (column_of (patches_at p xs chosen).values)
values-column p xs chosen held a = rows_fit (patches_at p xs chosen).values (gathered-well p xs chosen held a)

pub patches_at-well : (p : PType) (xs : List ℤ) (chosen : List ℕ) → length xs ≤ 2 ^ 64 → list_all (lies_in p) xs ≡ true → ascend 0 (length xs) (map int (map pos chosen)) ≡ true → WellFormedPatches (patches_at p xs chosen)
patches_at-well p xs chosen few held a =
    let below = rows_below 0 (length xs) chosen a in
    patches_accepted (patches_at p xs chosen) (patches_admitted p xs chosen a) (primitive_made U64 (map pos chosen) None NonNullable refl refl (row_words (length xs) chosen few below))
    (gathered-well p xs chosen held a) tt
