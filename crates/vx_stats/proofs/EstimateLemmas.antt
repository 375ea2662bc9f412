-- Keys of the rows of texts and binaries.
use Rattle.std.proofs.Common.{◌≡◌, ℕ, zero, suc, true, false, cond, List, [], ◌∷◌, length, map, replicate, Some, None, refl, sym, ap, ◌∙◌, arith}
use Rattle.std.specs.Prelude.{◌||◌, min}
use Rattle.std.specs.List.{list_any}
use Rattle.std.specs.Set.{is_member, unique_keys, distinct_count}
use Rattle.std.proofs.lemmas.Bool.{eqb-true}
use Rattle.std.proofs.lemmas.List.{length-map}
use Rattle.vx_base.specs.PlainValue.{PlainValue, bytes, is_null, bytes_or_empty}
use Rattle.vx_model.specs.Decoded.{zeroed, zeroed_by}
use Rattle.vx_model.specs.Refusals.{validity_length}
use Rattle.vx_model.specs.Rows.{valid_rows}
use Rattle.vx_model.specs.Tree.{Validity}
use Rattle.vx_model.proofs.DecodeLemmas.{map-masked_rows}
use Rattle.vx_stats.specs.Keys.{key_of, same_key}
use Rattle.vx_stats.specs.Strings.{distinct_keys}
use Rattle.vx_stats.proofs.KeyLemmas.{same_key-same}

bytes-back : (vs : List (List ℕ)) → map bytes_or_empty (map bytes vs) ≡ vs
bytes-back [] = refl
bytes-back (v ∷ vs) = ap (λ r. v ∷ r) (bytes-back vs)

-- the bytes of rows, none beneath nulls
pub bytes-valid_rows : (valid : Validity) (vs : List (List ℕ)) → validity_length valid (length vs) ≡ true → map bytes_or_empty (valid_rows valid (map bytes vs)) ≡ zeroed_by [] valid vs
bytes-valid_rows None vs h = bytes-back vs
bytes-valid_rows (Some bits) vs h =
    map-masked_rows bytes_or_empty bits (map bytes vs) (eqb-true (length bits) (length vs) h ∙ sym (length-map vs bytes)) ∙ ap (zeroed [] bits) (bytes-back vs)

pub none-null : (vs : List (List ℕ)) → list_any is_null (map bytes vs) ≡ false
none-null [] = refl
none-null (v ∷ vs) = none-null vs

-- equal rows have one key
keys-copies : (n : ℕ) (v : PlainValue) → map key_of (map bytes_or_empty (replicate n v)) ≡ replicate n (key_of (bytes_or_empty v))
keys-copies zero v = refl
keys-copies (suc n) v = ap (λ r. key_of (bytes_or_empty v) ∷ r) (keys-copies n v)

one-key : (n : ℕ) (k : ℕ × List ℕ) → distinct_count same_key (replicate (suc n) k) ≡ 1
one-key zero k = refl
one-key (suc n) k = ap (λ b. length (cond (b || is_member same_key (replicate n k) k) (unique_keys same_key (replicate (suc n) k)) (k ∷ unique_keys same_key (replicate (suc n) k)))) (same_key-same k) ∙ one-key n k

pub distinct-copies : (n : ℕ) (v : PlainValue) → distinct_keys (replicate n v) ≡ min n 1
distinct-copies zero v = refl
distinct-copies (suc n) v = ap (distinct_count same_key) (keys-copies (suc n) v) ∙ one-key n (key_of (bytes_or_empty v)) ∙ omega arith
