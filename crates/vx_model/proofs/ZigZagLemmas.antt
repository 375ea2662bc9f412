-- Zigzags: their rows, that a constructor's tree is well formed, and their decoding.
use Rattle.std.proofs.Common.{◌≡◌, ◌<◌, ◌∙◌, ℕ, ℤ, pos, negsuc, List, length, map, refl, ap, sym, arith, true, None}
use Rattle.std.specs.Prelude.{not, unsigned_abs}
use Rattle.std.specs.List.{list_all, list_any}
use Rattle.std.proofs.lemmas.Bool.{lt-ltb, ltb-true}
use Rattle.vx_base.specs.declared.ptype.PType.{PType}
use Rattle.vx_base.specs.declared.ptype.PType.TheVariants.{U8, U16, U32, U64, I8, I16, I32, I64}
use Rattle.vx_base.specs.declared.dtype.Nullability.{Nullability}
use Rattle.vx_base.specs.Integers.{is_signed, lies_in, signed_of}
use Rattle.vx_base.specs.PlainScalar.{fits}
use Rattle.vx_base.specs.PlainType.{PlainType, is_unsigned}
use Rattle.vx_base.specs.PlainType as types
use Rattle.vx_base.specs.PlainValue.{PlainValue, int, is_null, whole_or_zero}
use Rattle.vx_base.proofs.ZigZagLemmas.{unzigzag-held, word_bits}
use Rattle.vx_model.specs.Tree.{Tree, zig_zag}
use Rattle.vx_model.specs.Plain.{validity}
use Rattle.vx_model.specs.Refusals.{zig_zag_refusal}
use Rattle.vx_model.specs.Rows.{rows, row_at, unzigzagged, unzigzagged_whole}
use Rattle.vx_model.specs.TreeType.{tree_type, zig_zag_type}
use Rattle.vx_model.specs.WellFormed.{WellFormed}
use Rattle.vx_model.proofs.EachIntLemmas.{length-each_int, row_at-each_int, any_null-each_int, validity-each_int, wholes-each_int-zero, all_fit-each_int}
use Rattle.vx_model.proofs.FrameOfReferenceLemmas.{row_fits}
use Rattle.vx_model.proofs.MadeLemmas.{rows_fit}
use Rattle.vx_model.proofs.PackedLemmas.{passed}

pub length-zig_zag : (encoded : Tree) → length (rows (zig_zag encoded)) ≡ length (rows encoded)
length-zig_zag encoded = length-each_int unzigzagged_whole (rows encoded)

pub row_at-zig_zag : (encoded : Tree) (i : ℕ) → i < length (rows encoded) → row_at (rows (zig_zag encoded)) i ≡ unzigzagged (row_at (rows encoded) i)
row_at-zig_zag encoded i l = row_at-each_int unzigzagged_whole (rows encoded) i l

pub ruleset zig_zag_reads = (length-zig_zag, row_at-zig_zag)

-- ---- each row fits

unzigzagged-held : (p : PType) (n : Nullability) (z : ℤ) → is_unsigned (types.primitive p n) ≡ true → lies_in p z ≡ true → lies_in (signed_of p) (unzigzagged_whole z) ≡ true
unzigzagged-held p n z e h = unzigzag-held p (unsigned_abs z) (word_bits p z e h).1

all_unzigzagged_fit : (t : PlainType) (rs : List PlainValue) → is_unsigned t ≡ true → list_all (fits t) rs ≡ true → list_all (fits (zig_zag_type t)) (map unzigzagged rs) ≡ true
all_unzigzagged_fit (types.primitive p n) rs e h = all_fit-each_int unzigzagged_whole p (signed_of p) n (λ z l. unzigzagged-held p n z e l) rs h
all_unzigzagged_fit t rs e h = absurd cc

-- ---- a constructor's tree is well formed, where nothing is refused

pub zig_zag_accepted : (encoded : Tree) → zig_zag_refusal encoded ≡ None → WellFormed encoded → WellFormed (zig_zag encoded)
zig_zag_accepted encoded h w =
    let a = passed _ _ _ h in
    (w, record { unsigned = a.0 }, all_unzigzagged_fit (tree_type encoded) (rows encoded) a.0 (rows_fit encoded w))

-- ---- a row is a word of 64 bits

lies_in_word : (p : PType) (z : ℤ) → not (is_signed p) ≡ true → lies_in p z ≡ true → lies_in U64 z ≡ true
lies_in_word U8 (pos n) e h = lt-ltb _ _ (omega (arith, ltb-true _ _ h))
lies_in_word U16 (pos n) e h = lt-ltb _ _ (omega (arith, ltb-true _ _ h))
lies_in_word U32 (pos n) e h = lt-ltb _ _ (omega (arith, ltb-true _ _ h))
lies_in_word U64 z e h = h
lies_in_word U8 (negsuc n) e h = absurd cc
lies_in_word U16 (negsuc n) e h = absurd cc
lies_in_word U32 (negsuc n) e h = absurd cc
lies_in_word I8 z e h = absurd cc
lies_in_word I16 z e h = absurd cc
lies_in_word I32 z e h = absurd cc
lies_in_word I64 z e h = absurd cc

int_word : (t : PlainType) (z : ℤ) → is_unsigned t ≡ true → fits t (int z) ≡ true → lies_in U64 z ≡ true
int_word (types.primitive p n) z e h = lies_in_word p z e h
int_word t z e h = absurd cc

pub encoded-word : (encoded : Tree) (i : ℕ) (z : ℤ) → WellFormed (zig_zag encoded) → i < length (rows encoded) → row_at (rows encoded) i ≡ int z → lies_in U64 z ≡ true
encoded-word encoded i z h l e = int_word (tree_type encoded) z h.1.unsigned (ap (fits (tree_type encoded)) (sym e) ∙ row_fits encoded i h.0 l)

-- ---- decoding: whole numbers with 0 beneath nulls, and validity

-- 0 is its own zigzag
pub wholes-zig_zag : (encoded : Tree) → map whole_or_zero (rows (zig_zag encoded)) ≡ map unzigzagged_whole (map whole_or_zero (rows encoded))
wholes-zig_zag encoded = wholes-each_int-zero unzigzagged_whole refl (rows encoded)

pub any_null-zig_zag : (encoded : Tree) → list_any is_null (rows (zig_zag encoded)) ≡ list_any is_null (rows encoded)
any_null-zig_zag encoded = any_null-each_int unzigzagged_whole (rows encoded)

pub validity-zig_zag : (encoded : Tree) → validity (rows (zig_zag encoded)) ≡ validity (rows encoded)
validity-zig_zag encoded = validity-each_int unzigzagged_whole (rows encoded)
