-- What the data of a sparse array feed a hash, and the laws of their equality.
use Rattle.std.specs.Prelude.{◌≡◌, ◌++◌, ℕ, true, refl}
use Rattle.std.proofs.Common.{ap}
use Rattle.std.specs.Hash as fed
use Rattle.std.specs.Hash.{HashWrites}
use Rattle.vx_base.specs.PlainScalar.{PlainScalar, stored_scalar}
use Rattle.vx_base.specs.Storable.{Storable, stored×, stored_ℕ, same_refl, same_path, same_symm, same_trans, same_congr}
use Rattle.vx_base.specs.Writes.{scalar_writes}
use Rattle.vx_sparse_array.specs.Data.{same_data}
use Rattle.vx_sparse_array.specs.declared.sparse_data.SparseData.{SparseData}

-- data feed a hash their length, their offset, their number of patches and their fill
abbrev pub data_writes : SparseData → HashWrites
data_writes d = fed.u64 d.len ++ fed.u64 d.offset ++ fed.u64 d.num_patches ++ scalar_writes d.fill.now

-- ---- equality as that of nested pairs

abbrev parts : SparseData → ((ℕ × ℕ) × ℕ) × PlainScalar
parts d = (((d.len, d.offset), d.num_patches), d.fill.now)

abbrev stored_parts : Storable (((ℕ × ℕ) × ℕ) × PlainScalar)
stored_parts = stored× (stored× (stored× stored_ℕ stored_ℕ) stored_ℕ) stored_scalar

abbrev parts_writes : ((ℕ × ℕ) × ℕ) × PlainScalar → HashWrites
parts_writes p = fed.u64 p.0.0.0 ++ fed.u64 p.0.0.1 ++ fed.u64 p.0.1 ++ scalar_writes p.1

pub data_refl : (a : SparseData) → same_data a a ≡ true
data_refl a = same_refl stored_parts (parts a) (parts a) refl

pub data_symm : (a b : SparseData) → same_data a b ≡ same_data b a
data_symm a b = same_symm stored_parts (parts a) (parts b)

pub data_trans : (a b c : SparseData) → same_data a b ≡ true → same_data b c ≡ true → same_data a c ≡ true
data_trans a b c = same_trans stored_parts (parts a) (parts b) (parts c)

pub data_congr : (a b c : SparseData) → same_data a b ≡ true → same_data a c ≡ same_data b c
data_congr a b c = same_congr stored_parts (parts a) (parts b) (parts c)

-- equal data feed a hash alike
pub data_alike : (a b : SparseData) → same_data a b ≡ true → data_writes a ≡ data_writes b
data_alike a b e = ap parts_writes (same_path stored_parts (parts a) (parts b) e)
