-- A sum of whole numbers as the difference of two sums of natural numbers.
use Rattle.std.proofs.Common.{◌≡◌, ◌<◌, ◌≤◌, ◌^◌, ◌∙◌, ◌+◌, ◌*◌, ◌-◌, ℕ, ℤ, pos, negsuc, ◌-ℤ◌, true, false, List, [], ◌∷◌, map, length, sym, arith}
use Rattle.std.specs.Prelude.{sum_by}
use Rattle.std.specs.List.{list_all}
use Rattle.std.proofs.Math.Nat as nat
use Rattle.std.proofs.lemmas.Bool.{and_parts, ltb-true}
use Rattle.std.proofs.lemmas.Int.{ints}
use Rattle.std.proofs.lemmas.List.Sums.{sum_by-cons}
use Rattle.vx_base.specs.declared.ptype.PType.{PType}
use Rattle.vx_base.specs.declared.ptype.PType.TheVariants.{U8, U16, U32, U64, I8, I16, I32, I64}
use Rattle.vx_base.specs.Integers.{lies_in}
use Rattle.vx_base.specs.PlainScalar.{PlainScalar, fits}
use Rattle.vx_base.specs.PlainType.{PlainType, primitive, boolean}
use Rattle.vx_base.specs.declared.dtype.Nullability.{Nullability}
use Rattle.vx_base.specs.PlainValue.{PlainValue, truth, int, null}
use Rattle.vx_base.specs.Undelta.{total}
use Rattle.vx_model.specs.Rows.{rows}
use Rattle.vx_model.specs.Tree.{PlainPatches, sparse_of}
use Rattle.vx_model.specs.WellFormed.{WellFormedPatches}
use Rattle.vx_rules.specs.Aggregates.{summand}
use Rattle.vx_sparse.specs.Kernels.{is_summable, unpatched}
use Rattle.vx_sparse.specs.SumParts.{positive, negative, ups, downs}
use Rattle.vx_sparse.proofs.KernelTypes.{bits-most}
use Rattle.vx_sparse.proofs.SparseSums.{sum_by-sparse}

part-sum : (z : ℤ) → z ≡ pos (positive z) -ℤ pos (negative z)
part-sum (pos n) = omega (arith, ints)
part-sum (negsuc n) = omega (arith, ints)

total-parts : (vs : List PlainValue) → total (map summand vs) ≡ pos (sum_by ups vs) -ℤ pos (sum_by downs vs)
total-parts [] = omega (arith, ints)
total-parts (v ∷ vs) =
    let own = part-sum (summand v) in
    let rest = total-parts vs in
    let up = sum_by-cons ups v vs in
    let down = sum_by-cons downs v vs in
    omega (arith, ints, own, rest, up, down)

-- of a sparse column
pub total-sparse : (p : PlainPatches) (fill : PlainScalar) (up down : ℕ) → WellFormedPatches p → up ≡ sum_by ups (rows p.values) + unpatched p * ups fill.value
    → down ≡ sum_by downs (rows p.values) + unpatched p * downs fill.value → total (map summand (rows (sparse_of p fill))) ≡ pos up -ℤ pos down
total-sparse p fill up down w e f =
    total-parts (rows (sparse_of p fill)) ∙ (λ i. pos ((sum_by-sparse ups p fill w ∙ sym e) i) -ℤ pos ((sum_by-sparse downs p fill w ∙ sym f) i))

-- ---- the parts of one value

signed-most : (p : PType) (n : ℕ) → lies_in p (negsuc n) ≡ true → n < 2 ^ 63
signed-most U8 n h = absurd cc
signed-most U16 n h = absurd cc
signed-most U32 n h = absurd cc
signed-most U64 n h = absurd cc
signed-most I8 n h = omega (arith, ltb-true _ _ h)
signed-most I16 n h = omega (arith, ltb-true _ _ h)
signed-most I32 n h = omega (arith, ltb-true _ _ h)
signed-most I64 n h = ltb-true _ _ h

-- below 2^64
truth-below : (n : Nullability) (v : PlainValue) → fits (boolean n) v ≡ true → (ups v < 2 ^ 64) × (downs v < 2 ^ 64)
truth-below n null h = (omega arith, omega arith)
truth-below n (truth true) h = (omega arith, omega arith)
truth-below n (truth false) h = (omega arith, omega arith)
truth-below n v h = absurd cc

whole-below : (p : PType) (n : Nullability) (v : PlainValue) → fits (primitive p n) v ≡ true → (ups v < 2 ^ 64) × (downs v < 2 ^ 64)
whole-below p n null h = (omega arith, omega arith)
whole-below p n (int (pos m)) h = (omega (arith, bits-most p, ltb-true _ _ h), omega arith)
whole-below p n (int (negsuc m)) h = (omega arith, omega (arith, signed-most p m h))
whole-below p n v h = absurd cc

pub parts-below : (t : PlainType) (v : PlainValue) → is_summable t ≡ true → fits t v ≡ true → (ups v < 2 ^ 64) × (downs v < 2 ^ 64)
parts-below (boolean n) v s h = truth-below n v h
parts-below (primitive p n) v s h = whole-below p n v h
parts-below t v s h = absurd cc

-- the product and the sum of parts below 2^64 of fewer than 2^64 rows fit 128 bits
pub sum-fits : (n k len part so_far : ℕ) → n + k ≡ len → len < 2 ^ 64 → part < 2 ^ 64 → so_far ≤ n * (2 ^ 64 - 1) → so_far + k * part < 2 ^ 128
sum-fits n k len part so_far all few small most =
    let times : k * part ≤ k * (2 ^ 64 - 1) = nat.mul-le-mul_left k (omega arith) in
    omega (arith, times)

module _ (t : PlainType) (s : is_summable t ≡ true) where
  pub ups-few : (vs : List PlainValue) → list_all (fits t) vs ≡ true → sum_by ups vs ≤ length vs * (2 ^ 64 - 1)
  ups-few [] h = omega arith
  ups-few (v ∷ vs) h =
      let b = and_parts (fits t v) (list_all (fits t) vs) h in
      omega (arith, sum_by-cons ups v vs, ups-few vs b.1, (parts-below t v s b.0).0)

  pub downs-few : (vs : List PlainValue) → list_all (fits t) vs ≡ true → sum_by downs vs ≤ length vs * (2 ^ 64 - 1)
  downs-few [] h = omega arith
  downs-few (v ∷ vs) h =
      let b = and_parts (fits t v) (list_all (fits t) vs) h in
      omega (arith, sum_by-cons downs v vs, downs-few vs b.1, (parts-below t v s b.0).1)
