-- The numbers of an integer type are far from the ends of 128 bits, and so are their sums.
use Rattle.std.proofs.Common.{◌≡◌, ◌<◌, ◌≤◌, ◌-◌, ◌^◌, ◌∙◌, ℕ, ℤ, pos, negsuc, length, sym, ap, subst, arith, true, to_z, of_z}
use Rattle.std.specs.Int.{w128}
use Rattle.std.specs.Prelude.{FitsSigned, ◌+ℤ◌, ◌*ℤ◌, ◌≤ℤ◌}
use Rattle.std.proofs.lemmas.Bool.{ltb-true, and_parts}
use Rattle.std.proofs.lemmas.Int.{ints, to_z-of_z}
use Rattle.vx_base.specs.declared.ptype.PType.{PType}
use Rattle.vx_base.specs.declared.ptype.PType.TheVariants.{U8, U16, U32, U64, I8, I16, I32, I64}
use Rattle.vx_base.specs.Integers.{lies_in, is_signed, natural_bits, least}
use Rattle.vx_base.specs.PlainScalar.{fits}
use Rattle.vx_base.specs.PlainType.{PlainType, primitive, is_integer}
use Rattle.vx_base.specs.PlainValue.{PlainValue, null, int, whole_or_zero}
use Rattle.vx_model.specs.Rows.{rows, row_at}
use Rattle.vx_model.specs.Tree.{Tree}
use Rattle.vx_model.specs.TreeType.{tree_type}
use Rattle.vx_model.specs.WellFormed.{WellFormed, IsSequence}
use Rattle.vx_model.proofs.FrameOfReferenceLemmas.{row_fits}
use Rattle.vx_model.proofs.SequenceLemmas.{row-held}

-- from -2^63 to 2^64 - 1
pub record IsNear (z : ℤ) : Type 0 where
  pub least : negsuc (2 ^ 63 - 1) ≤ℤ z
  pub most : z ≤ℤ pos (2 ^ 64 - 1)

bits-most : (p : PType) → 2 ^ natural_bits p ≤ 2 ^ 64
bits-most U8 = omega arith
bits-most U16 = omega arith
bits-most U32 = omega arith
bits-most U64 = omega arith
bits-most I8 = omega arith
bits-most I16 = omega arith
bits-most I32 = omega arith
bits-most I64 = omega arith

signed-most : (p : PType) → is_signed p ≡ true → 2 ^ natural_bits p ≤ 2 ^ 63
signed-most I8 h = omega arith
signed-most I16 h = omega arith
signed-most I32 h = omega arith
signed-most I64 h = omega arith
signed-most p h = absurd cc

pub near : (p : PType) (z : ℤ) → lies_in p z ≡ true → IsNear z
near p (pos n) h = let l = ltb-true n (2 ^ natural_bits p) h in let m = bits-most p in record { least = omega (arith, ints); most = omega (arith, ints) }
near p (negsuc n) h =
    let b = and_parts (is_signed p) _ h in
    let l = ltb-true n (2 ^ natural_bits p) b.1 in
    let m = signed-most p b.0 in
    record { least = omega (arith, ints); most = omega (arith, ints) }

-- the whole number of a row of integers
row-near : (t : PlainType) (v : PlainValue) → is_integer t ≡ true → fits t v ≡ true → IsNear (whole_or_zero v)
row-near (primitive p n) null i h = record { least = omega (arith, ints); most = omega (arith, ints) }
row-near (primitive p n) (int z) i h = near p z h
row-near (primitive p n) v i h = absurd cc
row-near t v i h = absurd cc

pub whole-near : (t : Tree) (i : ℕ) → WellFormed t → is_integer (tree_type t) ≡ true → i < length (rows t) → IsNear (whole_or_zero (row_at (rows t) i))
whole-near t i w h l = row-near (tree_type t) (row_at (rows t) i) h (row_fits t i w l)

-- ---- the numbers of a sequence

no_steps : (step : ℤ) → pos 0 *ℤ step ≡ pos 0
no_steps (pos s) = omega (arith, ints)
no_steps (negsuc s) = omega (arith, ints)

-- a row's distance from the first
pub row-fits : (p : PType) (first step : ℤ) (len i : ℕ) → IsSequence p first step len → i < len → FitsSigned w128 (pos i *ℤ step)
row-fits p first step len i h l =
    let here = near p (first +ℤ pos i *ℤ step) (row-held p first step len i h l) in
    let begin = near p first (ap (lies_in p) (omega (arith, ints, no_steps step)) ∙ row-held p first step len 0 h (omega arith)) in
    let a = here.least in
    let b = here.most in
    let c = begin.least in
    let d = begin.most in
    omega (arith, ints)

pub row-sum-fits : (p : PType) (first step : ℤ) (len i : ℕ) → IsSequence p first step len → i < len → FitsSigned w128 (first +ℤ pos i *ℤ step)
row-sum-fits p first step len i h l =
    let here = near p (first +ℤ pos i *ℤ step) (row-held p first step len i h l) in
    let a = here.least in
    let b = here.most in
    omega (arith, ints)

-- ---- the same as 128 bits compute it

abbrev signed : ℤ → ℤ
signed z = to_z w128 (of_z w128 z)

module _ (p : PType) (first step from : ℤ) (len i : ℕ) (h : IsSequence p first step len) (l : i < len) (few : i < 2 ^ 64) (is : from ≡ pos i) (f : FitsSigned w128 first) (s : FitsSigned w128 step) where
  from-is : signed from ≡ pos i
  from-is = omega (arith, ints, is, few)

  factors : signed from *ℤ signed step ≡ pos i *ℤ step
  factors = let e = to_z-of_z w128 step s in λ j. from-is j *ℤ e j

  pub product-fits : FitsSigned w128 (signed from *ℤ signed step)
  product-fits = subst (FitsSigned w128) (sym factors) (row-fits p first step len i h l)

  terms : signed first +ℤ signed (signed from *ℤ signed step) ≡ first +ℤ pos i *ℤ step
  terms = let e = to_z-of_z w128 first f in let product = to_z-of_z w128 (signed from *ℤ signed step) product-fits ∙ factors in λ j. e j +ℤ product j

  pub sum-fits : FitsSigned w128 (signed first +ℤ signed (signed from *ℤ signed step))
  sum-fits = subst (FitsSigned w128) (sym terms) (row-sum-fits p first step len i h l)

  pub sum-is : signed (signed first +ℤ signed (signed from *ℤ signed step)) ≡ first +ℤ pos i *ℤ step
  sum-is = to_z-of_z w128 (signed first +ℤ signed (signed from *ℤ signed step)) sum-fits ∙ terms

module _ (p : PType) (first step : ℤ) (len i : ℕ) (h : IsSequence p first step len) (l : i < len) where
  first-near : IsNear first
  first-near = near p first (ap (lies_in p) (omega (arith, ints, no_steps step)) ∙ row-held p first step len 0 h (omega arith))

  pub first-signed : signed first ≡ first
  first-signed = let n = first-near in let a = n.least in let b = n.most in omega (arith, ints)

  pub step-signed : signed step ≡ step
  step-signed = let n = near p step h.step_held in let a = n.least in let b = n.most in omega (arith, ints)

-- a number that is near 0, as 128 bits hold it
pub near-signed : (z : ℤ) → negsuc (2 ^ 63 - 1) ≤ℤ z → z ≤ℤ pos (2 ^ 64 - 1) → signed z ≡ z
near-signed z least most = omega (arith, ints)
