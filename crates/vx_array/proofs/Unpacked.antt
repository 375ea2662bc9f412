-- The rows of packed integers and their width, and patches of as many.
use Rattle.std.proofs.Common.{◌≡◌, ◌≤◌, ◌∙◌, ℕ, ℤ, length, arith, Some, None, sym}
use Rattle.std.specs.Prelude.{IfSome, IsTrue, Option, nat_le}
use Rattle.std.proofs.lemmas.Bool.{leb-true}
use Rattle.std.proofs.lemmas.List.FromFn.{length-map-range_with_len}
use Rattle.vx_base.specs.declared.ptype.PType.{PType}
use Rattle.vx_base.specs.declared.ptype.PType.TheVariants.{U8, U16, U32, U64, I8, I16, I32, I64}
use Rattle.vx_base.specs.Integers.{natural_bits}
use Rattle.vx_model.specs.Rows.{below}
use Rattle.vx_model.specs.Tree.{PlainPacked, PlainPatches, packed_of}
use Rattle.vx_model.specs.WellFormed.{WellFormed}
use Rattle.vx_model.proofs.PackedOfLemmas.{patches_len-packed_of}

pub below_length : (f : ℕ → ℤ) (n : ℕ) → length (below f n) ≡ n
below_length f n = length-map-range_with_len f 0 n

pub patches_of_rows : (k : PlainPacked) (o : Option PlainPatches) (n : ℕ) → n ≡ k.len → WellFormed (packed_of k o) → IfSome o (λ p. n ≡ p.array_len)
patches_of_rows k None n e w = tt
patches_of_rows k (Some p) n e w = e ∙ sym (patches_len-packed_of k p w)

pub natural_bits-le : (p : PType) → natural_bits p ≤ 64
natural_bits-le U8 = omega arith
natural_bits-le U16 = omega arith
natural_bits-le U32 = omega arith
natural_bits-le U64 = omega arith
natural_bits-le I8 = omega arith
natural_bits-le I16 = omega arith
natural_bits-le I32 = omega arith
natural_bits-le I64 = omega arith

pub width-le : (width : ℕ) (p : PType) → IsTrue (nat_le width (natural_bits p)) → width ≤ 64
width-le width p h = let most = natural_bits-le p in omega (arith, leb-true _ _ h)
