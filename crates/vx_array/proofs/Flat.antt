-- Trees whose values hold no others: which nodes have them, and their types.
use Rattle.std.proofs.Common.{◌≡◌, true, refl, ap, Option, Some, None}
use Rattle.std.specs.Prelude.{IfSome, IsTrue}
use Rattle.vx_base.specs.PlainType.{PlainType, boolean, primitive, utf8, binary, timestamp, is_flat, is_integer}
use Rattle.vx_base.proofs.CellLemmas.{cell-integer_in}
use Rattle.vx_model.specs.Tree.{PlainPacked, PlainPatches, packed_of}
use Rattle.vx_model.specs.TreeType.{tree_type, dict_type}
use Rattle.vx_model.specs.WellFormed.{WellFormed}
use Rattle.vx_model.proofs.RowLemmas.{length-primitive, row_at-primitive, length-constant, row_at-replicate, length-masked, row_at-masked}

pub integer_flat : (t : PlainType) → is_integer t ≡ true → is_flat t ≡ true
integer_flat (primitive p n) h = refl
integer_flat t h = absurd cc

-- values of a flat type stay flat by their codes
pub dict_flat : (codes values : PlainType) → is_flat values ≡ true → is_flat (dict_type codes values) ≡ true
dict_flat codes (boolean n) h = refl
dict_flat codes (primitive p n) h = refl
dict_flat codes (utf8 n) h = refl
dict_flat codes (binary n) h = refl
dict_flat codes (timestamp k n) h = refl
dict_flat codes t h = absurd cc

-- the patches of packed integers are integers
pub patches_flat : (k : PlainPacked) (o : Option PlainPatches) → WellFormed (packed_of k o) → IfSome o (λ p. IsTrue (is_flat (tree_type p.values)))
patches_flat k None h = tt
patches_flat k (Some p) h = ap is_flat h.4.values_type

pub ruleset flats = (integer_flat, length-primitive, row_at-primitive, length-constant, row_at-replicate, length-masked, row_at-masked)

pub ruleset flat_integers = (integer_flat, cell-integer_in)
