-- Integers of a tree, lent or decoded.
use Rattle.std.specs.Prelude.{◌≡◌, map}
use Rattle.vx_base.specs.PlainType.{integer_of}
use Rattle.vx_base.specs.PlainValue.{whole_or_zero}
use Rattle.vx_model.specs.Plain.{validity}
use Rattle.vx_model.specs.Rows.{rows}
use Rattle.vx_model.specs.Tree.{Tree, Validity}
use Rattle.vx_model.specs.TreeType.{tree_type}
use Rattle.vx_values.specs.declared.ints.Ints.{Ints}
use Rattle.vx_values.specs.IntsOf.{ptype_of, wholes_of}
use Rattle.vx_array.specs.declared.lent.LentInts.{LentInts}
use Rattle.vx_array.specs.declared.lent.LentInts.TheVariants.{Stored, Decoded}

-- the integers themselves
abbrev pub lent : LentInts → Ints
lent (Stored xs) = xs.now
lent (Decoded xs) = xs

-- integers, 0 beneath nulls, and their validity are a tree's rows
pub record AreIntegers (t : Tree) (xs : Ints) (valid : Validity) : Type 0 where
  pub ptype : ptype_of xs ≡ integer_of (tree_type t)
  pub wholes : wholes_of xs ≡ map whole_or_zero (rows t)
  pub bits : valid ≡ validity (rows t)
