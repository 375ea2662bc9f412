-- The indices of the rows wider than a width ascend.
use Rattle.std.proofs.Common.{◌≡◌, ℕ, ℤ, pos, Bool, true, List, length, map, arith}
use Rattle.std.proofs.lemmas.List.{length-map}
use Rattle.vx_base.specs.declared.ptype.PType.{PType}
use Rattle.vx_base.specs.Integers.{bits_in}
use Rattle.vx_base.specs.Packed.{wide_rows}
use Rattle.vx_base.specs.PlainValue.{int}
use Rattle.vx_model.specs.WellFormed.{ascend}
use Rattle.vx_model.proofs.RisingLemmas.{filter-ascends}

pub wide_rows-ascend : (p : PType) (width : ℕ) (xs : List ℤ) (valid : List Bool) → ascend 0 (length xs) (map int (map pos (wide_rows width (map (bits_in p) xs) valid))) ≡ true
wide_rows-ascend p width xs valid = filter-ascends _ 0 (length (map (bits_in p) xs)) (length xs) (omega (arith, length-map xs (bits_in p)))
