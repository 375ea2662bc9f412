-- The number of each encoding, from 0 to 22: the bit that stands for it in a set.
use Rattle.std.specs.Prelude.{ℕ, Bool, ◌==◌, List, [], ◌∷◌}
use Rattle.vx_base.specs.declared.array_id.ArrayId.{ArrayId}
use Rattle.vx_base.specs.declared.array_id.ArrayId.TheVariants as ids

-- the number of an id, in the order of the declaration
abbrev pub id_number : ArrayId → ℕ
id_number ids.Null = 0
id_number ids.Bool = 1
id_number ids.Primitive = 2
id_number ids.VarBinView = 3
id_number ids.Struct = 4
id_number ids.List = 5
id_number ids.FixedSizeList = 6
id_number ids.Timestamp = 7
id_number ids.Constant = 8
id_number ids.Masked = 9
id_number ids.Dict = 10
id_number ids.VarBin = 11
id_number ids.Sparse = 12
id_number ids.DateTimeParts = 13
id_number ids.RunEnd = 14
id_number ids.BitPacked = 15
id_number ids.BitPackedV2 = 16
id_number ids.FoR = 17
id_number ids.FoRV2 = 18
id_number ids.Delta = 19
id_number ids.Rle = 20
id_number ids.ZigZag = 21
id_number ids.Sequence = 22

-- every id, by number
abbrev pub every_id : List ArrayId
every_id =
    ids.Null ∷ ids.Bool ∷ ids.Primitive ∷ ids.VarBinView ∷ ids.Struct ∷ ids.List ∷ ids.FixedSizeList ∷ ids.Timestamp ∷
    ids.Constant ∷ ids.Masked ∷ ids.Dict ∷ ids.VarBin ∷ ids.Sparse ∷ ids.DateTimeParts ∷ ids.RunEnd ∷ ids.BitPacked ∷
    ids.BitPackedV2 ∷ ids.FoR ∷ ids.FoRV2 ∷ ids.Delta ∷ ids.Rle ∷ ids.ZigZag ∷ ids.Sequence ∷ []

-- whether two ids are equal
abbrev pub same_id : ArrayId → ArrayId → Bool
same_id a b = id_number a == id_number b
