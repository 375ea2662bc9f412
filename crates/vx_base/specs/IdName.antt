-- The name of each encoding.
use Rattle.std.specs.Prelude.{ℕ, List, codes}
use Rattle.vx_base.specs.declared.array_id.ArrayId.{ArrayId}
use Rattle.vx_base.specs.declared.array_id.ArrayId.TheVariants as ids

-- the name of an encoding, which listings print
abbrev pub id_name : ArrayId → List ℕ
id_name ids.Null = codes "vortex.null"
id_name ids.Bool = codes "vortex.bool"
id_name ids.Primitive = codes "vortex.primitive"
id_name ids.VarBinView = codes "vortex.varbinview"
id_name ids.Struct = codes "vortex.struct"
id_name ids.List = codes "vortex.list"
id_name ids.FixedSizeList = codes "vortex.fixed_size_list"
id_name ids.Timestamp = codes "vortex.timestamp"
id_name ids.Constant = codes "vortex.constant"
id_name ids.Masked = codes "vortex.masked"
id_name ids.Dict = codes "vortex.dict"
id_name ids.VarBin = codes "vortex.varbin"
id_name ids.Sparse = codes "vortex.sparse"
id_name ids.DateTimeParts = codes "vortex.datetimeparts"
id_name ids.RunEnd = codes "vortex.runend"
id_name ids.BitPacked = codes "vortex.bitpacked"
id_name ids.BitPackedV2 = codes "vortex.bitpacked.v2"
id_name ids.FoR = codes "vortex.for"
id_name ids.FoRV2 = codes "vortex.for.v2"
id_name ids.Delta = codes "vortex.delta"
id_name ids.Rle = codes "vortex.rle"
id_name ids.ZigZag = codes "vortex.zigzag"
id_name ids.Sequence = codes "vortex.sequence"
