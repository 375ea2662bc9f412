-- What the scheme of concatenated binaries makes of a column: all bytes in one run, and the offsets between the rows.
use Rattle.vx_model.specs.Column.{Column}
use Rattle.vx_model.specs.Nested.{concatenated}
use Rattle.vx_model.specs.Offsets.{offsets_of, byte_rows_of}
use Rattle.vx_model.specs.Plain.{validity}
use Rattle.vx_model.specs.Tree.{Tree, var_bin}
use Rattle.vx_schemes_common.specs.Narrowed.{narrowed_numbers}

-- where each row begins and the last ends, in the narrowest unsigned type; a null row has no bytes
abbrev pub binary_offsets : Column → Column
binary_offsets c = narrowed_numbers (offsets_of (byte_rows_of c))

-- the bytes of all rows over a tree of their offsets
abbrev pub binaries_over : Column → Tree → Tree
binaries_over c offsets = var_bin offsets (concatenated (byte_rows_of c)) (validity c.values) c.dtype
