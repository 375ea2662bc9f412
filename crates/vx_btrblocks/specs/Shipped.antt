-- The shipped schemes, and the tree that a compressor over them makes of a column.
use Rattle.std.specs.Prelude.{ℕ, List, [], ◌∷◌}
use Rattle.vx_model.specs.Cascade.{cascade}
use Rattle.vx_model.specs.Column.{Column}
use Rattle.vx_model.specs.Tree.{Tree}
use Rattle.vx_scheme.specs.Meaning.{Meaning}
use Rattle.vx_schemes.specs.BitPacking.Meaning.{bit_packing_meaning}
use Rattle.vx_schemes.specs.Dictionary.Meaning.{int_dict_meaning}
use Rattle.vx_schemes.specs.FrameOfReference.Meaning.{for_meaning}
use Rattle.vx_schemes.specs.ZigZag.Meaning.{zig_zag_meaning}
use Rattle.vx_schemes_runs.specs.Delta.Meaning.{delta_meaning, default_delta}
use Rattle.vx_schemes_runs.specs.RunEnd.Meaning.{run_end_meaning}
use Rattle.vx_schemes_runs.specs.RunLength.Meaning.{int_rle_meaning}
use Rattle.vx_schemes_runs.specs.Sequence.Meaning.{sequence_meaning}
use Rattle.vx_schemes_runs.specs.Sparse.Meaning.{sparse_meaning}
use Rattle.vx_schemes_text.specs.Dictionary.Meaning.{string_dict_meaning, binary_dict_meaning}
use Rattle.vx_schemes_text.specs.NullSparse.Meaning.{null_dominated_meaning}
use Rattle.vx_schemes_text.specs.VarBin.Meaning.{var_bin_meaning}
use Rattle.vx_schemes_time.specs.Temporal.Meaning.{temporal_meaning}
use Rattle.vx_compressor.specs.Cascade.{Setting, leaf_tree}

-- in the order in which they are judged
abbrev pub shipped_schemes : List Meaning
shipped_schemes =
    for_meaning (record { 0 = tt }) ∷ zig_zag_meaning (record {}) ∷ bit_packing_meaning (record { 0 = tt }) ∷ sparse_meaning (record {})
    ∷ int_dict_meaning (record {}) ∷ run_end_meaning (record {}) ∷ sequence_meaning (record {}) ∷ int_rle_meaning (record {})
    ∷ delta_meaning default_delta ∷ string_dict_meaning (record {}) ∷ null_dominated_meaning (record {}) ∷ binary_dict_meaning (record {})
    ∷ var_bin_meaning (record {}) ∷ temporal_meaning (record {}) ∷ []

-- the shipped schemes with these sample words
abbrev pub shipped_setting : List ℕ → Setting
shipped_setting words = record { schemes = shipped_schemes; words = words }

-- the tree that a compressor over the shipped schemes makes of a column with these sample words
abbrev pub shipped_tree : List ℕ → Column → Tree
shipped_tree words = cascade (leaf_tree (shipped_setting words))
