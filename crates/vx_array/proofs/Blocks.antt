-- Run-length, sequence and delta nodes: what their constructors have to show.
use Rattle.std.proofs.Common.{◌≡◌, ℕ, ℤ, Some, None, sym}
use Rattle.vx_base.specs.declared.dtype.Nullability.{Nullability}
use Rattle.vx_base.specs.declared.ptype.PType.{PType}
use Rattle.vx_base.specs.PlainType.{PlainType, integer_of}
use Rattle.vx_base.specs.PlainType as types
use Rattle.vx_model.specs.Refusals.{rle_refusal, sequence_refusal, delta_refusal, kept}
use Rattle.vx_model.specs.Tree.{Tree, Validity, rle, sequence, delta}
use Rattle.vx_model.specs.TreeType.{tree_type}
use Rattle.vx_model.specs.WellFormed.{WellFormed}
use Rattle.vx_model.proofs.DeltaLemmas.{delta_accepted, length-delta}
use Rattle.vx_model.proofs.RleLemmas.{rle_accepted, length-rle}
use Rattle.vx_model.proofs.SequenceLemmas.{sequence_accepted, length-sequence}
use Rattle.vx_array.specs.IsArray.{IsArray}

pub rle_array : (values indices offsets : Tree) (len : ℕ) (own : PlainType) → rle_refusal values indices offsets len ≡ None → WellFormed values → WellFormed indices → WellFormed offsets → own ≡ tree_type values
    → IsArray (rle values indices offsets len) (Some own) len
rle_array values indices offsets len own accepted v i o own_is =
    record { well_formed = rle_accepted values indices offsets len accepted v i o; own_type_is = own_is; len_is = sym (length-rle values indices offsets len) }

pub sequence_array : (p : PType) (n : Nullability) (first step : ℤ) (len : ℕ) (own : PlainType) → sequence_refusal p first step len ≡ None → own ≡ types.primitive p n → IsArray (sequence p n first step len) (Some own) len
sequence_array p n first step len own accepted own_is =
    record { well_formed = sequence_accepted p n first step len accepted; own_type_is = own_is; len_is = sym (length-sequence p n first step len) }

pub delta_array : (bases deltas : Tree) (len : ℕ) (valid : Validity) (n : Nullability) (own : PlainType) → delta_refusal bases deltas len valid n ≡ None → WellFormed bases → WellFormed deltas
    → own ≡ types.primitive (integer_of (tree_type bases)) n → IsArray (delta bases deltas len (kept valid) n) (Some own) len
delta_array bases deltas len valid n own accepted b d own_is =
    let w : WellFormed (delta bases deltas len (kept valid) n) = delta_accepted bases deltas len valid n accepted b d in
    record { well_formed = w; own_type_is = own_is; len_is = sym (length-delta bases deltas len (kept valid) n w) }
