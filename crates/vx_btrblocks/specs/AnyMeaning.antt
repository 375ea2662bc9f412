-- What a shipped scheme or a caller's means, as one type.
use Rattle.std.specs.Prelude.{◌≡◌, Bool, Option, Result, Ok, refl}
use Rattle.vx_base.specs.Answers.{Answers, OrMemory}
use Rattle.vx_base.specs.declared.array_id.ArrayId.{ArrayId}
use Rattle.vx_base.specs.declared.error.VortexError.{VortexError}
use Rattle.vx_base.specs.declared.fraction.Fraction.{Fraction}
use Rattle.vx_scheme.specs.Lawful.{Lawful}
use Rattle.vx_scheme.specs.Meaning.{Meaning}
use Rattle.vx_scheme.specs.Resolved.{IsResolved}
use Rattle.vx_scheme.specs.declared.estimate.EstimateVerdict.{EstimateVerdict}
use Rattle.vx_schemes.specs.BitPacking.Meaning.{bit_packing_meaning, bit_packing_lawful}
use Rattle.vx_schemes.specs.Dictionary.Meaning.{int_dict_meaning, int_dict_lawful}
use Rattle.vx_schemes.specs.FrameOfReference.Meaning.{for_meaning, for_meaning_lawful}
use Rattle.vx_schemes.specs.ZigZag.Meaning.{zig_zag_meaning, zig_zag_lawful}
use Rattle.vx_schemes_runs.specs.Delta.Meaning.{delta_meaning, delta_lawful}
use Rattle.vx_schemes_runs.specs.RunEnd.Meaning.{run_end_meaning, run_end_lawful}
use Rattle.vx_schemes_runs.specs.RunLength.Meaning.{int_rle_meaning, int_rle_lawful}
use Rattle.vx_schemes_runs.specs.Sequence.Meaning.{sequence_meaning, sequence_lawful}
use Rattle.vx_schemes_runs.specs.Sparse.Meaning.{sparse_meaning, sparse_lawful}
use Rattle.vx_schemes_runs.specs.Thresholds.{above}
use Rattle.vx_schemes_text.specs.Dictionary.Meaning.{string_dict_meaning, string_dict_lawful, binary_dict_meaning, binary_dict_lawful}
use Rattle.vx_schemes_text.specs.NullSparse.Meaning.{null_dominated_meaning, null_dominated_lawful}
use Rattle.vx_schemes_text.specs.VarBin.Meaning.{var_bin_meaning, var_bin_lawful}
use Rattle.vx_schemes_time.specs.Temporal.Meaning.{temporal_meaning, temporal_lawful}
use Rattle.vx_btrblocks.specs.declared.any_scheme.AnyScheme.{AnyScheme}
use Rattle.vx_btrblocks.specs.declared.any_scheme.AnyScheme.TheVariants.{FoR, ZigZag, BitPacking, Sparse, IntDict, RunEnd, Sequence, IntRLE, Delta, StringDict, NullDominatedSparse, BinaryDict, VarBin, Temporal, Own}

-- the meaning of the scheme inside
abbrev pub any_meaning : {X : Type 0} → (X → Meaning) → AnyScheme X → Meaning
any_meaning own (FoR s) = for_meaning s
any_meaning own (ZigZag s) = zig_zag_meaning s
any_meaning own (BitPacking s) = bit_packing_meaning s
any_meaning own (Sparse s) = sparse_meaning s
any_meaning own (IntDict s) = int_dict_meaning s
any_meaning own (RunEnd s) = run_end_meaning s
any_meaning own (Sequence s) = sequence_meaning s
any_meaning own (IntRLE s) = int_rle_meaning s
any_meaning own (Delta s) = delta_meaning s
any_meaning own (StringDict s) = string_dict_meaning s
any_meaning own (NullDominatedSparse s) = null_dominated_meaning s
any_meaning own (BinaryDict s) = binary_dict_meaning s
any_meaning own (VarBin s) = var_bin_meaning s
any_meaning own (Temporal s) = temporal_meaning s
any_meaning own (Own x) = own x

-- the scheme inside refined to these encodings; the shipped ones stay as they are
abbrev pub any_refined : {X : Type 0} → (X → (ArrayId → Bool) → X) → AnyScheme X → (ArrayId → Bool) → AnyScheme X
any_refined own (FoR s) allowed = FoR s
any_refined own (ZigZag s) allowed = ZigZag s
any_refined own (BitPacking s) allowed = BitPacking s
any_refined own (Sparse s) allowed = Sparse s
any_refined own (IntDict s) allowed = IntDict s
any_refined own (RunEnd s) allowed = RunEnd s
any_refined own (Sequence s) allowed = Sequence s
any_refined own (IntRLE s) allowed = IntRLE s
any_refined own (Delta s) allowed = Delta s
any_refined own (StringDict s) allowed = StringDict s
any_refined own (NullDominatedSparse s) allowed = NullDominatedSparse s
any_refined own (BinaryDict s) allowed = BinaryDict s
any_refined own (VarBin s) allowed = VarBin s
any_refined own (Temporal s) allowed = Temporal s
any_refined own (Own x) allowed = Own (own x allowed)

-- what the scheme inside answers at a threshold, by its meaning's verdict: exactly `above` of it for the sequence and the delta
-- scheme, though delta may refuse NoMemory; else what the trait admits
abbrev pub IsResolvedBy : {X : Type 0} → AnyScheme X → Option Fraction → EstimateVerdict → Result EstimateVerdict VortexError → Type 0
IsResolvedBy (FoR s) threshold verdict result = OrMemory result (IsResolved threshold verdict)
IsResolvedBy (ZigZag s) threshold verdict result = OrMemory result (IsResolved threshold verdict)
IsResolvedBy (BitPacking s) threshold verdict result = OrMemory result (IsResolved threshold verdict)
IsResolvedBy (Sparse s) threshold verdict result = OrMemory result (IsResolved threshold verdict)
IsResolvedBy (IntDict s) threshold verdict result = OrMemory result (IsResolved threshold verdict)
IsResolvedBy (RunEnd s) threshold verdict result = OrMemory result (IsResolved threshold verdict)
IsResolvedBy (Sequence s) threshold verdict result = result ≡ Ok (above threshold verdict)
IsResolvedBy (IntRLE s) threshold verdict result = OrMemory result (IsResolved threshold verdict)
IsResolvedBy (Delta s) threshold verdict result = Answers result (above threshold verdict)
IsResolvedBy (StringDict s) threshold verdict result = OrMemory result (IsResolved threshold verdict)
IsResolvedBy (NullDominatedSparse s) threshold verdict result = OrMemory result (IsResolved threshold verdict)
IsResolvedBy (BinaryDict s) threshold verdict result = OrMemory result (IsResolved threshold verdict)
IsResolvedBy (VarBin s) threshold verdict result = OrMemory result (IsResolved threshold verdict)
IsResolvedBy (Temporal s) threshold verdict result = OrMemory result (IsResolved threshold verdict)
IsResolvedBy (Own x) threshold verdict result = OrMemory result (IsResolved threshold verdict)

pub any_lawful : {X : Type 0} (own : X → Meaning) → ((x : X) → Lawful (own x)) → (s : AnyScheme X) → Lawful (any_meaning own s)
any_lawful own law (FoR s) = for_meaning_lawful s
any_lawful own law (ZigZag s) = zig_zag_lawful s
any_lawful own law (BitPacking s) = bit_packing_lawful s
any_lawful own law (Sparse s) = sparse_lawful s
any_lawful own law (IntDict s) = int_dict_lawful s
any_lawful own law (RunEnd s) = run_end_lawful s
any_lawful own law (Sequence s) = sequence_lawful s
any_lawful own law (IntRLE s) = int_rle_lawful s
any_lawful own law (Delta s) = delta_lawful s
any_lawful own law (StringDict s) = string_dict_lawful s
any_lawful own law (NullDominatedSparse s) = null_dominated_lawful s
any_lawful own law (BinaryDict s) = binary_dict_lawful s
any_lawful own law (VarBin s) = var_bin_lawful s
any_lawful own law (Temporal s) = temporal_lawful s
any_lawful own law (Own x) = law x

pub any_keeps_name : {X : Type 0} (own : X → Meaning) (refined : X → (ArrayId → Bool) → X) → ((x : X) (ids : ArrayId → Bool) → (own (refined x ids)).name ≡ (own x).name)
    → (s : AnyScheme X) (ids : ArrayId → Bool) → (any_meaning own (any_refined refined s ids)).name ≡ (any_meaning own s).name
any_keeps_name own refined keeps (FoR s) ids = refl
any_keeps_name own refined keeps (ZigZag s) ids = refl
any_keeps_name own refined keeps (BitPacking s) ids = refl
any_keeps_name own refined keeps (Sparse s) ids = refl
any_keeps_name own refined keeps (IntDict s) ids = refl
any_keeps_name own refined keeps (RunEnd s) ids = refl
any_keeps_name own refined keeps (Sequence s) ids = refl
any_keeps_name own refined keeps (IntRLE s) ids = refl
any_keeps_name own refined keeps (Delta s) ids = refl
any_keeps_name own refined keeps (StringDict s) ids = refl
any_keeps_name own refined keeps (NullDominatedSparse s) ids = refl
any_keeps_name own refined keeps (BinaryDict s) ids = refl
any_keeps_name own refined keeps (VarBin s) ids = refl
any_keeps_name own refined keeps (Temporal s) ids = refl
any_keeps_name own refined keeps (Own x) ids = keeps x ids
