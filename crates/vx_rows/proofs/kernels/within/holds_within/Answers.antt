use Rattle.std.proofs.Common.{◌∙◌, ap, map, sym}
use Rattle.vx_values.specs.IntsOf.{wholes_of}
use Rattle.vx_rows.proofs.WholeLemmas.{wholes-within}
use Rattle.vx_rows.proofs.kernels.within.holds_within.Goals as goal

pub returns-in-U8 : goal.returns-in-U8
returns-in-U8 c = wholes-within c.within_wholes.result c.args.options c.args.low c.args.high _ _ c.ranges.low c.ranges.high (ap (map _) c.as_slice.ensures ∙ sym (ap wholes_of c.in-U8.is)) c.within_wholes.ensures

pub returns-in-U16 : goal.returns-in-U16
returns-in-U16 c = wholes-within c.within_wholes-in-U16.result c.args.options c.args.low c.args.high _ _ c.ranges.low c.ranges.high (ap (map _) c.as_slice-in-U16.ensures ∙ sym (ap wholes_of c.in-U16.is)) c.within_wholes-in-U16.ensures

pub returns-in-U32 : goal.returns-in-U32
returns-in-U32 c = wholes-within c.within_wholes-in-U32.result c.args.options c.args.low c.args.high _ _ c.ranges.low c.ranges.high (ap (map _) c.as_slice-in-U32.ensures ∙ sym (ap wholes_of c.in-U32.is)) c.within_wholes-in-U32.ensures

pub returns-in-U64 : goal.returns-in-U64
returns-in-U64 c = wholes-within c.within_wholes-in-U64.result c.args.options c.args.low c.args.high _ _ c.ranges.low c.ranges.high (ap (map _) c.as_slice-in-U64.ensures ∙ sym (ap wholes_of c.in-U64.is)) c.within_wholes-in-U64.ensures

pub returns-in-I8 : goal.returns-in-I8
returns-in-I8 c = wholes-within c.within_wholes-in-I8.result c.args.options c.args.low c.args.high _ _ c.ranges.low c.ranges.high (ap (map _) c.as_slice-in-I8.ensures ∙ sym (ap wholes_of c.in-I8.is)) c.within_wholes-in-I8.ensures

pub returns-in-I16 : goal.returns-in-I16
returns-in-I16 c = wholes-within c.within_wholes-in-I16.result c.args.options c.args.low c.args.high _ _ c.ranges.low c.ranges.high (ap (map _) c.as_slice-in-I16.ensures ∙ sym (ap wholes_of c.in-I16.is)) c.within_wholes-in-I16.ensures

pub returns-in-I32 : goal.returns-in-I32
returns-in-I32 c = wholes-within c.within_wholes-in-I32.result c.args.options c.args.low c.args.high _ _ c.ranges.low c.ranges.high (ap (map _) c.as_slice-in-I32.ensures ∙ sym (ap wholes_of c.in-I32.is)) c.within_wholes-in-I32.ensures

pub returns-in-I64 : goal.returns-in-I64
returns-in-I64 c = wholes-within c.within_wholes-in-I64.result c.args.options c.args.low c.args.high _ _ c.ranges.low c.ranges.high (ap (map _) c.as_slice-in-I64.ensures ∙ sym (ap wholes_of c.in-I64.is)) c.within_wholes-in-I64.ensures
