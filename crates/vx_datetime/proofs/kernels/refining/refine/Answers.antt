use Rattle.std.proofs.Common.{◌∙◌, ap, map, sym}
use Rattle.vx_datetime.proofs.OutsideOrders.{held-word}
use Rattle.vx_values.specs.IntsOf.{wholes_of}
use Rattle.vx_datetime.proofs.kernels.refining.refine.Goals as goal

pub returns-in-U8 : goal.returns-in-U8
returns-in-U8 c = held-word c.args.orders.now c.refine_with.new.orders c.args.whole _ _ c.args.start c.args.end c.ranges.whole (ap (map _) c.as_slice.ensures ∙ sym (ap wholes_of c.in-U8.is)) c.refine_with.ensures

pub returns-in-U16 : goal.returns-in-U16
returns-in-U16 c = held-word c.args.orders.now c.refine_with-in-U16.new.orders c.args.whole _ _ c.args.start c.args.end c.ranges.whole (ap (map _) c.as_slice-in-U16.ensures ∙ sym (ap wholes_of c.in-U16.is)) c.refine_with-in-U16.ensures

pub returns-in-U32 : goal.returns-in-U32
returns-in-U32 c = held-word c.args.orders.now c.refine_with-in-U32.new.orders c.args.whole _ _ c.args.start c.args.end c.ranges.whole (ap (map _) c.as_slice-in-U32.ensures ∙ sym (ap wholes_of c.in-U32.is)) c.refine_with-in-U32.ensures

pub returns-in-U64 : goal.returns-in-U64
returns-in-U64 c = held-word c.args.orders.now c.refine_with-in-U64.new.orders c.args.whole _ _ c.args.start c.args.end c.ranges.whole (ap (map _) c.as_slice-in-U64.ensures ∙ sym (ap wholes_of c.in-U64.is)) c.refine_with-in-U64.ensures

pub returns-in-I8 : goal.returns-in-I8
returns-in-I8 c = held-word c.args.orders.now c.refine_with-in-I8.new.orders c.args.whole _ _ c.args.start c.args.end c.ranges.whole (ap (map _) c.as_slice-in-I8.ensures ∙ sym (ap wholes_of c.in-I8.is)) c.refine_with-in-I8.ensures

pub returns-in-I16 : goal.returns-in-I16
returns-in-I16 c = held-word c.args.orders.now c.refine_with-in-I16.new.orders c.args.whole _ _ c.args.start c.args.end c.ranges.whole (ap (map _) c.as_slice-in-I16.ensures ∙ sym (ap wholes_of c.in-I16.is)) c.refine_with-in-I16.ensures

pub returns-in-I32 : goal.returns-in-I32
returns-in-I32 c = held-word c.args.orders.now c.refine_with-in-I32.new.orders c.args.whole _ _ c.args.start c.args.end c.ranges.whole (ap (map _) c.as_slice-in-I32.ensures ∙ sym (ap wholes_of c.in-I32.is)) c.refine_with-in-I32.ensures

pub returns-in-I64 : goal.returns-in-I64
returns-in-I64 c = held-word c.args.orders.now c.refine_with-in-I64.new.orders c.args.whole _ _ c.args.start c.args.end c.ranges.whole (ap (map _) c.as_slice-in-I64.ensures ∙ sym (ap wholes_of c.in-I64.is)) c.refine_with-in-I64.ensures
