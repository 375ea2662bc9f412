use Rattle.std.proofs.Common.{◌∙◌, ap, map, sym}
use Rattle.vx_datetime.proofs.OutsideOrders.{by-lists}
use Rattle.vx_values.specs.IntsOf.{wholes_of}
use Rattle.vx_datetime.proofs.kernels.refining.refine_pairs.Goals as goal

pub returns-in-U8-U8 : goal.returns-in-U8-U8
returns-in-U8-U8 c =
    by-lists c.args.orders.now c.refine_each.new.orders _ _ _ _ c.args.start c.args.end (ap (map _) c.as_slice.ensures ∙ sym (ap wholes_of c.in-U8-U8.is-0)) (ap (map _) c.as_slice-in-U8-U8.ensures ∙ sym (ap wholes_of c.in-U8-U8.is-1)) c.refine_each.ensures

pub returns-in-U16-U16 : goal.returns-in-U16-U16
returns-in-U16-U16 c =
    by-lists c.args.orders.now c.refine_each-in-U16-U16.new.orders _ _ _ _ c.args.start c.args.end (ap (map _) c.as_slice-in-U16-U16.ensures ∙ sym (ap wholes_of c.in-U16-U16.is-0)) (ap (map _) c.as_slice-in-U16-U16-2.ensures ∙ sym (ap wholes_of c.in-U16-U16.is-1)) c.refine_each-in-U16-U16.ensures

pub returns-in-U32-U32 : goal.returns-in-U32-U32
returns-in-U32-U32 c =
    by-lists c.args.orders.now c.refine_each-in-U32-U32.new.orders _ _ _ _ c.args.start c.args.end (ap (map _) c.as_slice-in-U32-U32.ensures ∙ sym (ap wholes_of c.in-U32-U32.is-0)) (ap (map _) c.as_slice-in-U32-U32-2.ensures ∙ sym (ap wholes_of c.in-U32-U32.is-1)) c.refine_each-in-U32-U32.ensures

pub returns-in-U64-U64 : goal.returns-in-U64-U64
returns-in-U64-U64 c =
    by-lists c.args.orders.now c.refine_each-in-U64-U64.new.orders _ _ _ _ c.args.start c.args.end (ap (map _) c.as_slice-in-U64-U64.ensures ∙ sym (ap wholes_of c.in-U64-U64.is-0)) (ap (map _) c.as_slice-in-U64-U64-2.ensures ∙ sym (ap wholes_of c.in-U64-U64.is-1)) c.refine_each-in-U64-U64.ensures
