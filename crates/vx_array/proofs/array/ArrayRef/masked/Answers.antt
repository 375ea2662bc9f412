use Rattle.std.proofs.Common.{◌∙◌, ap, sym}
use Rattle.vx_base.specs.PlainType.{is_flat, is_nullable}
use Rattle.vx_array.proofs.Making.{masked_array}
use Rattle.vx_array.proofs.array.ArrayRef.masked.Goals as goal

pub invariant_of-result : goal.invariant_of-result
invariant_of-result c =
    let flat = ap is_flat (sym c.dtype.ensures) ∙ sym c.is_flat.ensures ∙ c.if-not-is_flat.false in
    let nullable = ap is_nullable (sym c.dtype-else-not-is_flat.ensures) ∙ sym c.is_nullable.ensures ∙ c.if-not-is_nullable.false in
    let lengths = sym c.len.ensures ∙ c.if-len.false ∙ c.len-2.ensures in
    let no_null = sym c.has_null.ensures ∙ c.if-has_null.false in
    (rw c.in-Ok-new.ensures.ok (masked_array c.args.child c.args.valid _ _ flat nullable lengths no_null c.known.ensures (c.in-Ok.ensures ∙ c.dtype-2.ensures) c.len-len.ensures), tt)
