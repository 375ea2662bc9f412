-- The texts of types.
use Rattle.std.proofs.Common.{◌≡◌, ◌∙◌, None, sym, ap}
use Rattle.vx_base.specs.declared.dtype.Nullability.{Nullability}
use Rattle.vx_base.specs.PlainType.{timestamp}
use Rattle.vx_base.specs.Timestamps.{PlainTimestamp, kind}
use Rattle.vx_document.specs.Writing.{named_type, timestamp_type}

-- timestamps without a zone are written by their name
pub zoneless : (k : PlainTimestamp) (n : Nullability) → k.zone ≡ None → named_type (timestamp k n) ≡ timestamp_type k.unit k.zone n
zoneless k n e = ap (λ z. named_type (timestamp (kind k.unit z) n)) e ∙ sym (ap (λ z. timestamp_type k.unit z n) e)
