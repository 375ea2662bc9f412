use Rattle.std.proofs.Common.{◌≡◌, true, sym, subst}
use Rattle.vx_base.proofs.FieldLemmas.{type_of-Utf8}
use Rattle.vx_base.proofs.Utf8Lemmas.{fits-utf8}
use Rattle.vx_base.specs.PlainScalar.{fits}
use Rattle.vx_base.specs.PlainType.{PlainType}
use Rattle.vx_base.specs.PlainValue.{bytes, is_short}
use Rattle.vx_base.proofs.scalar.Scalar.text.Goals as goal

pub invariant_of-result : goal.invariant_of-result
invariant_of-result c =
    let short : is_short c.into_bytes.result ≡ true = cc in
    subst (λ (t : PlainType). fits t (bytes c.into_bytes.result) ≡ true) (sym (type_of-Utf8 c.args.nullability)) (fits-utf8 c.args.nullability c.into_bytes.result short c.into_bytes.ensures.utf8)
