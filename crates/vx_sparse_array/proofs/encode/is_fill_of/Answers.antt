use Rattle.std.proofs.Common.{◌∙◌, sym, ap}
use Rattle.std.specs.Prelude.{option_copied}
use Rattle.vx_base.specs.PlainType.{same_base}
use Rattle.vx_base.specs.TypeOf.{type_of}
use Rattle.vx_sparse_array.specs.Encoded.{is_fill_of}
use Rattle.vx_sparse_array.proofs.EncodedLemmas.{same-test}
use Rattle.vx_sparse_array.proofs.encode.is_fill_of.Goals as goal

pub returns-in-Some : goal.returns-in-Some
returns-in-Some c =
    let t = type_of c.args.dtype.now in
    same-test c.same_base.result (type_of c.dtype.result.now) t c.same_base.ensures.0 c.same_base.ensures.1
    ∙ ap (λ s. same_base s t) c.dtype.ensures ∙ sym (ap (λ o. is_fill_of t (option_copied o)) c.in-Some.is)
