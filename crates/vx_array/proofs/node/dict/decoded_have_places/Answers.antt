use Rattle.std.proofs.Common.{◌≡◌, ◌∙◌, sym, ap, refl, subst, true}
use Rattle.std.specs.Prelude.{not}
use Rattle.std.specs.List.{list_all, list_any}
use Rattle.vx_base.specs.PlainScalar.{fits}
use Rattle.vx_base.specs.PlainType.{integer_of, nullability_of}
use Rattle.vx_base.specs.PlainValue.{int}
use Rattle.vx_model.specs.Rows.{rows}
use Rattle.vx_model.specs.TreeType.{tree_type}
use Rattle.vx_model.specs.WellFormed.{is_place}
use Rattle.vx_model.proofs.DictLemmas.{places-wholes}
use Rattle.vx_model.proofs.MadeLemmas.{rows_fit}
use Rattle.vx_array.proofs.Decodings.{integer_is, lent_integers}
use Rattle.vx_array.proofs.node.dict.decoded_have_places.Goals as goal

pub returns-in-Ok : goal.returns-in-Ok
returns-in-Ok c =
    let t = c.args.codes.now in
    let got = c.in-Ok in
    let outside = list_any (λ z. not (is_place c.args.values (int z))) in
    let codes = lent_integers _ t got.ints c.as_ints.result.now got.field-0-1 refl c.as_ints.ensures got.ensures in
    let fitting = subst (λ s. list_all (fits s) (rows t) ≡ true) (integer_is (tree_type t) c.requires) (rows_fit t c.known.ensures) in
    ap not (c.has_outside.ensures ∙ ap outside codes.wholes) ∙ sym (places-wholes (integer_of (tree_type t)) (nullability_of (tree_type t)) c.args.values (rows t) c.if-values-eq0.false fitting)
