use Rattle.std.proofs.Common.{◌≡◌, ◌∙◌, Some, rules, sym, ap, to_z, of_z}
use Rattle.std.specs.Prelude.{FitsSigned, option_map}
use Rattle.std.specs.Int.{w128}
use Rattle.std.proofs.lemmas.Int.{to_z-of_z}
use Rattle.vx_base.specs.declared.dtype.Nullability.TheVariants.{NonNullable}
use Rattle.vx_base.specs.PlainScalar.{scalar}
use Rattle.vx_base.specs.PlainType.{integer_of}
use Rattle.vx_base.specs.PlainType as types
use Rattle.vx_base.specs.PlainValue.{int}
use Rattle.vx_model.specs.Column.{column_of}
use Rattle.vx_model.specs.Tree.{frame_of_reference}
use Rattle.vx_model.specs.TreeType.{tree_type}
use Rattle.vx_model.specs.WellFormed.{differences_type}
use Rattle.vx_schemes.specs.FrameOfReference.Tree.{framed, differences, packed_or_plain}
use Rattle.vx_schemes.proofs.FrameOfReference.Framed.{least-in, less-typed}
use Rattle.vx_schemes.proofs.integer.frame_of_reference.tree.frame_of_reference_tree.Goals as goal

pub encoded_differences-requires-clause-held : goal.encoded_differences-requires-clause-held
encoded_differences-requires-clause-held c =
    let fits : FitsSigned w128 c.in-Some.reference = search rules in
    rw (to_z-of_z w128 c.in-Some.reference fits) (least-in c.args.array.now c.in-Some.reference c.requires.integer c.known.ensures (sym c.requires.least ∙ c.in-Some.is))

pub framed-requires-clause-held : goal.framed-requires-clause-held
framed-requires-clause-held c =
    let t = c.args.array.now in
    let fits : FitsSigned w128 c.in-Some.reference = search rules in
    let ptype : c.ptype.result ≡ integer_of (tree_type t) = c.ptype.ensures ∙ ap integer_of c.dtype.ensures in
    rw (to_z-of_z w128 c.in-Some.reference fits, ptype) (least-in t c.in-Some.reference c.requires.integer c.known.ensures (sym c.requires.least ∙ c.in-Some.is))

pub framed-requires-clause-of_type : goal.framed-requires-clause-of_type
framed-requires-clause-of_type c =
    let t = c.args.array.now in
    let z = to_z w128 (of_z w128 c.in-Some.reference) in
    let ptype : c.ptype.result ≡ integer_of (tree_type t) = c.ptype.ensures ∙ ap integer_of c.dtype.ensures in
    let encoded : c.in_ok-encoded.encoded ≡ packed_or_plain (differences (column_of t) z) = c.in_ok-encoded.ensures.answer in
    ap tree_type encoded ∙ less-typed t z c.requires.integer c.known.ensures c.requires.few ∙ (λ i. differences_type (types.primitive (sym ptype i) NonNullable) (tree_type (sym encoded i)))

pub returns-clause-answer : goal.returns-clause-answer
returns-clause-answer c =
    let t = c.args.array.now in
    let z = to_z w128 (of_z w128 c.in-Some.reference) in
    let fits : FitsSigned w128 c.in-Some.reference = search rules in
    let ptype : c.ptype.result ≡ integer_of (tree_type t) = c.ptype.ensures ∙ ap integer_of c.dtype.ensures in
    let encoded : c.in_ok-encoded.encoded ≡ packed_or_plain (differences (column_of t) z) = c.in_ok-encoded.ensures.answer in
    ap Some (c.in_ok-framed.ensures ∙ (λ i. frame_of_reference (encoded i) (scalar (types.primitive (ptype i) NonNullable) (int z))))
    ∙ ap (λ x. Some (framed (column_of t) x)) (to_z-of_z w128 c.in-Some.reference fits) ∙ ap (option_map (framed (column_of t))) (sym c.in-Some.is ∙ c.requires.least)
