use Rattle.std.proofs.Common.{◌≡◌, ◌≤◌, ◌^◌, ◌∙◌, ℤ, pos, List, map, length, sym, ap, subst, true}
use Rattle.std.specs.Ordering.{int_cmp}
use Rattle.std.specs.List.Sorted.{IsStrictlySortedBy}
use Rattle.std.proofs.lemmas.List.{length-map}
use Rattle.vx_base.specs.Answers.{OrMemory}
use Rattle.vx_base.specs.Integers.{natural_bits}
use Rattle.vx_base.specs.PlainValue.{int, whole_or_zero}
use Rattle.vx_model.specs.Decoded.{zeroed_by}
use Rattle.vx_model.specs.Refusals.{validity_length}
use Rattle.vx_model.specs.Rows.{valid_rows}
use Rattle.vx_stats.specs.Stats.{valid_wholes, distinct_values}
use Rattle.vx_stats.proofs.DistinctLemmas.{distinct-sorted}
use Rattle.vx_schemes.specs.Dictionary.Codes.{codes_in}
use Rattle.vx_schemes.specs.Dictionary.Tree.{code_in}
use Rattle.vx_schemes.proofs.Dictionary.Codes.{codes-exact}
use Rattle.vx_schemes.proofs.integer.dictionary.codes.codes.Goals as goal

pub wrapped_codes-requires : goal.wrapped_codes-requires
wrapped_codes-requires g c =
    let rows = valid_rows c.args.valid.now (map int (map g.T.Integer.whole c.args.items.now)) in
    record { mask = c.requires.mask; values = subst (IsStrictlySortedBy int_cmp) (sym c.requires.values) (distinct-sorted (valid_wholes rows)) }

pub returns : goal.returns
returns g c =
    let kind = g.C.Integer.kind in
    let valid = c.args.valid.now in
    let zs = map g.T.Integer.whole c.args.items.now in
    let rows = valid_rows valid (map int zs) in
    let mask = subst (λ n. validity_length valid n ≡ true) (sym (length-map c.args.items.now g.T.Integer.whole)) c.requires.mask in
    let few : length (distinct_values rows) ≤ 2 ^ natural_bits kind = subst (λ n. n ≤ 2 ^ natural_bits kind) (sym (length-map c.args.values.now g.T.Integer.whole) ∙ ap length c.requires.values) c.requires.few in
    let P : List ℤ → Type 0 = λ ds. zeroed_by (pos 0) valid (codes_in kind ds zs) ≡ map whole_or_zero (map (code_in ds) rows) in
    let exact = subst P (sym c.requires.values) (codes-exact kind valid zs mask few) in
    subst (λ y. OrMemory c.wrapped_codes.result (λ codes. map g.C.Integer.whole codes ≡ y)) exact c.wrapped_codes.ensures
