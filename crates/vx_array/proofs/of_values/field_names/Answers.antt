use Rattle.std.proofs.Common.{arith, ◌∙◌, sym, ap, map, ℕ, List}
use Rattle.std.proofs.lemmas.List.{take_all}
use Rattle.vx_base.specs.PlainType.{PlainType}
use Rattle.vx_base.specs.TypeOf.{field_of, fields_of}
use Rattle.vx_array.proofs.FieldTrees.{names_of-fields}
use Rattle.vx_array.proofs.of_values.field_names.Goals as goal

pub returns : goal.returns
returns c =
    let fs = c.as_slice-field-items.result.now in
    let firsts = map (λ (f : List ℕ × PlainType). f.0) in
    c.from_vec.ensures ∙ c.loop-field.invariant ∙ ap (λ gs. firsts (map field_of gs)) (take_all c.loop-field.field-index fs (omega arith)) ∙ ap firsts c.as_slice-field-items.ensures ∙ sym (names_of-fields (fields_of c.args.fields.now))
