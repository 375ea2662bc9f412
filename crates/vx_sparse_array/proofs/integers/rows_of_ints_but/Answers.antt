use Rattle.std.proofs.Common.{◌≡◌, ◌∙◌, ℤ, pos, List, map, sym, ap, subst}
use Rattle.std.specs.Int.{w128}
use Rattle.std.proofs.lemmas.Int.{to_z-of_z}
use Rattle.vx_base.specs.Answers.{Answers}
use Rattle.vx_base.specs.PlainValue.{int}
use Rattle.vx_model.specs.Rows.{valid_rows}
use Rattle.vx_model.specs.Tree.{Validity}
use Rattle.vx_values.specs.IntsOf.{wholes_of}
use Rattle.vx_sparse_array.specs.Filling.{value_filling, patched_rows}
use Rattle.vx_sparse_array.proofs.integers.rows_of_ints_but.Goals as goal

found : (valid : Validity) (xs ys : List ℤ) (w z : ℤ) → w ≡ z → xs ≡ ys → patched_rows (value_filling (int w)) (valid_rows valid (map int xs)) ≡ patched_rows (value_filling (int z)) (valid_rows valid (map int ys))
found valid xs ys w z e l = λ i. patched_rows (value_filling (int (e i))) (valid_rows valid (map int (l i)))

pub returns-in-U8 : goal.returns-in-U8
returns-in-U8 c =
    let same : map (λ x. pos x) c.as_slice.result.now ≡ wholes_of c.args.items.now = ap (map (λ x. pos x)) c.as_slice.ensures ∙ sym (ap wholes_of c.in-U8.is) in
    subst (Answers c.rows_but.result) (found c.args.valid.now _ _ _ _ (to_z-of_z w128 c.args.fill c.ranges.fill) same) c.rows_but.ensures

pub returns-in-U16 : goal.returns-in-U16
returns-in-U16 c =
    let same : map (λ x. pos x) c.as_slice-in-U16.result.now ≡ wholes_of c.args.items.now = ap (map (λ x. pos x)) c.as_slice-in-U16.ensures ∙ sym (ap wholes_of c.in-U16.is) in
    subst (Answers c.rows_but-in-U16.result) (found c.args.valid.now _ _ _ _ (to_z-of_z w128 c.args.fill c.ranges.fill) same) c.rows_but-in-U16.ensures

pub returns-in-U32 : goal.returns-in-U32
returns-in-U32 c =
    let same : map (λ x. pos x) c.as_slice-in-U32.result.now ≡ wholes_of c.args.items.now = ap (map (λ x. pos x)) c.as_slice-in-U32.ensures ∙ sym (ap wholes_of c.in-U32.is) in
    subst (Answers c.rows_but-in-U32.result) (found c.args.valid.now _ _ _ _ (to_z-of_z w128 c.args.fill c.ranges.fill) same) c.rows_but-in-U32.ensures

pub returns-in-U64 : goal.returns-in-U64
returns-in-U64 c =
    let same : map (λ x. pos x) c.as_slice-in-U64.result.now ≡ wholes_of c.args.items.now = ap (map (λ x. pos x)) c.as_slice-in-U64.ensures ∙ sym (ap wholes_of c.in-U64.is) in
    subst (Answers c.rows_but-in-U64.result) (found c.args.valid.now _ _ _ _ (to_z-of_z w128 c.args.fill c.ranges.fill) same) c.rows_but-in-U64.ensures

pub returns-in-I8 : goal.returns-in-I8
returns-in-I8 c =
    let same : map (λ x. x) c.as_slice-in-I8.result.now ≡ wholes_of c.args.items.now = ap (map (λ x. x)) c.as_slice-in-I8.ensures ∙ sym (ap wholes_of c.in-I8.is) in
    subst (Answers c.rows_but-in-I8.result) (found c.args.valid.now _ _ _ _ (to_z-of_z w128 c.args.fill c.ranges.fill) same) c.rows_but-in-I8.ensures

pub returns-in-I16 : goal.returns-in-I16
returns-in-I16 c =
    let same : map (λ x. x) c.as_slice-in-I16.result.now ≡ wholes_of c.args.items.now = ap (map (λ x. x)) c.as_slice-in-I16.ensures ∙ sym (ap wholes_of c.in-I16.is) in
    subst (Answers c.rows_but-in-I16.result) (found c.args.valid.now _ _ _ _ (to_z-of_z w128 c.args.fill c.ranges.fill) same) c.rows_but-in-I16.ensures

pub returns-in-I32 : goal.returns-in-I32
returns-in-I32 c =
    let same : map (λ x. x) c.as_slice-in-I32.result.now ≡ wholes_of c.args.items.now = ap (map (λ x. x)) c.as_slice-in-I32.ensures ∙ sym (ap wholes_of c.in-I32.is) in
    subst (Answers c.rows_but-in-I32.result) (found c.args.valid.now _ _ _ _ (to_z-of_z w128 c.args.fill c.ranges.fill) same) c.rows_but-in-I32.ensures

pub returns-in-I64 : goal.returns-in-I64
returns-in-I64 c =
    let same : map (λ x. x) c.as_slice-in-I64.result.now ≡ wholes_of c.args.items.now = ap (map (λ x. x)) c.as_slice-in-I64.ensures ∙ sym (ap wholes_of c.in-I64.is) in
    subst (Answers c.rows_but-in-I64.result) (found c.args.valid.now _ _ _ _ (to_z-of_z w128 c.args.fill c.ranges.fill) same) c.rows_but-in-I64.ensures
