use Rattle.std.proofs.Common.{◌≡◌, ◌∙◌, ℕ, List, map, refl, ap, sym, subst, true}
use Rattle.std.specs.Prelude.{replicate}
use Rattle.std.proofs.lemmas.Result.{MatchResult-weaker}
use Rattle.vx_base.specs.Defaults.{default_of, or_default}
use Rattle.vx_base.specs.PlainScalar.{fits}
use Rattle.vx_base.specs.PlainType.{PlainType, boolean, primitive, utf8, binary, timestamp}
use Rattle.vx_base.specs.PlainValue.{PlainValue, truth, int, bytes, truth_or_false, whole_or_zero, bytes_or_empty}
use Rattle.vx_base.specs.TypeOf.{type_of}
use Rattle.vx_model.proofs.FilledLemmas.{filled-truths, filled-wholes, filled-stamps, filled-texts, filled-binaries}
use Rattle.vx_values.specs.ValuesOf.{ValueKind, truths, byte_rows, kind_of, kind_in, values_of}
use Rattle.vx_base.proofs.FieldLemmas.{type_of-Utf8}
use Rattle.vx_values.proofs.Types.{type_of-Bool, type_of-Primitive, type_of-Timestamp, type_of-Binary}
use Rattle.vx_values.proofs.values.Values.filled.Goals as goal

-- values of a kind are those of a type's value in every row
abbrev AreFilled : ValueKind → List PlainValue → ℕ → PlainValue → PlainType → Type 0
AreFilled kind values len v t = (kind ≡ kind_of t) × (values ≡ map (or_default (default_of t)) (replicate len v))

pub returns-in_ok-filled-in-Bool : goal.returns-in_ok-filled-in-Bool
returns-in_ok-filled-in-Bool c =
    let v = c.args.value.now.value in
    let typed : boolean c.in-Bool.field-0 ≡ c.args.value.now.dtype = sym (type_of-Bool c.in-Bool.field-0) ∙ sym (ap type_of c.in-Bool.is) ∙ c.dtype.ensures in
    let fitting : fits (boolean c.in-Bool.field-0) v ≡ true = rw (← typed) at c.known.ensures in
    let item = c.truth.ensures ∙ ap truth_or_false c.cell-cell.ensures in
    subst (AreFilled truths (map truth c.in_ok-filled-in-Bool.field-0) c.args.len v) typed (refl, ap (map truth) (c.in_ok-filled-in-Bool.ensures ∙ ap (replicate c.args.len) item) ∙ filled-truths c.in-Bool.field-0 v c.args.len fitting)

pub returns-in-Primitive : goal.returns-in-Primitive
returns-in-Primitive c =
    let v = c.args.value.now.value in
    let typed : primitive c.in-Primitive.ptype c.in-Primitive.field-1 ≡ c.args.value.now.dtype = sym (type_of-Primitive c.in-Primitive.ptype c.in-Primitive.field-1) ∙ sym (ap type_of c.in-Primitive.is) ∙ c.dtype.ensures in
    let fitting : fits (primitive c.in-Primitive.ptype c.in-Primitive.field-1) v ≡ true = rw (← typed) at c.known.ensures in
    let item = ap (λ w. map int (replicate c.args.len (whole_or_zero w))) c.cell-cell.ensures in
    MatchResult-weaker c.filled_wholes.result c.filled_wholes.ensures
    (λ values is. subst (AreFilled (kind_in values) (values_of values) c.args.len v) typed (is.0, is.1 ∙ item ∙ filled-wholes c.in-Primitive.ptype c.in-Primitive.field-1 v c.args.len fitting)) (λ _ is. is)

pub returns-in-Timestamp : goal.returns-in-Timestamp
returns-in-Timestamp c =
    let v = c.args.value.now.value in
    let typed : timestamp c.in-Timestamp.field-0 c.in-Timestamp.field-1 ≡ c.args.value.now.dtype = sym (type_of-Timestamp c.in-Timestamp.field-0 c.in-Timestamp.field-1) ∙ sym (ap type_of c.in-Timestamp.is) ∙ c.dtype.ensures in
    let fitting : fits (timestamp c.in-Timestamp.field-0 c.in-Timestamp.field-1) v ≡ true = rw (← typed) at c.known.ensures in
    let item = ap (λ w. map int (replicate c.args.len (whole_or_zero w))) c.cell-cell.ensures in
    MatchResult-weaker c.filled_wholes-in-Timestamp.result c.filled_wholes-in-Timestamp.ensures
    (λ values is. subst (AreFilled (kind_in values) (values_of values) c.args.len v) typed (is.0, is.1 ∙ item ∙ filled-stamps c.in-Timestamp.field-0 c.in-Timestamp.field-1 v c.args.len fitting)) (λ _ is. is)

pub returns-in_ok-filled-in-Utf8 : goal.returns-in_ok-filled-in-Utf8
returns-in_ok-filled-in-Utf8 c =
    let v = c.args.value.now.value in
    let typed : utf8 c.in-Utf8.field-0 ≡ c.args.value.now.dtype = sym (type_of-Utf8 c.in-Utf8.field-0) ∙ sym (ap type_of c.in-Utf8.is) ∙ c.dtype.ensures in
    let fitting : fits (utf8 c.in-Utf8.field-0) v ≡ true = rw (← typed) at c.known.ensures in
    let item = c.bytes.ensures ∙ ap bytes_or_empty c.cell-cell.ensures in
    subst (AreFilled byte_rows (map bytes c.in_ok-filled-in-Utf8.field-0) c.args.len v) typed (refl, ap (map bytes) (c.in_ok-filled-in-Utf8.ensures ∙ ap (replicate c.args.len) item) ∙ filled-texts c.in-Utf8.field-0 v c.args.len fitting)

pub returns-in_ok-filled-in-Binary : goal.returns-in_ok-filled-in-Binary
returns-in_ok-filled-in-Binary c =
    let v = c.args.value.now.value in
    let typed : binary c.in-Binary.field-0 ≡ c.args.value.now.dtype = sym (type_of-Binary c.in-Binary.field-0) ∙ sym (ap type_of c.in-Binary.is) ∙ c.dtype.ensures in
    let fitting : fits (binary c.in-Binary.field-0) v ≡ true = rw (← typed) at c.known.ensures in
    let item = c.bytes-in-Binary.ensures ∙ ap bytes_or_empty c.cell-cell.ensures in
    subst (AreFilled byte_rows (map bytes c.in_ok-filled-in-Binary.field-0) c.args.len v) typed (refl, ap (map bytes) (c.in_ok-filled-in-Binary.ensures ∙ ap (replicate c.args.len) item) ∙ filled-binaries c.in-Binary.field-0 v c.args.len fitting)
