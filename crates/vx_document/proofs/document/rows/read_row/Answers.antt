use Rattle.std.proofs.Common.{◌≡◌, true, false, sym, ◌∙◌, rules}
use Rattle.std.specs.Prelude.{is_some}
use Rattle.serde_json.specs.Find.{as_null}
use Rattle.serde_json.specs.View.{view}
use Rattle.vx_base.specs.PlainType.{allows_null}
use Rattle.vx_document.proofs.DocumentRows.{row-null, row-some}
use Rattle.vx_document.proofs.document.rows.read_row.Goals as goal
use Rattle.vx_document.proofs.document.rows.read_row.Goals.{else-is_null-via-then-is_null+else-allows_null, else-is_null-via-else-is_null}

pub returns-then-allows_null : goal.returns-then-allows_null
returns-then-allows_null g c =
    row-null g.K.Kind.dtype c.args.nullability (view c.args.value) (sym c.is_null.ensures ∙ c.if-is_null.true) (sym c.allows_null.ensures ∙ c.if-allows_null.true)

pub returns-in_err-read : goal.returns-in_err-read
returns-in_err-read g c =
    let other : is_some (as_null (view c.args.value)) ≡ true → allows_null c.args.nullability ≡ false =
    λ null. elim c.else-is_null.branch [ else-is_null-via-then-is_null+else-allows_null w ↦ cc | else-is_null-via-else-is_null w ↦ absurd cc ] in
    let same = row-some g.K.Kind.dtype c.args.nullability (view c.args.value) g.met.K.Kind.no_nulls other in
    rw same (search rules)

pub returns : goal.returns
returns g c =
    let other : is_some (as_null (view c.args.value)) ≡ true → allows_null c.args.nullability ≡ false =
    λ null. elim c.else-is_null.branch [ else-is_null-via-then-is_null+else-allows_null w ↦ cc | else-is_null-via-else-is_null w ↦ absurd cc ] in
    let same = row-some g.K.Kind.dtype c.args.nullability (view c.args.value) g.met.K.Kind.no_nulls other in
    rw same (search rules)
