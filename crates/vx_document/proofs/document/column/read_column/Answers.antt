use Rattle.std.proofs.Common.{◌≡◌, sym, ap, subst, ◌∙◌}
use Rattle.serde_json.specs.Data.{Data, array}
use Rattle.serde_json.specs.View.{view, items_view}
use Rattle.serde_json.specs.declared.value.Value.{Array}
use Rattle.serde_json.proofs.Views.{view-Array}
use Rattle.vx_base.specs.TypeOf.{type_of}
use Rattle.vx_model.specs.Column.{Column}
use Rattle.vx_document.specs.Reading.{Gives}
use Rattle.vx_document.specs.RowsOf.{rows_of}
use Rattle.vx_document.proofs.document.column.read_column.Goals as goal

pub returns-in-Array-clause-rows : goal.returns-in-Array-clause-rows
unfolding rows_of
returns-in-Array-clause-rows c =
    let is : c.args.json ≡ Array c.in-Array.list = c.in-Array.is in
    let list : view c.args.json ≡ array (items_view c.in-Array.list.items) = ap view is ∙ view-Array c.in-Array.list in
    subst (λ (d : Data). Gives (λ (column : Column). column.values) c.read_list.result (rows_of (type_of c.args.dtype) d)) (sym list) c.read_list.ensures.rows
