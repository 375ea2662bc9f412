use Rattle.std.proofs.Common.{◌∙◌, ap, map, length}
use Rattle.std.proofs.lemmas.List.{length-map, map-id}
use Rattle.vx_base.specs.PlainType.{is_integer, nullability_of}
use Rattle.vx_base.specs.PlainValue.{whole_or_zero}
use Rattle.vx_model.specs.Rows.{rows}
use Rattle.vx_model.specs.TreeType.{tree_type}
use Rattle.vx_model.proofs.PrimitiveLemmas.{encoding-plain}
use Rattle.vx_time.specs.PartsOf.{units_per_second}
use Rattle.vx_temporal.specs.SplitRows.{day_in}
use Rattle.vx_temporal.proofs.PartColumns.{unit-positive, days-stored, seconds-stored, subseconds-stored}
use Rattle.vx_temporal.proofs.splitting.columns_of.Goals as goal

pub with_integers-requires-clause-primitive : goal.with_integers-requires-clause-primitive
with_integers-requires-clause-primitive c = encoding-plain c.args.storage.now (ap is_integer c.requires.integers) c.requires.plain

pub with_integers-requires-clause-rows : goal.with_integers-requires-clause-rows
with_integers-requires-clause-rows c =
    let d = units_per_second c.args.unit in
    let vs = rows c.args.storage.now in
    ap (λ xs. length (map (λ x. x) xs)) c.from_vec.ensures ∙ ap length (map-id c.args.split.days.items ∙ c.requires.parts.days) ∙ length-map (map whole_or_zero vs) (day_in d) ∙ length-map vs whole_or_zero

pub returns : goal.returns
returns c =
    let d = units_per_second c.args.unit in
    let some = unit-positive c.args.unit c.requires.divides in
    let vs = rows c.args.storage.now in
    let days = ap (map (λ x. x)) c.from_vec.ensures ∙ map-id c.args.split.days.items ∙ c.requires.parts.days in
    record {
      days = c.in_ok-day_column.ensures ∙ days-stored d some vs _ (nullability_of (tree_type c.args.storage.now)) days;
      seconds = c.non_null.ensures ∙ seconds-stored d some vs c.args.split.seconds.items c.requires.parts.seconds;
      subseconds = c.subseconds_tree.ensures ∙ subseconds-stored d some vs c.args.split.subseconds.items c.len.result c.len.ensures c.requires.parts.subseconds;
    }
