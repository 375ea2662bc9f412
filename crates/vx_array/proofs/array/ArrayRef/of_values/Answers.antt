use Rattle.std.specs.Prelude.{map}
use Rattle.vx_base.specs.TypeOf.{type_of, value_of}
use Rattle.vx_model.specs.Column.{column}
use Rattle.vx_array.proofs.MadePlain.{made-plain, made-kept}
use Rattle.vx_array.proofs.array.ArrayRef.of_values.Goals as goal

pub returns-clause-kept : goal.returns-clause-kept
returns-clause-kept c = made-kept (column (type_of c.args.dtype.now) (map value_of c.args.values.items)) c.plain_tree.result c.requires c.plain_tree.ensures

pub returns-clause-plain : goal.returns-clause-plain
returns-clause-plain c = made-plain (column (type_of c.args.dtype.now) (map value_of c.args.values.items)) c.plain_tree.result c.requires c.plain_tree.ensures
