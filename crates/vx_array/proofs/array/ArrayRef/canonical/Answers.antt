use Rattle.vx_model.specs.Column.{column_of}
use Rattle.vx_model.proofs.MadeLemmas.{rows_fit}
use Rattle.vx_array.proofs.MadePlain.{made-plain, made-kept}
use Rattle.vx_array.proofs.array.ArrayRef.canonical.Goals as goal

pub returns-then-is_flat-clause-kept : goal.returns-then-is_flat-clause-kept
returns-then-is_flat-clause-kept c = made-kept (column_of c.args.self.now) c.canonical_flat.result (rows_fit c.args.self.now c.known.ensures) c.canonical_flat.ensures

pub returns-then-is_flat-clause-plain : goal.returns-then-is_flat-clause-plain
returns-then-is_flat-clause-plain c = made-plain (column_of c.args.self.now) c.canonical_flat.result (rows_fit c.args.self.now c.known.ensures) c.canonical_flat.ensures

pub returns-else-is_flat-clause-kept : goal.returns-else-is_flat-clause-kept
returns-else-is_flat-clause-kept c = made-kept (column_of c.args.self.now) c.canonical_nested.result (rows_fit c.args.self.now c.known.ensures) c.canonical_nested.ensures

pub returns-else-is_flat-clause-plain : goal.returns-else-is_flat-clause-plain
returns-else-is_flat-clause-plain c = made-plain (column_of c.args.self.now) c.canonical_nested.result (rows_fit c.args.self.now c.known.ensures) c.canonical_nested.ensures
