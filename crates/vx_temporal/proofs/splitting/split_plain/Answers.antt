use Rattle.std.proofs.Common.{List, subst}
use Rattle.vx_base.specs.declared.dtype.Nullability.{Nullability}
use Rattle.vx_base.specs.PlainValue.{PlainValue}
use Rattle.vx_temporal.specs.SplitOf.{Splits}
use Rattle.vx_temporal.proofs.Storages.{storage-of}
use Rattle.vx_temporal.proofs.splitting.split_plain.Goals as goal

pub split_storage-requires-clause-plain : goal.split_storage-requires-clause-plain
split_storage-requires-clause-plain c = (storage-of c.args.array.now c.args.unit c.requires.unit c.requires.plain c.in-Some.storage.now c.in-Some.ensures).own

pub split_storage-requires-clause-integers : goal.split_storage-requires-clause-integers
split_storage-requires-clause-integers c = (storage-of c.args.array.now c.args.unit c.requires.unit c.requires.plain c.in-Some.storage.now c.in-Some.ensures).integers

pub returns : goal.returns
returns c =
    let s = storage-of c.args.array.now c.args.unit c.requires.unit c.requires.plain c.in-Some.storage.now c.in-Some.ensures in
    subst (λ (p : Nullability × List PlainValue). Splits c.args.unit p.0 p.1 c.split_storage.result) (λ i. (s.nulls i, s.same i)) c.split_storage.ensures
