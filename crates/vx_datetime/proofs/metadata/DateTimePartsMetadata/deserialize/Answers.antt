use Rattle.std.proofs.Common.{rules}
use Rattle.vx_datetime.proofs.MetadataLaws.{read_alone}
use Rattle.vx_datetime.proofs.metadata.DateTimePartsMetadata.deserialize.Goals as goal

pub returns-in-Some : goal.returns-in-Some
returns-in-Some c = read_alone c.args.bytes.now c.args.children c.in-Some.metadata (search rules) (search rules)
