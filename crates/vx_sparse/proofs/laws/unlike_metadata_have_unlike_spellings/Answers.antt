use Rattle.vx_sparse.proofs.MetadataLaws.{spelled_one}
use Rattle.vx_sparse.proofs.laws.unlike_metadata_have_unlike_spellings.Goals as goal

pub returns : goal.returns
returns c = spelled_one
