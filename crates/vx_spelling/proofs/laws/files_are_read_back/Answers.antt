use Rattle.vx_spelling.proofs.FileLaws.{file_read_back, file_canonical}
use Rattle.vx_spelling.proofs.laws.files_are_read_back.Goals as goal

pub returns-clause-round_trip : goal.returns-clause-round_trip
returns-clause-round_trip c = file_read_back

pub returns-clause-canonical : goal.returns-clause-canonical
returns-clause-canonical c = file_canonical
