use Rattle.std.proofs.Common.{refl}
use Rattle.hwdb_reader.specs.Unread.{file_of}
use Rattle.hwdb_reader.proofs.places.read_unread.Goals as goal

pub returns-clause-file : goal.returns-clause-file
unfolding file_of
returns-clause-file c = record { key = refl; value = refl; path = refl }
