use Rattle.std.proofs.Common.{refl}
use Rattle.hwdb_reader.specs.Unread.{file_at, new_file, old_file}
use Rattle.hwdb_reader.proofs.twins.Twins.new.Goals as goal

pub returns-clause-old : goal.returns-clause-old
unfolding file_at old_file
returns-clause-old c = refl

pub returns-clause-new : goal.returns-clause-new
unfolding file_at new_file
returns-clause-new c = refl
