-- A path whose end may not be copied yet.
use Rattle.std.specs.Prelude.{List, ℕ, ◌++◌}
use Rattle.hwdb_query.specs.declared.long_path.LongPath.{LongPath}

-- the path as a whole
abbrev pub path_of : LongPath → List ℕ
path_of p = p.copied.items ++ p.tail.now
