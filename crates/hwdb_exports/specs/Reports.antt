-- What an export is.
use Rattle.std.specs.Prelude.{List, ℕ}
use Rattle.hwdb_exports.specs.declared.export.Export.{Export}

-- its bytes
abbrev pub bytes_of : Export → List ℕ
bytes_of e = e.bytes.now
