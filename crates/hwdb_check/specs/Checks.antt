-- The errors of checking text files, and what its types mean. Our choice.
use Rattle.hwdb_spec.specs.Folders.{Source}
use Rattle.hwdb_check.specs.declared.files.TextFile.{TextFile}

-- a file with the path that is printed of it
abbrev pub source_of : TextFile → Source
source_of f = record { name = f.path.now; bytes = f.bytes.now }
