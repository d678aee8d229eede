use Rattle.std.proofs.Common.{◌≡◌, ◌++◌, length, map, string_bytes}
use Rattle.hwdb_answers.specs.Internal.{texts_from}
use Rattle.hwdb_spec_commands.specs.Streams.{texts_of}
use Rattle.hwdb_answers.proofs.device_texts.texts_of_devices.Given as goal

abbrev pub invariant-answering : goal.invariant-answering
invariant-answering l =
    l.all.items ++ texts_from l.form l.is_first (map string_bytes l.left) l.db ≡ texts_of l.form (map string_bytes l.devices) l.db

abbrev pub decreases-answering : goal.decreases-answering
decreases-answering l = length l.left
