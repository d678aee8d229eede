-- What the types of this crate mean.
use Rattle.std.specs.Prelude.{List, map, ℕ}
use Rattle.std.specs.Borrow.{Bor}
use Rattle.hwdb_spec.specs.Lines.{Line}
use Rattle.hwdb_spec_commands.specs.Wanted.{GivenValue, Record}
use Rattle.hwdb_test.specs.declared.wanted_lines.WantedLine.{WantedLine}
use Rattle.hwdb_test.specs.declared.given_values.GivenValue.{GivenValue as Found}
use Rattle.hwdb_test.specs.declared.records.Record.{Record as Read}

-- a line of a test file
abbrev pub line_at : WantedLine → Line
line_at l = record { number = l.number; text = l.text.now }

-- a property, and which file and line gave it
abbrev pub given_at : Found → GivenValue
given_at g = record { key = g.key.now; value = g.value.now; path = g.path.now; line = g.line }

-- its key and its value
abbrev pub pair_of : GivenValue → List ℕ × List ℕ
pair_of g = (g.key, g.value)

-- the same of what was found
abbrev pub pair_at : Found → List ℕ × List ℕ
pair_at g = (g.key.now, g.value.now)

-- the bytes of a device
abbrev pub device_at : Bor (List ℕ) → List ℕ
device_at d = d.now

-- a record of a test file
abbrev pub record_at : Read → Record
record_at r = record { devices = map device_at r.devices.items; lines = map line_at r.lines.items }
