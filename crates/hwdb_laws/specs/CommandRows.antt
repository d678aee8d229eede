-- Worked rows of what a command needs of its words: they are what a job asks for, as COMMANDS of hwdb(8) has it.
use Rattle.std.specs.Prelude.{◌∷◌, List, None, [], codes, false, true, ℕ}
use Rattle.clap.specs.Simple.{Shape}
use Rattle.clap.specs.Walk.{Row}
use Rattle.clap.specs.declared.builder.value_parser.Reading.TheVariants.{AsWritten}
use Rattle.hwdb_spec_commands.specs.CommandLine.{count_rule, keys_app, node_rule, scan_app}
use Rattle.hwdb_spec_commands.specs.Jobs.{AreGiven, IfSo, IsOneOf}

-- a value of an argument
abbrev pub row_with : (id value : List ℕ) → Row
row_with id value = record { id = id; values = value ∷ []; count = None; source = None; reading = AsWritten }

-- `scan`, of which only its device is looked at
abbrev pub scan_alone : Shape
scan_alone = record scan_app.top { rules = node_rule ∷ [] }

-- Of no commands none is meant, and by another word not `scan`. It needs its device, also if that comes after a count. And a count is a
-- number.
abbrev pub CommandRows : Type 0
CommandRows =
    (IsOneOf [] (codes "scan") [] → ⊥)
    × (IsOneOf (scan_alone ∷ []) (codes "keys") (row_with (codes "DEVICE") (codes "f") ∷ []) → ⊥)
    × (IsOneOf (scan_alone ∷ []) (codes "scan") [] → ⊥)
    × IsOneOf (keys_app.top ∷ scan_alone ∷ []) (codes "scan") (row_with (codes "DEVICE") (codes "f") ∷ [])
    × (AreGiven (count_rule ∷ node_rule ∷ []) [] → ⊥)
    × (AreGiven (count_rule ∷ []) (row_with (codes "count") (codes "x") ∷ []) → ⊥)
    × AreGiven (count_rule ∷ []) []
    × (IfSo true ⊥ → ⊥)
    × IfSo false ⊥
