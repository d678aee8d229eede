-- Where a finding is in its file: a line and a column, both from 1. Our choice.
use Rattle.std.specs.Prelude.{List, [], ◌∷◌, if◌then◌else◌, ℕ, ◌+◌, ◌-◌, nat_lt, length, drop, min}
use Rattle.hwdb_spec.specs.Lines.{byte, begins_with}
use Rattle.hwdb_rulefiles.specs.RuleText.{Reading, start, step, unindented}
use Rattle.hwdb_rulefiles.specs.declared.findings.Finding.{Finding}
use Rattle.hwdb_rulefiles.specs.declared.spots.Spot.{Spot}

-- how many blanks a row begins with
abbrev pub indent : List ℕ → ℕ
indent row = length row - length (unindented row)

-- how far a place of the line is in the text of a row, which begins after so many bytes of the line
abbrev pub within : (place before : ℕ) → (row : List ℕ) → ℕ
within place before row = min (place - before) (length (unindented row))

-- the place, if it is in this row; a comment has none
abbrev pub here : Reading → (index : ℕ) → (row : List ℕ) → (place : ℕ) → Spot → Spot
here r index row place before =
    if begins_with (byte "#") (unindented row) then before
    else record { line = index + 1; column = indent row + within place (length r.text) row + 1 }

-- The spot of a place in a line, from the row with this index on: rows are joined as udev joins them, and the last one counts that begins
-- at the place or before it.
unfoldable pub spot_in : Reading → (index : ℕ) → List (List ℕ) → (place : ℕ) → Spot → Spot
spot_in r index [] place before = before
spot_in r index (row ∷ more) place before =
    if nat_lt place (length r.text) then before
    else (if (step r (index + 1) row).held then spot_in (step r (index + 1) row) (index + 1) more place (here r index row place before)
    else here r index row place before)

-- the spot of a place in the line that begins at a row with this number
abbrev pub spot_of : (rows : List (List ℕ)) → (line place : ℕ) → Spot
spot_of rows line place = spot_in start (line - 1) (drop (line - 1) rows) place (record { line = line; column = 1 })

-- the spot of a finding
abbrev pub spot : (rows : List (List ℕ)) → Finding → Spot
spot rows f = spot_of rows f.line f.place
