-- What answering the devices of a text means, and its errors. Our choice.
use Rattle.std.specs.Prelude.{ℕ, List, ◌≡◌, ◌<◌, ◌-◌, ◌∷◌, length, Option, None, Some, drop, take}
use Rattle.std.specs.Io.KnownBytes.{prepend_known}
use Rattle.hwdb_spec.specs.Texts.{devices_of}
use Rattle.hwdb_answers.specs.declared.chunk.LineReader.{LineReader}

-- the bytes that were read and not handed on
abbrev pub held : LineReader → List ℕ
held lines = take (lines.end - lines.at) (drop lines.at lines.chunk)

-- the bytes that are still to be handed on, if the source tells those that it has left
abbrev pub to_come : LineReader → Option (List ℕ) → Option (List ℕ)
to_come lines left = prepend_known (held lines) left

-- if the bytes are told, the line is the first one of those before; those now have the lines after it, and are fewer
abbrev pub IsFirstLine : (line : List ℕ) → Option (List ℕ) → Option (List ℕ) → Type 0
IsFirstLine line None now = Unit {0}
IsFirstLine line (Some before) None = ⊥
IsFirstLine line (Some before) (Some now) = (devices_of before ≡ line ∷ devices_of now) × (length now < length before)
