-- What a scanner holds, and what it makes of more bytes.
use Rattle.std.specs.Prelude.{◌-◌, ◌==◌, ◌++◌, ◌∷◌, ℕ, Bool, false, List, [], None, Option, Some, flat_map, if◌then◌else◌, length}
use Rattle.hwdb_spec_commands.specs.Scans as spec
use Rattle.hwdb_spec_commands.specs.Scans.{code_after, counted, event_of, lines_of}
use Rattle.hwdb_scan.specs.declared.events.Event.{Event}
use Rattle.hwdb_scan.specs.declared.scanner.Scanner.{Scanner}

-- an event
abbrev pub event_view : Event → spec.Event
event_view e = record { kind = e.kind; code = e.code; value = e.value }

-- between two bytes: the bytes of a record that has begun, the scan code that is known, and how many lines are still asked for
pub record Scanning : Type 0 where
  pub begun : List ℕ
  pub known : Option ℕ
  pub wanted : Option ℕ

-- what a scanner holds
abbrev pub scanning_of : Scanner → Scanning
scanning_of s = record { begun = s.begun.items; known = s.known; wanted = s.wanted }

-- before the first byte
abbrev pub start : (count : Option ℕ) → Scanning
start count = record { begun = []; known = None; wanted = count }

-- how many lines are still asked for after some
abbrev pub fewer : (wanted : Option ℕ) (lines : ℕ) → Option ℕ
fewer None lines = None
fewer (Some n) lines = Some (n - lines)

-- whether no more line is asked for
abbrev pub is_over : (wanted : Option ℕ) → Bool
is_over None = false
is_over (Some n) = n == 0

-- the lines of an event, as many as are asked for
abbrev pub told_lines : Scanning → spec.Event → List (List ℕ)
told_lines s e = counted s.wanted (lines_of s.known e)

-- after an event
abbrev pub after_event : Scanning → spec.Event → Scanning
after_event s e = record { begun = []; known = code_after s.known e; wanted = fewer s.wanted (length (lines_of s.known e)) }

-- lines as one text
abbrev pub joined : List (List ℕ) → List ℕ
joined lines = flat_map (λ (line : List ℕ). line) lines

-- after one byte more
abbrev pub after_byte : Scanning → (byte : ℕ) → Scanning
after_byte s b = if length s.begun == 23 then after_event s (event_of (s.begun ++ b ∷ [])) else record s { begun = s.begun ++ b ∷ [] }

-- what it adds
abbrev pub byte_text : Scanning → (byte : ℕ) → List ℕ
byte_text s b = if length s.begun == 23 then joined (told_lines s (event_of (s.begun ++ b ∷ []))) else []

-- after more bytes
unfoldable pub after_bytes : Scanning → (bytes : List ℕ) → Scanning
after_bytes s [] = s
after_bytes s (b ∷ more) = after_bytes (after_byte s b) more

-- what they add
unfoldable pub bytes_text : Scanning → (bytes : List ℕ) → List ℕ
bytes_text s [] = []
bytes_text s (b ∷ more) = byte_text s b ++ bytes_text (after_byte s b) more
