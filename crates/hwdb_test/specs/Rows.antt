-- Worked rows of test files: what the definitions give when they are computed.
use Rattle.std.specs.Prelude.{true, false, List, [], ℕ, codes, flat_map, map, ◌∷◌, ◌≡◌}
use Rattle.hwdb_spec.specs.Lines.{Line, key, value}
use Rattle.hwdb_spec.specs.Records.{assignments}
use Rattle.hwdb_spec.specs.declared.Fault.{Fault}
use Rattle.hwdb_spec_commands.specs.Wanted.{GivenValue, Record, about, end_text, failures, holds, malformed, records}

-- a line of a test file, at line 2
abbrev pub at_two : List ℕ → Line
at_two text = record { number = 2; text = text }

-- the lines of a record, and what a device has
abbrev pub some_lines : List Line
some_lines = map at_two (codes " A=1" ∷ codes " \t!B" ∷ codes " =" ∷ [])

abbrev pub has_a : List (List ℕ × List ℕ)
has_a = (codes "A", codes "1") ∷ []

abbrev pub has_others : List (List ℕ × List ℕ)
has_others = (codes "A", codes "2") ∷ (codes "B", codes "1") ∷ (codes "C", codes "") ∷ []

-- All hold of a device with just that. `A=1` doesn't hold of another value, `!B` not of a `B`, and `=` not of a `C`; of a device
-- without anything only `A=1` doesn't hold. Of one that has `A=1` and `B`, `=` holds, since `!B` speaks of `B`.
abbrev pub HoldRows : Type 0
HoldRows =
    map (λ properties. map (holds some_lines properties) some_lines) (has_a ∷ has_others ∷ [] ∷ ((codes "A", codes "1") ∷ (codes "B", codes "") ∷ []) ∷ [])
    ≡ (true ∷ true ∷ true ∷ []) ∷ (false ∷ false ∷ false ∷ []) ∷ (false ∷ true ∷ true ∷ []) ∷ (true ∷ false ∷ true ∷ []) ∷ []

-- the devices of a record, and the numbers of its lines
abbrev pub in_short : Record → List (List ℕ) × List ℕ
in_short r = (r.devices, map (λ l. l.number) r.lines)

-- Two devices head a record; comments and what is after a `#` are left out; an empty line ends a record.
abbrev pub FileRows : Type 0
FileRows =
    map in_short (records (codes "# c\na:1\nb:2  # c\n A=1\n# c\n !B\n\nc\n =\n"))
    ≡ (codes "a:1" ∷ codes "b:2" ∷ [], 4 ∷ 6 ∷ []) ∷ (codes "c" ∷ [], 9 ∷ []) ∷ []

-- a file whose lines want values
abbrev pub valued_file : List ℕ
valued_file = codes "a:1\nb:2\n A=1\n B=2  # c\n\n\nc\n A=x=y\n"

-- Which device is wanted to have which value is what the file would assign as a text file of hwdb(7): to the same pattern.
abbrev pub AssignRows : Type 0
AssignRows =
    flat_map (λ r. flat_map (λ l. map {B = List ℕ × (List ℕ × List ℕ)} (λ d. (d, (key l, value l))) r.devices) r.lines) (records valued_file)
    ≡ map (λ a. (a.position.pattern, (a.position.key, a.value))) (assignments (record { path = []; priority = 1 }) valued_file)

-- Which lines are malformed: none of a good file. A property without a device, `B` without `=` or `!`, `!` alone, and with a blank
-- after it. `=1`, a device after a property, a device without properties.
abbrev pub MalformedRows : Type 0
MalformedRows =
    map (λ file. map (λ (f : Fault). f.line) (malformed file))
    (codes "a\n !B\n = # c\n A=1\n" ∷ codes " A=1\n" ∷ codes "a\n B\n" ∷ codes "a\n !\n ! B\n" ∷ codes "a\n =1\n" ∷ codes "a\n A=1\nb\n" ∷ codes "a\n" ∷ [])
    ≡ [] ∷ (1 ∷ []) ∷ (2 ∷ []) ∷ (2 ∷ 3 ∷ []) ∷ (2 ∷ []) ∷ (3 ∷ []) ∷ (1 ∷ []) ∷ []

-- a value that a file gave
abbrev pub given : List ℕ → List ℕ → GivenValue
given key value = record { key = key; value = value; path = codes "/f"; line = 7 }

-- What is printed of a line that wants a value, of one that wants a key away, and of one that wants nothing else. Between them a device
-- looks like a pattern. Then the last line.
abbrev pub TextRows : Type 0
TextRows =
    failures false (codes "t") (codes "d") (at_two (codes " A=1")) []
    ∷ failures false (codes "t") (codes "d") (at_two (codes " A=1")) (about some_lines (given (codes "A") (codes "2") ∷ given (codes "C") [] ∷ []) (at_two (codes " A=1")))
    ∷ failures false (codes "t") (codes "d") (at_two (codes " !B")) (given (codes "B") (codes "x=y") ∷ [])
    ∷ failures false (codes "t") (codes "d?") (at_two (codes " A=1")) []
    ∷ failures false (codes "t") (codes "d*") (at_two (codes " A=1")) []
    ∷ failures false (codes "t") (codes "d") (at_two (codes " =")) (about some_lines (given (codes "A") (codes "2") ∷ given (codes "C") [] ∷ []) (at_two (codes " =")))
    ∷ end_text false (true ∷ [])
    ∷ end_text false (true ∷ false ∷ false ∷ [])
    ∷ end_text true (false ∷ [])
    ∷ []
    ≡ codes "t:2: wanted A=1\n    device: d\n    given: nothing\n"
    ∷ codes "t:2: wanted A=1\n    device: d\n    given: A=2 by /f:7\n"
    ∷ codes "t:2: wanted !B\n    device: d\n    given: B=x=y by /f:7\n"
    ∷ codes "t:2: wanted A=1\n    device: d?\n    given: nothing\n    hint: a match line of a test file is a device string, not a pattern: * and ? stand for themselves\n"
    ∷ codes "t:2: wanted A=1\n    device: d*\n    given: nothing\n    hint: a match line of a test file is a device string, not a pattern: * and ? stand for themselves\n"
    ∷ codes "t:2: wanted nothing else\n    device: d\n    given: C= by /f:7\n"
    ∷ codes "1 wanted line, 0 failed\n"
    ∷ codes "3 wanted lines, 2 failed\n"
    ∷ []
    ∷ []

-- A line of JSON for each line that fails: with what its key gets, if anything; of `=` with all that the device has besides.
abbrev pub JsonRows : Type 0
JsonRows =
    failures true (codes "t") (codes "d") (at_two (codes " A=1")) []
    ∷ failures true (codes "t") (codes "d?") (at_two (codes " A=1")) []
    ∷ failures true (codes "t") (codes "d") (at_two (codes " !B")) (given (codes "B") (codes "x") ∷ [])
    ∷ failures true (codes "t") (codes "d") (at_two (codes " =")) (given (codes "B") (codes "x") ∷ given (codes "C") [] ∷ [])
    ∷ []
    ≡ codes "{\"path\":\"t\",\"line\":2,\"device\":\"d\",\"wanted\":\"A=1\"}\n"
    ∷ codes "{\"path\":\"t\",\"line\":2,\"device\":\"d?\",\"wanted\":\"A=1\",\"hint\":\"a match line of a test file is a device string, not a pattern: * and ? stand for themselves\"}\n"
    ∷ codes "{\"path\":\"t\",\"line\":2,\"device\":\"d\",\"wanted\":\"!B\",\"key\":\"B\",\"value\":\"x\",\"given_path\":\"/f\",\"given_line\":7}\n"
    ∷ codes "{\"path\":\"t\",\"line\":2,\"device\":\"d\",\"wanted\":\"nothing else\",\"others\":[{\"key\":\"B\",\"value\":\"x\",\"given_path\":\"/f\",\"given_line\":7},{\"key\":\"C\",\"value\":\"\",\"given_path\":\"/f\",\"given_line\":7}]}\n"
    ∷ []
