-- Worked rows of where patterns stop, and of which are the nearest: what the definitions give when they are computed.
use Rattle.std.specs.Prelude.{List, [], ℕ, codes, drop, false, map, ◌++◌, ◌∷◌, ◌≡◌}
use Rattle.hwdb_spec.specs.Patterns.{tokens}
use Rattle.hwdb_spec.specs.Assignment.{Assignment}
use Rattle.hwdb_spec.specs.Folders.{Source}
use Rattle.hwdb_spec_commands.specs.NearAsked.{gathered, pattern_of, patterns_from}
use Rattle.hwdb_spec.specs.Fronts.{Front}
use Rattle.hwdb_spec_commands.specs.Near.{PatternAt, marked, matching, nearest, pattern_place, patterns_in, rated, stop_of, why_text}
use Rattle.hwdb_spec_commands.specs.Replacements.{Replacement, masked_files, masked_form, replacement_text, replacements, replacements_for}

-- a pattern at a line of a file `f`
abbrev pub at_line : ℕ → List ℕ → PatternAt
at_line line pattern = record { path = codes "f"; file = 1; line = line; pattern = pattern }

abbrev pub front : ℕ → ℕ → Front
front tokens bytes = record { tokens = tokens; bytes = bytes }

-- Where patterns stop: at a letter of the other case, or before the last token, of the fronts of the device the least. After a
-- star, at the pattern's end, after a bracket, at the first byte.
abbrev pub StopRows : Type 0
StopRows =
    map (λ (p : List ℕ × List ℕ). stop_of (tokens p.0) p.1)
    ((codes "v04d9*", codes "v04D9p") ∷ (codes "a*c", codes "abab") ∷ (codes "*", codes "xy") ∷ (codes "ab", codes "abc")
    ∷ (codes "a*b[cd]e", codes "aXbdbcz") ∷ (codes "b", codes "ab") ∷ [])
    ≡ front 3 3 ∷ front 2 1 ∷ front 1 0 ∷ front 2 2 ∷ front 4 4 ∷ front 0 0 ∷ []

-- How many literals are missing, and how many the front has: letters' case and a star don't count. A byte in the middle, nothing
-- from either end, a star between.
abbrev pub RatedRows : Type 0
RatedRows =
    map {B = ℕ × ℕ} (λ (p : List ℕ × List ℕ). ((rated p.1 (at_line 1 p.0)).missing, (rated p.1 (at_line 1 p.0)).front))
    ((codes "v04d*", codes "v04Dp") ∷ (codes "abXcd", codes "abYcd") ∷ (codes "ab", codes "xabc") ∷ (codes "a[x]*d", codes "abcd") ∷ [])
    ≡ (0, 4) ∷ (1, 2) ∷ (2, 0) ∷ (1, 1) ∷ []

-- some patterns, one of which comes twice
abbrev pub some_patterns : List PatternAt
some_patterns = at_line 1 (codes "aXb") ∷ at_line 2 (codes "ab") ∷ at_line 3 (codes "aB") ∷ at_line 3 (codes "aB") ∷ at_line 5 (codes "xb") ∷ at_line 6 (codes "aXb") ∷ []

-- the nearest of them, by line: the one that comes twice once, the longer front first, and then the lower line
abbrev pub NearestRows : Type 0
NearestRows =
    map (λ n. map (λ r. r.at.line) (nearest (codes "ab") n some_patterns)) (0 ∷ 1 ∷ 3 ∷ 9 ∷ [])
    ≡ [] ∷ (3 ∷ []) ∷ (3 ∷ 1 ∷ 6 ∷ []) ∷ (3 ∷ 1 ∷ 6 ∷ 5 ∷ []) ∷ []

-- and the one that matches
abbrev pub MatchingRows : Type 0
MatchingRows = map (λ at. at.line) (matching (codes "ab") some_patterns) ≡ 2 ∷ []

-- those that match, by file and line
abbrev pub OrderRows : Type 0
OrderRows =
    map {B = ℕ × ℕ} (λ (at : PatternAt). (at.file, at.line))
    (matching (codes "ab") (record { path = codes "g"; file = 2; line = 1; pattern = codes "*" } ∷ at_line 4 (codes "a*") ∷ at_line 2 (codes "a?") ∷ at_line 1 (codes "b") ∷ []))
    ≡ (1, 2) ∷ (1, 4) ∷ (2, 1) ∷ []

-- why a pattern stops at a device, in words
abbrev pub why : List ℕ → List ℕ → List ℕ
why device pattern =
    let f = stop_of (tokens pattern) device in
    why_text pattern device f.bytes (drop (pattern_place pattern f) pattern) (drop f.bytes device)

abbrev pub WordRows : Type 0
WordRows =
    map (why (codes "k:a_")) (codes "k:a" ∷ codes "j:a_" ∷ codes "k:a b" ∷ codes "k:a(b" ∷ codes "k:a_b" ∷ codes "k:[bc]*" ∷ codes "k:A*" ∷ codes "k:ab" ∷ [])
    ≡ codes "the pattern ends here, the device goes on: put `*` after it"
    ∷ codes "the device begins with `k:`: begin the pattern with that"
    ∷ codes "udev makes `_` of ` `: write `_` in the pattern"
    ∷ codes "udev makes `_` of `(`: write `_` in the pattern"
    ∷ codes "the device ends here, the pattern goes on: end the pattern here"
    ∷ codes "the device has `a`, the pattern `[bc]`"
    ∷ codes "the device has `a`, the pattern `A`: the case of letters counts"
    ∷ codes "the device has `_`, the pattern `b`"
    ∷ []

-- and at devices whose first part may be missing, and at those without a colon
abbrev pub HeadRows : Type 0
HeadRows =
    (map (why (codes "input:a")) (codes "evdev:input:a*" ∷ codes "k:*" ∷ [])
    ≡ codes "the device begins with `input:`, and most patterns for it have `evdev:` before that; 'hwdb device' says what udev asks"
    ∷ codes "the device begins with `input:`, and most patterns for it have `evdev:` before that; 'hwdb device' says what udev asks" ∷ [])
    × (map (why (codes "ab")) (codes "k:ab*" ∷ codes "b*" ∷ [])
    ≡ codes "the device has no prefix like `k:`; 'hwdb device ab' says what udev asks for a device of this name" ∷ codes "the device has `a`, the pattern `b`" ∷ [])

-- the patterns of a database whose assignments are these, by file and line: each once, at the first of its places
abbrev pub assigned : ℕ → ℕ → List ℕ → List ℕ → Assignment
assigned priority line pattern key = record { position = record { priority = priority; line = line; pattern = pattern; key = key }; value = []; path = codes "f" }

abbrev pub GatheredRows : Type 0
GatheredRows =
    map {B = List ℕ × (ℕ × ℕ)} (λ (at : PatternAt). (at.pattern, (at.file, at.line)))
    (gathered (map pattern_of (assigned 2 3 (codes "a") (codes "x") ∷ assigned 1 9 (codes "a") (codes "y") ∷ assigned 1 8 (codes "a") (codes "z") ∷ assigned 4 1 (codes "b") (codes "x") ∷ [])))
    ≡ (codes "a", (1, 8)) ∷ (codes "b", (4, 1)) ∷ []

-- the patterns of two files, the place of each file its number
abbrev pub PlaceRows : Type 0
PlaceRows =
    map {B = List ℕ × (ℕ × ℕ)} (λ (at : PatternAt). (at.path, (at.file, at.line)))
    (patterns_from 1 (record { name = codes "f"; bytes = codes "a\n b=1\nb\n" } ∷ record { name = codes "g"; bytes = codes "c" } ∷ []))
    ≡ (codes "f", (1, 1)) ∷ (codes "f", (1, 3)) ∷ (codes "g", (2, 1)) ∷ []

-- a pattern, and the mark below its last byte
abbrev pub MarkRows : Type 0
MarkRows = marked (codes "ab:d") 3 ≡ codes "    ab:d\n       ^\n"

-- the match lines of a file, without those in comments, and with those that no property follows
abbrev pub FileRows : Type 0
FileRows =
    map {B = ℕ × List ℕ} (λ (at : PatternAt). (at.line, at.pattern)) (patterns_in (codes "f") 1 (codes "# c\na*  # c\n b=1\n\nd\n"))
    ≡ (2, codes "a*") ∷ (5, codes "d") ∷ []

-- an assignment of a file `f` with a value
abbrev pub valued : ℕ → ℕ → (pattern key value : List ℕ) → Assignment
valued priority line pattern key value =
    record { position = record { priority = priority; line = line; pattern = pattern; key = key }; value = value; path = codes "f" }

-- Which assignments were replaced, each with the value that counts: the first two of three with one pattern and key. Another key, and
-- another pattern, replace none.
abbrev pub ReplacedRows : Type 0
ReplacedRows =
    map {B = List ℕ × List ℕ} (λ (r : Replacement). (r.old.value, r.new.value))
    (replacements (valued 1 2 (codes "a") (codes "k") (codes "1") ∷ valued 1 3 (codes "a") (codes "l") (codes "2") ∷ valued 1 5 (codes "b") (codes "k") (codes "3")
    ∷ valued 2 2 (codes "a") (codes "k") (codes "4") ∷ valued 3 9 (codes "a") (codes "k") (codes "5") ∷ []))
    ≡ (codes "1", codes "5") ∷ (codes "4", codes "5") ∷ []

-- Of the files of both folders those whose pattern matches. A masked file replaces none, and isn't replaced.
abbrev pub etc_rows : List Source
etc_rows = record { name = codes "2.hwdb"; bytes = codes "a*\n K=y\nb*\n K=y\n" } ∷ []

abbrev pub usr_rows : List Source
usr_rows = record { name = codes "1.hwdb"; bytes = codes "a*\n K=x\nb*\n K=x\n" } ∷ record { name = codes "2.hwdb"; bytes = codes "a*\n K=z\n" } ∷ []

abbrev pub ReplacedFileRows : Type 0
ReplacedFileRows =
    map {B = List ℕ × List ℕ} (λ (r : Replacement). (r.old.value, r.new.value)) (replacements_for (codes "ab") etc_rows usr_rows)
    ≡ (codes "x", codes "y") ∷ []

-- Of a record whose match line comes twice each line replaces what comes before it, once, and not itself.
abbrev pub twice_rows : List Source
twice_rows = record { name = codes "1.hwdb"; bytes = codes "a*\na*\n K=x\n K=y\n" } ∷ []

abbrev pub RepeatedRows : Type 0
RepeatedRows =
    map {B = List ℕ × List ℕ} (λ (r : Replacement). (r.old.value, r.new.value)) (replacements_for (codes "ab") twice_rows [])
    ≡ (codes "x", codes "y") ∷ []

abbrev pub MaskedRows : Type 0
MaskedRows = masked_files etc_rows usr_rows ≡ codes "/usr/lib/udev/hwdb.d/2.hwdb" ∷ []

-- what is printed of it
abbrev pub ReplacedTextRows : Type 0
ReplacedTextRows =
    replacement_text (record { old = valued 1 2 (codes "a*") (codes "K") (codes "x"); new = valued 2 5 (codes "a*") (codes "K") (codes "y") })
    ++ masked_form false (codes "g" ∷ [])
    ≡ codes "replaced K=x\n    f:2  a*\n  by K=y\n    f:5  a*\nmasked: g\n"
