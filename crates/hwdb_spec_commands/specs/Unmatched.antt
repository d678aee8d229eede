-- What is said of a pattern that matches no text that udev asks, or none that it likely asks: where it goes wrong, and what could be there.
-- Our choice.
use Rattle.std.specs.Prelude.{Bool, true, false, ℕ, List, [], ◌∷◌, ◌++◌, ◌+◌, ◌==◌, Option, None, Some, if◌then◌else◌, codes, drop, flat_map, length, nat_eq, nat_lt, not, take}
use Rattle.std.specs.List.{starts_with}
use Rattle.hwdb_spec.specs.Forms.{expected, judged}
use Rattle.hwdb_spec_commands.specs.FormTable.{asked, likely_prefix}
use Rattle.hwdb_spec_commands.specs.LikelyForms.{likely}
use Rattle.hwdb_spec.specs.Lines.{begins_with, byte, has, is_none, max_pattern}
use Rattle.hwdb_spec_commands.specs.Fields.{meant_field, with_fields}
use Rattle.hwdb_spec_commands.specs.Mends.{likely_after, mend_hint, mended}
use Rattle.hwdb_spec_commands.specs.Properties.{before, property_row}
use Rattle.hwdb_spec_commands.specs.Reports.{shown, shown_byte}
use Rattle.hwdb_spec.specs.declared.Judgement.{Judgement}
use Rattle.hwdb_spec.specs.declared.Judgement.TheVariants.{Dead, Fine, UnknownPrefix}

-- What is said of a clean text that is a pattern of at most 4,096 bytes. Nothing is said of any other, nor of one that begins
-- with a tab, since that is told.
unfoldable pub judgement_of : List ℕ → Judgement
judgement_of text =
    if is_none text then Fine else
    (if begins_with (byte " ") text then Fine else
    (if begins_with (byte "\t") text then Fine else
    (if nat_lt max_pattern (length text) then Fine else judged asked text)))

-- whether a pattern matches no text that udev asks
abbrev pub is_unmatched : Judgement → Bool
is_unmatched Fine = false
is_unmatched UnknownPrefix = true
is_unmatched (Dead place) = true

-- What is said of a pattern that matches a text that udev asks: it is fine if it matches one that udev likely asks, and has nothing that
-- is nearly the name of a field. Nothing is said of any other text.
unfoldable pub likelihood_of : List ℕ → Judgement
likelihood_of text =
    if is_none text then Fine else
    (if begins_with (byte " ") text then Fine else
    (if begins_with (byte "\t") text then Fine else
    (if nat_lt max_pattern (length text) then Fine else
    (if is_unmatched (judged asked text) then Fine else with_fields (judged likely text) text))))

-- what is printed of it
abbrev pub judgement_text : Judgement → List ℕ
judgement_text Fine = []
judgement_text UnknownPrefix = codes "no string that udev asks begins like this"
judgement_text (Dead place) = codes "no string that udev asks goes on like this"

-- after how many bytes of its line it is
abbrev pub judgement_place : Judgement → ℕ
judgement_place Fine = 0
judgement_place UnknownPrefix = 0
judgement_place (Dead place) = place

-- ---- What to do

-- bytes in order as runs, each with its first byte and its last one; `first` and `last` are those of the run so far
unfoldable pub runs_from : (first last : ℕ) → List ℕ → List (ℕ × ℕ)
runs_from first last [] = (first, last) ∷ []
runs_from first last (b ∷ more) = if b == last + 1 then runs_from first b more else (first, last) ∷ runs_from b b more

-- bytes in order as runs
abbrev pub runs : List ℕ → List (ℕ × ℕ)
runs [] = []
runs (b ∷ more) = runs_from b b more

-- a run, as it is shown: its byte, or the first one, `-` and the last one
abbrev pub run_text : ℕ × ℕ → List ℕ
run_text run = if run.0 == run.1 then shown_byte run.0 else shown_byte run.0 ++ byte "-" ∷ shown_byte run.1

-- a run after another one
abbrev pub or_run : ℕ × ℕ → List ℕ
or_run run = codes " or " ++ run_text run

-- what to do if there is no byte to name, or too many
abbrev pub compare_hint : List ℕ
compare_hint = codes "compare it byte by byte with a string that udev asks, upper and lower case too"

-- the bytes that could be there, in at most three runs
abbrev pub runs_hint : List (ℕ × ℕ) → List ℕ
runs_hint [] = compare_hint
runs_hint (run ∷ more) =
    if nat_lt 2 (length more) then compare_hint else codes "put " ++ (run_text run ++ (flat_map or_run more ++ codes " here"))

-- the bytes that could be after the front of a pattern
unfoldable pub expected_after : List ℕ → List ℕ
expected_after front = expected asked front

-- what to do about a pattern that goes wrong after this front; of a front of more than 256 bytes no byte is named
abbrev pub place_hint : List ℕ → List ℕ
place_hint front = if nat_lt 256 (length front) then compare_hint else runs_hint (runs (expected_after front))

-- the beginning that was likely meant by that of a pattern
unfoldable pub meant_prefix : List ℕ → Option (List ℕ)
meant_prefix pattern = likely_prefix pattern

-- what to do about a pattern that begins as no text does
abbrev pub prefix_hint : Option (List ℕ) → List ℕ
prefix_hint None = codes "begin it as udev's strings do, with evdev: or mouse: or usb: and the like"
prefix_hint (Some prefix) = codes "did you mean " ++ (prefix ++ byte "?" ∷ [])

-- whether a match line is likely a property that begins in the first column: the name of one is before its first `=`
abbrev pub is_like_property : List ℕ → Bool
is_like_property text =
    if has (byte "=") text then not (is_none (property_row (before (byte "=") text))) else false

-- whether a pattern of a mouse has a vendor in place of its bus
abbrev pub lacks_bus : List ℕ → Bool
lacks_bus pattern = starts_with nat_eq pattern (codes "mouse:v")

-- what to do about a pattern that goes wrong after this many bytes, if it isn't known how it was meant
abbrev pub dead_hint : (pattern : List ℕ) (place : ℕ) → List ℕ
dead_hint pattern place =
    if is_like_property pattern then codes "a property? begin it with a space" else
    (if lacks_bus pattern then codes "after mouse: comes usb:, bluetooth: or ps2:, as in mouse:usb:" ++ shown (drop 6 pattern)
    else place_hint (take place pattern))

-- what to do about a pattern with this judgement
abbrev pub judgement_hint : Judgement → List ℕ → List ℕ
judgement_hint Fine pattern = []
judgement_hint UnknownPrefix pattern = prefix_hint (meant_prefix pattern)
judgement_hint (Dead place) pattern = mend_hint pattern place (dead_hint pattern place) (mended pattern place)

-- what to do about a pattern that likely goes wrong after this front
abbrev pub likely_place_hint : List ℕ → List ℕ
likely_place_hint front = if nat_lt 256 (length front) then compare_hint else runs_hint (runs (likely_after front))

-- what to do about a pattern that likely goes wrong at a place, if this field was likely meant there, or none
abbrev pub unlikely_hint : (field pattern : List ℕ) (place : ℕ) → List ℕ
unlikely_hint field pattern place =
    if is_none field then mend_hint pattern place (likely_place_hint (take place pattern)) (mended pattern place)
    else prefix_hint (Some field)

-- what to do about a pattern of which this is said
abbrev pub likelihood_hint : Judgement → List ℕ → List ℕ
likelihood_hint Fine pattern = []
likelihood_hint UnknownPrefix pattern = compare_hint
likelihood_hint (Dead place) pattern = unlikely_hint (meant_field (drop place pattern)) pattern place
