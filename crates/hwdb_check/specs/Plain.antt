-- Files of whose lines only the marks of comments have to be looked at.
use Rattle.std.specs.Prelude.{true, false, ℕ, List, [], ◌∷◌, ◌-◌, ◌<◌, ◌≡◌, if◌then◌else◌, drop, flat_map, length, nat_eq, take}
use Rattle.std.specs.List.{list_any, starts_with}
use Rattle.hwdb_spec.specs.Assignment.{Assignment}
use Rattle.hwdb_spec.specs.Lines.{Line, begins_with, byte, clean_line, has, is_blank, is_dropped, is_indent, is_match, lines}
use Rattle.hwdb_spec.specs.Records.{faults}
use Rattle.hwdb_spec_commands.specs.Findings.{Finding, found_warnings}
use Rattle.hwdb_spec_commands.specs.Fragile.{is_fragile}
use Rattle.hwdb_spec_commands.specs.Surroundings.{is_unpaired, is_unread}
use Rattle.hwdb_spec_commands.specs.Unmatched.{is_unmatched, judgement_of, likelihood_of}
use Rattle.hwdb_spec_commands.specs.Warnings.{all_warnings, greatest, is_cut, is_too_long, may_be_too_deep, repeated_lines, replacing}
use Rattle.hwdb_spec_commands.specs.declared.formats.Format.{Format}
use Rattle.hwdb_properties.specs.Internal.{IsCommon}

-- a pattern that gets no warning
pub record IsPlainPattern (pattern : List ℕ) : Type 0 where
  pub mark : starts_with nat_eq pattern (239 ∷ 187 ∷ 191 ∷ []) ≡ false
  pub tab : begins_with (byte "\t") pattern ≡ false
  pub bracket : has (byte "[") pattern ≡ false
  pub judged : is_unmatched (judgement_of pattern) ≡ false
  pub likely : is_unmatched (likelihood_of pattern) ≡ false
  pub short : is_too_long (record { number = 0; text = pattern }) ≡ false
  pub shallow : may_be_too_deep (record { number = 0; text = pattern }) ≡ false
  pub lasting : (if is_match (record { number = 0; text = pattern }) then is_fragile pattern else false) ≡ false

-- a common property with no blank beside its `=`
pub record IsPlainProperty (key value : List ℕ) : Type 0 where
  pub common : IsCommon key
  pub spaced : (if list_any is_indent (drop (length key - 1) key) then true else list_any is_indent (take 1 value)) ≡ false

pub record IsPlainAssignment (a : Assignment) : Type 0 where
  pub pattern : IsPlainPattern a.position.pattern
  pub property : IsPlainProperty a.position.key a.value

-- such assignments, each of a line after that of the one before it
abbrev pub AreSteady : (above : ℕ) → List Assignment → Type 0
AreSteady above [] = Unit {0}
AreSteady above (a ∷ more) = (above < a.position.line) × IsPlainAssignment a × AreSteady a.position.line more

-- a line of a file that gets no warning, unless a `#` cuts it
abbrev pub IsQuiet : (file : List ℕ) → Line → Type 0
IsQuiet file l =
    is_dropped l ≡ false → is_cut l (clean_line l) ≡ false → (allowed : List (List ℕ)) → all_warnings allowed file l (clean_line l) ≡ []

abbrev pub AreQuiet : (file : List ℕ) → List Line → Type 0
AreQuiet file [] = Unit {0}
AreQuiet file (l ∷ more) = IsQuiet file l × AreQuiet file more

-- the findings of the warnings of a file, by line
abbrev pub plain_findings : Format → (allowed : List (List ℕ)) → (path file : List ℕ) → List Finding
plain_findings format allowed path file = flat_map (found_warnings format allowed path file) (lines file)

-- a file without faults in which nothing is repeated, replaced, unread or unpaired, and of quiet lines
pub record IsPlainFile (file : List ℕ) : Type 0 where
  pub faultless : faults file ≡ []
  pub repeated : repeated_lines file ≡ []
  pub replaced : (n : ℕ) → greatest (replacing file n) ≡ 0
  pub unread : (n : ℕ) → is_unread file n ≡ false
  pub unpaired : (n : ℕ) → is_unpaired file n ≡ false
  pub quiet : AreQuiet file (lines file)

-- a text in which each `#` comes after a blank; `prev` is the byte before it
abbrev pub IsTame : (prev : ℕ) → List ℕ → Type 0
IsTame prev [] = Unit {0}
IsTame prev (b ∷ more) = (b ≡ 35 → is_blank prev ≡ true) × IsTame b more
