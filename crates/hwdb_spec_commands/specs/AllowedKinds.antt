-- Comments that let kinds of warnings pass in their record: `# hwdb: allow KIND[,KIND]`. Faults are never let pass. Our choice.
use Rattle.std.specs.Prelude.{Bool, false, ℕ, List, None, [], ◌∷◌, ◌++◌, ◌+◌, if◌then◌else◌, codes, drop, filter, flat_map, length, map, nat_eq, not}
use Rattle.std.specs.List.{after_first, before_first, list_any, position_or_len, prefix_len, starts_with}
use Rattle.hwdb_spec.specs.Folders.{same}
use Rattle.hwdb_spec.specs.Lines.{Line, byte, clean_line, is, is_dropped, is_empty, is_indent, pieces, trimmed}
use Rattle.hwdb_spec_commands.specs.Findings.{Finding, found_faults, found_warnings, told}
use Rattle.hwdb_spec_commands.specs.Properties.{did_you_mean, near_row}
use Rattle.hwdb_spec_commands.specs.Reports.{shown}
use Rattle.hwdb_spec_commands.specs.Warnings.{line_warnings}
use Rattle.hwdb_spec_commands.specs.declared.WarningKind.{WarningKind}
use Rattle.hwdb_spec_commands.specs.declared.formats.Format.{Format}
use Rattle.hwdb_spec_commands.specs.declared.kinds.TheConstants.{KINDS}

-- ---- What a comment names

-- a text without the blanks around it
abbrev pub stripped : List ℕ → List ℕ
stripped text = trimmed (drop (prefix_len is_indent text) text)

-- the names in a text, with commas between, as in a word of `--allow`
abbrev pub names_in : (text : List ℕ) → List (List ℕ)
names_in text = map stripped (pieces (is (byte ",")) text)

-- what comes after a word at the front of a text, without the blanks before it; nothing if the text begins otherwise
abbrev pub after_word : (word text : List ℕ) → List ℕ
after_word word text =
    let rest = drop (length word) text in
    if starts_with nat_eq text word then drop (prefix_len is_indent rest) rest else []

-- The names in a line's comment that lets kinds pass, as they are written. A comment is between the first `#` of a line and the next
-- one, after which a reason may come.
abbrev pub allowed_text : (text : List ℕ) → List ℕ
allowed_text text =
    let comment = before_first (is (byte "#")) (after_first (is (byte "#")) text) in
    after_word (codes "allow ") (after_word (codes "hwdb:") (drop (prefix_len is_indent comment) comment))

-- ---- Which lines it is for

-- whether a line ends a record: it is empty, but for blanks and a comment after them (hwdb(7))
abbrev pub ends_record : (text : List ℕ) → Bool
ends_record text =
    let l : Line = record { number = 0; text = text } in if is_dropped l then false else is_empty (clean_line l)

-- the names that comments let pass in some lines, up to the first one that ends a record
unfoldable pub names_to_end : (texts : List (List ℕ)) → List (List ℕ)
names_to_end [] = []
names_to_end (text ∷ more) = names_in (allowed_text text) ++ (if ends_record text then [] else names_to_end more)

-- a line, and the names that the comments of its record let pass
pub record Marked : Type 0 where
  pub line : Line
  pub names : List (List ℕ)

-- some lines of a file, each with what its record lets pass; the record of the first one lets these names pass
unfoldable pub marked_from : (names : List (List ℕ)) (number : ℕ) → (texts : List (List ℕ)) → List Marked
marked_from names number [] = []
marked_from names number (text ∷ more) =
    record { line = record { number = number; text = text }; names = names }
    ∷ marked_from (if ends_record text then names_to_end more else names) (number + 1) more

-- The lines of a file, each with what the comments of its record let pass. A record goes up to the first empty line, comments right
-- above its match lines included.
abbrev pub marked : (file : List ℕ) → List Marked
marked file = let texts = pieces (is (byte "\n")) file in marked_from (names_to_end texts) 1 texts

-- ---- Names that are none

-- whether this is the name of a kind of warning
abbrev pub is_kind : (name : List ℕ) → Bool
is_kind name = list_any (same name) (pieces (is (byte "\n")) KINDS.now)

-- the names in a line's comment that are no kinds of warnings: these are told, and nothing lets them pass
abbrev pub unknown_names : (text : List ℕ) → List (List ℕ)
unknown_names text = filter (λ name. not (is_kind name)) (names_in (allowed_text text))

-- what is told of such a name
abbrev pub unknown_text : (name : List ℕ) → List ℕ
unknown_text name = codes "no kind of warning that a comment may allow: " ++ shown name

-- what to do about it, if the kind with nearly this name is `near`
abbrev pub kind_hint : (near : List ℕ) → List ℕ
kind_hint [] = codes "hwdb-format(7) has all kinds; a fault can't be allowed"
kind_hint (b ∷ more) = did_you_mean (b ∷ more)

-- what to do about it
abbrev pub unknown_hint : (name : List ℕ) → List ℕ
unknown_hint name = kind_hint (near_row KINDS.now name)

-- its place is that of the comment
abbrev pub comment_place : (text : List ℕ) → ℕ
comment_place text = position_or_len (is (byte "#")) text

-- such a name in a line
abbrev pub unknown_found : (path : List ℕ) → Line → (name : List ℕ) → Finding
unknown_found path l name = record {
  path = path;
  line = l.number;
  place = comment_place l.text;
  fault = false;
  kind = codes "unknown-kind";
  text = unknown_text name;
  hint = unknown_hint name;
  source = l.text;
  fix = None;
}

-- what is printed of it
unfoldable pub told_unknown : Format → (path : List ℕ) → Line → (name : List ℕ) → List ℕ
told_unknown format path l name = told format (unknown_found path l name)

-- one such name of a line
unfoldable pub one_unknown : (path : List ℕ) → Line → (name : List ℕ) → List Finding
one_unknown path l name = unknown_found path l name ∷ []

-- ---- What is left

-- what is let pass at a line: the names in the words of `--allow`, and those of its record
abbrev pub names_at : (allowed : List (List ℕ)) → Marked → List (List ℕ)
names_at allowed m = flat_map names_in allowed ++ m.names

-- the warnings of a line that are left
abbrev pub left_warnings : (allowed : List (List ℕ)) → (file : List ℕ) → Marked → List WarningKind
left_warnings allowed file m = line_warnings (names_at allowed m) file m.line

-- the findings of a line beside its faults: names that are no kinds, and the warnings that are left
abbrev pub left_of_line : Format → (allowed : List (List ℕ)) → (path file : List ℕ) → Marked → List Finding
left_of_line format allowed path file m =
    flat_map (one_unknown path m.line) (unknown_names m.line.text) ++ found_warnings format (names_at allowed m) path file m.line

-- the findings of a line: its faults come first
abbrev pub found_in_line : Format → (allowed : List (List ℕ)) → (path file : List ℕ) → Marked → List Finding
found_in_line format allowed path file m = found_faults path file m.line ++ left_of_line format allowed path file m

-- the warnings of a file that are left
abbrev pub warnings_left : (allowed : List (List ℕ)) → (file : List ℕ) → List WarningKind
warnings_left allowed file = flat_map (left_warnings allowed file) (marked file)

-- the findings of a file, line by line
abbrev pub file_findings : Format → (allowed : List (List ℕ)) → (path file : List ℕ) → List Finding
file_findings format allowed path file = flat_map (found_in_line format allowed path file) (marked file)

-- what is printed of them
abbrev pub file_text : Format → (allowed : List (List ℕ)) → (path file : List ℕ) → List ℕ
file_text format allowed path file = flat_map (told format) (file_findings format allowed path file)
