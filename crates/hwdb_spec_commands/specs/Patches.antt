-- What `check --diff` prints: a unified patch of all sure mends. A mend comes in place of one line. The patched text is checked again before
-- anything is printed: it has no new finding, and none that was mended. Our choice; the form is that of diff(1) in POSIX, with three lines
-- around each change.
use Rattle.std.specs.Prelude.{Bool, true, false, ℕ, List, Option, None, Some, [], ◌∷◌, ◌++◌, ◌+◌, ◌-◌, ◌||◌, if◌then◌else◌, codes, drop, flat_map, is_some, length, map, nat_eq, nat_le, nat_lt, not, take}
use Rattle.std.specs.Fmt.{decimal}
use Rattle.std.specs.List.{ends_with, list_any, prefix_len}
use Rattle.std.specs.Option.{option_or, unwrap_or}
use Rattle.hwdb_spec.specs.Folders.{Source, same}
use Rattle.hwdb_spec.specs.Lines.{Line, byte, has, is, is_none, lines}
use Rattle.hwdb_spec.specs.Visible.{shown_name}
use Rattle.hwdb_spec_commands.specs.AllowedKinds.{ends_record}
use Rattle.hwdb_spec_commands.specs.Baselines.{mark_of, new_findings}
use Rattle.hwdb_spec_commands.specs.Checks.{both, check_status, check_text, count_text, format_of, told_tally}
use Rattle.hwdb_spec_commands.specs.Findings.{Finding}
use Rattle.hwdb_spec_commands.specs.RuleFindings.{findings_of}
use Rattle.hwdb_spec_commands.specs.declared.formats.Format.{Format}
use Rattle.hwdb_spec_commands.specs.declared.formats.Format.TheVariants.{Json as JsonLines, Patch}

-- ---- Lines that are mended

-- a line of a file, by its number, and the line that comes in its place, if one does
pub record Edit : Type 0 where
  pub number : ℕ
  pub old : List ℕ
  pub new : Option (List ℕ)

-- the line as it is then
abbrev pub line_of : Edit → List ℕ
line_of e = unwrap_or e.new e.old

-- a line that stays
abbrev pub kept : Line → Edit
kept l = record { number = l.number; old = l.text; new = None }

-- a file of which each line stays
abbrev pub unmended : (file : List ℕ) → List Edit
unmended file = map kept (lines file)

-- whether a newline ends the last line of a file
abbrev pub is_ended : (file : List ℕ) → Bool
is_ended file = ends_with nat_eq file (codes "\n")

-- a line with a newline after it
abbrev pub with_newline : Edit → List ℕ
with_newline e = line_of e ++ byte "\n" ∷ []

-- the text of such lines: each has a newline after it, but the last one if none ended it
abbrev pub text_of : (ended : Bool) → List Edit → List ℕ
text_of ended edits = let text = flat_map with_newline edits in if ended then text else take (length text - 1) text

-- Each line with its own findings: they come line by line, so that those of a line are the first that are left.
unfoldable pub line_by_line : (List Finding → Edit → Edit) → List Finding → List Edit → List Edit
line_by_line change found [] = []
line_by_line change found (e ∷ more) =
    let size = prefix_len (λ f. is e.number f.line) found in change (take size found) e ∷ line_by_line change (drop size found) more

-- the first mend among some findings
unfoldable pub first_mend : List Finding → Option (List ℕ)
first_mend [] = None
first_mend (f ∷ more) = option_or f.fix (first_mend more)

-- whether a text can come in the place of a line: it is one line, and another one
abbrev pub takes_place : (old text : List ℕ) → Bool
takes_place old text = not (is_none text || (has (byte "\n") text || same text old))

-- a line with another one in its place, if that can be
abbrev pub replaced_by : Option (List ℕ) → Edit → Edit
replaced_by None e = e
replaced_by (Some text) e = if takes_place e.old text then record { number = e.number; old = e.old; new = Some text } else e

-- a line with the first mend of its findings
abbrev pub mend : List Finding → Edit → Edit
mend found e = replaced_by (first_mend found) e

-- a line that was mended once, and once more
abbrev pub mend_again : List Finding → Edit → Edit
mend_again found e = if is_some e.new then mend found e else e

-- a line without its mend, if something is found in it
abbrev pub take_back : List Finding → Edit → Edit
take_back found e = if is_none found then e else record { number = e.number; old = e.old; new = None }

-- ---- Lines that belong together

-- a run of lines, before other runs; one without lines is none
abbrev pub before_runs : List Edit → List (List Edit) → List (List Edit)
before_runs [] runs = runs
before_runs (e ∷ more) runs = (e ∷ more) ∷ runs

-- the records of some lines, each with the line that ends it; `begun` is what the first of them has before these lines
unfoldable pub records_from : (begun : List Edit) → List Edit → List (List Edit)
records_from begun [] = before_runs begun []
records_from begun (e ∷ more) =
    if ends_record e.old then before_runs (begun ++ e ∷ []) (records_from [] more) else records_from (begun ++ e ∷ []) more

-- the number of the last of some lines, after one with this number
abbrev pub last_number : (number : ℕ) → List Edit → ℕ
last_number number [] = number
last_number number (e ∷ more) = last_number e.number more

-- the lines of some records, without the mends of those in which something is found; the findings come record by record
unfoldable pub record_by_record : List Finding → List (List Edit) → List Edit
record_by_record found [] = []
record_by_record found (lines ∷ more) =
    let size = prefix_len (λ f. nat_le f.line (last_number 0 lines)) found in
    map (take_back (take size found)) lines ++ record_by_record (drop size found) more

-- ---- Which mends are sure

-- A finding with its line's number in place of the line. After the number comes the line, if there is a mend for it: such a finding isn't the
-- same one after its line was changed.
abbrev pub at_number : Finding → Finding
at_number f = record {
  path = f.path;
  line = f.line;
  place = f.place;
  fault = f.fault;
  kind = f.kind;
  text = f.text;
  hint = f.hint;
  source = decimal f.line ++ byte " " ∷ (if is_some f.fix then f.source else []);
  fix = f.fix;
}

-- the findings of a patched text that aren't those of the old one, by line and kind
abbrev pub worse : (before now : List Finding) → List Finding
worse before now = new_findings (map (λ f. mark_of (at_number f)) before) (map at_number now)

-- a file that was looked over, the lines that are mended in it, and what is found after that
pub record Mended : Type 0 where
  pub before : List Finding
  pub edits : List Edit
  pub left : List Finding

-- a file of which each line stays
abbrev pub none_mended : (file : List ℕ) (before : List Finding) → Mended
none_mended file before = record { before = before; edits = unmended file; left = before }

-- In these `told` is what is found in a text of the file, and `ended` whether a newline ends it.

-- what is mended already, mended by what is found then: a mend may show what another one is for
abbrev pub once_more : (told : List ℕ → List Finding) (ended : Bool) → List Edit → List Edit
once_more told ended edits = line_by_line mend_again (told (text_of ended edits)) edits

-- the lines in which nothing new is found then; the others stay as they were
abbrev pub not_worse : (told : List ℕ → List Finding) (ended : Bool) (before : List Finding) → List Edit → List Edit
not_worse told ended before edits = line_by_line take_back (worse before (told (text_of ended edits))) edits

-- the records in which nothing new is found then; a mend may have shown it in another line
abbrev pub whole_records : (told : List ℕ → List Finding) (ended : Bool) (before : List Finding) → List Edit → List Edit
whole_records told ended before edits = record_by_record (worse before (told (text_of ended edits))) (records_from [] edits)

-- these mends if nothing new is found with them, else none
abbrev pub all_or_none : (told : List ℕ → List Finding) (ended : Bool) (file : List ℕ) (before : List Finding) → List Edit → Mended
all_or_none told ended file before edits =
    let left = told (text_of ended edits) in
    if is_none (worse before left) then record { before = before; edits = edits; left = left }
    else none_mended file before

-- all that can be mended of a file, each line up to three times
abbrev pub all_tried : (told : List ℕ → List Finding) (ended : Bool) (file : List ℕ) (before : List Finding) → List Edit
all_tried told ended file before = once_more told ended (once_more told ended (line_by_line mend before (unmended file)))

-- The sure mends: all are tried. Lines in which something new is found then stay as they were, and so do records if there is something new
-- even then. If it is found after that, the whole file stays.
abbrev pub tried : (told : List ℕ → List Finding) (ended : Bool) (file : List ℕ) (before : List Finding) → Mended
tried told ended file before =
    if is_some (first_mend before) then all_or_none told ended file before (whole_records told ended before (not_worse told ended before (all_tried told ended file before)))
    else none_mended file before

-- what is mended of a file
abbrev pub mended : (told : List ℕ → List Finding) (file : List ℕ) → Mended
mended told file = tried told (is_ended file) file (told file)

-- ---- Its patch

-- how many unchanged lines a patch shows on each side of a change
abbrev pub context : ℕ
context = 3

-- whether the first of some lines is shown: a change came less than four lines before, of which so many are left, or is one of the next four
abbrev pub is_shown : (left : ℕ) → List Edit → Bool
is_shown left edits = nat_lt 0 left || list_any (λ e. is_some e.new) (take (context + 1) edits)

-- how many lines are left after one
abbrev pub left_after : (left : ℕ) → Edit → ℕ
left_after left e = if is_some e.new then context else left - 1

-- the lines that are shown, as runs of neighbours; `begun` are those right before these lines
unfoldable pub hunks_from : (left : ℕ) (begun : List Edit) → List Edit → List (List Edit)
hunks_from left begun [] = before_runs begun []
hunks_from left begun (e ∷ more) =
    if is_shown left (e ∷ more) then hunks_from (left_after left e) (begun ++ e ∷ []) more else before_runs begun (hunks_from 0 [] more)

-- what ends a line of a patch; no newline ends the line of the file with the number `bare`, which is said
abbrev pub end_text : (bare number : ℕ) → List ℕ
end_text bare number = if is bare number then codes "\n\\ No newline at end of file\n" else codes "\n"

-- a line of a patch, after its sign
abbrev pub patch_line : (sign : ℕ) (bare number : ℕ) (text : List ℕ) → List ℕ
patch_line sign bare number text = sign ∷ text ++ end_text bare number

-- the old line in a hunk; the new lines of changes right before a line that stays come first
abbrev pub old_line : (bare : ℕ) (added : List ℕ) → Edit → List ℕ
old_line bare added e = if is_some e.new then patch_line (byte "-") bare e.number e.old else added ++ patch_line (byte " ") bare e.number e.old

-- the new lines that are still to come after it
abbrev pub added_after : (bare : ℕ) (added : List ℕ) → Edit → List ℕ
added_after bare added e = if is_some e.new then added ++ patch_line (byte "+") bare e.number (line_of e) else []

-- the lines of a hunk: of neighbours that are changed first all old ones, and then the new ones
unfoldable pub hunk_lines : (bare : ℕ) (added : List ℕ) → List Edit → List ℕ
hunk_lines bare added [] = added
hunk_lines bare added (e ∷ more) = old_line bare added e ++ hunk_lines bare (added_after bare added e) more

-- where a hunk begins, and how many lines it has, if it isn't one
abbrev pub range_text : (number size : ℕ) → List ℕ
range_text number size = decimal number ++ (if is 1 size then [] else byte "," ∷ decimal size)

-- its first line: both ranges are one, since each mend is a line for a line
abbrev pub hunk_head : (number size : ℕ) → List ℕ
hunk_head number size = codes "@@ -" ++ (range_text number size ++ (codes " +" ++ (range_text number size ++ codes " @@\n")))

-- a hunk
abbrev pub hunk_text : (bare : ℕ) → List Edit → List ℕ
hunk_text bare [] = []
hunk_text bare (e ∷ more) = hunk_head e.number (length (e ∷ more)) ++ hunk_lines bare [] (e ∷ more)

-- the path that a patch names; a tab ends one with a blank, as git and diff write it
abbrev pub patch_name : (path : List ℕ) → List ℕ
patch_name path = let name = shown_name path in name ++ (if has (byte " ") name then codes "\t\n" else codes "\n")

-- the lines that name a file, before and after the patch
abbrev pub names_text : (path : List ℕ) → List ℕ
names_text path = codes "--- " ++ (patch_name path ++ (codes "+++ " ++ patch_name path))

-- the number of the last line of a file, if no newline ends it, else 0
abbrev pub bare_of : (file : List ℕ) → List Edit → ℕ
bare_of file edits = if is_ended file then 0 else length edits

-- the patch of a file; nothing if each line stays
abbrev pub patch_of : (path file : List ℕ) → List Edit → List ℕ
patch_of path file edits =
    if list_any (λ e. is_some e.new) edits then names_text path ++ flat_map (hunk_text (bare_of file edits)) (hunks_from 0 [] edits) else []

-- ---- What is printed

-- the patch of some files, how much is found in them, and how much after that
pub record Patched : Type 0 where
  pub text : List ℕ
  pub found : ℕ
  pub left : ℕ

-- that of some files, and of one more
abbrev pub with_file : Patched → (path file : List ℕ) → Mended → Patched
with_file so_far path file m = record {
  text = so_far.text ++ patch_of path file m.edits;
  found = both so_far.found (length m.before);
  left = both so_far.left (length m.left);
}

-- that of some files, after others
abbrev pub patched_from : Patched → (allowed : List (List ℕ)) → List Source → Patched
patched_from so_far allowed [] = so_far
patched_from so_far allowed (s ∷ more) =
    patched_from (with_file so_far s.name s.bytes (mended (findings_of JsonLines allowed s.name) s.bytes)) allowed more

-- that of some files; the name of each is the path that is printed
abbrev pub patched : (allowed : List (List ℕ)) → List Source → Patched
patched allowed files = patched_from (record { text = []; found = 0; left = 0 }) allowed files

-- the line for standard error
abbrev pub mended_line : Patched → List ℕ
mended_line p = count_text (p.found - p.left) (codes "finding") ++ (codes " mended, " ++ (decimal p.left ++ codes " left\n"))

-- what standard output gets: the patch alone, or what is said of the findings
abbrev pub said_out : Format → (allowed known : List (List ℕ)) → List Source → List ℕ
said_out Patch allowed known files = (patched allowed files).text
said_out format allowed known files = check_text format allowed known files

-- what standard error gets
abbrev pub said_err : Format → (allowed : List (List ℕ)) → List Source → List ℕ
said_err Patch allowed files = mended_line (patched allowed files)
said_err format allowed files = []

-- the status with a patch: 1 if there is something to mend, else 0
abbrev pub patch_status : (text : List ℕ) → ℕ
patch_status text = if is_none text then 0 else 1

-- the status
abbrev pub said_status : Format → (strict : Bool) (allowed known : List (List ℕ)) → List Source → ℕ
said_status Patch strict allowed known files = patch_status (patched allowed files).text
said_status format strict allowed known files = check_status strict (told_tally format allowed known files)

-- the format that words ask for: `--diff` comes before the others, with which the program doesn't take it
abbrev pub format_asked : (diff json : Bool) (word : Option (List ℕ)) → Format
format_asked true json word = Patch
format_asked false json word = format_of json word
