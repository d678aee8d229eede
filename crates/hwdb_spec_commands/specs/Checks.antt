-- What `check` prints of text files and rules files, how much it finds in them, and its status. Our choice.
use Rattle.std.specs.List.{list_any}
use Rattle.std.specs.Prelude.{Bool, true, false, ℕ, List, Option, None, Some, [], ◌∷◌, ◌++◌, ◌+◌, ◌-◌, ◌^◌, ◌==◌, ◌||◌, if◌then◌else◌, codes, filter, flat_map, length, nat_lt, not}
use Rattle.std.specs.Fmt.{decimal}
use Rattle.hwdb_spec.specs.Lines.{byte}
use Rattle.hwdb_spec.specs.Records.{assignments}
use Rattle.std.specs.Option.{unwrap_or}
use Rattle.std.specs.Str.{bytes_eq}
use Rattle.hwdb_spec.specs.Folders.{Source}
use Rattle.hwdb_spec_commands.specs.Baselines.{new_findings}
use Rattle.hwdb_spec_commands.specs.Findings.{Finding, told}
use Rattle.hwdb_spec_commands.specs.Given.{any_dash, is_dash}
use Rattle.hwdb_spec_commands.specs.Logs.{log_text}
use Rattle.hwdb_spec_commands.specs.RuleFindings.{findings_of, is_rules}
use Rattle.hwdb_spec_commands.specs.declared.Tally.{Tally}
use Rattle.hwdb_spec_commands.specs.declared.formats.Format.{Format}
use Rattle.hwdb_spec_commands.specs.declared.formats.Format.TheVariants.{Github, Json as JsonLines, Patch, Sarif, Text as Reports}

-- two counts together; a count stops at the greatest number of 64 bits
abbrev pub both : ℕ → ℕ → ℕ
both m n = if nat_lt (m + n) (2 ^ 64) then m + n else 2 ^ 64 - 1

-- of one file: it has so many assignments
abbrev pub one_file : (assigned : ℕ) → Tally
one_file assigned = record { files = 1; assignments = assigned; faults = 0; warnings = 0 }

-- of one text file how many assignments it has
abbrev pub text_tally : (file : List ℕ) → Tally
text_tally file = one_file (length (assignments (record { path = []; priority = 1 }) file))

-- the same of a file with this path; a rules file has none
abbrev pub tally_of : (path file : List ℕ) → Tally
tally_of path file = if is_rules path then one_file 0 else text_tally file

-- what is in some files, and in more
abbrev pub tally_of_both : Tally → Tally → Tally
tally_of_both s t = record {
  files = both s.files t.files;
  assignments = both s.assignments t.assignments;
  faults = both s.faults t.faults;
  warnings = both s.warnings t.warnings;
}

-- what is in no file
abbrev pub empty_tally : Tally
empty_tally = record { files = 0; assignments = 0; faults = 0; warnings = 0 }

-- how much is in some files, the later ones counted to the earlier ones
abbrev pub tally_from : Tally → List Source → Tally
tally_from so_far [] = so_far
tally_from so_far (s ∷ more) = tally_from (tally_of_both so_far (tally_of s.name s.bytes)) more

-- the same with how many faults and warnings these findings are
abbrev pub with_found : Tally → List Finding → Tally
with_found t found = record {
  files = t.files;
  assignments = t.assignments;
  faults = length (filter (λ f. f.fault) found);
  warnings = length (filter (λ f. not f.fault) found);
}

-- a count, and what is counted: `1 file`, `2 files`
abbrev pub count_text : ℕ → (word : List ℕ) → List ℕ
count_text n word = decimal n ++ byte " " ∷ (word ++ (if n == 1 then [] else codes "s"))

-- the last line, with the files, assignments, faults and warnings
abbrev pub tally_line : Tally → List ℕ
tally_line t =
    count_text t.files (codes "file") ++ codes ", "
    ++ (count_text t.assignments (codes "assignment") ++ codes ", "
    ++ (count_text t.faults (codes "fault") ++ codes ", "
    ++ (count_text t.warnings (codes "warning") ++ codes "\n")))

-- the format that a word of `--format` names; reports if it is none of the others
abbrev pub format_named : (word : List ℕ) → Format
format_named word =
    if bytes_eq word (codes "json") then JsonLines
    else (if bytes_eq word (codes "github") then Github else (if bytes_eq word (codes "sarif") then Sarif else Reports))

-- the format of findings: `--json` is short for `--format json`, and comes before another one
abbrev pub format_of : (json : Bool) → (word : Option (List ℕ)) → Format
format_of true word = JsonLines
format_of false word = format_named (unwrap_or word (codes "text"))

-- what is printed in all, of what is found in some files: before the last line, alone, or as a log
abbrev pub ended : Format → Tally → (findings : List ℕ) → List ℕ
ended Reports t findings = findings ++ tally_line t
ended JsonLines t findings = findings
ended Github t findings = findings ++ tally_line t
ended Sarif t findings = log_text findings
ended Patch t findings = findings

-- the findings of some files, one file after another; the name of each is the path that is printed
abbrev pub all_findings : Format → (allowed : List (List ℕ)) → List Source → List Finding
all_findings format allowed files = flat_map (λ s. findings_of format allowed s.name s.bytes) files

-- those that a baseline doesn't have
abbrev pub told_findings : Format → (allowed known : List (List ℕ)) → List Source → List Finding
told_findings format allowed known files = new_findings known (all_findings format allowed files)

-- How much `check` tells of some files. What is let pass doesn't count, and a name in a comment that is no kind does.
abbrev pub told_tally : Format → (allowed known : List (List ℕ)) → List Source → Tally
told_tally format allowed known files = with_found (tally_from empty_tally files) (told_findings format allowed known files)

-- what `check` prints of some files
abbrev pub check_text : Format → (allowed known : List (List ℕ)) → List Source → List ℕ
check_text format allowed known files =
    ended format (told_tally format allowed known files) (flat_map (told format) (told_findings format allowed known files))

-- 1 if there is a fault, or `strict` and a warning, else 0
abbrev pub check_status : (strict : Bool) → Tally → ℕ
check_status true t = if t.faults == 0 then (if t.warnings == 0 then 0 else 1) else 1
check_status false t = if t.faults == 0 then 0 else 1

-- the name of a file as findings have it: standard input has the one that `--name` gives
abbrev pub named : (name : Option (List ℕ)) → Source → Source
named None s = s
named (Some name) s = if is_dash s.name then record { name = name; bytes = s.bytes } else s

-- whether a name is given, and no file is standard input
abbrev pub names_nothing : (name : Option (List ℕ)) (files : List (List ℕ)) → Bool
names_nothing None files = false
names_nothing (Some name) files = not (any_dash files)

-- what an error says then
abbrev pub nothing_named : List ℕ
nothing_named = codes "--name names standard input: give - as FILE"

-- ---- `--rules`
-- a path is no rules file's, and not standard input
abbrev pub is_other : (path : List ℕ) → Bool
is_other path = if is_dash path then false else not (is_rules path)

-- one of the files is no rules file, or the name that is given for standard input is none's
abbrev pub names_other : (name : Option (List ℕ)) (files : List (List ℕ)) → Bool
names_other None files = list_any is_other files
names_other (Some name) files = list_any is_other files || not (is_rules name)

-- what an error says then
abbrev pub other_named : List ℕ
other_named = codes "--rules takes rules files alone: FILE and the NAME of --name end in .rules, and - is standard input"

-- the name of standard input as a rules file: the one that is given, or one of ours if a file is that
abbrev pub rules_name : (name : Option (List ℕ)) (files : List (List ℕ)) → Option (List ℕ)
rules_name None files = if any_dash files then Some (codes "standard-input.rules") else None
rules_name (Some name) files = Some name
