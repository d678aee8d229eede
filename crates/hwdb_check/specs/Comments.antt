-- What the laws say of comments that let kinds of warnings pass. A definition that said less would be noticed here.
use Rattle.std.specs.Prelude.{◌+◌, ◌≡◌, ◌++◌, ◌∷◌, List, [], true, false, codes, drop, filter, flat_map, length, map, not, take, ℕ}
use Rattle.std.specs.List.{list_any}
use Rattle.hwdb_spec.specs.Lines.{is, is_none, lines, pieces}
use Rattle.hwdb_spec.specs.Records.{faults}
use Rattle.hwdb_spec_commands.specs.AllowedKinds.{Marked, allowed_text, comment_place, ends_record, file_findings, left_of_line, left_warnings, marked, marked_from, names_at, names_in, names_to_end, told_unknown, unknown_hint, unknown_names, warnings_left}
use Rattle.hwdb_spec_commands.specs.Checks.{empty_tally, with_found}
use Rattle.hwdb_spec_commands.specs.Findings.{bare_findings, faults_at, found_faults}
use Rattle.hwdb_spec_commands.specs.Kinds.{is_told}
use Rattle.hwdb_spec_commands.specs.Warnings.{line_warnings, warnings}
use Rattle.hwdb_spec_commands.specs.declared.formats.Format.{Format}
use Rattle.hwdb_spec_commands.specs.declared.formats.Format.TheVariants.{Json as JsonLines, Text as Reports}

-- each line of a file is there once, in order
abbrev pub LinesAreMarked : Type 0
LinesAreMarked = (file : List ℕ) → map (λ m. m.line) (marked file) ≡ lines file

-- A line that ends a record parts the lines before it from those after it: what comments let pass on one side doesn't depend on the
-- other side.
pub record RecordsAreApart : Type 0 where
  pub before : (names : List (List ℕ)) (number : ℕ) (first : List (List ℕ)) (last : List ℕ) (more : List (List ℕ)) → ends_record last ≡ true
      → take (length first + 1) (marked_from names number (first ++ last ∷ more)) ≡ marked_from names number (first ++ last ∷ [])
  pub first : (first : List (List ℕ)) (last : List ℕ) (more : List (List ℕ)) → ends_record last ≡ true
      → names_to_end (first ++ last ∷ more) ≡ names_to_end (first ++ last ∷ [])
  pub after : (names : List (List ℕ)) (number : ℕ) (first : List (List ℕ)) (last : List ℕ) (more : List (List ℕ)) → ends_record last ≡ true
      → drop (length first + 1) (marked_from names number (first ++ last ∷ more)) ≡ marked_from (names_to_end more) (number + (length first + 1)) more

-- What is left of a line are its warnings that nothing lets pass: no other one, and each of them.
abbrev pub LeftAreTold : Type 0
LeftAreTold =
    (allowed : List (List ℕ)) (file : List ℕ) (m : Marked)
    → left_warnings allowed file m ≡ filter (is_told (names_at allowed m)) (line_warnings [] file m.line)

-- Of a file without such a comment the findings of its lines are told as they are.
abbrev pub BareAreTold : Type 0
BareAreTold =
    (format : Format) (allowed : List (List ℕ)) (path file : List ℕ) → list_any (λ text. not (is_none (allowed_text text))) (pieces (is 10) file) ≡ false
    → file_findings format allowed path file ≡ bare_findings format (flat_map names_in allowed) path file

-- No word and no comment lets a fault pass: faults are printed and counted, whatever is allowed. They are printed by line, each with the
-- line that has it, in their order; what is left of this line comes after them.
pub record FaultsStay : Type 0 where
  pub printed : (format : Format) (allowed : List (List ℕ)) (path file : List ℕ)
      → file_findings format allowed path file ≡ flat_map (λ m. found_faults path file m.line ++ left_of_line format allowed path file m) (marked file)
  pub each : (file : List ℕ) → flat_map (λ l. faults_at file l.number) (lines file) ≡ faults file
  pub counted : (format : Format) (allowed : List (List ℕ)) (path file : List ℕ)
      → (with_found empty_tally (file_findings format allowed path file)).faults ≡ length (faults file)

-- the names at each line of a file
abbrev pub names_by_line : (file : List ℕ) → List (List (List ℕ))
names_by_line file = map (λ m. m.names) (marked file)

-- Which names a line's comment has, which lines they are for, and what is told of those that are no kinds.
pub record CommentRows : Type 0 where
  pub names : map (λ text. names_in (allowed_text text))
      (codes "# hwdb: allow unread" ∷ codes " K=1 #hwdb:  allow unread , near-name\r" ∷ codes "# hwdb: allow unread # as it is" ∷ codes "# hwdb allow unread"
      ∷ codes "# hwdb: allowed" ∷ codes "hwdb: allow unread" ∷ [])
      ≡ (codes "unread" ∷ []) ∷ (codes "unread" ∷ codes "near-name" ∷ []) ∷ (codes "unread" ∷ []) ∷ [] ∷ [] ∷ [] ∷ []
  pub ends : map ends_record (codes "" ∷ codes " \t" ∷ codes " # c" ∷ codes "# c" ∷ codes " K=1" ∷ codes "a*" ∷ []) ≡ true ∷ true ∷ true ∷ false ∷ false ∷ false ∷ []
  pub above : names_by_line (codes "#hwdb:allow a\nx*\n K=1\n\ny*\n K=1\n") ≡ (codes "a" ∷ []) ∷ (codes "a" ∷ []) ∷ (codes "a" ∷ []) ∷ (codes "a" ∷ []) ∷ [] ∷ [] ∷ []
  pub below : names_by_line (codes "x*\n K=1\n\ny*\n K=1 #hwdb:allow a\n") ≡ [] ∷ [] ∷ [] ∷ (codes "a" ∷ []) ∷ (codes "a" ∷ []) ∷ []
  pub alone : names_by_line (codes "#hwdb:allow a\n\nx*\n K=1\n") ≡ (codes "a" ∷ []) ∷ (codes "a" ∷ []) ∷ [] ∷ [] ∷ []
  pub unknown : unknown_names (codes "# hwdb: allow unred, unread, no-equals") ≡ codes "unred" ∷ codes "no-equals" ∷ []
  pub meant : unknown_hint (codes "unred") ≡ codes "did you mean unread?"
  pub fault : unknown_hint (codes "no-equals") ≡ codes "hwdb-format(7) has all kinds; a fault can't be allowed"
  pub empty : file_findings JsonLines [] (codes "f") [] ≡ bare_findings JsonLines [] (codes "f") []
  pub none : warnings_left [] [] ≡ warnings [] []
  pub place : comment_place (codes " K=1 # hwdb: allow x") ≡ 5
  pub report : told_unknown Reports (codes "f") (record { number = 3; text = codes "# hwdb: allow unred" }) (codes "unred")
      ≡ codes "f:3:1: warning: no kind of warning that a comment may allow: unred [unknown-kind]\n    # hwdb: allow unred\n    ^\n    hint: did you mean unread?\n"
