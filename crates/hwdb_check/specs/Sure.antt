-- What the laws say of a patch. A definition that made other mends, or took back fewer, would be noticed here.
use Rattle.std.specs.Prelude.{◌≡◌, ◌++◌, ◌∷◌, ◌+◌, ℕ, true, false, List, [], None, Option, Some, IfSome, codes, filter, if◌then◌else◌, is_some, map}
use Rattle.std.specs.Str.{bytes_eq}
use Rattle.hwdb_spec.specs.Lines.{is}
use Rattle.hwdb_spec_commands.specs.Findings.{Finding}
use Rattle.hwdb_spec_commands.specs.declared.formats.Format.TheVariants.{Json as JsonLines, Patch}
use Rattle.hwdb_spec_commands.specs.Patches.{Edit, Mended, first_mend, format_asked, is_ended, mended, mended_line, patch_of, patch_status, said_err, said_out, said_status, takes_place, text_of, unmended, worse}

-- a line as it was in the file
abbrev pub as_it_was : Edit → Edit
as_it_was e = record { number = e.number; old = e.old; new = None }

-- What comes in the place of a line is one line, and another one; and among the findings of the line in the file is one with a mend.
abbrev pub IsWell : (before : List Finding) → Edit → Type 0
IsWell before e = IfSome e.new (λ text. (takes_place e.old text ≡ true) × (is_some (first_mend (filter (λ f. is e.number f.line) before)) ≡ true))

-- that is so of each line
abbrev pub AreWell : (before : List Finding) → List Edit → Type 0
AreWell before [] = Unit {0}
AreWell before (e ∷ more) = IsWell before e × AreWell before more

-- The patched text, checked again, has no finding but those of the old one: none is new, and none that was mended is left. It has the lines
-- of the file, in their order. In the place of some come those that were mended, and the others are the same.
pub record IsSure (told : List ℕ → List Finding) (file : List ℕ) (m : Mended) : Type 0 where
  pub none_new : worse (told file) (told (text_of (is_ended file) m.edits)) ≡ []
  pub lines : map as_it_was m.edits ≡ unmended file
  pub well : AreWell (told file) m.edits
  pub before : m.before ≡ told file
  pub left : m.left ≡ told (text_of (is_ended file) m.edits)

-- whatever is told of texts
abbrev pub MendsAreSure : Type 0
MendsAreSure = (told : List ℕ → List Finding) (file : List ℕ) → IsSure told file (mended told file)

-- a file of which each line stays is itself
abbrev pub LinesStay : Type 0
LinesStay = (file : List ℕ) → text_of (is_ended file) (unmended file) ≡ file

-- ---- Rows

-- a finding of this kind in a line, with a mend
abbrev pub found : (line : ℕ) (kind source : List ℕ) (fix : Option (List ℕ)) → Finding
found line kind source fix = record {
  path = codes "f";
  line = line;
  place = 0;
  fault = false;
  kind = kind;
  text = [];
  hint = [];
  source = source;
  fix = fix;
}

-- A finding is the same one after its line has changed, unless there was a mend for it. One of another line or another kind is new, and so is
-- one more of the same.
pub record WorseRows : Type 0 where
  pub same : worse (found 2 (codes "a") (codes "x") None ∷ []) (found 2 (codes "a") (codes "y") None ∷ []) ≡ []
  pub stays : worse (found 2 (codes "a") (codes "x") (Some (codes "y")) ∷ []) (found 2 (codes "a") (codes "x") (Some (codes "y")) ∷ []) ≡ []
  pub mended : map (λ f. f.line) (worse (found 2 (codes "a") (codes "x") (Some (codes "y")) ∷ []) (found 2 (codes "a") (codes "y") (Some (codes "z")) ∷ [])) ≡ 2 ∷ []
  pub unmended : map (λ f. f.line) (worse (found 2 (codes "a") (codes "x") (Some (codes "y")) ∷ []) (found 2 (codes "a") (codes "y") None ∷ [])) ≡ 2 ∷ []
  pub line : map (λ f. f.line) (worse (found 2 (codes "a") (codes "x") None ∷ []) (found 3 (codes "a") (codes "x") None ∷ [])) ≡ 3 ∷ []
  pub kind : map (λ f. f.kind) (worse (found 2 (codes "a") (codes "x") None ∷ []) (found 2 (codes "b") (codes "x") None ∷ [])) ≡ codes "b" ∷ []
  pub twice : map (λ f. f.line) (worse (found 2 (codes "a") (codes "x") None ∷ []) (found 2 (codes "a") (codes "x") None ∷ found 2 (codes "a") (codes "x") None ∷ [])) ≡ 2 ∷ []

-- What is told of some texts: the first line is mended in two steps. With the second line's mend something new would be told.
abbrev pub in_steps : (text : List ℕ) → List Finding
in_steps text =
    if bytes_eq text (codes "A\nB\nC\n") then found 1 (codes "k") (codes "A") (Some (codes "AA")) ∷ found 2 (codes "k") (codes "B") (Some (codes "BB")) ∷ []
    else (if bytes_eq text (codes "AA\nBB\nC\n") then found 1 (codes "j") (codes "AA") (Some (codes "AAA")) ∷ found 2 (codes "n") (codes "BB") None ∷ []
    else (if bytes_eq text (codes "AAA\nBB\nC\n") then found 2 (codes "n") (codes "BB") None ∷ []
    else (if bytes_eq text (codes "AAA\nB\nC\n") then found 2 (codes "k") (codes "B") (Some (codes "BB")) ∷ [] else [])))

-- the same, but that with the mend of the first line something new is told of the third one, as of an assignment that is replaced
abbrev pub elsewhere : (text : List ℕ) → List Finding
elsewhere text =
    if bytes_eq text (codes "A\nB\nC") then found 1 (codes "k") (codes "A") (Some (codes "AA")) ∷ [] else found 3 (codes "replaced") (codes "C") None ∷ []

-- The same, but of a file with another record. In that one a line is mended, and nothing new is told of it.
abbrev pub in_one_record : (text : List ℕ) → List Finding
in_one_record text =
    if bytes_eq text (codes "A\nB\n\nC\n") then found 1 (codes "k") (codes "A") (Some (codes "AA")) ∷ found 4 (codes "k") (codes "C") (Some (codes "CC")) ∷ []
    else (if bytes_eq text (codes "AA\nB\n\nCC\n") then found 2 (codes "repeated") (codes "B") None ∷ []
    else (if bytes_eq text (codes "A\nB\n\nCC\n") then found 1 (codes "k") (codes "A") (Some (codes "AA")) ∷ [] else []))

-- two lines, and no line, for a line: neither is one
abbrev pub no_lines : (text : List ℕ) → List Finding
no_lines text = found 1 (codes "k") (codes "A") (Some (codes "A\nA")) ∷ found 2 (codes "k") (codes "B") (Some []) ∷ found 3 (codes "k") (codes "C") (Some (codes "C")) ∷ []

-- which lines come in the place of others, and how many findings are left
pub record TriedRows : Type 0 where
  pub steps : map (λ e. e.new) (mended in_steps (codes "A\nB\nC\n")).edits ≡ Some (codes "AAA") ∷ None ∷ None ∷ []
  pub left : map (λ f. f.line) (mended in_steps (codes "A\nB\nC\n")).left ≡ 2 ∷ []
  pub record_left : map (λ e. e.new) (mended in_one_record (codes "A\nB\n\nC\n")).edits ≡ None ∷ None ∷ None ∷ Some (codes "CC") ∷ []
  pub none : map (λ e. e.new) (mended elsewhere (codes "A\nB\nC")).edits ≡ None ∷ None ∷ None ∷ []
  pub as_before : map (λ f. f.line) (mended elsewhere (codes "A\nB\nC")).left ≡ 1 ∷ []
  pub no_line : map (λ e. e.new) (mended no_lines (codes "A\nB\nC\n")).edits ≡ None ∷ None ∷ None ∷ []

-- lines from a number on, each with what comes in its place
abbrev pub edits_from : (number : ℕ) → List (List ℕ × Option (List ℕ)) → List Edit
edits_from number [] = []
edits_from number (line ∷ more) = record { number = number; old = line.0; new = line.1 } ∷ edits_from (number + 1) more

-- some lines that stay
abbrev pub stay : List (List ℕ) → List (List ℕ × Option (List ℕ))
stay lines = map (λ l. (l, None)) lines

-- a line that is changed
abbrev pub change : (old new : List ℕ) → List (List ℕ × Option (List ℕ))
change old new = (old, Some new) ∷ []

-- The expected texts are what diff(1) -u prints of two files with these lines: one change, two in a hunk, two next to each other, two hunks, and
-- a last line without a newline, changed and not. A carriage return is a byte as others. A tab ends a name with a blank.
pub record PatchRows : Type 0 where
  pub one :
      patch_of (codes "f") (codes "a\nb\nc\nd\ne\nf\ng\nh\ni\n")
      (edits_from 1 (stay (codes "a" ∷ codes "b" ∷ codes "c" ∷ codes "d" ∷ []) ++ (change (codes "e") (codes "E") ++ (stay (codes "f" ∷ codes "g" ∷ codes "h" ∷ codes "i" ∷ [])))))
      ≡ codes "--- f\n+++ f\n@@ -2,7 +2,7 @@\n b\n c\n d\n-e\n+E\n f\n g\n h\n"
  pub two :
      patch_of (codes "f") (codes "a\nb\nc\nd\ne\nf\ng\nh\ni\n")
      (edits_from 1 (stay (codes "a" ∷ []) ++ (change (codes "b") (codes "B") ++ (stay (codes "c" ∷ codes "d" ∷ codes "e" ∷ codes "f" ∷ codes "g" ∷ codes "h" ∷ []) ++ (change (codes "i") (codes "I"))))))
      ≡ codes "--- f\n+++ f\n@@ -1,9 +1,9 @@\n a\n-b\n+B\n c\n d\n e\n f\n g\n h\n-i\n+I\n"
  pub neighbours :
      patch_of (codes "f") (codes "a\nb\nc\nd\n")
      (edits_from 1 (stay (codes "a" ∷ []) ++ (change (codes "b") (codes "B") ++ (change (codes "c") (codes "C") ++ (stay (codes "d" ∷ []))))))
      ≡ codes "--- f\n+++ f\n@@ -1,4 +1,4 @@\n a\n-b\n-c\n+B\n+C\n d\n"
  pub hunks :
      patch_of (codes "f") (codes "a\nb\nc\nd\ne\nf\ng\nh\ni\nj\n")
      (edits_from 1 (change (codes "a") (codes "A") ++ (stay (codes "b" ∷ codes "c" ∷ codes "d" ∷ codes "e" ∷ codes "f" ∷ codes "g" ∷ codes "h" ∷ []) ++ (change (codes "i") (codes "I") ++ (stay (codes "j" ∷ []))))))
      ≡ codes "--- f\n+++ f\n@@ -1,4 +1,4 @@\n-a\n+A\n b\n c\n d\n@@ -6,5 +6,5 @@\n f\n g\n h\n-i\n+I\n j\n"
  pub lone :
      patch_of (codes "f") (codes "a\n")
      (edits_from 1 (change (codes "a") (codes "A")))
      ≡ codes "--- f\n+++ f\n@@ -1 +1 @@\n-a\n+A\n"
  pub bare :
      patch_of (codes "f") (codes "a\nb")
      (edits_from 1 (stay (codes "a" ∷ []) ++ (change (codes "b") (codes "B"))))
      ≡ codes "--- f\n+++ f\n@@ -1,2 +1,2 @@\n a\n-b\n\\ No newline at end of file\n+B\n\\ No newline at end of file\n"
  pub shown_bare :
      patch_of (codes "f") (codes "a\nb")
      (edits_from 1 (change (codes "a") (codes "A") ++ (stay (codes "b" ∷ []))))
      ≡ codes "--- f\n+++ f\n@@ -1,2 +1,2 @@\n-a\n+A\n b\n\\ No newline at end of file\n"
  pub hidden_bare :
      patch_of (codes "f") (codes "a\nb\nc\nd\ne")
      (edits_from 1 (change (codes "a") (codes "A") ++ (stay (codes "b" ∷ codes "c" ∷ codes "d" ∷ codes "e" ∷ []))))
      ≡ codes "--- f\n+++ f\n@@ -1,4 +1,4 @@\n-a\n+A\n b\n c\n d\n"
  pub carriage :
      patch_of (codes "a b") (codes "a\r\nb\r\n")
      (edits_from 1 (change (codes "a\r") (codes "A\r") ++ (stay (codes "b\r" ∷ []))))
      ≡ codes "--- a b\t\n+++ a b\t\n@@ -1,2 +1,2 @@\n-a\r\n+A\r\n b\r\n"
  pub none : patch_of (codes "f") (codes "a\n") (edits_from 1 (stay (codes "a" ∷ []))) ≡ []
  pub status : map patch_status ([] ∷ codes "--- f\n" ∷ []) ≡ 0 ∷ 1 ∷ []
  pub line : map mended_line (record { text = []; found = 3; left = 1 } ∷ record { text = []; found = 1; left = 0 } ∷ record { text = []; found = 0; left = 0 } ∷ [])
      ≡ codes "2 findings mended, 1 left\n" ∷ codes "1 finding mended, 0 left\n" ∷ codes "0 findings mended, 0 left\n" ∷ []

-- an empty file has no patch; `--diff` comes before `--json`
pub record SaidRows : Type 0 where
  pub out : said_out Patch [] [] (record { name = codes "f"; bytes = [] } ∷ []) ≡ []
  pub err : said_err Patch [] (record { name = codes "f"; bytes = [] } ∷ []) ≡ codes "0 findings mended, 0 left\n"
  pub status : said_status Patch true [] [] (record { name = codes "f"; bytes = [] } ∷ []) ≡ 0
  pub asked : map (λ diff. format_asked diff true None) (true ∷ false ∷ []) ≡ Patch ∷ JsonLines ∷ []
