-- Worked rows of colours: which bytes of each kind of text have which, as sequences of ECMA-48 (SGR: 36 is cyan, 1 bold, 33 yellow, 32 green,
-- and 0 takes them back).
use Rattle.std.specs.Prelude.{◌++◌, ◌∷◌, ◌≡◌, List, [], codes, false, map, ℕ}
use Rattle.hwdb_spec_commands.specs.Colours.{painted, plain, styled, without_sequences}
use Rattle.hwdb_spec_commands.specs.declared.colours.TextKind.{TextKind}
use Rattle.hwdb_spec_commands.specs.declared.colours.TextKind.TheVariants as text

-- a text after each sequence
abbrev pub plainly : (text : List ℕ) → List ℕ
plainly text = 27 ∷ codes "[0m" ++ text

abbrev pub cyan : (text : List ℕ) → List ℕ
cyan text = 27 ∷ codes "[0;36m" ++ text

abbrev pub bold : (text : List ℕ) → List ℕ
bold text = 27 ∷ codes "[0;1m" ++ text

abbrev pub yellow : (text : List ℕ) → List ℕ
yellow text = 27 ∷ codes "[0;33m" ++ text

abbrev pub green : (text : List ℕ) → List ℕ
green text = 27 ∷ codes "[0;32m" ++ text

-- Keys are cyan to the `=`. Of any other text nothing has a colour.
abbrev pub PropertyRows : Type 0
PropertyRows =
    painted text.Properties (codes "K=1\nL=\n") ∷ painted text.Plain (codes "K=1\n") ∷ painted text.Properties [] ∷ []
    ≡ (cyan (codes "K") ++ (plainly (codes "=1\n") ++ (cyan (codes "L") ++ plainly (codes "=\n")))) ∷ codes "K=1\n" ∷ [] ∷ []

-- what `explain` prints: a path is bold, and the word of what is overridden green
abbrev pub OriginRows : Type 0
OriginRows =
    painted text.Origins (codes "K=1\n    /f:2  a*\n  overrides K=0\n")
    ≡ cyan (codes "K") ++ (plainly (codes "=1\n    ") ++ (bold (codes "/f:2") ++ (plainly (codes "  a*\n  ") ++ (green (codes "overrides") ++ (cyan (codes " K") ++ plainly (codes "=0\n"))))))

-- what `list` prints: the position is bold
abbrev pub HitRows : Type 0
HitRows = painted text.Hits (codes "1:2:61:4b\ta\tK=1\n") ≡ bold (codes "1:2:61:4b") ++ (plainly (codes "\ta") ++ (cyan (codes "\tK") ++ plainly (codes "=1\n")))

-- what `check` prints: the place is bold, what is wrong yellow, and the mark green
abbrev pub ReportRows : Type 0
ReportRows =
    painted text.Reports (codes "f:3: bad\n     A\n     ^\n    hint: x\n2 files\n")
    ≡ bold (codes "f:3") ++ (yellow (codes ": bad") ++ (plainly (codes "\n     A\n     ") ++ (green (codes "^") ++ (plainly (codes "\n    hint: x\n") ++ (bold (codes "2 files") ++ plainly (codes "\n"))))))

-- what `diff` prints: of all that databases assign, and of devices
abbrev pub ChangeRows : Type 0
ChangeRows =
    painted text.Changes (codes "~\ta*\tK=1\tf:2\tK=2\tf:2\n")
    ≡ green (codes "~") ++ (plainly (codes "\ta*") ++ (cyan (codes "\tK") ++ (plainly (codes "=1") ++ (bold (codes "\tf:2") ++ (cyan (codes "\tK") ++ (plainly (codes "=2") ++ (bold (codes "\tf:2") ++ plainly (codes "\n"))))))))

abbrev pub DeviceRows : Type 0
DeviceRows =
    painted text.DeviceChanges (codes "dev\n-\tK=1\tf:2\n+\tL=1\tf:3\n~\tM=1\tf:4\tM=2\tf:4\n")
    ≡ (codes "dev\n" ++ (green (codes "-") ++ (cyan (codes "\tK") ++ (plainly (codes "=1") ++ (bold (codes "\tf:2") ++ plainly (codes "\n"))))))
    ++ ((green (codes "+") ++ (cyan (codes "\tL") ++ (plainly (codes "=1") ++ (bold (codes "\tf:3") ++ plainly (codes "\n")))))
    ++ (green (codes "~") ++ (cyan (codes "\tM") ++ (plainly (codes "=1") ++ (bold (codes "\tf:4") ++ (cyan (codes "\tM") ++ (plainly (codes "=2") ++ (bold (codes "\tf:4") ++ plainly (codes "\n")))))))))

-- what `dump` prints, and counts
abbrev pub RecordRows : Type 0
RecordRows =
    painted text.Records (codes "# f:2\na*\n K=1\n\n") ∷ painted text.Counts (codes "files: 2\n") ∷ []
    ≡ (bold (codes "# f:2") ++ (plainly (codes "\na*\n") ++ (cyan (codes " K") ++ plainly (codes "=1\n\n")))) ∷ (cyan (codes "files") ++ plainly (codes ": 2\n")) ∷ []

-- each kind
abbrev pub each_kind : List TextKind
each_kind = text.Plain ∷ text.Properties ∷ text.Origins ∷ text.Hits ∷ text.Reports ∷ text.Changes ∷ text.Records ∷ text.Counts ∷ text.DeviceChanges ∷ []

-- a text with all that kinds tell apart
abbrev pub some_text : List ℕ
some_text = codes "# K=1\n  ^ /f:2 a\n+\ta\tK=1\tf\n"

-- Without the sequences the text is what it is without colours, and so are its bytes without their styles.
abbrev pub WithoutRows : Type 0
WithoutRows =
    (map (λ kind. without_sequences false (painted kind some_text)) each_kind ≡ map (λ kind. some_text) each_kind)
    × (map (λ kind. plain (styled kind some_text)) each_kind ≡ map (λ kind. some_text) each_kind)
