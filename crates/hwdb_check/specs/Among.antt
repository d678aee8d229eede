-- What is compared of the findings of two texts of a file.
use Rattle.std.specs.Prelude.{◌≡◌, ◌++◌, List, [], ℕ, if◌then◌else◌, is_some, map}
use Rattle.hwdb_spec_commands.specs.Baselines.{mark_of, new_findings}
use Rattle.hwdb_spec_commands.specs.Findings.{Finding}
use Rattle.hwdb_spec_commands.specs.Patches.{at_number}
use Rattle.hwdb_check.specs.Found.{finds}
use Rattle.hwdb_check.specs.declared.findings.Found.{Found}

-- the line of a finding, if there is a mend for it
abbrev pub own_source : Finding → List ℕ
own_source f = if is_some f.fix then f.source else []

-- what is compared of a finding
abbrev pub number_mark : Finding → List ℕ
number_mark f = mark_of (at_number f)

-- some findings, each with its line's number in place of the line
abbrev pub now_at : List Found → List Finding
now_at fs = map at_number (finds fs)

-- Findings were gone through, some of which had these marks. The rest are still to come, and so are the marks that are left. What is new among
-- the rest is what is new among all, if others may be left too.
pub record AreSoFar (marks : List (List ℕ)) (all rest : List Finding) (left : List (List ℕ)) : Type 0 where
  pub front : List (List ℕ)
  pub same : new_findings (front ++ left) rest ≡ new_findings marks all
