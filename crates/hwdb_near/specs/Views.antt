-- What the types of this crate mean.
use Rattle.hwdb_spec.specs.Assignment.{Assignment}
use Rattle.hwdb_spec.specs.Folders.{Source, path_of}
use Rattle.hwdb_spec.specs.Fronts.{Front}
use Rattle.hwdb_spec_commands.specs.Near.{PatternAt}
use Rattle.hwdb_spec.specs.Records.{Origin}
use Rattle.hwdb_spec_commands.specs.Replacements.{Replacement}
use Rattle.hwdb_text.specs.Views.{choice_of, given_in}
use Rattle.hwdb_text.specs.declared.choice.Chosen.{Chosen}
use Rattle.hwdb_near.specs.declared.fronts.Stop.{Stop}
use Rattle.hwdb_near.specs.declared.found.PatternAt.{PatternAt as Found}
use Rattle.hwdb_near.specs.declared.patterns.PatternFile.{PatternFile}
use Rattle.hwdb_near.specs.declared.replacements.Replaced.{Replaced}
use Rattle.hwdb_near.specs.declared.wanted.FileAssignment.{FileAssignment}

-- a stop, in tokens of the pattern and bytes of the device
abbrev pub front_at : Stop → Front
front_at s = record { tokens = s.tokens; bytes = s.device }

-- a pattern and its place
abbrev pub pattern_at : Found → PatternAt
pattern_at p = record { path = p.path.now; file = p.file; line = p.line; pattern = p.pattern.now }

-- a text file
abbrev pub source_of : PatternFile → Source
source_of f = record { name = f.path.now; bytes = f.bytes.now }

-- the path and the priority of a chosen file
abbrev pub origin_of : Chosen → Origin
origin_of c = record { path = path_of (choice_of c); priority = c.priority }

-- an assignment of a file
abbrev pub assignment_of : FileAssignment → Assignment
assignment_of w = given_in (origin_of w.file.now) w.given

-- what was replaced, and what replaced it
abbrev pub replacement_of : Replaced → Replacement
replacement_of r = record { old = assignment_of r.old; new = assignment_of r.new }
