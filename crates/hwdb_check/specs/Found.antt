-- What is found, as the definitions have it.
use Rattle.std.specs.Prelude.{Bool, true, false, List, map, not}
use Rattle.std.specs.Option.{option_map}
use Rattle.hwdb_spec_commands.specs.Findings as spec
use Rattle.hwdb_check.specs.declared.findings.Finding.{Finding}
use Rattle.hwdb_check.specs.declared.findings.Found.{Found}

-- what is found in a line
abbrev pub finding_of : Finding → spec.Finding
finding_of f = record {
  path = f.path.now;
  line = f.line;
  place = f.place;
  fault = f.fault;
  kind = f.kind.now;
  text = f.text.now;
  hint = f.hint.now;
  source = f.source.now;
  fix = option_map (λ t. t.items) f.fix.now;
}

-- the same, kept
abbrev pub kept_of : Found → spec.Finding
kept_of f = record {
  path = f.path.items;
  line = f.line;
  place = f.place;
  fault = f.fault;
  kind = f.kind.now;
  text = f.text.items;
  hint = f.hint.items;
  source = f.source.items;
  fix = option_map (λ t. t.items) f.fix;
}

-- some that are kept
abbrev pub finds : List Found → List spec.Finding
finds fs = map kept_of fs

-- whether a finding is a fault, or whether it is a warning
abbrev pub is_of : (fault : Bool) → spec.Finding → Bool
is_of true f = f.fault
is_of false f = not f.fault
