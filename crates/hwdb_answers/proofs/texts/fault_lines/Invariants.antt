use Rattle.std.proofs.Common.{◌≡◌, take, map}
use Rattle.hwdb_compile.specs.Views.{fault_of}
use Rattle.hwdb_spec.specs.Texts.{faults_text}
use Rattle.hwdb_answers.proofs.texts.fault_lines.Given as goal

abbrev pub invariant-loop-found : goal.invariant-loop-found
invariant-loop-found l = l.text.items ≡ faults_text (map fault_of (take l.found-index l.faults))
