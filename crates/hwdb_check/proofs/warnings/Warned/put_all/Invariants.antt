use Rattle.std.proofs.Common.{◌≡◌, ◌++◌, take}
use Rattle.std.specs.Prelude.{filter, flat_map}
use Rattle.hwdb_spec_commands.specs.Findings.{one_warning}
use Rattle.hwdb_spec_commands.specs.Warnings.{gets}
use Rattle.hwdb_check.specs.Found.{finds}
use Rattle.hwdb_check.specs.Internal.{clean_of, read_line}
use Rattle.hwdb_check.specs.Leaving.{names_of}
use Rattle.hwdb_check.proofs.warnings.Warned.put_all.Given as goal

abbrev pub invariant-loop-kind : goal.invariant-loop-kind
invariant-loop-kind l =
    let gets = gets (names_of l.telling) l.line.bytes.now (read_line l.line) (clean_of l.line) in
    finds l.self.found.items ≡ finds l.fn.self.found.items ++ flat_map (one_warning l.telling.format l.line.path.now (read_line l.line)) (filter gets (take l.kind-index l.kind-items))
