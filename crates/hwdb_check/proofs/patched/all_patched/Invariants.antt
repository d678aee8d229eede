use Rattle.std.proofs.Common.{◌≡◌, drop, map}
use Rattle.std.specs.Prelude.{string_bytes}
use Rattle.hwdb_spec_commands.specs.Patches as spec
use Rattle.hwdb_check.specs.Checks.{source_of}
use Rattle.hwdb_check.specs.Summed.{patched_of}
use Rattle.hwdb_check.proofs.patched.all_patched.Given as goal

abbrev pub invariant-loop-file : goal.invariant-loop-file
invariant-loop-file l =
    let allowed = map string_bytes l.telling.allowed.now in
    spec.patched_from (patched_of l.all) allowed (map source_of (drop l.file-index l.files)) ≡ spec.patched allowed (map source_of l.files)
