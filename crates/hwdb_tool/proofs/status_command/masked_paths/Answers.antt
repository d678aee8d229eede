use Rattle.std.proofs.Common.{map, string_bytes, add-one}
use Rattle.hwdb_spec_commands.specs.Status.{masked_of}
use Rattle.hwdb_tool.proofs.ProgressLemmas.{lines_more}
use Rattle.hwdb_tool.proofs.status_command.masked_paths.Goals as goal

pub loop-file-preserved : goal.loop-file-preserved
loop-file-preserved c = rw add-one (
    lines_more (masked_of (map string_bytes c.args.listed.now)) c.args.files.now c.loop-file.file-index c.file-item.result _ _ c.loop-file-test.true c.file-item.is
    c.loop-file.invariant (c.in_ok-push_masked.ensures (map string_bytes c.args.listed.now) c.in_ok-set.ensures))
