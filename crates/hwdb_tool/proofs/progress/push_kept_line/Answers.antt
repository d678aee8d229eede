use Rattle.std.proofs.Common.{◌++◌, codes}
use Rattle.std.specs.Fmt.{decimal}
use Rattle.hwdb_spec_commands.specs.Checks.{count_text}
use Rattle.hwdb_tool.proofs.ProgressLemmas.{kept_pieces}
use Rattle.hwdb_tool.proofs.progress.push_kept_line.Goals as goal

pub returns : goal.returns
returns c =
    kept_pieces _ (count_text c.args.files (codes "file")) (codes ", ") (count_text c.args.given (codes "assignment")) (decimal c.args.kept ++ codes " kept\n") _ _ _
    c.in_ok-push_count_and.ensures c.in_ok-push_count_and-2.ensures c.in_ok-push_kept.ensures
