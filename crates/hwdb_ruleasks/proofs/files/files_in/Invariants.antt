use Rattle.std.proofs.Common.{◌≡◌, ◌++◌, map, drop}
use Rattle.hwdb_ruleasks.specs.FileViews.{parsed_of}
use Rattle.hwdb_ruleasks.specs.Views.{file_of}
use Rattle.hwdb_ruleasks.proofs.files.files_in.Given as goal

abbrev pub invariant-loop-one : goal.invariant-loop-one
invariant-loop-one l =
    map file_of l.files.items ++ map parsed_of (drop l.one-index l.parsed) ≡ map parsed_of l.parsed
