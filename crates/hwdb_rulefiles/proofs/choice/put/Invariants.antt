use Rattle.std.proofs.Common.{◌≡◌, map, drop}
use Rattle.std.specs.String.{string_bytes}
use Rattle.hwdb_rulefiles.specs.RuleFolders.{put_all}
use Rattle.hwdb_rulefiles.specs.FolderNames.{entry_of}
use Rattle.hwdb_rulefiles.proofs.choice.put.Given as goal

abbrev pub invariant-loop-name : goal.invariant-loop-name
invariant-loop-name l =
    put_all l.folder (map string_bytes (drop l.name-index l.list)) (map entry_of l.names.entries)
    ≡ put_all l.folder (map string_bytes l.list) (map entry_of l.initial.names.entries)
