use Rattle.std.proofs.Common.{◌≡◌, drop, false, map, string_bytes}
use Rattle.hwdb_spec_commands.specs.Given.{any_dash}
use Rattle.hwdb_plan.specs.Lemmas.GivenFolders.{FilesAreNamed}
use Rattle.hwdb_tool.proofs.given_folders.named_files.Given as goal

abbrev pub invariant-loop-path : goal.invariant-loop-path
invariant-loop-path g l = record {
  told : g.D.Store.tells → FilesAreNamed (g.D.System.reads l.system) (map string_bytes l.given) (map string_bytes (drop l.path-index l.given)) (map string_bytes l.paths.items);
  plain : any_dash (map string_bytes l.given) ≡ false → any_dash (map string_bytes l.paths.items) ≡ false;
}
