use Rattle.std.proofs.Common.{◌≡◌, map, length, take, string_bytes}
use Rattle.hwdb_tool.proofs.check_command.with_paths.Given as goal

abbrev pub invariant-loop-path : goal.invariant-loop-path
invariant-loop-path l = record {
  count : length l.files.items ≡ l.path-index;
  named : map (λ f. f.path.now) l.files.items ≡ map string_bytes (take l.path-index l.paths);
  held : map (λ f. f.bytes.now) l.files.items ≡ map (λ t. t.items) (take l.path-index l.texts);
}
