use Rattle.std.proofs.Common.{◌≡◌, ◌++◌, map, take}
use Rattle.hwdb_tool.specs.Statuses.{ignored_path}
use Rattle.hwdb_tool.proofs.status_command.push_ignored.Given as goal

abbrev pub invariant-loop-name : goal.invariant-loop-name
invariant-loop-name l = map (λ p. p.items) l.paths.items ≡ map (λ p. p.items) l.fn.paths.items ++ map (ignored_path l.usr) (map (λ t. t.now) (take l.name-index l.name-items))
