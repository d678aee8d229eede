use Rattle.std.proofs.Common.{◌≡◌, ◌++◌, take, map}
use Rattle.std.specs.Prelude.{codes, flat_map}
use Rattle.hwdb_spec_commands.specs.Status.{said_line}
use Rattle.hwdb_near.proofs.replaced_texts.push_all_masked.Given as goal

abbrev pub invariant-loop-path : goal.invariant-loop-path
invariant-loop-path l = l.text.items ≡ l.fn.text.items ++ flat_map (said_line (codes "masked")) (map (λ p. p.items) (take l.path-index l.paths))
