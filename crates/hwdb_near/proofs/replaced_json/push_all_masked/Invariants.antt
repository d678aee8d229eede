use Rattle.std.proofs.Common.{◌≡◌, ◌++◌, take, map}
use Rattle.std.specs.Prelude.{flat_map}
use Rattle.hwdb_spec_commands.specs.Replacements.{masked_json}
use Rattle.hwdb_near.proofs.replaced_json.push_all_masked.Given as goal

abbrev pub invariant-loop-path : goal.invariant-loop-path
invariant-loop-path l = l.text.items ≡ l.fn.text.items ++ flat_map masked_json (map (λ p. p.items) (take l.path-index l.paths))
