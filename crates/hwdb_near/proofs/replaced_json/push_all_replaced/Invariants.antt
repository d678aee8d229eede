use Rattle.std.proofs.Common.{◌≡◌, ◌++◌, take, map}
use Rattle.std.specs.Prelude.{flat_map}
use Rattle.hwdb_spec_commands.specs.Replacements.{replacement_json}
use Rattle.hwdb_near.specs.Views.{replacement_of}
use Rattle.hwdb_near.proofs.replaced_json.push_all_replaced.Given as goal

abbrev pub invariant-loop-pair : goal.invariant-loop-pair
invariant-loop-pair l = l.text.items ≡ l.fn.text.items ++ flat_map (replacement_json l.device) (map replacement_of (take l.pair-index l.pairs))
