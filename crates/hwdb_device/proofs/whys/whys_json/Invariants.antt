use Rattle.std.proofs.Common.{◌≡◌, ◌++◌, drop, map}
use Rattle.std.specs.Prelude.{flat_map}
use Rattle.hwdb_spec_commands.specs.Json.{json_line}
use Rattle.hwdb_spec_rules.specs.RuleWhys
use Rattle.hwdb_ruleasks.specs.Views.{why_view}
use Rattle.hwdb_device.proofs.whys.whys_json.Given as goal

abbrev pub invariant-loop-why : goal.invariant-loop-why
invariant-loop-why l = l.text.items ++ flat_map (λ w. json_line (RuleWhys.why_json w)) (map why_view (drop l.why-index l.whys)) ≡ flat_map (λ w. json_line (RuleWhys.why_json w)) (map why_view l.whys)
