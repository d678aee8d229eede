use Rattle.std.proofs.Common.{◌≡◌, take}
use Rattle.hwdb_spec_commands.specs.Lookups.{all_asked}
use Rattle.hwdb_rules.specs.Views.{plans_of}
use Rattle.hwdb_device.specs.Views.{all_found}
use Rattle.hwdb_ruleasks.specs.Views.{tells_of}
use Rattle.hwdb_device.proofs.asking.ask_all.Given as goal

abbrev pub invariant-loop-plan : goal.invariant-loop-plan
invariant-loop-plan l = all_found l.found.items ≡ all_asked (tells_of l.db) (plans_of (take l.plan-index l.plans))
