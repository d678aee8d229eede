use Rattle.std.proofs.Common.{◌≡◌, ◌≤◌, All, map, length}
use Rattle.hwdb_spec.specs.Texts.{max_file}
use Rattle.hwdb_system.proofs.OwnRulesLemmas.{AreRead}
use Rattle.hwdb_system.proofs.rule_folders.read_all_below.Given as goal

abbrev pub invariant-loop-path : goal.invariant-loop-path
invariant-loop-path g l = record {
  count : length l.texts.items ≡ l.path-index;
  reached : g.D.Store.tells → AreRead (g.D.System.reads l.system) l.root l.paths l.path-index (map (λ t. t.items) l.texts.items);
  within : All (λ t. length t.items ≤ max_file) l.texts.items;
}
