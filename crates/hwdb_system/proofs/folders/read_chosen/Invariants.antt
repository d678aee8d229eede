use Rattle.std.proofs.Common.{◌≡◌, ◌++◌, ◌≤◌, All, map, length, take}
use Rattle.hwdb_spec.specs.Folders.{path_of}
use Rattle.hwdb_spec.specs.Texts.{max_file}
use Rattle.hwdb_text.specs.declared.choice.Chosen.{Chosen}
use Rattle.hwdb_text.specs.Views.{choice_of}
use Rattle.hwdb_spec.specs.Selected.{AreTexts}
use Rattle.hwdb_spec_commands.specs.Reading.{IsText}
use Rattle.hwdb_system.proofs.SelectionPlanLemmas.{AreReached}
use Rattle.hwdb_system.proofs.folders.read_chosen.Given as goal

abbrev pub invariant-loop-file : goal.invariant-loop-file
invariant-loop-file g l = record {
  count : length l.texts.items ≡ l.file-index;
  read : g.D.Store.tells → AreTexts l.root (g.D.Store.seen l.system) (map choice_of (take l.file-index l.chosen)) (map (λ t. t.items) l.texts.items);
  texts : g.D.Store.tells → All (λ (c : Chosen). IsText (g.D.Store.seen l.system) (l.root ++ path_of (choice_of c))) (take l.file-index l.chosen);
  reached : g.D.Store.tells → AreReached (g.D.System.reads l.system) l.root l.chosen l.file-index (map (λ t. t.items) l.texts.items);
  within : All (λ t. length t.items ≤ max_file) l.texts.items;
}
