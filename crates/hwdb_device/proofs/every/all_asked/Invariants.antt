use Rattle.std.proofs.Common.{◌≡◌, flat_map, length, map}
use Rattle.hwdb_spec.specs.Lines.{is, pieces}
use Rattle.hwdb_spec_commands.specs.AllStrings.{with_texts}
use Rattle.hwdb_spec_commands.specs.SysfsAnswers.{seen}
use Rattle.hwdb_spec_rules.specs.RuleAnswers.{all_asked, asked_at}
use Rattle.hwdb_device.specs.Views.{files_in}
use Rattle.hwdb_device.proofs.every.all_asked.Given as goal

abbrev pub invariant-links : goal.invariant-links
invariant-links g l = g.F.DeviceFiles.tells → with_texts (map (λ k. k.items) l.kept.items) (flat_map (asked_at (files_in l.asker.files) (seen (g.F.DeviceFiles.answers l.sysfs.files.now)) (pieces (is 10) l.sysfs.names.now) l.sysfs.folder.now l.asker.db.now) (map (λ p. p.items) l.left))
    ≡ all_asked (files_in l.asker.files) (seen (g.F.DeviceFiles.answers l.sysfs.files.now)) (pieces (is 10) l.sysfs.names.now) l.sysfs.folder.now l.asker.db.now

abbrev pub decreases-links : goal.decreases-links
decreases-links g l = length l.left
