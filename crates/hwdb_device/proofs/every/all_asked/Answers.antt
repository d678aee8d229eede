use Rattle.std.proofs.Common.{◌≡◌, ◌∷◌, Global, List, Vec, ap, flat_map, map, rules, sym, ℕ, ◌∙◌}
use Rattle.hwdb_spec.specs.Lines.{is, pieces}
use Rattle.hwdb_spec_commands.specs.AllStrings.{with_texts}
use Rattle.hwdb_spec_commands.specs.SysfsAnswers.{seen}
use Rattle.hwdb_spec_rules.specs.RuleAnswers.{asked_at}
use Rattle.hwdb_device.specs.Views.{files_in}
use Rattle.hwdb_device.proofs.EveryLemmas.{kept_more}
use Rattle.hwdb_device.proofs.every.all_asked.Goals as goal
use Rattle.hwdb_sysfs.specs.Lemmas.Names.{items}

pub links-preserved : goal.links-preserved
links-preserved g c = λ tells.
    let find = asked_at (files_in c.args.asker.files) (seen (g.F.DeviceFiles.answers c.args.sysfs.now.files.now)) (pieces (is 10) c.args.sysfs.now.names.now) c.args.sysfs.now.folder.now c.args.asker.db.now in
    let left : c.links.left.now ≡ c.in-Some.link.now ∷ c.in-Some.rest.now = search rules in
    kept_more find (map items c.links.kept.items) (map items c.keep_at.new.kept.items) _ c.links.left.now c.in-Some.rest.now c.in-Some.link.now left
    (c.in_ok-keep_at.ensures tells ∙ ap (λ (l : List ℕ). with_texts (map items c.links.kept.items) (find l)) c.deref.ensures.value) (c.links.invariant tells)
