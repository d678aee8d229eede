use Rattle.std.proofs.Common.{◌≡◌, ◌∷◌, [], List, ap, map, rules, ℕ, ◌∙◌, ◌++◌}
use Rattle.std.specs.List.{cons_option}
use Rattle.hwdb_spec.specs.Lines.{is, pieces}
use Rattle.hwdb_spec_commands.specs.DeviceFound.{fitting_at}
use Rattle.hwdb_spec_commands.specs.SysfsAnswers.{seen}
use Rattle.hwdb_device.proofs.WordLemmas.{place_more}
use Rattle.hwdb_device.proofs.by_word.fitting.Goals as goal
use Rattle.hwdb_sysfs.specs.Lemmas.Names.{items}

pub links-preserved : goal.links-preserved
links-preserved g c = λ tells.
    let find = fitting_at (seen (g.F.DeviceFiles.answers c.args.sysfs.now.files.now)) (pieces (is 10) c.args.sysfs.now.names.now) c.args.sysfs.now.folder.now c.args.given.now in
    let left : c.links.left.now ≡ c.in-Some.link.now ∷ c.in-Some.rest.now = search rules in
    place_more find c.links.left.now c.in-Some.rest.now c.in-Some.link.now (map items c.links.places.items) (map items c.push_fitting.new.places.items) _ left
    (c.in_ok-push_fitting.ensures tells ∙ ap (λ (l : List ℕ). map items c.links.places.items ++ cons_option (find l) []) c.deref.ensures.value) (c.links.invariant tells)
