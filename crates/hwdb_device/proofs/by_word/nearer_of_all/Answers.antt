use Rattle.std.proofs.Common.{◌≡◌, ◌∷◌, Global, List, Vec, ap, flat_map, map, rules, sym, ℕ, ◌∙◌}
use Rattle.hwdb_spec.specs.Lines.{is, pieces}
use Rattle.hwdb_spec_commands.specs.DeviceFound.{parts_at}
use Rattle.hwdb_spec_commands.specs.DeviceTree.{nearest_of}
use Rattle.hwdb_spec_commands.specs.SysfsAnswers.{seen}
use Rattle.hwdb_device.proofs.WordLemmas.{nearest_more}
use Rattle.hwdb_device.proofs.by_word.nearer_of_all.Goals as goal
use Rattle.hwdb_sysfs.specs.Lemmas.Names.{items}

pub links-preserved : goal.links-preserved
links-preserved g c = λ tells.
    let find = parts_at (seen (g.F.DeviceFiles.answers c.args.sysfs.now.files.now)) (pieces (is 10) c.args.sysfs.now.names.now) c.args.sysfs.now.folder.now in
    let left : c.links.left.now ≡ c.in-Some.link.now ∷ c.in-Some.rest.now = search rules in
    nearest_more find c.args.given.now c.links.nearest.items c.in_ok-nearest.nearest.items _ c.links.left.now c.in-Some.rest.now c.in-Some.link.now left
    (c.in_ok-nearest.ensures tells ∙ ap (λ (l : List ℕ). nearest_of c.args.given.now c.links.nearest.items (find l)) c.deref.ensures.value) (c.links.invariant tells)
