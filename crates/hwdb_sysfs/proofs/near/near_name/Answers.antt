use Rattle.std.proofs.Common.{◌≡◌, ◌∷◌, Global, List, Vec, ap, flat_map, map, rules, sym, ℕ, ◌∙◌}
use Rattle.hwdb_spec_commands.specs.DeviceTree.{names_in, nearest_of}
use Rattle.hwdb_spec_commands.specs.SysfsAnswers.{seen}
use Rattle.hwdb_sysfs.proofs.NearLemmas.{nearest_after}
use Rattle.hwdb_sysfs.proofs.near.near_name.Goals as goal
use Rattle.hwdb_sysfs.specs.Lemmas.Names.{items}

pub folders-preserved : goal.folders-preserved
folders-preserved g c = λ tells.
    let sight = seen (g.F.DeviceFiles.answers c.args.files.now) in
    let wanted = c.args.wanted.now in
    let before = c.folders.nearest.items in
    let names = names_in sight c.in-Some.folder.now.items in
    let more = flat_map (names_in sight) (map items c.in-Some.rest.now) in
    let left : c.folders.left.now ≡ c.in-Some.folder.now ∷ c.in-Some.rest.now = search rules in
    let read : map items c.deref-in-Some.result.now ≡ names =
    ap (map items) c.deref-in-Some.ensures.value ∙ c.in_ok-names.ensures tells ∙ ap (names_in sight) c.deref.ensures.value in
    ap (λ (b : List ℕ). nearest_of wanted b more) (c.in_ok-nearest.ensures ∙ ap (nearest_of wanted before) read)
    ∙ sym (nearest_after wanted before names more)
    ∙ sym (ap (λ (l : List (Vec ℕ Global)). nearest_of wanted before (flat_map (names_in sight) (map items l))) left) ∙ c.folders.invariant tells
