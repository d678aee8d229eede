use Rattle.std.proofs.Common.{ap, append-nil, codes, map, sym, List, ◌++◌, ℕ, ◌∙◌, Vec, Global}
use Rattle.hwdb_spec_commands.specs.DeviceTree.{links_in, other_links}
use Rattle.hwdb_spec_commands.specs.SysfsAnswers.{seen}
use Rattle.hwdb_sysfs.proofs.LinkLemmas.{others_more}
use Rattle.hwdb_sysfs.proofs.listing.list_links.Goals as goal
use Rattle.hwdb_sysfs.specs.Lemmas.Names.{items}

pub loop-folder-init : goal.loop-folder-init
loop-folder-init g c = λ tells.
    let sight = seen (g.F.DeviceFiles.answers c.args.files.now) in
    c.in_ok-push_links.ensures tells
    ∙ ap (λ (l : List (Vec ℕ Global)). map items l ++ links_in sight c.deref.result.now) c.new-links.ensures.items
    ∙ ap (links_in sight) (c.deref.ensures.value ∙ c.in_ok-input.ensures) ∙ sym (append-nil _)

pub loop-folder-preserved : goal.loop-folder-preserved
loop-folder-preserved g c = λ tells.
    let sight = seen (g.F.DeviceFiles.answers c.args.files.now) in
    others_more (other_links sight (c.args.sys.now ++ codes "/class/input")) c.deref-folder-items.result.now c.loop-folder.folder-index _ c.folder-item.result
    _ (map items c.loop-folder.links.items) _ c.loop-folder-test.true c.folder-item.is (c.loop-folder.invariant tells)
    (c.in_ok-push_others.ensures tells
    ∙ ap (λ (p : List ℕ). map items c.loop-folder.links.items ++ other_links sight p c.deref-in-loop-folder-2.result.now) (c.deref-in-loop-folder.ensures.value ∙ c.in_ok-input.ensures)
    ∙ ap (λ (f : List ℕ). map items c.loop-folder.links.items ++ other_links sight (c.args.sys.now ++ codes "/class/input") f) c.deref-in-loop-folder-2.ensures.value)
