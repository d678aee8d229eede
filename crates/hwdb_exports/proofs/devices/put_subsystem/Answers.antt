use Rattle.std.proofs.Common.{List, [], ◌∷◌, subst, ◌∙◌, ℕ}
use Rattle.std.specs.Prelude.{codes, OnOk}
use Rattle.hwdb_spec_commands.specs.DeviceTree.{last_name}
use Rattle.hwdb_spec_commands.specs.Exports as spec
use Rattle.hwdb_exports.specs.Internal.{links}
use Rattle.hwdb_exports.specs.Views.{AreSet}
use Rattle.hwdb_exports.proofs.SetLemmas.{ok_both, set_both}
use Rattle.hwdb_exports.proofs.devices.put_subsystem.Goals as goal

pub returns : goal.returns
returns c =
    let folder = spec.exported_folder c.args.path.now in
    let class = spec.subsystem_folder c.args.subsystem.now in
    let name = last_name c.args.path.now in
    let all = spec.folder_at (codes "/sys/class") in
    ok_both (all ∷ spec.folder_at class ∷ []) (links folder class name) c.args.spots.now c.put_link-2.new.spots c.put_links.new.spots c.put_links.result
    (set_both (all ∷ []) (spec.folder_at class ∷ []) c.args.spots.now c.put_link.new.spots c.put_link-2.new.spots c.in_ok-put_link.ensures
    (subst (λ (p : List ℕ). AreSet (spec.link_to p class ∷ []) c.put_link.new.spots c.put_link-2.new.spots) (c.deref.ensures.value ∙ c.in_ok-class.ensures)
    (subst (λ (p : List ℕ). AreSet (spec.link_to c.deref.result.now p ∷ []) c.put_link.new.spots c.put_link-2.new.spots) (c.deref-2.ensures.value ∙ c.in_ok-class.ensures) c.in_ok-put_link-2.ensures)))
    (subst (λ (p : List ℕ). OnOk c.put_links.result (AreSet (links p class name) c.put_link-2.new.spots c.put_links.new.spots)) (c.deref-3.ensures.value ∙ c.in_ok-folder.ensures)
    (subst (λ (p : List ℕ). OnOk c.put_links.result (AreSet (links c.deref-3.result.now p name) c.put_link-2.new.spots c.put_links.new.spots)) (c.deref-4.ensures.value ∙ c.in_ok-class.ensures)
    (subst (λ (p : List ℕ). OnOk c.put_links.result (AreSet (links c.deref-3.result.now c.deref-4.result.now p) c.put_link-2.new.spots c.put_links.new.spots)) c.last_name.ensures c.put_links.ensures)))
