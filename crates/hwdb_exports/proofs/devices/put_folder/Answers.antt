use Rattle.std.proofs.Common.{List, [], ◌∷◌, ap, subst, ◌∙◌, ℕ}
use Rattle.std.specs.Prelude.{codes, OnOk}
use Rattle.hwdb_spec.specs.Store.{path_in}
use Rattle.hwdb_spec_commands.specs.Exports as spec
use Rattle.hwdb_exports.specs.Views.{AreSet, exported}
use Rattle.hwdb_exports.proofs.SetLemmas.{ok_both}
use Rattle.hwdb_exports.proofs.devices.put_folder.Goals as goal

pub returns : goal.returns
returns c =
    let folder = spec.exported_folder (exported c.args.device.now).path in
    let at = path_in folder (codes "uevent") in
    let text = spec.exported_uevent (exported c.args.device.now).lines in
    let put = λ (p : List ℕ). OnOk c.put_file.result (AreSet (spec.file_with p c.in_ok-text.text.items ∷ []) c.put_link.new.spots c.put_file.new.spots) in
    ok_both (spec.folder_at folder ∷ []) (spec.file_with at text ∷ []) c.args.spots.now c.put_link.new.spots c.put_file.new.spots c.put_file.result
    (subst (λ (p : List ℕ). AreSet (spec.link_to p folder ∷ []) c.args.spots.now c.put_link.new.spots) (c.deref.ensures.value ∙ c.in_ok-folder.ensures)
    (subst (λ (p : List ℕ). AreSet (spec.link_to c.deref.result.now p ∷ []) c.args.spots.now c.put_link.new.spots) (c.deref-2.ensures.value ∙ c.in_ok-folder.ensures) c.in_ok-put_link.ensures))
    (subst (λ (t : List ℕ). OnOk c.put_file.result (AreSet (spec.file_with at t ∷ []) c.put_link.new.spots c.put_file.new.spots)) c.in_ok-text.ensures
    (subst put (c.deref-4.ensures.value ∙ c.in_ok-path.ensures ∙ ap (λ (f : List ℕ). path_in f (codes "uevent")) (c.deref-3.ensures.value ∙ c.in_ok-folder.ensures)) c.put_file.ensures))
