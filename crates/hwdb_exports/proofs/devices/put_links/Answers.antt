use Rattle.std.proofs.Common.{List, [], ◌∷◌, ap, subst, ◌∙◌, ℕ}
use Rattle.std.specs.Prelude.{codes, OnOk}
use Rattle.hwdb_spec.specs.Store.{path_in}
use Rattle.hwdb_spec_commands.specs.Exports as spec
use Rattle.hwdb_exports.specs.Views.{AreSet}
use Rattle.hwdb_exports.proofs.SetLemmas.{ok_both, set_both}
use Rattle.hwdb_exports.proofs.devices.put_links.Goals as goal

pub returns : goal.returns
returns c =
    let folder = c.args.folder.now in
    let class = c.args.class.now in
    let name = c.args.name.now in
    let own = spec.link_to (path_in folder (codes "subsystem")) class in
    let link = spec.link_to (path_in class name) folder in
    let below = path_in (path_in class name) (codes "modalias") in
    let attribute = path_in folder (codes "modalias") in
    ok_both (own ∷ link ∷ []) (spec.link_to below attribute ∷ []) c.args.spots.now c.put_link-2.new.spots c.put_link-3.new.spots c.put_link-3.result
    (set_both (own ∷ []) (link ∷ []) c.args.spots.now c.put_link.new.spots c.put_link-2.new.spots
    (subst (λ (p : List ℕ). AreSet (spec.link_to p class ∷ []) c.args.spots.now c.put_link.new.spots) (c.deref.ensures.value ∙ c.in_ok-own.ensures) c.in_ok-put_link.ensures)
    (subst (λ (p : List ℕ). AreSet (spec.link_to p folder ∷ []) c.put_link.new.spots c.put_link-2.new.spots) (c.deref-2.ensures.value ∙ c.in_ok-link.ensures) c.in_ok-put_link-2.ensures))
    (subst (λ (p : List ℕ). OnOk c.put_link-3.result (AreSet (spec.link_to p attribute ∷ []) c.put_link-2.new.spots c.put_link-3.new.spots))
    (c.deref-4.ensures.value ∙ c.in_ok-below.ensures ∙ ap (λ (f : List ℕ). path_in f (codes "modalias")) (c.deref-3.ensures.value ∙ c.in_ok-link.ensures))
    (subst (λ (p : List ℕ). OnOk c.put_link-3.result (AreSet (spec.link_to c.deref-4.result.now p ∷ []) c.put_link-2.new.spots c.put_link-3.new.spots)) (c.deref-5.ensures.value ∙ c.in_ok-attribute.ensures) c.put_link-3.ensures))
