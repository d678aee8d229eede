use Rattle.std.proofs.Common.{◌∙◌, ap, map, sym}
use Rattle.std.proofs.lemmas.Result.{IfOk-weaker}
use Rattle.hwdb_sysfs.specs.Views.{ancestor_of}
use Rattle.hwdb_device.specs.Views.{all_found}
use Rattle.hwdb_ruleasks.specs.Views.{tells_of}
use Rattle.hwdb_device.proofs.AskingLemmas.{same_scene, scene_is}
use Rattle.hwdb_device.proofs.asking.lookups.Goals as goal

pub returns : goal.returns
returns c =
    let own = ancestor_of c.in-Some.own.now in
    let chain = map ancestor_of c.args.device.now.chain.items in
    let machine = c.args.device.now.machine.items in
    let alike = scene_is chain (map ancestor_of c.deref-2.result.now) own c.deref-3.result.now machine
    (ap (map ancestor_of) c.deref-2.ensures.value) (c.deref-3.ensures.value ∙ c.in_ok-machine.ensures) in
    IfOk-weaker c.found_in.result _ _
    (λ found is. same_scene (tells_of c.args.db) (all_found found.items) own (map ancestor_of c.in-Some._parents.now) machine _ chain is alike
    (ap (map ancestor_of) (sym c.deref.ensures.value ∙ c.in-Some.ensures.cases.0)))
    c.found_in.ensures
