use Rattle.std.proofs.Common.{◌∙◌, add-one, ap, map, true}
use Rattle.std.specs.Prelude.{filter_map}
use Rattle.std.proofs.lemmas.List.{take_all}
use Rattle.hwdb_system.specs.Internal.{step_name}
use Rattle.hwdb_system.proofs.MemoryLemmas.{names_more}
use Rattle.hwdb_system.proofs.memory.ignored_after.Goals as goal

pub loop-step-preserved : goal.loop-step-preserved
loop-step-preserved c =
    let old = map (λ n. n.items) c.loop-step.names.items in
    let new = map (λ n. n.items) c.push_ignored.new.names.items in
    rw add-one
    (names_more (step_name true c.args.steps.now c.args.folder.now) c.args.steps.now c.loop-step.step-index c.step-item.result old new c.loop-step-test.true c.step-item.is c.loop-step.invariant c.in_ok-push_ignored.ensures)

pub returns : goal.returns
returns c =
    let steps = c.args.steps.now in
    c.loop-step.invariant ∙ ap (filter_map (step_name true steps c.args.folder.now)) (take_all c.loop-step.step-index steps c.loop-step-test.false)
