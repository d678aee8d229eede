use Rattle.std.proofs.Common.{◌∙◌, add-one, ap, false, map, string_bytes}
use Rattle.std.specs.Prelude.{filter_map}
use Rattle.std.proofs.lemmas.List.{take_all}
use Rattle.hwdb_system.specs.Internal.{names_after, step_name}
use Rattle.hwdb_spec_commands.specs.Told.{names_told}
use Rattle.hwdb_system.proofs.MemoryLemmas.{all_listed, good_more, names_more, step_stops, stops_listing}
use Rattle.hwdb_system.proofs.memory.names_after.Goals as goal

pub loop-step-preserved : goal.loop-step-preserved
loop-step-preserved c =
    let name = step_name false c.args.steps.now c.args.folder.now in
    let old = map string_bytes c.loop-step.names.items in
    let new = map string_bytes c.push_name.new.names.items in
    let pushed = c.in_ok-push_name.ensures.pushed in
    record {
      told = rw add-one (names_more name c.args.steps.now c.loop-step.step-index c.step-item.result old new c.loop-step-test.true c.step-item.is c.loop-step.invariant.told pushed);
      utf8 = good_more (name c.step-item.result) old new c.loop-step.invariant.utf8 c.in_ok-push_name.ensures.utf8 pushed;
    }

pub returns-in_err-push_name-clause-told : goal.returns-in_err-push_name-clause-told
returns-in_err-push_name-clause-told c =
    let steps = c.args.steps.now in
    let folder = c.args.folder.now in
    stops_listing _ (names_told (names_after false steps folder)) folder c.in_err-push_name.field-0.0 c.from_residual.result c.from_residual.ensures.1
    (step_stops (step_name false steps folder) folder steps c.loop-step.step-index c.step-item.result (map string_bytes c.loop-step.names.items) c.in_err-push_name.field-0.0 c.loop-step-test.true c.step-item.is
    c.loop-step.invariant.told c.loop-step.invariant.utf8 c.in_err-push_name.ensures.misnamed)

pub returns-clause-told : goal.returns-clause-told
returns-clause-told c =
    let steps = c.args.steps.now in
    let name = step_name false steps c.args.folder.now in
    all_listed (map string_bytes c.loop-step.names.items) (names_after false steps c.args.folder.now)
    (c.loop-step.invariant.told ∙ ap (filter_map name) (take_all c.loop-step.step-index steps c.loop-step-test.false)) c.loop-step.invariant.utf8
