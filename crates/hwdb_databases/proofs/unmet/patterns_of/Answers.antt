use Rattle.std.proofs.Common.{◌∙◌, ap}
use Rattle.hwdb_spec_commands.specs.Renamed.{changed_pattern}
use Rattle.hwdb_databases.specs.Views.{change_shown}
use Rattle.hwdb_databases.proofs.UnmetLemmas.{names_step, no_names}
use Rattle.hwdb_databases.proofs.unmet.patterns_of.Goals as goal

pub loop-change-init : goal.loop-change-init
loop-change-init c = no_names c.new-still.result c.new-still.ensures.empty

pub loop-change-preserved : goal.loop-change-preserved
loop-change-preserved c =
    names_step c.args.changes.now c.loop-change.change-index c.change-item.result c.pattern_of.result c.loop-change.still _ c.loop-change-test.true
    (c.pattern_of.ensures ∙ ap (λ p. changed_pattern (change_shown p)) c.change-item.is) c.in_ok-insert.ensures.updates.0 c.loop-change.invariant
