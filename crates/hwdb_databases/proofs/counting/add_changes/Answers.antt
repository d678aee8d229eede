use Rattle.std.proofs.Common.{◌∙◌, ap}
use Rattle.hwdb_spec_commands.specs.ChangeCounts.{with_change}
use Rattle.hwdb_databases.specs.Internal.Counts.{stat_shown}
use Rattle.hwdb_databases.specs.Views.{change_shown}
use Rattle.hwdb_databases.proofs.NamedCountLemmas.{change_step, no_changes}
use Rattle.hwdb_databases.proofs.counting.add_changes.Goals as goal

pub loop-change-init : goal.loop-change-init
loop-change-init c = no_changes (stat_shown c.args.stat.now)

pub loop-change-preserved : goal.loop-change-preserved
loop-change-preserved c =
    change_step c.args.changes.now c.loop-change.change-index c.change-item.result (stat_shown c.args.stat.now) (stat_shown c.loop-change.stat) (stat_shown c.add_change.new.stat)
    c.loop-change-test.true (c.in_ok-add_change.ensures ∙ ap (λ p. with_change (stat_shown c.loop-change.stat) (change_shown p)) c.change-item.is) c.loop-change.invariant
