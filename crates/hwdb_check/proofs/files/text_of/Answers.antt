use Rattle.hwdb_spec_commands.specs.Findings.{told}
use Rattle.hwdb_check.proofs.BaselineLemmas.{printed_step}
use Rattle.hwdb_check.proofs.files.text_of.Goals as goal

pub loop-one-preserved : goal.loop-one-preserved
loop-one-preserved c =
    printed_step (told c.args.format) c.args.found.now c.loop-one.one-index c.one-item.result _ _ c.loop-one-test.true c.one-item.is c.in_ok-push_found.ensures c.loop-one.invariant
