use Rattle.hwdb_rulefiles.specs.LineViews.{outcome_of}
use Rattle.hwdb_rulefiles.proofs.JumpLemmas.{learned}
use Rattle.hwdb_rulefiles.proofs.jumps.learn.Goals as goal

pub returns-in_ok-insert-in-Some : goal.returns-in_ok-insert-in-Some
returns-in_ok-insert-in-Some c =
    learned c.in-Some.name.now c.args.labels.now c.insert.new.self c.in_ok-insert-in-Some.ensures.updates (outcome_of c.args.outcome.now) c.in-Some.ensures
